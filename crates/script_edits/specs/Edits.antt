-- The edits of a script, row by row.
use Rattle.std.specs.Prelude.{List, [], ◌∷◌, Option, Some, None, if◌then◌else◌, codes}
use Rattle.std.specs.Option.{option_map}
use Rattle.mos_fields.specs.Characters.{Text}
use Rattle.mos_fields.specs.Values.{word_of}
use Rattle.mos_fields.specs.declared.air.Air.TheVariants.{Ready as IsReady, NotReady as IsNotReady}
use Rattle.mos_values.specs.declared.action.Action.{Action}
use Rattle.mos_values.specs.declared.action.Action.TheVariants as actions
use Rattle.mos_edits.specs.declared.edit.Edit as values
use Rattle.mos_edits.specs.declared.edit.Edit.TheVariants as edits
use Rattle.mos_values.specs.declared.item.Item.{Item}
use Rattle.mos_values.specs.StoryValue.{Story}
use Rattle.script_edits.specs.declared.edit_verb.EditVerb.{EditVerb}
use Rattle.script_edits.specs.declared.edit_verb.EditVerb.TheVariants.{Create, Replace, Delete, Meta, Ready, NotReady, Script, Insert, Sub, Move, Drop, Swap, InsertItems, SubItem, MoveItems, DropItems, SwapItems}
use Rattle.script_edits.specs.Words.{Word, are_names, name_of, target_of, both, at_least_one}
use Rattle.script_edits.specs.Stories.{order_named, script_named, slug_patch, items_of, stories_of, if_distinct}

-- ---- the words behind the roID

-- one ID or more
abbrev pub some_ids : List Word → Option (List Text)
some_ids ws = at_least_one ws (if are_names ws then Some ws else None)

-- one item or more
abbrev pub some_items : List Word → Option (List Item)
some_items ws = at_least_one ws (items_of ws)

-- one story or more
abbrev pub some_stories : List Word → Option (List Story)
some_stories ws = at_least_one ws (stories_of ws)

-- two names
abbrev pub two_names : List Word → Option (Text × Text)
two_names (x ∷ y ∷ []) = both (λ a b. (a, b)) (name_of x) (name_of y)
two_names ws = None

-- a target, and what stands behind it
abbrev pub target_and : {A : Type 0} → (List Word → Option A) → List Word → Option (Text × A)
target_and more [] = None
target_and more (t ∷ ws) = both (λ a b. (a, b)) (target_of t) (more ws)

-- a story's name, and what stands behind it
abbrev pub name_and : {A : Type 0} → (List Word → Option A) → List Word → Option (Text × A)
name_and more [] = None
name_and more (a ∷ ws) = both (λ a b. (a, b)) (name_of a) (more ws)

-- ---- the rows

-- an action on the order `r`
abbrev pub acts : Text → Option Action → Option values.Edit
acts r a = option_map (edits.Act r) a

-- What each first word makes of the roID and the words behind it. S is a story word, T a target, I an item's name, A a
-- story's name; the others are names.
abbrev pub edit_form : EditVerb → Text → List Word → Option values.Edit
-- create r S*
edit_form Create r ws = option_map (λ ss. edits.Create (order_named r ss)) (if_distinct (stories_of ws))
-- replace r S*
edit_form Replace r ws = option_map (λ ss. edits.Replace (order_named r ss)) (if_distinct (stories_of ws))
-- delete r
edit_form Delete r [] = Some (edits.Delete r)
-- meta r SLUG
edit_form Meta r (s ∷ []) = option_map (λ slug. edits.Metadata (slug_patch r slug)) (name_of s)
-- ready r
edit_form Ready r [] = Some (edits.Air r IsReady)
-- notready r
edit_form NotReady r [] = Some (edits.Air r IsNotReady)
-- script r A NAME
edit_form Script r ws = option_map (λ p. edits.Script (script_named r p.0 p.1)) (two_names ws)
-- insert r T S+
edit_form Insert r ws = acts r (option_map (λ p. actions.InsertStories p.0 p.1) (target_and some_stories ws))
-- sub r T S+
edit_form Sub r ws = acts r (option_map (λ p. actions.ReplaceStory p.0 p.1) (target_and some_stories ws))
-- move r T ID+
edit_form Move r ws = acts r (option_map (λ p. actions.MoveStories p.0 p.1) (target_and some_ids ws))
-- drop r ID+
edit_form Drop r ws = acts r (option_map actions.DeleteStories (some_ids ws))
-- swap r X Y
edit_form Swap r ws = acts r (option_map (λ p. actions.SwapStories p.0 p.1) (two_names ws))
-- iinsert r A T I+
edit_form InsertItems r ws = acts r (option_map (λ p. actions.InsertItems p.0 p.1.0 p.1.1) (name_and (target_and some_items) ws))
-- isub r A T I+
edit_form SubItem r ws = acts r (option_map (λ p. actions.ReplaceItem p.0 p.1.0 p.1.1) (name_and (target_and some_items) ws))
-- imove r A T I+
edit_form MoveItems r ws = acts r (option_map (λ p. actions.MoveItems p.0 p.1.0 p.1.1) (name_and (target_and some_ids) ws))
-- idrop r A I+
edit_form DropItems r ws = acts r (option_map (λ p. actions.DeleteItems p.0 p.1) (name_and some_ids ws))
-- iswap r A X Y
edit_form SwapItems r ws = acts r (option_map (λ p. actions.SwapItems p.0 p.1.0 p.1.1) (name_and two_names ws))
edit_form verb r ws = None

-- the first word of each row
abbrev pub edit_word : EditVerb → Word
edit_word Create = codes "create"
edit_word Replace = codes "replace"
edit_word Delete = codes "delete"
edit_word Meta = codes "meta"
edit_word Ready = codes "ready"
edit_word NotReady = codes "notready"
edit_word Script = codes "script"
edit_word Insert = codes "insert"
edit_word Sub = codes "sub"
edit_word Move = codes "move"
edit_word Drop = codes "drop"
edit_word Swap = codes "swap"
edit_word InsertItems = codes "iinsert"
edit_word SubItem = codes "isub"
edit_word MoveItems = codes "imove"
edit_word DropItems = codes "idrop"
edit_word SwapItems = codes "iswap"

abbrev pub edit_verbs : List EditVerb
edit_verbs = Create ∷ Replace ∷ Delete ∷ Meta ∷ Ready ∷ NotReady ∷ Script ∷ Insert ∷ Sub ∷ Move ∷ Drop ∷ Swap ∷ InsertItems ∷ SubItem ∷ MoveItems ∷ DropItems ∷ SwapItems ∷ []

-- the row that begins with a word
unfoldable pub edit_verb_of : Word → Option EditVerb
edit_verb_of w = word_of edit_word edit_verbs w

abbrev pub edit_with : Option EditVerb → Option Text → List Word → Option values.Edit
edit_with (Some verb) (Some r) ws = edit_form verb r ws
edit_with verb r ws = None

-- The edit of the words behind `cmd`.
unfoldable pub edit_of : List Word → Option values.Edit
edit_of (w ∷ r ∷ ws) = edit_with (edit_verb_of w) (name_of r) ws
edit_of ws = None
