-- Lines that commands are written as are read as those commands.
use Rattle.std.proofs.Common.{◌≡◌, ℕ, ◌≤◌, ◌&&◌, not, Bool, List, [], ◌∷◌, ◌++◌, map, length, true, false, Option, Some, None, nat_le, ◌==◌, codes, ap, refl, arith, sym, ◌∙◌, if◌then◌else◌}
use Rattle.std.specs.List.{AllByRecursion, list_all, slice_split, onto_first, join_with_byte}
use Rattle.std.specs.Option.{option_map}
use Rattle.std.proofs.lemmas.Bool.Decides.{nat_tests}
use Rattle.std.proofs.lemmas.List.Folds.{list_all-append}
use Rattle.std.proofs.lemmas.List.Splits.{slice_split-cons_no, slice_split-cons_yes}
use Rattle.mos_edits.specs.Entries.{entry_of}
use Rattle.mos_fields.specs.Characters.{Text}
use Rattle.mos_fields.specs.declared.air.Air.TheVariants.{Ready, NotReady}
use Rattle.mos_values.specs.declared.action.Action.{Action}
use Rattle.mos_values.specs.declared.action.Action.TheVariants as actions
use Rattle.mos_edits.specs.declared.edit.Edit.{Edit}
use Rattle.mos_edits.specs.declared.edit.Edit.TheVariants as edits
use Rattle.mos_values.specs.declared.header.Header.{Header}
use Rattle.mos_values.specs.declared.header.HeaderPatch.{HeaderPatch}
use Rattle.mos_values.specs.declared.item.Item.{Item}
use Rattle.mos_values.specs.Distinct.{item_ids, story_ids}
use Rattle.mos_values.specs.OrderValue.{OrderBody}
use Rattle.mos_values.specs.StoryValue.{Story}
use Rattle.mos_values.specs.declared.story_send.StorySend.{StorySend}
use Rattle.world_laws.specs.World.{WorldEvent}
use Rattle.script_edits.specs.declared.edit_verb.EditVerb.{EditVerb}
use Rattle.script_edits.specs.declared.edit_verb.EditVerb.TheVariants as verbs
use Rattle.script_edits.specs.Words.{Word, both, is_name, is_name_char, are_names, are_distinct, name_of, target_of, words_of}
use Rattle.script_edits.specs.Stories.{item_named, script_named, slug_patch, story_named, order_named, story_with, story_parts, story_of, stories_of, if_distinct}
use Rattle.script_edits.specs.Edits.{some_ids, some_items, some_stories, two_names, target_and, name_and, acts, edit_form, edit_of, edit_verb_of}
use Rattle.world_scripts.specs.Events.{event_of, event_in, verb_of, line_limit}
use Rattle.world_scripts.specs.PrintedCommands.{target_word, body_text, slug_words, named_items, story_word, action_words, edit_words, command_line, IsName, IsTarget, AreSayableItems, IsSayableStory, AreSayableStories, IsSayableOrder, IsSayableAction, IsSayableEdit}

-- ---- parts

-- the byte stands nowhere in the word
abbrev free : ℕ → Word → Bool
free c w = list_all (λ b. not (b == c)) w

abbrev split : ℕ → List ℕ → List Word
split c w = slice_split (λ b. b == c) w

split_front : (c : ℕ) (w rest : Word) → free c w ≡ true → split c (w ++ c ∷ rest) ≡ w ∷ split c rest
split_front c [] rest h = slice_split-cons_yes (λ b. b == c) c rest (grind (arith, nat_tests))
split_front c (b ∷ w) rest h =
    let n : (b == c) ≡ false = grind (arith, h) in
    slice_split-cons_no (λ x. x == c) b (w ++ c ∷ rest) n ∙ ap (onto_first b) (split_front c w rest (grind (arith, h)))

split_last : (c : ℕ) (w : Word) → free c w ≡ true → split c w ≡ w ∷ []
split_last c [] h = refl
split_last c (b ∷ w) h =
    let n : (b == c) ≡ false = grind (arith, h) in
    slice_split-cons_no (λ x. x == c) b w n ∙ ap (onto_first b) (split_last c w (grind (arith, h)))

abbrev AreFree : ℕ → List Word → Type 0
AreFree c ws = AllByRecursion (λ w. free c w ≡ true) ws

split_join : (c : ℕ) (w : Word) (ws : List Word) → AreFree c (w ∷ ws) → split c (join_with_byte c (w ∷ ws)) ≡ w ∷ ws
split_join c w [] h = split_last c w h.0
split_join c w (v ∷ ws) h = split_front c w (join_with_byte c (v ∷ ws)) h.0 ∙ ap (λ (vs : List Word). w ∷ vs) (split_join c v ws h.1)

-- a byte that no name has
chars_free : (c : ℕ) → is_name_char c ≡ false → (w : Word) → list_all is_name_char w ≡ true → free c w ≡ true
chars_free c n [] h = refl
chars_free c n (b ∷ w) h = let i = chars_free c n w (grind (arith, h)) in grind (arith, nat_tests, n, h, i)

name_chars : (w : Word) → IsName w → list_all is_name_char w ≡ true
unfolding is_name
name_chars w h = grind (arith, h)

name_free : (c : ℕ) → is_name_char c ≡ false → (w : Word) → IsName w → free c w ≡ true
name_free c n w h = chars_free c n w (name_chars w h)

names_free : (c : ℕ) → is_name_char c ≡ false → (ws : List Word) → are_names ws ≡ true → AreFree c ws
names_free c n [] h = tt
names_free c n (w ∷ ws) h = (name_free c n w (grind (arith, h)), names_free c n ws (grind (arith, h)))

join_free : (c : ℕ) → (44 == c) ≡ false → (w : Word) (ws : List Word) → AreFree c (w ∷ ws) → free c (join_with_byte 44 (w ∷ ws)) ≡ true
join_free c n w [] h = h.0
join_free c n w (v ∷ ws) h =
    let a = list_all-append (λ b. not (b == c)) w (44 ∷ join_with_byte 44 (v ∷ ws)) in
    let i = join_free c n v ws h.1 in
    let f = h.0 in grind (arith, a, i, f, n)

-- ---- stories

three : {A : Type 0} (a b c : Bool) (x : A) → a ≡ true → b ≡ true → c ≡ true → (if a && b && c then Some x else None) ≡ Some x
three a b c x p q r = rw p (rw q (rw r refl))

one : {A : Type 0} (a : Bool) (x : A) → a ≡ true → (if a then Some x else None) ≡ Some x
one a x p = rw p refl

both_true : (a b : Bool) → a ≡ true → b ≡ true → (a && b) ≡ true
both_true a b p q = rw p q

both_back : {A B C : Type 0} (f : A → B → C) (o : Option A) (p : Option B) (a : A) (b : B) → o ≡ Some a → p ≡ Some b → both f o p ≡ Some (f a b)
both_back f o p a b h i = rw h (rw i refl)

story_yes : (id : Word) (ws : List Word) → IsName id → are_names ws ≡ true → are_distinct ws ≡ true → story_with id ws ≡ Some (story_named id (map item_named ws))
story_yes id ws n a d = three (is_name id) (are_names ws) (are_distinct ws) _ n a d

items_back : (id : Text) (xs : List Text) → IsName id → are_names xs ≡ true → are_distinct xs ≡ true → story_of (named_items id xs) ≡ Some (story_named id (map item_named xs))
unfolding story_of
items_back id [] n a d = ap story_parts (split_last 58 id (name_free 58 refl id n)) ∙ story_yes id [] n a d
items_back id (x ∷ xs) n a d =
    let j = join_with_byte 44 (x ∷ xs) in
    ap story_parts (split_front 58 id j (name_free 58 refl id n) ∙ ap (λ (ws : List Word). id ∷ ws) (split_last 58 j (join_free 58 refl x xs (names_free 58 refl (x ∷ xs) a))))
    ∙ (ap (story_with id) (split_join 44 x xs (names_free 44 refl (x ∷ xs) a)) ∙ story_yes id (x ∷ xs) n a d)

ids_names : (is : List Item) → AreSayableItems is → are_names (item_ids is) ≡ true
ids_names [] h = refl
ids_names (i ∷ is) h = both_true (is_name i.id) (are_names (item_ids is)) h.0.name (ids_names is h.1)

named_back : (is : List Item) → AreSayableItems is → map item_named (item_ids is) ≡ is
named_back [] h = refl
named_back (i ∷ is) h = ap (λ (x : Item). x ∷ map item_named (item_ids is)) (sym h.0.value) ∙ ap (λ (xs : List Item). i ∷ xs) (named_back is h.1)

story_back : (s : Story) → IsSayableStory s → story_of (story_word s) ≡ Some s
story_back s h = items_back s.id (item_ids s.items) h.name (ids_names s.items h.items) h.distinct ∙ ap Some (ap (story_named s.id) (named_back s.items h.items) ∙ sym h.value)

stories_back : (ss : List Story) → AreSayableStories ss → stories_of (map story_word ss) ≡ Some ss
stories_back [] h = refl
stories_back (s ∷ ss) h = both_back (λ x xs. x ∷ xs) (story_of (story_word s)) (stories_of (map story_word ss)) s ss (story_back s h.0) (stories_back ss h.1)

-- ---- words behind the roID

name_back : (x : Text) → IsName x → name_of x ≡ Some x
name_back x h = one (is_name x) x h

no_dash : (c : ℕ) (cs : Text) → IsName (c ∷ cs) → (c == 45) ≡ false
unfolding is_name
no_dash c cs h = grind (arith, nat_tests, h)

target_back : (t : Text) → IsTarget t → target_of (target_word t) ≡ Some t
target_back [] h = refl
target_back (c ∷ cs) h = rw (no_dash c cs h) (name_back (c ∷ cs) h)

some_stories_back : (ss : List Story) → 1 ≤ length ss → AreSayableStories ss → some_stories (map story_word ss) ≡ Some ss
some_stories_back [] n h = absurd (omega arith)
some_stories_back (s ∷ ss) n h = stories_back (s ∷ ss) h

some_items_back : (is : List Item) → 1 ≤ length is → AreSayableItems is → some_items (item_ids is) ≡ Some is
some_items_back [] n h = absurd (omega arith)
some_items_back (i ∷ is) n h = one (are_names (item_ids (i ∷ is))) (map item_named (item_ids (i ∷ is))) (ids_names (i ∷ is) h) ∙ ap Some (named_back (i ∷ is) h)

some_ids_back : (ids : List Text) → 1 ≤ length ids → are_names ids ≡ true → some_ids ids ≡ Some ids
some_ids_back [] n h = absurd (omega arith)
some_ids_back (x ∷ xs) n h = one (are_names (x ∷ xs)) (x ∷ xs) h

two_back : (x y : Text) → IsName x → IsName y → two_names (x ∷ y ∷ []) ≡ Some (x, y)
two_back x y h i = both_back (λ a b. (a, b)) (name_of x) (name_of y) x y (name_back x h) (name_back y i)

targeted_back : {A : Type 0} (more : List Word → Option A) (t : Text) (ws : List Word) (a : A) → IsTarget t → more ws ≡ Some a → target_and more (target_word t ∷ ws) ≡ Some (t, a)
targeted_back more t ws a h i = both_back (λ x y. (x, y)) (target_of (target_word t)) (more ws) t a (target_back t h) i

named_and_back : {A : Type 0} (more : List Word → Option A) (x : Text) (ws : List Word) (a : A) → IsName x → more ws ≡ Some a → name_and more (x ∷ ws) ≡ Some (x, a)
named_and_back more x ws a h i = both_back (λ y z. (y, z)) (name_of x) (more ws) x a (name_back x h) i

-- ---- edits

form_back : (v : EditVerb) (w : Word) → edit_verb_of w ≡ Some v → (r : Text) → IsName r → (ws : List Word) → edit_of (w ∷ r ∷ ws) ≡ edit_form v r ws
unfolding edit_of
form_back v w h r n ws = rw h (rw (name_back r n) refl)

order_back : (b : OrderBody) → IsSayableOrder b → if_distinct (stories_of (map story_word b.stories)) ≡ Some b.stories
order_back b h = ap if_distinct (stories_back b.stories h.stories) ∙ one (are_distinct (story_ids b.stories)) b.stories h.distinct

action_back : (r : Text) (a : Action) → IsName r → IsSayableAction a → edit_of (action_words r a) ≡ Some (edits.Act r a)
unfolding edit_verb_of
action_back r (actions.InsertStories t ss) n h = form_back verbs.Insert (codes "insert") refl r n (target_word t ∷ map story_word ss) ∙ ap (λ o. acts r (option_map (λ p. actions.InsertStories p.0 p.1) o)) (targeted_back some_stories t (map story_word ss) ss h.0 (some_stories_back ss h.1 h.2))
action_back r (actions.ReplaceStory t ss) n h = form_back verbs.Sub (codes "sub") refl r n (target_word t ∷ map story_word ss) ∙ ap (λ o. acts r (option_map (λ p. actions.ReplaceStory p.0 p.1) o)) (targeted_back some_stories t (map story_word ss) ss h.0 (some_stories_back ss h.1 h.2))
action_back r (actions.MoveStories t ids) n h = form_back verbs.Move (codes "move") refl r n (target_word t ∷ ids) ∙ ap (λ o. acts r (option_map (λ p. actions.MoveStories p.0 p.1) o)) (targeted_back some_ids t ids ids h.0 (some_ids_back ids h.1 h.2))
action_back r (actions.DeleteStories ids) n h = form_back verbs.Drop (codes "drop") refl r n ids ∙ ap (λ o. acts r (option_map actions.DeleteStories o)) (some_ids_back ids h.0 h.1)
action_back r (actions.SwapStories x y) n h = form_back verbs.Swap (codes "swap") refl r n (x ∷ y ∷ []) ∙ ap (λ o. acts r (option_map (λ p. actions.SwapStories p.0 p.1) o)) (two_back x y h.0 h.1)
action_back r (actions.InsertItems a t is) n h = form_back verbs.InsertItems (codes "iinsert") refl r n (a ∷ target_word t ∷ item_ids is) ∙ ap (λ o. acts r (option_map (λ p. actions.InsertItems p.0 p.1.0 p.1.1) o)) (named_and_back (target_and some_items) a (target_word t ∷ item_ids is) (t, is) h.0 (targeted_back some_items t (item_ids is) is h.1 (some_items_back is h.2 h.3)))
action_back r (actions.ReplaceItem a t is) n h = form_back verbs.SubItem (codes "isub") refl r n (a ∷ target_word t ∷ item_ids is) ∙ ap (λ o. acts r (option_map (λ p. actions.ReplaceItem p.0 p.1.0 p.1.1) o)) (named_and_back (target_and some_items) a (target_word t ∷ item_ids is) (t, is) h.0 (targeted_back some_items t (item_ids is) is h.1 (some_items_back is h.2 h.3)))
action_back r (actions.MoveItems a t ids) n h = form_back verbs.MoveItems (codes "imove") refl r n (a ∷ target_word t ∷ ids) ∙ ap (λ o. acts r (option_map (λ p. actions.MoveItems p.0 p.1.0 p.1.1) o)) (named_and_back (target_and some_ids) a (target_word t ∷ ids) (t, ids) h.0 (targeted_back some_ids t ids ids h.1 (some_ids_back ids h.2 h.3)))
action_back r (actions.DeleteItems a ids) n h = form_back verbs.DropItems (codes "idrop") refl r n (a ∷ ids) ∙ ap (λ o. acts r (option_map (λ p. actions.DeleteItems p.0 p.1) o)) (named_and_back some_ids a ids ids h.0 (some_ids_back ids h.1 h.2))
action_back r (actions.SwapItems a x y) n h = form_back verbs.SwapItems (codes "iswap") refl r n (a ∷ x ∷ y ∷ []) ∙ ap (λ o. acts r (option_map (λ p. actions.SwapItems p.0 p.1.0 p.1.1) o)) (named_and_back two_names a (x ∷ y ∷ []) (x, y) h.0 (two_back x y h.1 h.2))

edit_back : (e : Edit) → IsSayableEdit e → edit_of (edit_words e) ≡ Some e
unfolding edit_verb_of
edit_back (edits.Create b) h =
    form_back verbs.Create (codes "create") refl b.header.ro h.name (map story_word b.stories)
    ∙ (ap (option_map (λ ss. edits.Create (order_named b.header.ro ss))) (order_back b h) ∙ ap (λ (x : Header). Some (edits.Create (record { header = x; stories = b.stories }))) (sym h.header))
edit_back (edits.Replace b) h =
    form_back verbs.Replace (codes "replace") refl b.header.ro h.name (map story_word b.stories)
    ∙ (ap (option_map (λ ss. edits.Replace (order_named b.header.ro ss))) (order_back b h) ∙ ap (λ (x : Header). Some (edits.Replace (record { header = x; stories = b.stories }))) (sym h.header))
edit_back (edits.Delete r) h = form_back verbs.Delete (codes "delete") refl r h []
edit_back (edits.Metadata p) h =
    let slug = h.1.0 in
    let q : p ≡ slug_patch p.ro slug = h.1.2 in
    form_back verbs.Meta (codes "meta") refl p.ro h.0 (slug_words p.slug)
    ∙ (ap (λ (o : Option Text). edit_form verbs.Meta p.ro (slug_words o)) (ap (λ (x : HeaderPatch). x.slug) q)
    ∙ (ap (option_map (λ s. edits.Metadata (slug_patch p.ro s))) (name_back slug h.1.1) ∙ ap (λ (x : HeaderPatch). Some (edits.Metadata x)) (sym q)))
edit_back (edits.Act r a) h = action_back r a h.0 h.1
edit_back (edits.Air r Ready) h = form_back verbs.Ready (codes "ready") refl r h []
edit_back (edits.Air r NotReady) h = form_back verbs.NotReady (codes "notready") refl r h []
edit_back (edits.Script s) h =
    let x = body_text s.body in
    form_back verbs.Script (codes "script") refl s.ro h.0 (s.story ∷ x ∷ [])
    ∙ (ap (option_map (λ p. edits.Script (script_named s.ro p.0 p.1))) (two_back s.story x h.1 h.2) ∙ ap (λ (t : StorySend). Some (edits.Script t)) (sym h.3))

-- ---- lines

story_free : (s : Story) → IsSayableStory s → free 32 (story_word s) ≡ true
story_free s h = go (item_ids s.items) (ids_names s.items h.items)
  where
    go : (xs : List Text) → are_names xs ≡ true → free 32 (named_items s.id xs) ≡ true
    go [] a = name_free 32 refl s.id h.name
    go (x ∷ xs) a =
        let f = name_free 32 refl s.id h.name in
        let j = join_free 32 refl x xs (names_free 32 refl (x ∷ xs) a) in
        let e = list_all-append (λ b. not (b == 32)) s.id (58 ∷ join_with_byte 44 (x ∷ xs)) in grind (arith, e, f, j)

stories_free : (ss : List Story) → AreSayableStories ss → AreFree 32 (map story_word ss)
stories_free [] h = tt
stories_free (s ∷ ss) h = (story_free s h.0, stories_free ss h.1)

target_free : (t : Text) → IsTarget t → free 32 (target_word t) ≡ true
target_free [] h = refl
target_free (c ∷ cs) h = name_free 32 refl (c ∷ cs) h

items_free : (is : List Item) → AreSayableItems is → AreFree 32 (item_ids is)
items_free is h = names_free 32 refl (item_ids is) (ids_names is h)

abbrev plain : (w : Text) → IsName w → free 32 w ≡ true
plain w h = name_free 32 refl w h

action_free : (r : Text) (a : Action) → IsName r → IsSayableAction a → AreFree 32 (action_words r a)
action_free r (actions.InsertStories t ss) n h = (refl, (plain r n, (target_free t h.0, stories_free ss h.2)))
action_free r (actions.ReplaceStory t ss) n h = (refl, (plain r n, (target_free t h.0, stories_free ss h.2)))
action_free r (actions.MoveStories t ids) n h = (refl, (plain r n, (target_free t h.0, names_free 32 refl ids h.2)))
action_free r (actions.DeleteStories ids) n h = (refl, (plain r n, names_free 32 refl ids h.1))
action_free r (actions.SwapStories x y) n h = (refl, (plain r n, (plain x h.0, (plain y h.1, tt))))
action_free r (actions.InsertItems a t is) n h = (refl, (plain r n, (plain a h.0, (target_free t h.1, items_free is h.3))))
action_free r (actions.ReplaceItem a t is) n h = (refl, (plain r n, (plain a h.0, (target_free t h.1, items_free is h.3))))
action_free r (actions.MoveItems a t ids) n h = (refl, (plain r n, (plain a h.0, (target_free t h.1, names_free 32 refl ids h.3))))
action_free r (actions.DeleteItems a ids) n h = (refl, (plain r n, (plain a h.0, names_free 32 refl ids h.2)))
action_free r (actions.SwapItems a x y) n h = (refl, (plain r n, (plain a h.0, (plain x h.1, (plain y h.2, tt)))))

slug_free : (o : Option Text) (slug : Text) → o ≡ Some slug → IsName slug → AreFree 32 (slug_words o)
slug_free o slug e h = rw e (plain slug h, tt)

edit_free : (e : Edit) → IsSayableEdit e → AreFree 32 (edit_words e)
edit_free (edits.Create b) h = (refl, (plain b.header.ro h.name, stories_free b.stories h.stories))
edit_free (edits.Replace b) h = (refl, (plain b.header.ro h.name, stories_free b.stories h.stories))
edit_free (edits.Delete r) h = (refl, (plain r h, tt))
edit_free (edits.Metadata p) h = (refl, (plain p.ro h.0, slug_free p.slug h.1.0 (ap (λ (x : HeaderPatch). x.slug) h.1.2) h.1.1))
edit_free (edits.Act r a) h = action_free r a h.0 h.1
edit_free (edits.Air r Ready) h = (refl, (plain r h, tt))
edit_free (edits.Air r NotReady) h = (refl, (plain r h, tt))
edit_free (edits.Script s) h = (refl, (plain s.ro h.0, (plain s.story h.1, (plain (body_text s.body) h.2, tt))))

read_line : (line : List ℕ) → length line ≤ 1000 → event_in line ≡ event_of (words_of line)
unfolding event_in
read_line line h = let short : nat_le (length line) line_limit ≡ true = grind (arith, nat_tests, h) in rw short refl

commanded : (e : Edit) → IsSayableEdit e → event_of (codes "cmd" ∷ edit_words e) ≡ Some (WorldEvent.Command (entry_of e))
unfolding verb_of
commanded e h = ap (option_map (λ x. WorldEvent.Command (entry_of x))) (edit_back e h)

pub command_back : (e : Edit) → IsSayableEdit e → length (command_line e) ≤ 1000 → event_in (command_line e) ≡ Some (WorldEvent.Command (entry_of e))
command_back e h short = read_line (command_line e) short ∙ (ap event_of (split_join 32 (codes "cmd") (edit_words e) (refl, edit_free e h)) ∙ commanded e h)
