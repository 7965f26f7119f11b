-- The texts of running orders and of what acts on them.
use Rattle.std.proofs.Common.{◌≡◌, List, [], ◌∷◌, ◌++◌, refl, sym, subst}
use Rattle.mos_fields.specs.Characters.{Text}
use Rattle.mos_fields.specs.Fields.{name_of}
use Rattle.mos_fields.specs.Values.{samples_text}
use Rattle.mos_fields.specs.declared.field.Field.{Field}
use Rattle.mos_fields.specs.declared.field.Field.TheVariants as fields
use Rattle.mos_fields.specs.declared.form.Form.TheVariants as forms
use Rattle.mos_fields.specs.declared.operation.Operation.{Operation}
use Rattle.mos_fields.specs.declared.operation.Operation.TheVariants.{Insert, Replace, Move, Delete, Swap}
use Rattle.mos_tables.specs.declared.aim.Aim.TheVariants.{AtStory}
use Rattle.mos_tables.specs.declared.column.Often.{Often}
use Rattle.mos_tables.specs.declared.column.Often.TheVariants.{One, Optional, Many, Count}
use Rattle.mos_tables.specs.declared.table.Table.{Table}
use Rattle.mos_tables.specs.declared.table.Table.TheVariants as tables
use Rattle.mos_tables.specs.Events.{Event, leaf}
use Rattle.mos_values.specs.declared.action.Action.{Action}
use Rattle.mos_values.specs.declared.action.Action.TheVariants.{InsertStories, ReplaceStory, InsertItems, ReplaceItem, MoveStories, MoveItems, DeleteStories, DeleteItems, SwapStories, SwapItems}
use Rattle.mos_values.specs.declared.header.Header.{Header}
use Rattle.mos_values.specs.declared.header.HeaderPatch.{HeaderPatch}
use Rattle.mos_values.specs.declared.item.Item.{Item}
use Rattle.mos_values.specs.MessageViews.{operation_of_action, target_story, target_item, ids_events, source, action_events}
use Rattle.mos_values.specs.OrderValue.{OrderBody}
use Rattle.mos_values.specs.Parts.{must, maybe, maybe_as, maybe_raw, raws, element}
use Rattle.mos_values.specs.StoryValue.{Story}
use Rattle.mos_values.specs.Views.{header_events, patch_events, item_events, items_events, story_head_events, story_events, stories_events, body_events, headers_events}
use Rattle.encoding_laws.specs.Fitting.{table_inside}
use Rattle.value_facts.specs.FitValues.{IsText, AreTexts, IsFitHeader, IsFitPatch, AreFitPatches, IsFitItem, AreFitItems, IsFitStory, AreFitStories, IsFitBody, IsFitAction}
use Rattle.value_facts.proofs.Fine.{Fine, none_fine, both_fine, joined_fine, element_fine, listed_fine, HasColumn, leaf_fine, must_fine, maybe_fine, written_fine, maybe_raw_fine, raws_fine}

-- ---- headers

abbrev header_parts : Header → List (List Event)
header_parts h =
    must fields.RoID h.ro
    ∷ must fields.RoSlug h.slug
    ∷ maybe fields.RoChannel h.channel
    ∷ maybe fields.RoEdStart h.ed_start
    ∷ maybe fields.RoEdDur h.ed_dur
    ∷ maybe fields.RoTrigger h.trigger
    ∷ maybe fields.MacroIn h.macro_in
    ∷ maybe fields.MacroOut h.macro_out
    ∷ raws fields.Metadata h.metadata
    ∷ raws fields.Kept h.others
    ∷ []

header_fine : (h : Header) → IsFitHeader h → Fine tables.Body (header_events h)
unfolding header_events
header_fine h f = joined_fine tables.Body (header_parts h) (
  must_fine tables.Body fields.RoID forms.Id One h.ro refl f.0,
  (
    must_fine tables.Body fields.RoSlug forms.Slug One h.slug refl f.1,
    (
      maybe_fine tables.Body fields.RoChannel forms.Text Optional h.channel refl f.2,
      (
        maybe_fine tables.Body fields.RoEdStart forms.Text Optional h.ed_start refl f.3,
        (
          maybe_fine tables.Body fields.RoEdDur forms.Text Optional h.ed_dur refl f.4,
          (
            maybe_fine tables.Body fields.RoTrigger forms.Text Optional h.trigger refl f.5,
            (
              maybe_fine tables.Body fields.MacroIn forms.Text Optional h.macro_in refl f.6,
              (
                maybe_fine tables.Body fields.MacroOut forms.Text Optional h.macro_out refl f.7,
                (
                  raws_fine tables.Body fields.Metadata h.metadata f.8,
                  (raws_fine tables.Body fields.Kept h.others f.9, tt),
                ),
              ),
            ),
          ),
        ),
      ),
    ),
  ),
)

abbrev patch_parts : HeaderPatch → List (List Event)
patch_parts h =
    must fields.RoID h.ro
    ∷ maybe fields.RoSlug h.slug
    ∷ maybe fields.RoChannel h.channel
    ∷ maybe fields.RoEdStart h.ed_start
    ∷ maybe fields.RoEdDur h.ed_dur
    ∷ maybe fields.RoTrigger h.trigger
    ∷ maybe fields.MacroIn h.macro_in
    ∷ maybe fields.MacroOut h.macro_out
    ∷ raws fields.Metadata h.metadata
    ∷ raws fields.Kept h.others
    ∷ []

pub patch_fine : (h : HeaderPatch) → IsFitPatch h → Fine tables.HeaderPatch (patch_events h)
unfolding patch_events
patch_fine h f = joined_fine tables.HeaderPatch (patch_parts h) (
  must_fine tables.HeaderPatch fields.RoID forms.Id One h.ro refl f.0,
  (
    maybe_fine tables.HeaderPatch fields.RoSlug forms.Slug Optional h.slug refl f.1,
    (
      maybe_fine tables.HeaderPatch fields.RoChannel forms.Text Optional h.channel refl f.2,
      (
        maybe_fine tables.HeaderPatch fields.RoEdStart forms.Text Optional h.ed_start refl f.3,
        (
          maybe_fine tables.HeaderPatch fields.RoEdDur forms.Text Optional h.ed_dur refl f.4,
          (
            maybe_fine tables.HeaderPatch fields.RoTrigger forms.Text Optional h.trigger refl f.5,
            (
              maybe_fine tables.HeaderPatch fields.MacroIn forms.Text Optional h.macro_in refl f.6,
              (
                maybe_fine tables.HeaderPatch fields.MacroOut forms.Text Optional h.macro_out refl f.7,
                (
                  raws_fine tables.HeaderPatch fields.Metadata h.metadata f.8,
                  (raws_fine tables.HeaderPatch fields.Kept h.others f.9, tt),
                ),
              ),
            ),
          ),
        ),
      ),
    ),
  ),
)

pub headers_fine : (hs : List HeaderPatch) → AreFitPatches hs → Fine tables.RoListAll (headers_events hs)
unfolding headers_events
headers_fine hs f = listed_fine tables.RoListAll IsFitPatch (λ (h : HeaderPatch). element (name_of fields.RoTag) (patch_events h)) hs (λ h k. element_fine tables.RoListAll (name_of fields.RoTag) [] (patch_events h) (patch_fine h k)) f

-- ---- stories and items

abbrev item_parts : Item → List (List Event)
item_parts i =
    must fields.ItemID i.id
    ∷ maybe fields.ItemSlug i.slug
    ∷ must fields.ObjID i.obj
    ∷ must fields.MosID i.mos
    ∷ maybe_raw fields.MosAbstract i.mos_abstract
    ∷ maybe_raw fields.ObjPaths i.obj_paths
    ∷ maybe fields.ItemChannel i.channel
    ∷ maybe_as samples_text fields.ItemEdStart i.ed_start
    ∷ maybe_as samples_text fields.ItemEdDur i.ed_dur
    ∷ maybe_as samples_text fields.ItemUserTimingDur i.user_timing_dur
    ∷ maybe fields.ItemTrigger i.trigger
    ∷ maybe fields.MacroIn i.macro_in
    ∷ maybe fields.MacroOut i.macro_out
    ∷ raws fields.Metadata i.metadata
    ∷ raws fields.Kept i.others
    ∷ []

item_fine : (i : Item) → IsFitItem i → Fine tables.Item (item_events i)
unfolding item_events
item_fine i f = joined_fine tables.Item (item_parts i) (
  must_fine tables.Item fields.ItemID forms.Key One i.id refl f.0,
  (
    maybe_fine tables.Item fields.ItemSlug forms.Slug Optional i.slug refl f.1,
    (
      must_fine tables.Item fields.ObjID forms.OptId One i.obj refl f.2,
      (
        must_fine tables.Item fields.MosID forms.OptId One i.mos refl f.3,
        (
          maybe_raw_fine tables.Item fields.MosAbstract i.mos_abstract f.4,
          (
            maybe_raw_fine tables.Item fields.ObjPaths i.obj_paths f.5,
            (
              maybe_fine tables.Item fields.ItemChannel forms.Text Optional i.channel refl f.6,
              (
                written_fine samples_text tables.Item fields.ItemEdStart forms.Samples Optional i.ed_start refl f.7,
                (
                  written_fine samples_text tables.Item fields.ItemEdDur forms.Samples Optional i.ed_dur refl f.8,
                  (
                    written_fine samples_text tables.Item fields.ItemUserTimingDur forms.Samples Optional i.user_timing_dur refl f.9,
                    (
                      maybe_fine tables.Item fields.ItemTrigger forms.Text Optional i.trigger refl f.10,
                      (
                        maybe_fine tables.Item fields.MacroIn forms.Text Optional i.macro_in refl f.11,
                        (
                          maybe_fine tables.Item fields.MacroOut forms.Text Optional i.macro_out refl f.12,
                          (
                            raws_fine tables.Item fields.Metadata i.metadata f.13,
                            (raws_fine tables.Item fields.Kept i.others f.14, tt),
                          ),
                        ),
                      ),
                    ),
                  ),
                ),
              ),
            ),
          ),
        ),
      ),
    ),
  ),
)

-- a record whose elements `item` have the table of items, and one whose elements `story` have that of stories
abbrev HasItems : Table → Type 0
HasItems t = table_inside t (name_of fields.ItemTag) [] ≡ tables.Item

abbrev HasStories : Table → Type 0
HasStories t = table_inside t (name_of fields.StoryTag) [] ≡ tables.Story

items_fine : (t : Table) (items : List Item) → HasItems t → AreFitItems items → Fine t (items_events items)
unfolding items_events
items_fine t items i f = listed_fine t IsFitItem (λ (i : Item). element (name_of fields.ItemTag) (item_events i)) items
    (λ x k. element_fine t (name_of fields.ItemTag) [] (item_events x) (subst (λ (u : Table). Fine u (item_events x)) (sym i) (item_fine x k))) f

abbrev story_parts : Story → List (List Event)
story_parts s =
    must fields.StoryID s.id
    ∷ maybe fields.StorySlug s.slug
    ∷ maybe fields.StoryNum s.num
    ∷ raws fields.Metadata s.metadata
    ∷ raws fields.Kept s.others
    ∷ []

story_head_fine : (s : Story) → IsFitStory s → Fine tables.Story (story_head_events s)
unfolding story_head_events
story_head_fine s f = joined_fine tables.Story (story_parts s) (
  must_fine tables.Story fields.StoryID forms.Key One s.id refl f.0,
  (
    maybe_fine tables.Story fields.StorySlug forms.Slug Optional s.slug refl f.1,
    (
      maybe_fine tables.Story fields.StoryNum forms.Text Optional s.num refl f.2,
      (
        raws_fine tables.Story fields.Metadata s.metadata f.3,
        (raws_fine tables.Story fields.Kept s.others f.4, tt),
      ),
    ),
  ),
)

story_fine : (s : Story) → IsFitStory s → Fine tables.Story (story_events s)
unfolding story_events
story_fine s f = both_fine tables.Story (story_head_events s) (items_events s.items) (story_head_fine s f) (items_fine tables.Story s.items refl f.5)

stories_fine : (t : Table) (stories : List Story) → HasStories t → AreFitStories stories → Fine t (stories_events stories)
unfolding stories_events
stories_fine t stories i f = listed_fine t IsFitStory (λ (s : Story). element (name_of fields.StoryTag) (story_events s)) stories
    (λ x k. element_fine t (name_of fields.StoryTag) [] (story_events x) (subst (λ (u : Table). Fine u (story_events x)) (sym i) (story_fine x k))) f

pub body_fine : (b : OrderBody) → IsFitBody b → Fine tables.Body (body_events b)
unfolding body_events
body_fine b f = both_fine tables.Body (header_events b.header) (stories_events b.stories) (header_fine b.header f.0) (stories_fine tables.Body b.stories refl f.1)

-- ---- actions

abbrev one_source : Operation → Table
one_source o = tables.Source o AtStory

ids_fine : (t : Table) (f : Field) (o : Often) (ids : List Text) → HasColumn t f forms.OptId o → AreTexts forms.OptId ids → Fine t (ids_events f ids)
unfolding ids_events
ids_fine t f o [] i h = none_fine t
ids_fine t f o (x ∷ ids) i h = both_fine t (leaf (name_of f) [] x ∷ []) (ids_events f ids) (leaf_fine t f [] forms.OptId o x i h.0) (ids_fine t f o ids i h.1)

story_target_fine : (o : Operation) (story : Text) → IsText forms.OptId story → Fine (tables.Action o) (target_story story)
unfolding target_story
story_target_fine o story h = element_fine (tables.Action o) (name_of fields.ElementTarget) [] (must fields.StoryID story) (must_fine (tables.Target o) fields.StoryID forms.OptId One story refl h)

item_target_fine : (o : Operation) (story item : Text) → HasColumn (tables.Target o) fields.ItemID forms.OptId Optional → IsText forms.OptId story → IsText forms.OptId item → Fine (tables.Action o) (target_item story item)
unfolding target_item
item_target_fine o story item i h k = element_fine (tables.Action o) (name_of fields.ElementTarget) [] (must fields.StoryID story ++ must fields.ItemID item)
    (both_fine (tables.Target o) (must fields.StoryID story) (must fields.ItemID item) (must_fine (tables.Target o) fields.StoryID forms.OptId One story refl h) (must_fine (tables.Target o) fields.ItemID forms.OptId Optional item i k))

source_fine : (o : Operation) (es : List Event) → Fine (one_source o) es → Fine (tables.Action o) (source es)
unfolding source
source_fine o es f = element_fine (tables.Action o) (name_of fields.ElementSource) [] es f

two_fine : (t : Table) (f : Field) (o : Often) (x y : Text) → HasColumn t f forms.OptId o → IsText forms.OptId x → IsText forms.OptId y → Fine t (must f x ++ must f y)
two_fine t f o x y i h k = both_fine t (must f x) (must f y) (must_fine t f forms.OptId o x i h) (must_fine t f forms.OptId o y i k)

pub action_fine : (a : Action) → IsFitAction a → Fine (tables.Action (operation_of_action a)) (action_events a)
unfolding action_events
action_fine (InsertStories target sources) f = both_fine (tables.Action Insert) (target_story target) (source (stories_events sources)) (story_target_fine Insert target f.0) (source_fine Insert (stories_events sources) (stories_fine (one_source Insert) sources refl f.1))
action_fine (ReplaceStory target sources) f = both_fine (tables.Action Replace) (target_story target) (source (stories_events sources)) (story_target_fine Replace target f.0) (source_fine Replace (stories_events sources) (stories_fine (one_source Replace) sources refl f.1))
action_fine (InsertItems story target sources) f = both_fine (tables.Action Insert) (target_item story target) (source (items_events sources)) (item_target_fine Insert story target refl f.0 f.1) (source_fine Insert (items_events sources) (items_fine (one_source Insert) sources refl f.2))
action_fine (ReplaceItem story target sources) f = both_fine (tables.Action Replace) (target_item story target) (source (items_events sources)) (item_target_fine Replace story target refl f.0 f.1) (source_fine Replace (items_events sources) (items_fine (one_source Replace) sources refl f.2))
action_fine (MoveStories target sources) f = both_fine (tables.Action Move) (target_story target) (source (ids_events fields.StoryID sources)) (story_target_fine Move target f.0) (source_fine Move (ids_events fields.StoryID sources) (ids_fine (one_source Move) fields.StoryID Many sources refl f.1))
action_fine (MoveItems story target sources) f = both_fine (tables.Action Move) (target_item story target) (source (ids_events fields.ItemID sources)) (item_target_fine Move story target refl f.0 f.1) (source_fine Move (ids_events fields.ItemID sources) (ids_fine (one_source Move) fields.ItemID Many sources refl f.2))
action_fine (DeleteStories sources) f = source_fine Delete (ids_events fields.StoryID sources) (ids_fine (one_source Delete) fields.StoryID Many sources refl f)
action_fine (DeleteItems story sources) f = both_fine (tables.Action Delete) (target_story story) (source (ids_events fields.ItemID sources)) (story_target_fine Delete story f.0) (source_fine Delete (ids_events fields.ItemID sources) (ids_fine (one_source Delete) fields.ItemID Many sources refl f.1))
action_fine (SwapStories first second) f = source_fine Swap (must fields.StoryID first ++ must fields.StoryID second) (two_fine (one_source Swap) fields.StoryID (Count 2) first second refl f.0 f.1)
action_fine (SwapItems story first second) f = both_fine (tables.Action Swap) (target_story story) (source (must fields.ItemID first ++ must fields.ItemID second)) (story_target_fine Swap story f.0) (source_fine Swap (must fields.ItemID first ++ must fields.ItemID second) (two_fine (one_source Swap) fields.ItemID (Count 2) first second refl f.1 f.2))
