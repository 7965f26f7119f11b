-- Lists of records, one behind the other.
use Rattle.std.proofs.Common.{◌≡◌, ℕ, ◌+◌, ◌<◌, List, [], ◌∷◌, ◌++◌, length, map, take, get_or, refl, ap, ◌∙◌}
use Rattle.std.proofs.lemmas.List.{take_more, map-append}
use Rattle.mos_fields.specs.Characters.{Text}
use Rattle.mos_fields.specs.declared.field.Field.{Field}
use Rattle.mos_tables.specs.Events.{leaf}
use Rattle.mos_values.specs.Parts.{must}
use Rattle.mos_values.specs.MessageViews.{ids_events}
use Rattle.mos_fields.specs.declared.field.Field.TheVariants as fields
use Rattle.mos_fields.specs.Fields.{name_of}
use Rattle.mos_values.specs.declared.item.Item.{Item}
use Rattle.mos_values.specs.declared.header.HeaderPatch.{HeaderPatch}
use Rattle.mos_values.specs.declared.ack_group.AckGroup.{AckGroup}
use Rattle.mos_values.specs.StoryValue.{Story}
use Rattle.mos_values.specs.Parts.{element}
use Rattle.mos_values.specs.Views.{items_events, item_events, stories_events, story_events, headers_events, patch_events, groups_events, group_events}
use Rattle.mos_writer.specs.Encoded.{encoded}
use Rattle.mos_writer.proofs.EncodedLemmas.{events_step, appends_nothing, both_written}

pub items_start : (a : List ℕ) → a ≡ a ++ encoded (items_events [])
unfolding items_events
items_start a = appends_nothing a

pub items_step : (xs : List Item) (i : ℕ) (x : Item) (a l w : List ℕ) → i < length xs → x ≡ get_or xs i x
    → l ≡ a ++ encoded (items_events (take i xs)) → w ≡ l ++ encoded (element (name_of fields.ItemTag) (item_events x)) → w ≡ a ++ encoded (items_events (take (i + 1) xs))
unfolding items_events
items_step xs i x a l w lt is before after = events_step (λ x. element (name_of fields.ItemTag) (item_events x)) xs i x a l w lt is before after

pub stories_start : (a : List ℕ) → a ≡ a ++ encoded (stories_events [])
unfolding stories_events
stories_start a = appends_nothing a

pub stories_step : (xs : List Story) (i : ℕ) (x : Story) (a l w : List ℕ) → i < length xs → x ≡ get_or xs i x
    → l ≡ a ++ encoded (stories_events (take i xs)) → w ≡ l ++ encoded (element (name_of fields.StoryTag) (story_events x)) → w ≡ a ++ encoded (stories_events (take (i + 1) xs))
unfolding stories_events
stories_step xs i x a l w lt is before after = events_step (λ x. element (name_of fields.StoryTag) (story_events x)) xs i x a l w lt is before after

pub headers_start : (a : List ℕ) → a ≡ a ++ encoded (headers_events [])
unfolding headers_events
headers_start a = appends_nothing a

pub headers_step : (xs : List HeaderPatch) (i : ℕ) (x : HeaderPatch) (a l w : List ℕ) → i < length xs → x ≡ get_or xs i x
    → l ≡ a ++ encoded (headers_events (take i xs)) → w ≡ l ++ encoded (element (name_of fields.RoTag) (patch_events x)) → w ≡ a ++ encoded (headers_events (take (i + 1) xs))
unfolding headers_events
headers_step xs i x a l w lt is before after = events_step (λ x. element (name_of fields.RoTag) (patch_events x)) xs i x a l w lt is before after

pub groups_start : (a : List ℕ) → a ≡ a ++ encoded (groups_events [])
unfolding groups_events
groups_start a = appends_nothing a

pub groups_step : (xs : List AckGroup) (i : ℕ) (x : AckGroup) (a l w : List ℕ) → i < length xs → x ≡ get_or xs i x
    → l ≡ a ++ encoded (groups_events (take i xs)) → w ≡ l ++ encoded (group_events x) → w ≡ a ++ encoded (groups_events (take (i + 1) xs))
unfolding groups_events
groups_step xs i x a l w lt is before after = events_step (group_events) xs i x a l w lt is before after

pub ids_start : (f : Field) (a : List ℕ) → a ≡ a ++ encoded (ids_events f [])
unfolding ids_events
ids_start f a = appends_nothing a

pub ids_step : (f : Field) (xs : List Text) (i : ℕ) (x : Text) (a l w : List ℕ) → i < length xs → x ≡ get_or xs i x
    → l ≡ a ++ encoded (ids_events f (take i xs)) → w ≡ l ++ encoded (must f x) → w ≡ a ++ encoded (ids_events f (take (i + 1) xs))
unfolding ids_events must
ids_step f xs i x a l w lt is before after =
    both_written (ids_events f (take i xs)) (must f x) (ids_events f (take (i + 1) xs)) a l w
    (ap (ids_events f) (take_more xs i x lt) ∙ rw (← is) (map-append (λ (y : Text). leaf (name_of f) [] y) (take i xs) (x ∷ []))) before after
