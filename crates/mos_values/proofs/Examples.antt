-- Worked examples of the definitions.
use Rattle.std.proofs.Common.{◌≡◌, List, [], ◌∷◌, Option, Some, None, true, codes, refl}
use Rattle.mos_fields.specs.Forms.{among}
use Rattle.mos_tables.specs.Canonical.{canonical}
use Rattle.mos_values.specs.Sound.{taken_names}
use Rattle.mos_values.specs.Units.{canonical_units, units_in, list_all_events, list_events}
use Rattle.mos_values.specs.Views.{header_events, body_events, stories_events, story_events, story_head_events, items_events, headers_events}
use Rattle.mos_values.specs.Parts.{must, maybe, raws}
use Rattle.mos_values.specs.declared.header.Header.{Header}
use Rattle.mos_values.specs.StoryValue.{Story}
use Rattle.mos_values.specs.OrderValue.{OrderBody}

abbrev head : Header
head = record { ro = codes "r"; slug = codes "<a>"; channel = None; ed_start = None; ed_dur = None; trigger = None; macro_in = None; macro_out = Some []; metadata = codes "<mosExternalMetadata/>" ∷ []; others = codes "<x>&</x>" ∷ [] }

abbrev one : Story
one = record { id = codes "s"; slug = None; num = None; metadata = []; others = []; items = [] }

abbrev order : OrderBody
order = record { header = head; stories = one ∷ [] }

-- fields in order, absent ones left out, an empty text with both tags, raw elements as they were written before stories
list_example : canonical (list_events order) ≡ codes "<roList><roID>r</roID><roSlug>&lt;a&gt;</roSlug><macroOut></macroOut><mosExternalMetadata/><x>&</x><story><storyID>s</storyID></story></roList>"
unfolding canonical body_events header_events stories_events story_events story_head_events items_events must maybe raws
list_example = refl

-- and its number of code units
list_units_example : units_in (list_events order) ≡ 143
unfolding units_in canonical_units canonical body_events header_events stories_events story_events story_head_events items_events must maybe raws
list_units_example = refl

no_headers : units_in (list_all_events []) ≡ 23
unfolding units_in canonical_units canonical headers_events
no_headers = refl

taken_example : among (codes "roReqAll") taken_names ≡ true
taken_example = refl
