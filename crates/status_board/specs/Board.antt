-- What devices reported: the last report of each element of each device, and the answer that lists those of one device and
-- order.
use Rattle.std.specs.Prelude.{◌≡◌, ℕ, ◌<◌, List, [], ◌∷◌, Bool, true, false, Option, None, Some, if◌then◌else◌, ◌&&◌, ◌==◌, filter, map, codes}
use Rattle.mos_fields.specs.Characters.{Text}
use Rattle.mos_fields.specs.declared.level.Level.{Level}
use Rattle.mos_fields.specs.declared.level.Level.TheVariants.{Ro, Story, Item}
use Rattle.mos_edits.specs.Texts.{same_id}
use Rattle.mos_values.specs.Names.{text_or_none}
use Rattle.mos_values.specs.Parts.{element}
use Rattle.mos_values.specs.Units.{units_in, capped}
use Rattle.mos_values.specs.Views.{ro_ack_events}
use Rattle.mos_values.specs.declared.ack_group.AckGroup.{AckGroup}
use Rattle.mos_values.specs.declared.element_stat.ElementStat.{ElementStat}
use Rattle.mos_values.specs.declared.ro_ack.RoAck.{RoAck}
use Rattle.status_board.specs.declared.fault.BoardFault.{BoardFault}
use Rattle.status_board.specs.declared.fault.BoardFault.TheVariants.{Full, NoMemory}

-- the number of a device, and what it reported
abbrev pub Report : Type 0
Report = ℕ × ElementStat

abbrev pub level_number : Level → ℕ
level_number Ro = 0
level_number Story = 1
level_number Item = 2

-- whether a report is of this device and this order
abbrev pub is_of_order : ℕ → Text → Report → Bool
is_of_order d ro r = (d == r.0) && same_id ro r.1.ro

-- whether it is, besides, of the element of this level, story and item; an absent identifier counts as an empty one
abbrev pub is_of_element : ℕ → Text → Level → Text → Text → Report → Bool
is_of_element d ro level story item r =
    is_of_order d ro r && ((level_number level == level_number r.1.level) && (same_id story (text_or_none r.1.story) && same_id item (text_or_none r.1.item)))

-- whether the second report is of the first one's element
abbrev pub is_of_same : Report → Report → Bool
is_of_same r x = is_of_element r.0 r.1.ro r.1.level (text_or_none r.1.story) (text_or_none r.1.item) x

-- a report in the place of the one of its element, or behind all where there is none
abbrev pub put_report : Report → List Report → List Report
put_report r [] = r ∷ []
put_report r (x ∷ xs) = if is_of_same r x then r ∷ xs else x ∷ put_report r xs

-- what stands once more reports came, one after the other
abbrev pub board_from : List Report → List Report → List Report
board_from xs [] = xs
board_from xs (r ∷ rs) = board_from (put_report r xs) rs

-- the last report of each element, in the order of the elements' first reports
abbrev pub board : List Report → List Report
board rs = board_from [] rs

-- what was reported of an element, where anything was
abbrev pub find_report : ℕ → Text → Level → Text → Text → List Report → Option ElementStat
find_report d ro level story item [] = None
find_report d ro level story item (x ∷ xs) = if is_of_element d ro level story item x then Some x.1 else find_report d ro level story item xs

-- a report as a roAck tells it, which has no level, and no identifier that is absent
abbrev pub group_of : Report → AckGroup
group_of r = record { story = text_or_none r.1.story; item = text_or_none r.1.item; obj = text_or_none r.1.obj; channel = r.1.channel; status = r.1.status }

-- what a device reported on an order, in the order of the board
abbrev pub groups : ℕ → Text → List Report → List AckGroup
groups d ro reports = map group_of (filter (is_of_order d ro) reports)

-- the answer that lists it
abbrev pub answer : ℕ → Text → List Report → RoAck
answer d ro reports = record { ro = ro; status = codes "OK"; groups = groups d ro reports }

-- the code units of its canonical element roAck
unfoldable pub answer_units : ℕ → Text → List Report → ℕ
answer_units d ro reports = units_in (element (codes "roAck") (ro_ack_events (answer d ro reports)))

-- how many it has at most
abbrev pub size_limit : ℕ
size_limit = 8000000

-- why there is no room for a report with which that answer has so many code units. Memory may run out of any cause.
abbrev pub IsFault : ℕ → BoardFault → Type 0
IsFault units (Full n) = (size_limit < units) × (n ≡ capped units)
IsFault units NoMemory = Unit {0}
