-- How many code units canonical encodings have.
use Rattle.std.specs.Prelude.{ℕ, List, length, min, codes, ◌-◌, ◌^◌}
use Rattle.mos_fields.specs.Characters.{Text, units_of}
use Rattle.mos_tables.specs.Events.{Event}
use Rattle.mos_tables.specs.Canonical.{canonical}
use Rattle.mos_values.specs.declared.header.HeaderPatch.{HeaderPatch}
use Rattle.mos_values.specs.OrderValue.{OrderBody}
use Rattle.mos_values.specs.Parts.{element}
use Rattle.mos_values.specs.declared.story_send.StorySend.{StorySend}
use Rattle.mos_values.specs.Views.{body_events, headers_events, story_send_events}

-- the code units of the canonical encoding
unfoldable pub canonical_units : List Event → List ℕ
canonical_units es = units_of (canonical es)

-- how many there are
unfoldable pub units_in : List Event → ℕ
units_in es = length (canonical_units es)

-- the number, or 2^64 - 1 where it is larger
abbrev pub capped : ℕ → ℕ
capped n = min n (2 ^ 64 - 1)

-- the element roList of an order
abbrev pub list_events : OrderBody → List Event
list_events b = element (codes "roList") (body_events b)

-- the element roListAll of headers
abbrev pub list_all_events : List HeaderPatch → List Event
list_all_events hs = element (codes "roListAll") (headers_events hs)

-- the element roStorySend of a script
abbrev pub send_events : StorySend → List Event
send_events s = element (codes "roStorySend") (story_send_events s)
