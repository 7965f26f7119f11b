-- What holds of a reader.
use Rattle.std.specs.Prelude.{◌≡◌, ◌≤◌, ◌<◌, ◌+◌, ◌-◌, ◌^◌, ℕ, List, length, drop, Option, None}
use Rattle.mos_reader.specs.declared.found.ReadFault.{ReadFault}
use Rattle.mos_reader.specs.declared.reading.Reading.{Reading}
use Rattle.mos_reader.specs.Places.{HasRead}

-- Behind the units of messages that were handed out stand those of the message that is read, as far as it was read.
pub record IsKept (units : List ℕ) (from base : ℕ) (reading : Reading) (fault : Option ReadFault) : Type 0 where
  pub within : from ≤ length units
  pub room : base + (length units - from) < 2 ^ 64
  pub read : fault ≡ None → HasRead reading (drop from units)
