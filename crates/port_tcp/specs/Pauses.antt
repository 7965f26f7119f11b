-- What contracts see of a pacer that sleeps.
use Rattle.std.specs.Prelude.{◌≡◌, ℕ, Bool, cond, List, Option, None}
use Rattle.std.specs.Duration.{as_nanos}
use Rattle.mos_io.specs.declared.pacer.Pace.{Pace}
use Rattle.mos_io.specs.declared.pacer.Pace.TheVariants.{Again, Beat, Stop}
use Rattle.port_tcp.specs.declared.pacer.SleepPacer.{SleepPacer}

module _ {R : Type 0} where
  -- how long a pause is, in nanoseconds
  abbrev pub length : SleepPacer R → ℕ
  length p = as_nanos p.length

  -- after so long without one a heartbeat is asked for, in nanoseconds
  abbrev pub every : SleepPacer R → ℕ
  every p = as_nanos p.every

  -- nothing tells it to stop
  abbrev pub NeverStops : SleepPacer R → Type 0
  NeverStops p = p.stop ≡ None

-- the paces to come aren't observable
abbrev pub unseen : Option (List Pace)
unseen = None

-- what is to be done after one more pause: whether the pacer was told to stop, and whether a heartbeat is to be asked for
abbrev pub pace_of : Bool → Bool → Pace
pace_of told beats = cond told Stop (cond beats Beat Again)
