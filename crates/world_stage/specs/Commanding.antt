-- What a command makes of the server, and what is told of it.
use Rattle.std.specs.Prelude.{◌≡◌, ℕ, Option, Some, None}
use Rattle.mos_edits.specs.Entries.{Entry}
use Rattle.mos_machines.specs.Messages.{Status, status_text}
use Rattle.ncs_core.specs.State.{NcsTables, ncs_of, devices_of}
use Rattle.rundown_log.specs.Memory.{MemoryKeeper}
use Rattle.world_scripts.specs.Outcomes.{outcome_of}
use Rattle.world_scripts.specs.declared.outcome.Outcome.{Outcome}
use Rattle.world_laws.specs.World.{World, WorldEvent, world_step}
use Rattle.world_laws.specs.Outcomes.{Outcome as Told, outcome as outcome_told}
use Rattle.world_stage.specs.Matching.{MatchesServer}

-- what is told for a status has its text
abbrev pub IsToldFor : Option Status → Status → Type 0
IsToldFor None told = ⊥
IsToldFor (Some status) told = status_text told ≡ status_text status

-- the text of a status is told, where there is one
abbrev pub IsToldOf : Option Status → Told → Type 0
IsToldOf None o = ⊥
IsToldOf (Some status) o = o ≡ Told.Command (status_text status)

-- Of each world of which the server was: it is that of the world after the command, which tells this; and so are its devices.
pub record IsCommandedIn (n m : NcsTables MemoryKeeper) (e : Entry) (o : Outcome) (w : World) : Type 0 where
  pub server : MatchesServer m (world_step w (WorldEvent.Command e)).0
  pub peers : (d b : ℕ) → (ncs_of n).peers d ≡ (w.pairings b).peer → (ncs_of m).peers d ≡ ((world_step w (WorldEvent.Command e)).0.pairings b).peer
  pub outcome : outcome_of o ≡ outcome_told w (WorldEvent.Command e)

pub record IsCommanded (n m : NcsTables MemoryKeeper) (e : Entry) (o : Outcome) : Type 0 where
  pub devices : devices_of m ≡ devices_of n
  pub within : (w : World) → MatchesServer n w → IsCommandedIn n m e o w
