-- What is seen of a world in memory.
use Rattle.std.specs.Prelude.{ℕ, List, slice_get, Option, Some, None}
use Rattle.std.specs.List.{AllByRecursion}
use Rattle.std.specs.Option.{option_map}
use Rattle.mos_edits.specs.Texts.{Text}
use Rattle.mos_machines.specs.Tables.{GateTables}
use Rattle.rundown_log.specs.Memory.{MemoryKeeper}
use Rattle.ncs_core.specs.State.{NcsTables, devices_of}
use Rattle.world_scripts.specs.WorldEvents.{HasSoundEdit}
use Rattle.world_laws.specs.World.{WorldEvent}
use Rattle.world_stage.specs.declared.play.Play.{Play}
use Rattle.world_stage.specs.Matching.{MatchesOne}

-- each edit that is commanded has an encoding
abbrev pub HaveSoundEdits : List WorldEvent → Type 0
HaveSoundEdits es = AllByRecursion HasSoundEdit es

-- where memory didn't run out, the parts stand for a world that a run ends in
abbrev pub ShowsOne : Option Play → Type 0
ShowsOne None = Unit {0}
ShowsOne (Some t) = MatchesOne t

-- the server
abbrev pub ncs_shown : Option Play → Option (NcsTables MemoryKeeper)
ncs_shown None = None
ncs_shown (Some t) = Some t.ncs

abbrev pub devices_shown : Option Play → ℕ
devices_shown None = 0
devices_shown (Some t) = devices_of t.ncs

-- the gateway of device `d`, from 0, and what it has applied
abbrev pub gate_shown : Option Play → ℕ → Option GateTables
gate_shown None d = None
gate_shown (Some t) d = option_map (λ x. x.gate) (slice_get t.gateways.items d)

abbrev pub applied_shown : Option Play → ℕ → Option (List (Text × ℕ))
applied_shown None d = None
applied_shown (Some t) d = option_map (λ x. x.applied) (slice_get t.gateways.items d)
