-- Steps of the server at its ports, as a hub knows them.
use Rattle.std.specs.Prelude.{◌≡◌, List, ◌⊎◌, Option}
use Rattle.mos_edits.specs.Entries.{Entry}
use Rattle.mos_machines.specs.Messages.Status.{Okay, StoreFault}
use Rattle.mos_machines.specs.Steps.{ServerEvent, ServerStep, StepAnswer}
use Rattle.mos_machines.specs.Steps.ServerEvent.{Command}
use Rattle.mos_machines.specs.Steps.StepAnswer.{Told}
use Rattle.rundown_log.specs.Keeping.{Keeps}
use Rattle.ncs_core.specs.State.{NcsTables, ncs_of, devices_of}
use Rattle.port_replies.specs.Ports.{Asked, ComesTo, NcsPortStep, server_asked}
use Rattle.port_events.specs.declared.event.PortEvent.{PortEvent}
use Rattle.port_events.specs.declared.answer.PortAnswer.{PortAnswer}

-- What is kept after a step: one more entry after a command that was taken, perhaps one more after a failed append, else
-- what was kept before.
abbrev pub KeepsSo : ServerEvent → StepAnswer → Option (List Entry) → Option (List Entry) → Type 0
KeepsSo (Command e) (Told Okay) kept now = Keeps kept now e
KeepsSo (Command e) (Told StoreFault) kept now = (now ≡ kept) ⊎ Keeps kept now e
KeepsSo event answer kept now = now ≡ kept

-- a step of the server, with what is kept; the number of its devices stays
pub record NcsStep {K : Type 0} (m : NcsTables K) (event : ServerEvent) (answer : StepAnswer) (n : NcsTables K) : Type 0 where
  pub step : ServerStep (ncs_of m) event answer (ncs_of n)
  pub kept : KeepsSo event answer m.kept n.kept
  pub devices : devices_of n ≡ devices_of m

-- what an event came to: its answer, and what contracts see of the server after it
pub record IsAnswered {K : Type 0} (m : NcsTables K) (asked : Asked ServerEvent) (a : PortAnswer) (n : NcsTables K) : Type 0 where
  pub comes : ComesTo NcsStep m asked a n

-- An event at the ports of a server: what becomes of its state, and of all that contracts see of it.
pub record IsServerStep {K : Type 0} (m : NcsTables K) (e : PortEvent) (a : PortAnswer) (n : NcsTables K) : Type 0 where
  pub state : NcsPortStep (devices_of m) (ncs_of m) e a (ncs_of n)
  pub tables : IsAnswered m (server_asked (devices_of m) m.server.journal e) a n

-- A server after a refused step: its state, and what is kept, are as they were.
pub record IsServerRefusal {K : Type 0} (m n : NcsTables K) : Type 0 where
  pub state : ncs_of n ≡ ncs_of m
  pub kept : n.kept ≡ m.kept
  pub devices : devices_of n ≡ devices_of m
