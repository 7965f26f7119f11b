-- A hub may be shared, and a pass may go to another thread, where the machine and its rest may.
use denote.RattleType.{RattleType}
use denote.Param.Send.{IsSend, IsSync, sendable}
use Rattle.std.proofs.Crossing.{crosses}
use Rattle.atomic_table.proofs.shared.Seat.TheSendSync.{the_send as seat_send}
use Rattle.atomic_table.proofs.shared.Shared.TheSendSync.{the_send as shared_send, the_sync as shared_sync}
use Rattle.atomic_table.proofs.send_lease.SendLease.TheSendSync.{the_send as lease_send, the_sync as lease_sync}
use Rattle.shared_machine.proofs.machine.NoMemory.TheSendSync.{the_send as no_memory_send}
use Rattle.shared_machine.specs.declared.machine.StepRelation.{Ghosts}
use Rattle.shared_machine.specs.contracts.pass.Pass as pass
use Rattle.shared_machine.specs.contracts.hub.Hub as hub

pub pass_send : (M D E A : RattleType) (g : Ghosts M.Denot E.Denot A.Denot) → IsSend M → IsSend D → IsSend (pass.the_row M D E A g)
pass_send M D E A g m d = search (sendable, crosses, seat_send) depth 20

pub hub_send : (M D E A : RattleType) (g : Ghosts M.Denot E.Denot A.Denot) → IsSend M → IsSend D → IsSend (hub.the_row M D E A g)
hub_send M D E A g m d = search (sendable, crosses, shared_send, lease_send) depth 20

pub hub_sync : (M D E A : RattleType) (g : Ghosts M.Denot E.Denot A.Denot) → IsSend M → IsSend D → IsSync (hub.the_row M D E A g)
hub_sync M D E A g m d = search (sendable, crosses, shared_sync, lease_sync) depth 20

-- for a caller's search
pub ruleset hub_crosses = (pass_send, hub_send, hub_sync, no_memory_send)
