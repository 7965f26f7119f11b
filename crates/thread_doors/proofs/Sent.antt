-- A worker's job that tells of its connection may go to another thread.
use denote.RattleType.{RattleType}
use denote.Param.Send.{IsSend, sendable}
use Rattle.std.proofs.Crossing.{crosses}
use Rattle.mos_io.specs.declared.source.Source as source
use Rattle.mos_io.specs.declared.sink.Sink as sink
use Rattle.mos_io.specs.declared.pacer.Pacer as pacer
use Rattle.mos_io.specs.declared.clock.Clock as clock
use Rattle.port_events.specs.declared.event.PortEvent.{PortEvent}
use Rattle.port_events.specs.declared.answer.PortAnswer.{PortAnswer}
use Rattle.port_links.specs.declared.dialer.Dialer as dialer
use Rattle.thread_doors.specs.contracts.told.ToldJob as told
use Rattle.shared_machine.specs.declared.machine.StepRelation as machine
use Rattle.shared_machine.proofs.Sent.{hub_crosses}
use Rattle.port_doors.proofs.Sent.{door_crosses, job_send}

pub told_send : (M D S K Di P C R T U : RattleType) (f : source.Ghosts S.Denot) (t : sink.Ghosts K.Denot) (h : dialer.Ghosts Di.Denot T.Denot U.Denot) (i : source.Ghosts T.Denot) (o : sink.Ghosts U.Denot) (q : pacer.Ghosts P.Denot) (w : clock.Ghosts C.Denot) (k : machine.Ghosts M.Denot PortEvent PortAnswer)
    → IsSend M → IsSend D → IsSend S → IsSend K → IsSend Di → IsSend P → IsSend C → IsSend R → IsSend (told.the_row M D S K Di P C R T U f t h i o q w k)
told_send M D S K Di P C R T U f t h i o q w k m d s sk di p c r = search (sendable, crosses, hub_crosses, door_crosses, job_send) depth 60
