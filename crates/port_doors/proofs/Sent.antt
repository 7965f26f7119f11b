-- A lane and a job may go to another thread.
use denote.RattleType.{RattleType}
use denote.Param.Send.{IsSend, sendable}
use Rattle.std.proofs.Crossing.{crosses}
use Rattle.mos_io.specs.declared.source.Source as source
use Rattle.mos_io.specs.declared.sink.Sink as sink
use Rattle.mos_io.specs.declared.pacer.Pacer as pacer
use Rattle.mos_io.specs.declared.clock.Clock as clock
use Rattle.port_events.specs.declared.event.PortEvent.{PortEvent}
use Rattle.port_events.specs.declared.answer.PortAnswer.{PortAnswer}
use Rattle.port_events.proofs.event.Side.TheSendSync.{the_send as side_send}
use Rattle.port_links.proofs.place.Place.TheSendSync.{the_send as place_send}
use Rattle.port_links.specs.declared.dialer.Dialer as dialer
use Rattle.port_session.proofs.port.Port.TheSendSync.{the_send as port_send}
use Rattle.port_session.proofs.end.End.TheSendSync.{the_send as end_send}
use Rattle.port_jobs.proofs.names.Names.TheSendSync.{the_send as names_send, the_sync as names_sync}
use Rattle.port_jobs.specs.contracts.task.Task as task
use Rattle.port_jobs.specs.contracts.job.PortJob as job
use Rattle.port_doors.proofs.door.DoorPort.TheSendSync.{the_send as door_port_send}
use Rattle.port_doors.proofs.door.DoorEnd.TheSendSync.{the_send as door_end_send}
use Rattle.port_doors.specs.contracts.door.Door as door
use Rattle.port_doors.specs.contracts.lane.Host as host
use Rattle.port_doors.specs.contracts.lane.DoorLane as lane
use Rattle.shared_machine.specs.declared.machine.StepRelation as machine
use Rattle.shared_machine.proofs.Sent.{hub_crosses}

pub ruleset door_crosses = (side_send, place_send, port_send, end_send, names_send, names_sync, door_port_send, door_end_send)

pub host_send : (M D Di P C R : RattleType) (k : machine.Ghosts M.Denot PortEvent PortAnswer)
    → IsSend M → IsSend D → IsSend Di → IsSend P → IsSend C → IsSend R → IsSend (host.the_row M D Di P C R k)
host_send M D Di P C R k m d di p c r = search (sendable, crosses, hub_crosses, door_crosses) depth 60

pub door_send : (L W : RattleType) → IsSend L → IsSend W → IsSend (door.the_row L W)
door_send L W l w = search (sendable, crosses) depth 20

pub lane_send : (M D L Di P C R W : RattleType) (k : machine.Ghosts M.Denot PortEvent PortAnswer)
    → IsSend M → IsSend D → IsSend L → IsSend Di → IsSend P → IsSend C → IsSend R → IsSend W → IsSend (lane.the_row M D L Di P C R W k)
lane_send M D L Di P C R W k m d l di p c r w = search (sendable, crosses, hub_crosses, door_crosses, host_send, door_send) depth 60 fits 20000

pub task_send : (S K Di P C T U : RattleType)
    → IsSend S → IsSend K → IsSend Di → IsSend P → IsSend C → IsSend (task.the_row S K Di P C T U)
task_send S K Di P C T U s k di p c = search (sendable, crosses, door_crosses) depth 60

pub job_send : (M D S K Di P C R T U : RattleType) (f : source.Ghosts S.Denot) (t : sink.Ghosts K.Denot) (h : dialer.Ghosts Di.Denot T.Denot U.Denot) (i : source.Ghosts T.Denot) (o : sink.Ghosts U.Denot) (q : pacer.Ghosts P.Denot) (w : clock.Ghosts C.Denot) (k : machine.Ghosts M.Denot PortEvent PortAnswer)
    → IsSend M → IsSend D → IsSend S → IsSend K → IsSend Di → IsSend P → IsSend C → IsSend R → IsSend (job.the_row M D S K Di P C R T U f t h i o q w k)
job_send M D S K Di P C R T U f t h i o q w k m d s sk di p c r = search (sendable, crosses, hub_crosses, door_crosses) depth 60
