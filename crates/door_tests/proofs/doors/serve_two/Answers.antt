use denote.Builtin.{unit}
use denote.Exit.{no}
use denote.Param.Send.{param_send, arg_send, sendable}
use Rattle.std.proofs.Crossing.{crosses}
use Rattle.mos_io.specs.contracts.mem_source.MemSource as sources
use Rattle.mos_io.specs.contracts.mem_sink.MemSink as sinks
use Rattle.mos_io.specs.contracts.mem_pacer.MemPacer as pacers
use Rattle.mos_io.proofs.mem_source.MemSource.TheSendSync.{the_send as source_send}
use Rattle.mos_io.proofs.mem_sink.MemSink.TheSendSync.{the_send as sink_send}
use Rattle.mos_io.proofs.mem_pacer.MemPacer.TheSendSync.{the_send as pacer_send}
use Rattle.mos_io.proofs.fixed_clock.FixedClock.TheSendSync.{the_send as clock_send}
use Rattle.port_events.specs.contracts.event.PortEvent as events
use Rattle.port_events.specs.contracts.answer.PortAnswer as answers
use Rattle.port_jobs.specs.contracts.task.Work as work
use Rattle.port_doors.proofs.Sent.{job_send}
use Rattle.door_tests.specs.contracts.fresh.Fresh as dialers
use Rattle.door_tests.specs.contracts.noting.Noting as machines
use Rattle.door_tests.specs.contracts.noting.NotingStepRelation.TheImpl as steps
use Rattle.door_tests.proofs.noting.Noting.TheSendSync.{the_send as noting_send}
use Rattle.door_tests.proofs.fresh.Fresh.TheSendSync.{the_send as fresh_send}
use Rattle.door_tests.proofs.Sent.{crew_send}
use Rattle.door_tests.proofs.doors.serve_two.Goals as goal

pub serve_server-requires-send-W : goal.serve_server-requires-send-W
serve_server-requires-send-W g c κs within = let b = c.type_bounds in
    param_send 7 _ (arg_send _ no _ (crew_send _ (work.the_row machines.the_row unit sources.the_row sinks.the_row dialers.the_row pacers.the_row events.the_row answers.the_row steps.ghosts) (record { reports = λ j r. Unit {0} }) (job_send _ unit _ _ _ _ _ _ _ _ _ _ _ _ _ _ _ _ noting_send (search (sendable, crosses) depth 10) source_send sink_send fresh_send pacer_send clock_send b.send-R)))
