use denote.Param.Send.{sendable}
use Rattle.std.proofs.Crossing.{crosses}
use Rattle.port_tests.proofs.register.Register.TheSendSync.{the_send as register_send}
use Rattle.port_tests.proofs.register.Request.TheSendSync.{the_send as request_send}
use Rattle.port_tests.proofs.register.Reply.TheSendSync.{the_send as reply_send}
use Rattle.shared_machine.proofs.Sent.{hub_crosses}
use Rattle.port_tests.proofs.shared.jobs_share_a_hub_by_an_arc.Goals as goal

pub spawn_with-requires-send-F : goal.spawn_with-requires-send-F
spawn_with-requires-send-F c κs within = search (sendable, crosses, hub_crosses, register_send, request_send) depth 20

pub spawn_with-requires-send-T : goal.spawn_with-requires-send-T
spawn_with-requires-send-T c κs within = search (sendable, crosses, hub_crosses, register_send, reply_send) depth 20

pub spawn_with-requires-2-send-F : goal.spawn_with-requires-2-send-F
spawn_with-requires-2-send-F c κs within = search (sendable, crosses, hub_crosses, register_send, request_send) depth 20
