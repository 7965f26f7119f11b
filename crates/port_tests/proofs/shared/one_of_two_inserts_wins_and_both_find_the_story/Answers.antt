use denote.Param.Send.{sendable}
use Rattle.std.proofs.Crossing.{crosses}
use Rattle.port_tests.proofs.register.Register.TheSendSync.{the_send as register_send}
use Rattle.port_tests.proofs.register.Reply.TheSendSync.{the_send as reply_send}
use Rattle.shared_machine.proofs.Sent.{hub_crosses}
use Rattle.port_tests.proofs.shared.one_of_two_inserts_wins_and_both_find_the_story.Goals as goal

pub join-a-requires-send-F : goal.join-a-requires-send-F
join-a-requires-send-F c κs within = search (sendable, crosses, hub_crosses, register_send) depth 20

pub join-a-requires-send-A : goal.join-a-requires-send-A
join-a-requires-send-A c κs within = search (sendable, crosses, hub_crosses, register_send, reply_send) depth 20
