use denote.Param.Send.{sendable}
use Rattle.std.proofs.Crossing.{crosses}
use Rattle.port_machines.proofs.server.ServerMachine.TheSendSync.{the_send as server_send}
use Rattle.rundown_log.proofs.mem_keeper.MemKeeper.TheSendSync.{the_send as keeper_send}
use Rattle.port_tests.proofs.threads.Told.TheSendSync.{the_send as told_send}
use Rattle.shared_machine.proofs.Sent.{hub_crosses}
use Rattle.port_tests.proofs.threads.one_of_two_threads_inserts_and_both_read_the_story.Goals as goal

pub join-a-requires-send-F : goal.join-a-requires-send-F
join-a-requires-send-F c κs within = search (sendable, crosses, hub_crosses, server_send, keeper_send) depth 20

pub join-a-requires-send-A : goal.join-a-requires-send-A
join-a-requires-send-A c κs within = search (sendable, crosses, hub_crosses, server_send, keeper_send, told_send) depth 20
