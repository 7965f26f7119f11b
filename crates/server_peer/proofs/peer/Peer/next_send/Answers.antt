use Rattle.std.proofs.Common.{arith}
use Rattle.server_peer.proofs.peer.Peer.next_send.Goals as goal

pub next_send_from-requires : goal.next_send_from-requires
next_send_from-requires c = λ m h. absurd (omega (arith, h))
