use Rattle.std.proofs.Common.{◌≡◌, vec_len}
use Rattle.server_serving.proofs.devices.peers.Given as goal

abbrev pub invariant-peers : goal.invariant-peers
invariant-peers l = vec_len l.peers ≡ l.i
