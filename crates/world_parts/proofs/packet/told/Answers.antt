use Rattle.std.proofs.Common.{◌∙◌}
use Rattle.world_parts.proofs.Telling.{if-ok-then, packet-told}
use Rattle.world_parts.proofs.packet.told.Goals as goal

pub returns : goal.returns
returns c = if-ok-then c.told_packet.result c.told_packet.ensures (λ o e q k. e ∙ packet-told c.args.packet.now q k)
