use Rattle.std.proofs.Common.{◌≡◌, None, Some, sym, ◌∙◌}
use Rattle.mos_codec.proofs.Handed.{handed-first}
use Rattle.mos_codec.proofs.decoding.decoded.Goals as goal

pub unreachable-requires : goal.unreachable-requires
unreachable-requires c =
    let e = c.requires.0 in
    let is : None ≡ Some e = sym c.in-None.is ∙ handed-first c.feed_first.new.decoder.ready c.next.result c.feed_first.new.decoder c.next.new.self e (c.in_ok-feed_first.ensures e c.requires.1) c.next.ensures.hands in
    absurd cc
