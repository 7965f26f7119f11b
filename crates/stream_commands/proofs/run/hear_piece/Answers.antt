use Rattle.std.proofs.Common.{◌++◌}
use Rattle.stream_commands.proofs.RunLemmas.{heard_fed}
use Rattle.stream_commands.proofs.run.hear_piece.Goals as goal

pub returns-in-Ok-clause-heard : goal.returns-in-Ok-clause-heard
returns-in-Ok-clause-heard g c = λ before start h.
    c.hear_all.ensures.heard (before ++ c.args.bytes.now) start
    (heard_fed (g.T.Teller.told c.args.teller.now) before c.args.bytes.now c.args.decoder.now c.feed.new.self start _ (λ found k. c.in-Ok.ensures.handed before found k) h)

pub returns-in-Ok-clause-part : goal.returns-in-Ok-clause-part
returns-in-Ok-clause-part g c = λ before start h.
    c.hear_all.ensures.part (before ++ c.args.bytes.now) start
    (heard_fed (g.T.Teller.told c.args.teller.now) before c.args.bytes.now c.args.decoder.now c.feed.new.self start _ (λ found k. c.in-Ok.ensures.handed before found k) h)
