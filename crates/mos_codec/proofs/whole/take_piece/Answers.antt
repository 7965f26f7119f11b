use Rattle.std.proofs.Common.{◌∙◌}
use Rattle.mos_codec.proofs.Taken.{fed-reads}
use Rattle.mos_codec.proofs.whole.take_piece.Goals as goal

pub returns-in-Ok-clause-first : goal.returns-in-Ok-clause-first
returns-in-Ok-clause-first c = λ e us rest h clean held none.
    let fed = fed-reads c.args.events.now c.feed.new.self c.args.piece.now c.in-Ok.ensures.fed clean in
    c.take_whole.ensures.first e us rest h fed.0 (fed.1 ∙ held) none
