use Rattle.std.proofs.Common.{subst, sym, arith}
use Rattle.mos_reader.specs.Places.{Ended}
use Rattle.mos_reader.proofs.HeldRuns.{cut_waits, high_too_long}
use Rattle.mos_reader.proofs.reading.Reading.at_cut.Goals as goal

pub returns-then-self-lt-MESSAGE_LIMIT : goal.returns-then-self-lt-MESSAGE_LIMIT
returns-then-self-lt-MESSAGE_LIMIT c = cut_waits c.args.self.now c.args.held.now c.requires.read c.requires.cut c.if-self-lt-MESSAGE_LIMIT.true

pub returns-else-self-lt-MESSAGE_LIMIT : goal.returns-else-self-lt-MESSAGE_LIMIT
returns-else-self-lt-MESSAGE_LIMIT c =
    let a = c.requires.cut.last in
    subst (λ z. Ended z c.args.self.now c.args.held.now) (sym c.too_long.ensures)
    (high_too_long c.args.self.now c.args.held.now c.requires.read c.requires.cut.high (omega (arith, a)) c.if-self-lt-MESSAGE_LIMIT.false)
