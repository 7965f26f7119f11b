use Rattle.std.proofs.Common.{subst, sym, arith}
use Rattle.mos_reader.specs.Places.{Came}
use Rattle.mos_reader.proofs.HeldRuns.{came_within, came_over}
use Rattle.mos_reader.proofs.reading.Reading.read_capped.Goals as goal

pub returns-then-next-le-MESSAGE_LIMIT-clause-came : goal.returns-then-next-le-MESSAGE_LIMIT-clause-came
returns-then-next-le-MESSAGE_LIMIT-clause-came c = came_within c.args.self.now c.take_character.new.self c.args.held.now c.args.next c.args.c c.in_ok-outcome.outcome c.requires.read c.requires.character c.if-next-le-MESSAGE_LIMIT.true c.in_ok-outcome.ensures.same c.in_ok-outcome.ensures.sound

pub returns-else-next-le-MESSAGE_LIMIT-clause-came : goal.returns-else-next-le-MESSAGE_LIMIT-clause-came
returns-else-next-le-MESSAGE_LIMIT-clause-came c =
    let close = c.requires.close in
    let over = c.if-next-le-MESSAGE_LIMIT.false in
    subst (λ z. Came z c.take_character.new.self c.args.held.now) (sym c.cap.ensures)
    (came_over c.args.self.now c.take_character.new.self c.args.held.now c.args.next c.args.c c.in_ok-outcome.outcome c.requires.read c.requires.character (omega (arith, close, over)) c.in_ok-outcome.ensures.same c.in_ok-outcome.ensures.sound)
