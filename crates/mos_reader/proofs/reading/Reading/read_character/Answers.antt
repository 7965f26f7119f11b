use Rattle.std.proofs.Common.{◌+◌, ◌<◌, subst, sym, arith}
use Rattle.mos_lexer.specs.Units.{message_limit}
use Rattle.mos_reader.specs.Places.{Came}
use Rattle.mos_reader.proofs.HeldRuns.{came_far_over}
use Rattle.mos_reader.proofs.reading.Reading.read_character.Goals as goal

pub returns-else-next-clause-came : goal.returns-else-next-clause-came
returns-else-next-clause-came c =
    let w : message_limit + 1 < c.args.next = omega arith in
    subst (λ z. Came z c.args.self.now c.args.held.now) (sym c.too_long.ensures) (came_far_over c.args.self.now c.args.self.now c.args.held.now c.args.next c.args.c c.requires.read c.requires.character w)
