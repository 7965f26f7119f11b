use Rattle.std.proofs.Common.{subst, sym, ◌∙◌}
use Rattle.mos_reader.specs.Places.{Ended}
use Rattle.mos_reader.proofs.HeldRuns.{high_too_long, unpaired_low}
use Rattle.mos_reader.proofs.reading.Reading.at_unpaired_over.Goals as goal

pub returns-then-is_high : goal.returns-then-is_high
returns-then-is_high c =
    subst (λ z. Ended z c.args.self.now c.args.held.now) (sym c.too_long.ensures)
    (high_too_long c.args.self.now c.args.held.now c.requires.read (sym c.is_high.ensures ∙ c.if-is_high.true) c.requires.within c.requires.over)

pub returns-else-is_high : goal.returns-else-is_high
returns-else-is_high c = unpaired_low c.args.self.now c.args.held.now c.requires.read c.requires.unpaired c.requires.within (sym c.is_high.ensures ∙ c.if-is_high.false)
