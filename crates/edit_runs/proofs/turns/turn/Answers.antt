use Rattle.std.proofs.Common.{Ok, Err, subst}
use Rattle.line_reader.specs.Lines.{Stepped}
use Rattle.edit_runs.proofs.Inputs.{starved_on, talking_on, turned_last, turned_taken}
use Rattle.edit_runs.proofs.turns.turn.Goals as goal

pub returns-in-Ok-Line-clause-turned : goal.returns-in-Ok-Line-clause-turned
returns-in-Ok-Line-clause-turned g c l was w =
    let x = subst (λ z. Stepped l (g.S.Source.left c.advance.new.source) (g.S.Source.faults c.args.source.now) (g.S.Source.faults c.advance.new.source) c.advance.new.self w.lines (Ok z)) c.in-Ok-Line.field-0-is (c.in-Ok-Line.ensures.stepped l w.lines w.stands) in
    turned_taken _ l _ _ _ _ was _ _ _ _ (c.take_line.ensures.taken l _ w.lines was x (rw c.advance.ensures.most w.going))

pub returns-in-Ok-Ended-clause-turned : goal.returns-in-Ok-Ended-clause-turned
returns-in-Ok-Ended-clause-turned g c l was w =
    let x = subst (λ z. Stepped l (g.S.Source.left c.advance.new.source) (g.S.Source.faults c.args.source.now) (g.S.Source.faults c.advance.new.source) c.advance.new.self w.lines (Ok z)) c.in-Ok-Ended.field-0-is (c.in-Ok-Ended.ensures.stepped l w.lines w.stands) in
    turned_last _ l _ _ _ _ was _ _ _ _ (c.take_last.ensures.taken l _ w.lines was x (rw c.advance.ensures.most w.going))

pub returns-in-Err-ReadFault-clause-turned : goal.returns-in-Err-ReadFault-clause-turned
returns-in-Err-ReadFault-clause-turned g c l was w =
    let x = subst (λ z. Stepped l (g.S.Source.left c.advance.new.source) (g.S.Source.faults c.args.source.now) (g.S.Source.faults c.advance.new.source) c.advance.new.self w.lines (Err z)) c.in-Err-ReadFault.field-0-is (c.in-Err-ReadFault.ensures.stepped l w.lines w.stands) in
    (x.0, talking_on _ l _ c.args.reader.now _ was _ _ _ w.lines x.1 c.advance.ensures.most w.going)

pub returns-in-Err-NoMemory-clause-turned : goal.returns-in-Err-NoMemory-clause-turned
returns-in-Err-NoMemory-clause-turned g c l was w =
    let x = subst (λ z. Stepped l (g.S.Source.left c.advance.new.source) (g.S.Source.faults c.args.source.now) (g.S.Source.faults c.advance.new.source) c.advance.new.self w.lines (Err z)) c.in-Err-NoMemory.field-0-is (c.in-Err-NoMemory.ensures.stepped l w.lines w.stands) in
    starved_on _ l _ c.args.reader.now c.advance.new.self was _ _ _ w.lines x c.advance.ensures.most w.going
