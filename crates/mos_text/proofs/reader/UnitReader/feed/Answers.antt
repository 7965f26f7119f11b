use Rattle.std.proofs.Common.{◌≡◌, ◌∙◌, ap, sym, subst}
use Rattle.std.specs.Prelude.{Some, Err}
use Rattle.mos_text.specs.Reading.{FeedAnswers}
use Rattle.mos_text.proofs.ReadingLemmas.{feed_answers, fault_answered}
use Rattle.mos_text.proofs.reader.UnitReader.feed.Goals as goal

pub returns-in-Ok-clause-answer : goal.returns-in-Ok-clause-answer
returns-in-Ok-clause-answer c =
    subst (λ r. FeedAnswers r c.args.piece.now c.in-Ok.reading c.args.out.now.items c.read.new.out.items c.answer.result) c.self.view_is
    (feed_answers c.self.inside.reading c.args.piece.now c.in-Ok.reading c.args.out.now.items c.read.new.out.items c.answer.result c.answer.ensures c.in-Ok.ensures.after c.in-Ok.ensures.chars)

pub returns-in-Ok-clause-kept : goal.returns-in-Ok-clause-kept
returns-in-Ok-clause-kept c = λ fault h. fault_answered c.self.inside.reading c.args.piece.now c.in-Ok.reading c.answer.result fault c.answer.ensures c.in-Ok.ensures.after (ap (λ q. q.fault) c.self.view_is ∙ h)
