use Rattle.mos_scanner.proofs.RunSteps.{text_skips, tail_skips, value_skips}
use Rattle.mos_scanner.proofs.scanner.Scanner.skip_plain.Goals as goal

pub returns-in_ok-grow_resolved-in-InText : goal.returns-in_ok-grow_resolved-in-InText
returns-in_ok-grow_resolved-in-InText c =
    text_skips c.args.self.now c.grow_resolved.new.self c.args.held.now c.args.here c.text_end-next.result c.in-InText.is c.requires.sound c.text_end-next.ensures.onward c.text_end-next.ensures.within c.text_end-next.ensures.plain
    c.in_ok-grow_resolved-in-InText.ensures.same c.in_ok-grow_resolved-in-InText.ensures.grown

pub returns-in-InTail : goal.returns-in-InTail
returns-in-InTail c = tail_skips c.args.self.now c.args.held.now c.args.here c.tail_end.result c.in-InTail.is c.requires.sound c.tail_end.ensures.onward c.tail_end.ensures.within c.tail_end.ensures.plain

pub returns-in_ok-grow_resolved-in-InValue : goal.returns-in_ok-grow_resolved-in-InValue
returns-in_ok-grow_resolved-in-InValue c =
    value_skips c.args.self.now c.grow_resolved-in-InValue.new.self c.args.held.now c.args.here c.value_end-next.result c.quote_unit.result c.in-InValue.is c.requires.sound c.quote_unit.ensures
    c.value_end-next.ensures.onward c.value_end-next.ensures.within c.value_end-next.ensures.plain
    c.in_ok-grow_resolved-in-InValue.ensures.same c.in_ok-grow_resolved-in-InValue.ensures.grown
