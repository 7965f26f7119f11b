use Rattle.std.proofs.Common.{sym, ap, ◌∙◌, subst}
use Rattle.mos_scanner.specs.ScannerView.{raw_of, raw_name, IsSoundAt, state_of}
use Rattle.mos_fields.specs.Raw.{end_text, ends_with}
use Rattle.mos_lexer.specs.LexMachine.{continues}
use Rattle.mos_scanner.proofs.PartLemmas.{chars_more, text_more}
use Rattle.mos_scanner.proofs.LexSteps.{tail_end, tail_more}
use Rattle.mos_scanner.proofs.scanner.Scanner.in_tail.Goals as goal

pub returns-then-ends_with_end_tag : goal.returns-then-ends_with_end_tag
returns-then-ends_with_end_tag c = record {
  same = tail_end c.args.outside c.args.c (raw_name c.args.self.now c.args.held.now) (raw_of c.args.self.now c.args.held.now c.args.here) (chars_more c.args.held.now c.args.self.now.start c.args.here c.args.next c.args.c c.requires.sound.whole c.requires.character) (ap (ends_with (end_text (raw_name c.args.self.now c.args.held.now))) (sym (chars_more c.args.held.now c.args.self.now.start c.args.here c.args.next c.args.c c.requires.sound.whole c.requires.character)) ∙ (sym c.ends_with_end_tag.ensures ∙ c.if-ends_with_end_tag.true));
  sound = text_more c.args.held.now c.args.self.now.start c.args.here c.args.next c.args.c c.requires.sound.whole c.requires.character;
}

pub returns-else-ends_with_end_tag : goal.returns-else-ends_with_end_tag
returns-else-ends_with_end_tag c = record {
  same = ap (λ m. continues (state_of m c.args.self.now c.args.held.now c.args.next)) c.requires.mode ∙ tail_more c.args.outside c.args.c (raw_name c.args.self.now c.args.held.now) (raw_of c.args.self.now c.args.held.now c.args.here) (chars_more c.args.held.now c.args.self.now.start c.args.here c.args.next c.args.c c.requires.sound.whole c.requires.character) (ap (ends_with (end_text (raw_name c.args.self.now c.args.held.now))) (sym (chars_more c.args.held.now c.args.self.now.start c.args.here c.args.next c.args.c c.requires.sound.whole c.requires.character)) ∙ (sym c.ends_with_end_tag.ensures ∙ c.if-ends_with_end_tag.false));
  sound = subst (λ m. IsSoundAt m c.args.self.now c.args.held.now c.args.next) (sym c.requires.mode) (record { name = c.requires.sound.name; whole = text_more c.args.held.now c.args.self.now.start c.args.here c.args.next c.args.c c.requires.sound.whole c.requires.character });
}
