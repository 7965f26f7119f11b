use Rattle.std.proofs.Common.{sym, ap, ◌∙◌, subst}
use Rattle.mos_scanner.specs.Parts.{part}
use Rattle.mos_scanner.specs.ScannerView.{raw_of, tag_of, IsSoundAt, state_of}
use Rattle.mos_lexer.specs.LexMachine.{continues}
use Rattle.mos_scanner.proofs.PartLemmas.{length-part, chars_more, name_more}
use Rattle.mos_scanner.proofs.TagLemmas.{open_more, name_some, name_part_more}
use Rattle.mos_scanner.proofs.LexSteps.{attribute_more, attribute_stops}
use Rattle.mos_scanner.proofs.scanner.Scanner.in_attribute_name.Goals as goal

pub returns-then-may_grow : goal.returns-then-may_grow
returns-then-may_grow c = record {
  same = ap (λ m. continues (state_of m c.args.self.now c.args.held.now c.args.next)) c.requires.mode ∙ attribute_more c.args.outside c.args.c (tag_of c.args.self.now c.args.held.now) (part c.args.held.now c.args.self.now.attribute_start c.args.here) (raw_of c.args.self.now c.args.held.now c.args.here) (name_part_more c.args.held.now c.args.self.now.attribute_start c.args.here c.args.next c.args.c c.requires.sound.name c.requires.character (sym (c.may_grow.ensures (part c.args.held.now c.args.self.now.attribute_start c.args.here) (length-part c.args.held.now c.args.self.now.attribute_start c.args.here c.requires.sound.name.within)) ∙ c.if-may_grow.true)) (chars_more c.args.held.now c.args.self.now.start c.args.here c.args.next c.args.c c.requires.sound.tag.whole c.requires.character) (sym (c.may_grow.ensures (part c.args.held.now c.args.self.now.attribute_start c.args.here) (length-part c.args.held.now c.args.self.now.attribute_start c.args.here c.requires.sound.name.within)) ∙ c.if-may_grow.true);
  sound = subst (λ m. IsSoundAt m c.args.self.now c.args.held.now c.args.next) (sym c.requires.mode) (record { tag = open_more c.args.held.now c.args.self.now.start c.args.self.now.name_end c.args.here c.args.next c.args.c c.requires.sound.tag c.requires.character; name = name_more c.args.held.now c.args.self.now.attribute_start c.args.here c.args.next c.args.c c.requires.sound.name c.requires.character (sym (c.may_grow.ensures (part c.args.held.now c.args.self.now.attribute_start c.args.here) (length-part c.args.held.now c.args.self.now.attribute_start c.args.here c.requires.sound.name.within)) ∙ c.if-may_grow.true) });
}

pub returns-else-may_grow : goal.returns-else-may_grow
returns-else-may_grow c = record {
  same = c.before_equals.ensures.same ∙ attribute_stops c.args.outside c.args.c (tag_of c.args.self.now c.args.held.now) (part c.args.held.now c.args.self.now.attribute_start c.args.here) (raw_of c.args.self.now c.args.held.now c.args.here) (sym (c.may_grow.ensures (part c.args.held.now c.args.self.now.attribute_start c.args.here) (length-part c.args.held.now c.args.self.now.attribute_start c.args.here c.requires.sound.name.within)) ∙ c.if-may_grow.false) (name_some (part c.args.held.now c.args.self.now.attribute_start c.args.here) c.requires.sound.name.name);
  sound = c.before_equals.ensures.sound;
}
