use Rattle.std.proofs.Common.{◌+◌, sym, ap, ◌∙◌, subst}
use Rattle.mos_scanner.specs.Parts.{part}
use Rattle.mos_scanner.specs.ScannerView.{IsSoundAt, state_of}
use Rattle.mos_lexer.specs.LexMachine.{continues}
use Rattle.mos_scanner.proofs.TagLemmas.{end_length, end_part_more, end_name_more, end_is_empty, end_not_empty}
use Rattle.mos_scanner.proofs.LexSteps.{end_more, end_empty, end_stops}
use Rattle.mos_scanner.proofs.scanner.Scanner.in_end_name.Goals as goal

pub returns-then-may_grow : goal.returns-then-may_grow
returns-then-may_grow c = record {
  same = ap (λ m. continues (state_of m c.args.self.now c.args.held.now c.args.next)) c.requires.mode ∙ end_more c.args.outside c.args.c (part c.args.held.now (c.args.self.now.start + 2) c.args.here) (end_part_more c.args.held.now c.args.self.now.start c.args.here c.args.next c.args.c c.requires.sound c.requires.character (sym (c.may_grow.ensures (part c.args.held.now (c.args.self.now.start + 2) c.args.here) (end_length c.args.held.now c.args.self.now.start c.args.here c.requires.sound)) ∙ c.if-may_grow.true)) (sym (c.may_grow.ensures (part c.args.held.now (c.args.self.now.start + 2) c.args.here) (end_length c.args.held.now c.args.self.now.start c.args.here c.requires.sound)) ∙ c.if-may_grow.true);
  sound = subst (λ m. IsSoundAt m c.args.self.now c.args.held.now c.args.next) (sym c.requires.mode) (end_name_more c.args.held.now c.args.self.now.start c.args.here c.args.next c.args.c c.requires.sound c.requires.character (sym (c.may_grow.ensures (part c.args.held.now (c.args.self.now.start + 2) c.args.here) (end_length c.args.held.now c.args.self.now.start c.args.here c.requires.sound)) ∙ c.if-may_grow.true));
}

pub returns-then-length-eq0 : goal.returns-then-length-eq0
returns-then-length-eq0 c = record {
  same = end_empty c.args.outside c.args.c (part c.args.held.now (c.args.self.now.start + 2) c.args.here) (sym (c.may_grow.ensures (part c.args.held.now (c.args.self.now.start + 2) c.args.here) (end_length c.args.held.now c.args.self.now.start c.args.here c.requires.sound)) ∙ c.if-may_grow.false) (end_is_empty c.args.held.now c.args.self.now.start c.args.here c.requires.sound c.if-length-eq0.true);
  sound = tt;
}

pub returns-else-length-eq0 : goal.returns-else-length-eq0
returns-else-length-eq0 c = record {
  same = c.in_end_white.ensures.same ∙ end_stops c.args.outside c.args.c (part c.args.held.now (c.args.self.now.start + 2) c.args.here) (sym (c.may_grow.ensures (part c.args.held.now (c.args.self.now.start + 2) c.args.here) (end_length c.args.held.now c.args.self.now.start c.args.here c.requires.sound)) ∙ c.if-may_grow.false) (end_not_empty c.args.held.now c.args.self.now.start c.args.here c.requires.sound c.if-length-eq0.false);
  sound = c.in_end_white.ensures.sound;
}
