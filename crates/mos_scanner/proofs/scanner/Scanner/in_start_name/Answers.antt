use Rattle.std.proofs.Common.{◌+◌, sym, ap, ◌∙◌, subst}
use Rattle.mos_fields.specs.Characters.{chars_of}
use Rattle.mos_scanner.specs.Parts.{part}
use Rattle.mos_scanner.specs.ScannerView.{IsSoundAt, state_of}
use Rattle.mos_lexer.specs.LexMachine.{continues}
use Rattle.mos_scanner.proofs.TagLemmas.{name_some, name_part_more, start_length, start_name_more, start_chars}
use Rattle.mos_scanner.proofs.LexSteps.{name_more as lex_name_more, name_stops}
use Rattle.mos_scanner.proofs.scanner.Scanner.in_start_name.Goals as goal

pub returns-then-may_grow : goal.returns-then-may_grow
returns-then-may_grow c = record {
  same = ap (λ m. continues (state_of m c.args.self.now c.args.held.now c.args.next)) c.requires.mode ∙ lex_name_more c.args.outside c.args.c (part c.args.held.now (c.args.self.now.start + 1) c.args.here) (name_part_more c.args.held.now (c.args.self.now.start + 1) c.args.here c.args.next c.args.c c.requires.sound.name c.requires.character (sym (c.may_grow.ensures (part c.args.held.now (c.args.self.now.start + 1) c.args.here) (start_length c.args.held.now c.args.self.now.start c.args.here c.requires.sound.name)) ∙ c.if-may_grow.true)) (sym (c.may_grow.ensures (part c.args.held.now (c.args.self.now.start + 1) c.args.here) (start_length c.args.held.now c.args.self.now.start c.args.here c.requires.sound.name)) ∙ c.if-may_grow.true);
  sound = subst (λ m. IsSoundAt m c.args.self.now c.args.held.now c.args.next) (sym c.requires.mode) (start_name_more c.args.held.now c.args.self.now.start c.args.here c.args.next c.args.c c.args.self.now.attributes.items c.requires.sound c.requires.character (sym (c.may_grow.ensures (part c.args.held.now (c.args.self.now.start + 1) c.args.here) (start_length c.args.held.now c.args.self.now.start c.args.here c.requires.sound.name)) ∙ c.if-may_grow.true));
}

pub returns-else-may_grow : goal.returns-else-may_grow
returns-else-may_grow c = record {
  same = c.in_start.ensures.same ∙ name_stops c.args.outside c.args.c (part c.args.held.now (c.args.self.now.start + 1) c.args.here) c.requires.sound.none (ap chars_of c.requires.sound.begins ∙ start_chars c.args.held.now c.args.self.now.start c.args.here c.requires.sound.name) (sym (c.may_grow.ensures (part c.args.held.now (c.args.self.now.start + 1) c.args.here) (start_length c.args.held.now c.args.self.now.start c.args.here c.requires.sound.name)) ∙ c.if-may_grow.false) (name_some (part c.args.held.now (c.args.self.now.start + 1) c.args.here) c.requires.sound.name.name);
  sound = c.in_start.ensures.sound;
}
