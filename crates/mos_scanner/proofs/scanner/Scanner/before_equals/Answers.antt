use Rattle.std.proofs.Common.{sym, ◌∙◌, eq-eqb, ne_eqb}
use Rattle.mos_scanner.specs.ScannerView.{raw_of, tag_of, given_name}
use Rattle.mos_scanner.proofs.PartLemmas.{chars_more}
use Rattle.mos_scanner.proofs.TagLemmas.{given_more}
use Rattle.mos_scanner.proofs.LexSteps.{equals_space, equals_sign, equals_none}
use Rattle.mos_scanner.proofs.scanner.Scanner.before_equals.Goals as goal

pub returns-then-is_space : goal.returns-then-is_space
returns-then-is_space c = record {
  same = equals_space c.args.outside c.args.c (tag_of c.args.self.now c.args.held.now) (given_name c.args.self.now c.args.held.now) (raw_of c.args.self.now c.args.held.now c.args.here) (chars_more c.args.held.now c.args.self.now.start c.args.here c.args.next c.args.c c.requires.sound.tag.whole c.requires.character) (sym c.is_space.ensures ∙ c.if-is_space.true);
  sound = given_more c.args.held.now c.args.self.now.start c.args.self.now.name_end c.args.self.now.attribute_start c.args.self.now.attribute_end c.args.here c.args.next c.args.c c.requires.sound c.requires.character;
}

pub returns-then-c-eq61 : goal.returns-then-c-eq61
returns-then-c-eq61 c = record {
  same = equals_sign c.args.outside c.args.c (tag_of c.args.self.now c.args.held.now) (given_name c.args.self.now c.args.held.now) (raw_of c.args.self.now c.args.held.now c.args.here) (chars_more c.args.held.now c.args.self.now.start c.args.here c.args.next c.args.c c.requires.sound.tag.whole c.requires.character) (sym c.is_space.ensures ∙ c.if-is_space.false) (eq-eqb c.args.c 61 c.if-c-eq61.true);
  sound = given_more c.args.held.now c.args.self.now.start c.args.self.now.name_end c.args.self.now.attribute_start c.args.self.now.attribute_end c.args.here c.args.next c.args.c c.requires.sound c.requires.character;
}

pub returns-else-c-eq61 : goal.returns-else-c-eq61
returns-else-c-eq61 c = record {
  same = equals_none c.args.outside c.args.c (tag_of c.args.self.now c.args.held.now) (given_name c.args.self.now c.args.held.now) (raw_of c.args.self.now c.args.held.now c.args.here) (sym c.is_space.ensures ∙ c.if-is_space.false) (ne_eqb c.args.c 61 c.if-c-eq61.false);
  sound = tt;
}
