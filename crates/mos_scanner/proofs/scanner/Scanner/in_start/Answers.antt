use Rattle.std.proofs.Common.{sym, ◌∙◌, eq-eqb, ne_eqb}
use Rattle.mos_scanner.specs.ScannerView.{raw_of, tag_of}
use Rattle.mos_scanner.proofs.PartLemmas.{chars_more, name_begun}
use Rattle.mos_scanner.proofs.TagLemmas.{open_more, unit_begun, attribute_begins}
use Rattle.mos_scanner.proofs.LexSteps.{start_space, start_end, start_slash, start_attribute, start_none}
use Rattle.mos_scanner.proofs.scanner.Scanner.in_start.Goals as goal

pub returns-then-is_space : goal.returns-then-is_space
returns-then-is_space c = record {
  same = start_space c.args.outside c.args.c (tag_of c.args.self.now c.args.held.now) c.args.spaced (raw_of c.args.self.now c.args.held.now c.args.here) (chars_more c.args.held.now c.args.self.now.start c.args.here c.args.next c.args.c c.requires.sound.whole c.requires.character) (sym c.is_space.ensures ∙ c.if-is_space.true);
  sound = open_more c.args.held.now c.args.self.now.start c.args.self.now.name_end c.args.here c.args.next c.args.c c.requires.sound c.requires.character;
}

pub returns-then-c-eq62 : goal.returns-then-c-eq62
returns-then-c-eq62 c = record {
  same = start_end c.args.outside c.args.c (tag_of c.args.self.now c.args.held.now) c.args.spaced (raw_of c.args.self.now c.args.held.now c.args.here) (chars_more c.args.held.now c.args.self.now.start c.args.here c.args.next c.args.c c.requires.sound.whole c.requires.character) (sym c.is_space.ensures ∙ c.if-is_space.false) (eq-eqb c.args.c 62 c.if-c-eq62.true);
  sound = open_more c.args.held.now c.args.self.now.start c.args.self.now.name_end c.args.here c.args.next c.args.c c.requires.sound c.requires.character;
}

pub returns-then-c-eq47 : goal.returns-then-c-eq47
returns-then-c-eq47 c = record {
  same = start_slash c.args.outside c.args.c (tag_of c.args.self.now c.args.held.now) c.args.spaced (raw_of c.args.self.now c.args.held.now c.args.here) (chars_more c.args.held.now c.args.self.now.start c.args.here c.args.next c.args.c c.requires.sound.whole c.requires.character) (sym c.is_space.ensures ∙ c.if-is_space.false) (ne_eqb c.args.c 62 c.if-c-eq62.false) (eq-eqb c.args.c 47 c.if-c-eq47.true);
  sound = open_more c.args.held.now c.args.self.now.start c.args.self.now.name_end c.args.here c.args.next c.args.c c.requires.sound c.requires.character;
}

pub returns-then-begins_attribute : goal.returns-then-begins_attribute
returns-then-begins_attribute c = record {
  same = start_attribute c.args.outside c.args.c (tag_of c.args.self.now c.args.held.now) c.args.spaced (raw_of c.args.self.now c.args.held.now c.args.here) (unit_begun c.args.held.now c.args.here c.args.next c.args.c c.requires.character (attribute_begins c.args.spaced c.args.c (sym c.begins_attribute.ensures ∙ c.if-begins_attribute.true))) (chars_more c.args.held.now c.args.self.now.start c.args.here c.args.next c.args.c c.requires.sound.whole c.requires.character) (sym c.is_space.ensures ∙ c.if-is_space.false) (ne_eqb c.args.c 62 c.if-c-eq62.false) (ne_eqb c.args.c 47 c.if-c-eq47.false) (sym c.begins_attribute.ensures ∙ c.if-begins_attribute.true);
  sound = record { tag = open_more c.args.held.now c.args.self.now.start c.args.self.now.name_end c.args.here c.args.next c.args.c c.requires.sound c.requires.character; name = name_begun c.args.held.now c.args.here c.args.next c.args.c c.requires.character (attribute_begins c.args.spaced c.args.c (sym c.begins_attribute.ensures ∙ c.if-begins_attribute.true)) };
}

pub returns-else-begins_attribute : goal.returns-else-begins_attribute
returns-else-begins_attribute c = record {
  same = start_none c.args.outside c.args.c (tag_of c.args.self.now c.args.held.now) c.args.spaced (raw_of c.args.self.now c.args.held.now c.args.here) (sym c.is_space.ensures ∙ c.if-is_space.false) (ne_eqb c.args.c 62 c.if-c-eq62.false) (ne_eqb c.args.c 47 c.if-c-eq47.false) (sym c.begins_attribute.ensures ∙ c.if-begins_attribute.false);
  sound = tt;
}
