use Rattle.std.proofs.Common.{sym, ap, ◌∙◌, subst, eq-eqb, ne_eqb}
use Rattle.mos_fields.specs.Characters.{IsUtf16, chars_of}
use Rattle.mos_scanner.proofs.PartLemmas.{part_none}
use Rattle.mos_fields.proofs.CharacterLemmas.{chars_of-nil, IsUtf16-nil}
use Rattle.mos_scanner.proofs.TagLemmas.{tag_begun}
use Rattle.mos_scanner.proofs.TextLemmas.{begun_text, begun_chars, reference_begun}
use Rattle.mos_scanner.proofs.LexSteps.{begin_tag, begin_mark, begin_reference, begin_text}
use Rattle.mos_scanner.proofs.scanner.Scanner.at_begin.Goals as goal

pub returns-then-c-eq60 : goal.returns-then-c-eq60
returns-then-c-eq60 c = record {
  same = begin_tag c.args.outside c.args.c (eq-eqb c.args.c 60 c.if-c-eq60.true);
  sound = tag_begun c.args.held.now c.args.self.now.start c.args.here c.args.next c.args.c c.requires.sound c.requires.character c.if-c-eq60.true;
}

pub returns-then-is_mark : goal.returns-then-is_mark
returns-then-is_mark c = record {
  same = begin_mark c.args.outside c.args.c (ne_eqb c.args.c 60 c.if-c-eq60.false) (sym c.is_mark.ensures ∙ c.if-is_mark.true);
  sound = tt;
}

pub returns-then-c-eq38 : goal.returns-then-c-eq38
returns-then-c-eq38 c = record {
  same = begin_reference c.args.outside c.args.c (begun_chars c.args.held.now c.args.self.now.start c.args.here c.args.next c.args.c c.requires.sound c.requires.character) (ap chars_of c.clear.ensures.items ∙ chars_of-nil) (part_none c.args.held.now c.args.next) (ne_eqb c.args.c 60 c.if-c-eq60.false) (sym c.is_mark.ensures ∙ c.if-is_mark.false) (eq-eqb c.args.c 38 c.if-c-eq38.true);
  sound = record { whole = begun_text c.args.held.now c.args.self.now.start c.args.here c.args.next c.args.c c.requires.sound c.requires.character; referring = reference_begun c.args.held.now c.args.next c.clear.new.self.items c.requires.character.within (subst IsUtf16 (sym c.clear.ensures.items) IsUtf16-nil) };
}

pub returns-else-c-eq38 : goal.returns-else-c-eq38
returns-else-c-eq38 c = record {
  same = begin_text c.args.outside c.args.c (begun_chars c.args.held.now c.args.self.now.start c.args.here c.args.next c.args.c c.requires.sound c.requires.character) (begun_chars c.args.held.now c.args.self.now.start c.args.here c.args.next c.args.c c.requires.sound c.requires.character) (ne_eqb c.args.c 60 c.if-c-eq60.false) (sym c.is_mark.ensures ∙ c.if-is_mark.false) (ne_eqb c.args.c 38 c.if-c-eq38.false);
  sound = let t = begun_text c.args.held.now c.args.self.now.start c.args.here c.args.next c.args.c c.requires.sound c.requires.character in record { whole = t; resolving = t.text };
}
