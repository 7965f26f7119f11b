use Rattle.std.proofs.Common.{sym, ap, ◌∙◌, subst}
use Rattle.mos_fields.specs.Characters.{chars_of}
use Rattle.mos_scanner.specs.ScannerView.{raw_of, tag_of, given_name, IsSoundAt, state_of}
use Rattle.mos_lexer.specs.LexMachine.{continues}
use Rattle.mos_scanner.proofs.PartLemmas.{part_none, chars_more, text_none}
use Rattle.mos_fields.proofs.CharacterLemmas.{chars_of-nil}
use Rattle.mos_scanner.proofs.TagLemmas.{given_more}
use Rattle.mos_scanner.proofs.LexSteps.{value_space, value_quote, value_none}
use Rattle.mos_scanner.proofs.scanner.Scanner.before_value.Goals as goal

pub returns-then-is_quote : goal.returns-then-is_quote
returns-then-is_quote c = record {
  same = value_quote c.args.outside c.args.c (tag_of c.args.self.now c.args.held.now) (given_name c.args.self.now c.args.held.now) (raw_of c.args.self.now c.args.held.now c.args.here) (ap chars_of (part_none c.args.held.now c.args.next) ∙ chars_of-nil) (chars_more c.args.held.now c.args.self.now.start c.args.here c.args.next c.args.c c.requires.sound.tag.whole c.requires.character) (sym c.is_space.ensures ∙ c.if-is_space.false) (sym c.is_quote.ensures ∙ c.if-is_quote.true);
  sound = record { valued = record { given = given_more c.args.held.now c.args.self.now.start c.args.self.now.name_end c.args.self.now.attribute_start c.args.self.now.attribute_end c.args.here c.args.next c.args.c c.requires.sound c.requires.character; quoted = (sym c.is_quote.ensures ∙ c.if-is_quote.true); value = text_none c.args.held.now c.args.next c.requires.character.within }; resolving = (text_none c.args.held.now c.args.next c.requires.character.within).text };
}

pub returns-else-is_quote : goal.returns-else-is_quote
returns-else-is_quote c = record {
  same = value_none c.args.outside c.args.c (tag_of c.args.self.now c.args.held.now) (given_name c.args.self.now c.args.held.now) (raw_of c.args.self.now c.args.held.now c.args.here) (sym c.is_space.ensures ∙ c.if-is_space.false) (sym c.is_quote.ensures ∙ c.if-is_quote.false);
  sound = tt;
}

pub returns-then-is_space : goal.returns-then-is_space
returns-then-is_space c = record {
  same = ap (λ m. continues (state_of m c.args.self.now c.args.held.now c.args.next)) c.requires.mode ∙ value_space c.args.outside c.args.c (tag_of c.args.self.now c.args.held.now) (given_name c.args.self.now c.args.held.now) (raw_of c.args.self.now c.args.held.now c.args.here) (chars_more c.args.held.now c.args.self.now.start c.args.here c.args.next c.args.c c.requires.sound.tag.whole c.requires.character) (sym c.is_space.ensures ∙ c.if-is_space.true);
  sound = subst (λ m. IsSoundAt m c.args.self.now c.args.held.now c.args.next) (sym c.requires.mode) (given_more c.args.held.now c.args.self.now.start c.args.self.now.name_end c.args.self.now.attribute_start c.args.self.now.attribute_end c.args.here c.args.next c.args.c c.requires.sound c.requires.character);
}
