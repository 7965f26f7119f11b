use Rattle.std.proofs.Common.{sym, ◌∙◌, eq-eqb, ne_eqb}
use Rattle.mos_scanner.proofs.TagLemmas.{start_begun, start_name_begun, end_name_none, end_name_begun}
use Rattle.mos_scanner.proofs.LexSteps.{tag_end, tag_question, tag_name as lex_tag_name, tag_none}
use Rattle.mos_scanner.proofs.scanner.Scanner.in_tag.Goals as goal

pub returns-then-c-eq47 : goal.returns-then-c-eq47
returns-then-c-eq47 c = record {
  same = tag_end c.args.outside c.args.c (end_name_none c.args.held.now c.args.self.now.start c.args.here c.args.next c.args.c c.requires.sound c.requires.character c.if-c-eq47.true) (eq-eqb c.args.c 47 c.if-c-eq47.true);
  sound = end_name_begun c.args.held.now c.args.self.now.start c.args.here c.args.next c.args.c c.requires.sound c.requires.character c.if-c-eq47.true;
}

pub returns-then-c-eq63 : goal.returns-then-c-eq63
returns-then-c-eq63 c = record {
  same = tag_question c.args.outside c.args.c (ne_eqb c.args.c 47 c.if-c-eq47.false) (eq-eqb c.args.c 63 c.if-c-eq63.true);
  sound = tt;
}

pub returns-then-is_start : goal.returns-then-is_start
returns-then-is_start c = record {
  same = lex_tag_name c.args.outside c.args.c (start_begun c.args.held.now c.args.self.now.start c.args.here c.args.next c.args.c c.requires.sound c.requires.character (sym c.is_start.ensures ∙ c.if-is_start.true)) (ne_eqb c.args.c 47 c.if-c-eq47.false) (ne_eqb c.args.c 63 c.if-c-eq63.false) (sym c.is_start.ensures ∙ c.if-is_start.true);
  sound = start_name_begun c.args.held.now c.args.self.now.start c.args.here c.args.next c.args.c _ c.requires.sound c.requires.character (sym c.is_start.ensures ∙ c.if-is_start.true) c.clear.ensures.items;
}

pub returns-else-is_start : goal.returns-else-is_start
returns-else-is_start c = record {
  same = tag_none c.args.outside c.args.c (ne_eqb c.args.c 47 c.if-c-eq47.false) (ne_eqb c.args.c 63 c.if-c-eq63.false) (sym c.is_start.ensures ∙ c.if-is_start.false);
  sound = tt;
}
