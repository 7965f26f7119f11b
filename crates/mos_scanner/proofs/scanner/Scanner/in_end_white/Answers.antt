use Rattle.std.proofs.Common.{sym, ◌∙◌, eq-eqb, ne_eqb}
use Rattle.mos_scanner.specs.ScannerView.{end_tag_name}
use Rattle.mos_scanner.proofs.TagLemmas.{end_white_more}
use Rattle.mos_scanner.proofs.LexSteps.{white_end, white_space, white_none}
use Rattle.mos_scanner.proofs.scanner.Scanner.in_end_white.Goals as goal

pub returns-then-c-eq62 : goal.returns-then-c-eq62
returns-then-c-eq62 c = record {
  same = white_end c.args.outside c.args.c (end_tag_name c.args.self.now c.args.held.now) (eq-eqb c.args.c 62 c.if-c-eq62.true);
  sound = end_white_more c.args.held.now c.args.self.now.start c.args.self.now.name_end c.args.here c.args.next c.args.c c.requires.sound c.requires.character;
}

pub returns-then-is_space : goal.returns-then-is_space
returns-then-is_space c = record {
  same = white_space c.args.outside c.args.c (end_tag_name c.args.self.now c.args.held.now) (ne_eqb c.args.c 62 c.if-c-eq62.false) (sym c.is_space.ensures ∙ c.if-is_space.true);
  sound = end_white_more c.args.held.now c.args.self.now.start c.args.self.now.name_end c.args.here c.args.next c.args.c c.requires.sound c.requires.character;
}

pub returns-else-is_space : goal.returns-else-is_space
returns-else-is_space c = record {
  same = white_none c.args.outside c.args.c (end_tag_name c.args.self.now c.args.held.now) (ne_eqb c.args.c 62 c.if-c-eq62.false) (sym c.is_space.ensures ∙ c.if-is_space.false);
  sound = tt;
}
