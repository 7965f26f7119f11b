use Rattle.std.proofs.Common.{refl, sym, ◌∙◌}
use Rattle.mos_scanner.proofs.LexSteps.{declaration_end, declaration_more}
use Rattle.mos_scanner.proofs.scanner.Scanner.in_declaration.Goals as goal

pub returns-then-ends_declaration : goal.returns-then-ends_declaration
returns-then-ends_declaration c = record {
  same = declaration_end c.args.outside c.args.c c.args.question (sym c.ends_declaration.ensures ∙ c.if-ends_declaration.true);
  sound = tt;
}

pub returns-else-ends_declaration : goal.returns-else-ends_declaration
returns-else-ends_declaration c = record {
  same = declaration_more c.args.outside c.args.c c.args.question refl (sym c.ends_declaration.ensures ∙ c.if-ends_declaration.false);
  sound = tt;
}
