use Rattle.std.proofs.Common.{sym, ◌∙◌, arith}
use Rattle.mos_scanner.proofs.StartRuns.{tag_begins, text_begins}
use Rattle.mos_scanner.proofs.scanner.Scanner.skip_begin.Goals as goal

pub returns-then-held-here-eq60 : goal.returns-then-held-here-eq60
returns-then-held-here-eq60 c = let h = c.if-here-held.false in tag_begins c.args.self.now c.args.held.now c.args.here c.in-Begin.is c.requires.sound (omega (arith, h)) c.if-held-here-eq60.true

pub returns-then-is_plain : goal.returns-then-is_plain
returns-then-is_plain c = let h = c.if-here-held.false in text_begins c.args.self.now c.args.held.now c.args.here c.in-Begin.is c.requires.sound (omega (arith, h)) (sym c.is_plain.ensures ∙ c.if-is_plain.true)
