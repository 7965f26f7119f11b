use Rattle.std.proofs.Common.{eq-eqb, ne_eqb}
use Rattle.mos_scanner.specs.ScannerView.{raw_of, tag_of}
use Rattle.mos_scanner.proofs.PartLemmas.{chars_more}
use Rattle.mos_scanner.proofs.TagLemmas.{open_more}
use Rattle.mos_scanner.proofs.LexSteps.{close_end, close_none}
use Rattle.mos_scanner.proofs.scanner.Scanner.before_close.Goals as goal

pub returns-then-c-eq62 : goal.returns-then-c-eq62
returns-then-c-eq62 c = record {
  same = close_end c.args.outside c.args.c (tag_of c.args.self.now c.args.held.now) (raw_of c.args.self.now c.args.held.now c.args.here) (chars_more c.args.held.now c.args.self.now.start c.args.here c.args.next c.args.c c.requires.sound.whole c.requires.character) (eq-eqb c.args.c 62 c.if-c-eq62.true);
  sound = open_more c.args.held.now c.args.self.now.start c.args.self.now.name_end c.args.here c.args.next c.args.c c.requires.sound c.requires.character;
}

pub returns-else-c-eq62 : goal.returns-else-c-eq62
returns-else-c-eq62 c = record {
  same = close_none c.args.outside c.args.c (tag_of c.args.self.now c.args.held.now) (raw_of c.args.self.now c.args.held.now c.args.here) (ne_eqb c.args.c 62 c.if-c-eq62.false);
  sound = tt;
}
