use Rattle.std.proofs.Common.{ap, ◌∙◌}
use Rattle.mos_fields.specs.Characters.{chars_of}
use Rattle.mos_lexer.specs.LexMachine.{in_tail}
use Rattle.mos_scanner.specs.ScannerView.{tag_name}
use Rattle.mos_fields.proofs.CharacterLemmas.{chars_of-nil}
use Rattle.mos_scanner.proofs.PartLemmas.{part_none, text_none}
use Rattle.mos_scanner.proofs.scanner.Scanner.begin_tail.Goals as goal

pub returns-clause-state : goal.returns-clause-state
returns-clause-state c = ap (in_tail (tag_name c.args.self.now c.args.held.now)) (ap chars_of (part_none c.args.held.now c.args.place) ∙ chars_of-nil)

pub returns-clause-sound : goal.returns-clause-sound
returns-clause-sound c = record { name = c.requires.name; whole = text_none c.args.held.now c.args.place c.requires.whole.within }
