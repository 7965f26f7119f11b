use Rattle.mos_fields.specs.Characters.{chars_of}
use Rattle.mos_scanner.specs.Parts.{part}
use Rattle.mos_scanner.specs.ScannerView.{raw_of}
use Rattle.mos_scanner.proofs.TextLemmas.{referring_length, text_found_step, text_refers_step}
use Rattle.mos_scanner.proofs.LexSteps.{text_never}
use Rattle.mos_scanner.proofs.scanner.Scanner.in_text_reference.Goals as goal

pub returns-in_ok-push_resolved-in-Found : goal.returns-in_ok-push_resolved-in-Found
returns-in_ok-push_resolved-in-Found c = text_found_step c.args.self.now c.push_resolved.new.self c.args.outside c.args.held.now c.args.here c.args.next c.args.c c.in-Found.d c.requires.sound c.requires.character (c.in-Found.ensures (part c.args.held.now c.args.self.now.reference c.args.here) c.requires.sound.referring.is) c.in_ok-push_resolved-in-Found.ensures.same c.in_ok-push_resolved-in-Found.ensures.text

pub returns-in-Begun : goal.returns-in-Begun
returns-in-Begun c = text_refers_step c.args.self.now c.in-Begun.reference c.args.outside c.args.held.now c.args.here c.args.next c.args.c c.requires.mode c.requires.sound c.requires.character (c.in-Begun.ensures (part c.args.held.now c.args.self.now.reference c.args.here) c.requires.sound.referring.is)

pub returns-in-Never : goal.returns-in-Never
returns-in-Never c = record {
  same = text_never c.args.outside c.args.c (raw_of c.args.self.now c.args.held.now c.args.here) (chars_of c.args.self.now.text.items) (part c.args.held.now c.args.self.now.reference c.args.here) (referring_length c.args.held.now c.args.self.now.reference c.args.here c.args.c c.args.self.now.referring c.args.self.now.text.items c.requires.sound.referring) (c.in-Never.ensures (part c.args.held.now c.args.self.now.reference c.args.here) c.requires.sound.referring.is).not (c.in-Never.ensures (part c.args.held.now c.args.self.now.reference c.args.here) c.requires.sound.referring.is).begins;
  sound = tt;
}
