use Rattle.mos_fields.specs.Characters.{chars_of}
use Rattle.mos_scanner.specs.Parts.{part}
use Rattle.mos_scanner.specs.ScannerView.{raw_of, tag_of, given_name}
use Rattle.mos_scanner.proofs.TextLemmas.{referring_length, value_found_step, value_refers_step}
use Rattle.mos_scanner.proofs.LexSteps.{value_never}
use Rattle.mos_scanner.proofs.scanner.Scanner.in_value_reference.Goals as goal

pub returns-in_ok-push_resolved-in-Found : goal.returns-in_ok-push_resolved-in-Found
returns-in_ok-push_resolved-in-Found c = value_found_step c.args.self.now c.push_resolved.new.self c.args.outside c.args.held.now c.args.here c.args.next c.args.c c.in-Found.d c.requires.sound c.requires.character (c.in-Found.ensures (part c.args.held.now c.args.self.now.reference c.args.here) c.requires.sound.referring.is) c.in_ok-push_resolved-in-Found.ensures.same c.in_ok-push_resolved-in-Found.ensures.text

pub returns-in-Begun : goal.returns-in-Begun
returns-in-Begun c = value_refers_step c.args.self.now c.in-Begun.reference c.args.outside c.args.held.now c.args.here c.args.next c.args.c c.requires.mode c.requires.sound c.requires.character (c.in-Begun.ensures (part c.args.held.now c.args.self.now.reference c.args.here) c.requires.sound.referring.is)

pub returns-in-Never : goal.returns-in-Never
returns-in-Never c = record {
  same = value_never c.args.outside c.args.c (tag_of c.args.self.now c.args.held.now) (given_name c.args.self.now c.args.held.now) c.args.self.now.quote (chars_of c.args.self.now.text.items) (raw_of c.args.self.now c.args.held.now c.args.here) (part c.args.held.now c.args.self.now.reference c.args.here) (referring_length c.args.held.now c.args.self.now.reference c.args.here c.args.c c.args.self.now.referring c.args.self.now.text.items c.requires.sound.referring) (c.in-Never.ensures (part c.args.held.now c.args.self.now.reference c.args.here) c.requires.sound.referring.is).not (c.in-Never.ensures (part c.args.held.now c.args.self.now.reference c.args.here) c.requires.sound.referring.is).begins;
  sound = tt;
}
