use Rattle.mos_scanner.proofs.HeldLemmas.{sound_held, state_held}
use Rattle.mos_scanner.proofs.scanner.Scanner.stays_read.Goals as goal

pub returns-clause-state : goal.returns-clause-state
returns-clause-state c = state_held c.args.held.now c.args.more.now c.args.self.now.mode c.args.self.now c.args.here c.requires

pub returns-clause-sound : goal.returns-clause-sound
returns-clause-sound c = sound_held c.args.held.now c.args.more.now c.args.self.now.mode c.args.self.now c.args.here c.requires
