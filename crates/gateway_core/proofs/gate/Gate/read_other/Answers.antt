use Rattle.mos_machines.specs.Values.{seen}
use Rattle.gateway_core.specs.Parts.{asking_of, decks_of}
use Rattle.gateway_core.proofs.UpperSteps.{asked-after-read}
use Rattle.gateway_core.proofs.gate.Gate.read_other.Goals as goal

pub invariant_of-self-2 : goal.invariant_of-self-2
invariant_of-self-2 c = asked-after-read c.read_message.result (asking_of c.self.inside.out) c.self.inside.orders c.read_message.new.orders (decks_of c.args.decks) (seen c.args.m.now) c.read_message.ensures.rows c.read_message.ensures.err c.self.invariant
