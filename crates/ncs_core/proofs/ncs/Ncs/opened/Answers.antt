use Rattle.std.proofs.Common.{false, refl}
use Rattle.ncs_core.proofs.GivenPeers.{new-state}
use Rattle.ncs_core.proofs.ncs.Ncs.opened.Goals as goal

pub returns-in-Ok-clause-state : goal.returns-in-Ok-clause-state
returns-in-Ok-clause-state g c = new-state (record { journal = c.load_more.new.journal; stopped = false; faults = g.K.Keeper.faults c.load_more.new.keeper; peers = c.args.peers.items }) c.requires.new refl
