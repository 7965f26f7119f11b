use Rattle.std.proofs.Common.{sym}
use Rattle.rundown_log.proofs.PositionLemmas.{not-missing}
use Rattle.server_peer.proofs.sends.script_place.Goals as goal

pub unreachable-requires : goal.unreachable-requires
unreachable-requires c = not-missing c.args.ro.now c.args.journal.now c.args.k c.has_source.ensures (sym c.in-None.ensures)
