use Rattle.std.proofs.Common.{◌≡◌, None, drop}
use Rattle.server_peer.specs.Dues.{first_from}
use Rattle.server_peer.proofs.due.first_due.Given as goal

abbrev pub invariant-rows : goal.invariant-rows
invariant-rows l = first_from l.journal l.best (drop l.row-index l.rows) ≡ first_from l.journal None l.rows
