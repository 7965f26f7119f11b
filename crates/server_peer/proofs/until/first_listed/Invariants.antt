use Rattle.std.proofs.Common.{◌≡◌, None, drop}
use Rattle.mos_machines.specs.Tables.{map_rows}
use Rattle.server_peer.specs.Dues.{first_from, only_listed}
use Rattle.server_peer.proofs.until.first_listed.Given as goal

abbrev pub invariant-rows : goal.invariant-rows
invariant-rows l = first_from l.journal l.best (map_rows (only_listed l.journal) (drop l.row-index l.rows)) ≡ first_from l.journal None (map_rows (only_listed l.journal) l.rows)
