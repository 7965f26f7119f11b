use Rattle.std.proofs.Common.{◌≡◌, ◌++◌, drop}
use Rattle.mos_machines.specs.Tables.{row_ids}
use Rattle.ncs_core.proofs.listing.ids_in.Given as goal

abbrev pub invariant-rows : goal.invariant-rows
invariant-rows l = l.ids.items ++ row_ids (drop l.row-index l.rows) ≡ row_ids l.rows
