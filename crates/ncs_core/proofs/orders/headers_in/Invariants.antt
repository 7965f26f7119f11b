use Rattle.std.proofs.Common.{◌≡◌, ◌++◌, drop}
use Rattle.ncs_core.specs.State.{row_headers}
use Rattle.ncs_core.proofs.orders.headers_in.Given as goal

abbrev pub invariant-rows : goal.invariant-rows
invariant-rows l = l.headers ++ row_headers (drop l.row-index l.rows) ≡ row_headers l.rows
