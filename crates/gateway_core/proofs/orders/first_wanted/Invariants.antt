use Rattle.std.proofs.Common.{◌≡◌, drop}
use Rattle.gateway_core.specs.Parts.{first_wanted_row}
use Rattle.gateway_core.proofs.orders.first_wanted.Given as goal

abbrev pub invariant-rows : goal.invariant-rows
invariant-rows l = first_wanted_row l.rows ≡ first_wanted_row (drop l.row-index l.rows)
