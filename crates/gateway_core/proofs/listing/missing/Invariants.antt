use Rattle.std.proofs.Common.{◌≡◌, ◌++◌, drop}
use Rattle.gateway_core.specs.Lists.{missing_rows}
use Rattle.gateway_core.proofs.listing.missing.Given as goal

abbrev pub invariant-headers : goal.invariant-headers
invariant-headers l = l.new.items ++ missing_rows (drop l.header-index l.headers) l.orders ≡ missing_rows l.headers l.orders
