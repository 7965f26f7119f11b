use Rattle.std.proofs.Common.{◌≡◌, drop}
use Rattle.gateway_core.specs.Lists.{want_listed, AreKnown}
use Rattle.gateway_core.proofs.listing.want_each.Given as goal

abbrev pub invariant-headers : goal.invariant-headers
invariant-headers l = record { known : AreKnown (drop l.header-index l.headers) l.orders; rest : want_listed (drop l.header-index l.headers) l.orders ≡ want_listed l.headers l.initial.orders }
