-- Devices without objects.
use Rattle.std.proofs.Common.{◌≡◌, List, [], ◌∷◌, ◌++◌}
use Rattle.lower_port.specs.Servers.{ServerSide}
use Rattle.port_nodes.specs.ServerNodes.{AreNewSides, new_side}

pub new-more : (ports : List ServerSide) (p : ServerSide) → AreNewSides ports → p ≡ new_side → AreNewSides (ports ++ p ∷ [])
new-more [] p h e = (e, tt)
new-more (x ∷ xs) p h e = (h.0, new-more xs p h.1 e)
