use Rattle.std.proofs.Common.{◌≡◌, ◌++◌, ◌∷◌, [], length, sym, ap, subst, arith}
use Rattle.std.proofs.lemmas.List.{length_push}
use Rattle.port_nodes.specs.ServerNodes.{AreNewSides}
use Rattle.port_nodes.proofs.NewSides.{new-more}
use Rattle.port_nodes.proofs.server_ports.new_ports.Goals as goal

pub ports-preserved : goal.ports-preserved
ports-preserved c =
    let items : c.push.new.self.items ≡ c.ports.ports.items ++ c.new_port.result ∷ [] = c.in_ok-push.ensures.items in
    let longer = length_push c.ports.ports.items c.new_port.result in
    let count : length c.push.new.self.items ≡ length (c.ports.ports.items ++ c.new_port.result ∷ []) = ap length items in
    (subst AreNewSides (sym items) (new-more c.ports.ports.items c.new_port.result c.ports.invariant.0 c.new_port.ensures), omega (arith, longer, count))
