use Rattle.std.proofs.Common.{◌≡◌, [], ◌∷◌, ◌++◌, length, sym, ap, subst, arith}
use Rattle.std.proofs.lemmas.List.{length_push}
use Rattle.world_stage.specs.Playing.{AreNew}
use Rattle.world_stage.proofs.Plays.{new-more}
use Rattle.world_stage.proofs.play.new_gateways.Goals as goal

pub gateways-preserved : goal.gateways-preserved
gateways-preserved c =
    let items : c.push.new.self.items ≡ c.gateways.gateways.items ++ c.new.result ∷ [] = c.in_ok-push.ensures.items in
    let longer = length_push c.gateways.gateways.items c.new.result in
    let count : length c.push.new.self.items ≡ length (c.gateways.gateways.items ++ c.new.result ∷ []) = ap length items in
    (subst AreNew (sym items) (new-more c.gateways.gateways.items c.new.result c.gateways.invariant.0 c.new.ensures), omega (arith, longer, count))
