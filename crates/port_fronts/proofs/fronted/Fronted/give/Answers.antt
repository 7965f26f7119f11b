use Rattle.std.proofs.Common.{◌≡◌, ℕ, List, ◌+◌, ◌++◌, length, arith, drop, take, ◌∙◌, ap, sym, subst}
use Rattle.std.proofs.lemmas.Grind.{common_steps}
use Rattle.mos_io.proofs.Taking.{taken-copied}
use Rattle.port_fronts.proofs.fronted.Fronted.give.Goals as goal

pub returns-clause-taken : goal.returns-clause-taken
returns-clause-taken g c =
    let fits : length c.copy_from_slice.new.self ≡ c.min-count.result = grind (arith, common_steps) in
    let e = taken-copied c.deref.result.now c.copy_from_slice.new.self (drop c.min-count.result c.args.buf.now) c.self.inside.at c.min-count.result fits c.copy_from_slice.ensures.after in
    ap (λ s. s.bytes) (sym c.self.view_is) ∙ subst (λ (d : List ℕ). drop c.self.inside.at d ≡ take c.min-count.result (c.copy_from_slice.new.self ++ drop c.min-count.result c.args.buf.now) ++ drop (c.self.inside.at + c.min-count.result) d) c.deref.ensures.value e
