use Rattle.std.proofs.Common.{◌<◌, ◌≤◌, ◌-◌, length, remove, sym, subst, arith}
use Rattle.object_table.specs.Sizes.{list_size}
use Rattle.object_table.specs.Tables.{IsKept}
use Rattle.object_table.proofs.Kept.{kept-remove, there}
use Rattle.object_table.proofs.table.ObjectTable.remove.Goals as goal

pub overflow_sub-self : goal.overflow_sub-self
overflow_sub-self c =
    let xs = c.self.inside.objects.items in
    let lt : c.args.at < length xs = subst (λ l. c.args.at < length l) (sym c.self.view_is) c.requires in
    let t = there xs c.self.inside.places c.self.inside.units c.self.invariant c.args.at c.index.result.now c.object_units.result lt c.index.ensures c.object_units.ensures in
    omega (arith, t)

pub invariant_of-self : goal.invariant_of-self
invariant_of-self c =
    let xs = c.self.inside.objects.items in
    let lt : c.args.at < length xs = subst (λ l. c.args.at < length l) (sym c.self.view_is) c.requires in
    let k = kept-remove xs c.self.inside.places c.self.inside.units c.self.invariant c.args.at c.index.result.now c.object_units.result lt c.index.ensures c.object_units.ensures in
    subst (λ l. IsKept c.remove.new.self.items l (c.self.inside.units - c.object_units.result)) (sym c.remove-2.ensures)
    (subst (λ l. IsKept l (remove c.self.inside.places c.args.at) (c.self.inside.units - c.object_units.result)) (sym c.remove.ensures.items) k)

pub returns-clause-within : goal.returns-clause-within
returns-clause-within c =
    let xs = c.self.inside.objects.items in
    let lt : c.args.at < length xs = subst (λ l. c.args.at < length l) (sym c.self.view_is) c.requires in
    let k = kept-remove xs c.self.inside.places c.self.inside.units c.self.invariant c.args.at c.index.result.now c.object_units.result lt c.index.ensures c.object_units.ensures in
    subst (λ l. list_size l ≤ 8000000) (sym c.remove.ensures.items) (k.within)
