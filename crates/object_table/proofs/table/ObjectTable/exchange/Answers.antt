use Rattle.std.proofs.Common.{slice_set, sym, ap, subst, ◌∙◌, arith}
use Rattle.mos_values.specs.Units.{capped}
use Rattle.object_table.specs.Objects.{StandsAt}
use Rattle.object_table.specs.Sizes.{list_size}
use Rattle.object_table.proofs.Kept.{is-full, kept-set, size-set, there}
use Rattle.object_table.proofs.Places.{stands-within}
use Rattle.object_table.proofs.table.ObjectTable.exchange.Goals as goal

pub index-requires : goal.index-requires
index-requires c =
    let lt = stands-within c.args.o.now.id c.self.inside.objects.items c.args.at (subst (λ l. StandsAt c.args.o.now.id l c.args.at) (sym c.self.view_is) c.requires) in
    let o = c.self.inside.objects.ok in
    omega (arith, lt, o)

pub overflow_sub-rest : goal.overflow_sub-rest
overflow_sub-rest c =
    let xs = c.self.inside.objects.items in
    let lt = stands-within c.args.o.now.id xs c.args.at (subst (λ l. StandsAt c.args.o.now.id l c.args.at) (sym c.self.view_is) c.requires) in
    let t = there xs c.self.inside.places c.self.inside.units c.self.invariant c.args.at c.index.result.now c.object_units.result lt c.index.ensures c.object_units.ensures in
    omega (arith, t)

pub returns-then-units-gt-LIMIT-clause-fault : goal.returns-then-units-gt-LIMIT-clause-fault
returns-then-units-gt-LIMIT-clause-fault c =
    let xs = c.self.inside.objects.items in
    let lt = stands-within c.args.o.now.id xs c.args.at (subst (λ l. StandsAt c.args.o.now.id l c.args.at) (sym c.self.view_is) c.requires) in
    let e = size-set xs c.self.inside.places c.self.inside.units c.self.invariant c.args.at c.index.result.now c.args.o.now c.object_units.result c.object_units-2.result c.saturating_add-units.result lt c.index.ensures c.object_units.ensures c.object_units-2.ensures c.saturating_add-units.ensures in
    is-full c.saturating_add-units.result (list_size (slice_set c.args.self.now c.args.at c.args.o.now)) c.if-units-gt-LIMIT.true (e ∙ ap (λ l. capped (list_size (slice_set l c.args.at c.args.o.now))) c.self.view_is)

pub put_copy-requires : goal.put_copy-requires
put_copy-requires c =
    let lt = stands-within c.args.o.now.id c.self.inside.objects.items c.args.at (subst (λ l. StandsAt c.args.o.now.id l c.args.at) (sym c.self.view_is) c.requires) in
    let o = c.self.inside.objects.ok in
    omega (arith, lt, o)

pub invariant_of-self : goal.invariant_of-self
invariant_of-self c =
    let xs = c.self.inside.objects.items in
    let at = subst (λ l. StandsAt c.args.o.now.id l c.args.at) (sym c.self.view_is) c.requires in
    let lt = stands-within c.args.o.now.id xs c.args.at at in
    let e = size-set xs c.self.inside.places c.self.inside.units c.self.invariant c.args.at c.index.result.now c.args.o.now c.object_units.result c.object_units-2.result c.saturating_add-units.result lt c.index.ensures c.object_units.ensures c.object_units-2.ensures c.saturating_add-units.ensures in
    kept-set xs c.self.inside.places c.self.inside.units c.self.invariant c.args.at c.args.o.now c.put_copy.new.objects.items c.saturating_add-units.result at c.in-Ok.ensures.ok e c.if-units-gt-LIMIT.false

pub returns-in-Ok-clause-within : goal.returns-in-Ok-clause-within
returns-in-Ok-clause-within c =
    let xs = c.self.inside.objects.items in
    let at = subst (λ l. StandsAt c.args.o.now.id l c.args.at) (sym c.self.view_is) c.requires in
    let lt = stands-within c.args.o.now.id xs c.args.at at in
    let e = size-set xs c.self.inside.places c.self.inside.units c.self.invariant c.args.at c.index.result.now c.args.o.now c.object_units.result c.object_units-2.result c.saturating_add-units.result lt c.index.ensures c.object_units.ensures c.object_units-2.ensures c.saturating_add-units.ensures in
    (kept-set xs c.self.inside.places c.self.inside.units c.self.invariant c.args.at c.args.o.now c.put_copy.new.objects.items c.saturating_add-units.result at c.in-Ok.ensures.ok e c.if-units-gt-LIMIT.false).within
