use Rattle.std.proofs.Common.{◌≡◌, ◌++◌, ◌∷◌, [], false, ap, ◌∙◌}
use Rattle.mos_edits.specs.Texts.{has_id}
use Rattle.mos_values.specs.Units.{capped}
use Rattle.object_table.specs.Objects.{object_ids}
use Rattle.object_table.specs.Sizes.{list_size}
use Rattle.object_table.proofs.Kept.{is-full, kept-push, size-push}
use Rattle.object_table.proofs.Places.{distinct-more}
use Rattle.object_table.proofs.table.ObjectTable.push.Goals as goal

pub returns-then-units-gt-LIMIT-clause-fault : goal.returns-then-units-gt-LIMIT-clause-fault
returns-then-units-gt-LIMIT-clause-fault c =
    let xs = c.self.inside.objects.items in
    let e = size-push xs c.self.inside.places c.self.inside.units c.self.invariant c.args.o.now c.object_units.result c.saturating_add-units.result c.object_units.ensures c.saturating_add-units.ensures in
    is-full c.saturating_add-units.result (list_size (c.args.self.now ++ c.args.o.now ∷ [])) c.if-units-gt-LIMIT.true (e ∙ ap (λ l. capped (list_size (l ++ c.args.o.now ∷ []))) c.self.view_is)

pub push_both-requires : goal.push_both-requires
push_both-requires c =
    let none : has_id c.args.o.now.id c.self.inside.places ≡ false = ap (has_id c.args.o.now.id) (c.self.invariant.placed ∙ ap object_ids c.self.view_is) ∙ c.requires in
    distinct-more c.args.o.now.id c.self.inside.places c.has_distinct_ids.ensures none

pub invariant_of-self : goal.invariant_of-self
invariant_of-self c =
    let xs = c.self.inside.objects.items in
    let e = size-push xs c.self.inside.places c.self.inside.units c.self.invariant c.args.o.now c.object_units.result c.saturating_add-units.result c.object_units.ensures c.saturating_add-units.ensures in
    kept-push xs c.self.inside.places c.self.inside.units c.self.invariant c.args.o.now c.push_both.new.objects.items c.push_both.new.places c.saturating_add-units.result c.in-Ok.ensures.ok.0 c.in-Ok.ensures.ok.1 e c.if-units-gt-LIMIT.false

pub returns-in-Ok-clause-within : goal.returns-in-Ok-clause-within
returns-in-Ok-clause-within c =
    let xs = c.self.inside.objects.items in
    let e = size-push xs c.self.inside.places c.self.inside.units c.self.invariant c.args.o.now c.object_units.result c.saturating_add-units.result c.object_units.ensures c.saturating_add-units.ensures in
    (kept-push xs c.self.inside.places c.self.inside.units c.self.invariant c.args.o.now c.push_both.new.objects.items c.push_both.new.places c.saturating_add-units.result c.in-Ok.ensures.ok.0 c.in-Ok.ensures.ok.1 e c.if-units-gt-LIMIT.false).within
