use Rattle.std.proofs.Common.{◌≡◌, IsSome, None, Some, refl, sym, ap, subst, ◌∙◌}
use Rattle.order_table.specs.Rows.{find_row}
use Rattle.deck_rack.proofs.lists.Lists.mark.Goals as goal

pub mark_row-requires : goal.mark_row-requires
mark_row-requires c = subst (λ o. IsSome o) (c.in-Some.ensures ∙ ap (find_row c.args.ro.now) c.self.view_is) refl

pub add_row-requires : goal.add_row-requires
add_row-requires c = ap (find_row c.args.ro.now) (sym c.self.view_is) ∙ sym c.in-None.ensures
