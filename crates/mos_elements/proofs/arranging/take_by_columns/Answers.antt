use Rattle.std.proofs.Common.{◌++◌, sym, ap, ◌∙◌}
use Rattle.std.proofs.lemmas.Result.{on_ok_weaker}
use Rattle.mos_events.specs.EventView.{events_of}
use Rattle.mos_elements.specs.Parts.{children_of}
use Rattle.mos_elements.proofs.ColumnLemmas.{in_order_flat}
use Rattle.mos_elements.proofs.arranging.take_by_columns.Goals as goal

pub returns-then-are_in_order : goal.returns-then-are_in_order
returns-then-are_in_order c = on_ok_weaker c.take_all.result
    (λ e. e ∙ ap (λ z. events_of c.args.out.now.items ++ z) (sym (in_order_flat c.args.columns.now (children_of c.args.children.now) c.requires (sym c.are_in_order.ensures ∙ c.if-are_in_order.true))))
    c.take_all.ensures
