use Rattle.std.proofs.Common.{ap, sym, ◌∙◌}
use Rattle.mos_edits.specs.Entries.{is_before}
use Rattle.order_table.proofs.Order.{less_before, not_before}
use Rattle.order_table.proofs.place.is_before.Goals as goal

pub returns-in-Less : goal.returns-in-Less
returns-in-Less c = sym (ap (λ a. is_before a c.args.b.now) (sym c.text.ensures.value) ∙ less_before c.text.result.now c.args.b.now (sym c.in-Less.ensures))

pub returns-in_default : goal.returns-in_default
returns-in_default c = sym (ap (λ a. is_before a c.args.b.now) (sym c.text.ensures.value) ∙ not_before c.text.result.now c.args.b.now (λ e. c.in_default.not-Less (c.cmp.ensures ∙ e)))
