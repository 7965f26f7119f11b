use Rattle.std.proofs.Common.{IsSome, None, sym, ap, subst}
use Rattle.mos_edits.specs.Rows.{look}
use Rattle.order_table.specs.Rows.{find_row}
use Rattle.script_numbers.proofs.RowLemmas.{some-put, same-row, row-there}
use Rattle.script_numbers.proofs.orders.know.Goals as goal

pub returns-in_err-know_order-clause-same : goal.returns-in_err-know_order-clause-same
returns-in_err-know_order-clause-same c = λ r story. ap (λ l. look None (l r) story) c.know_order.ensures.same

pub exchange-requires-2 : goal.exchange-requires-2
exchange-requires-2 c = subst (λ rows. IsSome (find_row c.args.ro.now rows)) (sym c.exchange.ensures.table) (some-put c.args.ro.now c.new-stories.result c.know_order.new.orders)

pub returns-clause-there : goal.returns-clause-there
returns-clause-there c =
    row-there c.know_story-known.result c.args.ro.now c.args.story.now c.know_story-known.new.stories c.exchange.new.self c.exchange-2.new.self c.exchange-2.ensures.table c.know_story-known.ensures.there

pub returns-clause-same : goal.returns-clause-same
returns-clause-same c =
    same-row c.args.ro.now c.new-stories.result c.exchange.new.value c.know_story-known.new.stories c.args.orders.now c.know_order.new.orders c.exchange.new.self c.exchange-2.new.self
    c.know_order.ensures.same c.exchange.ensures.value c.exchange.ensures.table c.exchange-2.ensures.table c.know_story-known.ensures.same
