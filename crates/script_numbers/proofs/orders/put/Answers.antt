use Rattle.std.proofs.Common.{[], IsSome, sym, subst, Some, if◌then◌else◌}
use Rattle.mos_edits.specs.Texts.{same_id}
use Rattle.order_table.specs.Rows.{find_row}
use Rattle.script_numbers.proofs.RowLemmas.{look-some, some-put, changed-row}
use Rattle.script_numbers.proofs.orders.put.Goals as goal

pub exchange-requires-2 : goal.exchange-requires-2
exchange-requires-2 c = subst (λ rows. IsSome (find_row c.args.ro.now rows)) (sym c.exchange.ensures.table) (some-put c.args.ro.now c.new-stories.result c.args.orders.now)

pub returns : goal.returns
returns c =
    changed-row c.args.ro.now (λ q old. if same_id q c.args.story.now then Some c.args.number else old) c.new-stories.result c.exchange.new.value c.put_number.new.stories c.args.orders.now c.exchange.new.self c.exchange-2.new.self
    c.exchange.ensures.value c.exchange.ensures.table c.exchange-2.ensures.table c.put_number.ensures

pub put_number-requires : goal.put_number-requires
put_number-requires c =
    subst (λ rows. IsSome (find_row c.args.story.now rows)) (look-some [] c.args.ro.now c.args.orders.now c.exchange.new.value c.exchange.ensures.value) c.requires.1
