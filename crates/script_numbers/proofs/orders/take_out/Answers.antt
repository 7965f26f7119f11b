use Rattle.std.proofs.Common.{ℕ, Option, IsSome, None, sym, subst, ap, ◌∙◌, if◌then◌else◌}
use Rattle.mos_edits.specs.Texts.{Text, has_id}
use Rattle.mos_edits.specs.Rows.{look}
use Rattle.mos_edits.specs.Orders.{form_of, taken_out}
use Rattle.mos_machines.proofs.RowTables.{look-map}
use Rattle.order_table.specs.Rows.{find_row}
use Rattle.script_numbers.proofs.RowLemmas.{if-one, some-put, changed-row, changed-none}
use Rattle.script_numbers.proofs.orders.take_out.Goals as goal

pub exchange-requires-in-Some : goal.exchange-requires-in-Some
exchange-requires-in-Some c = subst (λ rows. IsSome (find_row c.args.ro.now rows)) (sym c.exchange.ensures.table) (some-put c.args.ro.now c.new-stories.result c.args.orders.now)

pub returns-in-Some : goal.returns-in-Some
returns-in-Some c =
    let change : Text → Option ℕ → Option ℕ = λ q old. if has_id q (taken_out (form_of c.args.action.now)) then None else old in
    changed-row c.args.ro.now change c.new-stories.result c.exchange.new.value c.change_all.new.self c.args.orders.now c.exchange.new.self c.exchange-in-Some.new.self
    c.exchange.ensures.value c.exchange.ensures.table c.exchange-in-Some.ensures.table
    (λ story. ap (λ l. l story) (ap (look None) c.change_all.ensures ∙ look-map change None None c.exchange.new.value (λ r. if-one (has_id r (taken_out (form_of c.args.action.now))) None)))

pub returns-in-None : goal.returns-in-None
returns-in-None c =
    changed-none c.args.ro.now (λ q old. if has_id q (taken_out (form_of c.args.action.now)) then None else old) c.args.orders.now (sym c.in-None.ensures)
    (λ story. if-one (has_id story (taken_out (form_of c.args.action.now))) None)
