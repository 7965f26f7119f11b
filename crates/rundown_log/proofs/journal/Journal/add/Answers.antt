use Rattle.std.proofs.Common.{IsSome, List, ℕ, Some, sym, ap, ◌∙◌, subst}
use Rattle.mos_edits.specs.Texts.{Text}
use Rattle.order_table.specs.Rows.{find_row}
use Rattle.rundown_log.proofs.PlaceRows.{some-put, positions-after}
use Rattle.rundown_log.proofs.journal.Journal.add.Goals as goal

pub invariant_of-self : goal.invariant_of-self
invariant_of-self c = λ r. ap (λ (l : Text → List ℕ). l r) c.know.ensures.same ∙ c.self.invariant r

pub exchange-requires-2 : goal.exchange-requires-2
exchange-requires-2 c = subst (λ rows. IsSome (find_row c.in_ok-ro.ro rows)) (sym c.exchange.ensures.table) (some-put c.in_ok-ro.ro c.new-places.result c.know.new.places)

pub invariant_of-self-2 : goal.invariant_of-self-2
invariant_of-self-2 c =
    positions-after c.add_in-added.result c.self.inside.entries.items c.add_in-added.new.entries.items (c.args.entry.now) c.in_ok-ro.ro c.new-places.result c.places.inside.items.items c.add_in-added.new.places.items c.self.inside.places c.know.new.places
    c.exchange.new.self c.exchange-2.new.self (c.in_ok-ro.ensures ∙ c.ro.ensures) c.self.invariant c.know.ensures.same (c.exchange.ensures.value ∙ ap Some (sym c.places.view_is)) c.exchange.ensures.table c.exchange-2.ensures.table
    c.add_in-added.ensures.entries c.add_in-added.ensures.places c.add_in-added.ensures.entries_err c.add_in-added.ensures.places_err
