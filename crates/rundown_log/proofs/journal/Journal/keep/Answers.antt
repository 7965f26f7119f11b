use Rattle.std.proofs.Common.{IsSome, List, ℕ, Some, sym, ap, ◌∙◌, subst}
use Rattle.mos_edits.specs.Texts.{Text}
use Rattle.mos_edits.specs.Entries.{entry_of}
use Rattle.order_table.specs.Rows.{find_row}
use Rattle.rundown_log.proofs.PlaceRows.{some-put, positions-after}
use Rattle.rundown_log.proofs.journal.Journal.keep.Goals as goal

pub invariant_of-self : goal.invariant_of-self
invariant_of-self g c = λ r. ap (λ (l : Text → List ℕ). l r) c.know.ensures.same ∙ c.self.invariant r

pub exchange-requires-2 : goal.exchange-requires-2
exchange-requires-2 g c = subst (λ rows. IsSome (find_row c.in_ok-ro.ro rows)) (sym c.exchange.ensures.table) (some-put c.in_ok-ro.ro c.new-places.result c.know.new.places)

pub invariant_of-self-2 : goal.invariant_of-self-2
invariant_of-self-2 g c =
    positions-after c.keep_in-kept.result c.self.inside.entries.items c.keep_in-kept.new.entries.items (entry_of c.args.edit.now) c.in_ok-ro.ro c.new-places.result c.places.inside.items.items c.keep_in-kept.new.places.items c.self.inside.places c.know.new.places
    c.exchange.new.self c.exchange-2.new.self (c.in_ok-ro.ensures ∙ c.edit_ro.ensures) c.self.invariant c.know.ensures.same (c.exchange.ensures.value ∙ ap Some (sym c.places.view_is)) c.exchange.ensures.table c.exchange-2.ensures.table
    c.keep_in-kept.ensures.entries c.keep_in-kept.ensures.places c.keep_in-kept.ensures.entries_err c.keep_in-kept.ensures.places_err
