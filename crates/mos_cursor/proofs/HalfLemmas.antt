-- The parts of a record in two halves.
use Rattle.std.proofs.Common.{◌≡◌, ℕ, zero, suc, List, [], ◌∷◌, ◌++◌, take, drop, refl, sym, ap, subst, ◌∙◌, append_assoc}
use Rattle.mos_tables.specs.declared.column.Column.{Column}
use Rattle.mos_tables.specs.declared.table.Table.{Table}
use Rattle.mos_tables.specs.Events.{Event}
use Rattle.mos_cursor.specs.Parts.{part_events, parts_events}
use Rattle.mos_cursor.specs.Accepted.{AllFit}
use Rattle.mos_cursor.specs.Slots.{part_of, parts_of}
use Rattle.mos_cursor.specs.declared.slot.Slot.{Slot}

fit_take : (t : Table) (k : ℕ) (cs : List Column) (ss : List Slot) → AllFit t cs (parts_of ss) → AllFit t (take k cs) (parts_of (take k ss))
fit_take t zero cs ss h = tt
fit_take t (suc k) [] [] h = tt
fit_take t (suc k) [] (s ∷ ss) h = absurd h
fit_take t (suc k) (c ∷ cs) [] h = absurd h
fit_take t (suc k) (c ∷ cs) (s ∷ ss) h = (h.0, fit_take t k cs ss h.1)

fit_drop : (t : Table) (k : ℕ) (cs : List Column) (ss : List Slot) → AllFit t cs (parts_of ss) → AllFit t (drop k cs) (parts_of (drop k ss))
fit_drop t zero cs ss h = h
fit_drop t (suc k) [] [] h = tt
fit_drop t (suc k) [] (s ∷ ss) h = absurd h
fit_drop t (suc k) (c ∷ cs) [] h = absurd h
fit_drop t (suc k) (c ∷ cs) (s ∷ ss) h = fit_drop t k cs ss h.1

events_cut : (t : Table) (k : ℕ) (cs : List Column) (ss : List Slot) → AllFit t cs (parts_of ss) → parts_events cs (parts_of ss) ≡ parts_events (take k cs) (parts_of (take k ss)) ++ parts_events (drop k cs) (parts_of (drop k ss))
events_cut t zero cs ss h = refl
events_cut t (suc k) [] [] h = refl
events_cut t (suc k) [] (s ∷ ss) h = absurd h
events_cut t (suc k) (c ∷ cs) [] h = absurd h
events_cut t (suc k) (c ∷ cs) (s ∷ ss) h =
    ap (λ (z : List Event). part_events c.field (part_of s) ++ z) (events_cut t k cs ss h.1)
    ∙ sym (append_assoc (part_events c.field (part_of s)) (parts_events (take k cs) (parts_of (take k ss))) (parts_events (drop k cs) (parts_of (drop k ss))))

pub fit_front : (t : Table) (k : ℕ) (cs : List Column) (ss fs : List Slot) → AllFit t cs (parts_of ss) → fs ≡ take k ss → AllFit t (take k cs) (parts_of fs)
fit_front t k cs ss fs h e = subst (λ (z : List Slot). AllFit t (take k cs) (parts_of z)) (sym e) (fit_take t k cs ss h)

pub fit_back : (t : Table) (k : ℕ) (cs : List Column) (ss bs : List Slot) → AllFit t cs (parts_of ss) → bs ≡ drop k ss → AllFit t (drop k cs) (parts_of bs)
fit_back t k cs ss bs h e = subst (λ (z : List Slot). AllFit t (drop k cs) (parts_of z)) (sym e) (fit_drop t k cs ss h)

pub events_halves : (t : Table) (k : ℕ) (cs : List Column) (es : List Event) (ss fs bs : List Slot) → AllFit t cs (parts_of ss) → es ≡ parts_events cs (parts_of ss) → fs ≡ take k ss → bs ≡ drop k ss
    → es ≡ parts_events (take k cs) (parts_of fs) ++ parts_events (drop k cs) (parts_of bs)
events_halves t k cs es ss fs bs h e f b = e ∙ events_cut t k cs ss h ∙ ap (λ (z : List Slot). parts_events (take k cs) (parts_of z) ++ parts_events (drop k cs) (parts_of (drop k ss))) (sym f)
    ∙ ap (λ (z : List Slot). parts_events (take k cs) (parts_of fs) ++ parts_events (drop k cs) (parts_of z)) (sym b)
