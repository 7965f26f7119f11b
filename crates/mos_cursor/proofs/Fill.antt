-- The parts of all columns, one after another.
use Rattle.std.proofs.Common.{◌≡◌, ℕ, suc, ◌+◌, ◌<◌, ◌≤◌, true, false, take, drop, List, [], ◌∷◌, ◌++◌, length, refl, sym, ap, subst, ◌∙◌, append_assoc, arith}
use Rattle.std.proofs.Math.ListN.{set}
use Rattle.std.proofs.Math.Seq.{take-length, take-suc-set}
use Rattle.std.proofs.lemmas.List.{append-nil, length-set, at_drop_all}
use Rattle.mos_fields.specs.Characters.{Text}
use Rattle.mos_fields.specs.Fields.{same_field}
use Rattle.mos_fields.specs.declared.field.Field.TheVariants as fields
use Rattle.mos_tables.specs.declared.column.Column.{Column}
use Rattle.mos_tables.specs.declared.table.Table.{Table}
use Rattle.mos_tables.specs.Events.{Event}
use Rattle.mos_tables.specs.Tables.{columns, is_ack}
use Rattle.mos_cursor.specs.Parts.{raws, parts_events, places, kept_column}
use Rattle.mos_cursor.specs.Accepted.{IsAccepted, AllFit}
use Rattle.mos_cursor.specs.Taking.{raws_taken, raws_left, Takes, TakesAll}
use Rattle.mos_cursor.specs.declared.slot.Slot.{Slot}
use Rattle.mos_cursor.specs.declared.slot.Slot.TheVariants as variants
use Rattle.mos_cursor.specs.Slots.{part_of, parts_of, Filled}
use Rattle.mos_cursor.proofs.Taken.{taken_fits}

-- What is taken from here on, behind the slots so far, is what is taken from the start.
pub record FilledSoFar (cs : List Column) (start now : List Event) (slots : List Slot) (i at : ℕ) : Type 0 where
  pub so_far : (ss : List Slot) (r : List Event) → TakesAll (places (drop i cs)) now (parts_of ss) r → TakesAll (places cs) start (parts_of (take at slots ++ ss)) r
  pub room : at + length (places (drop i cs)) ≡ length slots

pub fill_start : (cs : List Column) (start : List Event) (slots : List Slot) → length slots ≡ length (places cs) → FilledSoFar cs start start slots 0 0
fill_start cs start slots e = record { so_far = λ ss r w. w; room = omega (arith, e) }

-- the slots up to one that was filled
one_more : (slots : List Slot) (at : ℕ) (s : Slot) (ss : List Slot) → at < length slots → take (suc at) (set slots at s) ++ ss ≡ take at slots ++ s ∷ ss
one_more slots at s ss h = ap (λ (z : List Slot). z ++ ss) (take-suc-set slots at s h) ∙ append_assoc (take at slots) (s ∷ []) ss

pub fill_one : (cs : List Column) (start now next : List Event) (slots : List Slot) (i at : ℕ) (c : Column) (s : Slot) → FilledSoFar cs start now slots i at → drop i cs ≡ c ∷ drop (suc i) cs → same_field c.field fields.Metadata ≡ false → Takes c now (part_of s) next
    → FilledSoFar cs start next (set slots at s) (suc i) (suc at)
fill_one cs start now next slots i at c s f d e t = record {
  so_far = λ ss r w.
      subst (λ (z : List Slot). TakesAll (places cs) start (parts_of z) r) (sym (one_more slots at s ss within)) (f.so_far (s ∷ ss) r (subst (λ (p : List Column). TakesAll p now (parts_of (s ∷ ss)) r) (sym q) (next, t, w)));
  room = omega (arith, f.room, counted, length-set slots at s);
}
  where
    q : places (drop i cs) ≡ c ∷ places (drop (suc i) cs)
    q = ap places d ∙ rw e refl

    counted : length (places (drop i cs)) ≡ suc (length (places (drop (suc i) cs)))
    counted = ap length q

    within : at < length slots
    within = omega (arith, f.room, counted)

pub fill_two : (cs : List Column) (start now mid next : List Event) (slots : List Slot) (i at : ℕ) (c : Column) (s : Slot) (xs : List Text) → FilledSoFar cs start now slots i at → drop i cs ≡ c ∷ drop (suc i) cs → same_field c.field fields.Metadata ≡ true
    → Takes c now (part_of s) mid → xs ≡ raws_taken fields.Kept mid → next ≡ raws_left fields.Kept mid
    → FilledSoFar cs start next (set (set slots at s) (suc at) (variants.Raws xs)) (suc i) (suc (suc at))
fill_two cs start now mid next slots i at c s xs f d e t k l = record {
  so_far = λ ss r w.
      subst (λ (z : List Slot). TakesAll (places cs) start (parts_of z) r) (sym (one_more (set slots at s) (suc at) (variants.Raws xs) ss within_set ∙ one_more slots at s (variants.Raws xs ∷ ss) within))
      (f.so_far (s ∷ variants.Raws xs ∷ ss) r (subst (λ (p : List Column). TakesAll p now (parts_of (s ∷ variants.Raws xs ∷ ss)) r) (sym q) (mid, t, (next, record { taken = (ap raws k, l) }, w))));
  room = omega (arith, f.room, counted, length-set slots at s, length-set (set slots at s) (suc at) (variants.Raws xs));
}
  where
    q : places (drop i cs) ≡ c ∷ kept_column ∷ places (drop (suc i) cs)
    q = ap places d ∙ rw e refl

    counted : length (places (drop i cs)) ≡ suc (suc (length (places (drop (suc i) cs))))
    counted = ap length q

    within : at < length slots
    within = omega (arith, f.room, counted)

    within_set : suc at < length (set slots at s)
    within_set = omega (arith, f.room, counted, length-set slots at s)

pub fill_end : (cs : List Column) (start now : List Event) (slots : List Slot) (i at : ℕ) → FilledSoFar cs start now slots i at → length cs ≤ i → Filled cs start slots now
fill_end cs start now slots i at f h = record { taken = subst (λ (z : List Slot). TakesAll (places cs) start (parts_of z) now) whole (f.so_far [] now (subst (λ (p : List Column). TakesAll (places p) now [] now) (sym d) refl)) }
  where
    d : drop i cs ≡ []
    d = at_drop_all (λ (z : List Column). z) cs i h

    all : at ≡ length slots
    all = omega (arith, f.room, ap (λ (z : List Column). length (places z)) d)

    whole : take at slots ++ [] ≡ slots
    whole = append-nil (take at slots) ∙ ap (λ (z : ℕ). take z slots) all ∙ take-length slots

pub filled_fits : (t : Table) (taken : List Text) (es : List Event) (ss : List Slot) (r : List Event) → is_ack t ≡ false → IsAccepted t taken es → Filled (columns t) es ss r → AllFit t (places (columns t)) (parts_of ss)
filled_fits t taken es ss r k a f = (taken_fits t taken es (parts_of ss) r k a f.taken).0

pub filled_events : (t : Table) (taken : List Text) (es : List Event) (ss : List Slot) (r : List Event) → is_ack t ≡ false → IsAccepted t taken es → Filled (columns t) es ss r → es ≡ parts_events (places (columns t)) (parts_of ss)
filled_events t taken es ss r k a f = (taken_fits t taken es (parts_of ss) r k a f.taken).1

pub filled_here : (t : Table) (cs : List Column) (es : List Event) (ss : List Slot) (r : List Event) → cs ≡ columns t → Filled cs es ss r → Filled (columns t) es ss r
filled_here t cs es ss r e f = subst (λ (z : List Column). Filled z es ss r) e f
