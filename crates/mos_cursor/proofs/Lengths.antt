-- Taking a record leaves fewer events.
use Rattle.std.proofs.Common.{◌≡◌, ℕ, zero, suc, ◌≤◌, Bool, true, false, cond, List, [], ◌∷◌, ◌++◌, length, map, refl, sym, ap, subst, ◌∙◌, append_assoc, arith}
use Rattle.std.proofs.lemmas.List.{append-nil, map-append}
use Rattle.mos_fields.specs.Characters.{Text}
use Rattle.mos_fields.specs.Fields.{same}
use Rattle.mos_tables.specs.Events.{Event, leaf, raw, opens, closes}
use Rattle.mos_cursor.specs.Parts.{RecordPart, absent, one_record}
use Rattle.mos_cursor.specs.Taking.{behind_of, opened, record_taken, record_left, TakesRecords, no_more, one_more}
use Rattle.mos_cursor.specs.declared.slot.Nested.{Nested}
use Rattle.mos_cursor.specs.Slots.{record_of}

pub behind_shorter : (d : ℕ) (es : List Event) → length (behind_of d es) ≤ length es
behind_shorter d [] = omega arith
behind_shorter d (leaf m g x ∷ es) = omega (arith, behind_shorter d es)
behind_shorter d (raw f x ∷ es) = omega (arith, behind_shorter d es)
behind_shorter d (opens m g ∷ es) = omega (arith, behind_shorter (suc d) es)
behind_shorter zero (closes m ∷ es) = omega arith
behind_shorter (suc d) (closes m ∷ es) = omega (arith, behind_shorter d es)

-- what is taken from here on, and what was taken, are what is taken from the start
pub record TakenRecords (n : Text) (start now : List Event) (done : List Nested) : Type 0 where
  pub so_far : (ps : List RecordPart) (r : List Event) → TakesRecords n now ps r → TakesRecords n start (map record_of done ++ ps) r

pub record_more : (n : Text) (start now next : List Event) (done : List Nested) (x : Nested) → TakenRecords n start now done → one_record (record_of x) ≡ record_taken n now → next ≡ record_left n now → TakenRecords n start next (done ++ x ∷ [])
record_more n start now next done x t e l = record {
  so_far = λ ps r w.
      let p : TakesRecords n start (map record_of done ++ record_of x ∷ ps) r = t.so_far (record_of x ∷ ps) r (one_more (sym e) (subst (λ (z : List Event). TakesRecords n z ps r) l w)) in
      let q : map record_of done ++ record_of x ∷ ps ≡ map record_of (done ++ x ∷ []) ++ ps =
      sym (ap (λ (z : List RecordPart). z ++ ps) (map-append record_of done (x ∷ [])) ∙ append_assoc (map record_of done) (record_of x ∷ []) ps) in
      subst (λ (z : List RecordPart). TakesRecords n start z r) q p;
}

-- where no record is next, nothing is taken
left : (n : Text) (es : List Event) → record_taken n es ≡ absent → es ≡ record_left n es
left n [] h = refl
left n (leaf m g x ∷ es) h = refl
left n (raw f x ∷ es) h = refl
left n (opens m g ∷ es) h = go (same m n) (opened g es) h
  where
    go : (b : Bool) (p : RecordPart) → cond b (one_record p) absent ≡ absent → opens m g ∷ es ≡ cond b (behind_of 0 es) (opens m g ∷ es)
    go true p h = absurd cc
    go false p h = refl
left n (closes m ∷ es) h = refl

pub records_end : (n : Text) (start now next : List Event) (done : List Nested) → TakenRecords n start now done → absent ≡ record_taken n now → next ≡ record_left n now → TakesRecords n start (map record_of done) next
records_end n start now next done t e l =
    let p : TakesRecords n start (map record_of done ++ []) now = t.so_far [] now (no_more (sym e)) in
    let q : now ≡ next = left n now (sym e) ∙ sym l in
    subst (TakesRecords n start (map record_of done)) q (subst (λ (z : List RecordPart). TakesRecords n start z now) (append-nil (map record_of done)) p)
