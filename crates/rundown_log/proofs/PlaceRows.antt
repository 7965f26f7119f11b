-- The rows of places, after an entry was put at the end of the journal.
use Rattle.std.proofs.Common.{◌≡◌, ℕ, ◌+◌, arith, Bool, true, false, List, [], ◌∷◌, ◌++◌, length, Option, Some, None, IsSome, Result, Ok, Err, OnOk, OnErr, refl, sym, ap, ◌∙◌, subst, if◌then◌else◌}
use Rattle.mos_edits.specs.Texts.{Text, same_id, set_order}
use Rattle.mos_edits.proofs.Identifiers.{same-true, same-self}
use Rattle.mos_edits.specs.Entries.{Entry}
use Rattle.mos_machines.specs.Tables.{look, put_row}
use Rattle.mos_machines.proofs.RowTables.{look-put}
use Rattle.order_table.specs.Rows.{find_row, value_or}
use Rattle.order_table.proofs.Looked.{look-found, find-put, put-put}
use Rattle.rundown_log.specs.Positions.{positions, ArePositions}
use Rattle.rundown_log.proofs.PositionLemmas.{place_if, positions-push}

pub look-some : (r : Text) (rows : List (Text × List ℕ)) (v : List ℕ) → find_row r rows ≡ Some v → look [] rows r ≡ v
look-some r rows v e = look-found [] r rows ∙ ap (value_or []) e

pub look-none : (r : Text) (rows : List (Text × List ℕ)) → find_row r rows ≡ None → look [] rows r ≡ []
look-none r rows e = look-found [] r rows ∙ ap (value_or []) e

pub set-same : {X : Type 0} (f : Text → X) (r : Text) → set_order f r (f r) ≡ f
set-same {X = X} f r = λ i. λ q. by q (same_id q r) refl i
  where
    by : (q : Text) (b : Bool) → same_id q r ≡ b → (if b then f r else f q) ≡ f q
    by q true e = ap f (sym (same-true q r e))
    by q false e = refl

-- a row that is written as it would be looked up changes nothing
pub look-same : (r : Text) (v : List ℕ) (rows : List (Text × List ℕ)) → look [] rows r ≡ v → look [] (put_row r v rows) ≡ look [] rows
look-same r v rows e = look-put [] rows r v ∙ (ap (λ (w : List ℕ). set_order (look [] rows) r w) (sym e) ∙ set-same (look [] rows) r)

pub on-ok : {X Y : Type 0} {A B : Type 0} (r : Result X Y) → OnOk r A → (A → B) → OnOk r B
on-ok (Ok x) a f = f a
on-ok (Err y) a f = a

-- the rows as they were, with one row taken out and put back
pub rows-back : (r : Text) (u v : List ℕ) (old known taken back : List (Text × List ℕ)) → look [] known ≡ look [] old → find_row r known ≡ Some v → taken ≡ put_row r u known → back ≡ put_row r v taken → look [] back ≡ look [] old
rows-back r u v old known taken back k f t b =
    ap (look []) (b ∙ (ap (put_row r v) t ∙ put-put r u v known)) ∙ (look-same r v known (look-some r known v f) ∙ k)

-- an entry at the end, and its place
pub positions-more : (journal : List Entry) (e : Entry) (u v : List ℕ) (old known taken back : List (Text × List ℕ)) → ArePositions journal old → look [] known ≡ look [] old → find_row e.ro known ≡ Some v → taken ≡ put_row e.ro u known
    → back ≡ put_row e.ro (v ++ length journal ∷ []) taken → ArePositions (journal ++ e ∷ []) back
positions-more journal e u v old known taken back p k f t b r =
    ap (λ (l : Text → List ℕ). l r) looked ∙ (by (same_id r e.ro) refl ∙ sym (positions-push r 0 journal e))
  where
    now : look [] known e.ro ≡ v
    now = look-some e.ro known v f

    looked : look [] back ≡ set_order (look [] old) e.ro (v ++ length journal ∷ [])
    looked =
        ap (look []) (b ∙ (ap (put_row e.ro (v ++ length journal ∷ [])) t ∙ put-put e.ro u (v ++ length journal ∷ []) known))
        ∙ (look-put [] known e.ro (v ++ length journal ∷ []) ∙ ap (λ (l : Text → List ℕ). set_order l e.ro (v ++ length journal ∷ [])) k)

    here : v ≡ positions e.ro journal
    here = sym now ∙ (ap (λ (l : Text → List ℕ). l e.ro) k ∙ p e.ro)

    one : (b : Bool) → b ≡ true → v ++ length journal ∷ [] ≡ positions e.ro journal ++ place_if b (0 + length journal)
    one true s = ap (λ (w : List ℕ). w ++ length journal ∷ []) here ∙ ap (λ (n : ℕ). positions e.ro journal ++ n ∷ []) (let z : length journal ≡ 0 + length journal = omega arith in z)
    one false s = absurd (cc)

    none : {X : Type 0} (xs : List X) → xs ++ [] ≡ xs
    none [] = refl
    none {X = X} (x ∷ xs) = ap (λ (ys : List X). x ∷ ys) (none xs)

    by : (c : Bool) → same_id r e.ro ≡ c → (if c then v ++ length journal ∷ [] else look [] old r) ≡ positions r journal ++ place_if (same_id r e.ro) (0 + length journal)
    by true s = subst (λ (z : Text). v ++ length journal ∷ [] ≡ positions z journal ++ place_if (same_id z e.ro) (0 + length journal)) (sym (same-true r e.ro s)) (one (same_id e.ro e.ro) (same-self e.ro))
    by false s = p r ∙ (sym (none (positions r journal)) ∙ ap (λ (c : Bool). positions r journal ++ place_if c (0 + length journal)) (sym s))

pub some-put : (r : Text) (v : List ℕ) (rows : List (Text × List ℕ)) → IsSome (find_row r (put_row r v rows))
some-put r v rows = subst (λ (o : Option (List ℕ)). IsSome o) (sym (find-put r v rows)) refl

-- a new row for an order that has none
pub same-after : {X Y : Type 0} (o : Result X Y) (r : Text) (v : List ℕ) (old new : List (Text × List ℕ)) → OnOk o (new ≡ put_row r v old) → OnErr o (new ≡ old) → look [] old r ≡ v → look [] new ≡ look [] old
same-after (Ok x) r v old new e f h = ap (look []) e ∙ look-same r v old h
same-after (Err y) r v old new e f h = ap (look []) f

-- the rows after an entry was kept, or wasn't
pub positions-after : {X Y : Type 0} (o : Result X Y) (journal new : List Entry) (e : Entry) (r : Text) (u v w : List ℕ) (old known taken back : List (Text × List ℕ)) → r ≡ e.ro → ArePositions journal old → look [] known ≡ look [] old → find_row r known ≡ Some v
    → taken ≡ put_row r u known → back ≡ put_row r w taken → OnOk o (new ≡ journal ++ e ∷ []) → OnOk o (w ≡ v ++ length journal ∷ []) → OnErr o (new ≡ journal) → OnErr o (w ≡ v) → ArePositions new back
positions-after (Ok x) journal new e r u v w old known taken back ro p k f t b n m en em =
    subst (λ (es : List Entry). ArePositions es back) (sym n)
    (positions-more journal e u v old known taken back p k (ap (λ (q : Text). find_row q known) (sym ro) ∙ f) (t ∙ ap (λ (q : Text). put_row q u known) ro)
    (b ∙ (λ i. put_row (ro i) (m i) taken)))
positions-after (Err y) journal new e r u v w old known taken back ro p k f t b n m en em =
    subst (λ (es : List Entry). ArePositions es back) (sym en) (λ q. ap (λ (l : Text → List ℕ). l q) (rows-back r u v old known taken back k f t (b ∙ ap (λ (x : List ℕ). put_row r x taken) em)) ∙ p q)
