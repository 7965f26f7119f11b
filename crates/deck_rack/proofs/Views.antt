-- What the answers of decks say of their views.
use Rattle.std.proofs.Common.{◌≡◌, ℕ, ◌+◌, ◌<◌, ◌≤◌, Bool, true, false, List, Option, Some, Result, Ok, Err, OnOk, refl, sym, ap, subst, ◌∙◌, arith, cond, nat_lt, inl, inr, ◌⊎◌}
use Rattle.std.proofs.lemmas.Bool.{ltb-false, ltb-true}
use Rattle.mos_edits.specs.Texts.{Text}
use Rattle.mos_io.specs.Counts.{Rose, counted, last_count}
use Rattle.mos_machines.specs.Tables.{look, put_row}
use Rattle.mos_machines.proofs.RowTables.{look-put}
use Rattle.deck_rack.specs.Decks.{Answers, DeckView, IsChanged, KeepsCounts, Row, changed, no_row}
use Rattle.deck_rack.specs.Lines.{WritesLine}
use Rattle.deck_rack.specs.Memory.{IsMemoryAnswer, MemoryDeck, WritingDeck, memory_view, row_changed, rows_of, writing_view}
use Rattle.deck_rack.specs.declared.deck.DeckFault.{DeckFault}
use Rattle.deck_rack.specs.declared.deck.DeckFault.TheVariants.{Failed, NoMemory}

-- a count of one more
pub count_rose : (n m : ℕ) → m ≡ counted n → (n ≤ m) × Rose n m
count_rose n m e = go (nat_lt n last_count) refl e
  where
    go : (b : Bool) → nat_lt n last_count ≡ b → m ≡ cond b (n + 1) n → (n ≤ m) × Rose n m
    go true h e = (omega (arith, e), inl (omega (arith, e)))
    go false h e = let k = ltb-false n last_count h in (omega (arith, e), inr (omega (arith, e, k)))

stays : (n m : ℕ) → m ≡ n → n ≤ m
stays n m e = omega (arith, e)

-- the row of one order was changed
told-changed : (rows after : List (Text × Row)) (change : Row → Row) (ro : Text) → after ≡ row_changed change ro rows → IsChanged (Some (rows_of rows)) (Some (rows_of after)) change ro
told-changed rows after change ro e = ap (λ (f : Text → Row). Some f) (ap rows_of e ∙ look-put no_row rows ro (change (rows_of rows ro)))

pub memory-answers : (before after : MemoryDeck) (change : Row → Row) (ro : Text) (r : Result (Unit {0}) DeckFault) → IsMemoryAnswer before after change ro r → Answers (memory_view before) (memory_view after) change ro r
memory-answers before after change ro (Ok done) (h, e) = (
  record { faults = stays _ _ (ap (λ (d : MemoryDeck). d.faults) e); wants = stays _ _ (ap (λ (d : MemoryDeck). d.wants) e) },
  told-changed before.rows after.rows change ro (ap (λ (d : MemoryDeck). d.rows) e),
)
memory-answers before after change ro (Err Failed) (h, e) =
    let c = count_rose before.faults after.faults (ap (λ (d : MemoryDeck). d.faults) e) in
    (record { faults = c.0; wants = stays _ _ (ap (λ (d : MemoryDeck). d.wants) e) }, c.1)
memory-answers before after change ro (Err NoMemory) (h, e) =
    let c = count_rose before.wants after.wants (ap (λ (d : MemoryDeck). d.wants) e) in
    (record { faults = stays _ _ (ap (λ (d : MemoryDeck). d.faults) e); wants = c.0 }, c.1)

module _ {K : Type 0} (written : K → Option (List ℕ)) (faults : K → ℕ) where
  pub line-answers : (before after : WritingDeck K) (change : Row → Row) (ro : Text) (line : List ℕ) (r : Result (Unit {0}) DeckFault)
      → WritesLine written faults before after (row_changed change ro before.rows) line r → Answers (writing_view faults before) (writing_view faults after) change ro r
  line-answers before after change ro line (Ok done) (rows, wants, bytes, le) = (
    record { faults = le; wants = stays _ _ wants },
    told-changed before.rows after.rows change ro rows,
  )
  line-answers before after change ro line (Err Failed) (wants, bytes, le, rose) = (record { faults = le; wants = stays _ _ wants }, rose)
  line-answers before after change ro line (Err NoMemory) (wants, bytes, le) =
      let c = count_rose before.wants after.wants wants in
      (record { faults = le; wants = c.0 }, c.1)

  -- the same of a deck that held something new before it wrote
  pub held-answers : (before held after : WritingDeck K) (change : Row → Row) (ro : Text) (line : List ℕ) (r : Result (Unit {0}) DeckFault)
      → held ≡ record before { rows = row_changed change ro before.rows } → WritesLine written faults held after held.rows line r → Answers (writing_view faults before) (writing_view faults after) change ro r
  held-answers before held after change ro line (Ok done) e (rows, wants, bytes, le) = (
    record { faults = subst (λ (k : K). faults k ≤ faults after.sink) (ap (λ (d : WritingDeck K). d.sink) e) le; wants = stays _ _ (wants ∙ ap (λ (d : WritingDeck K). d.wants) e) },
    told-changed before.rows after.rows change ro (rows ∙ ap (λ (d : WritingDeck K). d.rows) e),
  )
  held-answers before held after change ro line (Err Failed) e (wants, bytes, le, rose) = (
    record { faults = subst (λ (k : K). faults k ≤ faults after.sink) (ap (λ (d : WritingDeck K). d.sink) e) le; wants = stays _ _ (wants ∙ ap (λ (d : WritingDeck K). d.wants) e) },
    subst (λ (k : K). Rose (faults k) (faults after.sink)) (ap (λ (d : WritingDeck K). d.sink) e) rose,
  )
  held-answers before held after change ro line (Err NoMemory) e (wants, bytes, le) =
      let c = count_rose before.wants after.wants (wants ∙ ap (λ (d : WritingDeck K). counted d.wants) e) in
      (record { faults = subst (λ (k : K). faults k ≤ faults after.sink) (ap (λ (d : WritingDeck K). d.sink) e) le; wants = c.0 }, c.1)

-- a call that found no memory before it wrote
pub want-answers : {K : Type 0} (faults : K → ℕ) (before kept after : WritingDeck K) (change : Row → Row) (ro : Text) (r : Result (Unit {0}) DeckFault)
    → r ≡ Err NoMemory → after ≡ record kept { wants = counted kept.wants } → kept ≡ before → Answers (writing_view faults before) (writing_view faults after) change ro r
want-answers {K} faults before kept after change ro r is e same =
    let c = count_rose before.wants after.wants (ap (λ (d : WritingDeck K). d.wants) e ∙ ap (λ (d : WritingDeck K). counted d.wants) same) in
    let f : faults after.sink ≡ faults before.sink = ap (λ (d : WritingDeck K). faults d.sink) e ∙ ap (λ (d : WritingDeck K). faults d.sink) same in
    subst (λ (a : Result (Unit {0}) DeckFault). Answers (writing_view faults before) (writing_view faults after) change ro a) (sym is) (record { faults = stays _ _ f; wants = c.0 }, c.1)

pub ok-is : {T E X : Type 0} (r : Result T E) (x y z : X) → OnOk r (x ≡ y) → y ≡ z → OnOk r (x ≡ z)
ok-is (Ok v) x y z h e = h ∙ e
ok-is (Err f) x y z h e = tt
