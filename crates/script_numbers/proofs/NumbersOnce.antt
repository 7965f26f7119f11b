-- Each entry's number stands on one story at most.
use Rattle.std.proofs.Common.{◌≡◌, ℕ, ◌+◌, ◌<◌, arith, Bool, true, false, List, [], ◌∷◌, take, Option, Some, None, ◌==◌, ◌⊎◌, inl, inr, refl, sym, ap, ◌∙◌, subst, if◌then◌else◌}
use Rattle.std.proofs.Math.Seq.{take-length}
use Rattle.std.proofs.lemmas.Bool.Decides.{nat_tests}
use Rattle.mos_edits.specs.Texts.{Text, same_id, has_id}
use Rattle.mos_edits.specs.KeyedLists.{Applied, with_found}
use Rattle.mos_edits.specs.KeyedLists.Applied.{Done, Fault}
use Rattle.mos_edits.specs.Rows.{find_row}
use Rattle.mos_edits.specs.Orders.{Order, form_of, taken_out, apply}
use Rattle.mos_edits.specs.declared.edit.Edit.{Edit}
use Rattle.mos_edits.specs.declared.edit.Edit.TheVariants.{Create, Replace, Delete, Metadata, Act, Air, Script}
use Rattle.mos_edits.specs.Entries.{Entry, entries, entry_count, order_at, order_after, order_now, in_force}
use Rattle.mos_edits.specs.Scripts.{result_or, story_ids_of, rows_step, rows_from, numbers_after, numbers_of, has_number}
use Rattle.mos_edits.proofs.Identifiers.{same-true, same-self}
use Rattle.mos_edits.proofs.Distinct.{IsDistinct, is-distinct}
use Rattle.mos_values.specs.Distinct.{AreDistinct, story_ids}
use Rattle.script_numbers.specs.Numbers.{number_next, StandOnce}
use Rattle.script_numbers.proofs.JournalNumbers.{find-next}

-- the story of a script
abbrev pub edit_story : Edit → Text
edit_story (Script script) = script.story
edit_story e = []

-- a number after an edit stood before it, or is that of the edit
number-from : (e : Edit) (k : ℕ) (q : Text) (n : Option ℕ) (j : ℕ) → number_next e k q n ≡ Some j → (n ≡ Some j) ⊎ ((j ≡ k) × (q ≡ edit_story e))
number-from (Create body) k q n j h = absurd (cc)
number-from (Replace body) k q n j h = absurd (cc)
number-from (Delete ro) k q n j h = absurd (cc)
number-from (Metadata patch) k q n j h = inl h
number-from (Act ro action) k q n j h = by (has_id q (taken_out (form_of action))) h
  where
    by : (b : Bool) → (if b then None else n) ≡ Some j → (n ≡ Some j) ⊎ ((j ≡ k) × (q ≡ edit_story (Act ro action)))
    by true h = absurd (cc)
    by false h = inl h
number-from (Air ro air) k q n j h = inl h
number-from (Script script) k q n j h = by (same_id q script.story) refl h
  where
    by : (b : Bool) → same_id q script.story ≡ b → (if b then Some k else n) ≡ Some j → (n ≡ Some j) ⊎ ((j ≡ k) × (q ≡ script.story))
    by true e h = inr (let z : k ≡ j = cc in sym z, same-true q script.story e)
    by false e h = inl h

-- the numbers are below the next entry's, and each stands in one row
record AreOwn (rows : List (Text × ℕ)) (k : ℕ) : Type 0 where
  pub below : (q : Text) (j : ℕ) → find_row q rows ≡ Some j → j < k
  pub own : (p q : Text) (j : ℕ) → find_row p rows ≡ Some j → find_row q rows ≡ Some j → p ≡ q

own-step : (e : Edit) (k : ℕ) (a : Applied (Option Order)) (rows : List (Text × ℕ)) → AreOwn rows k → AreOwn (rows_step (λ j script. j) k e a rows) (k + 1)
own-step e k (Fault f) rows w = record { below = λ q j h. let b = w.below q j h in omega (arith, b); own = w.own }
own-step e k (Done p) rows w = record { below = below; own = own }
  where
    from : (q : Text) (j : ℕ) → find_row q (rows_step (λ j script. j) k e (Done p) rows) ≡ Some j → (find_row q rows ≡ Some j) ⊎ ((j ≡ k) × (q ≡ edit_story e))
    from q j h = number-from e k q (find_row q rows) j (sym (find-next e k q rows) ∙ h)

    below : (q : Text) (j : ℕ) → find_row q (rows_step (λ j script. j) k e (Done p) rows) ≡ Some j → j < k + 1
    below q j h = elim (from q j h) [ inl f ↦ let b = w.below q j f in omega (arith, b) | inr n ↦ let z = n.0 in omega (arith, z) ]

    both : (q r : Text) (j : ℕ) → (find_row q rows ≡ Some j) ⊎ ((j ≡ k) × (q ≡ edit_story e)) → (find_row r rows ≡ Some j) ⊎ ((j ≡ k) × (r ≡ edit_story e)) → q ≡ r
    both q r j (inl f) (inl g) = w.own q r j f g
    both q r j (inl f) (inr m) = absurd (let b = w.below q j f in let z = m.0 in omega (arith, b, z))
    both q r j (inr n) (inl g) = absurd (let b = w.below r j g in let z = n.0 in omega (arith, b, z))
    both q r j (inr n) (inr m) = n.1 ∙ sym m.1

    own : (q r : Text) (j : ℕ) → find_row q (rows_step (λ j script. j) k e (Done p) rows) ≡ Some j → find_row r (rows_step (λ j script. j) k e (Done p) rows) ≡ Some j → q ≡ r
    own q r j f g = both q r j (from q j f) (from r j g)

own-from : (r : Text) (o : Option Order) (rows : List (Text × ℕ)) (k : ℕ) (es : List Edit) → AreOwn rows k → (p q : Text) (j : ℕ) → find_row p (rows_from (λ j script. j) r o rows k es) ≡ Some j → find_row q (rows_from (λ j script. j) r o rows k es) ≡ Some j → p ≡ q
own-from r o rows k [] w = w.own
own-from r o rows k (e ∷ es) w = own-from r (result_or o (apply r o e)) (rows_step (λ j script. j) k e (apply r o e) rows) (k + 1) es (own-step e k (apply r o e) rows w)

none-own : AreOwn [] 0
none-own = record { below = λ q j h. absurd (cc); own = λ p q j f g. absurd (cc) }

-- a number in the list is that of one of the stories
number-of : (k : ℕ) (ids : List Text) (numbers : List (Text × ℕ)) → has_number k (numbers_of ids numbers) ≡ true → (id : Text) × (has_id id ids ≡ true) × (find_row id numbers ≡ Some k)
number-of k [] numbers h = absurd (cc)
number-of k (x ∷ xs) numbers h = by (find_row x numbers) refl h (number-of k xs numbers)
  where
    here : has_id x (x ∷ xs) ≡ true
    here = rw (same-self x) refl

    more : (id : Text) → has_id id xs ≡ true → has_id id (x ∷ xs) ≡ true
    more id i = grind (arith, i)

    is_it : (j : ℕ) (ks : List ℕ) → has_number k (j ∷ ks) ≡ true → (k == j) ≡ false → has_number k ks ≡ true
    is_it j ks h n = grind (arith, nat_tests)

    equal : (j : ℕ) → (k == j) ≡ true → j ≡ k
    equal j e = grind (arith, nat_tests)

    rest : (has_number k (numbers_of xs numbers) ≡ true → (id : Text) × (has_id id xs ≡ true) × (find_row id numbers ≡ Some k)) → has_number k (numbers_of xs numbers) ≡ true → (id : Text) × (has_id id (x ∷ xs) ≡ true) × (find_row id numbers ≡ Some k)
    rest i h = let f = i h in (f.0, more f.0 f.1, f.2)

    by : (o : Option ℕ) → find_row x numbers ≡ o → has_number k (with_found o (numbers_of xs numbers)) ≡ true → (has_number k (numbers_of xs numbers) ≡ true → (id : Text) × (has_id id xs ≡ true) × (find_row id numbers ≡ Some k)) → (id : Text) × (has_id id (x ∷ xs) ≡ true) × (find_row id numbers ≡ Some k)
    by None e h i = rest i h
    by (Some j) e h i = which (k == j) refl
      where
        which : (b : Bool) → (k == j) ≡ b → (id : Text) × (has_id id (x ∷ xs) ≡ true) × (find_row id numbers ≡ Some k)
        which true c = (x, here, e ∙ ap (λ (n : ℕ). Some n) (equal j c))
        which false c = rest i (is_it j (numbers_of xs numbers) h c)

once : (ids : List Text) (numbers : List (Text × ℕ)) → IsDistinct ids → ((p q : Text) (j : ℕ) → find_row p numbers ≡ Some j → find_row q numbers ≡ Some j → p ≡ q) → StandOnce (numbers_of ids numbers)
once [] numbers d own = tt
once (x ∷ xs) numbers d own = by (find_row x numbers) refl (once xs numbers d.1 own)
  where
    absent : (k : ℕ) → find_row x numbers ≡ Some k → (b : Bool) → has_number k (numbers_of xs numbers) ≡ b → b ≡ false
    absent k f false e = refl
    absent k f true e = absurd (let n = number-of k xs numbers e in let t : has_id x xs ≡ true = subst (λ (z : Text). has_id z xs ≡ true) (own n.0 x k n.2 f) n.1 in let u = d.0 in cc)

    by : (o : Option ℕ) → find_row x numbers ≡ o → StandOnce (numbers_of xs numbers) → StandOnce (with_found o (numbers_of xs numbers))
    by None e i = i
    by (Some k) e i = (absent k e (has_number k (numbers_of xs numbers)) refl, i)

pub stand-once : (journal : List Entry) (r : Text) (m : ℕ) → AreDistinct (story_ids_of (order_at journal r m)) → StandOnce (in_force journal r m)
stand-once journal r m d =
    once (story_ids_of (order_at journal r m)) (numbers_after r (take m (entries r journal))) (is-distinct (story_ids_of (order_at journal r m)) d)
    (own-from r None [] 0 (take m (entries r journal)) none-own)

pub stand-once-now : (journal : List Entry) (r : Text) (o : Order) → order_now journal r ≡ Some o → AreDistinct (story_ids o.stories) → StandOnce (in_force journal r (entry_count journal r))
stand-once-now journal r o h d =
    stand-once journal r (entry_count journal r)
    (subst (λ (p : Option Order). AreDistinct (story_ids_of p)) (sym (ap (order_after r) (take-length (entries r journal)) ∙ h)) d)
