-- The numbers of a journal, after one entry more and in the order of the stories.
use Rattle.std.proofs.Common.{◌≡◌, ℕ, suc, ◌+◌, ◌<◌, arith, Bool, true, false, List, [], ◌∷◌, ◌++◌, length, Option, Some, None, ◌==◌, refl, sym, ap, ◌∙◌, subst, if◌then◌else◌}
use Rattle.std.proofs.Math.Seq.{take-length}
use Rattle.std.proofs.lemmas.List.{append-nil}
use Rattle.std.proofs.lemmas.Bool.Decides.{nat_tests}
use Rattle.mos_edits.specs.Texts.{Text, same_id}
use Rattle.mos_edits.specs.KeyedLists.{Applied, with_found}
use Rattle.mos_edits.specs.Rows.{find_row, look}
use Rattle.mos_edits.specs.Orders.{Order, StorySend, edit_ro, form_of, taken_out, scripts_after, apply}
use Rattle.mos_edits.specs.declared.edit.Edit.{Edit}
use Rattle.mos_edits.specs.declared.edit.Edit.TheVariants.{Create, Replace, Delete, Metadata, Act, Air, Script}
use Rattle.mos_edits.specs.Entries.{Entry, entry_of, entries, entry_count, order_from, order_now, acceptance, in_force, in_force_after}
use Rattle.mos_edits.specs.Scripts.{result_or, story_ids_of, rows_step, rows_from, numbers_after, numbers_of, has_number}
use Rattle.mos_edits.proofs.Identifiers.{same-true, same-self}
use Rattle.mos_edits.proofs.Journals.{accepted_applies}
use Rattle.mos_edits.proofs.Lacking.{force-below}
use Rattle.mos_values.specs.Distinct.{story_ids}
use Rattle.script_numbers.specs.Numbers.{number_in, AreNumbers, number_next, IsChanged, IsSame, numbers_on, AreBelow}
use Rattle.script_numbers.proofs.RowLemmas.{find-without, find-written}

-- one entry more
rows-push : {X : Type 0} (w : ℕ → StorySend → X) (r : Text) (o : Option Order) (rows : List (Text × X)) (k : ℕ) (es : List Edit) (e : Edit)
    → rows_from w r o rows k (es ++ e ∷ []) ≡ rows_step w (k + length es) e (apply r (order_from r o es) e) (rows_from w r o rows k es)
rows-push w r o rows k [] e = ap (λ (j : ℕ). rows_step w j e (apply r o e) rows) (let z : k ≡ k + 0 = omega arith in z)
rows-push w r o rows k (x ∷ xs) e =
    rows-push w r (result_or o (apply r o x)) (rows_step w k x (apply r o x) rows) (k + 1) xs e
    ∙ ap (λ (j : ℕ). rows_step w j e (apply r (order_from r (result_or o (apply r o x)) xs) e) (rows_from w r (result_or o (apply r o x)) (rows_step w k x (apply r o x) rows) (k + 1) xs)) (let z : k + 1 + length xs ≡ k + suc (length xs) = omega arith in z)

abbrev pub edit_if : Bool → Edit → List Edit
edit_if true e = e ∷ []
edit_if false e = []

entries-push : (journal : List Entry) (x : Entry) (r : Text) → entries r (journal ++ x ∷ []) ≡ entries r journal ++ edit_if (same_id r x.ro) x.edit
entries-push [] x r = by (same_id r x.ro)
  where
    by : (b : Bool) → (if b then x.edit ∷ [] else []) ≡ edit_if b x.edit
    by true = refl
    by false = refl
entries-push (y ∷ journal) x r = by (same_id r y.ro) (entries-push journal x r)
  where
    by : (b : Bool) → entries r (journal ++ x ∷ []) ≡ entries r journal ++ edit_if (same_id r x.ro) x.edit
        → (if b then y.edit ∷ entries r (journal ++ x ∷ []) else entries r (journal ++ x ∷ [])) ≡ (if b then y.edit ∷ entries r journal else entries r journal) ++ edit_if (same_id r x.ro) x.edit
    by true h = ap (λ (es : List Edit). y.edit ∷ es) h
    by false h = h

-- what is found after an edit that applies
pub find-next : (e : Edit) (k : ℕ) (q : Text) (rows : List (Text × ℕ)) → find_row q (scripts_after (λ script. k) e rows) ≡ number_next e k q (find_row q rows)
find-next (Create body) k q rows = refl
find-next (Replace body) k q rows = refl
find-next (Delete ro) k q rows = refl
find-next (Metadata patch) k q rows = refl
find-next (Act ro action) k q rows = find-without q (taken_out (form_of action)) rows
find-next (Air ro air) k q rows = refl
find-next (Script script) k q rows = find-written q script.story k rows

-- the numbers of the order of an accepted entry
numbers-push : (journal : List Entry) (x : Entry) → acceptance journal x ≡ None
    → numbers_after x.ro (entries x.ro (journal ++ x ∷ [])) ≡ scripts_after (λ script. entry_count journal x.ro) x.edit (numbers_after x.ro (entries x.ro journal))
numbers-push journal x a =
    ap (numbers_after x.ro) (entries-push journal x x.ro ∙ ap (λ (b : Bool). entries x.ro journal ++ edit_if b x.edit) (same-self x.ro))
    ∙ (rows-push (λ k script. k) x.ro None [] 0 (entries x.ro journal) x.edit
    ∙ (ap (λ (p : Applied (Option Order)). rows_step (λ k script. k) (0 + entry_count journal x.ro) x.edit p (numbers_after x.ro (entries x.ro journal))) (accepted_applies journal x a)
    ∙ ap (λ (j : ℕ). scripts_after (λ script. j) x.edit (numbers_after x.ro (entries x.ro journal))) (let z : 0 + entry_count journal x.ro ≡ entry_count journal x.ro = omega arith in z)))

-- the numbers of the others
numbers-other : (journal : List Entry) (x : Entry) (r : Text) → same_id r x.ro ≡ false → numbers_after r (entries r (journal ++ x ∷ [])) ≡ numbers_after r (entries r journal)
numbers-other journal x r s =
    ap (numbers_after r) (entries-push journal x r ∙ (ap (λ (b : Bool). entries r journal ++ edit_if b x.edit) s ∙ append-nil (entries r journal)))

-- the rows go as the journal goes
pub numbers-accepted : (e : Edit) (k : ℕ) (old new : List (Text × List (Text × Option ℕ))) → IsChanged (edit_ro e) (number_next e k) old new
    → (journal : List Entry) → AreNumbers journal old → acceptance journal (entry_of e) ≡ None → k ≡ entry_count journal (edit_ro e) → AreNumbers (journal ++ entry_of e ∷ []) new
numbers-accepted e k old new c journal n a k_is = λ q story. c q story ∙ by q story (same_id q (edit_ro e)) refl
  where
    own : (story : Text) → number_next e k story (number_in old (edit_ro e) story) ≡ find_row story (numbers_after (edit_ro e) (entries (edit_ro e) (journal ++ entry_of e ∷ [])))
    own story =
        ap (number_next e k story) (n (edit_ro e) story)
        ∙ (ap (λ (j : ℕ). number_next e j story (find_row story (numbers_after (edit_ro e) (entries (edit_ro e) journal)))) k_is
        ∙ (sym (find-next e (entry_count journal (edit_ro e)) story (numbers_after (edit_ro e) (entries (edit_ro e) journal)))
        ∙ sym (ap (find_row story) (numbers-push journal (entry_of e) a))))

    by : (q story : Text) (s : Bool) → same_id q (edit_ro e) ≡ s → (if s then number_next e k story (number_in old q story) else number_in old q story) ≡ find_row story (numbers_after q (entries q (journal ++ entry_of e ∷ [])))
    by q story true s = subst (λ (z : Text). number_next e k story (number_in old z story) ≡ find_row story (numbers_after z (entries z (journal ++ entry_of e ∷ [])))) (sym (same-true q (edit_ro e) s)) (own story)
    by q story false s = n q story ∙ sym (ap (find_row story) (numbers-other journal (entry_of e) q s))

pub numbers-same : (old new : List (Text × List (Text × Option ℕ))) → IsSame old new → (journal : List Entry) → AreNumbers journal old → AreNumbers journal new
numbers-same old new s journal n = λ r story. s r story ∙ n r story

-- rows that give the same as a table of numbers give the same list
on-of : (ids : List Text) (rows : List (Text × Option ℕ)) (numbers : List (Text × ℕ)) → ((story : Text) → look None rows story ≡ find_row story numbers) → numbers_on ids rows ≡ numbers_of ids numbers
on-of [] rows numbers h = refl
on-of (id ∷ more) rows numbers h = λ i. with_found (h id i) (on-of more rows numbers h i)

pub in-force : (journal : List Entry) (rows : List (Text × List (Text × Option ℕ))) (r : Text) (o : Order) → AreNumbers journal rows → order_now journal r ≡ Some o
    → numbers_on (story_ids o.stories) (look [] rows r) ≡ in_force journal r (entry_count journal r)
in-force journal rows r o n h =
    on-of (story_ids o.stories) (look [] rows r) (numbers_after r (entries r journal)) (λ story. n r story)
    ∙ (ap (λ (p : Option Order). numbers_of (story_ids_of p) (numbers_after r (entries r journal))) (sym h)
    ∙ ap (in_force_after r) (sym (take-length (entries r journal))))

-- the numbers are below the count of the entries
all-below : (n : ℕ) (ks : List ℕ) → ((k : ℕ) → has_number k ks ≡ true → k < n) → AreBelow n ks
all-below n [] h = tt
all-below n (x ∷ xs) h = (h x (first x), all-below n xs (λ k b. h k (later k b)))
  where
    first : (k : ℕ) → has_number k (k ∷ xs) ≡ true
    first k = grind (arith, nat_tests)

    later : (k : ℕ) → has_number k xs ≡ true → has_number k (x ∷ xs) ≡ true
    later k b = by (k == x)
      where
        by : (c : Bool) → (if c then true else has_number k xs) ≡ true
        by true = refl
        by false = b

pub force-are-below : (journal : List Entry) (r : Text) (m : ℕ) → AreBelow m (in_force journal r m)
force-are-below journal r m = all-below m (in_force journal r m) (λ k. force-below journal r m k)
