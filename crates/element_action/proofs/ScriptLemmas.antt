-- Scripts of the stories that an action takes out.
use Rattle.std.proofs.Common.{◌≡◌, ℕ, zero, suc, ◌-◌, List, [], ◌∷◌, ◌++◌, length, drop, Bool, true, false, not, ◌&&◌, ◌||◌, Some, None, Result, Ok, Err, arith, refl, if◌then◌else◌, sym, ap, ◌∙◌, subst, length-append}
use Rattle.std.proofs.lemmas.List.{length-map}
use Rattle.mos_edits.specs.Texts.{Text, same_id, has_id}
use Rattle.mos_edits.specs.KeyedLists.{without, picked, first_missing, missing_if_not, lacking}
use Rattle.mos_edits.specs.KeyedLists.ActFault.{Missing}
use Rattle.mos_edits.specs.KeyedLists.{Applied}
use Rattle.mos_edits.specs.KeyedLists.Applied.{Done}
use Rattle.mos_edits.specs.Orders.{Order, Story, shape, with_stories}
use Rattle.std.specs.Result.{OnOk}
use Rattle.element_action.specs.declared.fault.ActFault.{ActFault as Answered}
use Rattle.mos_edits.proofs.Identifiers.{same-true, has-without}
use Rattle.mos_values.specs.Distinct.{story_ids}
use Rattle.order_table.specs.Rows.{without_rows}
use Rattle.running_order.specs.Places.{ids_at}
use Rattle.running_order.proofs.Scripts.{without-nothing}
use Rattle.element_action.specs.Answers.{IsAnswer, rows_left}
use Rattle.element_action.specs.Targets.{gathered}
use Rattle.element_action.proofs.PlaceLemmas.{Stands}
use Rattle.element_action.proofs.GatherLemmas.{gathered_end, picked_ids}

pub rows_left_are : {X : Type 0} (gone : List Text) (rows : List (Text × X)) → rows_left gone rows ≡ without_rows gone rows
rows_left_are [] rows = sym (without-nothing rows)
rows_left_are (id ∷ more) rows = refl

-- the identifier of the story that was looked up
pub stands_ids : (t : Text) (ss : List Story) (n : ℕ) → Stands shape.story_id t ss n → ids_at ss n ≡ t ∷ []
stands_ids t [] n h = absurd h
stands_ids t (x ∷ xs) zero h = ap (λ (u : Text). u ∷ []) (sym (same-true t x.id h))
stands_ids t (x ∷ xs) (suc n) h = stands_ids t xs n h.1

-- what stands together at the end has the identifiers of the sources
pub removed_ids : (ss : List Text) (xs : List Story) (n : ℕ) → first_missing (story_ids xs) [] ss ≡ None → n ≡ length xs
    → story_ids (drop (length (gathered shape.story_id n ss xs) - length ss) (gathered shape.story_id n ss xs)) ≡ ss
removed_ids ss xs n h e =
    let w = without shape.story_id ss xs in
    let p = picked shape.story_id ss xs in
    let all : gathered shape.story_id n ss xs ≡ w ++ p = ap (λ k. gathered shape.story_id k ss xs) e ∙ gathered_end shape.story_id ss p xs in
    let names : story_ids p ≡ ss = picked_ids shape.story_id [] ss xs h in
    let long : length p ≡ length ss = sym (length-map p shape.story_id) ∙ ap length names in
    let both = length-append w p in
    let front : length (w ++ p) - length ss ≡ length w = omega (arith, long, both) in
    ap (λ (l : List Story). story_ids (drop (length l - length ss) l)) all ∙ ap (λ k. story_ids (drop k (w ++ p))) front ∙ ap story_ids (behind w p) ∙ names
  where
    behind : (w p : List Story) → drop (length w) (w ++ p) ≡ p
    behind [] p = refl
    behind (x ∷ w) p = behind w p

-- where none of the sources is missing, the first is there, and none of the others is missing without it
missing_less : (s : Text) (there b c ss : List Text) → ((z : Text) → has_id z b ≡ same_id z s || has_id z c) → first_missing there b ss ≡ None → first_missing (without (λ x. x) (s ∷ []) there) c ss ≡ None
missing_less s there b c [] g h = refl
missing_less s there b c (u ∷ us) g h = by (has_id u there) (same_id u s) (has_id u c) refl refl refl (missing_less s there (u ∷ b) (u ∷ c) us more) (subst (λ (q : Bool). (if has_id u there && not q then first_missing there (u ∷ b) us else Some (Missing u)) ≡ None) (g u) h)
  where
    more : (z : Text) → has_id z (u ∷ b) ≡ same_id z s || has_id z (u ∷ c)
    more z = let k = g z in grind (arith, k)

    by : (p q r : Bool) → has_id u there ≡ p → same_id u s ≡ q → has_id u c ≡ r → (first_missing there (u ∷ b) us ≡ None → first_missing (without (λ x. x) (s ∷ []) there) (u ∷ c) us ≡ None)
        → (if p && not (q || r) then first_missing there (u ∷ b) us else Some (Missing u)) ≡ None
        → (if has_id u (without (λ x. x) (s ∷ []) there) && not (has_id u c) then first_missing (without (λ x. x) (s ∷ []) there) (u ∷ c) us else Some (Missing u)) ≡ None
    by false q r e f k i h = absurd (cc)
    by true true r e f k i h = absurd (cc)
    by true false true e f k i h = absurd (cc)
    by true false false e f k i h =
        let w = has-without u (s ∷ []) there in
        let m : has_id u (without (λ x. x) (s ∷ []) there) ≡ true = grind (arith, w, e, f) in
        rw (m, k) (i h)

pub missing_first : (s : Text) (ss there : List Text) → first_missing there [] (s ∷ ss) ≡ None → (has_id s there ≡ true) × (first_missing (without (λ x. x) (s ∷ []) there) [] ss ≡ None)
missing_first s ss there h = by (has_id s there) refl h
  where
    by : (p : Bool) → has_id s there ≡ p → (if p && true then first_missing there (s ∷ []) ss else Some (Missing s)) ≡ None → (has_id s there ≡ true) × (first_missing (without (λ x. x) (s ∷ []) there) [] ss ≡ None)
    by false e i = absurd (cc)
    by true e i = (e, missing_less s there (s ∷ []) [] ss (λ z. refl) i)

-- a target that isn't missing is there
pub lacking_none : (there : List Text) (id : Text) → lacking there id ≡ None → has_id id there ≡ true
lacking_none there id h = by (has_id id there) h
  where
    by : (b : Bool) → missing_if_not b id ≡ None → b ≡ true
    by true h = refl
    by false h = absurd (cc)

-- the order that an action leaves
pub answered : (takes : Bool) (gone : List Text) (d : Applied (List Story)) (before after : Order) (r : Result (Unit {0}) Answered) → IsAnswer takes gone d before after r
    → OnOk r (with_stories before.header (without_rows gone before.scripts) d ≡ Done (Some after))
answered takes gone d before after (Ok x) h =
    let rows : without_rows gone before.scripts ≡ after.scripts = sym (rows_left_are gone before.scripts) ∙ sym h.2 in
    ap (λ p. with_stories before.header (without_rows gone before.scripts) p) h.0 ∙ (λ j. Done (Some (record { header = sym h.1 j; stories = after.stories; scripts = rows j })))
answered takes gone d before after (Err f) h = tt
