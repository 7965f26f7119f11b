-- The entry that is found by going over the journal from a place on, before which none is due.
use Rattle.std.proofs.Common.{◌≡◌, ℕ, ◌+◌, ◌<◌, ◌≤◌, Bool, true, false, List, length, slice_get, take, Option, Some, None, refl, sym, ap, ◌∙◌, subst, inl, inr, if◌then◌else◌, cond, ◌==◌, arith}
use Rattle.std.proofs.lemmas.Bool.Decides.{nat_tests}
use Rattle.std.proofs.lemmas.Bool.{cases_lt, cases_eq}
use Rattle.mos_edits.specs.Texts.{Text}
use Rattle.mos_edits.specs.Entries.{Entry, entry_count}
use Rattle.mos_machines.specs.Server.{View, due_at, due_in}
use Rattle.mos_machines.specs.Server.View.{Out}
use Rattle.mos_machines.specs.Server.ServerOut.{Idle}
use Rattle.mos_machines.specs.Tables.{look, row_ids}
use Rattle.mos_machines.proofs.Least.{due_in-entry}
use Rattle.order_table.specs.Rows.{IsAscending}
use Rattle.server_peer.specs.declared.due.Due.{Due}
use Rattle.server_peer.specs.Dues.{due_of, first_from, due_out, IsIdleBefore, StandsFrom, at_place, here_of, due_here}
use Rattle.server_peer.proofs.DueLemmas.{AtMost, due-sends, first-row, first-is, due-stands, idle-before}

at-self : (d : Due) → at_place d.place (Some d) ≡ Some d
at-self d = by (d.place == d.place) refl
  where
    by : (b : Bool) → (d.place == d.place) ≡ b → (if b then Some d else None) ≡ Some d
    by true e = refl
    by false e = absurd (grind (arith, nat_tests, e))

module _ (journal : List Entry) (rows : List (Text × View)) (a : IsAscending (row_ids rows)) where
  -- the first one is found at its place
  here-is : (d : Due) → first_from journal None rows ≡ Some d → due_here journal rows d.place ≡ Some d
  here-is d e =
      let o = first-is journal rows d a e in
      let s = due-stands journal o.r (look Out rows o.r) d o.is in
      let is : due_of journal s.entry.ro (look Out rows s.entry.ro) ≡ Some d = subst (λ (r : Text). due_of journal r (look Out rows r) ≡ Some d) s.ro o.is in
      ap (here_of journal rows d.place) s.there ∙ (ap (at_place d.place) is ∙ at-self d)

  pub within : (d : Due) → first_from journal None rows ≡ Some d → d.place < length journal
  within d e = let o = first-is journal rows d a e in (due-stands journal o.r (look Out rows o.r) d o.is).within

  -- it is due
  not-idle : (d : Due) → first_from journal None rows ≡ Some d → due_in (look Out rows) (λ r. 0) journal d.place ≡ Idle → ⊥
  not-idle d e i =
      let o = first-is journal rows d a e in
      let s = due-stands journal o.r (look Out rows o.r) d o.is in
      let y = s.entry in
      let count : 0 + entry_count (take d.place journal) y.ro ≡ entry_count (take d.place journal) y.ro = omega arith in
      let at : due_in (look Out rows) (λ r. 0) journal d.place ≡ due_out y.ro d = due_in-entry (look Out rows) (λ r. 0) journal d.place y s.there ∙ (ap (λ (k : ℕ). due_at y.ro (look Out rows y.ro) k) count ∙ subst (λ (r : Text). due_at r (look Out rows r) (entry_count (take d.place journal) r) ≡ due_out r d) s.ro s.out) in
      due-sends d.kind y.ro d.number (sym at ∙ i)

  -- the one that is found at the place of the look is the first
  pub look-begun : (n : ℕ) → IsIdleBefore n journal (look Out rows) → StandsFrom n (first_from journal None rows)
  look-begun n i = by (first_from journal None rows) refl
    where
      by : (o : Option Due) → first_from journal None rows ≡ o → StandsFrom n o
      by None e = tt
      by (Some d) e = elim (cases_lt d.place n) [
        | inl l ↦ absurd (not-idle d e (i d.place l))
        | inr g ↦ omega (arith, g)
      ]

  pub look-passed : (n : ℕ) → due_here journal rows n ≡ None → StandsFrom n (first_from journal None rows) → StandsFrom (n + 1) (first_from journal None rows)
  look-passed n h s = by (first_from journal None rows) refl s
    where
      by : (o : Option Due) → first_from journal None rows ≡ o → StandsFrom n o → StandsFrom (n + 1) o
      by None e t = tt
      by (Some d) e t = elim (cases_eq d.place n) [
        | inl i ↦ absurd (let f : due_here journal rows n ≡ Some d = subst (λ (k : ℕ). due_here journal rows k ≡ Some d) i (here-is d e) in let g : None ≡ Some d = sym h ∙ f in cc)
        | inr u ↦ omega (arith, t, u)
      ]

  pub look-found : (n : ℕ) (d : Due) → due_here journal rows n ≡ Some d → StandsFrom n (first_from journal None rows) → first_from journal None rows ≡ Some d
  look-found n d h s = at (slice_get journal n) refl h
    where
      first : (e : Due) → (o : Option Due) → first_from journal None rows ≡ o → AtMost o n → StandsFrom n o → o ≡ Some d
      first e None f m t = absurd m
      first e (Some c) f m t =
          let p : c.place ≡ n = omega (arith, m, t) in
          let g : due_here journal rows n ≡ Some c = subst (λ (k : ℕ). due_here journal rows k ≡ Some c) p (here-is c f) in
          sym g ∙ h

      placed : (y : Entry) (q : Option Due) → due_of journal y.ro (look Out rows y.ro) ≡ q → at_place n q ≡ Some d → first_from journal None rows ≡ Some d
      placed y None i k = absurd (cc)
      placed y (Some e) i k = by (e.place == n) refl k
        where
          by : (b : Bool) → (e.place == n) ≡ b → (if b then Some e else None) ≡ Some d → first_from journal None rows ≡ Some d
          by false f g = absurd (cc)
          by true f g =
              let p : e.place ≡ n = grind (arith, nat_tests, f) in
              first e (first_from journal None rows) refl (subst (λ (k : ℕ). AtMost (first_from journal None rows) k) p (first-row journal None rows y.ro e i)) s

      at : (o : Option Entry) → slice_get journal n ≡ o → here_of journal rows n o ≡ Some d → first_from journal None rows ≡ Some d
      at None e i = absurd (cc)
      at (Some y) e i = placed y (due_of journal y.ro (look Out rows y.ro)) refl i

  pub look-ended : (n : ℕ) → length journal ≤ n → StandsFrom n (first_from journal None rows) → first_from journal None rows ≡ None
  look-ended n l s = by (first_from journal None rows) refl s
    where
      by : (o : Option Due) → first_from journal None rows ≡ o → StandsFrom n o → o ≡ None
      by None e t = refl
      by (Some d) e t = absurd (let w = within d e in omega (arith, l, t, w))

  -- what stands before the first one isn't due
  pub idle-until : (n : ℕ) → n ≤ length journal → StandsFrom n (first_from journal None rows) → IsIdleBefore n journal (look Out rows)
  idle-until n l s m h = idle-before journal rows m (omega (arith, l, h)) (by (first_from journal None rows) s)
    where
      by : (o : Option Due) → StandsFrom n o → AtMost o m → ⊥
      by None t k = k
      by (Some d) t k = absurd (omega (arith, t, k, h))
