-- One more step of a loop over the identifiers of an action.
use Rattle.std.proofs.Common.{◌≡◌, ℕ, ◌+◌, ◌<◌, ◌≤◌, List, [], ◌∷◌, length, drop, get_or, refl, sym, ap, ◌∙◌}
use Rattle.std.proofs.lemmas.List.{drop_more, drop_all}
use Rattle.mos_edits.specs.Texts.{Text}
use Rattle.mos_edits.specs.KeyedLists.{without}
use Rattle.element_action.specs.Targets.{moved, moved_all}
use Rattle.element_action.proofs.PlaceLemmas.{without_none}
use Rattle.element_action.proofs.MoveLemmas.{without_twice}

pub next : (ids : List Text) (k : ℕ) (id : Text) → k < length ids → id ≡ get_or ids k id → drop k ids ≡ id ∷ drop (k + 1) ids
next ids k id lt at = drop_more ids k id lt ∙ ap (λ u. u ∷ drop (k + 1) ids) (sym at)

module _ {X : Type 0} (key : X → Text) where
  pub moves_next : (t : Text) (ids : List Text) (k : ℕ) (id : Text) (xs : List X) → k < length ids → id ≡ get_or ids k id
      → moved_all key t (drop (k + 1) ids) (moved key t id xs) ≡ moved_all key t (drop k ids) xs
  moves_next t ids k id xs lt at = sym (ap (λ l. moved_all key t l xs) (next ids k id lt at))

  pub moves_end : (t : Text) (ids : List Text) (k : ℕ) (xs : List X) → length ids ≤ k → moved_all key t (drop k ids) xs ≡ xs
  moves_end t ids k xs le = ap (λ l. moved_all key t l xs) (drop_all k ids le)

  pub removals_next : (ids : List Text) (k : ℕ) (id : Text) (xs : List X) → k < length ids → id ≡ get_or ids k id
      → without key (drop (k + 1) ids) (without key (id ∷ []) xs) ≡ without key (drop k ids) xs
  removals_next ids k id xs lt at = without_twice key (id ∷ []) (drop (k + 1) ids) xs ∙ sym (ap (λ l. without key l xs) (next ids k id lt at))

  pub removals_end : (ids : List Text) (k : ℕ) (xs : List X) → length ids ≤ k → without key (drop k ids) xs ≡ xs
  removals_end ids k xs le = ap (λ l. without key l xs) (drop_all k ids le) ∙ without_none key [] xs (λ z i. refl)
