-- What words are.
use Rattle.std.proofs.Common.{◌≡◌, ℕ, List, [], ◌∷◌, inr, Option, None, refl, subst}
use Rattle.port_links.specs.declared.place.Place.{Place}
use Rattle.edit_runs.specs.declared.status.EditStatus.TheVariants as statuses
use Rattle.edit_program.specs.Ends.{AreNoPlace}
use Rattle.edit_program.specs.Words.{ArePlace, AreWords, IsServer}

-- a word without a colon is no place
pub no_halves : (halves : Option (List ℕ × List ℕ)) → halves ≡ None → AreNoPlace halves statuses.Usage
no_halves halves e = inr (refl, λ place h. subst (λ (r : Option (List ℕ × List ℕ)). ArePlace r place) e h)

module _ (first second : List ℕ) where
  -- the same words
  pub same_server : (a b : List ℕ) (place : Place) (id : List ℕ) → a ≡ first → b ≡ second → IsServer a b place id → IsServer first second place id
  same_server a b place id e f h = subst (λ (x : List ℕ). IsServer x second place id) e (subst (λ (y : List ℕ). IsServer a y place id) f h)

  -- two words that are no place and ID
  pub not_two : ((place : Place) (id : List ℕ) → IsServer first second place id → ⊥) → (place : Place) (id : List ℕ) → AreWords (first ∷ second ∷ []) place id → ⊥
  not_two none place id h = none place id (let are = h.are in let e : h.first ≡ first = cc in let f : h.second ≡ second = cc in same_server h.first h.second place id e f h.is_server)
