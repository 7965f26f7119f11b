-- What the words are where a file is given, and how the program's run ends then.
use Rattle.std.proofs.Common.{◌≡◌, ℕ, List, [], ◌∷◌, inl, inr, refl, Err}
use Rattle.port_links.specs.declared.place.Place.{Place}
use Rattle.edit_runs.specs.declared.status.EditStatus.{EditStatus}
use Rattle.edit_runs.specs.declared.status.EditStatus.TheVariants as statuses
use Rattle.edit_program.specs.Dials.{Dials}
use Rattle.edit_program.specs.Ends.{IsNoServer}
use Rattle.edit_program.specs.Files.{AreFileWords, Checks, FileEnds, FileStreams}
use Rattle.edit_program.specs.Words.{IsServer}
use Rattle.edit_program.proofs.WordLemmas.{same_server}

-- ---- words

module _ (first second path : List ℕ) where
  -- three words of which the first two are no place and ID
  not_three : ((place : Place) (id : List ℕ) → IsServer first second place id → ⊥) → AreFileWords (first ∷ second ∷ path ∷ []) → ⊥
  not_three none h = none h.place h.id (let are = h.are in let e : h.first ≡ first = cc in let f : h.second ≡ second = cc in same_server first second h.first h.second h.place h.id e f h.is_server)

  -- no place and ID came of the first two words
  pub checks_none : (status : EditStatus) → IsNoServer first second status → Checks (first ∷ second ∷ path ∷ []) (Err status)
  checks_none statuses.Usage (inl e) = absurd (cc)
  checks_none statuses.Usage (inr h) = not_three h.1
  checks_none statuses.NoMemory h = tt
  checks_none statuses.Done (inl e) = absurd (cc)
  checks_none statuses.Done (inr h) = let e = h.0 in absurd (cc)
  checks_none statuses.Refused (inl e) = absurd (cc)
  checks_none statuses.Refused (inr h) = let e = h.0 in absurd (cc)
  checks_none statuses.ReadFault (inl e) = absurd (cc)
  checks_none statuses.ReadFault (inr h) = let e = h.0 in absurd (cc)
  checks_none statuses.WriteFault (inl e) = absurd (cc)
  checks_none statuses.WriteFault (inr h) = let e = h.0 in absurd (cc)
  checks_none statuses.Lost (inl e) = absurd (cc)
  checks_none statuses.Lost (inr h) = let e = h.0 in absurd (cc)
  checks_none (statuses.Unsent line) (inl e) = absurd (cc)
  checks_none (statuses.Unsent line) (inr h) = let e = h.0 in absurd (cc)
  checks_none (statuses.Unheard line) (inl e) = absurd (cc)
  checks_none (statuses.Unheard line) (inr h) = let e = h.0 in absurd (cc)
  checks_none (statuses.Unanswered line) (inl e) = absurd (cc)
  checks_none (statuses.Unanswered line) (inr h) = let e = h.0 in absurd (cc)

-- ---- ends

-- no run was made, since the words weren't right or memory ran out
pub ends_unchecked : (words : List (List ℕ)) (before : Dials) (was : FileStreams) (status : EditStatus) → Checks words (Err status) → FileEnds words before before was was (Err status)
ends_unchecked words before was statuses.Usage h = (h, refl, refl)
ends_unchecked words before was statuses.NoMemory h = (refl, refl)
ends_unchecked words before was statuses.Done h = h
ends_unchecked words before was statuses.Refused h = h
ends_unchecked words before was statuses.ReadFault h = h
ends_unchecked words before was statuses.WriteFault h = h
ends_unchecked words before was statuses.Lost h = absurd h
ends_unchecked words before was (statuses.Unsent line) h = h
ends_unchecked words before was (statuses.Unheard line) h = h
ends_unchecked words before was (statuses.Unanswered line) h = h
