-- How the program's run ends.
use Rattle.std.proofs.Common.{ℕ, List, [], ◌∷◌, inl, inr, refl}
use Rattle.edit_runs.specs.declared.status.EditStatus.{EditStatus}
use Rattle.edit_program.specs.Dials.{Dials}
use Rattle.edit_program.specs.Ends.{IsNoServer, ProgramEnds, Streams}
use Rattle.edit_program.proofs.WordLemmas.{not_two}

module _ (first second : List ℕ) where
  -- no place and ID came of two words
  pub ends_none : (before : Dials) (was : Streams) (status : EditStatus) → IsNoServer first second status → ProgramEnds (first ∷ second ∷ []) before before was was status
  ends_none before was status (inl e) = inr (inr (record { status_is = e; uncalled = refl; still = refl }))
  ends_none before was status (inr h) = inr (inl (record { are_none = not_two first second h.1; status_is = h.0; uncalled = refl; still = refl }))
