-- What a contract sees of a hub and of a pass.
use Rattle.std.specs.Prelude.{◌≡◌, ℕ, List, [], ◌∷◌, ◌++◌, Option, Some}
use Rattle.atomic_table.specs.Seated.{TableId}
use Rattle.shared_machine.specs.declared.entry.Entry.{Entry}
use Rattle.shared_machine.specs.History.{entry, calls_by, IsLegalFrom}

-- A hub: which one it is, and the machine that it was made with.
pub record Opening (M : Type 0) : Type 0 where
  pub hub : TableId
  pub start : M

-- A pass: its hub, the machine that the hub was made with, the number of the caller that it stands for, and the history that this caller has seen.
pub record Known (M E A : Type 0) : Type 0 where
  pub hub : TableId
  pub start : Option M
  pub caller : ℕ
  pub seen : List (Entry E A)

module _ {M E A : Type 0} where
  -- the pass came from this hub, by new or by split
  abbrev pub IsPassOf : Opening M → Known M E A → Type 0
  IsPassOf h p = (p.hub ≡ h.hub) × (p.start ≡ Some h.start)

  module _ (steps : M → E → A → M → Type 0) (refusal : M → M → Type 0) (decks_left : M → ℕ) where
    -- A call: the later history is legal, begins with all that was seen, and ends with this call, and of its caller's calls it has just the former ones and this.
    abbrev pub Follows : M → ℕ → List (Entry E A) → E → A → List (Entry E A) → Type 0
    Follows start by seen event answer later =
        (between : List (Entry E A)) × (rest : ℕ) × (later ≡ (seen ++ between) ++ entry by event answer rest ∷ [])
        × IsLegalFrom steps refusal decks_left start later × (calls_by by later ≡ calls_by by seen ++ entry by event answer rest ∷ [])
