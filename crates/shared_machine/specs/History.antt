-- Histories of calls, and which of them are legal.
use Rattle.std.specs.Prelude.{◌≡◌, ℕ, ◌==◌, List, [], ◌∷◌, ◌++◌, cond, Option, Some, None}
use Rattle.shared_machine.specs.declared.entry.Entry.{Entry}

-- the second list is a prefix of the first
abbrev pub StartsWith : {X : Type 0} → List X → List X → Type 0
StartsWith {X} xs front = (rest : List X) × (xs ≡ front ++ rest)

module _ {E A : Type 0} where
  -- the entry of a call
  abbrev pub entry : ℕ → E → A → ℕ → Entry E A
  entry by event answer decks_left = record { caller = by; event = event; answer = answer; decks_left = decks_left }

  -- the entries of one caller, in order
  abbrev pub calls_by : ℕ → List (Entry E A) → List (Entry E A)
  calls_by by [] = []
  calls_by by (e ∷ es) = cond (e.caller == by) (e ∷ calls_by by es) (calls_by by es)

module _ {M E A : Type 0} (steps : M → E → A → M → Type 0) (refusal : M → M → Type 0) (decks_left : M → ℕ) where
  -- The history leads from the first machine to the second. Each entry is a step of the machine with that answer, after which it has as many decks left as
  -- the entry says. Before, between and after the entries are refused steps alone.
  abbrev pub Reaches : M → List (Entry E A) → M → Type 0
  Reaches start [] end = refusal start end
  Reaches start (e ∷ es) end =
      (before : M) × (after : M) × refusal start before × steps before e.event e.answer after × (e.decks_left ≡ decks_left after) × Reaches after es end

  -- from this machine the history is legal
  abbrev pub IsLegalFrom : M → List (Entry E A) → Type 0
  IsLegalFrom start history = (end : M) × Reaches start history end

  -- the same, where the machine is known
  abbrev pub IsLegal : Option M → List (Entry E A) → Type 0
  IsLegal None history = ⊥
  IsLegal (Some start) history = IsLegalFrom start history
