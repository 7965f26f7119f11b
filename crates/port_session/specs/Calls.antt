-- What a pass gained.
use Rattle.std.specs.Prelude.{◌≡◌, ℕ, List, ◌++◌, map}
use Rattle.shared_machine.specs.declared.entry.Entry.{Entry}
use Rattle.shared_machine.specs.History.{StartsWith, calls_by, IsLegalFrom}

abbrev pub call_of : {E A : Type 0} → Entry E A → E × A
call_of e = (e.event, e.answer)

-- The entries that were added to those of this caller are these calls, with their answers, in this order, and a legal
-- history stays legal.
pub record Gained {M E A : Type 0} (steps : M → E → A → M → Type 0) (refusal : M → M → Type 0) (decks_left : M → ℕ) (start : M) (by : ℕ) (seen later : List (Entry E A)) (calls : List (E × A)) : Type 0 where
  pub made : List (Entry E A)
  pub begins : StartsWith later seen
  pub own : calls_by by later ≡ calls_by by seen ++ made
  pub are : map call_of made ≡ calls
  pub legal : IsLegalFrom steps refusal decks_left start seen → IsLegalFrom steps refusal decks_left start later
