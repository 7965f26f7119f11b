-- What listeners, dialers and spawners tell, where that is observable.
use Rattle.std.specs.Prelude.{◌≡◌, ℕ, ◌+◌, List, ◌++◌, Option, Some, None}

-- so many fewer are still to come
abbrev pub Fewer : Option ℕ → Option ℕ → ℕ → Type 0
Fewer None after n = after ≡ None
Fewer (Some coming) after n = (rest : ℕ) × (coming ≡ rest + n) × (after ≡ Some rest)

-- so many more were taken
abbrev pub More : Option ℕ → Option ℕ → ℕ → Type 0
More None after n = after ≡ None
More (Some taken) after n = after ≡ Some (taken + n)

-- none is still to come
abbrev pub NoneComes : Option ℕ → Type 0
NoneComes None = Unit {0}
NoneComes (Some coming) = coming ≡ 0

-- what accepting gives: none exactly where none is still to come, else one of them
abbrev pub Accepts : {X : Type 0} → Option ℕ → Option ℕ → Option X → Type 0
Accepts before after None = NoneComes before × (after ≡ before)
Accepts before after (Some link) = Fewer before after 1

-- connections of these numbers were given, behind those before
abbrev pub Gives : Option (List ℕ) → Option (List ℕ) → List ℕ → Type 0
Gives None after numbers = after ≡ None
Gives (Some given) after numbers = after ≡ Some (given ++ numbers)
