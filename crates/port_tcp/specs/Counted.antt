-- What isn't seen of listeners and dialers.
use Rattle.std.specs.Prelude.{ℕ, List, Option, None}

-- how many connections are still to come at a listener isn't observable
abbrev pub coming : Option ℕ
coming = None

-- which connections a dialer opened isn't observable
abbrev pub opened : Option (List ℕ)
opened = None
