-- What is seen of a spawner that starts threads.
use Rattle.std.specs.Prelude.{ℕ, Option, None}

-- how many jobs it took isn't observable
abbrev pub uncounted : Option ℕ
uncounted = None
