-- What the listeners, dialers and spawners in memory are.
use Rattle.std.specs.Prelude.{◌≡◌, ℕ, List, [], ◌∷◌, ◌++◌, Option, Some, None}
use Rattle.mos_io.specs.Counts.{counted}

-- a listener in memory: the connections that are still to come, which calls fail, the number of the next call and of the
-- faults so far
pub record MemoryListener (X : Type 0) : Type 0 where
  pub links : List X
  pub fails : List ℕ
  pub call : ℕ
  pub faults : ℕ

-- the first of them is handed out, where there is one
abbrev pub Hands : {X : Type 0} → List X → List X → Option X → Type 0
Hands [] after link = (link ≡ None) × (after ≡ [])
Hands (x ∷ xs) after link = (link ≡ Some x) × (after ≡ xs)

-- a dialer in memory: the connections that it is to open, the numbers of those that it opened, which calls fail, the number
-- of the calls and of the faults so far
pub record MemoryDialer (X : Type 0) : Type 0 where
  pub links : List X
  pub opened : List ℕ
  pub fails : List ℕ
  pub calls : ℕ
  pub faults : ℕ

-- a spawner in memory: its jobs, which calls fail, the number of the next call and of the faults so far
pub record MemorySpawner (J : Type 0) : Type 0 where
  pub jobs : List J
  pub fails : List ℕ
  pub call : ℕ
  pub faults : ℕ
