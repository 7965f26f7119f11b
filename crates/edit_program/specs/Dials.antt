-- What becomes of a dialer.
use Rattle.std.specs.Prelude.{◌≡◌, ℕ, ◌≤◌, List, [], ◌∷◌, Option}
use Rattle.mos_io.specs.Counts.{Rose}
use Rattle.port_links.specs.Links.{Gives}

-- what is seen of a dialer: the numbers of the connections that it opened, and the counts of its calls and of its faults
pub record Dials : Type 0 where
  pub links : Option (List ℕ)
  pub calls : ℕ
  pub faults : ℕ

abbrev pub dials : Option (List ℕ) → ℕ → ℕ → Dials
dials l c f = record { links = l; calls = c; faults = f }

-- It was called, and opened a connection: one, where that is observable. No count fell.
pub record HasOpened (was now : Dials) : Type 0 where
  pub number : ℕ
  pub gives : Gives was.links now.links (number ∷ [])
  pub called : Rose was.calls now.calls
  pub calls : was.calls ≤ now.calls
  pub faults : was.faults ≤ now.faults

-- It was called, and counted a fault: no connection was opened. No count fell.
pub record HasFailed (was now : Dials) : Type 0 where
  pub kept : now.links ≡ was.links
  pub called : Rose was.calls now.calls
  pub calls : was.calls ≤ now.calls
  pub rose : Rose was.faults now.faults
  pub faults : was.faults ≤ now.faults
