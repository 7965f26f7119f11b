-- Counts of outcomes.
use Rattle.std.specs.Prelude.{◌≡◌, ◌<◌, ◌≤◌, ◌^◌, ℕ, ◌+◌, List, length, Bool, true, false}
use Rattle.world_laws.specs.Outcomes.{Outcome}
use Rattle.world_laws.specs.World.{WorldEvent}
use Rattle.world_scripts.specs.Results.{count_of, is_accepted, is_impossible, is_refused}
use Rattle.script_plays.specs.declared.counts.Counts.{Counts}
use Rattle.script_plays.specs.Played.{Telling}

-- how many commands were answered `OK`, how many otherwise, and how many events weren't possible
pub record CountsOf (c : Counts) (os : List Outcome) : Type 0 where
  pub events : c.events ≡ length os
  pub accepted : c.accepted ≡ count_of is_accepted os
  pub refused : c.refused ≡ count_of is_refused os
  pub impossible : c.impossible ≡ count_of is_impossible os

-- one more where the test holds
abbrev pub more_if : Bool → ℕ → ℕ
more_if true n = n + 1
more_if false n = n

abbrev pub counted : Counts → Outcome → Counts
counted c o = record { events = c.events + 1; accepted = more_if (is_accepted o) c.accepted; refused = more_if (is_refused o) c.refused; impossible = more_if (is_impossible o) c.impossible }

-- Events were played, one outcome was told of each, and what was told was counted.
pub record HasCounts (told : Telling) (devices : ℕ) (events : List WorldEvent) (c : Counts) : Type 0 where
  pub outcomes : List Outcome
  pub tells : told devices events outcomes
  pub count : length outcomes ≡ length events
  pub counts : CountsOf c outcomes

-- so few were counted that one more has a number
pub record AreFew (c : Counts) : Type 0 where
  pub events : c.events < 2 ^ 32
  pub accepted : c.accepted ≤ c.events
  pub refused : c.refused ≤ c.events
  pub impossible : c.impossible ≤ c.events
