-- What writing a packet makes of a device's connections, and what is told of it.
use Rattle.std.specs.Prelude.{◌≡◌, ℕ, List}
use Rattle.mos_edits.specs.Texts.{set_number}
use Rattle.mos_machines.specs.Messages.{Packet}
use Rattle.world_scripts.specs.Outcomes.{outcome_of}
use Rattle.world_scripts.specs.declared.outcome.Outcome.{Outcome}
use Rattle.world_laws.specs.Outcomes.{written}
use Rattle.world_laws.specs.World.{Connection as Line}
use Rattle.world_parts.specs.Matching.{MatchesConnections}
use Rattle.world_parts.specs.declared.connection.Connection.{Connection}

-- connection `c` of device `d` is this one now
pub record IsSaid (xs : List Connection) (d c : ℕ) (lines : ℕ → Line) (line : Line) (q : Packet) (o : Outcome) : Type 0 where
  pub connections : MatchesConnections xs d (set_number lines c line)
  pub outcome : outcome_of o ≡ written q.tag q.message
