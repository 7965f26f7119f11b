-- What a world begins with.
use Rattle.std.specs.Prelude.{◌≡◌, ℕ, List, [], ◌∷◌, Bool, true, false, Some}
use Rattle.ncs_core.specs.State.{NcsTables, ncs_of, devices_of}
use Rattle.mos_machines.specs.Steps.{started}
use Rattle.rundown_log.specs.Keeping.{AreKept}
use Rattle.rundown_log.specs.Memory.{MemoryKeeper, IsLoaded, kept as kept_of, settled}
use Rattle.world_laws.specs.World.{WorldEvent, WorldEvent as events, no_pairing, opening}
use Rattle.world_parts.specs.Matching.{MatchesGateway}
use Rattle.world_parts.specs.declared.gateway.Gateway.{Gateway}
use Rattle.world_stage.specs.Matching.{MatchesServer}

-- gateways without connections that know no order
abbrev pub AreNew : List Gateway → Type 0
AreNew [] = Unit {0}
AreNew (x ∷ xs) = MatchesGateway x no_pairing × AreNew xs

-- a server that was just started, of so many devices
pub record IsNewServer (n : NcsTables MemoryKeeper) (devices : ℕ) : Type 0 where
  pub state : ncs_of n ≡ started [] n.server.faults
  pub server : MatchesServer n (opening devices)
  pub count : devices_of n ≡ devices

abbrev pub is_restart : WorldEvent → Bool
is_restart (events.Restart kept) = true
is_restart e = false

-- The server was started again with the entries of its keeper, all of which stand from then on.
pub record IsStartedAgain (n m : NcsTables MemoryKeeper) : Type 0 where
  pub state : ncs_of m ≡ started m.server.journal m.server.faults
  pub keeper : IsLoaded n.keeper m.keeper
  pub kept : m.kept ≡ n.kept
  pub loaded : AreKept n.kept m.server.journal
  pub devices : devices_of m ≡ devices_of n

-- The same after the entry whose append failed was settled.
abbrev pub settled_server : NcsTables MemoryKeeper → Bool → NcsTables MemoryKeeper
settled_server n kept = record n { keeper = settled n.keeper kept; kept = Some (kept_of (settled n.keeper kept)) }

abbrev pub IsRestarted : NcsTables MemoryKeeper → NcsTables MemoryKeeper → Bool → Type 0
IsRestarted n m kept = IsStartedAgain (settled_server n kept) m
