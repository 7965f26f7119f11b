-- Worlds that a run ends in.
use Rattle.std.specs.Prelude.{◌≡◌, ℕ, List, Some}
use Rattle.mos_machines.specs.Server.{upper_link}
use Rattle.world_laws.specs.World.{World, WorldEvent, Pairing, opening, run}
use Rattle.world_laws.specs.World.Opener.{TheServer, TheDevice}

-- some run ends in this world
pub record IsReached (w : World) : Type 0 where
  pub devices : ℕ
  pub events : List WorldEvent
  pub ends : run (opening devices) events ≡ w

-- The links of both ends are connections between the two: those that the server opened to the device, and those that the
-- device opened to the server.
pub record HasLinks (l : Pairing) : Type 0 where
  pub upper : (c : ℕ) → upper_link l.peer.upper ≡ Some c → (l.connections c).opener ≡ TheServer
  pub read : (c : ℕ) → l.gate.upper ≡ Some c → (l.connections c).opener ≡ TheServer
  pub linked : (c : ℕ) → l.peer.link ≡ Some c → (l.connections c).opener ≡ TheDevice
  pub dialed : (c : ℕ) → l.gate.link ≡ Some c → (l.connections c).opener ≡ TheDevice
