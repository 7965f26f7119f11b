-- How the parts of a world in memory stand for the world's definition.
use Rattle.std.specs.Prelude.{◌≡◌, ℕ, ◌+◌, ◌<◌, List, [], length, slice_get, false, Option, Some, None}
use Rattle.std.specs.List.{AllByRecursion}
use Rattle.mos_edits.specs.Entries.{Entry, IsEntry, AreEntries}
use Rattle.rundown_log.specs.Memory.{MemoryKeeper, doubt_of}
use Rattle.ncs_core.specs.State.{NcsTables, ncs_of, devices_of}
use Rattle.world_laws.specs.World.{Pairing, World, WorldEvent, opening, run}
use Rattle.written_laws.specs.Worlds.{IsSoundCommand, KeepsLimits}
use Rattle.world_parts.specs.Matching.{HasGateway, MatchesConnections}
use Rattle.world_stage.specs.declared.play.Play.{Play}

-- Device `d`, from 0: what the server keeps for it, the device, and its connections. In the world's definition devices are
-- numbered from 1.
pub record MatchesPairing (t : Play) (d : ℕ) (l : Pairing) : Type 0 where
  pub peer : (ncs_of t.ncs).peers d ≡ l.peer
  pub gateway : HasGateway (slice_get t.gateways.items d) l
  pub connections : MatchesConnections t.connections.items (d + 1) l.connections

-- the keeper: the entries of the journal stand for certain, and the one whose append failed doesn't, until it is settled
pub record MatchesKeeper (k : MemoryKeeper) (w : World) : Type 0 where
  pub certain : k.certain ≡ w.journal
  pub doubtful : k.doubtful ≡ doubt_of false w.uncertain
  pub failing : k.failing ≡ w.failing
  pub fails : k.fails ≡ []
  pub stands : k.stands ≡ false

-- the server, but for its devices
pub record MatchesServer (n : NcsTables MemoryKeeper) (w : World) : Type 0 where
  pub journal : n.server.journal ≡ w.journal
  pub stopped : n.server.stopped ≡ w.stopped
  pub keeper : MatchesKeeper n.keeper w
  pub kept : n.kept ≡ Some w.journal
  pub running : w.stopped ≡ false → w.uncertain ≡ None

-- all but the pairings
pub record MatchesRest (t : Play) (w : World) : Type 0 where
  pub server : MatchesServer t.ncs w
  pub count : length t.connections.items ≡ w.count
  pub devices : devices_of t.ncs ≡ w.devices
  pub gateways : length t.gateways.items ≡ w.devices

-- The parts stand for those of the world, whose entries have the roIDs of their edits.
pub record MatchesParts (t : Play) (w : World) : Type 0 where
  pub rest : MatchesRest t w
  pub pairings : (d : ℕ) → d < w.devices → MatchesPairing t d (w.pairings (d + 1))
  pub entries : AreEntries w.journal
  pub uncertain : (e : Entry) → w.uncertain ≡ Some e → IsEntry e

-- Some run ends in this world, whose commands bring sound edits within the limits of fields and whose gateways are asked for
-- orders by short roIDs.
pub record IsReachedSoundly (w : World) : Type 0 where
  pub devices : ℕ
  pub events : List WorldEvent
  pub ends : run (opening devices) events ≡ w
  pub sound : AllByRecursion IsSoundCommand events
  pub limits : AllByRecursion KeepsLimits events

-- The parts stand for a world that such a run ends in.
pub record Matches (t : Play) (w : World) : Type 0 where
  pub parts : MatchesParts t w
  pub reached : IsReachedSoundly w

-- they stand for one
abbrev pub MatchesOne : Play → Type 0
MatchesOne t = (w : World) × Matches t w

-- each device has its gateway
abbrev pub IsSized : Play → Type 0
IsSized t = length t.gateways.items ≡ devices_of t.ncs

-- A world in memory, where memory didn't run out.
abbrev pub Shows : Option Play → World → Type 0
Shows None w = ⊥
Shows (Some t) w = Matches t w
