-- What is appended for one device of a world.
use Rattle.std.specs.Prelude.{◌≡◌, ℕ, List, ◌++◌}
use Rattle.mos_edits.specs.Texts.{Text}
use Rattle.mos_edits.specs.Entries.{Entry}
use Rattle.mos_machines.specs.Server.{PeerState}
use Rattle.mos_machines.specs.Device.{GateState}
use Rattle.world_laws.specs.World.{Pairing}
use Rattle.world_scripts.specs.Listing.{Lists, IsViewed, device_lines}

-- Behind what stood `before`, `after` has the lines of device `d`: of each pairing whose peer, gate and counts of applied
-- entries are these. The views that are told are those of `viewed`.
pub record AreDeviceLines (journal : List Entry) (d : ℕ) (peer : PeerState) (gate : GateState) (applied : Text → ℕ) (before after : List ℕ) : Type 0 where
  pub viewed : List Text
  pub lists : (l : Pairing) → l.peer ≡ peer → Lists (IsViewed journal l) viewed
  pub lines : (l : Pairing) → l.peer ≡ peer → l.gate ≡ gate → ((r : Text) → l.applied r ≡ applied r) → after ≡ before ++ device_lines d l viewed
