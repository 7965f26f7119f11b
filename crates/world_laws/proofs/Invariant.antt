-- The invariant of one device's pairing.
use Rattle.std.proofs.Common.{◌≡◌, ℕ, List, Bool}
use Rattle.mos_edits.specs.Texts.{Text}
use Rattle.mos_edits.specs.Entries.{Entry}
use Rattle.mos_edits.proofs.Lacking.{lacking_order}
use Rattle.world_laws.specs.World.{Pairing}
use Rattle.world_laws.proofs.Replication.{IsInvariant}
use Rattle.world_laws.proofs.Channels.{PairingOk, replication, channels}

-- `lacks`: of each order the entries whose scripts the device lacks.
pub record PairingInvariant (journal : List Entry) (count : ℕ) (l : Pairing) : Type 0 where
  pub ok : PairingOk journal count l
  pub lacks : Text → ℕ → Bool
  pub replications : (r : Text) → IsInvariant (replication journal (channels l) r (l.peer.views r) (l.gate.phase r) (l.applied r) (lacks r))
  pub holds : (r : Text) → l.gate.held r ≡ lacking_order journal r (lacks r) (l.applied r)
