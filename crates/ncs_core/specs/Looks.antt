-- How far in the journal nothing is due to each device.
use Rattle.std.specs.Prelude.{ℕ, ◌≤◌, List, length, get_or}
use Rattle.mos_edits.specs.Entries.{Entry}
use Rattle.mos_machines.specs.Server.{PeerState}
use Rattle.server_peer.specs.Dues.{IsIdleBefore}

-- before this place of the journal nothing is due to the device
pub record IsLooked (n : ℕ) (journal : List Entry) (s : PeerState) : Type 0 where
  pub idle : IsIdleBefore n journal s.views
  pub within : n ≤ length journal

-- the same of each device and its place
abbrev pub AreLooked : List Entry → (ℕ → PeerState) → List ℕ → Type 0
AreLooked journal s looks = (d : ℕ) → IsLooked (get_or looks d 0) journal (s d)
