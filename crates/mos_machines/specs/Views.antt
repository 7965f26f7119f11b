-- How the server's views stand to its journal, and which entry a device is sent next.
use Rattle.std.specs.Prelude.{◌≡◌, ◌⊎◌, ℕ, ◌+◌, ◌-◌, ◌<◌, ◌≤◌, List, [], ◌∷◌, Bool, true, false, if◌then◌else◌}
use Rattle.mos_edits.specs.Texts.{Text, same_id}
use Rattle.mos_edits.specs.Entries.{Entry, kind, entry_count, edit_at, in_force}
use Rattle.mos_edits.specs.Scripts.{has_number}
use Rattle.mos_edits.specs.Entries.Kind.{IsWhole, IsReady}
use Rattle.mos_machines.specs.Server.{Upper, View, PeerState}
use Rattle.mos_machines.specs.Server.ServerOut.{SendsEdit, SendsAgain, SendsScript}
use Rattle.mos_machines.specs.Server.Upper.{Open}
use Rattle.mos_machines.specs.Server.View.{Out, Listed, In, From}
use Rattle.mos_machines.specs.Steps.{ServerState}

-- the entry before `m` is a READY where it is to be sent again
abbrev pub IsReadyIf : List Entry → Text → ℕ → Bool → Type 0
IsReadyIf journal r m false = Unit {0}
IsReadyIf journal r m true = (0 < m) × (kind (edit_at journal r (m - 1)) ≡ IsReady)

-- A view speaks of entries that are there; what is sent again is a READY, or a script in force after the entries of the list,
-- of which all are due where the list is on its way; and what is sent first is a whole-order edit.
abbrev pub IsViewWithin : List Entry → Text → View → Type 0
IsViewWithin journal r Out = Unit {0}
IsViewWithin journal r (Listed m scripts) = (m ≤ entry_count journal r) × (scripts ≡ in_force journal r m)
IsViewWithin journal r (In n again scripts) = (n ≤ entry_count journal r) × IsReadyIf journal r n again × ((k : ℕ) → has_number k scripts ≡ true → has_number k (in_force journal r n) ≡ true)
IsViewWithin journal r (From k) = (k < entry_count journal r) × (kind (edit_at journal r k) ≡ IsWhole)

-- what is in flight is what the view of its order made due
abbrev pub IsOutWithin : List Entry → (Text → View) → Upper → Type 0
IsOutWithin journal views (Open c (SendsEdit r k)) = (k < entry_count journal r) × ((views r ≡ In k false []) ⊎ (views r ≡ From k))
IsOutWithin journal views (Open c (SendsAgain r m)) = views r ≡ In m true []
IsOutWithin journal views (Open c (SendsScript r k m)) = (again : Bool) × (scripts : List ℕ) × (views r ≡ In m again (k ∷ scripts))
IsOutWithin journal views u = Unit {0}

pub record IsPeerWithin (journal : List Entry) (s : PeerState) : Type 0 where
  pub views : (r : Text) → IsViewWithin journal r (s.views r)
  pub out : IsOutWithin journal s.views s.upper

abbrev pub IsServerWithin : ServerState → Type 0
IsServerWithin s = (d : ℕ) → IsPeerWithin s.journal (s.peers d)

-- the entry after the one in flight, where one of this order is
abbrev pub entry_after : Text → Upper → ℕ → ℕ
entry_after r (Open c (SendsEdit q k)) n = if same_id r q then k + 1 else n
entry_after r u n = n

abbrev pub entry_by : ℕ → View → ℕ
entry_by count Out = count
entry_by count (Listed m scripts) = m
entry_by count (In n again scripts) = n
entry_by count (From k) = k

-- The least entry of an order that the device may still be sent. It never falls, and a sent entry raises it: so no entry
-- is sent twice, but a READY or a script sent again.
abbrev pub next_entry : List Entry → PeerState → Text → ℕ
next_entry journal s r = entry_after r s.upper (entry_by (entry_count journal r) (s.views r))
