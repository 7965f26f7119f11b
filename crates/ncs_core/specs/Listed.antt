-- The orders that a listing of the server tells.
use Rattle.std.specs.Prelude.{◌≡◌, List, [], ◌∷◌, Bool, true, false, ◌||◌}
use Rattle.mos_edits.specs.Texts.{Text, same_id, has_id}
use Rattle.mos_edits.specs.Entries.{Entry}
use Rattle.mos_machines.specs.Server.{View, PeerState}
use Rattle.mos_machines.specs.Server.View.{Out}
use Rattle.order_table.specs.Rows.{IsAscending}

-- whether an order has an entry
abbrev pub has_entry : List Entry → Text → Bool
has_entry [] r = false
has_entry (e ∷ es) r = same_id r e.ro || has_entry es r

-- whether the device is taken to hold something of an order
abbrev pub is_seen : View → Bool
is_seen Out = false
is_seen v = true

-- whether the view of an order is told: it has an entry, or the device is taken to hold something of it
abbrev pub is_viewed : List Entry → PeerState → Text → Bool
is_viewed journal s r = has_entry journal r || is_seen (s.views r)

-- the roIDs that pass a test: ascending, none twice
pub record IsListOf (test : Text → Bool) (ids : List Text) : Type 0 where
  pub ascending : IsAscending ids
  pub all : (r : Text) → has_id r ids ≡ test r
