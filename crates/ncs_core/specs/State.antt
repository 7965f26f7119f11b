-- What the server's machine keeps, as contracts see it.
use Rattle.std.specs.Prelude.{◌≡◌, ℕ, ◌<◌, Bool, List, [], ◌∷◌, ◌++◌, length, get_or, ◌&&◌, Option, Some, None}
use Rattle.mos_edits.specs.Texts.{Text, set_order}
use Rattle.mos_edits.specs.Orders.{Order, HeaderPatch}
use Rattle.mos_edits.specs.Entries.{Entry, order_now}
use Rattle.mos_edits.specs.Sizes.{list_all_units}
use Rattle.mos_machines.specs.Server.{PeerState, no_peer, is_open, view_given}
use Rattle.mos_machines.specs.Steps.{ServerState, StepAnswer}
use Rattle.mos_machines.specs.Steps.StepAnswer.{Sent as Sends, Nothing as NothingDue}
use Rattle.mos_machines.specs.Tables.{look, PeerTables, no_peer_tables, ServerTables, peer_of, server_state}
use Rattle.mos_machines.specs.Values.{message_of}
use Rattle.mos_values.specs.Headers.{patch_of}
use Rattle.machine_answers.specs.declared.answers.Sent.{Sent}
use Rattle.machine_answers.specs.declared.answers.Sent.TheVariants as sents
use Rattle.server_peer.specs.Parts.{sent_tag, IsRoomFor}

-- the tables of the state, the keeper, and the entries that it keeps, where these are observable
pub record NcsTables (K : Type 0) : Type 0 where
  pub server : ServerTables
  pub keeper : K
  pub kept : Option (List Entry)

-- the server's state
abbrev pub ncs_of : {K : Type 0} → NcsTables K → ServerState
ncs_of n = server_state n.server

-- how many devices there are
abbrev pub devices_of : {K : Type 0} → NcsTables K → ℕ
devices_of n = length n.server.peers

-- what a call leaves that neither edits an order nor starts the server
pub record LeavesRest {K : Type 0} (old new : NcsTables K) : Type 0 where
  pub keeper : new.keeper ≡ old.keeper
  pub kept : new.kept ≡ old.kept
  pub devices : devices_of new ≡ devices_of old

-- each order as it is after all its entries
abbrev pub AreOrders : List Entry → List (Text × Option Order) → Type 0
AreOrders journal rows = (r : Text) → look None rows r ≡ order_now journal r

-- the headers of the orders that are there, row after row
abbrev pub one_header : Option Order → List HeaderPatch
one_header None = []
one_header (Some o) = patch_of o.header ∷ []

abbrev pub row_headers : List (Text × Option Order) → List HeaderPatch
row_headers [] = []
row_headers (x ∷ xs) = one_header x.1 ++ row_headers xs

-- the code units of the list of all of them
abbrev pub all_units : List (Text × Option Order) → ℕ
all_units rows = list_all_units (row_headers rows)

-- what is sent, as the call answers it
abbrev pub sent_by : StepAnswer → Sent
sent_by (Sends p) = sents.Out (message_of p.message) (sent_tag p.tag)
sent_by NothingDue = sents.Nothing
sent_by a = sents.Stale

-- devices without connections
abbrev pub AreNew : List PeerTables → Type 0
AreNew [] = Unit {0}
AreNew (p ∷ ps) = (peer_of p ≡ no_peer) × AreNew ps

-- the state of each device, and where there is none, of one that was never connected
abbrev pub states : List PeerTables → ℕ → PeerState
states peers d = peer_of (get_or peers d no_peer_tables)

-- there is room at each device for the view that a whole-order edit of this order leaves
abbrev pub HaveRoomFor : Bool → Text → List PeerTables → Type 0
HaveRoomFor whole r peers = (d : ℕ) → d < length peers → IsRoomFor whole r (get_or peers d no_peer_tables)

-- entry `n` of an order was accepted, which is a whole-order edit or isn't
abbrev pub given_by : Text → Bool → ℕ → PeerState → PeerState
given_by r whole n s = record s { views = set_order s.views r (view_given (is_open s.upper && whole) n (s.views r)) }
