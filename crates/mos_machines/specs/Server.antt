-- The server: what it keeps for one device, and its steps there.
use Rattle.std.specs.Prelude.{ℕ, zero, suc, ◌+◌, ◌-◌, List, [], ◌∷◌, Bool, true, false, Option, Some, None, if◌then◌else◌, ◌==◌, ◌&&◌, ◌||◌}
use Rattle.mos_edits.specs.Texts.{Text, same_id, set_order}
use Rattle.mos_edits.specs.Orders.{Order, bare}
use Rattle.mos_edits.specs.Scripts.{without_number}
use Rattle.mos_edits.specs.Entries.{Kind, kind, Entry, Refusal, entry_count, edit_at, order_now, in_force, headers}
use Rattle.mos_edits.specs.Entries.Kind.{IsWhole, IsReady}
use Rattle.mos_machines.specs.Messages.{Status, Message, Packet, untagged, not_supported, Step}
use Rattle.mos_machines.specs.Messages.Status.{Okay, NoDeck, NotNow, NoRunningOrder, Stopped}
use Rattle.mos_machines.specs.Messages.Message.{Heartbeat, RoEdit, RoAck, RoReq, RoReqAll, RoList, RoListAll, RoElementStat}
use Rattle.mos_machines.specs.Messages.Tag.{OfEntry, OfAgain, OfScript, OfList}
use Rattle.mos_machines.specs.Messages.Step.{Taken, Unasked}
use Rattle.mos_fields.specs.declared.time.MosTime.{MosTime}

-- What is in flight to the device: entry `k` of an order, the READY before its entry `m` sent again, the script of its entry
-- `k` sent again after a list of `m` entries, a heartbeat.
pub data ServerOut : Type 0 where
  Idle : ServerOut
  SendsEdit : (ro : Text) (k : ℕ) → ServerOut
  SendsAgain : (ro : Text) (m : ℕ) → ServerOut
  SendsScript : (ro : Text) (k m : ℕ) → ServerOut
  SendsBeat : ServerOut

-- The connection that the server opened to the device. It greets with a heartbeat, and is open once that was answered.
pub data Upper : Type 0 where
  Down : Upper
  Greeting : (link : ℕ) → Upper
  Open : (link : ℕ) (out : ServerOut) → Upper

-- What the server takes a device to hold of an order: nothing that it knows of; a list of `m` entries that is on its
-- way, behind which the scripts of the entries `scripts` are due; the order after `n` entries, of which the scripts of the entries `scripts` are first sent again, in that order, and
-- then the READY before entry `n` where `again` says so; nothing before the whole-order edit `k`.
pub data View : Type 0 where
  Out : View
  Listed : (m : ℕ) (scripts : List ℕ) → View
  In : (n : ℕ) (again : Bool) (scripts : List ℕ) → View
  From : (k : ℕ) → View

-- `note`: a heartbeat was asked for. `link`: the connection that the device opened.
pub record PeerState : Type 0 where
  pub upper : Upper
  pub note : Bool
  pub link : Option ℕ
  pub views : Text → View

abbrev pub no_peer : PeerState
no_peer = record { upper = Down; note = false; link = None; views = λ r. Out }

abbrev pub upper_link : Upper → Option ℕ
upper_link Down = None
upper_link (Greeting c) = Some c
upper_link (Open c o) = Some c

abbrev pub is_open : Upper → Bool
is_open (Open c o) = true
is_open u = false

-- upper_opened and upper_cut
abbrev pub peer_opened : ℕ → PeerState → PeerState
peer_opened c s = record { upper = Greeting c; note = false; link = s.link; views = λ r. Out }

abbrev pub peer_cut : PeerState → PeerState
peer_cut s = record { upper = Down; note = false; link = s.link; views = λ r. Out }

abbrev pub is_ready : Kind → Bool
is_ready IsReady = true
is_ready k = false

abbrev pub is_whole : Kind → Bool
is_whole IsWhole = true
is_whole k = false

-- the entry before `m` is a READY
abbrev pub ready_before : List Entry → Text → ℕ → Bool
ready_before journal r zero = false
ready_before journal r (suc m) = is_ready (kind (edit_at journal r m))

-- Whether a status says that the edit was taken: `OK`, and `NO DECK` to a READY.
abbrev pub is_success : Bool → Status → Bool
is_success ready Okay = true
is_success ready NoDeck = ready
is_success ready t = false

-- upper_answer

abbrev pub view_if : Bool → ℕ → View
view_if true n = In n false []
view_if false n = Out

-- a script that was taken is no longer due
abbrev pub view_without : Bool → ℕ → View → View
view_without true k (In n again scripts) = In n again (without_number k scripts)
view_without b k v = Out

abbrev pub back_to : PeerState → ℕ → Text → View → PeerState × Step
back_to s c r v = (record { upper = Open c Idle; note = s.note; link = s.link; views = set_order s.views r v }, Taken)

abbrev pub unasked : PeerState → PeerState × Step
unasked s = (peer_cut s, Unasked)

abbrev pub answered_by : List Entry → PeerState → Upper → Message → PeerState × Step
answered_by journal s (Greeting c) (Heartbeat time) = (record { upper = Open c Idle; note = s.note; link = s.link; views = s.views }, Taken)
answered_by journal s (Open c SendsBeat) (Heartbeat time) = (record { upper = Open c Idle; note = s.note; link = s.link; views = s.views }, Taken)
answered_by journal s (Open c (SendsEdit r k)) (RoAck q t) =
    if same_id q r then back_to s c r (view_if (is_success (is_ready (kind (edit_at journal r k))) t) (k + 1)) else unasked s
answered_by journal s (Open c (SendsAgain r m)) (RoAck q t) = if same_id q r then back_to s c r (view_if (is_success true t) m) else unasked s
answered_by journal s (Open c (SendsScript r k m)) (RoAck q t) = if same_id q r then back_to s c r (view_without (is_success false t) k (s.views r)) else unasked s
answered_by journal s u m = unasked s

abbrev pub peer_answered : List Entry → PeerState → Message → PeerState × Step
peer_answered journal s m = answered_by journal s s.upper m

-- next_send

-- What a view makes due at entry `k` of its order. What is sent again has the place of the last entry of the list.
abbrev pub due_at : Text → View → ℕ → ServerOut
due_at r Out k = Idle
due_at r (Listed m ks) k = Idle
due_at r (In n again (j ∷ js)) k = if n == k + 1 then SendsScript r j n else Idle
due_at r (In n true []) k = if n == k + 1 then SendsAgain r n else Idle
due_at r (In n false []) k = if n == k then SendsEdit r k else Idle
due_at r (From j) k = if j == k then SendsEdit r k else Idle

abbrev pub first_of_two : ServerOut → ServerOut → ServerOut
first_of_two Idle o = o
first_of_two (SendsEdit r k) o = SendsEdit r k
first_of_two (SendsAgain r m) o = SendsAgain r m
first_of_two (SendsScript r k m) o = SendsScript r k m
first_of_two SendsBeat o = SendsBeat

-- The due one that stands first in the journal; `before r` entries of r stand before this part of it.
abbrev pub first_due : (Text → View) → (Text → ℕ) → List Entry → ServerOut
first_due views before [] = Idle
first_due views before (x ∷ xs) =
    first_of_two (due_at x.ro (views x.ro) (before x.ro)) (first_due views (set_order before x.ro (before x.ro + 1)) xs)

-- what is due at place `n` of this part of the journal
abbrev pub due_in : (Text → View) → (Text → ℕ) → List Entry → ℕ → ServerOut
due_in views before [] n = Idle
due_in views before (x ∷ xs) zero = due_at x.ro (views x.ro) (before x.ro)
due_in views before (x ∷ xs) (suc n) = due_in views (set_order before x.ro (before x.ro + 1)) xs n

abbrev pub entry_packet : List Entry → Text → ℕ → Packet
entry_packet journal r k = record { message = RoEdit (record { ro = r; edit = edit_at journal r k }); tag = OfEntry r k }

abbrev pub again_packet : List Entry → Text → ℕ → Packet
again_packet journal r m = record { message = RoEdit (record { ro = r; edit = edit_at journal r (m - 1) }); tag = OfAgain r m }

abbrev pub script_packet : List Entry → Text → ℕ → ℕ → Packet
script_packet journal r k m = record { message = RoEdit (record { ro = r; edit = edit_at journal r k }); tag = OfScript r k m }

abbrev pub beat_or_due : Bool → ServerOut → ServerOut
beat_or_due note Idle = if note then SendsBeat else Idle
beat_or_due note o = o

abbrev pub sent : List Entry → MosTime → PeerState → ℕ → ServerOut → PeerState × Option Packet
sent journal now s c Idle = (s, None)
sent journal now s c SendsBeat = (record { upper = Open c SendsBeat; note = false; link = s.link; views = s.views }, Some (untagged (Heartbeat now)))
sent journal now s c (SendsEdit r k) = (record { upper = Open c (SendsEdit r k); note = s.note; link = s.link; views = s.views }, Some (entry_packet journal r k))
sent journal now s c (SendsAgain r m) = (record { upper = Open c (SendsAgain r m); note = s.note; link = s.link; views = s.views }, Some (again_packet journal r m))
sent journal now s c (SendsScript r k m) = (record { upper = Open c (SendsScript r k m); note = s.note; link = s.link; views = s.views }, Some (script_packet journal r k m))

abbrev pub next_by : List Entry → MosTime → PeerState → Upper → PeerState × Option Packet
next_by journal now s (Open c Idle) = sent journal now s c (beat_or_due s.note (first_due s.views (λ r. 0) journal))
next_by journal now s u = (s, None)

abbrev pub peer_next : List Entry → MosTime → PeerState → PeerState × Option Packet
peer_next journal now s = next_by journal now s s.upper

-- beat
abbrev pub peer_beat : PeerState → PeerState
peer_beat s = record s { note = is_open s.upper || s.note }

-- device_accepted and device_dropped
abbrev pub unlisted : View → View
unlisted (Listed m ks) = Out
unlisted v = v

abbrev pub peer_linked : Option ℕ → PeerState → PeerState
peer_linked c s = record { upper = s.upper; note = s.note; link = c; views = λ r. unlisted (s.views r) }

-- hear

-- A heartbeat says that the device took the list, which has no scripts; any other message says that it may not have.
abbrev pub settled : List Entry → Bool → Text → View → View
settled journal beat r (Listed m scripts) = if beat then In m (ready_before journal r m) scripts else Out
settled journal beat r v = v

abbrev pub peer_settled : List Entry → Bool → PeerState → PeerState
peer_settled journal beat s = record { upper = s.upper; note = s.note; link = s.link; views = λ r. settled journal beat r (s.views r) }

-- the connection isn't open, or an edit of this order is in flight
abbrev pub is_busy : Text → Upper → Bool
is_busy r Down = true
is_busy r (Greeting c) = true
is_busy r (Open c Idle) = false
is_busy r (Open c SendsBeat) = false
is_busy r (Open c (SendsEdit q k)) = same_id r q
is_busy r (Open c (SendsAgain q m)) = same_id r q
is_busy r (Open c (SendsScript q k m)) = same_id r q

abbrev pub list_of : Text → ℕ → Option Order → Packet
list_of r m None = record { message = RoAck r NoRunningOrder; tag = OfList r m }
list_of r m (Some o) = record { message = RoList r (bare o); tag = OfList r m }

abbrev pub peer_hear : List Entry → PeerState → Message → PeerState × Packet
peer_hear journal s (Heartbeat time) = (peer_settled journal true s, untagged (Heartbeat time))
peer_hear journal s RoReqAll = (peer_settled journal false s, untagged (RoListAll (headers journal)))
peer_hear journal s (RoReq r) =
    if is_busy r s.upper
    then (peer_settled journal false s, untagged (RoAck r NotNow))
    else (
      record { upper = s.upper; note = s.note; link = s.link; views = set_order (λ q. settled journal false q (s.views q)) r (Listed (entry_count journal r) (in_force journal r (entry_count journal r))) },
      list_of r (entry_count journal r) (order_now journal r),
    )
peer_hear journal s (RoElementStat r) = (peer_settled journal false s, untagged (RoAck r Okay))
peer_hear journal s m = (peer_settled journal false s, untagged (not_supported m))

-- command, accepted

abbrev pub view_given : Bool → ℕ → View → View
view_given true n Out = From n
view_given b n v = v

-- an accepted entry, which is entry `n` of its order
abbrev pub peer_given : Entry → ℕ → PeerState → PeerState
peer_given e n s =
    record s { views = set_order s.views e.ro (view_given (is_open s.upper && is_whole (kind e.edit)) n (s.views e.ro)) }

-- what the server makes of a command; whether the keeper's append fails is told to it
pub data Verdict : Type 0 where
  Takes : Verdict
  Fails : Verdict
  Refuses : (status : Status) → Verdict

abbrev pub refusal_status : Refusal → Status
refusal_status (Refusal.Faulty f) = Status.Faulty f
refusal_status (Refusal.Full units) = Status.Full units

abbrev pub verdict : Bool → Bool → Option Refusal → Verdict
verdict true fails refusal = Refuses Stopped
verdict false fails (Some x) = Refuses (refusal_status x)
verdict false true None = Fails
verdict false false None = Takes
