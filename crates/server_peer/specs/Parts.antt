-- How the parts of a device as the server keeps it stand for those of the server's state.
use Rattle.std.specs.Prelude.{◌≡◌, ℕ, ◌+◌, ◌<◌, List, [], ◌∷◌, length, filter, not, ◌==◌, Bool, true, false, Option, Some, None, IsSome, ◌&&◌, if◌then◌else◌}
use Rattle.mos_edits.specs.Texts.{Text, same_id}
use Rattle.mos_edits.specs.Scripts.{has_number}
use Rattle.mos_edits.specs.Entries.{Entry, kind, edit_at}
use Rattle.mos_machines.specs.Messages.{Packet, Message, Tag as MachineTag, read_status}
use Rattle.mos_machines.specs.Messages.Message.{Heartbeat, RoAck}
use Rattle.mos_machines.specs.Messages.Tag.{OfEntry, OfAgain, OfScript}
use Rattle.mos_machines.specs.Server.{ServerOut, Upper, View, PeerState, is_success, is_ready, is_open, view_if, view_without, view_given, sent, beat_or_due}
use Rattle.mos_fields.specs.declared.time.MosTime.{MosTime}
use Rattle.mos_machines.specs.Tables.{PeerTables, put_row}
use Rattle.mos_machines.specs.Values.{message_of}
use Rattle.order_table.specs.Rows.{find_row}
use Rattle.machine_answers.specs.declared.answers.Sent.{Sent}
use Rattle.machine_answers.specs.declared.answers.Sent.TheVariants as sents
use Rattle.machine_answers.specs.declared.answers.Tag.{Tag}
use Rattle.machine_answers.specs.declared.answers.Tag.TheVariants as tags
use Rattle.server_peer.specs.declared.upper.ServerOut.{ServerOut as Flight}
use Rattle.server_peer.specs.declared.upper.ServerOut.TheVariants as flights
use Rattle.server_peer.specs.declared.upper.Upper.{Upper as Connection}
use Rattle.server_peer.specs.declared.upper.Upper.TheVariants as connections
use Rattle.server_peer.specs.declared.answers.Outcome.{Outcome}
use Rattle.server_peer.specs.declared.answers.Outcome.TheVariants as outcomes
use Rattle.server_peer.specs.declared.after.After.{After}
use Rattle.server_peer.specs.declared.after.After.TheVariants as afters
use Rattle.server_peer.specs.declared.view.View.{View as Shown}
use Rattle.server_peer.specs.declared.view.View.TheVariants as views
use Rattle.server_peer.specs.declared.view.Held.{Held}
use Rattle.server_peer.specs.declared.view.Held.TheVariants as helds

abbrev pub out_of : Flight → ServerOut
out_of flights.Idle = ServerOut.Idle
out_of (flights.Edit ro k) = ServerOut.SendsEdit ro k
out_of (flights.Again ro m) = ServerOut.SendsAgain ro m
out_of (flights.Script ro k m) = ServerOut.SendsScript ro k m
out_of flights.Beat = ServerOut.SendsBeat

abbrev pub upper_of : Connection → Upper
upper_of connections.Down = Upper.Down
upper_of (connections.Greeting link) = Upper.Greeting link
upper_of (connections.Open link out) = Upper.Open link (out_of out)

-- a view without the scripts that are due, and those
abbrev pub view_with : Held → List ℕ → View
view_with helds.Out scripts = View.Out
view_with (helds.Listed m) scripts = View.Listed m scripts
view_with (helds.In n again) scripts = View.In n again scripts
view_with (helds.From k) scripts = View.From k

-- what of a view is shown: of the scripts that are due their number
abbrev pub shown_view : View → Shown
shown_view View.Out = views.Out
shown_view (View.Listed m scripts) = views.Listed m
shown_view (View.In n again scripts) = views.In n again (length scripts)
shown_view (View.From k) = views.From k

-- each number of a list is below `n`
abbrev pub AreBelow : ℕ → List ℕ → Type 0
AreBelow n ks = (k : ℕ) → has_number k ks ≡ true → k < n

-- the scripts that are due are of entries which the list has
abbrev pub HasEarlier : View → Type 0
HasEarlier (View.Listed m scripts) = AreBelow m scripts
HasEarlier (View.In n again scripts) = AreBelow n scripts
HasEarlier v = Unit {0}

-- a list without a number, as a filter
abbrev pub others : ℕ → List ℕ → List ℕ
others k ks = filter (λ x. not (k == x)) ks

-- the view once what is in flight was answered, or a whole-order edit was given
abbrev pub after_view : After → View → View
after_view (afters.Entry taken n) v = view_if taken n
after_view (afters.Script taken k) v = view_without taken k v
after_view (afters.Given n) v = view_given true n v

-- the order of which an entry is in flight has a row
abbrev pub IsFlightKnown : ServerOut → List (Text × View) → Type 0
IsFlightKnown (ServerOut.SendsEdit r k) rows = IsSome (find_row r rows)
IsFlightKnown (ServerOut.SendsAgain r m) rows = IsSome (find_row r rows)
IsFlightKnown (ServerOut.SendsScript r k m) rows = IsSome (find_row r rows)
IsFlightKnown o rows = Unit {0}

abbrev pub IsOutKnown : Upper → List (Text × View) → Type 0
IsOutKnown (Upper.Open c o) rows = IsFlightKnown o rows
IsOutKnown u rows = Unit {0}

-- what is in flight on a connection, where it is open
abbrev pub flight : Upper → Option ServerOut
flight (Upper.Open c o) = Some o
flight u = None

-- the tag of what the server sends
abbrev pub sent_tag : MachineTag → Tag
sent_tag (OfEntry r k) = tags.Edit r k
sent_tag (OfAgain r m) = tags.Again r m
sent_tag (OfScript r k m) = tags.Script r k m
sent_tag t = tags.Beat

-- what is sent, as the call answers it
abbrev pub sent_of : Option Packet → Sent
sent_of None = sents.Nothing
sent_of (Some p) = sents.Out (message_of p.message) (sent_tag p.tag)

-- whether the text of a roAck says that the edit was taken
abbrev pub says_taken : Bool → Text → Bool
says_taken ready text = is_success ready (read_status text)

-- whether an entry of this order is in flight
abbrev pub is_flight_of : Text → ServerOut → Bool
is_flight_of r (ServerOut.SendsEdit q k) = same_id r q
is_flight_of r (ServerOut.SendsAgain q m) = same_id r q
is_flight_of r (ServerOut.SendsScript q k m) = same_id r q
is_flight_of r o = false

-- there is a row for the view that a whole-order edit of this order leaves, where the connection is open
abbrev pub IsRoomFor : Bool → Text → PeerTables → Type 0
IsRoomFor whole r p = is_open p.upper && whole ≡ true → IsSome (find_row r p.views)

-- What an answer does: None where nothing was asked for that it answers; else what is in flight is done, and where that
-- was an entry, the view of its order is the one that is given.

abbrev pub beat_answered : Message → Option (Option View)
beat_answered (Heartbeat time) = Some None
beat_answered m = None

abbrev pub edit_answered : List Entry → Text → ℕ → Message → Option (Option View)
edit_answered journal r k (RoAck q t) =
    if same_id q r then Some (Some (view_if (is_success (is_ready (kind (edit_at journal r k))) t) (k + 1))) else None
edit_answered journal r k m = None

abbrev pub again_answered : Text → ℕ → Message → Option (Option View)
again_answered r n (RoAck q t) = if same_id q r then Some (Some (view_if (is_success true t) n)) else None
again_answered r n m = None

abbrev pub script_answered : View → Text → ℕ → Message → Option (Option View)
script_answered v r k (RoAck q t) = if same_id q r then Some (Some (view_without (is_success false t) k v)) else None
script_answered v r k m = None

-- `v` is the view of the order of which an entry is in flight
abbrev pub flight_answered : List Entry → View → ServerOut → Message → Option (Option View)
flight_answered journal v ServerOut.Idle m = None
flight_answered journal v (ServerOut.SendsEdit r k) m = edit_answered journal r k m
flight_answered journal v (ServerOut.SendsAgain r n) m = again_answered r n m
flight_answered journal v (ServerOut.SendsScript r k n) m = script_answered v r k m
flight_answered journal v ServerOut.SendsBeat m = beat_answered m

abbrev pub outcome : List Entry → View → Upper → Message → Option (Option View)
outcome journal v Upper.Down m = None
outcome journal v (Upper.Greeting c) m = beat_answered m
outcome journal v (Upper.Open c o) m = flight_answered journal v o m

-- the view of the order of which an entry is in flight
abbrev pub out_view : ServerOut → (Text → View) → View
out_view (ServerOut.SendsEdit r k) views = views r
out_view (ServerOut.SendsAgain r m) views = views r
out_view (ServerOut.SendsScript r k m) views = views r
out_view o views = View.Out

abbrev pub flight_view : Upper → (Text → View) → View
flight_view (Upper.Open c o) views = out_view o views
flight_view u views = View.Out

-- there is a number after that of the entry in flight
abbrev pub IsNumbered : ServerOut → Type 0
IsNumbered (ServerOut.SendsEdit r k) = k < 18446744073709551615
IsNumbered o = Unit {0}

abbrev pub IsUpperNumbered : Upper → Type 0
IsUpperNumbered (Upper.Open c o) = IsNumbered o
IsUpperNumbered u = Unit {0}

-- nothing is in flight any more
abbrev pub idled : Upper → Upper
idled Upper.Down = Upper.Down
idled (Upper.Greeting c) = Upper.Open c ServerOut.Idle
idled (Upper.Open c o) = Upper.Open c ServerOut.Idle

-- the view of the order of which an entry is in flight
abbrev pub put_flight : ServerOut → View → List (Text × View) → List (Text × View)
put_flight (ServerOut.SendsEdit r k) v rows = put_row r v rows
put_flight (ServerOut.SendsAgain r m) v rows = put_row r v rows
put_flight (ServerOut.SendsScript r k m) v rows = put_row r v rows
put_flight o v rows = rows

abbrev pub put_out : Upper → View → List (Text × View) → List (Text × View)
put_out (Upper.Open c o) v rows = put_flight o v rows
put_out u v rows = rows

-- the tables after an answer that was asked for
abbrev pub seen_tables : PeerTables → Option View → PeerTables
seen_tables p None = record { upper = idled p.upper; note = p.note; link = p.link; views = p.views }
seen_tables p (Some v) = record { upper = idled p.upper; note = p.note; link = p.link; views = put_out p.upper v p.views }

-- the link of an open connection on which nothing is in flight
abbrev pub link_if_idle : ℕ → ServerOut → Option ℕ
link_if_idle c ServerOut.Idle = Some c
link_if_idle c o = None

abbrev pub idle_link : Upper → Option ℕ
idle_link (Upper.Open c o) = link_if_idle c o
idle_link u = None

-- where no entry is due, a heartbeat that was asked for
abbrev pub sent_idle : MosTime → PeerState → ℕ → PeerState × Option Packet
sent_idle now s c = sent [] now s c (beat_or_due s.note ServerOut.Idle)

-- what an answer does, as the code tells it; `v` is the view of the order of which an entry is in flight
abbrev pub outcome_of : View → Outcome → Option (Option View)
outcome_of v outcomes.Unasked = None
outcome_of v outcomes.Done = Some None
outcome_of v (outcomes.Seen after) = Some (Some (after_view after v))

-- what holds of each device as the server keeps it
abbrev pub IsSound : PeerTables → Type 0
IsSound p = IsOutKnown p.upper p.views × IsUpperNumbered p.upper
