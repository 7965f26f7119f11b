-- How long the messages of both machines are, where edits and orders are within the limits of fields.
use Rattle.std.proofs.Common.{◌≡◌, ℕ, zero, suc, ◌+◌, ◌-◌, ◌≤◌, Bool, true, false, List, [], ◌∷◌, ◌++◌, length, take, codes, Option, Some, None, arith, refl, if◌then◌else◌, ◌==◌}
use Rattle.std.specs.List.{AllByRecursion}
use Rattle.mos_fields.specs.Characters.{Text}
use Rattle.mos_fields.specs.declared.air.Air.TheVariants.{NotReady}
use Rattle.mos_fields.specs.declared.field.Field.TheVariants as fields
use Rattle.mos_edits.specs.Texts.{set_order}
use Rattle.mos_edits.specs.KeyedLists.ActFault.{Missing, AlreadyThere}
use Rattle.mos_edits.specs.Orders.{Order, bare}
use Rattle.mos_edits.specs.declared.edit.Edit.{Edit}
use Rattle.mos_edits.specs.Entries.{Entry, entries, edit_at, no_edit, order_now, entry_count, acceptance, in_force}
use Rattle.mos_edits.specs.Sizes.{list_limit}
use Rattle.mos_edits.proofs.Journals.{accepted_applies}
use Rattle.mos_machines.specs.Messages.{Status, status_text, Message, message_ro, Packet, untagged}
use Rattle.mos_machines.specs.Messages.Status.{Okay, NoDeck, NotInStep, Faulty, Full, StoreFault, Stopped, NotNow, NoRunningOrder, NotSupported, OtherStatus}
use Rattle.mos_machines.specs.Messages.Message.{Heartbeat, RoEdit, RoAck, RoReq, RoReqAll, RoList, RoListAll, RoElementStat, OtherMessage}
use Rattle.mos_machines.specs.Values.{edit_message, ack, message_of, IsWrittenStatus}
use Rattle.mos_machines.specs.Server.{ServerOut, Upper, View, PeerState, due_at, first_of_two, first_due, beat_or_due, sent, next_by, peer_next, is_busy, settled, peer_settled, list_of, peer_hear}
use Rattle.mos_machines.specs.Server.ServerOut.{Idle, SendsEdit, SendsAgain, SendsScript, SendsBeat}
use Rattle.mos_machines.specs.Server.Upper.{Down, Greeting, Open}
use Rattle.mos_machines.specs.Server.View.{Out, Listed, In, From}
use Rattle.mos_values.specs.MessageViews.{message_events}
use Rattle.mos_values.specs.Parts.{must}
use Rattle.mos_values.specs.Units.{units_in}
use Rattle.mos_values.specs.Views.{ro_ack_events, groups_events}
use Rattle.mos_values.proofs.Encoding.{units_in-append, units_in-nil, units_in_element}
use Rattle.world_laws.specs.World.{own_time}
use Rattle.written_laws.specs.Lengths.{IsShort, IsSmallIfThere, KeepsFieldLimits}
use Rattle.written_laws.proofs.Elements.{all-append, all-get, HoldsIn}
use Rattle.written_laws.proofs.Journals.{all-entries}
use Rattle.written_laws.proofs.Sizes.{short-must}
use Rattle.written_laws.proofs.Actions.{air-units, edit-within}
use Rattle.written_laws.proofs.Accepted.{IsWithin, IsWithinLimit, accepted-within, within-push, fits-in, list-units, all-units}
use Rattle.written_laws.proofs.SmallOrders.{AreLimited, small-now, short-headers}

-- ---- messages

-- the roIDs of a roListAll
abbrev HasShortRos : Message → Type 0
HasShortRos (RoListAll hs) = AllByRecursion (λ h. IsShort h.ro) hs
HasShortRos m = Unit {0}

-- a message of the machines that isn't too long, and the roIDs that it has
abbrev pub IsBounded : Message → Type 0
IsBounded m = (units_in (message_events (message_of m)) ≤ 8200000) × IsShort (message_ro m) × HasShortRos m

abbrev pub IsBoundedPacket : Packet → Type 0
IsBoundedPacket p = IsBounded p.message

no-text : IsShort []
no-text = omega arith

take-short : (n : ℕ) (xs : Text) → length (take n xs) ≤ n
take-short zero xs = omega arith
take-short (suc n) [] = omega arith
take-short (suc n) (x ∷ xs) = let i = take-short n xs in omega (arith, i)

short-status : (t : Status) → IsWrittenStatus t → IsShort (status_text t)
short-status Okay h = omega arith
short-status NoDeck h = omega arith
short-status NotInStep h = omega arith
short-status (Faulty (Missing id)) h = take-short 128 (codes "MISSING " ++ id)
short-status (Faulty (AlreadyThere id)) h = take-short 128 (codes "ALREADY THERE " ++ id)
short-status (Full units) h = omega arith
short-status StoreFault h = omega arith
short-status Stopped h = omega arith
short-status NotNow h = omega arith
short-status NoRunningOrder h = omega arith
short-status NotSupported h = omega arith
short-status (OtherStatus text) h = absurd h

ack-units : (r t : Text) → IsShort r → IsShort t → units_in (message_events (ack r t)) ≤ 8200000
unfolding message_events ro_ack_events groups_events
ack-units r t h k =
    let e = units_in_element (codes "roAck") (must fields.RoID r ++ must fields.RoStatus t ++ []) refl in
    let p = units_in-append (must fields.RoID r ++ must fields.RoStatus t) [] in
    let q = units_in-append (must fields.RoID r) (must fields.RoStatus t) in
    let z = units_in-nil in
    let a = short-must fields.RoID 4 r refl h in
    let b = short-must fields.RoStatus 8 t refl k in
    omega (arith, e, p, q, z, a, b)

pub bounded-ack : (r : Text) (t : Status) → IsShort r → IsWrittenStatus t → IsBounded (RoAck r t)
bounded-ack r t h k = (ack-units r (status_text t) h (short-status t k), h, tt)

pub bounded-request : (r : Text) → IsShort r → IsBounded (RoReq r)
unfolding message_events
bounded-request r h =
    let e = units_in_element (codes "roReq") (must fields.RoID r) refl in
    let a = short-must fields.RoID 4 r refl h in
    (omega (arith, e, a), h, tt)

pub bounded-request-all : IsBounded RoReqAll
unfolding message_events
bounded-request-all =
    let e = units_in_element (codes "roReqAll") [] refl in
    let z = units_in-nil in
    (omega (arith, e, z), no-text, tt)

pub bounded-beat : IsBounded (Heartbeat own_time)
unfolding message_events own_time
bounded-beat =
    let e = units_in_element (codes "heartbeat") (must fields.TimeTag (codes "2000-01-01T00:00:00")) refl in
    let a = short-must fields.TimeTag 4 (codes "2000-01-01T00:00:00") refl (omega arith) in
    (omega (arith, e, a), no-text, tt)

-- ---- journals

-- A journal of accepted edits within the limits of fields; none of its messages is too long.
pub record IsBoundedJournal (journal : List Entry) : Type 0 where
  pub within : IsWithin journal
  pub limited : AreLimited journal
  pub edits : AllByRecursion (λ (e : Entry). units_in (message_events (edit_message e.edit)) ≤ 8200000) journal

pub journal-grows : (journal : List Entry) (e : Entry) → IsBoundedJournal journal → KeepsFieldLimits e → acceptance journal e ≡ None → IsBoundedJournal (journal ++ e ∷ [])
journal-grows journal e i k a =
    let l : AreLimited (journal ++ e ∷ []) = all-append KeepsFieldLimits journal (e ∷ []) i.limited (k, tt) in
    let w = edit-within list_limit e.ro (order_now journal e.ro) (order_now (journal ++ e ∷ []) e.ro) e.edit (accepted_applies journal e a)
    (fits-in (order_now journal e.ro) (i.within.orders e.ro) (small-now journal e.ro i.limited))
    (fits-in (order_now (journal ++ e ∷ []) e.ro) (accepted-within journal e a).0 (small-now (journal ++ e ∷ []) e.ro l)) k.1 (accepted-within journal e a).2 in
    record {
      within = within-push journal e i.within a;
      limited = l;
      edits = all-append (λ (x : Entry). units_in (message_events (edit_message x.edit)) ≤ 8200000) journal (e ∷ []) i.edits (omega (arith, w), tt);
    }

-- ---- the server

bounded-edit : (journal : List Entry) (r : Text) (k : ℕ) → IsBoundedJournal journal → IsShort r → IsBounded (RoEdit (record { ro = r; edit = edit_at journal r k }))
bounded-edit journal r k i h =
    let none : units_in (message_events (edit_message no_edit)) ≤ 8200000 = let u = air-units [] NotReady no-text in omega (arith, u) in
    let e = all-get (λ (x : Edit). units_in (message_events (edit_message x)) ≤ 8200000) (entries r journal) k no_edit
    (all-entries (λ (x : Edit). units_in (message_events (edit_message x)) ≤ 8200000) r journal i.edits) none in
    (e, h, tt)

abbrev IsShortOut : ServerOut → Type 0
IsShortOut (SendsEdit r k) = IsShort r
IsShortOut (SendsAgain r m) = IsShort r
IsShortOut (SendsScript r k m) = IsShort r
IsShortOut o = Unit {0}

short-due : (r : Text) (v : View) (k : ℕ) → IsShort r → IsShortOut (due_at r v k)
short-due r Out k h = tt
short-due r (Listed m ks) k h = tt
short-due r (In n a (j ∷ js)) k h = go (n == k + 1)
  where
    go : (b : Bool) → IsShortOut (if b then SendsScript r j n else Idle)
    go true = h
    go false = tt
short-due r (In n true []) k h = go (n == k + 1)
  where
    go : (b : Bool) → IsShortOut (if b then SendsAgain r n else Idle)
    go true = h
    go false = tt
short-due r (In n false []) k h = go (n == k)
  where
    go : (b : Bool) → IsShortOut (if b then SendsEdit r k else Idle)
    go true = h
    go false = tt
short-due r (From j) k h = go (j == k)
  where
    go : (b : Bool) → IsShortOut (if b then SendsEdit r k else Idle)
    go true = h
    go false = tt

short-first : (a b : ServerOut) → IsShortOut a → IsShortOut b → IsShortOut (first_of_two a b)
short-first Idle b h k = k
short-first (SendsEdit r m) b h k = h
short-first (SendsAgain r m) b h k = h
short-first (SendsScript r j m) b h k = h
short-first SendsBeat b h k = tt

short-first_due : (views : Text → View) (before : Text → ℕ) (journal : List Entry) → AreLimited journal → IsShortOut (first_due views before journal)
short-first_due views before [] a = tt
short-first_due views before (x ∷ xs) a =
    short-first (due_at x.ro (views x.ro) (before x.ro)) (first_due views (set_order before x.ro (before x.ro + 1)) xs) (short-due x.ro (views x.ro) (before x.ro) a.0.2)
    (short-first_due views (set_order before x.ro (before x.ro + 1)) xs a.1)

short-beat : (note : Bool) (o : ServerOut) → IsShortOut o → IsShortOut (beat_or_due note o)
short-beat true Idle h = tt
short-beat false Idle h = tt
short-beat note (SendsEdit r k) h = h
short-beat note (SendsAgain r m) h = h
short-beat note (SendsScript r k m) h = h
short-beat note SendsBeat h = tt

bounded-sent : (journal : List Entry) (s : PeerState) (c : ℕ) (o : ServerOut) → IsBoundedJournal journal → IsShortOut o → HoldsIn IsBoundedPacket (sent journal own_time s c o).1
bounded-sent journal s c Idle i h = tt
bounded-sent journal s c SendsBeat i h = bounded-beat
bounded-sent journal s c (SendsEdit r k) i h = bounded-edit journal r k i h
bounded-sent journal s c (SendsAgain r m) i h = bounded-edit journal r (m - 1) i h
bounded-sent journal s c (SendsScript r k m) i h = bounded-edit journal r k i h

next-by : (journal : List Entry) (s : PeerState) (u : Upper) → IsBoundedJournal journal → HoldsIn IsBoundedPacket (next_by journal own_time s u).1
next-by journal s Down i = tt
next-by journal s (Greeting c) i = tt
next-by journal s (Open c Idle) i =
    let due : ServerOut = first_due s.views (λ r. 0) journal in
    bounded-sent journal s c (beat_or_due s.note due) i (short-beat s.note due (short-first_due s.views (λ r. 0) journal i.limited))
next-by journal s (Open c (SendsEdit r k)) i = tt
next-by journal s (Open c (SendsAgain r m)) i = tt
next-by journal s (Open c (SendsScript r k m)) i = tt
next-by journal s (Open c SendsBeat) i = tt

pub bounded-next : (journal : List Entry) (s : PeerState) → IsBoundedJournal journal → HoldsIn IsBoundedPacket (peer_next journal own_time s).1
bounded-next journal s i = next-by journal s s.upper i

bounded-list : (r : Text) (m : ℕ) (o : Option Order) → IsShort r → IsWithinLimit o → IsSmallIfThere o → IsBoundedPacket (list_of r m o)
bounded-list r m None h w s = bounded-ack r NoRunningOrder h tt
bounded-list r m (Some o) h w s = (list-units (bare o) s w, h, tt)

abbrev IsHeard : PeerState × Packet → Type 0
IsHeard x = IsBoundedPacket x.1

bounded-requested : (journal : List Entry) (s : PeerState) (r : Text) → IsBoundedJournal journal → IsShort r → IsBoundedPacket (peer_hear journal s (RoReq r)).1
bounded-requested journal s r i h = go (is_busy r s.upper) (bounded-list r (entry_count journal r) (order_now journal r) h (i.within.orders r) (small-now journal r i.limited))
  where
    go : (b : Bool) → IsBoundedPacket (list_of r (entry_count journal r) (order_now journal r))
        → IsHeard (
        if b
        then (peer_settled journal false s, untagged (RoAck r NotNow))
        else (
          record { upper = s.upper; note = s.note; link = s.link; views = set_order (λ q. settled journal false q (s.views q)) r (Listed (entry_count journal r) (in_force journal r (entry_count journal r))) },
          list_of r (entry_count journal r) (order_now journal r),
        ))
    go true k = bounded-ack r NotNow h tt
    go false k = k

pub bounded-heard : (journal : List Entry) (s : PeerState) (m : Message) → IsBoundedJournal journal → IsBounded m → IsBoundedPacket (peer_hear journal s m).1
bounded-heard journal s (Heartbeat time) i h = h
bounded-heard journal s (RoEdit e) i h = bounded-ack e.ro NotSupported h.1 tt
bounded-heard journal s (RoAck r t) i h = bounded-ack r NotSupported h.1 tt
bounded-heard journal s (RoReq r) i h = bounded-requested journal s r i h.1
bounded-heard journal s RoReqAll i h = (all-units journal i.within.lists, no-text, short-headers journal i.limited)
bounded-heard journal s (RoList r o) i h = bounded-ack r NotSupported h.1 tt
bounded-heard journal s (RoListAll hs) i h = bounded-ack [] NotSupported no-text tt
bounded-heard journal s (RoElementStat r) i h = bounded-ack r Okay h.1 tt
bounded-heard journal s (OtherMessage r) i h = bounded-ack r NotSupported h.1 tt
