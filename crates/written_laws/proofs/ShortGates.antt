-- What a gateway writes is short where the roIDs that it knows are.
use Rattle.std.proofs.Common.{ℕ, Bool, true, false, List, [], ◌∷◌, Option, Some, None, if◌then◌else◌}
use Rattle.std.specs.List.{AllByRecursion}
use Rattle.mos_edits.specs.Texts.{Text, same_id}
use Rattle.mos_edits.specs.Orders.{Order, OrderBody, order_of, HeaderPatch}
use Rattle.mos_edits.specs.Entries.{insert_id, is_before}
use Rattle.mos_machines.specs.Messages.{Message, untagged, Step}
use Rattle.mos_machines.specs.Messages.Status.{NotSupported}
use Rattle.mos_machines.specs.Messages.Message.{Heartbeat, RoEdit, RoAck, RoReq, RoReqAll, RoList, RoListAll, RoElementStat, OtherMessage}
use Rattle.mos_machines.specs.Messages.Step.{Taken}
use Rattle.mos_machines.specs.Device.{GateState, GateOut, Confirmation, Decks, gate_read, read_result, gate_dropped_if, gate_opened, first_wanted, asked_next, next_if, gate_next, all_known, ros, is_no_order, got_order, got_refusal, gate_unasked, got_by, gate_got}
use Rattle.mos_machines.specs.Device.GateOut.{NotAsking, AsksFor, AsksAll, AsksBeat}
use Rattle.mos_machines.specs.Device.Confirmation.{NotDue, Due, Unanswered}
use Rattle.mos_machines.proofs.Written.{read-written}
use Rattle.world_laws.specs.World.{own_time}
use Rattle.written_laws.specs.Lengths.{IsShort}
use Rattle.written_laws.proofs.Elements.{HoldsIn}
use Rattle.written_laws.proofs.ShortMessages.{IsBounded, IsBoundedPacket, bounded-ack, bounded-request, bounded-request-all, bounded-beat}

abbrev IsShortAsk : GateOut → Type 0
IsShortAsk (AsksFor r) = IsShort r
IsShortAsk o = Unit {0}

-- the roIDs that a gateway knows, and the one that it asks for
abbrev pub IsShortGate : GateState → Type 0
IsShortGate g = AllByRecursion IsShort g.known × IsShortAsk g.out

pub short-insert : (r : Text) (xs : List Text) → IsShort r → AllByRecursion IsShort xs → AllByRecursion IsShort (insert_id r xs)
short-insert r [] h a = (h, tt)
short-insert r (x ∷ xs) h a = go (same_id r x) (is_before r x) (short-insert r xs h a.1)
  where
    go : (b c : Bool) → AllByRecursion IsShort (insert_id r xs) → AllByRecursion IsShort (if b then x ∷ xs else (if c then r ∷ (x ∷ xs) else x ∷ insert_id r xs))
    go true c i = a
    go false true i = (h, a)
    go false false i = (a.0, i)

short-all_known : (rs known : List Text) → AllByRecursion IsShort rs → AllByRecursion IsShort known → AllByRecursion IsShort (all_known rs known)
short-all_known [] known a b = b
short-all_known (r ∷ rs) known a b = short-all_known rs (insert_id r known) a.1 (short-insert r known a.0 b)

short-ros : (hs : List HeaderPatch) → AllByRecursion (λ h. IsShort h.ro) hs → AllByRecursion IsShort (ros hs)
short-ros [] a = tt
short-ros (h ∷ hs) a = (a.0, short-ros hs a.1)

short-wanted : (wanted : Text → Bool) (rs : List Text) → AllByRecursion IsShort rs → HoldsIn IsShort (first_wanted wanted rs)
short-wanted wanted [] a = tt
short-wanted wanted (r ∷ rs) a = go (wanted r) (short-wanted wanted rs a.1)
  where
    go : (b : Bool) → HoldsIn IsShort (first_wanted wanted rs) → HoldsIn IsShort (if b then Some r else first_wanted wanted rs)
    go true i = a.0
    go false i = i

-- ---- reading edits

known-if : (b : Bool) (r : Text) (known : List Text) → IsShort r → AllByRecursion IsShort known → AllByRecursion IsShort (if b then insert_id r known else known)
known-if true r known h a = short-insert r known h a
known-if false r known h a = a

abbrev IsReadTo : GateState × Message → Type 0
IsReadTo x = IsShortGate x.0 × IsBoundedPacket (untagged x.1)

pub short-read : (g : GateState) (decks : Decks) (m : Message) → IsShortGate g → IsBounded m → IsReadTo (gate_read g decks m)
short-read g decks (Heartbeat time) k h = (k, h)
short-read g decks (RoEdit e) k h = (
  (known-if (read_result g decks e).knows e.ro g.known h.1 k.0, k.1),
  bounded-ack e.ro (read_result g decks e).status h.1 (read-written g decks (RoEdit e)),
)
short-read g decks (RoAck r t) k h = (k, bounded-ack r NotSupported h.1 tt)
short-read g decks (RoReq r) k h = (k, bounded-ack r NotSupported h.1 tt)
short-read g decks RoReqAll k h = (k, bounded-ack [] NotSupported h.1 tt)
short-read g decks (RoList r o) k h = (k, bounded-ack r NotSupported h.1 tt)
short-read g decks (RoListAll hs) k h = (k, bounded-ack [] NotSupported h.1 tt)
short-read g decks (RoElementStat r) k h = (k, bounded-ack r NotSupported h.1 tt)
short-read g decks (OtherMessage r) k h = (k, bounded-ack r NotSupported h.1 tt)

-- ---- asking

abbrev IsAsked : GateState × Option Message → Type 0
IsAsked x = IsShortGate x.0 × HoldsIn (λ m. IsBoundedPacket (untagged m)) x.1

asked-next : (g : GateState) (c : Confirmation) (all : Bool) (want : Option Text) (note : Bool) → IsShortGate g → HoldsIn IsShort want → IsAsked (asked_next own_time g c all want note)
asked-next g (Due r) all want note k h = ((k.0, tt), bounded-beat)
asked-next g NotDue true want note k h = ((k.0, tt), bounded-request-all)
asked-next g NotDue false (Some r) note k h = ((k.0, h), bounded-request r h)
asked-next g NotDue false None true k h = ((k.0, tt), bounded-beat)
asked-next g NotDue false None false k h = (k, tt)
asked-next g (Unanswered q) true want note k h = ((k.0, tt), bounded-request-all)
asked-next g (Unanswered q) false (Some r) note k h = ((k.0, h), bounded-request r h)
asked-next g (Unanswered q) false None true k h = ((k.0, tt), bounded-beat)
asked-next g (Unanswered q) false None false k h = (k, tt)

next-if : (g : GateState) (l : Option ℕ) (o : GateOut) → IsShortGate g → IsAsked (next_if own_time g l o)
next-if g None o k = (k, tt)
next-if g (Some c) NotAsking k = asked-next g g.confirm g.want_all (first_wanted g.wanted g.known) g.note k (short-wanted g.wanted g.known k.0)
next-if g (Some c) (AsksFor r) k = (k, tt)
next-if g (Some c) AsksAll k = (k, tt)
next-if g (Some c) AsksBeat k = (k, tt)

pub short-next : (g : GateState) → IsShortGate g → IsAsked (gate_next own_time g)
short-next g k = next-if g g.link g.out k

-- ---- answers

abbrev IsGot : GateState × Step → Type 0
IsGot x = IsShortGate x.0

got-list : (g : GateState) (r : Text) (o : Option Order) → IsShort r → IsShortGate g → IsShortGate (got_order g r o)
got-list g r o h k = (short-insert r g.known h k.0, tt)

got-listed : (b : Bool) (g : GateState) (r : Text) (o : OrderBody) → IsShort r → IsShortGate g → IsGot (if b then (got_order g r (Some (order_of o)), Taken) else gate_unasked g)
got-listed true g r o h k = got-list g r (Some (order_of o)) h k
got-listed false g r o h k = (k.0, tt)

got-refused : (b c : Bool) (g : GateState) (r : Text) → IsShort r → IsShortGate g → IsGot (if b then (if c then (got_order g r None, Taken) else (got_refusal g r, Taken)) else gate_unasked g)
got-refused true true g r h k = got-list g r None h k
got-refused true false g r h k = (k.0, tt)
got-refused false c g r h k = (k.0, tt)

got-by : (g : GateState) (o : GateOut) (m : Message) → IsShortGate g → IsShortAsk o → IsBounded m → IsGot (got_by g o m)
got-by g AsksBeat (Heartbeat time) k a h = (k.0, tt)
got-by g AsksAll (RoListAll hs) k a h = (short-all_known (ros hs) g.known (short-ros hs h.2) k.0, tt)
got-by g AsksAll (RoAck q t) k a h = (k.0, tt)
got-by g (AsksFor r) (RoList q o) k a h = got-listed (same_id q r) g r o a k
got-by g (AsksFor r) (RoAck q t) k a h = got-refused (same_id q r) (is_no_order t) g r a k
got-by g o m k a h = (k.0, tt)

pub short-got : (g : GateState) (m : Message) → IsShortGate g → IsBounded m → IsGot (gate_got g m)
short-got g m k h = got-by g g.out m k k.1 h

pub short-opened : (g : GateState) (c : ℕ) → IsShortGate g → IsShortGate (gate_opened c g)
short-opened g c k = go g.link
  where
    go : (l : Option ℕ) → IsShortGate (record (gate_dropped_if l g) { link = Some c; out = NotAsking })
    go None = (k.0, tt)
    go (Some b) = (k.0, tt)
