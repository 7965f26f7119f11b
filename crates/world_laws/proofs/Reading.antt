-- The device reads a packet.
use Rattle.std.proofs.Common.{◌≡◌, ℕ, ◌+◌, ◌<◌, ◌≤◌, List, [], ◌∷◌, map, slice_get, Bool, true, false, Option, Some, None, arith, refl, if◌then◌else◌, not, ◌&&◌, ◌==◌, sym, subst, ◌∙◌}
use Rattle.mos_edits.specs.Texts.{Text}
use Rattle.mos_edits.specs.Orders.{Order}
use Rattle.mos_edits.specs.declared.edit.Edit.{Edit}
use Rattle.mos_edits.specs.Entries.{Kind, kind, Entry, entries, entry_count, edit_at, order_at, in_force}
use Rattle.mos_edits.proofs.Lacking.{scripts-ok, lacking_order, lacking-none}
use Rattle.mos_machines.specs.Messages.{Status, Message, Packet, untagged}
use Rattle.mos_edits.specs.KeyedLists.{Applied}
use Rattle.mos_edits.specs.Entries.Kind.{IsWhole, IsAction, IsReady, IsNotReady}
use Rattle.mos_machines.specs.Messages.Status.{Okay, NoDeck, NotInStep}
use Rattle.mos_edits.specs.KeyedLists.Applied.{Done}
use Rattle.mos_machines.specs.Server.{ServerOut, View, is_success, is_ready}
use Rattle.mos_machines.specs.Device.{Phase, Decks, ReadResult, read_by, is_in}
use Rattle.mos_machines.specs.Messages.Message.{Heartbeat, RoEdit, RoAck}
use Rattle.mos_machines.specs.Device.Phase.{InStep, OutOfStep, Asked, Crossed}
use Rattle.world_laws.specs.Safe.{in_step_status}
use Rattle.world_laws.specs.World.{applied_step}
use Rattle.world_laws.proofs.Replication.{Transfer, InFlight, Request, Incoming, Replication, IsInvariant, IsComplete, readable, IsAsking}
use Rattle.world_laws.proofs.Replication.Transfer.{TransferEntry, TransferAgain, TransferScript}
use Rattle.world_laws.proofs.Replication.InFlight.{Unread}
use Rattle.world_laws.proofs.Channels.{Carries, NoEdits, open_in_flight, success_transfer, transfer_out, is_some_packet, answer_in_flight, Channels, ChannelsOk, transfer_in, in_flight_by, ready_transfer}
use Rattle.world_laws.proofs.Keeps.{answered, keeps_reads_whole, keeps_reads_step, keeps_reads_passed, keeps_reads_again, keeps_reads_script}
use Rattle.world_laws.proofs.Joining.{pushed}
use Rattle.mos_edits.proofs.Identifiers.{same-true, same-self}
use Rattle.mos_edits.proofs.Journals.{JournalOk, order-whole, order-not_ready}

abbrev pub AnswerTo : Message → Message → Type 0
AnswerTo (Heartbeat time) a = a ≡ Heartbeat time
AnswerTo (RoEdit e) a = (t : Status) × (a ≡ RoAck e.ro t)
AnswerTo m a = Unit {0}

abbrev pub read_channels : Channels → Bool → Message → Channels
read_channels w lost a = record w { down = []; up = if w.joined then pushed lost (untagged a) w.up else w.up }

pub channels_ok_read : (journal : List Entry) (w : Channels) (p : Packet) (ps : List Packet) (lost : Bool) (a : Message) → ChannelsOk journal w → w.down ≡ p ∷ ps → AnswerTo p.message a → ChannelsOk journal (read_channels w lost a)
channels_ok_read journal w p ps lost a ok e h = grind arith

-- nothing of this order was read
pub in_flight_read_none : (journal : List Entry) (w : Channels) (r : Text) (p : Packet) (ps : List Packet) (lost : Bool) (a : Message) → ChannelsOk journal w → w.down ≡ p ∷ ps → transfer_in r w.down ≡ None → in_flight_by journal (read_channels w lost a) r w.upper ≡ in_flight_by journal w r w.upper
in_flight_read_none journal w r p ps lost a ok d e = grind (arith, same-true, same-self)

-- an edit of this order was read, and answered
carried : (journal : List Entry) (o : ServerOut) (down up : List Packet) (r : Text) (i : Transfer) → Carries journal o down up → transfer_in r down ≡ Some i → (transfer_out r o ≡ Some i) × (up ≡ [])
carried journal o down up r i c e = grind arith

no_edits_transfer : (down : List Packet) (r : Text) (i : Transfer) → NoEdits down → transfer_in r down ≡ Some i → ⊥
no_edits_transfer down r i n e = grind arith

success_is : (b : Bool) (i : Transfer) → answer_in_flight b i ≡ answered b (Unread i)
success_is true i = refl
success_is false i = refl

abbrev up_read : Bool → Bool → List Packet → Text → Status → List Packet
up_read joined lost up r t = if joined then pushed lost (untagged (RoAck r t)) up else up

pub in_flight_read_open : (journal : List Entry) (o : ServerOut) (joined lost : Bool) (down up : List Packet) (r : Text) (i : Transfer) (t : Status) → (joined ≡ false → NoEdits down) → (joined ≡ true → Carries journal o down up) → transfer_in r down ≡ Some i
    → open_in_flight joined false (success_transfer journal r (transfer_out r o) (up_read joined lost up r t)) (transfer_out r o)
    ≡ answered (not lost && is_success (ready_transfer journal r i) t) (open_in_flight joined (is_some_packet down) (success_transfer journal r (transfer_out r o) up) (transfer_out r o))
in_flight_read_open journal o true lost [] up r i t n c e = cc
in_flight_read_open journal o false lost down up r i t n c e = absurd (no_edits_transfer down r i (n refl) e)
in_flight_read_open journal o true true (p ∷ ps) up r i t n c e = let x = carried journal o (p ∷ ps) up r i (c refl) e in rw (x.0, x.1) refl
in_flight_read_open journal o true false (p ∷ ps) up r i t n c e = let x = carried journal o (p ∷ ps) up r i (c refl) e in rw (x.0, x.1) (success_is (is_success (ready_transfer journal r i) t) i)

pub in_flight_read : (journal : List Entry) (w : Channels) (r : Text) (i : Transfer) (lost : Bool) (t : Status) → ChannelsOk journal w → transfer_in r w.down ≡ Some i
    → in_flight_by journal (read_channels w lost (RoAck r t)) r w.upper ≡ answered (not lost && is_success (ready_transfer journal r i) t) (in_flight_by journal w r w.upper)
in_flight_read journal w r i lost t ok e = grind (arith, in_flight_read_open)

crossed_entry : (l : Replication) → IsInvariant l → (k : ℕ) (b y : Bool) → readable l.in_flight ≡ Some (TransferEntry k) → IsAsking l.phase → IsInvariant (record l { in_flight = answered (b && is_success y NotInStep) l.in_flight; phase = Crossed })
crossed_entry l i k b y r a = grind arith

refused_entry : (l : Replication) → IsInvariant l → (k : ℕ) (b y : Bool) → readable l.in_flight ≡ Some (TransferEntry k) → (IsAsking l.phase → ⊥) → IsInvariant (record l { in_flight = answered (b && is_success y NotInStep) l.in_flight; phase = OutOfStep })
refused_entry l i k b y r a = grind arith

-- an entry of this order, on the replication
abbrev pub replication_of : List Kind → InFlight → View → Request → Bool → Incoming → Phase → ℕ → (ℕ → Bool) → (ℕ → List ℕ) → Replication
replication_of kinds t v a live c phase prefix lacks force = record { kinds = kinds; in_flight = t; view = v; ask = a; live = live; incoming = c; phase = phase; prefix = prefix; lacks = lacks; in_force = force }

-- the same of an order of the journal
abbrev pub replication_at : List Entry → Text → InFlight → View → Request → Bool → Incoming → Phase → ℕ → (ℕ → Bool) → Replication
replication_at journal r t v a live c phase prefix lacks = replication_of (map kind (entries r journal)) t v a live c phase prefix lacks (λ m. in_force journal r m)

pub prefix_in_step : (l : Replication) → IsInvariant l → (k : ℕ) → readable l.in_flight ≡ Some (TransferEntry k) → (kd : Kind) → slice_get l.kinds k ≡ Some kd → l.phase ≡ InStep → (kd ≡ IsWhole → ⊥) → (k ≡ l.prefix) × IsComplete l
prefix_in_step l i k r kd g p n = grind arith

in_step_prefix : (kinds : List Kind) (t : InFlight) (v : View) (a : Request) (live : Bool) (c : Incoming) (prefix : ℕ) (lacks : ℕ → Bool) (force : ℕ → List ℕ) → IsInvariant (replication_of kinds t v a live c InStep prefix lacks force) → (k : ℕ) → readable t ≡ Some (TransferEntry k) → (kd : Kind) → slice_get kinds k ≡ Some kd → (kd ≡ IsWhole → ⊥) → (k ≡ prefix) × ((j : ℕ) → lacks j ≡ false)
in_step_prefix kinds t v a live c prefix lacks force i k r kd g n = grind arith

ready_if : (kinds : List Kind) (t : InFlight) (v : View) (a : Request) (live : Bool) (c : Incoming) (prefix : ℕ) (lacks : ℕ → Bool) (force : ℕ → List ℕ) (k : ℕ) (b no : Bool) → IsInvariant (replication_of kinds (answered (b && true) t) v a live c InStep (k + 1) lacks force)
    → IsInvariant (replication_of kinds (answered (b && is_success true (if no then NoDeck else Okay)) t) v a live c InStep (applied_step IsReady true prefix k (if no then NoDeck else Okay)) lacks force)
ready_if kinds t v a live c prefix lacks force k b true i = i
ready_if kinds t v a live c prefix lacks force k b false i = i

-- what is lacking after entry k was read: nothing of a whole order
abbrev pub lacks_step : Phase → Kind → (ℕ → Bool) → ℕ → Bool
lacks_step InStep IsWhole lacks = λ j. false
lacks_step OutOfStep IsWhole lacks = λ j. false
lacks_step phase kd lacks = lacks

abbrev pub after_entry : List Kind → InFlight → View → Request → Bool → Incoming → Phase → ℕ → (ℕ → Bool) → (ℕ → List ℕ) → ℕ → Kind → Bool → ReadResult → Replication
after_entry kinds t v a live c phase prefix lacks force k kd b x = replication_of kinds (answered (b && is_success (is_ready kd) x.status) t) v a live c x.phase (applied_step kd (is_in phase) prefix k x.status) (lacks_step phase kd lacks) force

pub core_entry : (kinds : List Kind) (t : InFlight) (v : View) (a : Request) (live : Bool) (c : Incoming) (phase : Phase) (prefix : ℕ) (lacks : ℕ → Bool) (force : ℕ → List ℕ) → IsInvariant (replication_of kinds t v a live c phase prefix lacks force)
    → (k : ℕ) → readable t ≡ Some (TransferEntry k) → (kd : Kind) → slice_get kinds k ≡ Some kd → (b : Bool) (decks : Decks) (held : Option Order) (wanted : Bool) (ch : Edit) (ap : Applied (Option Order))
    → (phase ≡ InStep → k ≡ prefix → ((j : ℕ) → lacks j ≡ false) → (o : Option Order) × (ap ≡ Done o)) → IsInvariant (after_entry kinds t v a live c phase prefix lacks force k kd b (read_by phase kd decks held wanted ch ap))
core_entry kinds t v a live c Asked prefix lacks force i k r IsWhole g b decks held wanted ch ap h = crossed_entry (replication_of kinds t v a live c Asked prefix lacks force) i k b false r tt
core_entry kinds t v a live c Asked prefix lacks force i k r IsAction g b decks held wanted ch ap h = crossed_entry (replication_of kinds t v a live c Asked prefix lacks force) i k b false r tt
core_entry kinds t v a live c Asked prefix lacks force i k r IsReady g b decks held wanted ch ap h = crossed_entry (replication_of kinds t v a live c Asked prefix lacks force) i k b true r tt
core_entry kinds t v a live c Asked prefix lacks force i k r IsNotReady g b decks held wanted ch ap h = crossed_entry (replication_of kinds t v a live c Asked prefix lacks force) i k b false r tt
core_entry kinds t v a live c Crossed prefix lacks force i k r IsWhole g b decks held wanted ch ap h = crossed_entry (replication_of kinds t v a live c Crossed prefix lacks force) i k b false r tt
core_entry kinds t v a live c Crossed prefix lacks force i k r IsAction g b decks held wanted ch ap h = crossed_entry (replication_of kinds t v a live c Crossed prefix lacks force) i k b false r tt
core_entry kinds t v a live c Crossed prefix lacks force i k r IsReady g b decks held wanted ch ap h = crossed_entry (replication_of kinds t v a live c Crossed prefix lacks force) i k b true r tt
core_entry kinds t v a live c Crossed prefix lacks force i k r IsNotReady g b decks held wanted ch ap h = crossed_entry (replication_of kinds t v a live c Crossed prefix lacks force) i k b false r tt
core_entry kinds t v a live c OutOfStep prefix lacks force i k r IsWhole g b decks held wanted ch ap h = keeps_reads_whole (replication_of kinds t v a live c OutOfStep prefix lacks force) i k (b && true) r g (λ x. x)
core_entry kinds t v a live c OutOfStep prefix lacks force i k r IsNotReady g b decks held wanted ch ap h = keeps_reads_passed (replication_of kinds t v a live c OutOfStep prefix lacks force) i k (b && true) r refl
core_entry kinds t v a live c OutOfStep prefix lacks force i k r IsAction g b decks held wanted ch ap h = refused_entry (replication_of kinds t v a live c OutOfStep prefix lacks force) i k b false r (λ x. x)
core_entry kinds t v a live c OutOfStep prefix lacks force i k r IsReady g b decks held wanted ch ap h = refused_entry (replication_of kinds t v a live c OutOfStep prefix lacks force) i k b true r (λ x. x)
core_entry kinds t v a live c InStep prefix lacks force i k r IsWhole g b decks held wanted ch ap h = keeps_reads_whole (replication_of kinds t v a live c InStep prefix lacks force) i k (b && true) r g (λ x. x)
core_entry kinds t v a live c InStep prefix lacks force i k r IsNotReady g b decks held wanted ch ap h =
    let m = in_step_prefix kinds t v a live c prefix lacks force i k r IsNotReady g (λ z. cc) in
    keeps_reads_step (replication_of kinds t v a live c InStep prefix lacks force) i k (b && true) r m.0 m.1 refl
core_entry kinds t v a live c InStep prefix lacks force i k r IsAction g b decks held wanted ch ap h =
    let m = in_step_prefix kinds t v a live c prefix lacks force i k r IsAction g (λ z. cc) in
    rw (h refl m.0 m.1).1 (keeps_reads_step (replication_of kinds t v a live c InStep prefix lacks force) i k (b && true) r m.0 m.1 refl)
core_entry kinds t v a live c InStep prefix lacks force i k r IsReady g b decks held wanted ch ap h =
    let m = in_step_prefix kinds t v a live c prefix lacks force i k r IsReady g (λ z. cc) in
    rw (h refl m.0 m.1).1 (ready_if kinds t v a live c prefix lacks force k b (decks.handed && (decks.left == 0)) (keeps_reads_step (replication_of kinds t v a live c InStep prefix lacks force) i k (b && true) r m.0 m.1 refl))

ready_prefix : (prefix k : ℕ) (no : Bool) → applied_step IsReady true prefix k (if no then NoDeck else Okay) ≡ k + 1
ready_prefix prefix k true = refl
ready_prefix prefix k false = refl

-- what is held goes with the prefix and with what is lacking
pub held_entry : (journal : List Entry) → JournalOk journal → (r : Text) (k : ℕ) → k < entry_count journal r → (phase : Phase) (kd : Kind) → kind (edit_at journal r k) ≡ kd → (prefix : ℕ) (lacks : ℕ → Bool) (decks : Decks) (held : Option Order) (wanted : Bool) (ap : Applied (Option Order))
    → held ≡ lacking_order journal r lacks prefix → (phase ≡ InStep → (kd ≡ IsWhole → ⊥) → (k ≡ prefix) × ((j : ℕ) → lacks j ≡ false)) → (phase ≡ InStep → k ≡ prefix → ((j : ℕ) → lacks j ≡ false) → ap ≡ Done (order_at journal r (k + 1)))
    → (read_by phase kd decks held wanted (edit_at journal r k) ap).held ≡ lacking_order journal r (lacks_step phase kd lacks) (applied_step kd (is_in phase) prefix k (read_by phase kd decks held wanted (edit_at journal r k) ap).status)
held_entry journal ok r k b Asked IsWhole e prefix lacks decks held wanted ap h m a = h
held_entry journal ok r k b Asked IsAction e prefix lacks decks held wanted ap h m a = h
held_entry journal ok r k b Asked IsReady e prefix lacks decks held wanted ap h m a = h
held_entry journal ok r k b Asked IsNotReady e prefix lacks decks held wanted ap h m a = h
held_entry journal ok r k b Crossed IsWhole e prefix lacks decks held wanted ap h m a = h
held_entry journal ok r k b Crossed IsAction e prefix lacks decks held wanted ap h m a = h
held_entry journal ok r k b Crossed IsReady e prefix lacks decks held wanted ap h m a = h
held_entry journal ok r k b Crossed IsNotReady e prefix lacks decks held wanted ap h m a = h
held_entry journal ok r k b OutOfStep IsWhole e prefix lacks decks held wanted ap h m a = sym (order-whole journal ok r k b e) ∙ sym (lacking-none journal r (k + 1) (λ j. false) (scripts-ok journal ok r (k + 1) (omega (arith, b))) (λ j. refl))
held_entry journal ok r k b OutOfStep IsAction e prefix lacks decks held wanted ap h m a = h
held_entry journal ok r k b OutOfStep IsReady e prefix lacks decks held wanted ap h m a = h
held_entry journal ok r k b OutOfStep IsNotReady e prefix lacks decks held wanted ap h m a = h
held_entry journal ok r k b InStep IsWhole e prefix lacks decks held wanted ap h m a = sym (order-whole journal ok r k b e) ∙ sym (lacking-none journal r (k + 1) (λ j. false) (scripts-ok journal ok r (k + 1) (omega (arith, b))) (λ j. refl))
held_entry journal ok r k b InStep IsAction e prefix lacks decks held wanted ap h m a =
    let x = m refl (λ z. cc) in
    rw (a refl x.0 x.1) (sym (lacking-none journal r (k + 1) lacks (scripts-ok journal ok r (k + 1) (omega (arith, b))) x.1))
held_entry journal ok r k b InStep IsReady e prefix lacks decks held wanted ap h m a =
    let x = m refl (λ z. cc) in
    rw (a refl x.0 x.1, ready_prefix prefix k (decks.handed && (decks.left == 0))) (sym (lacking-none journal r (k + 1) lacks (scripts-ok journal ok r (k + 1) (omega (arith, b))) x.1))
held_entry journal ok r k b InStep IsNotReady e prefix lacks decks held wanted ap h m a =
    let x = m refl (λ z. cc) in
    let here : held ≡ lacking_order journal r lacks k = subst (λ (n : ℕ). held ≡ lacking_order journal r lacks n) (sym x.0) h in
    here ∙ lacking-none journal r k lacks (scripts-ok journal ok r k (omega (arith, b))) x.1 ∙ sym (order-not_ready journal ok r k b e) ∙ sym (lacking-none journal r (k + 1) lacks (scripts-ok journal ok r (k + 1) (omega (arith, b))) x.1)

pub grows_entry : (phase : Phase) (kd : Kind) (prefix k : ℕ) (t : Status) → prefix ≤ k → prefix ≤ applied_step kd (is_in phase) prefix k t
grows_entry phase kd prefix k t h = grind arith

-- what is answered in step
pub status_entry : (journal : List Entry) (r : Text) (k : ℕ) (kd : Kind) (prefix : ℕ) (lacks : ℕ → Bool) (decks : Decks) (held : Option Order) (wanted : Bool) (ap : Applied (Option Order))
    → ((kd ≡ IsWhole → ⊥) → (k ≡ prefix) × ((j : ℕ) → lacks j ≡ false)) → (k ≡ prefix → ((j : ℕ) → lacks j ≡ false) → (o : Option Order) × (ap ≡ Done o))
    → (read_by InStep kd decks held wanted (edit_at journal r k) ap).status ≡ in_step_status kd decks
status_entry journal r k IsWhole prefix lacks decks held wanted ap m a = refl
status_entry journal r k IsNotReady prefix lacks decks held wanted ap m a = refl
status_entry journal r k IsAction prefix lacks decks held wanted ap m a = let x = m (λ z. cc) in rw (a x.0 x.1).1 refl
status_entry journal r k IsReady prefix lacks decks held wanted ap m a = let x = m (λ z. cc) in rw (a x.0 x.1).1 refl

crossed_again : (l : Replication) → IsInvariant l → (x : Transfer) (b : Bool) → readable l.in_flight ≡ Some x → IsAsking l.phase → IsInvariant (record l { in_flight = answered (b && false) l.in_flight; phase = Crossed })
crossed_again l i x b r a = grind arith

refused_again : (l : Replication) → IsInvariant l → (x : Transfer) (b : Bool) → readable l.in_flight ≡ Some x → (IsAsking l.phase → ⊥) → IsInvariant (record l { in_flight = answered (b && false) l.in_flight; phase = OutOfStep })
refused_again l i x b r a = grind arith

again_if : (kinds : List Kind) (t : InFlight) (v : View) (a : Request) (live : Bool) (c : Incoming) (prefix : ℕ) (lacks : ℕ → Bool) (force : ℕ → List ℕ) (b no : Bool) → IsInvariant (replication_of kinds (answered (b && true) t) v a live c InStep prefix lacks force)
    → IsInvariant (replication_of kinds (answered (b && is_success true (if no then NoDeck else Okay)) t) v a live c InStep prefix lacks force)
again_if kinds t v a live c prefix lacks force b true i = i
again_if kinds t v a live c prefix lacks force b false i = i

-- a READY sent again
pub core_again : (kinds : List Kind) (t : InFlight) (v : View) (a : Request) (live : Bool) (c : Incoming) (phase : Phase) (prefix : ℕ) (lacks : ℕ → Bool) (force : ℕ → List ℕ) → IsInvariant (replication_of kinds t v a live c phase prefix lacks force)
    → (m : ℕ) → readable t ≡ Some (TransferAgain m) → (b : Bool) (decks : Decks) (held : Option Order) (wanted : Bool) (ch : Edit) (ap : Applied (Option Order))
    → (phase ≡ InStep → (o : Option Order) × (ap ≡ Done o))
    → IsInvariant (replication_of kinds (answered (b && is_success true (read_by phase IsReady decks held wanted ch ap).status) t) v a live c (read_by phase IsReady decks held wanted ch ap).phase prefix lacks force)
core_again kinds t v a live c Asked prefix lacks force i m r b decks held wanted ch ap h = crossed_again (replication_of kinds t v a live c Asked prefix lacks force) i (TransferAgain m) b r tt
core_again kinds t v a live c Crossed prefix lacks force i m r b decks held wanted ch ap h = crossed_again (replication_of kinds t v a live c Crossed prefix lacks force) i (TransferAgain m) b r tt
core_again kinds t v a live c OutOfStep prefix lacks force i m r b decks held wanted ch ap h = refused_again (replication_of kinds t v a live c OutOfStep prefix lacks force) i (TransferAgain m) b r (λ x. x)
core_again kinds t v a live c InStep prefix lacks force i m r b decks held wanted ch ap h =
    rw (h refl).1 (again_if kinds t v a live c prefix lacks force b (decks.handed && (decks.left == 0)) (keeps_reads_again (replication_of kinds t v a live c InStep prefix lacks force) i m (b && true) r))

-- a script sent again: what is lacking after it was read
abbrev pub lacks_script : Phase → ℕ → (ℕ → Bool) → ℕ → Bool
lacks_script InStep k lacks = λ j. lacks j && not (j == k)
lacks_script phase k lacks = lacks

pub core_script : (kinds : List Kind) (t : InFlight) (v : View) (a : Request) (live : Bool) (c : Incoming) (phase : Phase) (prefix : ℕ) (lacks : ℕ → Bool) (force : ℕ → List ℕ) → IsInvariant (replication_of kinds t v a live c phase prefix lacks force)
    → (k m : ℕ) → readable t ≡ Some (TransferScript k m) → (b : Bool) (decks : Decks) (held : Option Order) (wanted : Bool) (ch : Edit) (ap : Applied (Option Order))
    → (phase ≡ InStep → (o : Option Order) × (ap ≡ Done o))
    → IsInvariant (replication_of kinds (answered (b && is_success false (read_by phase IsAction decks held wanted ch ap).status) t) v a live c (read_by phase IsAction decks held wanted ch ap).phase prefix (lacks_script phase k lacks) force)
core_script kinds t v a live c Asked prefix lacks force i k m r b decks held wanted ch ap h = crossed_again (replication_of kinds t v a live c Asked prefix lacks force) i (TransferScript k m) b r tt
core_script kinds t v a live c Crossed prefix lacks force i k m r b decks held wanted ch ap h = crossed_again (replication_of kinds t v a live c Crossed prefix lacks force) i (TransferScript k m) b r tt
core_script kinds t v a live c OutOfStep prefix lacks force i k m r b decks held wanted ch ap h = refused_again (replication_of kinds t v a live c OutOfStep prefix lacks force) i (TransferScript k m) b r (λ x. x)
core_script kinds t v a live c InStep prefix lacks force i k m r b decks held wanted ch ap h =
    rw (h refl).1 (keeps_reads_script (replication_of kinds t v a live c InStep prefix lacks force) i k m (b && true) r refl)

pub held_script : (journal : List Entry) (r : Text) (k : ℕ) (phase : Phase) (prefix : ℕ) (lacks : ℕ → Bool) (decks : Decks) (held : Option Order) (wanted : Bool) (ch : Edit) (ap : Applied (Option Order)) → held ≡ lacking_order journal r lacks prefix
    → (phase ≡ InStep → ap ≡ Done (lacking_order journal r (λ j. lacks j && not (j == k)) prefix)) → (read_by phase IsAction decks held wanted ch ap).held ≡ lacking_order journal r (lacks_script phase k lacks) prefix
held_script journal r k Asked prefix lacks decks held wanted ch ap h a = h
held_script journal r k Crossed prefix lacks decks held wanted ch ap h a = h
held_script journal r k OutOfStep prefix lacks decks held wanted ch ap h a = h
held_script journal r k InStep prefix lacks decks held wanted ch ap h a = rw (a refl) refl

-- what is held stays
pub held_again : (phase : Phase) (decks : Decks) (held : Option Order) (wanted : Bool) (ch : Edit) (ap : Applied (Option Order)) → (phase ≡ InStep → ap ≡ Done held) → (read_by phase IsReady decks held wanted ch ap).held ≡ held
held_again Asked decks held wanted ch ap h = refl
held_again Crossed decks held wanted ch ap h = refl
held_again OutOfStep decks held wanted ch ap h = refl
held_again InStep decks held wanted ch ap h = rw (h refl) refl
