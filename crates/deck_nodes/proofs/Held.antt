-- What is held of orders changes only where the decks are loaded.
use Rattle.std.proofs.Common.{◌≡◌, ℕ, Bool, true, false, Option, Some, None, refl, sym, ap, ◌∙◌, subst, inl, inr, ◌⊎◌, if◌then◌else◌}
use Rattle.mos_edits.specs.Texts.{Text, same_id, set_order}
use Rattle.mos_edits.specs.Orders.{Order, apply, order_of}
use Rattle.mos_edits.specs.declared.edit.Edit.{Edit}
use Rattle.mos_edits.specs.KeyedLists.{Applied}
use Rattle.mos_edits.specs.KeyedLists.Applied.{Done, Fault}
use Rattle.mos_edits.specs.Entries.{Kind, kind, Entry}
use Rattle.mos_edits.specs.Entries.Kind.{IsWhole, IsAction, IsReady, IsNotReady}
use Rattle.mos_edits.specs.declared.edit.Edit.TheVariants as edits
use Rattle.mos_fields.specs.declared.air.Air.TheVariants.{Ready, NotReady}
use Rattle.mos_fields.specs.declared.time.MosTime.{MosTime}
use Rattle.mos_machines.specs.Messages.{Message, Step, is_link}
use Rattle.mos_machines.specs.Messages.Message.{Heartbeat, RoEdit, RoAck, RoReq, RoReqAll, RoList, RoListAll, RoElementStat, OtherMessage}
use Rattle.mos_machines.specs.Device.{Confirmation, Decks, GateOut, GateState, Phase, ReadResult, asked_next, gate_dropped, gate_dropped_if, gate_got, gate_left, gate_next, gate_read, gate_with, got_by, is_no_order, is_ready_kind, next_if, read_by, read_result, first_wanted}
use Rattle.mos_machines.specs.Device.Confirmation.{NotDue, Due, Unanswered}
use Rattle.mos_machines.specs.Device.GateOut.{NotAsking, AsksFor, AsksAll, AsksBeat}
use Rattle.mos_machines.specs.Device.Phase.{InStep, OutOfStep, Asked, Crossed}
use Rattle.mos_machines.specs.Steps.{DeviceStep, StepAnswer, asked_on, device_step, gate_says, gate_sent, gate_stepped, unless_stale}
use Rattle.mos_machines.specs.Steps.DeviceEvent.{ReadUpper, ReadAnswer}
use Rattle.mos_machines.specs.Values.{seen}
use Rattle.gateway_core.proofs.TableSteps.{set-same}
use Rattle.port_replies.specs.Ports.{ComesTo}
use Rattle.port_events.specs.declared.answer.PortAnswer.{PortAnswer}
use Rattle.port_events.specs.declared.event.What.{What}
use Rattle.port_events.specs.declared.event.What.TheVariants as whats
use Rattle.deck_nodes.specs.DeckCalls.{DeckCall, answer_call, edit_call, event_call, read_call, upper_call}
use Rattle.deck_nodes.specs.DeckCalls.DeckCall.{NoCall, Load, Arm, Disarm}
use Rattle.deck_nodes.specs.Ports.{upper_with}
use Rattle.deck_nodes.proofs.Reading.{quiet-call}

-- what is held after a call: the same, but of an order that is loaded
abbrev pub HeldBy : DeckCall → (Text → Option Order) → (Text → Option Order) → Type 0
HeldBy NoCall before after = (q : Text) → after q ≡ before q
HeldBy (Load ro) before after = (q : Text) → same_id q ro ≡ false → after q ≡ before q
HeldBy (Arm ro) before after = (q : Text) → after q ≡ before q
HeldBy (Disarm ro) before after = (q : Text) → after q ≡ before q

pub same-held : (call : DeckCall) (before after : Text → Option Order) → ((q : Text) → after q ≡ before q) → HeldBy call before after
same-held NoCall before after h = h
same-held (Load ro) before after h = λ q e. h q
same-held (Arm ro) before after h = h
same-held (Disarm ro) before after h = h

-- ---- an edit

kept-or-loaded : (k : Kind) (p : Phase) (d : Decks) (held : Option Order) (w : Bool) (c : Edit) (a : Applied (Option Order)) (ro : Text) → is_ready_kind k ≡ false
    → ((read_by p k d held w c a).held ≡ held) ⊎ (edit_call k (read_by p k d held w c a).status ro ≡ Load ro)
kept-or-loaded IsWhole InStep d held w c a ro h = inr refl
kept-or-loaded IsWhole OutOfStep d held w c a ro h = inr refl
kept-or-loaded IsWhole Asked d held w c a ro h = inl refl
kept-or-loaded IsWhole Crossed d held w c a ro h = inl refl
kept-or-loaded IsAction InStep d held w c (Done o) ro h = inr refl
kept-or-loaded IsAction InStep d held w c (Fault f) ro h = inl refl
kept-or-loaded IsAction OutOfStep d held w c a ro h = inl refl
kept-or-loaded IsAction Asked d held w c a ro h = inl refl
kept-or-loaded IsAction Crossed d held w c a ro h = inl refl
kept-or-loaded IsNotReady InStep d held w c a ro h = inl refl
kept-or-loaded IsNotReady OutOfStep d held w c a ro h = inl refl
kept-or-loaded IsNotReady Asked d held w c a ro h = inl refl
kept-or-loaded IsNotReady Crossed d held w c a ro h = inl refl
kept-or-loaded IsReady p d held w c a ro h = absurd (cc)

set-kept : (f : Text → Option Order) (ro : Text) (o : Option Order) (q : Text) → o ≡ f ro → set_order f ro o q ≡ f q
set-kept f ro o q e = ap (λ (v : Option Order). set_order f ro v q) e ∙ ap (λ (k : Text → Option Order). k q) (set-same f ro)

with-held : (g : GateState) (ro : Text) (r : ReadResult) (call : DeckCall) → (r.held ≡ g.held ro) ⊎ (call ≡ Load ro) → HeldBy call g.held (gate_with g ro r).held
with-held g ro r call (inl e) = same-held call g.held (gate_with g ro r).held (λ q. set-kept g.held ro r.held q e)
with-held g ro r call (inr e) = subst (λ (k : DeckCall). HeldBy k g.held (gate_with g ro r).held) (sym e) (λ q n. ap (λ (b : Bool). if b then r.held else g.held q) n)

held-unless : (b : Bool) (g : GateState) (y : GateState × Message) (call : DeckCall) → HeldBy call g.held y.0.held → HeldBy (if b then call else NoCall) g.held (unless_stale b g (gate_says y)).1.held
held-unless true g y call h = h
held-unless false g y call h = λ q. refl

quiet-held : (g : GateState) (c : ℕ) (d : Decks) (x : Entry) → is_ready_kind (kind x.edit) ≡ false → HeldBy (read_call g c d x) g.held (device_step g (ReadUpper c (RoEdit x) d)).1.held
quiet-held g c d x h =
    subst (λ (k : DeckCall). HeldBy k g.held (device_step g (ReadUpper c (RoEdit x) d)).1.held) (sym (quiet-call g c d x h))
    (held-unless (is_link g.upper c) g (gate_read g d (RoEdit x)) (edit_call (kind x.edit) (read_result g d x).status x.ro)
    (with-held g x.ro (read_result g d x) (edit_call (kind x.edit) (read_result g d x).status x.ro)
    (kept-or-loaded (kind x.edit) (g.phase x.ro) d (g.held x.ro) (g.wanted x.ro) x.edit (apply x.ro (g.held x.ro) x.edit) x.ro h)))

-- READY changes nothing
air-applied : (r : Text) (held : Option Order) (ro : Text) (o : Option Order) → apply r held (edits.Air ro Ready) ≡ Done o → o ≡ held
unfolding apply
air-applied r None ro o h = absurd (cc)
air-applied r (Some p) ro o h = cc

ready-kept : (p : Phase) (d : Decks) (held : Option Order) (w : Bool) (c : Edit) (a : Applied (Option Order)) → ((o : Option Order) → a ≡ Done o → o ≡ held) → (read_by p IsReady d held w c a).held ≡ held
ready-kept InStep d held w c (Done o) h = h o refl
ready-kept InStep d held w c (Fault f) h = refl
ready-kept OutOfStep d held w c a h = refl
ready-kept Asked d held w c a h = refl
ready-kept Crossed d held w c a h = refl

same-unless : (b : Bool) (g : GateState) (a : StepAnswer) (h : GateState) → ((q : Text) → h.held q ≡ g.held q) → (q : Text) → (unless_stale b g (a, h)).1.held q ≡ g.held q
same-unless true g a h e q = e q
same-unless false g a h e q = refl

says-unless : (b : Bool) (g : GateState) (y : GateState × Message) → ((q : Text) → y.0.held q ≡ g.held q) → (q : Text) → (unless_stale b g (gate_says y)).1.held q ≡ g.held q
says-unless true g y e q = e q
says-unless false g y e q = refl

pub ready-same : (g : GateState) (c : ℕ) (d : Decks) (r ro : Text) (q : Text) → (device_step g (ReadUpper c (RoEdit (record { ro = r; edit = edits.Air ro Ready })) d)).1.held q ≡ g.held q
ready-same g c d r ro q =
    says-unless (is_link g.upper c) g (gate_read g d (RoEdit (record { ro = r; edit = edits.Air ro Ready })))
    (λ q. set-kept g.held r (read_result g d (record { ro = r; edit = edits.Air ro Ready })).held q
    (ready-kept (g.phase r) d (g.held r) (g.wanted r) (edits.Air ro Ready) (apply r (g.held r) (edits.Air ro Ready)) (air-applied r (g.held r) ro))) q

edit-held : (g : GateState) (c : ℕ) (d : Decks) (r : Text) (e : Edit) → HeldBy (read_call g c d (record { ro = r; edit = e })) g.held (device_step g (ReadUpper c (RoEdit (record { ro = r; edit = e })) d)).1.held
edit-held g c d r (edits.Create body) = quiet-held g c d (record { ro = r; edit = edits.Create body }) refl
edit-held g c d r (edits.Replace body) = quiet-held g c d (record { ro = r; edit = edits.Replace body }) refl
edit-held g c d r (edits.Delete ro) = quiet-held g c d (record { ro = r; edit = edits.Delete ro }) refl
edit-held g c d r (edits.Metadata patch) = quiet-held g c d (record { ro = r; edit = edits.Metadata patch }) refl
edit-held g c d r (edits.Act ro action) = quiet-held g c d (record { ro = r; edit = edits.Act ro action }) refl
edit-held g c d r (edits.Script script) = quiet-held g c d (record { ro = r; edit = edits.Script script }) refl
edit-held g c d r (edits.Air ro NotReady) = quiet-held g c d (record { ro = r; edit = edits.Air ro NotReady }) refl
edit-held g c d r (edits.Air ro Ready) =
    same-held (read_call g c d (record { ro = r; edit = edits.Air ro Ready })) g.held (device_step g (ReadUpper c (RoEdit (record { ro = r; edit = edits.Air ro Ready })) d)).1.held (ready-same g c d r ro)

read-held : (g : GateState) (c : ℕ) (d : Decks) (m : Message) → HeldBy (event_call g (ReadUpper c m d)) g.held (device_step g (ReadUpper c m d)).1.held
read-held g c d (RoEdit e) = edit-held g c d e.ro e.edit
read-held g c d (Heartbeat time) = says-unless (is_link g.upper c) g (g, Heartbeat time) (λ q. refl)
read-held g c d (RoAck r t) = says-unless (is_link g.upper c) g (gate_read g d (RoAck r t)) (λ q. refl)
read-held g c d (RoReq r) = says-unless (is_link g.upper c) g (gate_read g d (RoReq r)) (λ q. refl)
read-held g c d RoReqAll = says-unless (is_link g.upper c) g (gate_read g d RoReqAll) (λ q. refl)
read-held g c d (RoList r o) = says-unless (is_link g.upper c) g (gate_read g d (RoList r o)) (λ q. refl)
read-held g c d (RoListAll hs) = says-unless (is_link g.upper c) g (gate_read g d (RoListAll hs)) (λ q. refl)
read-held g c d (RoElementStat r) = says-unless (is_link g.upper c) g (gate_read g d (RoElementStat r)) (λ q. refl)
read-held g c d (OtherMessage r) = says-unless (is_link g.upper c) g (gate_read g d (OtherMessage r)) (λ q. refl)

-- ---- an answer

list-held : (b : Bool) (g : GateState) (r : Text) (x y : GateState × Step) → HeldBy (Load r) g.held x.0.held → HeldBy NoCall g.held y.0.held → HeldBy (if b then Load r else NoCall) g.held (if b then x else y).0.held
list-held true g r x y h k = h
list-held false g r x y h k = k

ack-held : (b n : Bool) (g : GateState) (r : Text) (x y z : GateState × Step) → HeldBy (Load r) g.held x.0.held → HeldBy NoCall g.held y.0.held → HeldBy NoCall g.held z.0.held
    → HeldBy (if b then (if n then Load r else NoCall) else NoCall) g.held (if b then (if n then x else y) else z).0.held
ack-held true true g r x y z h k l = h
ack-held true false g r x y z h k l = k
ack-held false n g r x y z h k l = l

got-held : (g : GateState) (out : GateOut) (m : Message) → HeldBy (answer_call out m) g.held (got_by g out m).0.held
got-held g NotAsking m = λ q. refl
got-held g AsksAll (Heartbeat time) = λ q. refl
got-held g AsksAll (RoEdit e) = λ q. refl
got-held g AsksAll (RoAck r t) = λ q. refl
got-held g AsksAll (RoReq r) = λ q. refl
got-held g AsksAll RoReqAll = λ q. refl
got-held g AsksAll (RoList r o) = λ q. refl
got-held g AsksAll (RoListAll hs) = λ q. refl
got-held g AsksAll (RoElementStat r) = λ q. refl
got-held g AsksAll (OtherMessage r) = λ q. refl
got-held g AsksBeat (Heartbeat time) = λ q. refl
got-held g AsksBeat (RoEdit e) = λ q. refl
got-held g AsksBeat (RoAck r t) = λ q. refl
got-held g AsksBeat (RoReq r) = λ q. refl
got-held g AsksBeat RoReqAll = λ q. refl
got-held g AsksBeat (RoList r o) = λ q. refl
got-held g AsksBeat (RoListAll hs) = λ q. refl
got-held g AsksBeat (RoElementStat r) = λ q. refl
got-held g AsksBeat (OtherMessage r) = λ q. refl
got-held g (AsksFor r) (Heartbeat time) = λ q. refl
got-held g (AsksFor r) (RoEdit e) = λ q. refl
got-held g (AsksFor r) (RoAck s t) = ack-held (same_id s r) (is_no_order t) g r _ _ _ (λ q e. ap (λ (b : Bool). if b then None else g.held q) e) (λ q. refl) (λ q. refl)
got-held g (AsksFor r) (RoReq s) = λ q. refl
got-held g (AsksFor r) RoReqAll = λ q. refl
got-held g (AsksFor r) (RoList s o) = list-held (same_id s r) g r _ _ (λ q e. ap (λ (b : Bool). if b then Some (order_of o) else g.held q) e) (λ q. refl)
got-held g (AsksFor r) (RoListAll hs) = λ q. refl
got-held g (AsksFor r) (RoElementStat s) = λ q. refl
got-held g (AsksFor r) (OtherMessage s) = λ q. refl

stepped-unless : (b : Bool) (g : GateState) (y : GateState × Step) (call : DeckCall) → HeldBy call g.held y.0.held → HeldBy (if b then call else NoCall) g.held (unless_stale b g (gate_stepped y)).1.held
stepped-unless true g y call h = h
stepped-unless false g y call h = λ q. refl

-- ---- other events

dropped-held : (o : Option ℕ) (g : GateState) (q : Text) → (gate_dropped_if o g).held q ≡ g.held q
dropped-held None g q = refl
dropped-held (Some c) g q = refl

asked-held : (now : MosTime) (g : GateState) (k : Confirmation) (all : Bool) (want : Option Text) (note : Bool) (q : Text) → (asked_next now g k all want note).0.held q ≡ g.held q
asked-held now g (Due r) all want note q = refl
asked-held now g NotDue true want note q = refl
asked-held now g NotDue false (Some r) note q = refl
asked-held now g NotDue false None true q = refl
asked-held now g NotDue false None false q = refl
asked-held now g (Unanswered r) true want note q = refl
asked-held now g (Unanswered r) false (Some s) note q = refl
asked-held now g (Unanswered r) false None true q = refl
asked-held now g (Unanswered r) false None false q = refl

next-held : (now : MosTime) (g : GateState) (l : Option ℕ) (out : GateOut) (q : Text) → (next_if now g l out).0.held q ≡ g.held q
next-held now g None out q = refl
next-held now g (Some c) NotAsking q = asked-held now g g.confirm g.want_all (first_wanted g.wanted g.known) g.note q
next-held now g (Some c) (AsksFor r) q = refl
next-held now g (Some c) AsksAll q = refl
next-held now g (Some c) AsksBeat q = refl

sent-held : (b : Bool) (g : GateState) (x : GateState × Option Message) → ((q : Text) → x.0.held q ≡ g.held q) → (q : Text) → (gate_sent (asked_on b g x)).1.held q ≡ g.held q
sent-held true g (h, None) e q = e q
sent-held true g (h, Some m) e q = e q
sent-held false g x e q = refl

-- ---- all events at the port to the server

event-held : (g : GateState) (d : Decks) (c : ℕ) (what : What) (a : PortAnswer) (h : GateState) → ComesTo DeviceStep g (upper_with d c what) a h → HeldBy (upper_call g d c what) g.held h.held
event-held g d c whats.Accepted a h (answer, (p, n), r) = λ q. ap (λ (s : GateState). s.held q) (sym n)
event-held g d c (whats.Heard m) a h (answer, (p, n), r) = subst (λ (s : GateState). HeldBy (event_call g (ReadUpper c (seen m) d)) g.held s.held) n (read-held g c d (seen m))
event-held g d c whats.EndedIn a h (answer, (p, n), r) = λ q. ap (λ (s : GateState). s.held q) (sym n) ∙ same-unless (is_link g.upper c) g (StepAnswer.Stepped Step.Taken) (gate_left g) (λ q. refl) q
event-held g d c (whats.Dialed time) a h (answer, (p, n), r) = λ q. ap (λ (s : GateState). s.held q) (sym n) ∙ dropped-held g.link g q
event-held g d c (whats.Next time) a h (answer, (p, n), r) = λ q. ap (λ (s : GateState). s.held q) (sym n) ∙ sent-held (is_link g.link c) g (gate_next time g) (next-held time g g.link g.out) q
event-held g d c (whats.Answered m) a h (answer, (p, n), r) =
    subst (λ (s : GateState). HeldBy (event_call g (ReadAnswer c (seen m))) g.held s.held) n (stepped-unless (is_link g.link c) g (gate_got g (seen m)) (answer_call g.out (seen m)) (got-held g g.out (seen m)))
event-held g d c whats.Beat a h (answer, (p, n), r) = λ q. ap (λ (s : GateState). s.held q) (sym n)
event-held g d c whats.EndedOut a h (answer, (p, n), r) = λ q. ap (λ (s : GateState). s.held q) (sym n) ∙ same-unless (is_link g.link c) g (StepAnswer.Stepped Step.Taken) (gate_dropped g) (λ q. refl) q

pub upper-held : (g : GateState) (d : Decks) (c : ℕ) (what : What) (a : PortAnswer) (h : GateState) → ComesTo DeviceStep g (upper_with d c what) a h → HeldBy (upper_call g d c what) g.held h.held
upper-held = event-held
