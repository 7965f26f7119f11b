-- Steps of the gate together with the calls of its decks.
use Rattle.std.proofs.Common.{◌≡◌, ℕ, Bool, true, false, List, length, Option, Some, Result, Ok, Err, IfOk, OnErr, refl, sym, ap, ◌∙◌, subst, inl, inr, ◌⊎◌, if◌then◌else◌, ◌&&◌}
use Rattle.mos_edits.specs.Texts.{Text, same_id}
use Rattle.mos_edits.specs.Orders.{Order}
use Rattle.mos_machines.specs.Messages.{Message, is_link}
use Rattle.mos_machines.specs.Messages.Message.{Heartbeat, RoEdit, RoAck, RoReq, RoReqAll, RoList, RoListAll, RoElementStat, OtherMessage}
use Rattle.mos_machines.specs.Device.{Decks, GateOut, GateState, is_no_order, would_arm}
use Rattle.mos_machines.specs.Device.GateOut.{NotAsking, AsksFor, AsksAll, AsksBeat}
use Rattle.mos_machines.specs.Steps.{DeviceEvent, DeviceStep, StepAnswer, device_step}
use Rattle.mos_machines.specs.Steps.DeviceEvent.{ReadUpper}
use Rattle.mos_machines.specs.Values.{seen}
use Rattle.mos_values.specs.declared.message.Message as values
use Rattle.mos_values.specs.declared.message.Message.TheVariants as carried
use Rattle.gateway_core.specs.Gots.{says_no_order}
use Rattle.port_replies.specs.Ports.{Asked, ComesTo, said}
use Rattle.port_events.specs.declared.answer.PortAnswer.{PortAnswer}
use Rattle.port_events.specs.declared.event.What.{What}
use Rattle.port_events.specs.declared.event.What.TheVariants as whats
use Rattle.mos_fields.specs.declared.air.Air.{Air}
use Rattle.deck_rack.specs.Decks.{AreCalled, DeckView, loaded}
use Rattle.deck_rack.specs.Playlists.{playlist_of}
use Rattle.deck_nodes.specs.DeckCalls.{DeckCall, IsDeckCall, answer_call, refused_call, upper_call}
use Rattle.deck_nodes.specs.DeckCalls.DeckCall.{NoCall, Load}
use Rattle.deck_nodes.specs.Left.{still_left}
use Rattle.deck_nodes.specs.Telling.{IsUpperRefusal, IsUpperStep, arm_call, arm_if, is_list_of, list_call, listed_call, read_told}
use Rattle.deck_nodes.proofs.Messages.{IsQuiet, IsReadyRead, split}

-- an event that comes to a step comes to any that is the same
comes-alike : (g h : GateState) (e f : DeviceEvent) (a : PortAnswer) → device_step g e ≡ device_step g f → ComesTo DeviceStep g (Asked.Steps e said) a h → ComesTo DeviceStep g (Asked.Steps f said) a h
comes-alike g h e f a s (answer, (p, q), r) = (answer, (subst (λ (y : StepAnswer × GateState). y.0 ≡ answer) s p, subst (λ (y : StepAnswer × GateState). y.1 ≡ h) s q), r)

module _ {D : Type 0} (view : D → DeckView) (mos : Text) (known : Decks) (g h : GateState) (c : ℕ) where
  -- a message that was read
  pub heard-step : (m : values.Message) (a : PortAnswer) (ds mid left : List D)
      → ((held : Text → Option Order) → IsDeckCall view mos held (arm_call g c m) ds mid)
      → ComesTo DeviceStep g (Asked.Steps (ReadUpper c (seen m) (still_left known (length mid))) said) a h
      → IsDeckCall view mos h.held (read_told h c m) mid left
      → IsUpperStep view mos known g c (whats.Heard m) a h ds left
  heard-step m a ds mid left arms (answer, (p, q), r) tells = by (split g h c m (still_left known (length mid)) (sym q))
    where
      by : IsQuiet g h c m (still_left known (length mid)) ⊎ IsReadyRead g h c m → IsUpperStep view mos known g c (whats.Heard m) a h ds left
      by (inl quiet) =
          let same : mid ≡ ds = subst (λ (k : DeckCall). IsDeckCall view mos h.held k ds mid) quiet.arms (arms h.held) in
          let call : IsDeckCall view mos h.held (upper_call g (still_left known (length left)) c (whats.Heard m)) mid left = subst (λ (k : DeckCall). IsDeckCall view mos h.held k mid left) (quiet.told ∙ quiet.calls (still_left known (length left))) tells in
          record {
            gate = comes-alike g h (ReadUpper c (seen m) (still_left known (length mid))) (ReadUpper c (seen m) (still_left known (length left))) a (quiet.steps (still_left known (length left))) (answer, (p, q), r);
            rack = subst (λ (l : List D). IsDeckCall view mos h.held (upper_call g (still_left known (length left)) c (whats.Heard m)) l left) same call;
          }
      by (inr ready) =
          let same : left ≡ mid = subst (λ (k : DeckCall). IsDeckCall view mos h.held k mid left) ready.told tells in
          subst (λ (l : List D). IsUpperStep view mos known g c (whats.Heard m) a h ds l) (sym same) (record {
            gate = (answer, (p, q), r);
            rack = subst (λ (k : DeckCall). IsDeckCall view mos h.held k ds mid) (ready.arms (still_left known (length mid))) (arms h.held);
          })

  -- there was no memory to read it
  pub heard-refusal : (m : values.Message) (ds mid : List D) → ((held : Text → Option Order) → IsDeckCall view mos held (arm_call g c m) ds mid) → IsUpperRefusal view mos known g c (whats.Heard m) ds mid
  heard-refusal m ds mid arms = by (split g (device_step g (ReadUpper c (seen m) (still_left known (length mid)))).1 c m (still_left known (length mid)) refl)
    where
      by : IsQuiet g (device_step g (ReadUpper c (seen m) (still_left known (length mid)))).1 c m (still_left known (length mid)) ⊎ IsReadyRead g (device_step g (ReadUpper c (seen m) (still_left known (length mid)))).1 c m → IsUpperRefusal view mos known g c (whats.Heard m) ds mid
      by (inl quiet) = subst (λ (k : DeckCall). IsDeckCall view mos g.held k ds mid) (quiet.arms ∙ sym (quiet.refused (still_left known (length mid)))) (arms g.held)
      by (inr ready) = subst (λ (k : DeckCall). IsDeckCall view mos g.held k ds mid) (ready.arms (still_left known (length mid)) ∙ sym (ready.refused (still_left known (length mid)))) (arms g.held)

  -- an answer that came
  pub answered-step : (m : values.Message) (call : DeckCall) (a : PortAnswer) (ds left : List D) → list_call g c m ≡ call
      → ComesTo DeviceStep g (Asked.Steps (DeviceEvent.ReadAnswer c (seen m)) said) a h → IsDeckCall view mos h.held call ds left → IsUpperStep view mos known g c (whats.Answered m) a h ds left
  answered-step m call a ds left e comes calls = record {
    gate = comes;
    rack = subst (λ (k : DeckCall). IsDeckCall view mos h.held k ds left) (sym e) calls;
  }

-- ---- an answer never arms

unless-none : (b : Bool) (k : DeckCall) → refused_call k ≡ NoCall → refused_call (if b then k else NoCall) ≡ NoCall
unless-none true k h = h
unless-none false k h = refl

asked-stays : (r : Text) (m : Message) → refused_call (answer_call (AsksFor r) m) ≡ NoCall
asked-stays r (Heartbeat time) = refl
asked-stays r (RoEdit e) = refl
asked-stays r (RoAck q t) = unless-none (same_id q r) (if is_no_order t then Load r else NoCall) (unless-none (is_no_order t) (Load r) refl)
asked-stays r (RoReq q) = refl
asked-stays r RoReqAll = refl
asked-stays r (RoList q o) = unless-none (same_id q r) (Load r) refl
asked-stays r (RoListAll hs) = refl
asked-stays r (RoElementStat q) = refl
asked-stays r (OtherMessage q) = refl

answer-stays : (out : GateOut) (m : Message) → refused_call (answer_call out m) ≡ NoCall
answer-stays NotAsking m = refl
answer-stays AsksAll m = refl
answer-stays AsksBeat m = refl
answer-stays (AsksFor r) m = asked-stays r m

pub list-stays : (g : GateState) (c : ℕ) (m : values.Message) → refused_call (list_call g c m) ≡ NoCall
list-stays g c m = unless-none (is_link g.link c) (answer_call g.out (seen m)) (answer-stays g.out (seen m))

pub answered-refusal : {D : Type 0} (view : D → DeckView) (mos : Text) (known : Decks) (g : GateState) (c : ℕ) (m : values.Message) (ds left : List D) → left ≡ ds → IsUpperRefusal view mos known g c (whats.Answered m) ds left
answered-refusal view mos known g c m ds left e = subst (λ (k : DeckCall). IsDeckCall view mos g.held k ds left) (sym (list-stays g c m)) e

-- ---- the order of a list

ack-listed : (r : Text) (b n : Bool) → (if b then (if n then Load r else NoCall) else NoCall) ≡ (if b && n then Load r else NoCall)
ack-listed r true n = refl
ack-listed r false n = refl

pub listed-is : (r : Text) (m : values.Message) → answer_call (AsksFor r) (seen m) ≡ (if is_list_of r m then Load r else NoCall)
listed-is r (carried.RoList body) = refl
listed-is r (carried.RoAck ack) = ack-listed r (same_id ack.ro r) (says_no_order ack.status)
listed-is r (carried.RoCreate body) = refl
listed-is r (carried.RoReplace body) = refl
listed-is r (carried.RoDelete ro) = refl
listed-is r (carried.RoMetadataReplace patch) = refl
listed-is r (carried.RoElementAction ro action) = refl
listed-is r (carried.RoReadyToAir ro air) = refl
listed-is r (carried.RoStorySend script) = refl
listed-is r (carried.Heartbeat time) = refl
listed-is r carried.ReqMachInfo = refl
listed-is r (carried.ListMachInfo info) = refl
listed-is r (carried.MosAck ack) = refl
listed-is r (carried.MosObj obj) = refl
listed-is r (carried.MosReqObj id) = refl
listed-is r (carried.MosReqAll pause) = refl
listed-is r (carried.MosListAll objs) = refl
listed-is r (carried.RoReq ro) = refl
listed-is r carried.RoReqAll = refl
listed-is r (carried.RoListAll headers) = refl
listed-is r (carried.RoElementStat status) = refl
listed-is r (carried.Other name raw) = refl

pub listed-if : (b : Bool) (r : Text) (o : Option Text) (k : DeckCall) → (if b then Load r else NoCall) ≡ k → b ≡ true → o ≡ Some r → listed_call o ≡ k
listed-if b r o k h t e = ap listed_call e ∙ (ap (λ (z : Bool). if z then Load r else NoCall) (sym t) ∙ h)

-- ---- the calls of a READY

pub arm-called : {D : Type 0} (view : D → DeckView) (mos : Text) (g : GateState) (c : ℕ) (m : values.Message) (ro : Text) (air : Air) (w : Bool) (ds left : List D) → m ≡ carried.RoReadyToAir ro air → w ≡ would_arm g c (seen m)
    → ((held : Text → Option Order) → IsDeckCall view mos held (arm_if w ro) ds left) → (held : Text → Option Order) → IsDeckCall view mos held (arm_call g c m) ds left
arm-called view mos g c m ro air w ds left e q h = λ held.
    subst (λ (k : DeckCall). IsDeckCall view mos held k ds left) (ap (λ (v : Bool). arm_if v ro) (q ∙ ap (λ (z : values.Message). would_arm g c (seen z)) e) ∙ sym (ap (λ (z : values.Message). arm_call g c z) e)) (h held)

pub load-called : {D : Type 0} (view : D → DeckView) (mos : Text) (ro : Text) (o p : Option Order) (ds left : List D) → o ≡ p → AreCalled view (loaded (playlist_of o mos)) ro ds left → AreCalled view (loaded (playlist_of p mos)) ro ds left
load-called view mos ro o p ds left e h = subst (λ (z : Option Order). AreCalled view (loaded (playlist_of z mos)) ro ds left) e h

-- ---- a message, as it was read with the decks that were left

pub heard-read : {D : Type 0} (view : D → DeckView) (mos mos' : Text) (known : Decks) (g h : GateState) (c : ℕ) (m : values.Message) (a : PortAnswer) (d : Decks) (ds mid left : List D) → mos' ≡ mos → d ≡ still_left known (length mid)
    → ((held : Text → Option Order) → IsDeckCall view mos held (arm_call g c m) ds mid)
    → ComesTo DeviceStep g (Asked.Steps (ReadUpper c (seen m) d) said) a h → IsDeckCall view mos' h.held (read_told h c m) mid left → IsUpperStep view mos known g c (whats.Heard m) a h ds left
heard-read view mos mos' known g h c m a d ds mid left o e arms comes tells =
    heard-step view mos known g h c m a ds mid left arms (subst (λ (z : Decks). ComesTo DeviceStep g (Asked.Steps (ReadUpper c (seen m) z) said) a h) e comes) (subst (λ (z : Text). IsDeckCall view z h.held (read_told h c m) mid left) o tells)

pub on-err : {T E : Type 0} {P : Type 0} (r : Result T E) → P → OnErr r P
on-err (Ok v) p = tt
on-err (Err f) p = p

-- what happened is the same
pub ok-same : {D X : Type 0} (view : D → DeckView) (mos : Text) (known : Decks) (g h : GateState) (c : ℕ) (x y : What) (ds left : List D) (r : Result PortAnswer X) → x ≡ y
    → IfOk r (λ a. IsUpperStep view mos known g c x a h ds left) → IfOk r (λ a. IsUpperStep view mos known g c y a h ds left)
ok-same view mos known g h c x y ds left r e k = subst (λ (z : What). IfOk r (λ a. IsUpperStep view mos known g c z a h ds left)) e k
