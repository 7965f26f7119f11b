-- A message of a device, as a step of the server.
use Rattle.std.proofs.Common.{◌≡◌, ℕ, Bool, true, false, List, Option, Some, None, refl, sym, ap, ◌∙◌, if◌then◌else◌}
use Rattle.mos_edits.specs.Texts.{Text}
use Rattle.mos_edits.specs.Orders.{Order}
use Rattle.mos_edits.specs.Entries.{Entry, entry_count, order_now}
use Rattle.mos_machines.specs.Messages.{Message, Packet, message_ro}
use Rattle.mos_machines.specs.Messages.Message.{RoReq, RoAck}
use Rattle.mos_machines.specs.Messages.Status.{NotNow}
use Rattle.mos_machines.specs.Server.{PeerState, peer_hear, peer_settled, is_busy, list_of}
use Rattle.mos_machines.specs.Steps.{ServerState, with_peer, is_lower, unless_stale, server_says, server_step}
use Rattle.mos_machines.specs.Steps.ServerEvent.{Hear}
use Rattle.mos_machines.specs.Values.{seen, message_of}
use Rattle.mos_values.specs.declared.message.Message as values
use Rattle.mos_values.specs.declared.message.Message.TheVariants as carried
use Rattle.machine_answers.specs.Answers.{heard_of}
use Rattle.machine_answers.specs.declared.answers.Heard.TheVariants as heard
use Rattle.ncs_core.specs.Answers.{acked, other_status, list_said, peer_listed, IsHeartbeat}

-- a message that is neither a heartbeat nor a request
pub other-state : (journal : List Entry) (s : PeerState) (m : values.Message) → ((time : _) → m ≡ carried.Heartbeat time → ⊥) → (m ≡ carried.RoReqAll → ⊥) → ((ro : _) → m ≡ carried.RoReq ro → ⊥) → peer_settled journal false s ≡ (peer_hear journal s (seen m)).0
other-state journal s (carried.Heartbeat time) a b c = absurd (a time refl)
other-state journal s carried.RoReqAll a b c = absurd (b refl)
other-state journal s (carried.RoReq ro) a b c = absurd (c ro refl)
other-state journal s m a b c = refl

pub other-says : (journal : List Entry) (s : PeerState) (m : values.Message) → ((time : _) → m ≡ carried.Heartbeat time → ⊥) → (m ≡ carried.RoReqAll → ⊥) → ((ro : _) → m ≡ carried.RoReq ro → ⊥)
    → carried.RoAck (acked (message_ro (seen m)) (other_status (seen m))) ≡ message_of (peer_hear journal s (seen m)).1.message
other-says journal s (carried.Heartbeat time) a b c = absurd (a time refl)
other-says journal s carried.RoReqAll a b c = absurd (b refl)
other-says journal s (carried.RoReq ro) a b c = absurd (c ro refl)
other-says journal s m a b c = refl

pub not-heartbeat : {A : Type 0} (m : values.Message) → ((time : _) → m ≡ carried.Heartbeat time → ⊥) → IsHeartbeat m → A
not-heartbeat (carried.Heartbeat time) n h = absurd (n time refl)
not-heartbeat m n h = absurd h

-- an order is asked for
module _ (journal : List Entry) (s : PeerState) (r : Text) where
  true-by : (b : Bool) → b ≡ true → (x y : PeerState × Packet) → (if b then x else y) ≡ x
  true-by true e x y = refl
  true-by false e x y = absurd (cc)

  free-by : (b : Bool) → b ≡ false → (x y : PeerState × Packet) → (if b then x else y) ≡ y
  free-by true e x y = absurd (cc)
  free-by false e x y = refl

  pub busy-state : is_busy r s.upper ≡ true → peer_settled journal false s ≡ (peer_hear journal s (RoReq r)).0
  busy-state e = sym (ap (λ (x : PeerState × Packet). x.0) (true-by (is_busy r s.upper) e _ _))

  pub busy-says : is_busy r s.upper ≡ true → message_of (RoAck r NotNow) ≡ message_of (peer_hear journal s (RoReq r)).1.message
  busy-says e = sym (ap (λ (x : PeerState × Packet). message_of x.1.message) (true-by (is_busy r s.upper) e _ _))

  pub free-state : is_busy r s.upper ≡ false → peer_listed journal r s ≡ (peer_hear journal s (RoReq r)).0
  free-state e = sym (ap (λ (x : PeerState × Packet). x.0) (free-by (is_busy r s.upper) e _ _))

  said : (m : ℕ) (o : Option Order) → list_said r o ≡ message_of (list_of r m o).message
  said m None = refl
  said m (Some o) = refl

  pub free-says : is_busy r s.upper ≡ false → list_said r (order_now journal r) ≡ message_of (peer_hear journal s (RoReq r)).1.message
  free-says e = said (entry_count journal r) (order_now journal r) ∙ sym (ap (λ (x : PeerState × Packet). message_of x.1.message) (free-by (is_busy r s.upper) e _ _))

-- on the current connection it is heard
module _ (s : ServerState) (d c : ℕ) (m : Message) where
  current-says : (b : Bool) → b ≡ true → (x : PeerState × Packet) → heard.Say (message_of x.1.message) ≡ heard_of (unless_stale b s (server_says s d x)).0
  current-says true e (y, p) = refl
  current-says false e x = absurd (cc)

  current-state : (b : Bool) → b ≡ true → (x : PeerState × Packet) → with_peer s d x.0 ≡ (unless_stale b s (server_says s d x)).1
  current-state true e (y, p) = refl
  current-state false e x = absurd (cc)

  pub heard-says : is_lower s d c ≡ true → heard.Say (message_of (peer_hear s.journal (s.peers d) m).1.message) ≡ heard_of (server_step false s (Hear d c m)).0
  heard-says e = current-says (is_lower s d c) e (peer_hear s.journal (s.peers d) m)

  pub heard-state : is_lower s d c ≡ true → with_peer s d (peer_hear s.journal (s.peers d) m).0 ≡ (server_step false s (Hear d c m)).1
  heard-state e = current-state (is_lower s d c) e (peer_hear s.journal (s.peers d) m)
