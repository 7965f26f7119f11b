-- Calls on the current links.
use Rattle.std.proofs.Common.{◌≡◌, ℕ, Bool, true, false, Option, Some, None, refl, ap, eq-eqb}
use Rattle.mos_fields.specs.declared.time.MosTime.{MosTime}
use Rattle.mos_machines.specs.Messages.{Message, is_link}
use Rattle.mos_machines.specs.Messages.Step.{Taken}
use Rattle.mos_machines.specs.Server.{upper_link, peer_answered, peer_cut, peer_hear, peer_linked, peer_next}
use Rattle.mos_machines.specs.Device.{GateState, Decks, gate_dropped, gate_got, gate_left, gate_next, gate_read}
use Rattle.mos_machines.specs.Steps.{ServerState, ServerEvent, DeviceEvent, asked_on, device_step, gate_says, gate_sent, gate_stepped, server_says, server_sent, server_step, server_stepped, unless_stale, with_peer}
use Rattle.mos_machines.specs.Steps.StepAnswer.{Stepped}

pub own-link : (o : Option ℕ) (c : ℕ) → o ≡ Some c → is_link o c ≡ true
own-link o c e = rw (e, eq-eqb c c refl) refl

-- ---- the device

pub left-own : (g : GateState) (c : ℕ) → g.upper ≡ Some c → device_step g (DeviceEvent.UpperLeft c) ≡ (Stepped Taken, gate_left g)
left-own g c e = ap (λ (b : Bool). unless_stale b g (Stepped Taken, gate_left g)) (own-link g.upper c e)

pub read-own : (g : GateState) (c : ℕ) (m : Message) (decks : Decks) → g.upper ≡ Some c → device_step g (DeviceEvent.ReadUpper c m decks) ≡ gate_says (gate_read g decks m)
read-own g c m decks e = ap (λ (b : Bool). unless_stale b g (gate_says (gate_read g decks m))) (own-link g.upper c e)

pub dropped-own : (g : GateState) (c : ℕ) → g.link ≡ Some c → device_step g (DeviceEvent.GateDropped c) ≡ (Stepped Taken, gate_dropped g)
dropped-own g c e = ap (λ (b : Bool). unless_stale b g (Stepped Taken, gate_dropped g)) (own-link g.link c e)

pub ask-own : (g : GateState) (c : ℕ) (now : MosTime) → g.link ≡ Some c → device_step g (DeviceEvent.NextAsk c now) ≡ gate_sent (gate_next now g)
ask-own g c now e = ap (λ (b : Bool). gate_sent (asked_on b g (gate_next now g))) (own-link g.link c e)

pub got-own : (g : GateState) (c : ℕ) (m : Message) → g.link ≡ Some c → device_step g (DeviceEvent.ReadAnswer c m) ≡ gate_stepped (gate_got g m)
got-own g c m e = ap (λ (b : Bool). unless_stale b g (gate_stepped (gate_got g m))) (own-link g.link c e)

-- ---- the server

module _ (s : ServerState) (d c : ℕ) where
  pub cut-own : upper_link (s.peers d).upper ≡ Some c → server_step false s (ServerEvent.UpperCut d c) ≡ (Stepped Taken, with_peer s d (peer_cut (s.peers d)))
  cut-own e = ap (λ (b : Bool). unless_stale b s (Stepped Taken, with_peer s d (peer_cut (s.peers d)))) (own-link (upper_link (s.peers d).upper) c e)

  pub answer-own : (m : Message) → upper_link (s.peers d).upper ≡ Some c → server_step false s (ServerEvent.UpperAnswer d c m) ≡ server_stepped s d (peer_answered s.journal (s.peers d) m)
  answer-own m e = ap (λ (b : Bool). unless_stale b s (server_stepped s d (peer_answered s.journal (s.peers d) m))) (own-link (upper_link (s.peers d).upper) c e)

  pub send-own : (now : MosTime) → upper_link (s.peers d).upper ≡ Some c → server_step false s (ServerEvent.NextSend d c now) ≡ server_sent s d (peer_next s.journal now (s.peers d))
  send-own now e = ap (λ (b : Bool). unless_stale b s (server_sent s d (peer_next s.journal now (s.peers d)))) (own-link (upper_link (s.peers d).upper) c e)

  pub missed-own : (s.peers d).link ≡ Some c → server_step false s (ServerEvent.DeviceDropped d c) ≡ (Stepped Taken, with_peer s d (peer_linked None (s.peers d)))
  missed-own e = ap (λ (b : Bool). unless_stale b s (Stepped Taken, with_peer s d (peer_linked None (s.peers d)))) (own-link (s.peers d).link c e)

  pub hear-own : (m : Message) → (s.peers d).link ≡ Some c → server_step false s (ServerEvent.Hear d c m) ≡ server_says s d (peer_hear s.journal (s.peers d) m)
  hear-own m e = ap (λ (b : Bool). unless_stale b s (server_says s d (peer_hear s.journal (s.peers d) m))) (own-link (s.peers d).link c e)
