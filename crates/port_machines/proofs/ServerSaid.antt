-- The answers of the server's calls, as its ports say them.
use Rattle.std.proofs.Common.{◌≡◌, ℕ, Bool, true, false, Option, Some, None, refl, sym, ap, ◌∙◌, subst, arith}
use Rattle.mos_machines.specs.Messages.{Message, Packet, Step}
use Rattle.mos_machines.specs.Messages.Step.{Taken, Unasked}
use Rattle.mos_machines.specs.Server.{PeerState, peer_answered, peer_cut, peer_hear, peer_linked, peer_next}
use Rattle.mos_machines.specs.Steps.{ServerState, ServerEvent, ServerStep, StepAnswer, server_says, server_sent, server_step, server_stepped, unless_stale, is_lower, is_upper, with_peer}
use Rattle.mos_machines.specs.Steps.ServerEvent.{Command, UpperOpened, UpperCut, UpperAnswer, Beat, DeviceAccepted, DeviceDropped, NextSend, Hear}
use Rattle.mos_machines.specs.Steps.StepAnswer.{Stepped}
use Rattle.mos_fields.specs.declared.time.MosTime.{MosTime}
use Rattle.machine_answers.specs.Answers.{heard_of, step_of}
use Rattle.machine_answers.specs.declared.answers.Heard.{Heard as CallHeard}
use Rattle.machine_answers.specs.declared.answers.Sent.{Sent as CallSent}
use Rattle.machine_answers.specs.declared.answers.Step.{Step as CallStep}
use Rattle.ncs_core.specs.State.{LeavesRest, NcsTables, devices_of, ncs_of, sent_by}
use Rattle.port_replies.specs.Ports.{Asked, ComesTo, said, server_asked}
use Rattle.port_events.specs.declared.event.PortEvent.{PortEvent}
use Rattle.port_events.specs.declared.answer.PortAnswer.{PortAnswer}
use Rattle.port_machines.specs.Saying.{heard_said, sent_said, step_said}
use Rattle.port_machines.specs.Steps.{IsAnswered, IsServerRefusal, IsServerStep, KeepsSo, NcsStep}

-- ---- steps of connections

-- an event of a connection
abbrev pub IsConnected : ServerEvent → Type 0
IsConnected (Command e) = ⊥
IsConnected e = Unit {0}

kept-unless : (b : Bool) (s : ServerState) (x : StepAnswer × ServerState) → x.1.faults ≡ s.faults → (unless_stale b s x).1.faults ≡ s.faults
kept-unless true s x h = h
kept-unless false s x h = refl

keeps-faults : (s : ServerState) (e : ServerEvent) → IsConnected e → (server_step false s e).1.faults ≡ s.faults
keeps-faults s (Command e) h = absurd h
keeps-faults s (UpperOpened d c) h = refl
keeps-faults s (UpperCut d c) h = kept-unless (is_upper s d c) s (Stepped Taken, with_peer s d (peer_cut (s.peers d))) refl
keeps-faults s (UpperAnswer d c m) h = kept-unless (is_upper s d c) s (server_stepped s d (peer_answered s.journal (s.peers d) m)) refl
keeps-faults s (Beat d) h = refl
keeps-faults s (DeviceAccepted d c) h = refl
keeps-faults s (DeviceDropped d c) h = kept-unless (is_lower s d c) s (Stepped Taken, with_peer s d (peer_linked None (s.peers d))) refl
keeps-faults s (NextSend d c now) h = kept-unless (is_upper s d c) s (server_sent s d (peer_next s.journal now (s.peers d))) refl
keeps-faults s (Hear d c m) h = kept-unless (is_lower s d c) s (server_says s d (peer_hear s.journal (s.peers d) m)) refl

connected-step : (s t : ServerState) (e : ServerEvent) → IsConnected e → t ≡ (server_step false s e).1 → ServerStep s e (server_step false s e).0 t
connected-step s t e h n = record {
  fails = false;
  answer = refl;
  next = subst (λ (z : ServerState). record (server_step false s e).1 { faults = z.faults } ≡ z) (sym n) refl;
  count = let f : t.faults ≡ s.faults = ap (λ (z : ServerState). z.faults) n ∙ keeps-faults s e h in omega arith;
  rose = λ f. absurd (let g : false ≡ true = f in cc);
}

kept-so : {K : Type 0} (n m : NcsTables K) (e : ServerEvent) (a : StepAnswer) → IsConnected e → m.kept ≡ n.kept → KeepsSo e a n.kept m.kept
kept-so n m (Command e) a h k = absurd h
kept-so n m (UpperOpened d c) a h k = k
kept-so n m (UpperCut d c) a h k = k
kept-so n m (UpperAnswer d c x) a h k = k
kept-so n m (Beat d) a h k = k
kept-so n m (DeviceAccepted d c) a h k = k
kept-so n m (DeviceDropped d c) a h k = k
kept-so n m (NextSend d c now) a h k = k
kept-so n m (Hear d c x) a h k = k

-- such an event comes to what is said to its answer
pub comes : {K : Type 0} (n m : NcsTables K) (e : ServerEvent) (saying : StepAnswer → PortAnswer) (a : PortAnswer) → IsConnected e → ncs_of m ≡ (server_step false (ncs_of n) e).1 → LeavesRest n m → a ≡ saying (server_step false (ncs_of n) e).0
    → IsAnswered n (Asked.Steps e saying) a m
comes n m e saying a h s r q = record { comes = ((server_step false (ncs_of n) e).0, record { step = connected-step (ncs_of n) (ncs_of m) e h s; kept = kept-so n m e (server_step false (ncs_of n) e).0 h r.kept; devices = r.devices }, q) }

-- an event that is answered at once
pub says : {K : Type 0} (n : NcsTables K) (said_at_once a : PortAnswer) → a ≡ said_at_once → IsAnswered n (Asked.Says said_at_once) a n
says n b a q = record { comes = (refl, q) }

state-of : {K : Type 0} (n m : NcsTables K) (asked : Asked ServerEvent) (a : PortAnswer) → ComesTo NcsStep n asked a m → ComesTo ServerStep (ncs_of n) asked a (ncs_of m)
state-of n m (Asked.Steps e saying) a h = (h.0, h.1.step, h.2)
state-of n m (Asked.Says answer) a h = (ap ncs_of h.0, h.1)

-- an event at the ports, of all that contracts see
pub server-steps : {K : Type 0} (n m : NcsTables K) (e : PortEvent) (a : PortAnswer) → IsAnswered n (server_asked (devices_of n) n.server.journal e) a m → IsServerStep n e a m
server-steps n m e a h = record { state = state-of n m (server_asked (devices_of n) n.server.journal e) a h.comes; tables = h }

-- a call that found no memory
pub refuses : {K : Type 0} (n m : NcsTables K) → ncs_of m ≡ ncs_of n → LeavesRest n m → IsServerRefusal n m
refuses n m s r = record { state = s; kept = r.kept; devices = r.devices }

-- ---- what is said

stepped-unless : (b : Bool) (s t : ServerState) (st : Step) → step_said (step_of (unless_stale b s (Stepped st, t)).0) ≡ said (unless_stale b s (Stepped st, t)).0
stepped-unless true s t Taken = refl
stepped-unless true s t Unasked = refl
stepped-unless false s t st = refl

pub cut-said : (s : ServerState) (d c : ℕ) → step_said (step_of (server_step false s (UpperCut d c)).0) ≡ said (server_step false s (UpperCut d c)).0
cut-said s d c = stepped-unless (is_upper s d c) s (with_peer s d (peer_cut (s.peers d))) Taken

pub dropped-said : (s : ServerState) (d c : ℕ) → step_said (step_of (server_step false s (DeviceDropped d c)).0) ≡ said (server_step false s (DeviceDropped d c)).0
dropped-said s d c = stepped-unless (is_lower s d c) s (with_peer s d (peer_linked None (s.peers d))) Taken

pub answered-said : (s : ServerState) (d c : ℕ) (m : Message) → step_said (step_of (server_step false s (UpperAnswer d c m)).0) ≡ said (server_step false s (UpperAnswer d c m)).0
answered-said s d c m = by (peer_answered s.journal (s.peers d) m)
  where
    by : (x : PeerState × Step) → step_said (step_of (unless_stale (is_upper s d c) s (server_stepped s d x)).0) ≡ said (unless_stale (is_upper s d c) s (server_stepped s d x)).0
    by x = stepped-unless (is_upper s d c) s (with_peer s d x.0) x.1

heard-unless : (b : Bool) (s : ServerState) (d : ℕ) (x : PeerState × Packet) → heard_said (heard_of (unless_stale b s (server_says s d x)).0) ≡ said (unless_stale b s (server_says s d x)).0
heard-unless true s d x = refl
heard-unless false s d x = refl

pub heard-is-said : (s : ServerState) (d c : ℕ) (m : Message) → heard_said (heard_of (server_step false s (Hear d c m)).0) ≡ said (server_step false s (Hear d c m)).0
heard-is-said s d c m = heard-unless (is_lower s d c) s d (peer_hear s.journal (s.peers d) m)

sent-unless : (b : Bool) (s : ServerState) (d : ℕ) (x : PeerState) (p : Option Packet) → sent_said (sent_by (unless_stale b s (server_sent s d (x, p))).0) ≡ said (unless_stale b s (server_sent s d (x, p))).0
sent-unless true s d x None = refl
sent-unless true s d x (Some p) = refl
sent-unless false s d x p = refl

pub sent-is-said : (s : ServerState) (d c : ℕ) (now : MosTime) → sent_said (sent_by (server_step false s (NextSend d c now)).0) ≡ said (server_step false s (NextSend d c now)).0
sent-is-said s d c now = by (peer_next s.journal now (s.peers d))
  where
    by : (x : PeerState × Option Packet) → sent_said (sent_by (unless_stale (is_upper s d c) s (server_sent s d x)).0) ≡ said (unless_stale (is_upper s d c) s (server_sent s d x)).0
    by x = sent-unless (is_upper s d c) s d x.0 x.1

-- ---- the calls

pub cut-comes : {K : Type 0} (n m : NcsTables K) (d c : ℕ) (st : CallStep) (a : PortAnswer) → st ≡ step_of (server_step false (ncs_of n) (UpperCut d c)).0 → ncs_of m ≡ (server_step false (ncs_of n) (UpperCut d c)).1 → LeavesRest n m → a ≡ step_said st
    → IsAnswered n (Asked.Steps (UpperCut d c) said) a m
cut-comes n m d c st a p s r q = comes n m (UpperCut d c) said a tt s r (q ∙ (ap step_said p ∙ cut-said (ncs_of n) d c))

pub dropped-comes : {K : Type 0} (n m : NcsTables K) (d c : ℕ) (st : CallStep) (a : PortAnswer) → st ≡ step_of (server_step false (ncs_of n) (DeviceDropped d c)).0 → ncs_of m ≡ (server_step false (ncs_of n) (DeviceDropped d c)).1 → LeavesRest n m → a ≡ step_said st
    → IsAnswered n (Asked.Steps (DeviceDropped d c) said) a m
dropped-comes n m d c st a p s r q = comes n m (DeviceDropped d c) said a tt s r (q ∙ (ap step_said p ∙ dropped-said (ncs_of n) d c))

pub answered-comes : {K : Type 0} (n m : NcsTables K) (d c : ℕ) (x : Message) (st : CallStep) (a : PortAnswer) → st ≡ step_of (server_step false (ncs_of n) (UpperAnswer d c x)).0 → ncs_of m ≡ (server_step false (ncs_of n) (UpperAnswer d c x)).1 → LeavesRest n m → a ≡ step_said st
    → IsAnswered n (Asked.Steps (UpperAnswer d c x) said) a m
answered-comes n m d c x st a p s r q = comes n m (UpperAnswer d c x) said a tt s r (q ∙ (ap step_said p ∙ answered-said (ncs_of n) d c x))

pub heard-comes : {K : Type 0} (n m : NcsTables K) (d c : ℕ) (x : Message) (h : CallHeard) (a : PortAnswer) → h ≡ heard_of (server_step false (ncs_of n) (Hear d c x)).0 → ncs_of m ≡ (server_step false (ncs_of n) (Hear d c x)).1 → LeavesRest n m → a ≡ heard_said h
    → IsAnswered n (Asked.Steps (Hear d c x) said) a m
heard-comes n m d c x h a p s r q = comes n m (Hear d c x) said a tt s r (q ∙ (ap heard_said p ∙ heard-is-said (ncs_of n) d c x))

pub sent-comes : {K : Type 0} (n m : NcsTables K) (d c : ℕ) (now : MosTime) (h : CallSent) (a : PortAnswer) → h ≡ sent_by (server_step false (ncs_of n) (NextSend d c now)).0 → ncs_of m ≡ (server_step false (ncs_of n) (NextSend d c now)).1 → LeavesRest n m → a ≡ sent_said h
    → IsAnswered n (Asked.Steps (NextSend d c now) said) a m
sent-comes n m d c now h a p s r q = comes n m (NextSend d c now) said a tt s r (q ∙ (ap sent_said p ∙ sent-is-said (ncs_of n) d c now))
