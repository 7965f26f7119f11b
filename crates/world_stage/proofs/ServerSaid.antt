-- What the server opens, sends, takes back and hears.
use Rattle.std.proofs.Common.{◌≡◌, ℕ, ◌+◌, List, [], ◌∷◌, Bool, true, false, Option, Some, None, refl, sym, ap, ◌∙◌, subst}
use Rattle.mos_fields.specs.declared.time.MosTime.{MosTime}
use Rattle.mos_edits.specs.Entries.{Entry, AreEntries, entry_count, order_now}
use Rattle.mos_edits.specs.Orders.{Order}
use Rattle.mos_edits.specs.Texts.{Text, same_id, set_number}
use Rattle.mos_machines.specs.Messages.{Message, Packet, Status, Step as MachineStep}
use Rattle.mos_machines.specs.Messages.Message.{Heartbeat, RoEdit, RoAck, RoReq, RoReqAll, RoList, RoListAll, RoElementStat, OtherMessage}
use Rattle.mos_machines.specs.Server.{Upper, PeerState, ServerOut, beat_or_due, first_due, is_busy, list_of, next_by, peer_answered, peer_hear, peer_next, peer_opened, sent, upper_link}
use Rattle.mos_machines.specs.Server.Upper.{Down, Greeting, Open}
use Rattle.mos_machines.specs.Server.ServerOut.{Idle, SendsEdit, SendsAgain, SendsScript, SendsBeat}
use Rattle.mos_machines.specs.Steps.{ServerState, ServerEvent, server_says, server_sent, server_step, server_stepped, with_peer}
use Rattle.mos_machines.specs.Values.{edit_message, message_of, reread, seen}
use Rattle.mos_machines.specs.Views.{IsPeerWithin}
use Rattle.mos_machines.proofs.Written.{answered-reread, heard-reread, heard-written, next-written, seen-written}
use Rattle.mos_edits.specs.declared.edit.Edit.TheVariants as edits
use Rattle.mos_values.specs.declared.message.Message.{Message as Carried}
use Rattle.machine_answers.specs.Answers.{heard_of, step_of, stepped}
use Rattle.machine_answers.specs.declared.answers.Heard.TheVariants as heards
use Rattle.machine_answers.specs.declared.answers.Sent.TheVariants as sents
use Rattle.machine_answers.specs.declared.answers.Tag.{Tag as SentTag}
use Rattle.server_peer.specs.Parts.{sent_tag}
use Rattle.rundown_log.specs.Memory.{MemoryKeeper}
use Rattle.ncs_core.specs.State.{NcsTables, ncs_of, sent_by}
use Rattle.world_scripts.specs.Outcomes.{outcome_of}
use Rattle.world_scripts.specs.declared.outcome.Outcome.{Outcome}
use Rattle.world_laws.specs.Outcomes.{Outcome as Told, outcome_of as outcome_told}
use Rattle.world_laws.specs.World.{Connection as Line, Pairing, front, hears_from, hears_front, new_connection, own_beat, rest, sends_on, takes_from, takes_front, write_device}
use Rattle.world_laws.specs.World.Effect.{Connected, Stepped, Wrote}
use Rattle.world_laws.specs.World.Opener.{TheServer}
use Rattle.world_parts.specs.Hearing.{answer_tag}
use Rattle.world_parts.specs.Matching.{Carries, IsOpened, MatchesConnections}
use Rattle.world_parts.specs.Sending.{carried_tag}
use Rattle.world_parts.specs.Told.{tag_of}
use Rattle.world_parts.specs.declared.connection.Connection.{Connection}
use Rattle.world_parts.specs.declared.packet.Packet.{Packet as Held}
use Rattle.world_parts.specs.declared.packet.PacketTag.{PacketTag}
use Rattle.world_parts.specs.declared.packet.PacketTag.TheVariants.{Untagged as untagged_tag}
use Rattle.world_stage.specs.Steps.{IsHeardAnswered, IsServerEventStep}
use Rattle.world_stage.proofs.OwnLinks.{answer-own, hear-own}
use Rattle.world_stage.proofs.ServerSteps.{not-possible}
use Rattle.world_stage.proofs.Tables.{peer-written, set-here, written-twice}

-- ---- opening

pub fresh-opened : (lines : ℕ → Line) (c : ℕ) → IsOpened (set_number lines c (new_connection TheServer []) c)
fresh-opened lines c = subst (λ (x : Line). IsOpened x) (sym (set-here lines c (new_connection TheServer []))) (λ h. absurd (cc))

pub opened-step : (l : Pairing) (n m : NcsTables MemoryKeeper) (xs : List Connection) (d c k : ℕ) (o : Outcome) → c ≡ k → (ncs_of n).peers d ≡ l.peer → ncs_of m ≡ with_peer (ncs_of n) d (peer_opened c ((ncs_of n).peers d))
    → MatchesConnections xs (d + 1) (set_number (set_number l.connections c (new_connection TheServer [])) c (write_device own_beat (set_number l.connections c (new_connection TheServer []) c))) → outcome_of o ≡ Told.Connection c
    → IsServerEventStep l (record l { peer = peer_opened k l.peer; connections = set_number l.connections k (new_connection TheServer (own_beat ∷ [])) }, Connected k) m xs d o
opened-step l n m xs d c k o s p t x e =
    subst (λ (j : ℕ). IsServerEventStep l (record l { peer = peer_opened j l.peer; connections = set_number l.connections j (new_connection TheServer (own_beat ∷ [])) }, Connected j) m xs d o) s (record {
      peer = peer-written n m d (peer_opened c ((ncs_of n).peers d)) t ∙ ap (peer_opened c) p;
      connections = written-twice xs (d + 1) l.connections c (new_connection TheServer []) (λ (y : Line). write_device own_beat y) x;
      gate = refl;
      decks = refl;
      applied = refl;
      outcome = e;
    })

-- ---- taking back

module _ (n : NcsTables MemoryKeeper) (d c : ℕ) (p : Held) (q : Packet) (a : Carries p q) where
  heard_as : seen p.message ≡ reread q.message
  heard_as = ap seen a.message ∙ seen-written q.message a.written

  pub answered-as : upper_link ((ncs_of n).peers d).upper ≡ Some c → server_step false (ncs_of n) (ServerEvent.UpperAnswer d c (seen p.message)) ≡ server_stepped (ncs_of n) d (peer_answered n.server.journal ((ncs_of n).peers d) q.message)
  answered-as u =
      answer-own (ncs_of n) d c (seen p.message) u
      ∙ ap (server_stepped (ncs_of n) d) (ap (peer_answered n.server.journal ((ncs_of n).peers d)) heard_as ∙ answered-reread n.server.journal ((ncs_of n).peers d) q.message a.written)

  pub heard-as : ((ncs_of n).peers d).link ≡ Some c → server_step false (ncs_of n) (ServerEvent.Hear d c (seen p.message)) ≡ server_says (ncs_of n) d (peer_hear n.server.journal ((ncs_of n).peers d) q.message)
  heard-as u =
      hear-own (ncs_of n) d c (seen p.message) u
      ∙ ap (server_says (ncs_of n) d) (ap (peer_hear n.server.journal ((ncs_of n).peers d)) heard_as ∙ heard-reread n.server.journal ((ncs_of n).peers d) q.message a.written)

pub stepped-state : (s : ServerState) (d : ℕ) (z : PeerState × MachineStep) → (server_stepped s d z).1 ≡ with_peer s d z.0
stepped-state s d (x, step) = refl

pub stepped-answer : (s : ServerState) (d : ℕ) (z : PeerState × MachineStep) → step_of (server_stepped s d z).0 ≡ stepped z.1
stepped-answer s d (x, step) = refl

-- a device without the first unread message on its way to the server
abbrev pub heard_line : Pairing → ℕ → Line
heard_line l c = record (l.connections c) { to_server = rest (l.connections c).to_server }

pub heard-opened : (l : Pairing) (c : ℕ) → IsOpened (l.connections c) → IsOpened (set_number l.connections c (heard_line l c) c)
heard-opened l c o = subst (λ (x : Line). IsOpened x) (sym (set-here l.connections c (heard_line l c))) o

taken-from : (l : Pairing) (m : NcsTables MemoryKeeper) (xs : List Connection) (d c : ℕ) (o : Outcome) (z : PeerState × MachineStep) → (ncs_of m).peers d ≡ z.0 → MatchesConnections xs (d + 1) (set_number l.connections c (heard_line l c)) → outcome_of o ≡ outcome_told (Stepped z.1)
    → IsServerEventStep l (takes_from l c (l.connections c) z) m xs d o
taken-from l m xs d c o (s, step) p x e = record { peer = p; connections = x; gate = refl; decks = refl; applied = refl; outcome = e }

pub taken-back : (l : Pairing) (n m : NcsTables MemoryKeeper) (xs : List Connection) (d c : ℕ) (o : Outcome) (q : Packet) → (ncs_of n).peers d ≡ l.peer → front (l.connections c).to_server ≡ Some q
    → (ncs_of m).peers d ≡ (peer_answered n.server.journal ((ncs_of n).peers d) q.message).0 → MatchesConnections xs (d + 1) (set_number l.connections c (heard_line l c)) → outcome_of o ≡ outcome_told (Stepped (peer_answered n.server.journal ((ncs_of n).peers d) q.message).1)
    → IsServerEventStep l (takes_front n.server.journal l c (l.connections c) (front (l.connections c).to_server)) m xs d o
taken-back l n m xs d c o q p f w x e =
    subst (λ (r : Option Packet). IsServerEventStep l (takes_front n.server.journal l c (l.connections c) r) m xs d o) (sym f)
    (taken-from l m xs d c o (peer_answered n.server.journal l.peer q.message) (w ∙ ap (λ (y : PeerState). (peer_answered n.server.journal y q.message).0) p) x (e ∙ ap (λ (y : PeerState). outcome_told (Stepped (peer_answered n.server.journal y q.message).1)) p))

pub nothing-back : (l : Pairing) (n : NcsTables MemoryKeeper) (xs : List Connection) (d c : ℕ) (o : Outcome) → (ncs_of n).peers d ≡ l.peer → front (l.connections c).to_server ≡ None → MatchesConnections xs (d + 1) l.connections → outcome_of o ≡ Told.Impossible
    → IsServerEventStep l (takes_front n.server.journal l c (l.connections c) (front (l.connections c).to_server)) n xs d o
nothing-back l n xs d c o p f x e = subst (λ (r : Option Packet). IsServerEventStep l (takes_front n.server.journal l c (l.connections c) r) n xs d o) (sym f) (not-possible l n xs d o p x e)

-- ---- hearing

pub says-state : (s : ServerState) (d : ℕ) (z : PeerState × Packet) → (server_says s d z).1 ≡ with_peer s d z.0
says-state s d (x, p) = refl

pub says-answer : (s : ServerState) (d : ℕ) (z : PeerState × Packet) → heard_of (server_says s d z).0 ≡ heards.Say (message_of z.1.message)
says-answer s d (x, p) = refl

listed-tag : (journal : List Entry) (r : Text) (o : Option Order) → tag_of (answer_tag journal (message_of (RoReq r)) (message_of (list_of r (entry_count journal r) o).message)) ≡ (list_of r (entry_count journal r) o).tag
unfolding same_id
listed-tag journal r None = refl
listed-tag journal r (Some o) = refl

put-off-tag : (journal : List Entry) (r : Text) → tag_of (answer_tag journal (message_of (RoReq r)) (message_of (RoAck r Status.NotNow))) ≡ tag_of untagged_tag
unfolding same_id
put-off-tag journal r = refl

request-tag : (journal : List Entry) (s : PeerState) (r : Text) (b : Bool) → is_busy r s.upper ≡ b → tag_of (answer_tag journal (message_of (RoReq r)) (message_of (peer_hear journal s (RoReq r)).1.message)) ≡ (peer_hear journal s (RoReq r)).1.tag
request-tag journal s r true e = rw e (put-off-tag journal r)
request-tag journal s r false e = rw e (listed-tag journal r (order_now journal r))

edit-tag : (journal : List Entry) (e : Entry) (answer : Carried) → tag_of (answer_tag journal (edit_message e.edit) answer) ≡ tag_of untagged_tag
edit-tag journal e answer = by e.edit
  where
    by : (x : _) → tag_of (answer_tag journal (edit_message x) answer) ≡ tag_of untagged_tag
    by (edits.Create b) = refl
    by (edits.Replace b) = refl
    by (edits.Delete r) = refl
    by (edits.Metadata p) = refl
    by (edits.Act r a) = refl
    by (edits.Air r a) = refl
    by (edits.Script s) = refl

pub heard-tag : (journal : List Entry) (s : PeerState) (m : Message) → tag_of (answer_tag journal (message_of m) (message_of (peer_hear journal s m).1.message)) ≡ (peer_hear journal s m).1.tag
heard-tag journal s (Heartbeat t) = refl
heard-tag journal s (RoEdit e) = edit-tag journal e (message_of (peer_hear journal s (RoEdit e)).1.message)
heard-tag journal s (RoAck r t) = refl
heard-tag journal s (RoReq r) = request-tag journal s r (is_busy r s.upper) refl
heard-tag journal s RoReqAll = refl
heard-tag journal s (RoList r o) = refl
heard-tag journal s (RoListAll hs) = refl
heard-tag journal s (RoElementStat r) = refl
heard-tag journal s (OtherMessage r) = refl

say-is : {a b : Carried} → heards.Say a ≡ heards.Say b → a ≡ b
say-is e = cc

-- the answer carries what the machine says
pub carries-heard : (journal new : List Entry) (s : PeerState) (p : Held) (q : Packet) (message : Carried) (tag : PacketTag) → Carries p q → AreEntries journal → new ≡ journal → heards.Say message ≡ heards.Say (message_of (peer_hear journal s q.message).1.message) → tag ≡ answer_tag new p.message message
    → Carries (record { message = message; tag = tag }) (peer_hear journal s q.message).1
carries-heard journal new s p q message tag a entries same said t =
    let is : message ≡ message_of (peer_hear journal s q.message).1.message = say-is said in
    record {
      message = is;
      tag =
          ap tag_of t
          ∙ (ap (λ (j : List Entry). tag_of (answer_tag j p.message message)) same
          ∙ (ap (λ (m : Carried). tag_of (answer_tag journal m message)) a.message
          ∙ (ap (λ (m : Carried). tag_of (answer_tag journal (message_of q.message) m)) is ∙ heard-tag journal s q.message)));
      written = heard-written journal s q.message entries;
    }

pub hears-from-step : (l : Pairing) (m : NcsTables MemoryKeeper) (xs : List Connection) (d c : ℕ) (o : Outcome) (z : PeerState × Packet) → (ncs_of m).peers d ≡ z.0 → MatchesConnections xs (d + 1) (set_number l.connections c (write_device z.1 (heard_line l c)))
    → outcome_of o ≡ outcome_told (Wrote z.1) → IsServerEventStep l (hears_from l c (l.connections c) z) m xs d o
hears-from-step l m xs d c o (s, p) w x e = record { peer = w; connections = x; gate = refl; decks = refl; applied = refl; outcome = e }

pub heard-step : (l : Pairing) (n m : NcsTables MemoryKeeper) (xs : List Connection) (d c : ℕ) (o : Outcome) (q : Packet) → (ncs_of n).peers d ≡ l.peer → front (l.connections c).to_server ≡ Some q → IsHeardAnswered n m q xs d c (set_number l.connections c (heard_line l c)) o
    → IsServerEventStep l (hears_front n.server.journal l c (l.connections c) (front (l.connections c).to_server)) m xs d o
heard-step l n m xs d c o q p f h =
    subst (λ (r : Option Packet). IsServerEventStep l (hears_front n.server.journal l c (l.connections c) r) m xs d o) (sym f)
    (subst (λ (y : PeerState). IsServerEventStep l (hears_from l c (l.connections c) (peer_hear n.server.journal y q.message)) m xs d o) p
    (hears-from-step l m xs d c o (peer_hear n.server.journal ((ncs_of n).peers d) q.message) h.peer
    (written-twice xs (d + 1) l.connections c (heard_line l c) (λ (y : Line). write_device (peer_hear n.server.journal ((ncs_of n).peers d) q.message).1 y) h.connections) h.outcome))

pub nothing-heard : (l : Pairing) (n : NcsTables MemoryKeeper) (xs : List Connection) (d c : ℕ) (o : Outcome) → (ncs_of n).peers d ≡ l.peer → front (l.connections c).to_server ≡ None → MatchesConnections xs (d + 1) l.connections → outcome_of o ≡ Told.Impossible
    → IsServerEventStep l (hears_front n.server.journal l c (l.connections c) (front (l.connections c).to_server)) n xs d o
nothing-heard l n xs d c o p f x e = subst (λ (r : Option Packet). IsServerEventStep l (hears_front n.server.journal l c (l.connections c) r) n xs d o) (sym f) (not-possible l n xs d o p x e)

-- ---- sending

sent-tag : (journal : List Entry) (now : MosTime) (s : PeerState) (c : ℕ) (x : ServerOut) (p : Packet) → (sent journal now s c x).1 ≡ Some p → tag_of (carried_tag (sent_tag p.tag)) ≡ p.tag
sent-tag journal now s c Idle p e = absurd (cc)
sent-tag journal now s c SendsBeat p e = subst (λ (o : Option Packet). by_tag o) e refl
  where
    by_tag : Option Packet → Type 0
    by_tag None = Unit {0}
    by_tag (Some r) = tag_of (carried_tag (sent_tag r.tag)) ≡ r.tag
sent-tag journal now s c (SendsEdit r k) p e = subst (λ (o : Option Packet). by_tag o) e refl
  where
    by_tag : Option Packet → Type 0
    by_tag None = Unit {0}
    by_tag (Some r) = tag_of (carried_tag (sent_tag r.tag)) ≡ r.tag
sent-tag journal now s c (SendsAgain r k) p e = subst (λ (o : Option Packet). by_tag o) e refl
  where
    by_tag : Option Packet → Type 0
    by_tag None = Unit {0}
    by_tag (Some r) = tag_of (carried_tag (sent_tag r.tag)) ≡ r.tag
sent-tag journal now s c (SendsScript r k m) p e = subst (λ (o : Option Packet). by_tag o) e refl
  where
    by_tag : Option Packet → Type 0
    by_tag None = Unit {0}
    by_tag (Some r) = tag_of (carried_tag (sent_tag r.tag)) ≡ r.tag

next-tag-by : (journal : List Entry) (now : MosTime) (s : PeerState) (u : Upper) (p : Packet) → (next_by journal now s u).1 ≡ Some p → tag_of (carried_tag (sent_tag p.tag)) ≡ p.tag
next-tag-by journal now s Down p e = absurd (cc)
next-tag-by journal now s (Greeting c) p e = absurd (cc)
next-tag-by journal now s (Open c Idle) p e = sent-tag journal now s c (beat_or_due s.note (first_due s.views (λ r. 0) journal)) p e
next-tag-by journal now s (Open c (SendsEdit r k)) p e = absurd (cc)
next-tag-by journal now s (Open c (SendsAgain r m)) p e = absurd (cc)
next-tag-by journal now s (Open c (SendsScript r k m)) p e = absurd (cc)
next-tag-by journal now s (Open c SendsBeat) p e = absurd (cc)

-- what is sent, as it was answered
pub record IsSentSo (z : PeerState × Option Packet) (message : Carried) (tag : SentTag) : Type 0 where
  pub packet : Packet
  pub sends : z.1 ≡ Some packet
  pub message_is : message ≡ message_of packet.message
  pub tag_is : tag ≡ sent_tag packet.tag

pub sent-so : (s : ServerState) (d : ℕ) (z : PeerState × Option Packet) (message : Carried) (tag : SentTag) → sents.Out message tag ≡ sent_by (server_sent s d z).0 → IsSentSo z message tag
sent-so s d (x, None) message tag e = absurd (cc)
sent-so s d (x, Some p) message tag e = record { packet = p; sends = refl; message_is = cc; tag_is = cc }

pub sent-nothing : (s : ServerState) (d : ℕ) (z : PeerState × Option Packet) → sents.Nothing ≡ sent_by (server_sent s d z).0 → z.1 ≡ None
sent-nothing s d (x, None) e = refl
sent-nothing s d (x, Some p) e = absurd (cc)

pub sent-state : (s : ServerState) (d : ℕ) (z : PeerState × Option Packet) → (server_sent s d z).1 ≡ with_peer s d z.0
sent-state s d (x, p) = refl

-- the packet that is sent carries what the machine says
pub carries-sent : (journal : List Entry) (now : MosTime) (s : PeerState) (message : Carried) (tag : SentTag) → AreEntries journal → IsPeerWithin journal s → (i : IsSentSo (peer_next journal now s) message tag) → Carries (record { message = message; tag = carried_tag tag }) i.packet
carries-sent journal now s message tag a w i = record {
  message = i.message_is;
  tag = ap (λ (t : SentTag). tag_of (carried_tag t)) i.tag_is ∙ next-tag-by journal now s s.upper i.packet i.sends;
  written = next-written journal now s i.packet a w i.sends;
}

pub sends-step : (l : Pairing) (m : NcsTables MemoryKeeper) (xs : List Connection) (d c : ℕ) (o : Outcome) (z : PeerState × Option Packet) (p : Packet) → z.1 ≡ Some p → (ncs_of m).peers d ≡ z.0 → MatchesConnections xs (d + 1) (set_number l.connections c (write_device p (l.connections c)))
    → outcome_of o ≡ outcome_told (Wrote p) → IsServerEventStep l (sends_on l (Some c) z) m xs d o
sends-step l m xs d c o (s, None) p h w x e = absurd (cc)
sends-step l m xs d c o (s, Some r) p h w x e = let same : r ≡ p = cc in
    subst (λ (y : Packet). IsServerEventStep l (sends_on l (Some c) (s, Some y)) m xs d o) (sym same) (record { peer = w; connections = x; gate = refl; decks = refl; applied = refl; outcome = e })

pub sends-nothing : (l : Pairing) (m : NcsTables MemoryKeeper) (xs : List Connection) (d c : ℕ) (o : Outcome) (z : PeerState × Option Packet) → z.1 ≡ None → (ncs_of m).peers d ≡ z.0 → MatchesConnections xs (d + 1) l.connections → outcome_of o ≡ Told.Nothing
    → IsServerEventStep l (sends_on l (Some c) z) m xs d o
sends-nothing l m xs d c o (s, None) h w x e = record { peer = w; connections = x; gate = refl; decks = refl; applied = refl; outcome = e }
sends-nothing l m xs d c o (s, Some r) h w x e = absurd (cc)
