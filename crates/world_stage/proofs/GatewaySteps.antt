-- What the gateway's calls make of a pairing.
use Rattle.std.proofs.Common.{◌≡◌, ℕ, List, Bool, true, false, Option, Some, None, refl, sym, ap, ◌∙◌, subst}
use Rattle.mos_edits.specs.Texts.{set_number}
use Rattle.mos_edits.specs.Texts.{Text}
use Rattle.mos_machines.specs.Device.{Decks, GateState, gate_accepted, gate_got, gate_read}
use Rattle.mos_machines.specs.Messages.{Message, Packet, Step as MachineStep, Tag, untagged}
use Rattle.mos_machines.specs.Steps.{DeviceEvent, StepAnswer, device_step, gate_says, gate_sent, gate_stepped}
use Rattle.mos_machines.specs.Tables.{gate_of, look}
use Rattle.mos_machines.specs.Values.{IsWritten, message_of, reread, seen}
use Rattle.mos_machines.proofs.Written.{got-reread, read-reread, read-written, seen-written}
use Rattle.mos_values.specs.declared.message.Message.{Message as Carried}
use Rattle.machine_answers.specs.Answers.{asked_of, heard_of, step_of, stepped}
use Rattle.machine_answers.specs.declared.answers.Heard.{Heard as HeardAnswer}
use Rattle.machine_answers.specs.declared.answers.Heard.TheVariants as heards
use Rattle.machine_answers.specs.declared.answers.Step.TheVariants as held_steps
use Rattle.machine_answers.specs.declared.answers.Sent.TheVariants as sents
use Rattle.machine_answers.specs.declared.answers.Tag.{Tag as SentTag}
use Rattle.world_scripts.specs.Outcomes.{outcome_of}
use Rattle.world_scripts.specs.declared.outcome.Outcome.{Outcome}
use Rattle.world_laws.specs.Outcomes.{Outcome as Told, outcome_of as outcome_told}
use Rattle.world_laws.specs.World.{Connection as Line, Effect, Opener, Pairing, accepts_it, applied_got, applied_read, asks_on, front, gets_from, gets_front, impossible, reads_from, reads_front, rest, write_server}
use Rattle.world_laws.specs.World.Effect.{Performed, Stepped, Wrote}
use Rattle.world_laws.specs.World.Opener.{Nobody, TheServer, TheDevice}
use Rattle.world_parts.specs.Matching.{Carries, IsOpened, MatchesConnections, MatchesGateway}
use Rattle.gateway_core.specs.Parts.{decks_of}
use Rattle.world_parts.specs.Applying.{in_step_for}
use Rattle.world_parts.specs.Told.{tag_of}
use Rattle.world_parts.specs.declared.connection.Connection.{Connection}
use Rattle.world_parts.specs.declared.packet.Packet.{Packet as Held}
use Rattle.world_parts.specs.declared.packet.PacketTag.TheVariants as held_tags
use Rattle.world_parts.specs.declared.gateway.Gateway.{Gateway}
use Rattle.world_stage.specs.Steps.{IsGatewayStep, IsReadAnswered, after_got, after_read, read_answer}
use Rattle.world_stage.proofs.OwnLinks.{got-own, read-own}
use Rattle.world_stage.proofs.Tables.{set-here, written-twice}

-- an event that isn't possible
pub not-possible-here : (l : Pairing) (x : Gateway) (xs : List Connection) (d : ℕ) (o : Outcome) → MatchesGateway x l → MatchesConnections xs d l.connections → outcome_of o ≡ Told.Impossible → IsGatewayStep l (impossible l) x xs d o
not-possible-here l x xs d o g m e = record { gateway = g; connections = m; peer = refl; outcome = e }

-- ---- accepting

accepted-not : (l : Pairing) (c : ℕ) (x : Line) (o : Opener) (b : Bool) → (o ≡ TheServer → b ≡ true) → accepts_it l c x o b ≡ impossible l
accepted-not l c x Nobody b h = refl
accepted-not l c x TheDevice b h = refl
accepted-not l c x TheServer true h = refl
accepted-not l c x TheServer false h = let no : false ≡ true = h refl in absurd (cc)

pub no-acceptance : (l : Pairing) (x : Gateway) (xs : List Connection) (d c : ℕ) (o : Outcome) → ((l.connections c).opener ≡ TheServer → (l.connections c).accepted ≡ true) → MatchesGateway x l → MatchesConnections xs d l.connections → outcome_of o ≡ Told.Impossible
    → IsGatewayStep l (accepts_it l c (l.connections c) (l.connections c).opener (l.connections c).accepted) x xs d o
no-acceptance l x xs d c o h g m e =
    subst (λ (z : Pairing × Effect). IsGatewayStep l z x xs d o) (sym (accepted-not l c (l.connections c) (l.connections c).opener (l.connections c).accepted h)) (not-possible-here l x xs d o g m e)

accepted-so : (l : Pairing) (c : ℕ) (x : Line) (o : Opener) (b : Bool) → o ≡ TheServer → b ≡ false
    → accepts_it l c x o b ≡ (record l { gate = gate_accepted c l.gate; connections = set_number l.connections c (record x { accepted = true }) }, Performed)
accepted-so l c x Nobody b e f = absurd (cc)
accepted-so l c x TheDevice b e f = absurd (cc)
accepted-so l c x TheServer true e f = absurd (cc)
accepted-so l c x TheServer false e f = refl

pub acceptance : (l : Pairing) (x : Gateway) (xs : List Connection) (d c : ℕ) (o : Outcome) → (l.connections c).opener ≡ TheServer → (l.connections c).accepted ≡ false → MatchesGateway x (record l { gate = gate_accepted c l.gate })
    → MatchesConnections xs d (set_number l.connections c (record (l.connections c) { accepted = true })) → outcome_of o ≡ Told.Done → IsGatewayStep l (accepts_it l c (l.connections c) (l.connections c).opener (l.connections c).accepted) x xs d o
acceptance l x xs d c o a b g m e =
    subst (λ (z : Pairing × Effect). IsGatewayStep l z x xs d o) (sym (accepted-so l c (l.connections c) (l.connections c).opener (l.connections c).accepted a b)) (record {
      gateway = record { gate = g.gate; decks = g.decks; applied = g.applied };
      connections = m;
      peer = refl;
      outcome = e;
    })

-- ---- reading

pub nothing-read : (l : Pairing) (x : Gateway) (xs : List Connection) (d c : ℕ) (o : Outcome) → front (l.connections c).to_device ≡ None → MatchesGateway x l → MatchesConnections xs d l.connections → outcome_of o ≡ Told.Impossible
    → IsGatewayStep l (reads_front l c (l.connections c) (front (l.connections c).to_device)) x xs d o
nothing-read l x xs d c o f g m e = subst (λ (p : Option Packet). IsGatewayStep l (reads_front l c (l.connections c) p) x xs d o) (sym f) (not-possible-here l x xs d o g m e)

read-from : (l : Pairing) (q : Packet) (x : Gateway) (xs : List Connection) (d c : ℕ) (o : Outcome) (z : GateState × Message) → MatchesGateway x (record l { gate = z.0; applied = applied_read l.gate l.applied q.tag q.message z.1 })
    → MatchesConnections xs d (set_number l.connections c (write_server (untagged z.1) (record (l.connections c) { to_device = rest (l.connections c).to_device }))) → outcome_of o ≡ outcome_told (Wrote (untagged z.1)) → IsGatewayStep l (reads_from l c (l.connections c) q z) x xs d o
read-from l q x xs d c o (h, a) g m e = record { gateway = record { gate = g.gate; decks = g.decks; applied = g.applied }; connections = m; peer = refl; outcome = e }

-- a device without the first unread message on connection `c`
abbrev pub taken_line : Pairing → ℕ → Line
taken_line l c = record (l.connections c) { to_device = rest (l.connections c).to_device }

pub taken-opened : (l : Pairing) (c : ℕ) → IsOpened (l.connections c) → IsOpened (set_number l.connections c (taken_line l c) c)
taken-opened l c o = subst (λ (x : Line). IsOpened x) (sym (set-here l.connections c (taken_line l c))) o

pub packet-read : (l : Pairing) (q : Packet) (x : Gateway) (xs : List Connection) (d c : ℕ) (o : Outcome) → front (l.connections c).to_device ≡ Some q → IsReadAnswered l q x xs d c (set_number l.connections c (taken_line l c)) o
    → IsGatewayStep l (reads_front l c (l.connections c) (front (l.connections c).to_device)) x xs d o
packet-read l q x xs d c o f r =
    subst (λ (p : Option Packet). IsGatewayStep l (reads_front l c (l.connections c) p) x xs d o) (sym f)
    (read-from l q x xs d c o (gate_read l.gate l.decks q.message) r.gateway (written-twice xs d l.connections c (taken_line l c) (λ (y : Line). write_server (read_answer l q) y) r.connections) r.outcome)

-- ---- answers that are taken

pub nothing-got : (l : Pairing) (x : Gateway) (xs : List Connection) (d c : ℕ) (o : Outcome) → front (l.connections c).to_device ≡ None → MatchesGateway x l → MatchesConnections xs d l.connections → outcome_of o ≡ Told.Impossible
    → IsGatewayStep l (gets_front l c (l.connections c) (front (l.connections c).to_device)) x xs d o
nothing-got l x xs d c o f g m e = subst (λ (p : Option Packet). IsGatewayStep l (gets_front l c (l.connections c) p) x xs d o) (sym f) (not-possible-here l x xs d o g m e)

got-from : (l : Pairing) (q : Packet) (x : Gateway) (xs : List Connection) (d c : ℕ) (o : Outcome) (z : GateState × MachineStep) → MatchesGateway x (record l { gate = z.0; applied = applied_got l.applied q.tag z.1 }) → MatchesConnections xs d (set_number l.connections c (taken_line l c))
    → outcome_of o ≡ outcome_told (Stepped z.1) → IsGatewayStep l (gets_from l c (l.connections c) q z) x xs d o
got-from l q x xs d c o (h, s) g m e = record { gateway = record { gate = g.gate; decks = g.decks; applied = g.applied }; connections = m; peer = refl; outcome = e }

pub packet-got : (l : Pairing) (q : Packet) (x : Gateway) (xs : List Connection) (d c : ℕ) (o : Outcome) → front (l.connections c).to_device ≡ Some q → MatchesGateway x (after_got l q) → MatchesConnections xs d (set_number l.connections c (taken_line l c))
    → outcome_of o ≡ outcome_told (Stepped (gate_got l.gate q.message).1) → IsGatewayStep l (gets_front l c (l.connections c) (front (l.connections c).to_device)) x xs d o
packet-got l q x xs d c o f g m e =
    subst (λ (p : Option Packet). IsGatewayStep l (gets_front l c (l.connections c) p) x xs d o) (sym f) (got-from l q x xs d c o (gate_got l.gate q.message) g m e)

-- ---- asking

-- what is asked, as it was answered
pub record IsAsked (z : GateState × Option Message) (message : Carried) : Type 0 where
  pub said : Message
  pub asks : z.1 ≡ Some said
  pub message_is : message ≡ message_of said

pub asked-so : (z : GateState × Option Message) (message : Carried) (tag : SentTag) → sents.Out message tag ≡ asked_of (gate_sent z).0 → IsAsked z message
asked-so (g, None) message tag e = absurd (cc)
asked-so (g, Some m) message tag e = record { said = m; asks = refl; message_is = cc }

pub asked-nothing : (z : GateState × Option Message) → sents.Nothing ≡ asked_of (gate_sent z).0 → z.1 ≡ None
asked-nothing (g, None) e = refl
asked-nothing (g, Some m) e = absurd (cc)

pub asked-stale : {X : Type 0} (z : GateState × Option Message) → sents.Stale ≡ asked_of (gate_sent z).0 → X
asked-stale (g, None) e = absurd (cc)
asked-stale (g, Some m) e = absurd (cc)

gate-after : (z : GateState × Option Message) → (gate_sent z).1 ≡ z.0
gate-after (g, None) = refl
gate-after (g, Some m) = refl

pub sent-gate : (z : GateState × Option Message) → (gate_sent z).1 ≡ z.0
sent-gate = gate-after

pub ask-nothing : (l : Pairing) (x : Gateway) (xs : List Connection) (d c : ℕ) (o : Outcome) (z : GateState × Option Message) → z.1 ≡ None → MatchesGateway x (record l { gate = z.0 }) → MatchesConnections xs d l.connections → outcome_of o ≡ Told.Nothing → IsGatewayStep l (asks_on l c z) x xs d o
ask-nothing l x xs d c o (g, None) h m k e = record { gateway = record { gate = m.gate; decks = m.decks; applied = m.applied }; connections = k; peer = refl; outcome = e }
ask-nothing l x xs d c o (g, Some a) h m k e = absurd (cc)

pub ask-written-so : (l : Pairing) (x : Gateway) (xs : List Connection) (d c : ℕ) (o : Outcome) (z : GateState × Option Message) (m : Message) → z.1 ≡ Some m → MatchesGateway x (record l { gate = z.0 })
    → MatchesConnections xs d (set_number l.connections c (write_server (untagged m) (l.connections c))) → outcome_of o ≡ outcome_told (Wrote (untagged m)) → IsGatewayStep l (asks_on l c z) x xs d o
ask-written-so l x xs d c o (g, None) m h n k e = absurd (cc)
ask-written-so l x xs d c o (g, Some a) m h n k e = let same : a ≡ m = cc in
    subst (λ (b : Message). IsGatewayStep l (asks_on l c (g, Some b)) x xs d o) (sym same) (record { gateway = record { gate = n.gate; decks = n.decks; applied = n.applied }; connections = k; peer = refl; outcome = e })

-- ---- what is read, and what is applied then

says-gate : (z : GateState × Message) → (gate_says z).1 ≡ z.0
says-gate (g, m) = refl

says-heard : (z : GateState × Message) → heard_of (gate_says z).0 ≡ heards.Say (message_of z.1)
says-heard (g, m) = refl

said-is : {a b : Carried} → heards.Say a ≡ heards.Say b → a ≡ b
said-is e = cc

-- what a clause of `apply_read` says of the counts before and after
abbrev pub Applies : (Text → ℕ) → (Text → ℕ) → Bool → Held → Carried → Type 0
Applies before after in_step p answer = (g : GateState) (q : Packet) (a : Message) → in_step ≡ in_step_for g p.tag → Carries p q → IsWritten a → answer ≡ message_of a → after ≡ applied_read g before q.tag q.message a

pub read-answered : (x y : Gateway) (c : ℕ) (p : Held) (q : Packet) (l : Pairing) (answer : Carried) (h : HeardAnswer) (in_step : Bool) → MatchesGateway x l → Carries p q → (gate_of x.gate).upper ≡ Some c
    → h ≡ heard_of (device_step (gate_of x.gate) (DeviceEvent.ReadUpper c (seen p.message) (decks_of x.decks))).0 → gate_of y.gate ≡ (device_step (gate_of x.gate) (DeviceEvent.ReadUpper c (seen p.message) (decks_of x.decks))).1 → h ≡ heards.Say answer → y.decks ≡ x.decks
    → in_step ≡ in_step_for (gate_of x.gate) p.tag → Applies (look 0 x.applied) (look 0 y.applied) in_step p answer → Carries (record { message = answer; tag = held_tags.Untagged }) (read_answer l q) × MatchesGateway y (after_read l q)
read-answered x y c p q l answer h in_step g a up heard step say decks here applies =
    let z = gate_read l.gate l.decks q.message in
    let message : seen p.message ≡ reread q.message = ap seen a.message ∙ seen-written q.message a.written in
    let same : gate_read (gate_of x.gate) (decks_of x.decks) (seen p.message) ≡ z =
    ap (λ (s : GateState). gate_read s (decks_of x.decks) (seen p.message)) g.gate ∙ (ap (λ (d : Decks). gate_read l.gate d (seen p.message)) g.decks ∙ (ap (gate_read l.gate l.decks) message ∙ read-reread l.gate l.decks q.message a.written)) in
    let own = read-own (gate_of x.gate) c (seen p.message) (decks_of x.decks) up ∙ ap gate_says same in
    let state : gate_of y.gate ≡ z.0 = step ∙ (ap (λ (s : StepAnswer × GateState). s.1) own ∙ says-gate z) in
    let is : answer ≡ message_of z.1 = said-is (sym say ∙ (heard ∙ (ap (λ (s : StepAnswer × GateState). heard_of s.0) own ∙ says-heard z))) in
    let written_so = read-written l.gate l.decks q.message in (
      record { message = is; tag = refl; written = written_so },
      record {
        gate = state;
        decks = ap decks_of decks ∙ g.decks;
        applied = applies l.gate q z.1 (here ∙ ap (λ (s : GateState). in_step_for s p.tag) g.gate) a written_so is ∙ ap (λ (f : Text → ℕ). applied_read l.gate f q.tag q.message z.1) g.applied;
      },
    )

stepped-gate : (z : GateState × MachineStep) → (gate_stepped z).1 ≡ z.0
stepped-gate (g, s) = refl

stepped-said : (z : GateState × MachineStep) → step_of (gate_stepped z).0 ≡ stepped z.1
stepped-said (g, s) = refl

taken-so : (s : MachineStep) → held_steps.Taken ≡ stepped s → s ≡ MachineStep.Taken
taken-so MachineStep.Taken e = refl
taken-so MachineStep.Unasked e = absurd (cc)

pub got-taken : (x y : Gateway) (c : ℕ) (p : Held) (q : Packet) (l : Pairing) → MatchesGateway x l → Carries p q → (gate_of x.gate).link ≡ Some c → held_steps.Taken ≡ step_of (device_step (gate_of x.gate) (DeviceEvent.ReadAnswer c (seen p.message))).0
    → gate_of y.gate ≡ (device_step (gate_of x.gate) (DeviceEvent.ReadAnswer c (seen p.message))).1 → y.decks ≡ x.decks → look 0 y.applied ≡ applied_got (look 0 x.applied) (tag_of p.tag) MachineStep.Taken
    → MatchesGateway y (after_got l q) × (Told.Taken ≡ outcome_told (Stepped (gate_got l.gate q.message).1))
got-taken x y c p q l g a up answer step decks applied =
    let z = gate_got l.gate q.message in
    let message : seen p.message ≡ reread q.message = ap seen a.message ∙ seen-written q.message a.written in
    let same : gate_got (gate_of x.gate) (seen p.message) ≡ z = ap (λ (s : GateState). gate_got s (seen p.message)) g.gate ∙ (ap (gate_got l.gate) message ∙ got-reread l.gate q.message a.written) in
    let own = got-own (gate_of x.gate) c (seen p.message) up ∙ ap gate_stepped same in
    let state : gate_of y.gate ≡ z.0 = step ∙ (ap (λ (s : StepAnswer × GateState). s.1) own ∙ stepped-gate z) in
    let taken : z.1 ≡ MachineStep.Taken = taken-so z.1 (answer ∙ (ap (λ (s : StepAnswer × GateState). step_of s.0) own ∙ stepped-said z)) in (
      record {
        gate = state;
        decks = ap decks_of decks ∙ g.decks;
        applied = applied ∙ (ap (λ (f : Text → ℕ). applied_got f (tag_of p.tag) MachineStep.Taken) g.applied ∙ (ap (λ (t : Tag). applied_got l.applied t MachineStep.Taken) a.tag ∙ ap (λ (s : MachineStep). applied_got l.applied q.tag s) (sym taken)));
      },
      ap (λ (s : MachineStep). outcome_told (Stepped s)) (sym taken),
    )
