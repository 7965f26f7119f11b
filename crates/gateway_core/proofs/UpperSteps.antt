-- A message that is read, as a step of the device.
use Rattle.std.proofs.Common.{◌≡◌, ℕ, Bool, true, false, List, [], ◌∷◌, Option, Some, None, IsSome, Result, Ok, Err, OnOk, OnErr, refl, sym, ap, ◌∙◌, subst, if◌then◌else◌}
use Rattle.mos_edits.specs.Texts.{Text, set_order}
use Rattle.mos_edits.specs.KeyedLists.{Applied}
use Rattle.mos_edits.specs.KeyedLists.Applied.{Done, Fault}
use Rattle.mos_edits.specs.Orders.{Order, apply}
use Rattle.mos_edits.specs.declared.edit.Edit.{Edit}
use Rattle.mos_edits.specs.Entries.{Entry, Kind, kind, insert_id}
use Rattle.mos_edits.specs.Entries.Kind.{IsWhole, IsAction, IsReady, IsNotReady}
use Rattle.mos_machines.specs.Messages.{Message, is_link}
use Rattle.mos_machines.specs.Messages.Message.{Heartbeat, RoEdit, RoAck, RoReq, RoReqAll, RoList, RoListAll, RoElementStat, OtherMessage}
use Rattle.mos_machines.specs.Device.{GateOut, GateState, Phase, Decks, ReadResult, read_by, gate_with, gate_read}
use Rattle.mos_machines.specs.Device.Phase.{InStep, OutOfStep, Asked, Crossed}
use Rattle.mos_machines.specs.Steps.{device_step, unless_stale, gate_says}
use Rattle.mos_machines.specs.Steps.DeviceEvent.{ReadUpper}
use Rattle.mos_machines.specs.Tables.{look, put_row, KnownOrder, unknown_order, GateTables, gate_of}
use Rattle.mos_machines.specs.Values.{seen, message_of}
use Rattle.mos_machines.proofs.RowTables.{gate-put}
use Rattle.mos_values.specs.declared.message.Message as values
use Rattle.mos_values.specs.declared.message.Message.TheVariants as carried
use Rattle.machine_answers.specs.Answers.{heard_of}
use Rattle.machine_answers.specs.declared.answers.Heard.TheVariants as heard
use Rattle.gateway_core.specs.Parts.{IsAskedKnown}
use Rattle.gateway_core.specs.Reads.{kept, put_result, known_result, rows_result, read_rows, read_ack, IsHeartbeat}
use Rattle.gateway_core.proofs.TableSteps.{set-same, asked-put}

-- an edit after which the order isn't known leaves what is known of it
kept-by : (p : Phase) (kd : Kind) (a : Applied (Option Order)) (decks : Decks) (held : Option Order) (wanted : Bool) (c : Edit) → (read_by p kd decks held wanted c a).knows ≡ false
    → kept (read_by p kd decks held wanted c a) ≡ record { held = held; phase = p; wanted = wanted }
kept-by Asked kd a decks held wanted c e = absurd (cc)
kept-by Crossed kd a decks held wanted c e = absurd (cc)
kept-by InStep IsWhole a decks held wanted c e = absurd (cc)
kept-by InStep IsNotReady a decks held wanted c e = refl
kept-by InStep IsAction (Done o) decks held wanted c e = absurd (cc)
kept-by InStep IsAction (Fault f) decks held wanted c e = absurd (cc)
kept-by InStep IsReady (Done o) decks held wanted c e = absurd (cc)
kept-by InStep IsReady (Fault f) decks held wanted c e = absurd (cc)
kept-by OutOfStep IsWhole a decks held wanted c e = absurd (cc)
kept-by OutOfStep IsNotReady a decks held wanted c e = refl
kept-by OutOfStep IsAction a decks held wanted c e = absurd (cc)
kept-by OutOfStep IsReady a decks held wanted c e = absurd (cc)

kept-same : (k : KnownOrder) (decks : Decks) (e : Entry) → (known_result k decks e).knows ≡ false → kept (known_result k decks e) ≡ k
kept-same k decks e h = kept-by k.phase (kind e.edit) (apply e.ro k.held e.edit) decks k.held k.wanted e.edit h

-- what an edit leaves of the rows is what it leaves of the state
with-kept : (g : GateTables) (r : Text) (x : ReadResult) → x.knows ≡ false → kept x ≡ look unknown_order g.orders r → gate_of g ≡ gate_with (gate_of g) r x
with-kept g r x e h = λ i. record {
  upper = g.upper;
  link = g.link;
  out = g.out;
  want_all = g.want_all;
  confirm = g.confirm;
  note = g.note;
  known = ap (λ (b : Bool). if b then insert_id r (gate_of g).known else (gate_of g).known) (sym e) i;
  held = (sym (set-same (gate_of g).held r) ∙ ap (λ (k : KnownOrder). set_order (gate_of g).held r k.held) (sym h)) i;
  phase = (sym (set-same (gate_of g).phase r) ∙ ap (λ (k : KnownOrder). set_order (gate_of g).phase r k.phase) (sym h)) i;
  wanted = (sym (set-same (gate_of g).wanted r) ∙ ap (λ (k : KnownOrder). set_order (gate_of g).wanted r k.wanted) (sym h)) i;
}

with-put : (g : GateTables) (r : Text) (x : ReadResult) → x.knows ≡ true → gate_of (record g { orders = put_row r (kept x) g.orders }) ≡ gate_with (gate_of g) r x
with-put g r x e = gate-put g r (kept x) ∙ (λ i. record {
  upper = g.upper;
  link = g.link;
  out = g.out;
  want_all = g.want_all;
  confirm = g.confirm;
  note = g.note;
  known = ap (λ (b : Bool). if b then insert_id r (gate_of g).known else (gate_of g).known) (sym e) i;
  held = set_order (gate_of g).held r x.held;
  phase = set_order (gate_of g).phase r x.phase;
  wanted = set_order (gate_of g).wanted r x.wanted;
})

result-tables : (g : GateTables) (r : Text) (x : ReadResult) → (x.knows ≡ false → kept x ≡ look unknown_order g.orders r) → gate_of (record g { orders = put_result r x g.orders }) ≡ gate_with (gate_of g) r x
result-tables g r x h = by x.knows refl
  where
    by : (b : Bool) → x.knows ≡ b → gate_of (record g { orders = if b then put_row r (kept x) g.orders else g.orders }) ≡ gate_with (gate_of g) r x
    by true e = with-put g r x e
    by false e = with-kept g r x e (h e)

pub read-tables : (g : GateTables) (decks : Decks) (m : Message) → gate_of (record g { orders = read_rows g.orders decks m }) ≡ (gate_read (gate_of g) decks m).0
read-tables g decks (Heartbeat time) = refl
read-tables g decks (RoEdit e) = result-tables g e.ro (rows_result g.orders decks e) (kept-same (look unknown_order g.orders e.ro) decks e)
read-tables g decks (RoAck r s) = refl
read-tables g decks (RoReq r) = refl
read-tables g decks RoReqAll = refl
read-tables g decks (RoList r o) = refl
read-tables g decks (RoListAll hs) = refl
read-tables g decks (RoElementStat r) = refl
read-tables g decks (OtherMessage r) = refl

-- the answer to a message that isn't a heartbeat
pub read-says : (g : GateTables) (decks : Decks) (m : values.Message) → ((time : _) → m ≡ carried.Heartbeat time → ⊥) → message_of (gate_read (gate_of g) decks (seen m)).1 ≡ carried.RoAck (read_ack g.orders decks (seen m))
read-says g decks (carried.Heartbeat time) n = absurd (n time refl)
read-says g decks m n = refl

pub asked-read : (out : GateOut) (rows : List (Text × KnownOrder)) (decks : Decks) (m : Message) → IsAskedKnown out rows → IsAskedKnown out (read_rows rows decks m)
asked-read out rows decks (RoEdit e) h = by (rows_result rows decks e).knows
  where
    by : (b : Bool) → IsAskedKnown out (if b then put_row e.ro (kept (rows_result rows decks e)) rows else rows)
    by true = asked-put e.ro (kept (rows_result rows decks e)) out rows h
    by false = h
asked-read out rows decks m h = h

pub asked-after-read : {X Y : Type 0} (o : Result X Y) (out : GateOut) (old new : List (Text × KnownOrder)) (decks : Decks) (m : Message) → OnOk o (new ≡ read_rows old decks m) → OnErr o (new ≡ old) → IsAskedKnown out old → IsAskedKnown out new
asked-after-read (Ok x) out old new decks m e f h = subst (λ (rows : List (Text × KnownOrder)). IsAskedKnown out rows) (sym e) (asked-read out old decks m h)
asked-after-read (Err y) out old new decks m e f h = subst (λ (rows : List (Text × KnownOrder)). IsAskedKnown out rows) (sym f) h

-- on the current connection a message is read
module _ (g : GateState) (c : ℕ) (m : Message) (decks : Decks) where
  current-by : (b : Bool) → b ≡ true → (heard_of (unless_stale b g (gate_says (gate_read g decks m))).0 ≡ heard.Say (message_of (gate_read g decks m).1)) × ((unless_stale b g (gate_says (gate_read g decks m))).1 ≡ (gate_read g decks m).0)
  current-by true e = (refl, refl)
  current-by false e = absurd (cc)

  pub read-current : is_link g.upper c ≡ true → (heard_of (device_step g (ReadUpper c m decks)).0 ≡ heard.Say (message_of (gate_read g decks m).1)) × ((device_step g (ReadUpper c m decks)).1 ≡ (gate_read g decks m).0)
  read-current e = current-by (is_link g.upper c) e

pub not-heartbeat : {A : Type 0} (m : values.Message) → ((time : _) → m ≡ carried.Heartbeat time → ⊥) → IsHeartbeat m → A
not-heartbeat (carried.Heartbeat time) n h = absurd (n time refl)
not-heartbeat m n h = absurd h
