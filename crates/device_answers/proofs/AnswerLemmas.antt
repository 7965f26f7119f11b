-- The answers to messages, one more.
use Rattle.std.proofs.Common.{◌≡◌, ℕ, List, [], ◌∷◌, ◌++◌, Result, Ok, Err, IfOk, refl, sym, ap, ◌∙◌}
use Rattle.std.specs.List.{flat_map}
use Rattle.std.proofs.lemmas.Grind.{flat_map-append}
use Rattle.std.proofs.lemmas.List.{append-nil}
use Rattle.mos_lexer.specs.Units.{Found}
use Rattle.mos_values.specs.MessageViews.{envelope_events}
use Rattle.mos_values.specs.declared.message.Envelope.{Envelope}
use Rattle.mos_machines.specs.Device.{GateState, Decks, gate_read}
use Rattle.mos_machines.specs.Messages.{Message}
use Rattle.mos_machines.specs.Messages.Message.{Heartbeat, RoEdit, RoAck, RoReq, RoReqAll, RoList, RoListAll, RoElementStat, OtherMessage}
use Rattle.mos_message_reading.specs.Values.{IsNamed}
use Rattle.value_laws.specs.Ranges.{IsInRange}
use Rattle.device_answers.specs.Taking.{opening, device_after, answer_to, device_behind, answers, encoding, take_output, AreMessages, IsAnswered}

answers_more : (g : GateState) (es : List Envelope) (e : Envelope) → answers g (es ++ e ∷ []) ≡ answers g es ++ answer_to (device_behind g es) e ∷ []
answers_more g [] e = refl
answers_more g (x ∷ es) e = ap (λ (z : List Envelope). answer_to g x ∷ z) (answers_more (device_after g x) es e)

behind_more : (g : GateState) (es : List Envelope) (e : Envelope) → device_behind g (es ++ e ∷ []) ≡ device_after (device_behind g es) e
behind_more g [] e = refl
behind_more g (x ∷ es) e = behind_more (device_after g x) es e

messages_more : (fs : List Found) (es : List Envelope) (f : Found) (e : Envelope) → AreMessages fs es → envelope_events e ≡ f.value → IsNamed e.message → IsInRange e.message → AreMessages (fs ++ f ∷ []) (es ++ e ∷ [])
messages_more [] [] f e h v n r = (v, n, r, tt)
messages_more [] (x ∷ es) f e h v n r = absurd h
messages_more (y ∷ fs) [] f e h v n r = absurd h
messages_more (y ∷ fs) (x ∷ es) f e h v n r = (h.0, h.1, h.2, messages_more fs es f e h.3 v n r)

output_more : (es : List Envelope) (e : Envelope) → take_output (es ++ e ∷ []) ≡ take_output es ++ encoding (answer_to (device_behind opening es) e)
output_more es e =
    ap (λ (z : List Envelope). flat_map encoding z) (answers_more opening es e)
    ∙ (flat_map-append encoding (answers opening es) (answer_to (device_behind opening es) e ∷ [])
    ∙ ap (λ (z : List ℕ). take_output es ++ z) (append-nil (encoding (answer_to (device_behind opening es) e))))

pub nothing_answered : IsAnswered opening [] []
nothing_answered = record { envelopes = []; messages = tt; written = refl; behind = refl }

-- one more message is answered
pub answered_more : (g h : GateState) (fs : List Found) (text more : List ℕ) (f : Found) (e : Envelope) → IsAnswered g fs text → envelope_events e ≡ f.value → IsNamed e.message → IsInRange e.message → more ≡ encoding (answer_to g e) → h ≡ device_after g e
    → IsAnswered h (fs ++ f ∷ []) (text ++ more)
answered_more g h fs text more f e i v n r w b = record {
  envelopes = i.envelopes ++ e ∷ [];
  messages = messages_more fs i.envelopes f e i.messages v n r;
  written =
      ap (λ (z : List ℕ). z ++ more) i.written
      ∙ (ap (λ (z : List ℕ). take_output i.envelopes ++ z) (w ∙ ap (λ (z : GateState). encoding (answer_to z e)) i.behind) ∙ sym (output_more i.envelopes e));
  behind = b ∙ (ap (λ (z : GateState). device_after z e) i.behind ∙ sym (behind_more opening i.envelopes e));
}

-- a message that is read leaves the connection
pub read_upper_stays : (g : GateState) (decks : Decks) (m : Message) → (gate_read g decks m).0.upper ≡ g.upper
read_upper_stays g decks (Heartbeat time) = refl
read_upper_stays g decks (RoEdit e) = refl
read_upper_stays g decks (RoAck q t) = refl
read_upper_stays g decks (RoReq r) = refl
read_upper_stays g decks RoReqAll = refl
read_upper_stays g decks (RoList r o) = refl
read_upper_stays g decks (RoListAll hs) = refl
read_upper_stays g decks (RoElementStat r) = refl
read_upper_stays g decks (OtherMessage r) = refl

-- what holds of a value holds of one that is answered
pub where_ok : {X E : Type 0} {P Q : X → Type 0} (r : Result X E) → ((x : X) → P x → Q x) → IfOk r P → IfOk r Q
where_ok (Ok x) f h = f x h
where_ok (Err e) f h = tt
