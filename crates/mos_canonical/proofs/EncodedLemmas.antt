-- Encodings of messages, one more.
use Rattle.std.proofs.Common.{◌≡◌, ℕ, List, [], ◌∷◌, ◌++◌, Result, Ok, Err, IfOk, sym, ap, ◌∙◌}
use Rattle.std.specs.List.{flat_map}
use Rattle.std.proofs.lemmas.Grind.{flat_map-append}
use Rattle.std.proofs.lemmas.List.{append-nil}
use Rattle.mos_fields.specs.Characters.{bytes_of, units_of}
use Rattle.mos_tables.specs.Canonical.{canonical}
use Rattle.mos_tables.specs.Events.{Event}
use Rattle.mos_lexer.specs.Units.{Found}
use Rattle.mos_values.specs.MessageViews.{envelope_events}
use Rattle.mos_values.specs.declared.message.Envelope.{Envelope}
use Rattle.mos_canonical.specs.Encoded.{encoding_of, AreEncoded}

pub encoded_more : (before : List Found) (text more : List ℕ) (f : Found) (e : Envelope) → AreEncoded before text → envelope_events e ≡ f.value → more ≡ bytes_of (units_of (canonical (envelope_events e))) → AreEncoded (before ++ f ∷ []) (text ++ more)
encoded_more before text more f e h v m =
    let s : flat_map encoding_of (before ++ f ∷ []) ≡ flat_map encoding_of before ++ encoding_of f = flat_map-append encoding_of before (f ∷ []) ∙ ap (λ z. flat_map encoding_of before ++ z) (append-nil (encoding_of f)) in
    ap (λ z. z ++ more) h ∙ (ap (λ z. flat_map encoding_of before ++ z) (m ∙ ap (λ (z : List Event). bytes_of (units_of (canonical z))) v) ∙ sym s)

-- what holds of a value holds of one that is answered
pub where_ok : {X E : Type 0} {P Q : X → Type 0} (r : Result X E) → ((x : X) → P x → Q x) → IfOk r P → IfOk r Q
where_ok (Ok x) f h = f x h
where_ok (Err e) f h = tt
