-- What a decoder hands out that was fed one encoding.
use Rattle.std.proofs.Common.{◌≡◌, ℕ, List, [], ◌∷◌, ◌++◌, Option, Some, None, Result, refl, sym, ap, subst, ◌∙◌}
use Rattle.std.proofs.lemmas.List.{append-nil}
use Rattle.mos_decoder.specs.Bytes.{behind_odd}
use Rattle.mos_fields.specs.Characters.{units_in}
use Rattle.mos_values.specs.declared.message.Envelope.{Envelope}
use Rattle.mos_codec.specs.Codec.{EncodesEnvelope, IsEncodedBy}
use Rattle.mos_codec.specs.Decoding.{ComesFirst, DecoderState, HandsOut, IsFirst, start_decoder}
use Rattle.mos_codec.specs.declared.fault.DecodeFault.{DecodeFault}
use Rattle.mos_codec.specs.declared.whole.Placed.{Placed}

-- what feeding says of the envelope that comes first
abbrev pub FeedsFirst : DecoderState → List ℕ → Result (Unit {0}) DecodeFault → List Placed → Type 0
FeedsFirst d bytes r ready =
    (e : Envelope) (us rest : List ℕ) → d.fault ≡ None → d.bytes.stream.fault ≡ None → EncodesEnvelope us e → d.bytes.stream.held ++ units_in (behind_odd d.bytes.odd bytes) ≡ us ++ rest → ComesFirst e r ready

pub first-fed : (d : DecoderState) (bytes : List ℕ) (r : Result (Unit {0}) DecodeFault) (ready : List Placed) → d ≡ start_decoder → FeedsFirst d bytes r ready → (e : Envelope) → IsEncodedBy bytes e → ComesFirst e r ready
first-fed d bytes r ready start law e h =
    let l : FeedsFirst start_decoder bytes r ready = subst (λ (z : DecoderState). FeedsFirst z bytes r ready) start law in
    l e (units_in bytes) [] refl refl h (sym (append-nil (units_in bytes)))

pub handed-first : (ready : List Placed) (r : Option Envelope) (d t : DecoderState) (e : Envelope) → IsFirst e ready → HandsOut ready r d t → r ≡ Some e
handed-first ready r d t e h k = let q : HandsOut (h.0 ∷ h.1) r d t = subst (λ (z : List Placed). HandsOut z r d t) h.2 k in q.0 ∙ ap Some h.3
