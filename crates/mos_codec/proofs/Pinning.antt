-- The canonical encoding of an envelope encodes it.
use Rattle.std.proofs.Common.{◌≡◌, ℕ, List, sym, subst}
use Rattle.mos_fields.specs.Characters.{units_in}
use Rattle.mos_lexer.specs.Encodings.{Encodes}
use Rattle.mos_values.specs.MessageViews.{envelope_events}
use Rattle.mos_values.specs.Sound.{IsSound}
use Rattle.mos_values.specs.declared.message.Envelope.{Envelope}
use Rattle.value_laws.specs.Ranges.{IsInRange}
use Rattle.mos_codec.specs.Codec.{encoding_units, encoding, IsEncodedBy}
use Rattle.mos_codec.proofs.ByteLemmas.{units_back}
use Rattle.mos_codec.proofs.Sound.{sound_named}

pub encoded_by : (bytes : List ℕ) (e : Envelope) → bytes ≡ encoding e → IsSound e.message → IsInRange e.message → Encodes (envelope_events e) (encoding_units e) → IsEncodedBy bytes e
encoded_by bytes e canonical sound small encodes = record {
  named = sound_named e.message sound;
  in_range = small;
  encodes = subst (λ (z : List ℕ). Encodes (envelope_events e) (units_in z)) (sym canonical) (subst (Encodes (envelope_events e)) (sym (units_back (encoding_units e))) encodes);
}
