-- Envelopes are pinned by what is written of them, as events and as code units.
use Rattle.std.proofs.Common.{◌≡◌, ℕ, List, sym, ◌∙◌}
use Rattle.mos_tables.specs.Events.{Event}
use Rattle.mos_lexer.specs.Laws.{EncodingsAreApart, EncodingsAreRead}
use Rattle.mos_lexer.specs.Units.{completed}
use Rattle.mos_values.specs.MessageViews.{envelope_events}
use Rattle.value_laws.specs.Laws.{EventsPinEnvelopes, EncodingsPinEnvelopes, WrittenIsReadBack}

pub encodings_pin : EncodingsAreApart → EventsPinEnvelopes → EncodingsPinEnvelopes
encodings_pin apart pin a b us more i j f g h k =
    let p = apart (envelope_events a) (envelope_events b) us more h k in
    (p.0, pin a b i j f g p.1)

both_read : (m n : ℕ) (v w : List Event) (r s : List ℕ) → completed m v r ≡ completed n w s → (v ≡ w) × (r ≡ s)
both_read m n v w r s e = (cc, cc)

pub read_back : EncodingsAreRead → EventsPinEnvelopes → WrittenIsReadBack
read_back read pin written made us behind began v rest i j f g h e k =
    let p = read (envelope_events written) us behind h in
    let q = both_read began p.0 v (envelope_events written) rest behind (sym e ∙ p.1) in
    (pin made written j i g f (k ∙ q.0), q.1)
