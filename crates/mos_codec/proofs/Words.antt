-- What feeding says in words of the grammar.
use Rattle.std.proofs.Common.{◌≡◌, ℕ, ◌+◌, ◌*◌, ◌-◌, ◌^◌, ◌&&◌, min, true, List, [], ◌∷◌, Ok, Err, refl, ap, subst, ◌∙◌}
use Rattle.mos_lexer.specs.Units.{Found as FoundOf}
use Rattle.mos_lexer.specs.declared.kind.Kind.{Kind}
use Rattle.mos_rejections.specs.Laws.{values}
use Rattle.input_laws.specs.Laws.{RefusalsAreShown, StreamsGoOn}
use Rattle.input_laws.specs.Words.{are_bytes, ShowsRejection, are_blank as are_blank_units}
use Rattle.mos_codec.specs.Decoding.{DecoderState, HasTaken, IsRejected, are_blank, is_blank, is_even, odd_bytes, with_ready}
use Rattle.mos_codec.specs.Words.{FedInWords, IsLeft}
use Rattle.mos_codec.specs.declared.fault.DecodeFault.TheVariants.{Refused}

same_blank : (us : List ℕ) → are_blank us ≡ are_blank_units us
unfolding are_blank
same_blank [] = refl
same_blank (u ∷ us) = ap (λ (b : _). is_blank u && b) (same_blank us)

pub words-ok : StreamsGoOn → (bytes : List ℕ) (found : List FoundOf) (t : DecoderState) → are_bytes bytes ≡ true → HasTaken t bytes found → FedInWords bytes found (Ok tt) t
words-ok go_on bytes found t w h =
    let all = with_ready found t.ready in
    let is = h.read.handed in
    let held = t.bytes.stream.held in
    let r = go_on bytes all t.bytes.stream.base held (record { ready = all; base = h.read.base; reader = h.read.reader }) w h.read.goes_on refl (record { same = is.same; units = is.units }) in
    let blank = same_blank held ∙ r.1.blank in (
      r.0,
      record {
        behind = λ j. min (r.1.long j * 2 + odd_bytes (is.odd j)) (2 ^ 64 - 1);
        empty = λ j. is_even (is.odd j) && blank j;
      },
    )

pub words-refused : RefusalsAreShown → (bytes : List ℕ) (found : List FoundOf) (t : DecoderState) (place : ℕ) (k : Kind) → are_bytes bytes ≡ true → IsRejected bytes (with_ready found t.ready) place k → IsLeft bytes (with_ready found t.ready) t.bytes
    → FedInWords bytes found (Err (Refused place k)) t
words-refused shown bytes found t place k w h left = (subst (λ (fs : List FoundOf). ShowsRejection bytes (values fs) place k) h.1 (shown bytes h.0 place k w h.2), left)
