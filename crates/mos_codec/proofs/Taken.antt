-- What taking the whole messages of a stream comes to.
use Rattle.std.proofs.Common.{◌≡◌, ℕ, ◌+◌, ◌⊎◌, false, List, [], ◌∷◌, ◌++◌, map, Option, Some, None, Ok, Err, length, inl, inr, refl, sym, ap, subst, ◌∙◌}
use Rattle.std.specs.List.{AllByRecursion}
use Rattle.std.proofs.lemmas.List.{append_assoc}
use Rattle.mos_fields.specs.Characters.{units_in}
use Rattle.mos_lexer.specs.declared.kind.Kind.{Kind}
use Rattle.mos_lexer.specs.Laws.{EncodingsAreRead}
use Rattle.mos_lexer.specs.Units.{Found as FoundOf, UnitRun, still_reads, completed, rejected_at, start_reader, stream_units, unit_run}
use Rattle.mos_reader.specs.declared.found.Found.{Found}
use Rattle.mos_reader.specs.declared.found.ReadFault.{ReadFault}
use Rattle.mos_reader.specs.declared.found.ReadFault.TheVariants.{Rejected, NoMemory}
use Rattle.mos_reader.specs.Answers.{Answers, ComesTo, Stream, answer_of, fed_on, stream_behind}
use Rattle.mos_decoder.specs.Bytes.{ByteStream, HasHanded, Tells, behind_odd, fed_bytes, found_of, front}
use Rattle.mos_values.specs.MessageViews.{envelope_events}
use Rattle.mos_values.specs.declared.message.Envelope.{Envelope}
use Rattle.value_laws.specs.Laws.{EventsPinEnvelopes}
use Rattle.mos_codec.specs.declared.whole.Placed.{Placed}
use Rattle.mos_codec.specs.Codec.{EncodesEnvelope}
use Rattle.mos_codec.specs.Decoding.{IsFirst, IsRead, IsReady, placed_events, with_ready}
use Rattle.mos_codec.specs.Taking.{IsMore, TakesFirst, Took}
use Rattle.mos_codec.proofs.First.{first_answer}

-- ---- one more message

map-more : (before : List Placed) (p : Placed) → map placed_events (before ++ p ∷ []) ≡ map placed_events before ++ placed_events p ∷ []
map-more [] p = refl
map-more (x ∷ xs) p = ap (λ (z : List FoundOf). placed_events x ∷ z) (map-more xs p)

with-more : (found : List FoundOf) (before : List Placed) (p : Placed) → with_ready found before ++ placed_events p ∷ [] ≡ with_ready found (before ++ p ∷ [])
with-more found before p = append_assoc found (map placed_events before) (placed_events p ∷ []) ∙ ap (λ (z : List FoundOf). found ++ z) (sym (map-more before p))

pub handed-more : (s : ByteStream) (bytes : List ℕ) (found : List FoundOf) (f : FoundOf) (before after : List Placed) → IsMore f before after → HasHanded s bytes (with_ready found before ++ f ∷ []) → HasHanded s bytes (with_ready found after)
handed-more s bytes found f before after m h =
    let g : HasHanded s bytes (with_ready found before ++ placed_events m.placed ∷ []) = subst (λ (z : FoundOf). HasHanded s bytes (with_ready found before ++ z ∷ [])) (sym m.events) h in
    subst (HasHanded s bytes) (with-more found before m.placed ∙ ap (with_ready found) (sym m.more)) g

all-more : (xs : List Placed) (p : Placed) → AllByRecursion IsReady xs → IsReady p → AllByRecursion IsReady (xs ++ p ∷ [])
all-more [] p a r = (r, tt)
all-more (x ∷ xs) p a r = (a.0, all-more xs p a.1 r)

pub ready-more : (f : FoundOf) (before after : List Placed) → IsMore f before after → AllByRecursion IsReady before → AllByRecursion IsReady after
ready-more f before after m a = subst (AllByRecursion IsReady) (sym m.more) (all-more before m.placed a m.ready)

-- ---- the envelope that comes first

-- It is still to come, or it is there.
abbrev pub IsComing : Envelope → List ℕ → List ℕ → Stream → List Placed → Type 0
IsComing e us rest s ready = ((ready ≡ []) × (s.fault ≡ None) × (s.held ≡ us ++ rest)) ⊎ IsFirst e ready

behind-first : (e : Envelope) (f : FoundOf) (before after : List Placed) → IsMore f before after → IsFirst e before → IsFirst e after
behind-first e f before after m h = (h.0, h.1 ++ m.placed ∷ [], m.more ∙ ap (λ (z : List Placed). z ++ m.placed ∷ []) h.2, h.3)

pub coming-more : EncodingsAreRead → EventsPinEnvelopes → (e : Envelope) (us rest : List ℕ) (s t : Stream) (f : Found) (before after : List Placed) → EncodesEnvelope us e → IsMore (found_of f) before after → Answers false s.fault s (Ok (Some f)) t
    → IsComing e us rest s before → IsComing e us rest t after
coming-more read pin e us rest s t f before after h m a (inl c) =
    let first = first_answer read s t (Ok (Some f)) c.1 (envelope_events e) us rest c.2 h.encodes a in
    let same : m.placed.envelope ≡ e = pin m.placed.envelope e m.ready.named h.named m.ready.in_range h.in_range (ap (λ (z : FoundOf). z.value) m.events ∙ first.0) in
    inr (m.placed, [], m.more ∙ ap (λ (z : List Placed). z ++ m.placed ∷ []) c.0, same)
coming-more read pin e us rest s t f before after h m a (inr c) = inr (behind-first e (found_of f) before after m c)

pub first-whole : EncodingsAreRead → (e : Envelope) (us rest : List ℕ) (s t : Stream) (ready : List Placed) → EncodesEnvelope us e → Answers false s.fault s (Ok None) t → IsComing e us rest s ready → IsFirst e ready
first-whole read e us rest s t ready h a (inl c) = absurd (first_answer read s t (Ok None) c.1 (envelope_events e) us rest c.2 h.encodes a)
first-whole read e us rest s t ready h a (inr c) = c

pub first-stopped : EncodingsAreRead → (e : Envelope) (us rest : List ℕ) (s t : Stream) (ready : List Placed) (k : ReadFault) → EncodesEnvelope us e → Answers false s.fault s (Err k) t → IsComing e us rest s ready → TakesFirst e (Err k) ready
first-stopped read e us rest s t ready (Rejected place k) h a (inl c) = absurd (first_answer read s t (Err (Rejected place k)) c.1 (envelope_events e) us rest c.2 h.encodes a)
first-stopped read e us rest s t ready (Rejected place k) h a (inr c) = c
first-stopped read e us rest s t ready NoMemory h a c = tt

-- ---- the end

pub whole-read : (bytes : List ℕ) (found : List FoundOf) (t : ByteStream) → Tells bytes found (Ok None) t → IsRead bytes found t
whole-read bytes found t h = record { handed = h.0; base = h.1.0; reader = h.1.1; goes_on = h.1.2 }

-- a rejection leaves what is held where it is
held-behind : (run : UnitRun) (s t : Stream) (place : ℕ) (k : Kind) → answer_of s.base run ≡ Err (Rejected place k) → t ≡ stream_behind s run → (t.base ≡ s.base) × (t.held ≡ s.held)
held-behind (still_reads r) s t place k a e = absurd cc
held-behind (completed began v rest) s t place k a e = absurd cc
held-behind (rejected_at place' k') s t place k a e = (ap (λ (z : Stream). z.base) e, ap (λ (z : Stream). z.held) e)

pub stopped-read : (bytes : List ℕ) (found : List FoundOf) (s t : ByteStream) (ready : List Placed) (k : ReadFault) → HasHanded s bytes (with_ready found ready) → Answers false s.stream.fault s.stream (Err k) t.stream → t.odd ≡ s.odd → Tells bytes (with_ready found ready) (Err k) t
    → Took bytes found (Err k) t ready
stopped-read bytes found s t ready (Rejected place k) h a odd told =
    let c : ComesTo (unit_run start_reader s.stream.held) s.stream (Err (Rejected place k)) t.stream = subst (λ (z : Option ReadFault). Answers false z s.stream (Err (Rejected place k)) t.stream) h.reads a in
    let same = held-behind (unit_run start_reader s.stream.held) s.stream t.stream place k c.0 c.1 in (
      told,
      (λ j. same.0 j + length (same.1 j)) ∙ sym h.units,
      record {
        same = h.same ∙ sym (λ j. stream_units (front (with_ready found ready) (same.0 j)) (same.1 j));
        units = h.units ∙ sym (λ j. same.0 j + length (same.1 j));
        odd = odd ∙ h.odd;
      },
    )
stopped-read bytes found s t ready NoMemory h a odd told = tt

-- ---- feeding

-- where the stream is read, the units of what is fed stand behind those that are held
pub fed-reads : (s t : ByteStream) (bytes : List ℕ) → t ≡ fed_bytes s bytes → s.stream.fault ≡ None → (t.stream.fault ≡ None) × (t.stream.held ≡ s.stream.held ++ units_in (behind_odd s.odd bytes))
fed-reads s t bytes e clean =
    let us = units_in (behind_odd s.odd bytes) in
    let is : t.stream ≡ fed_on None s.stream us = ap (λ (z : ByteStream). z.stream) e ∙ ap (λ (k : Option ReadFault). fed_on k s.stream us) clean in
    (ap (λ (z : Stream). z.fault) is, ap (λ (z : Stream). z.held) is)
