-- What a stream that is read on is, and what of it is held.
use Rattle.std.proofs.Common.{◌≡◌, ℕ, ◌+◌, ◌≤◌, true, List, [], ◌∷◌, ◌++◌, length, length-append, refl, sym, ap, subst, ◌∙◌, arith}
use Rattle.mos_fields.specs.Characters.{units_in}
use Rattle.mos_lexer.specs.Encodings.{AreEncodings}
use Rattle.mos_lexer.specs.Units.{Reader, start_reader, UnitStep, reads_on, completes, rejects, unit_step, still_reads, then_units, unit_run, Found, StreamReader, start_stream, reads_stream, then_stream, stream_units, is_resting}
use Rattle.mos_rejections.specs.Laws.{values, StreamIsExact, StreamsAreExact, OpenIsRead}
use Rattle.input_laws.specs.Words.{are_bytes, are_blank, ReadsOn}
use Rattle.input_laws.specs.Laws.{IsHeld, IsPart, StreamsGoOn}
use Rattle.input_laws.proofs.Resting.{rests_blank}
use Rattle.input_laws.proofs.Streams.{byte_units, reads_open, same_stream}

-- messages that were read stay
grows : (us : List ℕ) (t s : StreamReader) → stream_units t us ≡ reads_stream s → length t.ready ≤ length s.ready
unfolding stream_units
grows [] t s e = let h : t ≡ s = cc in subst (λ (z : StreamReader). length t.ready ≤ length z.ready) h (omega arith)
grows (u ∷ us) t s e = go (unit_step t.reader u) e (λ q k. grows us q s k)
  where
    go : (x : UnitStep) → then_stream t x (λ q. stream_units q us) ≡ reads_stream s → ((q : StreamReader) → stream_units q us ≡ reads_stream s → length q.ready ≤ length s.ready) → length t.ready ≤ length s.ready
    go (reads_on r) k on = on (record { ready = t.ready; base = t.base; reader = r }) k
    go (completes began v) k on =
        let f : Found = record { began = t.base + began; value = v } in
        let h = on (record { ready = t.ready ++ f ∷ []; base = t.base + (t.reader.count + 1); reader = start_reader }) k in
        omega (arith, h, length-append t.ready (f ∷ []))
    go (rejects place j) k on = absurd cc

-- Where no message was read, one message is read on, from where the stream was.
record IsStill (t s : StreamReader) (us : List ℕ) : Type 0 where
  pub runs : unit_run t.reader us ≡ still_reads s.reader
  pub base : s.base ≡ t.base

still : (us : List ℕ) (t s : StreamReader) → stream_units t us ≡ reads_stream s → s.ready ≡ t.ready → IsStill t s us
unfolding unit_run stream_units
still [] t s e same = let h : t ≡ s = cc in record { runs = ap (λ (z : StreamReader). still_reads z.reader) h; base = sym (ap (λ (z : StreamReader). z.base) h) }
still (u ∷ us) t s e same = go (unit_step t.reader u) refl e (λ q k w. still us q s k w)
  where
    go : (x : UnitStep) → unit_step t.reader u ≡ x → then_stream t x (λ q. stream_units q us) ≡ reads_stream s
        → ((q : StreamReader) → stream_units q us ≡ reads_stream s → s.ready ≡ q.ready → IsStill q s us) → IsStill t s (u ∷ us)
    go (reads_on r) i k on =
        let o = on (record { ready = t.ready; base = t.base; reader = r }) k same in
        record { runs = ap (λ (z : UnitStep). then_units z us (λ q. unit_run q us)) i ∙ o.runs; base = o.base }
    go (completes began v) i k on =
        let f : Found = record { began = t.base + began; value = v } in
        let h = grows us (record { ready = t.ready ++ f ∷ []; base = t.base + (t.reader.count + 1); reader = start_reader }) s k in
        absurd (omega (arith, h, length-append t.ready (f ∷ []), ap length same))
    go (rejects place j) i k on = absurd cc

pub streams_going : StreamsAreExact → OpenIsRead → StreamsGoOn
streams_going streams_exact open_read bytes found base held s w e r h = go (subst (StreamIsExact (units_in bytes)) e (streams_exact (units_in bytes) (byte_units bytes w)))
  where
    front : StreamReader
    front = record { ready = found; base = base; reader = start_reader }

    stays : IsStill front s held
    stays = still held front s (sym h.same ∙ e) r

    go : StreamIsExact (units_in bytes) (reads_stream s) → (o : ReadsOn bytes (values found)) × IsPart o.part held
    go (x, part, is, enc, at, begins) =
        let a = reads_open open_read (values s.ready) (units_in bytes) x part is enc begins in
        let blank : is_resting s.reader ≡ are_blank part = ap is_resting (same_stream s _ (sym e ∙ a.reads)).0 ∙ rests_blank part a.reader a.runs in (
          record { messages = x; part = part; units = is; encode = subst (λ (z : List Found). AreEncodings (values z) x) r enc; begins = begins },
          record {
            long = omega (arith, at, stays.base, h.units, ap length is, length-append x part);
            blank = sym (rests_blank held s.reader stays.runs) ∙ blank;
          },
        )
