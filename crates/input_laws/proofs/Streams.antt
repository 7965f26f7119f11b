-- What the machine comes to, in words, and back.
use Rattle.std.proofs.Common.{◌≡◌, ℕ, ◌+◌, ◌*◌, ◌<◌, Bool, true, false, cond, List, [], ◌∷◌, ◌++◌, length, refl, sym, ap, subst, ◌∙◌, append_assoc, arith, inl, inr}
use Rattle.std.specs.Prelude.{nat_lt, ◌&&◌, not}
use Rattle.std.proofs.lemmas.Bool.{and_parts}
use Rattle.std.proofs.lemmas.Bool.Decides.{nat_tests}
use Rattle.std.proofs.lemmas.List.{append-nil}
use Rattle.mos_fields.specs.Characters.{units_in}
use Rattle.mos_tables.specs.Events.{Event}
use Rattle.mos_lexer.specs.declared.kind.Kind.TheVariants as kinds
use Rattle.mos_lexer.specs.Encodings.{AreEncodings}
use Rattle.mos_lexer.specs.Laws.{are_units}
use Rattle.mos_lexer.specs.Units.{Reader, start_reader, UnitStep, reads_on, completes, rejects, unit_step, still_reads, completed, then_units, unit_run, Found, StreamReader, start_stream, StreamRun, reads_stream, rejects_stream, then_stream, stream_units, is_resting}
use Rattle.mos_lexer.proofs.UnitLaws.{encodings_read}
use Rattle.mos_rejections.specs.Rejections.{IsOpen}
use Rattle.mos_rejections.specs.Laws.{values, StreamIsExact, StreamsAreExact, OpenIsRead, StreamRejectionsAreRead}
use Rattle.mos_decoder.specs.Inputs.{whole, refused, is_odd, ended}
use Rattle.input_laws.specs.Words.{are_bytes, are_blank, ShowsRejection}
use Rattle.input_laws.specs.Laws.{InputIsExact, InputsAreExact, StreamsAreTaken, RejectionsAreTold, EndsAreTold, RejectionsStay, RefusalsAreShown}
use Rattle.input_laws.proofs.Resting.{rests_blank}

-- ---- bytes

byte_parts : (b : ℕ) (bs : List ℕ) → are_bytes (b ∷ bs) ≡ true → (b < 256) × (are_bytes bs ≡ true)
byte_parts b bs e = let h = and_parts (nat_lt b 256) (are_bytes bs) e in (grind (arith, nat_tests, h), h.1)

unit_fits : (a b : ℕ) → a < 256 → b < 256 → nat_lt (a * 256 + b) 65536 ≡ true
unit_fits a b h k = grind (arith, nat_tests)

pub byte_units : (bytes : List ℕ) → are_bytes bytes ≡ true → are_units (units_in bytes) ≡ true
unfolding units_in
byte_units [] e = refl
byte_units (a ∷ []) e = refl
byte_units (a ∷ b ∷ bs) e =
    let h = byte_parts a (b ∷ bs) e in
    let k = byte_parts b bs h.1 in
    rw (unit_fits a b h.0 k.0, byte_units bs k.1) refl

-- bytes behind others leave the code units of these
units_front : (a b : List ℕ) → (r : List ℕ) × (units_in (a ++ b) ≡ units_in a ++ r)
unfolding units_in
units_front [] b = (units_in b, refl)
units_front (x ∷ []) b = (units_in (x ∷ b), refl)
units_front (x ∷ y ∷ a) b = let h = units_front a b in (h.0, ap (λ (z : List ℕ). (x * 256 + y) ∷ z) h.1)

-- ---- one message of a stream

-- what of a stream is read still
reads_part : (us : List ℕ) (fs : List Found) (base : ℕ) (s t : Reader) → unit_run s us ≡ still_reads t
    → stream_units (record { ready = fs; base = base; reader = s }) us ≡ reads_stream (record { ready = fs; base = base; reader = t })
unfolding unit_run stream_units
reads_part [] fs base s t e = ap (λ (z : Reader). reads_stream (record { ready = fs; base = base; reader = z })) (same s t e)
  where
    same : (s t : Reader) → still_reads s ≡ still_reads t → s ≡ t
    same s t e = cc
reads_part (u ∷ us) fs base s t e = go (unit_step s u) e (λ r k. reads_part us fs base r t k)
  where
    go : (x : UnitStep) → then_units x us (λ r. unit_run r us) ≡ still_reads t
        → ((r : Reader) → unit_run r us ≡ still_reads t → stream_units (record { ready = fs; base = base; reader = r }) us ≡ reads_stream (record { ready = fs; base = base; reader = t }))
        → then_stream (record { ready = fs; base = base; reader = s }) x (λ r. stream_units r us) ≡ reads_stream (record { ready = fs; base = base; reader = t })
    go (reads_on r) k on = on r k
    go (completes began v) k on = absurd cc
    go (rejects place j) k on = absurd cc

-- a message was read, and these follow
record ReadsOne (fs : List Found) (base : ℕ) (s : Reader) (us : List ℕ) (v : List Event) (rest : List ℕ) : Type 0 where
  pub began : ℕ
  pub behind : ℕ
  pub reads : stream_units (record { ready = fs; base = base; reader = s }) us ≡ stream_units (record { ready = fs ++ record { began = began; value = v } ∷ []; base = behind; reader = start_reader }) rest

reads_one : (us : List ℕ) (fs : List Found) (base : ℕ) (s : Reader) (began : ℕ) (v : List Event) (rest : List ℕ) → unit_run s us ≡ completed began v rest → ReadsOne fs base s us v rest
unfolding unit_run stream_units
reads_one [] fs base s began v rest e = absurd cc
reads_one (u ∷ us) fs base s began v rest e = go (unit_step s u) refl e (λ r k. reads_one us fs base r began v rest k)
  where
    same : (i : ℕ) (w : List Event) (x : List ℕ) → completed i w x ≡ completed began v rest → (w ≡ v) × (x ≡ rest)
    same i w x e = (cc, cc)

    go : (x : UnitStep) → unit_step s u ≡ x → then_units x us (λ r. unit_run r us) ≡ completed began v rest → ((r : Reader) → unit_run r us ≡ completed began v rest → ReadsOne fs base r us v rest)
        → ReadsOne fs base s (u ∷ us) v rest
    go (reads_on r) h k on =
        let o = on r k in
        record { began = o.began; behind = o.behind; reads = ap (λ (z : UnitStep). then_stream (record { ready = fs; base = base; reader = s }) z (λ q. stream_units q us)) h ∙ o.reads }
    go (completes i w) h k on =
        let q = same i w us k in
        record {
          began = base + i;
          behind = base + (s.count + 1);
          reads = ap (λ (z : UnitStep). then_stream (record { ready = fs; base = base; reader = s }) z (λ q. stream_units q us)) h
              ∙ ap (λ (z : List Event). stream_units (record { ready = fs ++ record { began = base + i; value = z } ∷ []; base = base + (s.count + 1); reader = start_reader }) us) q.0
              ∙ ap (stream_units (record { ready = fs ++ record { began = base + i; value = v } ∷ []; base = base + (s.count + 1); reader = start_reader })) q.1;
        }
    go (rejects place j) h k on = absurd cc

-- ---- messages of a stream

record ReadsAll (fs : List Found) (base : ℕ) (vs : List (List Event)) (x rest : List ℕ) : Type 0 where
  pub found : List Found
  pub behind : ℕ
  pub values_are : values found ≡ vs
  pub reads : stream_units (record { ready = fs; base = base; reader = start_reader }) (x ++ rest) ≡ stream_units (record { ready = fs ++ found; base = behind; reader = start_reader }) rest

reads_all : (vs : List (List Event)) (x rest : List ℕ) (fs : List Found) (base : ℕ) → AreEncodings vs x → ReadsAll fs base vs x rest
reads_all [] x rest fs base e = record {
  found = [];
  behind = base;
  values_are = refl;
  reads = ap (λ (z : List ℕ). stream_units (record { ready = fs; base = base; reader = start_reader }) (z ++ rest)) e
      ∙ ap (λ (z : List Found). stream_units (record { ready = z; base = base; reader = start_reader }) rest) (sym (append-nil fs));
}
reads_all (v ∷ vs) x rest fs base (y, r, enc, is, more) =
    let m = encodings_read v y (r ++ rest) enc in
    let o = reads_one (y ++ (r ++ rest)) fs base start_reader m.0 v (r ++ rest) m.1 in
    let n = reads_all vs r rest (fs ++ record { began = o.began; value = v } ∷ []) o.behind more in
    record {
      found = record { began = o.began; value = v } ∷ n.found;
      behind = n.behind;
      values_are = ap (λ (z : List (List Event)). v ∷ z) n.values_are;
      reads = ap (λ (z : List ℕ). stream_units (record { ready = fs; base = base; reader = start_reader }) (z ++ rest)) is
          ∙ ap (stream_units (record { ready = fs; base = base; reader = start_reader })) (append_assoc y r rest)
          ∙ o.reads ∙ n.reads
          ∙ ap (λ (z : List Found). stream_units (record { ready = z; base = n.behind; reader = start_reader }) rest) (append_assoc fs (record { began = o.began; value = v } ∷ []) n.found);
    }

-- messages, and the beginning of one more
pub record ReadsOpen (vs : List (List Event)) (us part : List ℕ) : Type 0 where
  pub found : List Found
  pub base : ℕ
  pub reader : Reader
  pub values_are : values found ≡ vs
  pub runs : unit_run start_reader part ≡ still_reads reader
  pub reads : stream_units start_stream us ≡ reads_stream (record { ready = found; base = base; reader = reader })

pub reads_open : OpenIsRead → (vs : List (List Event)) (us x part : List ℕ) → us ≡ x ++ part → AreEncodings vs x → IsOpen part → ReadsOpen vs us part
reads_open open_read vs us x part is enc o =
    let a = reads_all vs x part [] 0 enc in
    let p = open_read part o in
    record {
      found = a.found;
      base = a.behind;
      reader = p.0;
      values_are = a.values_are;
      runs = p.1;
      reads = ap (stream_units start_stream) is ∙ a.reads ∙ reads_part part a.found a.behind start_reader p.0 p.1;
    }

-- ---- inputs

pub same_stream : (s t : StreamReader) → reads_stream s ≡ reads_stream t → (s.reader ≡ t.reader) × (s.ready ≡ t.ready)
same_stream s t e = let h : s ≡ t = cc in (ap (λ (z : StreamReader). z.reader) h, ap (λ (z : StreamReader). z.ready) h)

pub inputs_exact : StreamsAreExact → OpenIsRead → InputsAreExact
inputs_exact streams_exact open_read bytes w = go (stream_units start_stream (units_in bytes)) refl (streams_exact (units_in bytes) (byte_units bytes w))
  where
    go : (o : StreamRun) → stream_units start_stream (units_in bytes) ≡ o → StreamIsExact (units_in bytes) o → InputIsExact bytes (ended (length (units_in bytes)) (is_odd bytes) o)
    go (reads_stream s) i (x, r, is, enc, base, begins) = at (is_resting s.reader && not (is_odd bytes)) (ap (λ (b : Bool). b && not (is_odd bytes)) blank)
      where
        blank : is_resting s.reader ≡ are_blank r
        blank = let a = reads_open open_read (values s.ready) (units_in bytes) x r is enc begins in ap is_resting (same_stream s _ (sym i ∙ a.reads)).0 ∙ rests_blank r a.reader a.runs

        even_of : (b : Bool) → not b ≡ true → b ≡ false
        even_of true e = absurd cc
        even_of false e = refl

        at : (b : Bool) → b ≡ (are_blank r && not (is_odd bytes)) → InputIsExact bytes (cond b (whole s.ready) (refused s.ready (length (units_in bytes)) kinds.End))
        at true e = let p = and_parts (are_blank r) (not (is_odd bytes)) (sym e) in record { messages = x; rest = r; units = is; encode = enc; begins = begins; blank = p.0; even = even_of (is_odd bytes) p.1 }
        at false e = inr (record { messages = x; part = r; units = is; encode = enc; begins = begins; inside = sym e; place_is = refl }, refl)
    go (rejects_stream s place k) i (x, r, rest, near, is, enc, at, shows) = inl (record { messages = x; shown = r; rest = rest; near = near; units = is; encode = enc; shows = shows; place_is = at })

pub streams_taken : OpenIsRead → StreamsAreTaken
streams_taken open_read bytes vs h =
    let a = reads_open open_read vs (units_in bytes) h.messages h.rest h.units h.encode h.begins in
    let b : is_resting a.reader ≡ true = rests_blank h.rest a.reader a.runs ∙ h.blank in
    (a.found, ap (ended (length (units_in bytes)) (is_odd bytes)) a.reads ∙ ap (λ (z : Bool). cond (z && not (is_odd bytes)) (whole a.found) (refused a.found (length (units_in bytes)) kinds.End)) b ∙ ap (λ (z : Bool). cond (not z) (whole a.found) (refused a.found (length (units_in bytes)) kinds.End)) h.even, a.values_are)

pub rejections_told : StreamRejectionsAreRead → RejectionsAreTold
rejections_told stream_rejections_read bytes vs place k w h =
    let r = stream_rejections_read vs h.messages h.shown h.rest h.near k (ap are_units (sym h.units) ∙ byte_units bytes w) h.encode h.shows in
    (r.0.ready, ap (λ (z : List ℕ). ended (length (units_in bytes)) (is_odd bytes) (stream_units start_stream z)) h.units ∙ ap (ended (length (units_in bytes)) (is_odd bytes)) r.1 ∙ ap (λ (z : ℕ). refused r.0.ready z k) (sym h.place_is), r.2)

pub ends_told : OpenIsRead → EndsAreTold
ends_told open_read bytes vs place h =
    let a = reads_open open_read vs (units_in bytes) h.messages h.part h.units h.encode h.begins in
    let b : (is_resting a.reader && not (is_odd bytes)) ≡ false = ap (λ (z : Bool). z && not (is_odd bytes)) (rests_blank h.part a.reader a.runs) ∙ h.inside in (
      a.found,
      ap (ended (length (units_in bytes)) (is_odd bytes)) a.reads ∙ ap (λ (z : Bool). cond z (whole a.found) (refused a.found (length (units_in bytes)) kinds.End)) b ∙ ap (λ (z : ℕ). refused a.found z kinds.End) (sym h.place_is),
      a.values_are,
    )

pub rejections_still : RejectionsStay
rejections_still bytes more vs place k h =
    let u = units_front bytes more in
    record {
      messages = h.messages;
      shown = h.shown;
      rest = h.rest ++ u.0;
      near = h.near;
      units = u.1 ∙ ap (λ (z : List ℕ). z ++ u.0) h.units ∙ append_assoc h.messages (h.shown ++ h.rest) u.0 ∙ ap (λ (z : List ℕ). h.messages ++ z) (append_assoc h.shown h.rest u.0);
      encode = h.encode;
      shows = h.shows;
      place_is = h.place_is;
    }

pub refusals_shown : StreamsAreExact → RefusalsAreShown
refusals_shown streams_exact bytes s place k w e = go (subst (StreamIsExact (units_in bytes)) e (streams_exact (units_in bytes) (byte_units bytes w)))
  where
    go : StreamIsExact (units_in bytes) (rejects_stream s place k) → ShowsRejection bytes (values s.ready) place k
    go (x, r, rest, near, is, enc, at, shows) = record { messages = x; shown = r; rest = rest; near = near; units = is; encode = enc; shows = shows; place_is = at }
