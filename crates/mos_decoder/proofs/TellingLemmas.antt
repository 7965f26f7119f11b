-- What the answers of a decoder say of the bytes that were fed.
use Rattle.std.proofs.Common.{◌≡◌, ℕ, ◌+◌, ◌-◌, ◌<◌, ◌≤◌, Bool, true, false, cond, List, [], ◌∷◌, ◌++◌, length, Result, Ok, Err, refl, sym, ap, ◌∙◌, subst, arith}
use Rattle.std.specs.Prelude.{Option, Some, None, IsSome, ◌&&◌, not}
use Rattle.std.proofs.lemmas.List.{length-append}
use Rattle.mos_fields.specs.Characters.{units_in}
use Rattle.mos_tables.specs.Events.{Event}
use Rattle.mos_lexer.specs.declared.kind.Kind.{Kind}
use Rattle.mos_lexer.specs.declared.kind.Kind.TheVariants as kinds
use Rattle.mos_lexer.specs.Units.{Reader, start_reader, UnitRun, still_reads, completed, rejected_at, unit_run, is_resting, Found as FoundOf, StreamReader, StreamRun, reads_stream, rejects_stream, start_stream, stream_units}
use Rattle.mos_lexer.specs.Laws.{stream_on}
use Rattle.mos_lexer.proofs.UnitLaws.{stream_pieces_one}
use Rattle.mos_reader.specs.declared.found.Found.{Found}
use Rattle.mos_reader.specs.declared.found.ReadFault.{ReadFault}
use Rattle.mos_reader.specs.declared.found.ReadFault.TheVariants.{Rejected, NoMemory}
use Rattle.mos_reader.specs.Answers.{Stream, fed_on, fed, ended_run, run_of, answer_of, stream_behind, ComesTo, Answers}
use Rattle.mos_decoder.specs.Inputs.{Input, whole, refused, is_odd, ended, input_of}
use Rattle.mos_decoder.specs.Bytes.{ByteStream, start_bytes, behind_odd, odd_in, fed_bytes, found_of, front, counted, HasHanded, IsReadValue, HandsValue, Tells, TellsEnd}
use Rattle.mos_decoder.proofs.StreamLemmas.{at_reader, message_first, rejection_first, more_first}
use Rattle.mos_decoder.proofs.PairLemmas.{units_behind, odd_behind, even_bytes, odd_bytes}

pub nothing_handed : HasHanded start_bytes [] []
unfolding units_in odd_in
nothing_handed = record { same = refl; units = refl; count = refl; odd = refl; reads = refl }

-- ---- more bytes

fed_stream : (s : Stream) (us : List ℕ) → s.fault ≡ None → fed_on s.fault s us ≡ record { base = s.base; held = s.held ++ us; fault = None }
fed_stream s us e = ap (λ f. fed_on f s us) e

pub fed_handed : (s : ByteStream) (more before : List ℕ) (found : List FoundOf) → HasHanded s before found → HasHanded (fed_bytes s more) (before ++ more) found
fed_handed s more before found h =
    let us : List ℕ = units_in (behind_odd s.odd more) in
    let f : fed_on s.stream.fault s.stream us ≡ record { base = s.stream.base; held = s.stream.held ++ us; fault = None } = fed_stream s.stream us h.reads in
    let w : units_in (before ++ more) ≡ units_in before ++ us = units_behind before more ∙ ap (λ o. units_in before ++ units_in (behind_odd o more)) (sym h.odd) in
    let c = h.units in
    record {
      same =
          ap (stream_units start_stream) w
          ∙ (stream_pieces_one start_stream (units_in before) us
          ∙ (ap (λ z. stream_on z us) h.same
          ∙ (sym (stream_pieces_one (front found s.stream.base) s.stream.held us) ∙ ap (λ z. stream_units (front found z.base) z.held) (sym f))));
      units =
          let a = length-append (units_in before) us in
          let b = length-append s.stream.held us in
          let e : length (units_in (before ++ more)) ≡ length (units_in before ++ us) = ap length w in
          let g : s.stream.base + length (s.stream.held ++ us) ≡ (fed_on s.stream.fault s.stream us).base + length (fed_on s.stream.fault s.stream us).held = ap (λ z. z.base + length z.held) (sym f) in
          let k : length (units_in (before ++ more)) ≡ s.stream.base + length (s.stream.held ++ us) = omega (arith, a, b, c, e) in
          k ∙ g;
      count = h.count;
      odd = ap (λ o. odd_in (behind_odd o more)) h.odd ∙ sym (odd_behind before more);
      reads = ap (λ z. z.fault) f;
    }

-- ---- the next message

-- two answers are one
abbrev pub SameAnswer : Result (Option Found) ReadFault → Result (Option Found) ReadFault → Type 0
SameAnswer a b = a ≡ b

-- what is held comes to this
module _ (s t : ByteStream) (bytes : List ℕ) (found : List FoundOf) (h : HasHanded s bytes found) (odd : t.odd ≡ s.odd) where
  same_handed : t.stream ≡ s.stream → t.count ≡ s.count → HasHanded t bytes found
  same_handed e n = record {
    same = h.same ∙ ap (λ z. stream_units (front found z.base) z.held) (sym e);
    units = h.units ∙ ap (λ z. z.base + length z.held) (sym e);
    count = n ∙ h.count;
    odd = odd ∙ h.odd;
    reads = ap (λ z. z.fault) e ∙ h.reads;
  }

  one_handed : (f : Found) (began : ℕ) (v : List Event) (rest : List ℕ) → unit_run start_reader s.stream.held ≡ completed began v rest
      → SameAnswer (Ok (Some (record { began = s.stream.base + began; value = v }))) (Ok (Some f)) → t.stream ≡ record { base = s.stream.base + (length s.stream.held - length rest); held = rest; fault = None } → t.count ≡ s.count + 1
      → HasHanded t bytes (found ++ found_of f ∷ [])
  one_handed f began v rest e a b n =
      let m = message_first found s.stream.base began v s.stream.held rest e in
      let i : record { began = s.stream.base + began; value = v } ≡ f = cc in
      let c = h.units in
      let l = m.1 in
      let k : length (units_in bytes) ≡ (s.stream.base + (length s.stream.held - length rest)) + length rest = omega (arith, c, l) in
      record {
        same =
            h.same
            ∙ (m.0
            ∙ (ap (λ g. stream_units (front (found ++ found_of g ∷ []) (s.stream.base + (length s.stream.held - length rest))) rest) i
            ∙ ap (λ z. stream_units (front (found ++ found_of f ∷ []) z.base) z.held) (sym b)));
        units = k ∙ ap (λ z. z.base + length z.held) (sym b);
        count = let d = h.count in let j = length-append found (found_of f ∷ []) in let i : s.count + 1 ≡ length (found ++ found_of f ∷ []) = omega (arith, d, j) in n ∙ i;
        odd = odd ∙ h.odd;
        reads = ap (λ z. z.fault) b;
      }

  is_rejected : (place : ℕ) (k : Kind) (p : ℕ) (j : Kind) → unit_run start_reader s.stream.held ≡ rejected_at place k → SameAnswer (Err (Rejected (s.stream.base + place) k)) (Err (Rejected p j))
      → (x : StreamReader) × (x.ready ≡ found) × (stream_units start_stream (units_in bytes) ≡ rejects_stream x p j)
  is_rejected place k p j e a =
      let r = rejection_first found s.stream.base place k s.stream.held e in
      let i : (s.stream.base + place ≡ p) × (k ≡ j) = (cc, cc) in
      (at_reader found s.stream.base r.0, refl, h.same ∙ (r.1 ∙ (ap (λ z. rejects_stream (at_reader found s.stream.base r.0) z k) i.0 ∙ ap (λ z. rejects_stream (at_reader found s.stream.base r.0) p z) i.1)))

  is_waiting : (x : Reader) → unit_run start_reader s.stream.held ≡ still_reads x → stream_units start_stream (units_in bytes) ≡ reads_stream (at_reader found s.stream.base x)
  is_waiting x e = h.same ∙ more_first found s.stream.base x s.stream.held e

  came : (run : UnitRun) → unit_run start_reader s.stream.held ≡ run → (result : Result (Option Found) ReadFault) → ComesTo run s.stream result t.stream → t.count ≡ counted result s.count → Tells bytes found result t
  came (still_reads x) e (Ok None) (a, b) n = (same_handed b n, (s.stream.base, x, is_waiting x e))
  came (still_reads x) e (Ok (Some f)) (a, b) n = absurd (cc)
  came (still_reads x) e (Err (Rejected p j)) (a, b) n = absurd (cc)
  came (still_reads x) e (Err NoMemory) a n = tt
  came (completed began v rest) e (Ok None) (a, b) n = absurd (cc)
  came (completed began v rest) e (Ok (Some f)) (a, b) n = one_handed f began v rest e a b n
  came (completed began v rest) e (Err (Rejected p j)) (a, b) n = absurd (cc)
  came (completed began v rest) e (Err NoMemory) a n = tt
  came (rejected_at place k) e (Ok None) (a, b) n = absurd (cc)
  came (rejected_at place k) e (Ok (Some f)) (a, b) n = absurd (cc)
  came (rejected_at place k) e (Err (Rejected p j)) (a, b) n = is_rejected place k p j e a
  came (rejected_at place k) e (Err NoMemory) a n = tt

  -- ---- the end of the input

  ends_whole : (x : Reader) → s.odd ≡ None → unit_run start_reader s.stream.held ≡ still_reads x → is_resting x ≡ true → input_of bytes ≡ whole found
  ends_whole x o e b =
      ap (ended (length (units_in bytes)) (is_odd bytes)) (is_waiting x e)
      ∙ (ap (λ z. cond (z && not (is_odd bytes)) (whole found) (refused found (length (units_in bytes)) kinds.End)) b
      ∙ ap (λ z. cond (not z) (whole found) (refused found (length (units_in bytes)) kinds.End)) (even_bytes bytes (sym h.odd ∙ o)))

  ends_inside : (x : Reader) (p : ℕ) (j : Kind) → unit_run start_reader s.stream.held ≡ still_reads x → (is_resting x && not (is_odd bytes)) ≡ false
      → SameAnswer (Err (Rejected (s.stream.base + length s.stream.held) kinds.End)) (Err (Rejected p j)) → input_of bytes ≡ refused found p j
  ends_inside x p j e b a =
      let i : (s.stream.base + length s.stream.held ≡ p) × (kinds.End ≡ j) = (cc, cc) in
      ap (ended (length (units_in bytes)) (is_odd bytes)) (is_waiting x e)
      ∙ (ap (λ z. cond z (whole found) (refused found (length (units_in bytes)) kinds.End)) b
      ∙ (ap (λ z. refused found z kinds.End) (h.units ∙ i.0) ∙ ap (λ z. refused found p z) i.1))

  ends_rejected : (place : ℕ) (k : Kind) (p : ℕ) (j : Kind) → unit_run start_reader s.stream.held ≡ rejected_at place k → SameAnswer (Err (Rejected (s.stream.base + place) k)) (Err (Rejected p j)) → input_of bytes ≡ refused found p j
  ends_rejected place k p j e a =
      let r = is_rejected place k p j e a in
      ap (ended (length (units_in bytes)) (is_odd bytes)) r.2 ∙ ap (λ z. refused z p j) r.1

  rested : (x : Reader) (b : Bool) → s.odd ≡ None → unit_run start_reader s.stream.held ≡ still_reads x → is_resting x ≡ b → (result : Result (Option Found) ReadFault)
      → ComesTo (cond b (still_reads x) (rejected_at (length s.stream.held) kinds.End)) s.stream result t.stream → t.count ≡ counted result s.count → TellsEnd bytes found result t
  rested x true o e f (Ok None) (a, b) n = (same_handed b n, ends_whole x o e f)
  rested x true o e f (Ok (Some g)) (a, b) n = absurd (cc)
  rested x true o e f (Err (Rejected p j)) (a, b) n = absurd (cc)
  rested x true o e f (Err NoMemory) a n = tt
  rested x false o e f (Ok None) (a, b) n = absurd (cc)
  rested x false o e f (Ok (Some g)) (a, b) n = absurd (cc)
  rested x false o e f (Err (Rejected p j)) (a, b) n = ends_inside x p j e (ap (λ z. z && not (is_odd bytes)) f) a
  rested x false o e f (Err NoMemory) a n = tt

  came_last : (run : UnitRun) → s.odd ≡ None → unit_run start_reader s.stream.held ≡ run → (result : Result (Option Found) ReadFault) → ComesTo (ended_run (length s.stream.held) run) s.stream result t.stream → t.count ≡ counted result s.count → TellsEnd bytes found result t
  came_last (still_reads x) o e r a n = rested x (is_resting x) o e refl r a n
  came_last (completed began v rest) o e (Ok None) (a, b) n = absurd (cc)
  came_last (completed began v rest) o e (Ok (Some f)) (a, b) n = one_handed f began v rest e a b n
  came_last (completed began v rest) o e (Err (Rejected p j)) (a, b) n = absurd (cc)
  came_last (completed began v rest) o e (Err NoMemory) a n = tt
  came_last (rejected_at place k) o e (Ok None) (a, b) n = absurd (cc)
  came_last (rejected_at place k) o e (Ok (Some f)) (a, b) n = absurd (cc)
  came_last (rejected_at place k) o e (Err (Rejected p j)) (a, b) n = ends_rejected place k p j e a
  came_last (rejected_at place k) o e (Err NoMemory) a n = tt

  pub tells_next : (result : Result (Option Found) ReadFault) → Answers false s.stream.fault s.stream result t.stream → t.count ≡ counted result s.count → Tells bytes found result t
  tells_next r a n = came (unit_run start_reader s.stream.held) refl r (subst (λ f. Answers false f s.stream r t.stream) h.reads a) n

  pub tells_end : (result : Result (Option Found) ReadFault) → s.odd ≡ None → Answers true s.stream.fault s.stream result t.stream → t.count ≡ counted result s.count → TellsEnd bytes found result t
  tells_end r o a n = came_last (unit_run start_reader s.stream.held) o refl r (subst (λ f. Answers true f s.stream r t.stream) h.reads a) n

-- ---- the end of the input behind an odd byte

pub odd_ends_inside : (bytes : List ℕ) (found : List FoundOf) (base b : ℕ) (x : Reader) → odd_in bytes ≡ Some b → stream_units start_stream (units_in bytes) ≡ reads_stream (record { ready = found; base = base; reader = x })
    → input_of bytes ≡ refused found (length (units_in bytes)) kinds.End
odd_ends_inside bytes found base b x o e =
    ap (ended (length (units_in bytes)) (is_odd bytes)) e
    ∙ (ap (λ z. cond (is_resting x && not z) (whole found) (refused found (length (units_in bytes)) kinds.End)) (odd_bytes bytes b o)
    ∙ ap (λ z. cond z (whole found) (refused found (length (units_in bytes)) kinds.End)) (never (is_resting x)))
  where
    never : (z : Bool) → (z && not true) ≡ false
    never true = refl
    never false = refl

pub told_rejected : (bytes : List ℕ) (found : List FoundOf) (p : ℕ) (j : Kind) → (x : StreamReader) × (x.ready ≡ found) × (stream_units start_stream (units_in bytes) ≡ rejects_stream x p j) → input_of bytes ≡ refused found p j
told_rejected bytes found p j r = ap (ended (length (units_in bytes)) (is_odd bytes)) r.2 ∙ ap (λ z. refused z p j) r.1

pub told_ended : (bytes : List ℕ) (found : List FoundOf) (k : ReadFault) (t : ByteStream) → Tells bytes found (Err k) t → TellsEnd bytes found (Err k) t
told_ended bytes found (Rejected p j) t r = told_rejected bytes found p j r
told_ended bytes found NoMemory t r = tt

pub ended_odd : (s t : ByteStream) (bytes : List ℕ) (found : List FoundOf) (place : ℕ) → HasHanded s bytes found → IsSome s.odd → Tells bytes found (Ok None) t → place ≡ fed t.stream → input_of bytes ≡ refused found place kinds.End
ended_odd s t bytes found place h o (a, (base, r, e)) p =
    let b = is_some s.odd o in
    odd_ends_inside bytes found base b.0 r (sym h.odd ∙ b.1) e ∙ ap (λ z. refused found z kinds.End) (a.units ∙ sym p)
  where
    is_some : (x : Option ℕ) → IsSome x → (b : ℕ) × (x ≡ Some b)
    is_some (Some b) i = (b, refl)
    is_some None i = absurd (cc)

-- ---- a message takes some units

pub record Grows (s t : Stream) : Type 0 where
  pub onward : s.base + 1 ≤ t.base
  pub shorter : length t.held < length s.held

grown : (s t : Stream) (began : ℕ) (v : List Event) (rest : List ℕ) → unit_run start_reader s.held ≡ completed began v rest → t ≡ record { base = s.base + (length s.held - length rest); held = rest; fault = None } → Grows s t
grown s t began v rest e b =
    let m = (message_first [] s.base began v s.held rest e).1 in
    subst (Grows s) (sym b) (record { onward = omega (arith, m); shorter = m })

came_grown : (s t : Stream) (run : UnitRun) (f : Found) → unit_run start_reader s.held ≡ run → ComesTo run s (Ok (Some f)) t → Grows s t
came_grown s t (still_reads x) f e (a, b) = absurd (cc)
came_grown s t (completed began v rest) f e (a, b) = grown s t began v rest e b
came_grown s t (rejected_at place k) f e (a, b) = absurd (cc)

ended_grown : (s t : Stream) (run : UnitRun) (f : Found) → unit_run start_reader s.held ≡ run → ComesTo (ended_run (length s.held) run) s (Ok (Some f)) t → Grows s t
ended_grown s t (still_reads x) f e a = go (is_resting x) a
  where
    go : (b : Bool) → ComesTo (cond b (still_reads x) (rejected_at (length s.held) kinds.End)) s (Ok (Some f)) t → Grows s t
    go true (a, b) = absurd (cc)
    go false (a, b) = absurd (cc)
ended_grown s t (completed began v rest) f e (a, b) = grown s t began v rest e b
ended_grown s t (rejected_at place k) f e (a, b) = absurd (cc)

run_grown : (at_end : Bool) (s t : Stream) (f : Found) → ComesTo (run_of at_end s) s (Ok (Some f)) t → Grows s t
run_grown true s t f a = ended_grown s t (unit_run start_reader s.held) f refl a
run_grown false s t f a = came_grown s t (unit_run start_reader s.held) f refl a

pub found_grows : (at_end : Bool) (fault : Option ReadFault) (s t : Stream) (f : Found) → Answers at_end fault s (Ok (Some f)) t → Grows s t
found_grows at_end (Some k) s t f (a, b) = absurd (cc)
found_grows at_end None s t f a = run_grown at_end s t f a

-- ---- a message's value was read

came_value : (s t : Stream) (run : UnitRun) (f : Found) → unit_run start_reader s.held ≡ run → ComesTo run s (Ok (Some f)) t → IsReadValue f.value
came_value s t (still_reads x) f e (a, b) = absurd (cc)
came_value s t (completed began v rest) f e (a, b) =
    let i : record { began = s.base + began; value = v } ≡ f = cc in
    (s.held, began, rest, e ∙ ap (λ z. completed began z rest) (ap (λ z. z.value) i))
came_value s t (rejected_at place k) f e (a, b) = absurd (cc)

ended_value : (s t : Stream) (run : UnitRun) (f : Found) → unit_run start_reader s.held ≡ run → ComesTo (ended_run (length s.held) run) s (Ok (Some f)) t → IsReadValue f.value
ended_value s t (still_reads x) f e a = go (is_resting x) a
  where
    go : (b : Bool) → ComesTo (cond b (still_reads x) (rejected_at (length s.held) kinds.End)) s (Ok (Some f)) t → IsReadValue f.value
    go true (a, b) = absurd (cc)
    go false (a, b) = absurd (cc)
ended_value s t (completed began v rest) f e a = came_value s t (completed began v rest) f e a
ended_value s t (rejected_at place k) f e (a, b) = absurd (cc)

run_value : (at_end : Bool) (s t : Stream) (f : Found) → ComesTo (run_of at_end s) s (Ok (Some f)) t → IsReadValue f.value
run_value true s t f a = ended_value s t (unit_run start_reader s.held) f refl a
run_value false s t f a = came_value s t (unit_run start_reader s.held) f refl a

pub found_value : (at_end : Bool) (fault : Option ReadFault) (s t : Stream) (f : Found) → Answers at_end fault s (Ok (Some f)) t → IsReadValue f.value
found_value at_end (Some k) s t f (a, b) = absurd (cc)
found_value at_end None s t f a = run_value at_end s t f a
