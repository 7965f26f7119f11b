-- What is read goes on, and ends.
use Rattle.std.proofs.Common.{◌≡◌, ℕ, ◌+◌, ◌*◌, ◌<◌, ◌≤◌, inl, inr, List, [], ◌∷◌, ◌++◌, length, map, Option, Some, None, refl, sym, ap, ◌∙◌, subst, append_assoc, append-nil, arith, Ok, Err}
use mathlib.Core.List.{map-append}
use Rattle.std.proofs.lemmas.List.{length-append, length-map}
use Rattle.std.specs.List.{AllByRecursion}
use Rattle.mos_codec.specs.Decoding.{DecoderState, HandsOut, HasTaken, IsRead, IsRejected, TellsFed, handed_more, placed_events, with_ready}
use Rattle.mos_codec.specs.declared.fault.DecodeFault.TheVariants.{Refused}
use Rattle.mos_codec.specs.declared.whole.Placed.{Placed}
use Rattle.mos_fields.specs.Characters.{units_in}
use Rattle.mos_io.specs.Bytes.{IsAtEnd, Takes}
use Rattle.mos_io.specs.Counts.{Rose}
use Rattle.mos_lexer.specs.Units.{Found as FoundOf, StreamReader, StreamRun, UnitStep, reads_on, completes, rejects, reads_stream, rejects_stream, start_reader, start_stream, stream_units, then_stream}
use Rattle.mos_lexer.specs.declared.kind.Kind.{Kind}
use Rattle.mos_values.specs.MessageViews.{envelope_events}
use Rattle.mos_values.specs.declared.message.Envelope.{Envelope}
use Rattle.port_session.specs.Pieces.{ReadCame}
use Rattle.port_session.specs.Reading.{AreMessages, Carries, EndedAt, Halted, Halts, IsWhole, Reads, Stands}
use Rattle.port_session.specs.declared.end.End.{End}
use Rattle.port_session.specs.declared.end.End.TheVariants.{Closed, Truncated, BadMessage, ReadFault, WriteFault, Budget, Stale, Unasked, Stopped, NoMemory}
use Rattle.port_session.specs.declared.inlet.Rejection.{Rejection}

-- ---- bytes

pub takes_more : (a b c : Option (List ℕ)) (x y : List ℕ) → Takes a b x → Takes b c y → Takes a c (x ++ y)
takes_more None b c x y e t = subst (λ (o : Option (List ℕ)). Takes o c y) e t
takes_more (Some l) b c x y s t = let u : Takes (Some s.0) c y = subst (λ (o : Option (List ℕ)). Takes o c y) s.2 t in
    (u.0, s.1 ∙ (ap (λ (r : List ℕ). x ++ r) u.1 ∙ sym (append_assoc x y u.0)), u.2)

pub takes_none : (l : Option (List ℕ)) → Takes l l []
takes_none None = refl
takes_none (Some l) = (l, refl, refl)

pub takes_same : (a b c : Option (List ℕ)) (x : List ℕ) → Takes a b x → c ≡ b → Takes a c x
takes_same a b c x t e = subst (λ (o : Option (List ℕ)). Takes a o x) (sym e) t

pub at_end_on : (a b : Option (List ℕ)) → Takes a b [] → IsAtEnd a → IsAtEnd b
at_end_on None b t e = subst IsAtEnd (sym t) tt
at_end_on (Some l) b t e = subst IsAtEnd (sym t.2) (sym t.1 ∙ e)

pub rose_from : (a b c : ℕ) → a ≤ b → Rose b c → Rose a c
rose_from a b c le (inl lt) = inl (omega arith)
rose_from a b c le (inr m) = inr m

-- ---- messages

pub carries_more : (found : List FoundOf) (given : List Envelope) (began : ℕ) (e : Envelope) → Carries found given
    → Carries (found ++ (record { began = began; value = envelope_events e }) ∷ []) (given ++ e ∷ [])
carries_more found given began e c =
    let f : FoundOf = record { began = began; value = envelope_events e } in
    map-append (λ (x : FoundOf). x.value) found (f ∷ []) ∙ (ap (λ l. l ++ envelope_events e ∷ []) c ∙ sym (map-append envelope_events given (e ∷ [])))

pub all_more : (given : List Envelope) (e : Envelope) → AllByRecursion IsWhole given → IsWhole e → AllByRecursion IsWhole (given ++ e ∷ [])
all_more [] e all w = (w, tt)
all_more (x ∷ xs) e all w = (all.0, all_more xs e all.1 w)

pub last_whole : (given : List Envelope) (e : Envelope) → AllByRecursion IsWhole (given ++ e ∷ []) → IsWhole e
last_whole [] e all = all.0
last_whole (x ∷ xs) e all = last_whole xs e all.1

abbrev pub Holds : Option Envelope → Type 0
Holds None = ⊥
Holds (Some e) = Unit {0}

abbrev pub value_or : Envelope → Option Envelope → Envelope
value_or e None = e
value_or e (Some x) = x

pub same_with_ready : (ready : List Placed) (d d' : DecoderState) (found : List FoundOf) (e : Envelope) → HandsOut ready (Some e) d d'
    → with_ready found ready ≡ with_ready (found ++ (record { began = d'.began; value = envelope_events e }) ∷ []) d'.ready
same_with_ready [] d d' found e h = absurd (subst Holds h.0 tt)
same_with_ready (p ∷ more) d d' found e h =
    subst (λ (z : DecoderState). with_ready found (p ∷ more) ≡ with_ready (found ++ (record { began = z.began; value = envelope_events e }) ∷ []) z.ready) (sym h.1)
    (subst (λ (x : Envelope). with_ready found (p ∷ more) ≡ with_ready (found ++ (record { began = p.began; value = envelope_events x }) ∷ []) more) (sym (ap (value_or e) h.0))
    (sym (append_assoc found (placed_events p ∷ []) (map placed_events more))))

pub same_state : (ready : List Placed) (d d' : DecoderState) → HandsOut ready None d d' → d' ≡ d
same_state [] d d' h = h.1
same_state (p ∷ more) d d' h = absurd (subst Holds (sym h.0) tt)

pub stands_handed : (rejection : Option Rejection) (d d' : DecoderState) (read : List ℕ) (found : List FoundOf) (e : Envelope) → HandsOut d.ready (Some e) d d'
    → (HasTaken d read found → HasTaken d' read (found ++ (record { began = d'.began; value = envelope_events e }) ∷ []))
    → Stands rejection d read found → Stands rejection d' read (found ++ (record { began = d'.began; value = envelope_events e }) ∷ [])
stands_handed None d d' read found e h t s = t s
stands_handed (Some r) d d' read found e h t s = subst (λ (all : List FoundOf). IsRejected read all r.place r.kind) (same_with_ready d.ready d d' found e h) s

pub no_more : (d : DecoderState) (found : List FoundOf) → d.ready ≡ [] → with_ready found d.ready ≡ found
no_more d found e = ap (λ (ready : List Placed). found ++ map placed_events ready) e ∙ append-nil found

pub are_messages : (rejection : Option Rejection) (d : DecoderState) (read : List ℕ) (found : List FoundOf) → Stands rejection d read found → AreMessages read (with_ready found d.ready)
are_messages None d read found s = inl (d.bytes, s.read)
are_messages (Some r) d read found s = inr (r.place, r.kind, s)

-- ---- how many messages there are

abbrev pub ready_of : StreamRun → List FoundOf
ready_of (reads_stream t) = t.ready
ready_of (rejects_stream t place k) = t.ready

few_then : (us : List ℕ) (s : StreamReader) (step : UnitStep) → ((t : StreamReader) → length (ready_of (stream_units t us)) ≤ length t.ready + length us)
    → length (ready_of (then_stream s step (λ t. stream_units t us))) ≤ length s.ready + (length us + 1)
few_then us s (reads_on r) ih = let h = ih (record { ready = s.ready; base = s.base; reader = r }) in omega arith
few_then us s (completes began v) ih =
    let f : FoundOf = record { began = s.base + began; value = v } in
    let h = ih (record { ready = s.ready ++ f ∷ []; base = s.base + (s.reader.count + 1); reader = start_reader }) in
    let one = length-append s.ready (f ∷ []) in omega arith
few_then us s (rejects place k) ih = omega arith

-- each code unit ends at most one message
few_in : (us : List ℕ) (s : StreamReader) → length (ready_of (stream_units s us)) ≤ length s.ready + length us
unfolding stream_units
few_in [] s = omega arith
few_in (u ∷ us) s = let h = few_then us s (Rattle.mos_lexer.specs.Units.unit_step s.reader u) (few_in us) in omega arith

units_few : (bytes : List ℕ) → 2 * length (units_in bytes) ≤ length bytes
unfolding units_in
units_few [] = omega arith
units_few (a ∷ []) = omega arith
units_few (a ∷ b ∷ bs) = let h = units_few bs in omega arith

few_run : (bytes : List ℕ) (all : List FoundOf) → ready_of (stream_units start_stream (units_in bytes)) ≡ all → 2 * length all ≤ length bytes
few_run bytes all e =
    let a = few_in (units_in bytes) start_stream in
    let b = units_few bytes in
    let c : length (ready_of (stream_units start_stream (units_in bytes))) ≡ length all = ap length e in omega arith

few_messages : (bytes : List ℕ) (all : List FoundOf) → AreMessages bytes all → 2 * length all ≤ length bytes
few_messages bytes all (inl m) = few_run bytes all (ap ready_of (m.1).goes_on)
few_messages bytes all (inr m) = few_run bytes all (ap ready_of (m.2).2 ∙ (m.2).1)

module _ (l : Option (List ℕ)) (f : ℕ) (l1 : Option (List ℕ)) (f1 : ℕ) (d : DecoderState) (rejection : Option Rejection) (count budget : ℕ) (given : List Envelope) (r : Reads l f l1 f1 d rejection count budget given) where
  -- each message has two bytes or more
  pub few_given : 2 * length given ≤ count
  few_given =
      let a = few_messages r.read (with_ready r.found d.ready) (are_messages rejection d r.read r.found r.stands) in
      let b = length-append r.found (map placed_events d.ready) in
      let c = length-map r.found (λ (x : FoundOf). x.value) in
      let e = length-map given envelope_events in
      let g : length (map (λ (x : FoundOf). x.value) r.found) ≡ length (map envelope_events given) = ap length r.carried in
      let n = r.counted in omega arith

  pub handed : (d' : DecoderState) (e : Envelope) → HandsOut d.ready (Some e) d d' → ((bytes : List ℕ) (found : List FoundOf) → HasTaken d bytes found → HasTaken d' bytes (handed_more found (Some e) d'.began)) → IsWhole e
      → Reads l f l1 f1 d' rejection count budget (given ++ e ∷ [])
  handed d' e h t w = record {
    read = r.read;
    found = r.found ++ (record { began = d'.began; value = envelope_events e }) ∷ [];
    took = r.took;
    rises = r.rises;
    carried = carries_more r.found given d'.began e r.carried;
    whole = all_more given e r.whole w;
    counted = r.counted;
    within = r.within;
    stands = stands_handed rejection d d' r.read r.found e h (t r.read r.found) r.stands;
  }

  pub unhanded : (d' : DecoderState) → HandsOut d.ready None d d' → Reads l f l1 f1 d' rejection count budget given
  unhanded d' h = subst (λ (z : DecoderState). Reads l f l1 f1 z rejection count budget given) (sym (same_state d.ready d d' h)) r

  -- these messages are the first
  pub begun : Halts l f l1 f1 budget given NoMemory
  begun = record {
    read = r.read;
    found = r.found;
    took = r.took;
    rises = r.rises;
    carried = r.carried;
    whole = r.whole;
    within = let a = r.counted in let b = r.within in omega arith;
    ceased = (r.read, with_ready r.found d.ready, ([], sym (append-nil r.read)), (map placed_events d.ready, refl), are_messages rejection d r.read r.found r.stands);
  }

  pub begun_on : (l2 : Option (List ℕ)) (f2 : ℕ) → l2 ≡ l1 → f1 ≤ f2 → Halts l f l2 f2 budget given NoMemory
  begun_on l2 f2 e le = record {
    read = r.read;
    found = r.found;
    took = takes_same l l1 l2 r.read r.took e;
    rises = let a = r.rises in omega arith;
    carried = r.carried;
    whole = r.whole;
    within = let a = r.counted in let b = r.within in omega arith;
    ceased = (r.read, with_ready r.found d.ready, ([], sym (append-nil r.read)), (map placed_events d.ready, refl), are_messages rejection d r.read r.found r.stands);
  }

  module _ (none : d.ready ≡ []) where
    pub halts_rejected : (x : Rejection) → rejection ≡ Some x → Halted l f l1 f1 budget count given (BadMessage x.place x.kind)
    halts_rejected x e = (
      record {
        read = r.read;
        found = r.found;
        took = r.took;
        rises = r.rises;
        carried = r.carried;
        whole = r.whole;
        within = let a = r.counted in let b = r.within in omega arith;
        ceased = subst (λ (all : List FoundOf). IsRejected r.read all x.place x.kind) (no_more d r.found none) (subst (λ (o : Option Rejection). Stands o d r.read r.found) e r.stands);
      },
      r.counted,
    )

    module _ (clean : rejection ≡ None) where
      taken : HasTaken d r.read r.found
      taken = subst (λ (o : Option Rejection). Stands o d r.read r.found) clean r.stands

      is_read : IsRead r.read r.found d.bytes
      is_read = subst (λ (all : List FoundOf). IsRead r.read all d.bytes) (no_more d r.found none) taken.read

      pub halts_spent : count ≡ budget → Halted l f l1 f1 budget count given Budget
      halts_spent e = (
        record {
          read = r.read;
          found = r.found;
          took = r.took;
          rises = r.rises;
          carried = r.carried;
          whole = r.whole;
          within = let a = r.counted in let b = r.within in omega arith;
          ceased = (r.counted ∙ e, (d.bytes, is_read));
        },
        r.counted,
      )

      pub halts_failed : (l2 : Option (List ℕ)) (f2 : ℕ) → l2 ≡ l1 → Rose f1 f2 → f1 ≤ f2 → count < budget → Halted l f l2 f2 budget count given ReadFault
      halts_failed l2 f2 e rose le room = (
        record {
          read = r.read;
          found = r.found;
          took = takes_same l l1 l2 r.read r.took e;
          rises = let a = r.rises in omega arith;
          carried = r.carried;
          whole = r.whole;
          within = let a = r.counted in let b = r.within in omega arith;
          ceased = (rose_from f f1 f2 r.rises rose, (let a = r.counted in omega arith), (d.bytes, is_read));
        },
        r.counted,
      )

      took_nothing : (l2 : Option (List ℕ)) → Takes l1 l2 [] → Takes l l2 r.read
      took_nothing l2 t = subst (λ (x : List ℕ). Takes l l2 x) (append-nil r.read) (takes_more l l1 l2 r.read [] r.took t)

      pub halts_ended : (l2 : Option (List ℕ)) (f2 : ℕ) → Takes l1 l2 [] → IsAtEnd l1 → f1 ≤ f2 → count < budget → (end : End) → EndedAt d.bytes end → Halted l f l2 f2 budget count given end
      halts_ended l2 f2 t e le room Closed x = (
        record {
          read = r.read;
          found = r.found;
          took = took_nothing l2 t;
          rises = let a = r.rises in omega arith;
          carried = r.carried;
          whole = r.whole;
          within = let a = r.counted in let b = r.within in omega arith;
          ceased = (at_end_on l1 l2 t e, (let a = r.counted in omega arith), (d.bytes, is_read, x));
        },
        r.counted,
      )
      halts_ended l2 f2 t e le room (Truncated n) x = (
        record {
          read = r.read;
          found = r.found;
          took = took_nothing l2 t;
          rises = let a = r.rises in omega arith;
          carried = r.carried;
          whole = r.whole;
          within = let a = r.counted in let b = r.within in omega arith;
          ceased = (at_end_on l1 l2 t e, (let a = r.counted in omega arith), (d.bytes, is_read, x.0, x.1));
        },
        r.counted,
      )
      halts_ended l2 f2 t e le room (BadMessage n k) x = absurd x
      halts_ended l2 f2 t e le room ReadFault x = absurd x
      halts_ended l2 f2 t e le room WriteFault x = absurd x
      halts_ended l2 f2 t e le room Budget x = absurd x
      halts_ended l2 f2 t e le room Stale x = absurd x
      halts_ended l2 f2 t e le room Unasked x = absurd x
      halts_ended l2 f2 t e le room Stopped x = absurd x
      halts_ended l2 f2 t e le room NoMemory x = absurd x

      -- a read gave nothing
      pub halts_unread : (l2 : Option (List ℕ)) (f2 most : ℕ) (buffer : List ℕ) → f1 ≤ f2 → count < budget → (end : End) → ReadCame l1 l2 f1 f2 most buffer (Err end) → Halted l f l2 f2 budget count given end
      unfolding begun_on
      halts_unread l2 f2 most buffer le room ReadFault x = halts_failed l2 f2 x.1 x.0 le room
      halts_unread l2 f2 most buffer le room NoMemory x = (begun_on l2 f2 x le, r.counted)
      halts_unread l2 f2 most buffer le room Closed x = absurd x
      halts_unread l2 f2 most buffer le room (Truncated n) x = absurd x
      halts_unread l2 f2 most buffer le room (BadMessage n k) x = absurd x
      halts_unread l2 f2 most buffer le room WriteFault x = absurd x
      halts_unread l2 f2 most buffer le room Budget x = absurd x
      halts_unread l2 f2 most buffer le room Stale x = absurd x
      halts_unread l2 f2 most buffer le room Unasked x = absurd x
      halts_unread l2 f2 most buffer le room Stopped x = absurd x

      -- so many more code units are in reach
      pub room_for : (x : List ℕ) (n : ℕ) → length x ≤ n → count + n < 18446744073709551616 → d.bytes.stream.base + length d.bytes.stream.held + length x < 18446744073709551616
      room_for x n le small =
          let units = (taken.read).handed.units in
          let few = units_few r.read in
          let all = r.counted in omega arith

      -- so many bytes more were read
      module _ (l2 : Option (List ℕ)) (f2 : ℕ) (d' : DecoderState) (x : List ℕ) (n : ℕ) (t : Takes l1 l2 x) (le : f1 ≤ f2) (size : length x ≡ n) (room : count + n ≤ budget) where
        longer : length (r.read ++ x) ≡ count + n
        longer = length-append r.read x ∙ ap (λ (p : ℕ × ℕ). p.0 + p.1) (λ i. (r.counted i, size i))

        pub fed_more : (u : Unit {0}) → ((bytes : List ℕ) (found : List FoundOf) → HasTaken d bytes found → TellsFed (bytes ++ x) found (Ok u) d') → Reads l f l2 f2 d' None (count + n) budget given
        fed_more u tells = record {
          read = r.read ++ x;
          found = r.found;
          took = takes_more l l1 l2 r.read x r.took t;
          rises = let a = r.rises in omega arith;
          carried = r.carried;
          whole = r.whole;
          counted = longer;
          within = room;
          stands = tells r.read r.found taken;
        }

        pub fed_refused : (place : ℕ) (kind : Kind) → ((bytes : List ℕ) (found : List FoundOf) → HasTaken d bytes found → TellsFed (bytes ++ x) found (Err (Refused place kind)) d')
            → Reads l f l2 f2 d' (Some (record { place = place; kind = kind })) (count + n) budget given
        fed_refused place kind tells = record {
          read = r.read ++ x;
          found = r.found;
          took = takes_more l l1 l2 r.read x r.took t;
          rises = let a = r.rises in omega arith;
          carried = r.carried;
          whole = r.whole;
          counted = longer;
          within = room;
          stands = (tells r.read r.found taken).0;
        }

        pub fed_starved : Halted l f l2 f2 budget (count + n) given NoMemory
        fed_starved = (
          record {
            read = r.read ++ x;
            found = r.found;
            took = takes_more l l1 l2 r.read x r.took t;
            rises = let a = r.rises in omega arith;
            carried = r.carried;
            whole = r.whole;
            within = let a = longer in omega arith;
            ceased = (r.read, r.found, (x, refl), ([], sym (append-nil r.found)), inl (d.bytes, is_read));
          },
          longer,
        )

-- before the first read
pub reads_none : (l : Option (List ℕ)) (f : ℕ) (d : DecoderState) (rejection : Option Rejection) (count budget : ℕ) → HasTaken d [] [] → rejection ≡ None → count ≡ 0 → Reads l f l f d rejection count budget []
reads_none l f d rejection count budget t e z = record {
  read = [];
  found = [];
  took = takes_none l;
  rises = omega arith;
  carried = refl;
  whole = tt;
  counted = sym z;
  within = omega arith;
  stands = subst (λ (o : Option Rejection). Stands o d [] []) (sym e) t;
}
