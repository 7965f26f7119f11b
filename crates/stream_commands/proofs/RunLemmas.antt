-- What a run has written.
use Rattle.std.proofs.Common.{◌≡◌, ℕ, ◌<◌, ◌≤◌, ◌+◌, ◌^◌, Bool, true, false, List, [], ◌∷◌, ◌++◌, length, take, unwrap_or, Result, Ok, Err, refl, sym, ap, ◌∙◌, subst, arith, inl, inr, ◌⊎◌}
use Rattle.std.specs.Prelude.{Option, Some, None, ⊤}
use Rattle.std.proofs.lemmas.List.{append_assoc, append-nil, length-append}
use Rattle.mos_fields.specs.Characters.{units_in}
use Rattle.mos_io.specs.Bytes.{Appends, AppendsFront, Falls, IsAtEnd, Takes}
use Rattle.mos_io.specs.Counts.{Rose, last_count}
use Rattle.mos_lexer.specs.declared.kind.Kind.{Kind}
use Rattle.mos_lexer.specs.Units.{Found, StreamReader, start_reader, start_stream, stream_units, rejects_stream}
use Rattle.mos_reader.specs.declared.found.Found.{Found as Read}
use Rattle.mos_reader.specs.declared.found.ReadFault.{ReadFault}
use Rattle.mos_reader.specs.declared.found.ReadFault.TheVariants.{Rejected, NoMemory}
use Rattle.mos_decoder.specs.Inputs.{Input, whole, refused, input_of}
use Rattle.mos_decoder.specs.Bytes.{ByteStream, HasHanded, Tells, TellsEnd, found_of}
use Rattle.mos_reader.specs.Answers.{fed}
use Rattle.mos_decoder.proofs.TellingLemmas.{told_rejected}
use Rattle.mos_decoder.proofs.PairLemmas.{few_units}
use Rattle.stream_commands.specs.declared.status.Status.{Status}
use Rattle.stream_commands.specs.declared.status.Status.TheVariants as statuses
use Rattle.stream_commands.specs.Running.{IsBounded, Reads, ReadsAll, Telling, IsDone, IsRefused, IsShown, ShowsAt, HasHeard, HasHeardAll, HasRefused, TellsAt, HeardAt, Hears, TellsMore, TellsPart, StopsPart, WritesText, Refuses, Stops, EndsSo, IsBegun, IsCutOff, AreFirst, IsNext, ToldBySome, IsPartWritten, IsBrokenOff}

-- ---- what was written

pub appends_nothing : (a b : Option (List ℕ)) → b ≡ a → Appends a b []
appends_nothing None b e = e
appends_nothing (Some w) b e = e ∙ ap Some (sym (append-nil w))

pub appends_both : (a b c : Option (List ℕ)) (x y : List ℕ) → Appends a b x → Appends b c y → Appends a c (x ++ y)
appends_both None b c x y e f = subst (λ z. Appends z c y) e f
appends_both (Some w) b c x y e f = (subst (λ z. Appends z c y) e f) ∙ ap Some (append_assoc w x y)

pub rose_after : (a b c : ℕ) → a ≤ b → Rose b c → Rose a c
rose_after a b c h (inl r) = inl (omega (arith, h, r))
rose_after a b c h (inr r) = inr r

-- ---- a text that isn't written

-- what is told is written
pub told_more : (old new : Telling) (f : Found) (a b : Option (List ℕ)) (e g : ℕ) (more : List ℕ) → ((found : List Found) (text : List ℕ) → old found text → new (found ++ f ∷ []) (text ++ more)) → Appends a b more → TellsMore old new f a b e g (Ok tt)
told_more old new f a b e g more h w = λ found text k. (more, h found text k, w)

pub untold : (old new : Telling) (f : Found) (text : List ℕ) (a b : Option (List ℕ)) (e g : ℕ) (k : Status) → WritesText text a b e g (Err k) → TellsMore old new f a b e g (Err k)
untold old new f text a b e g statuses.Done h = absurd h
untold old new f text a b e g statuses.Refused h = absurd h
untold old new f text a b e g statuses.Usage h = absurd h
untold old new f text a b e g statuses.ReadFault h = absurd h
untold old new f text a b e g statuses.WriteFault h = h
untold old new f text a b e g statuses.NoMemory h = h

pub refuses_fault : (text : List ℕ) (a b : Option (List ℕ)) (f g : ℕ) (k : Status) → WritesText text a b f g (Err k) → Refuses text a b f g k
refuses_fault text a b f g statuses.Done h = absurd h
refuses_fault text a b f g statuses.Refused h = absurd h
refuses_fault text a b f g statuses.Usage h = absurd h
refuses_fault text a b f g statuses.ReadFault h = absurd h
refuses_fault text a b f g statuses.WriteFault h = h
refuses_fault text a b f g statuses.NoMemory h = h

pub handed_told : (at_end : Bool) (bytes : List ℕ) (found : List Found) (f : Read) (t : ByteStream) → TellsAt at_end bytes found (Ok (Some f)) t → HasHanded t bytes (found ++ found_of f ∷ [])
handed_told true bytes found f t h = h
handed_told false bytes found f t h = h

has_refused : (at_end : Bool) (bytes : List ℕ) (found : List Found) (place : ℕ) (k : Kind) (t : ByteStream) → TellsAt at_end bytes found (Err (Rejected place k)) t
    → (input_of bytes ≡ refused found place k) × ShowsAt at_end bytes place k
has_refused true bytes found place k t h = (h, tt)
has_refused false bytes found place k t h = (told_rejected bytes found place k h, (h.0, h.2))

-- ---- a message

pub heard_more : (old new : Telling) (at_end : Bool) (bytes : List ℕ) (s t : ByteStream) (start a b : Option (List ℕ)) (e g : ℕ) (f : Read)
    → ((found : List Found) → HasHanded s bytes found → TellsAt at_end bytes found (Ok (Some f)) t) → HasHeard old bytes s start a → TellsMore old new (found_of f) a b e g (Ok tt) → HasHeard new bytes t start b
heard_more old new at_end bytes s t start a b e g f tells h w =
    let m = w h.found h.text h.tells in
    record {
      found = h.found ++ found_of f ∷ [];
      text = h.text ++ m.0;
      handed = handed_told at_end bytes h.found f t (tells h.found h.handed);
      tells = m.1;
      writes = appends_both start a b h.text m.0 h.writes m.2;
    }

-- ---- more bytes

pub heard_fed : (told : Telling) (before more : List ℕ) (s t : ByteStream) (start a : Option (List ℕ)) → ((found : List Found) → HasHanded s before found → HasHanded t (before ++ more) found) → HasHeard told before s start a → HasHeard told (before ++ more) t start a
heard_fed told before more s t start a f h = record { found = h.found; text = h.text; handed = f h.found h.handed; tells = h.tells; writes = h.writes }

module _ (told : Telling) (refusal : ℕ → Kind → List ℕ) where
  -- a text that wasn't written
  pub hears_fault : (old : Telling) (m : Found) (at_end : Bool) (bytes : List ℕ) (k : Status) (s : ByteStream) (start a b : Option (List ℕ)) (e f g : ℕ) → e ≤ f → TellsMore old told m a b f g (Err k) → Hears at_end told refusal bytes (Err k) s start b e g
  hears_fault old m at_end bytes statuses.Done s start a b e f g l h = absurd h
  hears_fault old m at_end bytes statuses.Refused s start a b e f g l h = absurd h
  hears_fault old m at_end bytes statuses.Usage s start a b e f g l h = absurd h
  hears_fault old m at_end bytes statuses.ReadFault s start a b e f g l h = absurd h
  hears_fault old m at_end bytes statuses.WriteFault s start a b e f g l h = rose_after e f g l h
  hears_fault old m at_end bytes statuses.NoMemory s start a b e f g l h = tt

  -- ---- no more of them

  pub heard_all : (at_end : Bool) (bytes : List ℕ) (s t : ByteStream) (start a : Option (List ℕ))
      → ((found : List Found) → HasHanded s bytes found → TellsAt at_end bytes found (Ok None) t) → HasHeard told bytes s start a → HeardAt at_end told bytes t start a
  heard_all false bytes s t start a tells h = let r = tells h.found h.handed in record { heard = record { found = h.found; text = h.text; handed = r.0; tells = h.tells; writes = h.writes }; whole = r.1 }
  heard_all true bytes s t start a tells h = let r = tells h.found h.handed in record { heard = record { found = h.found; text = h.text; handed = r.0; tells = h.tells; writes = h.writes }; input = r.1 }

  -- ---- a rejection

  -- what refusing comes to
  pub refused_heard : (at_end : Bool) (bytes : List ℕ) (place : ℕ) (kind : Kind) (s t : ByteStream) (start a b : Option (List ℕ)) (e f g : ℕ) (k : Status)
      → ((found : List Found) → HasHanded s bytes found → TellsAt at_end bytes found (Err (Rejected place kind)) t) → HasHeard told bytes s start a → e ≤ f → Refuses (refusal place kind) a b f g k → Hears at_end told refusal bytes (Err k) t start b e g
  refused_heard at_end bytes place kind s t start a b e f g statuses.Done tells h l r = absurd r
  refused_heard at_end bytes place kind s t start a b e f g statuses.Usage tells h l r = absurd r
  refused_heard at_end bytes place kind s t start a b e f g statuses.ReadFault tells h l r = absurd r
  refused_heard at_end bytes place kind s t start a b e f g statuses.WriteFault tells h l r = rose_after e f g l r
  refused_heard at_end bytes place kind s t start a b e f g statuses.NoMemory tells h l r = tt
  refused_heard at_end bytes place kind s t start a b e f g statuses.Refused tells h l r =
      let q = has_refused at_end bytes h.found place kind t (tells h.found h.handed) in
      record {
        found = h.found;
        text = h.text;
        place = place;
        kind = kind;
        input = q.0;
        shows = q.1;
        tells = h.tells;
        writes = appends_both start a b h.text (refusal place kind) h.writes r;
      }

  -- what stopping at a fault comes to
  pub stopped_heard : (at_end : Bool) (bytes : List ℕ) (fault : ReadFault) (s t : ByteStream) (start a b : Option (List ℕ)) (e f g : ℕ) (k : Status)
      → ((found : List Found) → HasHanded s bytes found → TellsAt at_end bytes found (Err fault) t) → HasHeard told bytes s start a → e ≤ f → Stops refusal fault a b f g k → Hears at_end told refusal bytes (Err k) t start b e g
  stopped_heard at_end bytes (Rejected place kind) s t start a b e f g k tells h l r = refused_heard at_end bytes place kind s t start a b e f g k tells h l r
  stopped_heard at_end bytes NoMemory s t start a b e f g k tells h l r = subst (λ z. Hears at_end told refusal bytes (Err z) t start b e g) (sym r) tt

-- ---- the end of a run

module _ (told : Telling) (last : ℕ → ℕ → List ℕ) (refusal : ℕ → Kind → List ℕ) where
  pub ends_fault : (bytes : List ℕ) (s : ByteStream) (start b : Option (List ℕ)) (f g : ℕ) (k : Status) → Hears true told refusal bytes (Err k) s start b f g → EndsSo told last refusal bytes k start b f g
  ends_fault bytes s start b f g statuses.Done h = absurd h
  ends_fault bytes s start b f g statuses.Refused h = h
  ends_fault bytes s start b f g statuses.Usage h = absurd h
  ends_fault bytes s start b f g statuses.ReadFault h = absurd h
  ends_fault bytes s start b f g statuses.WriteFault h = h
  ends_fault bytes s start b f g statuses.NoMemory h = h

  pub ends_unwritten : (bytes text : List ℕ) (start a b : Option (List ℕ)) (e f g : ℕ) (k : Status) → e ≤ f → WritesText text a b f g (Err k) → EndsSo told last refusal bytes k start b e g
  ends_unwritten bytes text start a b e f g statuses.Done l h = absurd h
  ends_unwritten bytes text start a b e f g statuses.Refused l h = absurd h
  ends_unwritten bytes text start a b e f g statuses.Usage l h = absurd h
  ends_unwritten bytes text start a b e f g statuses.ReadFault l h = absurd h
  ends_unwritten bytes text start a b e f g statuses.WriteFault l h = rose_after e f g l h
  ends_unwritten bytes text start a b e f g statuses.NoMemory l h = tt

  pub ends_done : (bytes : List ℕ) (s : ByteStream) (start a b : Option (List ℕ)) (f g : ℕ) → (h : HasHeardAll told bytes s start a) → Appends a b (last (length h.heard.found) (length (units_in bytes))) → EndsSo told last refusal bytes statuses.Done start b f g
  ends_done bytes s start a b f g h e = (h.heard.found, h.heard.text, h.input, h.heard.tells, appends_both start a b h.heard.text (last (length h.heard.found) (length (units_in bytes))) h.heard.writes e)

-- what the end says of each status
module _ (told : Telling) (last : ℕ → ℕ → List ℕ) (refusal : ℕ → Kind → List ℕ) (bytes : List ℕ) (start b : Option (List ℕ)) (f g : ℕ) (k : Status) (h : EndsSo told last refusal bytes k start b f g) where
  ended_as : (j : Status) → k ≡ j → EndsSo told last refusal bytes j start b f g
  ended_as j e = subst (λ z. EndsSo told last refusal bytes z start b f g) e h

  pub ended_done : (x y : Option (List ℕ)) → ReadsAll x y bytes → k ≡ statuses.Done → IsDone told last x y start b
  ended_done x y r e = let p = ended_as statuses.Done e in record { bytes = bytes; found = p.0; text = p.1; reads = r; input = p.2; tells = p.3; writes = p.4 }

  pub ended_refused : (x y : Option (List ℕ)) → ReadsAll x y bytes → k ≡ statuses.Refused → IsRefused told refusal x y start b
  ended_refused x y r e =
      let p = ended_as statuses.Refused e in
      record { bytes = bytes; found = p.found; text = p.text; place = p.place; kind = p.kind; reads = inr r; input = p.input; tells = p.tells; writes = p.writes }

  pub ended_usage : k ≡ statuses.Usage → ⊥
  ended_usage e = ended_as statuses.Usage e

  pub ended_read_fault : k ≡ statuses.ReadFault → ⊥
  ended_read_fault e = ended_as statuses.ReadFault e

  pub ended_write_fault : (i : ℕ) → i ≤ f → k ≡ statuses.WriteFault → Rose i g
  ended_write_fault i l e = rose_after i f g l (ended_as statuses.WriteFault e)

-- what a piece says of each status
module _ (told : Telling) (refusal : ℕ → Kind → List ℕ) (bytes : List ℕ) (s : ByteStream) (start b : Option (List ℕ)) (f g : ℕ) (k : Status) (h : Hears false told refusal bytes (Err k) s start b f g) where
  heard_as : (j : Status) → k ≡ j → Hears false told refusal bytes (Err j) s start b f g
  heard_as j e = subst (λ z. Hears false told refusal bytes (Err z) s start b f g) e h

  pub heard_done : k ≡ statuses.Done → ⊥
  heard_done e = heard_as statuses.Done e

  pub heard_refused : (x y : Option (List ℕ)) → Reads x y bytes → k ≡ statuses.Refused → IsRefused told refusal x y start b
  heard_refused x y r e =
      let p = heard_as statuses.Refused e in
      record { bytes = bytes; found = p.found; text = p.text; place = p.place; kind = p.kind; reads = inl (r, p.shows); input = p.input; tells = p.tells; writes = p.writes }

  pub heard_usage : k ≡ statuses.Usage → ⊥
  heard_usage e = heard_as statuses.Usage e

  pub heard_read_fault : k ≡ statuses.ReadFault → ⊥
  heard_read_fault e = heard_as statuses.ReadFault e

  pub heard_write_fault : (i : ℕ) → i ≤ f → k ≡ statuses.WriteFault → Rose i g
  heard_write_fault i l e = rose_after i f g l (heard_as statuses.WriteFault e)

-- ---- the source fails

pub begun_nothing : IsBegun [] []
unfolding units_in stream_units
begun_nothing = (0, start_reader, refl)

pub cut_off : (told : Telling) (bytes : List ℕ) (s : ByteStream) (x y z start b : Option (List ℕ)) → Reads x y bytes → z ≡ y → (h : HasHeard told bytes s start b) → IsBegun bytes h.found → IsCutOff told x z start b
cut_off told bytes s x y z start b r e h w = record { bytes = bytes; found = h.found; text = h.text; reads = subst (λ o. Reads x o bytes) (sym e) r; whole = w; tells = h.tells; writes = h.writes }

-- ---- the sink fails

pub first_of : (bytes : List ℕ) (s : ByteStream) (found : List Found) → HasHanded s bytes found → AreFirst bytes found
first_of bytes s found h = (s, h)

module _ {T : Type 0} (told : T → Telling) (last : ℕ → ℕ → List ℕ) (refusal : ℕ → Kind → List ℕ) (bytes : List ℕ) (s : ByteStream) (start a b : Option (List ℕ)) where
  -- in the text of a message
  pub message_part : (old new : T) (at_end : Bool) (t : ByteStream) (f : Read) → ((found : List Found) → HasHanded s bytes found → TellsAt at_end bytes found (Ok (Some f)) t) → HasHeard (told old) bytes s start a
      → TellsPart (told old) (told new) (found_of f) a b → IsPartWritten (ToldBySome told) (told new) last refusal bytes start b
  message_part old new at_end t f tells h p =
      let m = p h.found h.text h.tells in
      record {
        found = h.found;
        text = h.text;
        next = m.0;
        first = (s, h.handed);
        tells = (old, h.tells);
        tells_next = inl (found_of f, (t, handed_told at_end bytes h.found f t (tells h.found h.handed)), m.1);
        between = a;
        writes = h.writes;
        writes_part = m.2;
      }

  -- in the text of a rejection
  pub refusal_part : (teller : T) (at_end : Bool) (t : ByteStream) (fault : ReadFault) → ((found : List Found) → HasHanded s bytes found → TellsAt at_end bytes found (Err fault) t) → HasHeard (told teller) bytes s start a
      → StopsPart refusal fault a b → IsPartWritten (ToldBySome told) (told teller) last refusal bytes start b
  refusal_part teller at_end t NoMemory tells h p = absurd p
  refusal_part teller at_end t (Rejected place kind) tells h p =
      let q = has_refused at_end bytes h.found place kind t (tells h.found h.handed) in
      record {
        found = h.found;
        text = h.text;
        next = refusal place kind;
        first = (s, h.handed);
        tells = (teller, h.tells);
        tells_next = inr (inr (place, kind, q.0, refl));
        between = a;
        writes = h.writes;
        writes_part = p;
      }

  -- in the text behind the last message
  pub last_part : (teller : T) → (h : HasHeardAll (told teller) bytes s start a) → AppendsFront a b (last (length h.heard.found) (length (units_in bytes))) → IsPartWritten (ToldBySome told) (told teller) last refusal bytes start b
  last_part teller h p = record {
    found = h.heard.found;
    text = h.heard.text;
    next = last (length h.heard.found) (length (units_in bytes));
    first = (s, h.heard.handed);
    tells = (teller, h.heard.tells);
    tells_next = inr (inl (h.input, refl));
    between = a;
    writes = h.heard.writes;
    writes_part = p;
  }

-- what is told of the messages may be said in other words
pub broken_on : (before told other : Telling) (last : ℕ → ℕ → List ℕ) (refusal : ℕ → Kind → List ℕ) (x y a b : Option (List ℕ)) → ((found : List Found) (text : List ℕ) → before found text → other found text)
    → ((found : List Found) (text : List ℕ) → told found text → other found text) → IsBrokenOff before told last refusal x y a b → IsBrokenOff other other last refusal x y a b
broken_on before told other last refusal x y a b f g h =
    let w = h.written in
    record {
      bytes = h.bytes;
      reads = h.reads;
      written = record {
        found = w.found;
        text = w.text;
        next = w.next;
        first = w.first;
        tells = f w.found w.text w.tells;
        tells_next = next_on w.found w.text w.next w.tells_next;
        between = w.between;
        writes = w.writes;
        writes_part = w.writes_part;
      };
    }
  where
    next_on : (found : List Found) (text next : List ℕ) → IsNext told last refusal h.bytes found text next → IsNext other last refusal h.bytes found text next
    next_on found text next (inl (m, p, t)) = inl (m, p, g (found ++ m ∷ []) (text ++ next) t)
    next_on found text next (inr n) = inr n

-- the input was read to its end
pub reads_whole : (x y : Option (List ℕ)) (bytes : List ℕ) → ReadsAll x y bytes → Reads x y bytes
reads_whole x y bytes r = λ left e. let p = r left e in ([], sym p.0 ∙ sym (append-nil bytes), p.1)

-- ---- the source

pub reads_all : (a b c : Option (List ℕ)) (bytes buf : List ℕ) (n : ℕ) → n ≡ 0 → Reads a b bytes → IsAtEnd b → Takes b c (take n buf) → ReadsAll a c bytes
reads_all a b c bytes buf n z r i t = λ left e.
    let p = r left e in
    let rest = p.0 in
    let nil : rest ≡ [] = subst IsAtEnd p.2 i in
    let q = subst (λ o. Takes o c (take n buf)) p.2 t in
    let none : take n buf ++ q.0 ≡ [] = sym q.1 ∙ nil in
    (sym (p.1 ∙ (ap (λ y. bytes ++ y) nil ∙ append-nil bytes)), q.2 ∙ ap Some (behind_nil (take n buf) q.0 none))
  where
    behind_nil : (x y : List ℕ) → x ++ y ≡ [] → y ≡ []
    behind_nil [] y e = e
    behind_nil (u ∷ x) y e = absurd (cc)

pub reads_more : (a b c : Option (List ℕ)) (bytes more : List ℕ) → Reads a b bytes → Takes b c more → Reads a c (bytes ++ more)
reads_more a b c bytes more r t = λ left e.
    let p = r left e in
    let q = subst (λ o. Takes o c more) p.2 t in
    (q.0, p.1 ∙ (ap (λ y. bytes ++ y) q.1 ∙ sym (append_assoc bytes more q.0)), q.2)

pub reads_none : (a : Option (List ℕ)) → Reads a a []
reads_none a = λ left e. (left, refl, e)

pub falls_bounded : (b c : Option ℕ) (n : ℕ) → IsBounded b → Falls b c n → IsBounded c × (unwrap_or b 0 ≡ unwrap_or c 0 + n)
falls_bounded None c n i f = absurd i
falls_bounded (Some b) c n i (rest, e, g) = (subst IsBounded (sym g) (let l : rest < 2 ^ 64 = omega (arith, i, e) in l), e ∙ ap (λ z. unwrap_or z 0 + n) (sym g))

bounded_value : (b : Option ℕ) → IsBounded b → unwrap_or b 0 < 2 ^ 64
bounded_value None i = absurd i
bounded_value (Some b) i = i

pub room_left : (d : ByteStream) (bytes : List ℕ) (found : List Found) (a b c : Option ℕ) (n : ℕ) → HasHanded d bytes found → IsBounded a → IsBounded b → unwrap_or a 0 ≡ unwrap_or b 0 + length bytes → Falls b c n → fed d.stream + n < 2 ^ 64
room_left d bytes found a b c n h i j s f =
    let u = h.units in
    let l = few_units None bytes in
    let v = bounded_value a i in
    let w = (falls_bounded b c n j f).1 in
    omega (arith, u, l, v, w, s)

pub spent_more : (a b c : Option ℕ) (n : ℕ) (bytes more : List ℕ) → IsBounded b → unwrap_or a 0 ≡ unwrap_or b 0 + length bytes → Falls b c n → length more ≡ n → unwrap_or a 0 ≡ unwrap_or c 0 + length (bytes ++ more)
spent_more a b c n bytes more i s f l =
    let w = (falls_bounded b c n i f).1 in
    let m = length-append bytes more in
    omega (arith, w, m, s, l)
