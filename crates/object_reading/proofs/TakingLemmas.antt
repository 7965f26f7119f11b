-- What reading the objects of a stream has taken.
use Rattle.std.proofs.Common.{◌≡◌, ℕ, ◌≤◌, Bool, true, false, List, [], ◌∷◌, ◌++◌, Result, Ok, Err, refl, sym, ap, ◌∙◌, subst, inl, inr}
use Rattle.std.specs.Prelude.{Option, Some, None, OnOk, IfErr}
use Rattle.mos_decoder.proofs.TellingLemmas.{told_rejected}
use Rattle.mos_decoder.specs.Bytes.{ByteStream, HasHanded, found_of}
use Rattle.mos_decoder.specs.Inputs.{refused, input_of}
use Rattle.mos_lexer.specs.declared.kind.Kind.{Kind}
use Rattle.mos_lexer.specs.Units.{Found}
use Rattle.mos_reader.specs.declared.found.Found.{Found as Read}
use Rattle.mos_reader.specs.declared.found.ReadFault.{ReadFault as DecoderFault}
use Rattle.mos_reader.specs.declared.found.ReadFault.TheVariants as decoder_faults
use Rattle.mos_values.specs.declared.message.Envelope.{Envelope}
use Rattle.mos_values.specs.declared.mos_obj.MosObj.{MosObj}
use Rattle.object_table.proofs.After.{after-more}
use Rattle.object_table.specs.Objects.{objects_after, objects_from, taken}
use Rattle.object_table.specs.Sizes.{list_size, size_limit}
use Rattle.stream_commands.proofs.RunLemmas.{handed_told, reads_whole}
use Rattle.stream_commands.specs.Running.{Reads, ReadsAll, ShowsAt, TellsAt}
use Rattle.object_reading.specs.Messages.{AllFit, AreObjects, AreTaken, IsMessage, IsObject, object_in}
use Rattle.object_reading.specs.Progress.{HasTaken, HasTakenAll, Takes, TakesAll, TakesMore, TakesObject, stopped_by}
use Rattle.object_reading.specs.Streams.{Explains, IsRead}
use Rattle.object_reading.specs.declared.fault.ObjectsFault.{ObjectsFault}
use Rattle.object_reading.specs.declared.fault.ObjectsFault.TheVariants.{Refused, NotObject, Full, ReadFault, NoMemory}

-- ---- one more object

are_more : (fs : List Found) (os : List MosObj) (f : Found) (o : MosObj) → AreObjects fs os → IsObject f o → AreObjects (fs ++ f ∷ []) (os ++ o ∷ [])
are_more [] [] f o h i = (i, tt)
are_more [] (x ∷ os) f o h i = absurd h
are_more (y ∷ fs) [] f o h i = absurd h
are_more (y ∷ fs) (x ∷ os) f o h i = (h.0, are_more fs os f o h.1 i)

fit_more : (before os : List MosObj) (o : MosObj) → AllFit before os → list_size (taken o (objects_from before os)) ≤ size_limit → AllFit before (os ++ o ∷ [])
fit_more before [] o h l = (l, tt)
fit_more before (x ∷ os) o h l = (h.0, fit_more (taken x before) os o h.1 l)

taken_more : (fs : List Found) (f : Found) (before after : List MosObj) → AreTaken fs before → TakesMore f before after → AreTaken (fs ++ f ∷ []) after
taken_more fs f before after h m =
    let e : after ≡ taken m.object (objects_after h.objects) = m.holds ∙ ap (λ (z : List MosObj). taken m.object z) h.after in
    record {
      objects = h.objects ++ m.object ∷ [];
      are = are_more fs h.objects f m.object h.are m.carries;
      fit = fit_more [] h.objects m.object h.fit (subst (λ (z : List MosObj). list_size z ≤ size_limit) e m.within);
      after = e ∙ sym (after-more h.objects m.object);
    }

-- ---- one message

-- what taking an object comes to is what taking its message comes to
pub takes_message : (f : Found) (e : Envelope) (o : Option MosObj) (number : ℕ) (before after : List MosObj) (r : Result (Unit {0}) ObjectsFault) → IsMessage f e → o ≡ object_in e.message → TakesObject o number before r after → Takes f number before r after
takes_message f e None number before after r m q h = subst (λ z. Takes f number before z after) (sym h) (record { envelope = e; message = m; carries = sym q }, refl)
takes_message f e (Some o) number before after (Ok u) m q h = record { object = o; carries = record { envelope = e; message = m; carries = sym q }; holds = h.0; within = h.1 }
takes_message f e (Some o) number before after (Err (Full n units)) m q h = record { object = o; carries = record { envelope = e; message = m; carries = sym q }; full = h.0; same = h.1 }
takes_message f e (Some o) number before after (Err NoMemory) m q h = tt
takes_message f e (Some o) number before after (Err (Refused place kind)) m q h = absurd h
takes_message f e (Some o) number before after (Err (NotObject n)) m q h = absurd h
takes_message f e (Some o) number before after (Err ReadFault) m q h = absurd h

-- ---- message after message

module _ (at_end : Bool) (bytes : List ℕ) (s t : ByteStream) where
  pub has_taken_more : (f : Read) (before after : List MosObj) → ((found : List Found) → HasHanded s bytes found → TellsAt at_end bytes found (Ok (Some f)) t) → HasTaken bytes s before → TakesMore (found_of f) before after → HasTaken bytes t after
  has_taken_more f before after tells h m = record {
    found = h.found ++ found_of f ∷ [];
    handed = handed_told at_end bytes h.found f t (tells h.found h.handed);
    took = taken_more h.found (found_of f) before after h.took m;
  }

  pub takes_fault : (f : Read) (n : ℕ) (before after : List MosObj) (k : ObjectsFault) → ((found : List Found) → HasHanded s bytes found → TellsAt at_end bytes found (Ok (Some f)) t) → HasTaken bytes s before → n ≡ s.count
      → Takes (found_of f) n before (Err k) after → TakesAll at_end bytes (Err k) t after
  takes_fault f n before after (Refused place kind) tells h e m = absurd m
  takes_fault f n before after (NotObject number) tells h e m = record {
    found = h.found;
    table = before;
    took = h.took;
    count = m.1 ∙ (e ∙ h.handed.count);
    next = found_of f;
    first = (t, handed_told at_end bytes h.found f t (tells h.found h.handed));
    other = m.0;
  }
  takes_fault f n before after (Full number units) tells h e m = record {
    found = h.found;
    table = before;
    took = h.took;
    count = m.same ∙ (e ∙ h.handed.count);
    next = found_of f;
    first = (t, handed_told at_end bytes h.found f t (tells h.found h.handed));
    object = m.object;
    carries = m.carries;
    full = m.full;
  }
  takes_fault f n before after ReadFault tells h e m = absurd m
  takes_fault f n before after NoMemory tells h e m = tt

-- no message is left
pub has_taken_all : (at_end : Bool) (bytes : List ℕ) (s t : ByteStream) (table : List MosObj) → ((found : List Found) → HasHanded s bytes found → TellsAt at_end bytes found (Ok None) t) → HasTaken bytes s table → HasTakenAll at_end bytes t table
has_taken_all false bytes s t table tells h = let r = tells h.found h.handed in record { here = record { found = h.found; handed = r.0; took = h.took }; all = r.1 }
has_taken_all true bytes s t table tells h = let r = tells h.found h.handed in record { here = record { found = h.found; handed = r.0; took = h.took }; all = r.1 }

shown : (at_end : Bool) (bytes : List ℕ) (found : List Found) (place : ℕ) (k : Kind) (t : ByteStream) → TellsAt at_end bytes found (Err (decoder_faults.Rejected place k)) t
    → (input_of bytes ≡ refused found place k) × ShowsAt at_end bytes place k
shown true bytes found place k t h = (h, tt)
shown false bytes found place k t h = (told_rejected bytes found place k h, (h.0, h.2))

-- the decoder stopped
pub decoder_stopped : (at_end : Bool) (bytes : List ℕ) (s t : ByteStream) (table : List MosObj) (fault : DecoderFault) → ((found : List Found) → HasHanded s bytes found → TellsAt at_end bytes found (Err fault) t) → HasTaken bytes s table
    → TakesAll at_end bytes (Err (stopped_by fault)) t table
decoder_stopped at_end bytes s t table (decoder_faults.Rejected place kind) tells h =
    let q = shown at_end bytes h.found place kind t (tells h.found h.handed) in
    (record { found = h.found; table = table; took = h.took; input = q.0 }, q.1)
decoder_stopped at_end bytes s t table decoder_faults.NoMemory tells h = tt

-- more bytes are fed
pub taken_fed : (before more : List ℕ) (s t : ByteStream) (table : List MosObj) → ((found : List Found) → HasHanded s before found → HasHanded t (before ++ more) found) → HasTaken before s table → HasTaken (before ++ more) t table
taken_fed before more s t table f h = record { found = h.found; handed = f h.found h.handed; took = h.took }

-- ---- how reading ends

module _ (x y : Option (List ℕ)) (bytes : List ℕ) (s : ByteStream) (table : List MosObj) where
  pub ends_read : (r : Result (Unit {0}) ObjectsFault) → ReadsAll x y bytes → TakesAll true bytes r s table → OnOk r (IsRead x y table)
  ends_read (Ok u) a h = record { bytes = bytes; found = h.here.found; reads = a; input = h.all; took = h.here.took }
  ends_read (Err k) a h = tt

  ends_by : (f g : ℕ) (k : ObjectsFault) → ReadsAll x y bytes → TakesAll true bytes (Err k) s table → Explains x y f g k
  ends_by f g (Refused place kind) a h = (bytes, inr a, h.0)
  ends_by f g (NotObject number) a h = (bytes, reads_whole x y bytes a, h)
  ends_by f g (Full number units) a h = (bytes, reads_whole x y bytes a, h)
  ends_by f g ReadFault a h = absurd h
  ends_by f g NoMemory a h = tt

  pub ends_fault : (f g : ℕ) (r : Result (Unit {0}) ObjectsFault) → ReadsAll x y bytes → TakesAll true bytes r s table → IfErr r (λ k. Explains x y f g k)
  ends_fault f g (Ok u) a h = tt
  ends_fault f g (Err k) a h = ends_by f g k a h

  -- before the end
  pub stops_by : (f g : ℕ) (k : ObjectsFault) → Reads x y bytes → TakesAll false bytes (Err k) s table → Explains x y f g k
  stops_by f g (Refused place kind) a h = (bytes, inl (a, h.1), h.0)
  stops_by f g (NotObject number) a h = (bytes, a, h)
  stops_by f g (Full number units) a h = (bytes, a, h)
  stops_by f g ReadFault a h = absurd h
  stops_by f g NoMemory a h = tt
