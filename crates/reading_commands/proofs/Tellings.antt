-- What was told, without the teller.
use Rattle.std.proofs.Common.{◌≡◌, ℕ, List, [], ◌∷◌, ◌++◌, Option, ◌⊎◌, inl, inr}
use Rattle.mos_lexer.specs.Units.{Found}
use Rattle.mos_lexer.specs.declared.kind.Kind.{Kind}
use Rattle.stream_commands.specs.Running.{Telling, IsBrokenOff, IsCutOff, IsNext, ToldBySome}
use Rattle.stream_commands.specs.Words.{IsDoneOf, IsRefusedOf}

module _ {T : Type 0} (by : T → Telling) (told : Telling) (tells : (t : T) (found : List Found) (text : List ℕ) → by t found text → told found text) where
  pub cut_off : (t : T) (lb la wb wa : Option (List ℕ)) → IsCutOff (by t) lb la wb wa → IsCutOff told lb la wb wa
  cut_off t lb la wb wa h = record { bytes = h.bytes; found = h.found; text = h.text; reads = h.reads; whole = h.whole; tells = tells t h.found h.text h.tells; writes = h.writes }

  next : (t : T) (last : ℕ → ℕ → List ℕ) (refusal : ℕ → Kind → List ℕ) (bytes : List ℕ) (found : List Found) (text more : List ℕ) → IsNext (by t) last refusal bytes found text more → IsNext told last refusal bytes found text more
  next t last refusal bytes found text more (inl (f, first, h)) = inl (f, first, tells t (found ++ f ∷ []) (text ++ more) h)
  next t last refusal bytes found text more (inr h) = inr h

  pub broken_off : (t : T) (last : ℕ → ℕ → List ℕ) (refusal : ℕ → Kind → List ℕ) (lb la wb wa : Option (List ℕ)) → IsBrokenOff (ToldBySome by) (by t) last refusal lb la wb wa → IsBrokenOff told told last refusal lb la wb wa
  broken_off t last refusal lb la wb wa h =
      let w = h.written in
      record {
        bytes = h.bytes;
        reads = h.reads;
        written = record {
          found = w.found;
          text = w.text;
          next = w.next;
          first = w.first;
          tells = tells w.tells.0 w.found w.text w.tells.1;
          tells_next = next t last refusal h.bytes w.found w.text w.next w.tells_next;
          between = w.between;
          writes = w.writes;
          writes_part = w.writes_part;
        };
      }

  pub done_of : (t : T) (last : ℕ → ℕ → List ℕ) (wb wa : Option (List ℕ)) (input : List ℕ) → IsDoneOf (by t) last wb wa input → IsDoneOf told last wb wa input
  done_of t last wb wa input h = record { found = h.found; text = h.text; stream = h.stream; tells = tells t h.found h.text h.tells; writes = h.writes }

  pub refused_of : (t : T) (refusal : ℕ → Kind → List ℕ) (wb wa : Option (List ℕ)) (input : List ℕ) → IsRefusedOf (by t) refusal wb wa input → IsRefusedOf told refusal wb wa input
  refused_of t refusal wb wa input h = record { found = h.found; text = h.text; place = h.place; kind = h.kind; rejected = h.rejected; tells = tells t h.found h.text h.tells; writes = h.writes }
