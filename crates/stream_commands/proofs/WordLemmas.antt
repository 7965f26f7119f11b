-- What the machine's words of a run say in words of the grammar.
use Rattle.std.proofs.Common.{◌≡◌, ℕ, Bool, true, List, ◌++◌, length, Option, Some, sym, ap, subst, ◌∙◌, ◌⊎◌, inl, inr}
use Rattle.std.specs.Prelude.{nat_lt}
use Rattle.std.specs.List.{list_all}
use Rattle.std.proofs.lemmas.Bool.{and_parts}
use Rattle.std.proofs.lemmas.List.Folds.{list_all-append}
use Rattle.mos_fields.specs.Characters.{units_in}
use Rattle.mos_io.specs.Bytes.{Appends}
use Rattle.mos_lexer.specs.declared.kind.Kind.{Kind}
use Rattle.mos_lexer.specs.Units.{Found}
use Rattle.mos_rejections.specs.Laws.{values}
use Rattle.mos_decoder.specs.Inputs.{Input, whole, refused, is_odd, ended, input_of}
use Rattle.input_laws.specs.Words.{are_bytes, IsStream, ShowsRejection, IsRejected}
use Rattle.input_laws.specs.Laws.{InputIsExact, InputsAreExact, RefusalsAreShown, RejectionsStay}
use Rattle.stream_commands.specs.Running.{Telling, IsDone, IsRefused, IsShown, Reads, ReadsAll}
use Rattle.stream_commands.specs.Words.{IsDoneOf, IsRefusedOf}

front_bytes : (a b : List ℕ) → are_bytes (a ++ b) ≡ true → are_bytes a ≡ true
front_bytes a b e = (and_parts (are_bytes a) (are_bytes b) (sym (list_all-append (λ (u : ℕ). nat_lt u 256) a b) ∙ e)).0

same_refused : (fs gs : List Found) (p q : ℕ) (k l : Kind) → refused fs p k ≡ refused gs q l → fs ≡ gs
same_refused fs gs p q k l e = cc

module _ (exact : InputsAreExact) (shown : RefusalsAreShown) (stays : RejectionsStay) where
  pub done_of : (told : Telling) (last : ℕ → ℕ → List ℕ) (lb la wb wa : Option (List ℕ)) → IsDone told last lb la wb wa → (input : List ℕ) → lb ≡ Some input → are_bytes input ≡ true → IsDoneOf told last wb wa input
  done_of told last lb la wb wa d input e w =
      let r = d.reads input e in
      record {
        found = d.found;
        text = d.text;
        stream = subst (InputIsExact input) (ap input_of (sym r.0) ∙ d.input) (exact input w);
        tells = d.tells;
        writes = subst (λ (z : List ℕ). Appends wb wa (d.text ++ last (length d.found) (length (units_in z)))) r.0 d.writes;
      }

  rejected_by : (lb la : Option (List ℕ)) (bytes : List ℕ) (found : List Found) (place : ℕ) (k : Kind) → (Reads lb la bytes × IsShown bytes place k) ⊎ ReadsAll lb la bytes → input_of bytes ≡ refused found place k
      → (input : List ℕ) → lb ≡ Some input → are_bytes input ≡ true → IsRejected input (values found) place k
  rejected_by lb la bytes found place k (inl (reads, here)) is input e w =
      let r = reads input e in
      let s = here.0 in
      let run = here.1 in
      let v : are_bytes bytes ≡ true = front_bytes bytes r.0 (ap are_bytes (sym r.1) ∙ w) in
      let f : s.ready ≡ found = same_refused s.ready found place place k k (ap (ended (length (units_in bytes)) (is_odd bytes)) (sym run) ∙ is) in
      inl (subst (λ (z : List ℕ). ShowsRejection z (values found) place k) (sym r.1) (stays bytes r.0 (values found) place k (subst (λ (z : List Found). ShowsRejection bytes (values z) place k) f (shown bytes s place k v run))))
  rejected_by lb la bytes found place k (inr reads) is input e w =
      let r = reads input e in
      subst (InputIsExact input) (ap input_of (sym r.0) ∙ is) (exact input w)

  pub refused_of : (told : Telling) (refusal : ℕ → Kind → List ℕ) (lb la wb wa : Option (List ℕ)) → IsRefused told refusal lb la wb wa → (input : List ℕ) → lb ≡ Some input → are_bytes input ≡ true → IsRefusedOf told refusal wb wa input
  refused_of told refusal lb la wb wa d input e w = record {
    found = d.found;
    text = d.text;
    place = d.place;
    kind = d.kind;
    rejected = rejected_by lb la d.bytes d.found d.place d.kind d.reads d.input input e w;
    tells = d.tells;
    writes = d.writes;
  }
