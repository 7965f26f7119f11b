-- What reading answers where what is held begins with an encoding.
use Rattle.std.proofs.Common.{◌≡◌, false, ℕ, List, ◌++◌, Option, Some, None, Result, Ok, Err, sym, ap, subst, ◌∙◌}
use Rattle.mos_tables.specs.Events.{Event}
use Rattle.mos_lexer.specs.Encodings.{Encodes}
use Rattle.mos_lexer.specs.Laws.{EncodingsAreRead}
use Rattle.mos_lexer.specs.Units.{start_reader, UnitRun, completed, unit_run}
use Rattle.mos_reader.specs.declared.found.Found.{Found}
use Rattle.mos_reader.specs.declared.found.ReadFault.{ReadFault}
use Rattle.mos_reader.specs.declared.found.ReadFault.TheVariants.{Rejected, NoMemory}
use Rattle.mos_reader.specs.Answers.{Stream, answer_of, stream_behind, ComesTo, Answers}

-- the answer is the message with this value, and these code units stand behind it; or there is no memory
abbrev pub AnswersFirst : Result (Option Found) ReadFault → Stream → List Event → List ℕ → Type 0
AnswersFirst (Ok (Some f)) t v rest = (f.value ≡ v) × (t.held ≡ rest)
AnswersFirst (Ok None) t v rest = ⊥
AnswersFirst (Err (Rejected place k)) t v rest = ⊥
AnswersFirst (Err NoMemory) t v rest = Unit {0}

-- the value of the message, if there is one
abbrev value_in : Result (Option Found) ReadFault → List Event → List Event
value_in (Ok (Some f)) none = f.value
value_in (Ok None) none = none
value_in (Err k) none = none

completed_answer : (run : UnitRun) (began : ℕ) (v : List Event) (rest : List ℕ) (s t : Stream) (r : Result (Option Found) ReadFault) → run ≡ completed began v rest → ComesTo run s r t → AnswersFirst r t v rest
completed_answer run began v rest s t (Ok (Some f)) e c = (sym (ap (λ z. value_in z v) (sym (ap (answer_of s.base) e) ∙ c.0)), ap (λ (z : Stream). z.held) (c.1 ∙ ap (stream_behind s) e))
completed_answer run began v rest s t (Ok None) e c = let z : answer_of s.base (completed began v rest) ≡ Ok None = sym (ap (answer_of s.base) e) ∙ c.0 in absurd cc
completed_answer run began v rest s t (Err (Rejected place k)) e c = let z : answer_of s.base (completed began v rest) ≡ Err (Rejected place k) = sym (ap (answer_of s.base) e) ∙ c.0 in absurd cc
completed_answer run began v rest s t (Err NoMemory) e c = tt

pub first_answer : EncodingsAreRead → (s t : Stream) (r : Result (Option Found) ReadFault) → s.fault ≡ None → (v : List Event) (us rest : List ℕ) → s.held ≡ us ++ rest → Encodes v us → Answers false s.fault s r t → AnswersFirst r t v rest
first_answer law s t r clean v us rest held h a =
    let q = law v us rest h in
    let run : unit_run start_reader s.held ≡ completed q.0 v rest = ap (unit_run start_reader) held ∙ q.1 in
    let P : Option ReadFault → Type 0 = λ k. Answers false k s r t in
    let c : Answers false None s r t = subst P clean a in
    completed_answer (unit_run start_reader s.held) q.0 v rest s t r run c
