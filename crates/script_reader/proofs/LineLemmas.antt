-- The lines of bytes, and what a line makes of a script.
use Rattle.std.proofs.Common.{◌≡◌, ℕ, ◌+◌, ◌<◌, ◌==◌, Bool, true, false, cond, List, [], ◌∷◌, ◌++◌, length, take, drop, refl, ap, ◌∙◌, arith}
use Rattle.std.specs.Prelude.{Option, Some, None, bytes_eq}
use Rattle.std.specs.List.{onto_first}
use Rattle.std.proofs.lemmas.List.{length-append, length-drop}
use Rattle.std.proofs.lemmas.Bool.Decides.{nat_tests}
use Rattle.std.proofs.lemmas.List.Splits.{slice_split-cons_no, slice_split-cons_yes}
use Rattle.world_laws.specs.World.{WorldEvent}
use Rattle.script_edits.specs.Words.{is_number, number_of}
use Rattle.world_scripts.specs.Events.{event_in, line_limit}
use Rattle.world_scripts.specs.Scripts.{RefusedAt, Rest, Reads, StopsAt, devices_in, devices_word, allowed_devices, then_rest, with_event, rest_of, with_devices, parts_script}
use Rattle.script_reader.specs.Readers.{lines_of, HasNoEnd, then_events, script_behind, number_behind}

-- ---- cutting

-- the lines of bytes are never none
with_first : (t : Bool) (b : ℕ) (parts : List (List ℕ)) → (p : List ℕ) × (ps : List (List ℕ)) × (parts ≡ p ∷ ps) → (p : List ℕ) × (ps : List (List ℕ)) × (cond t ([] ∷ parts) (onto_first b parts) ≡ p ∷ ps)
with_first true b parts h = ([], parts, refl)
with_first false b parts h = (b ∷ h.0, h.1, ap (onto_first b) h.2)

pub first_line : (bytes : List ℕ) → (p : List ℕ) × (ps : List (List ℕ)) × (lines_of bytes ≡ p ∷ ps)
first_line [] = ([], [], refl)
first_line (b ∷ bytes) = with_first (b == 10) b (lines_of bytes) (first_line bytes)

-- the first line begins with bytes that have no line feed
pub line_begun : (xs rest : List ℕ) → HasNoEnd xs → (p : List ℕ) × (ps : List (List ℕ)) × (lines_of (xs ++ rest) ≡ (xs ++ p) ∷ ps)
line_begun [] rest h = first_line rest
line_begun (b ∷ xs) rest (n, h) =
    let r = line_begun xs rest h in
    (r.0, r.1, slice_split-cons_no (λ x. x == 10) b (xs ++ rest) n ∙ ap (onto_first b) r.2)

pub line_ended : (xs rest : List ℕ) → HasNoEnd xs → lines_of (xs ++ 10 ∷ rest) ≡ xs ∷ lines_of rest
line_ended [] rest h = slice_split-cons_yes (λ b. b == 10) 10 rest refl
line_ended (b ∷ xs) rest (n, h) = slice_split-cons_no (λ x. x == 10) b (xs ++ 10 ∷ rest) n ∙ ap (onto_first b) (line_ended xs rest h)

pub line_last : (xs : List ℕ) → HasNoEnd xs → lines_of xs ≡ xs ∷ []
line_last [] h = refl
line_last (b ∷ xs) (n, h) = slice_split-cons_no (λ x. x == 10) b xs n ∙ ap (onto_first b) (line_last xs h)

-- ---- what is read behind events

pub stopped : (es : List WorldEvent) (n : ℕ) → then_events es (StopsAt n) ≡ StopsAt n
stopped [] n = refl
stopped (e ∷ es) n = ap (then_rest e) (stopped es n)

pub played : (es : List WorldEvent) → then_events es (Reads []) ≡ Reads es
played [] = refl
played (e ∷ es) = ap (then_rest e) (played es)

pub one_more : (es : List WorldEvent) (e : WorldEvent) (rest : Rest) → then_events (es ++ e ∷ []) rest ≡ then_events es (then_rest e rest)
one_more [] e rest = refl
one_more (f ∷ es) e rest = ap (then_rest f) (one_more es e rest)

-- ---- long lines

pub no_event : (line : List ℕ) → line_limit < length line → event_in line ≡ None
unfolding event_in
no_event line h = grind (arith, nat_tests)

no_number : (word : List ℕ) → 9 < length word → number_of word ≡ None
unfolding is_number
no_number word h = grind (arith, nat_tests)

if_devices : (t : Bool) (word : List ℕ) → number_of word ≡ None → cond t (allowed_devices (number_of word)) None ≡ None
if_devices true word h = ap allowed_devices h
if_devices false word h = refl

pub no_devices : (line : List ℕ) → line_limit < length line → devices_in line ≡ None
no_devices line h =
    let l = length-drop 8 line in
    if_devices (bytes_eq devices_word (take 8 line)) (drop 8 line) (no_number (drop 8 line) (omega (arith, h, l)))

-- ---- refusals

-- the line that isn't ended is refused
pub refused_event : (d : ℕ) (es : List WorldEvent) (rest : Rest) (n : ℕ) → rest ≡ StopsAt n → with_devices (Some d) (then_events es rest) ≡ RefusedAt n
refused_event d es rest n e = ap (λ r. with_devices (Some d) (then_events es r)) e ∙ ap (with_devices (Some d)) (stopped es n)

long_event : (n : ℕ) (line : List ℕ) (parts : List (List ℕ)) → line_limit < length line → rest_of n (line ∷ parts) ≡ StopsAt n
long_event n [] [] h = absurd (omega (arith, h))
long_event n (b ∷ bs) [] h = refl
long_event n line (part ∷ parts) h = ap (λ o. with_event n o (rest_of (n + 1) (part ∷ parts))) (no_event line h)

long_first : (line : List ℕ) (parts : List (List ℕ)) → line_limit < length line → parts_script (line ∷ parts) ≡ RefusedAt 1
long_first line [] h = refl
long_first line (part ∷ parts) h = ap (λ o. with_devices o (rest_of 2 (part ∷ parts))) (no_devices line h)

pub long_refused : (devices : Option ℕ) (es : List WorldEvent) (line : List ℕ) (parts : List (List ℕ)) → line_limit < length line → script_behind devices es (line ∷ parts) ≡ RefusedAt (number_behind devices (length es))
long_refused None es line parts h = long_first line parts h
long_refused (Some d) es line parts h = refused_event d es (rest_of (length es + 2) (line ∷ parts)) (length es + 2) (long_event (length es + 2) line parts h)

-- bytes of a line that is too long are refused, whatever follows
pub long_begun : (devices : Option ℕ) (es : List WorldEvent) (xs rest : List ℕ) → HasNoEnd xs → line_limit < length xs → script_behind devices es (lines_of (xs ++ rest)) ≡ RefusedAt (number_behind devices (length es))
long_begun devices es xs rest n h =
    let r = line_begun xs rest n in
    let l = length-append xs r.0 in
    ap (script_behind devices es) r.2 ∙ long_refused devices es (xs ++ r.0) r.1 (omega (arith, h, l))
