-- What is written of a run: a line for each event and the state lines, or counts and the state lines.
use Rattle.std.specs.Prelude.{ℕ, ◌+◌, List, [], ◌∷◌, ◌++◌, Bool, true, false, not, if◌then◌else◌, length, codes, bytes_eq}
use Rattle.std.specs.Fmt.{decimal}
use Rattle.world_laws.specs.Outcomes.{Outcome}
use Rattle.world_scripts.specs.Lines.{outcome_text, spaced}

-- the line of event `n`, which counts from 1
abbrev pub event_line : ℕ → Outcome → List ℕ
event_line n o = spaced (decimal n) (outcome_text o) ++ 10 ∷ []

-- the lines of events from number `n` on
abbrev pub event_lines : ℕ → List Outcome → List ℕ
event_lines n [] = []
event_lines n (o ∷ os) = event_line n o ++ event_lines (n + 1) os

-- The listing of a script's run, with the state lines of the world that it ended in.
abbrev pub listing : List Outcome → List ℕ → List ℕ
listing os state = event_lines 1 os ++ state

-- ---- the summary of `make N`

-- a command that was answered `OK`
abbrev pub is_accepted : Outcome → Bool
is_accepted (Outcome.Command text) = bytes_eq text (codes "OK")
is_accepted o = false

-- a command that was answered otherwise
abbrev pub is_refused : Outcome → Bool
is_refused (Outcome.Command text) = not (bytes_eq text (codes "OK"))
is_refused o = false

abbrev pub is_impossible : Outcome → Bool
is_impossible Outcome.Impossible = true
is_impossible o = false

-- of how many outcomes the test holds
abbrev pub count_of : (Outcome → Bool) → List Outcome → ℕ
count_of test [] = 0
count_of test (o ∷ os) = if test o then count_of test os + 1 else count_of test os

abbrev pub counted : List ℕ → ℕ → List ℕ
counted word n = spaced word (decimal n) ++ 10 ∷ []

-- The summary of a run: its counts, and the state lines of the world that it ended in.
abbrev pub summary : List Outcome → List ℕ → List ℕ
summary os state =
    counted (codes "events") (length os) ++ counted (codes "accepted") (count_of is_accepted os) ++ counted (codes "refused") (count_of is_refused os)
    ++ counted (codes "impossible") (count_of is_impossible os) ++ state
