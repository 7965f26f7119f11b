-- What is said in a run, line by line.
use Rattle.std.specs.Prelude.{◌≡◌, ℕ, Bool, true, false, ◌&&◌, List, [], ◌∷◌, ◌++◌, codes}
use Rattle.std.specs.Fmt.{decimal}
use Rattle.mos_codec.specs.Codec.{encoding}
use Rattle.mos_io.specs.Counts.{counted}
use Rattle.mos_values.specs.declared.message.Envelope.{Envelope}
use Rattle.mos_values.specs.declared.message.Message.{Message}
use Rattle.edit_lines.specs.declared.asked.Asked.TheVariants as asks
use Rattle.edit_lines.specs.declared.request.Names.{Names}
use Rattle.edit_lines.specs.Asked.{asked_of}
use Rattle.edit_lines.specs.Answers.{answer_text, is_wanted}
use Rattle.edit_lines.specs.Requests.{numbered}
use Rattle.line_mistakes.specs.Mistakes.{line_mistake}
use Rattle.line_mistakes.specs.Texts.{mistake_text}
use Rattle.edit_runs.specs.declared.counts.Counts.{Counts}

-- ---- counts

abbrev pub start_counts : Counts
start_counts = record { number = 1; place = 1; good = true }

abbrev pub passed_counts : Counts → Counts
passed_counts c = record { number = c.number; place = counted c.place; good = c.good }

abbrev pub refused_counts : Counts → Counts
refused_counts c = record { number = c.number; place = counted c.place; good = false }

abbrev pub answered_counts : Bool → Counts → Counts
answered_counts wanted c = record { number = counted c.number; place = counted c.place; good = c.good && wanted }

-- ---- what is said

-- What a run counts, what it wrote to the connection, the messages that answered, what it printed of them, and what it noted
-- of lines that are no edit.
pub record Said : Type 0 where
  pub counts : Counts
  pub sent : List ℕ
  pub answers : List Envelope
  pub shown : List ℕ
  pub noted : List ℕ

abbrev pub nothing_said : Said
nothing_said = record { counts = start_counts; sent = []; answers = []; shown = []; noted = [] }

-- the note of a line that is no edit: its number, and its first mistake
abbrev pub note_text : ℕ → List ℕ → List ℕ
note_text place line = codes "line " ++ decimal place ++ codes ": " ++ mistake_text (line_mistake line) ++ 10 ∷ []

-- behind a line that is passed over
abbrev pub passed : Said → Said
passed s = record { counts = passed_counts s.counts; sent = s.sent; answers = s.answers; shown = s.shown; noted = s.noted }

-- behind a line that is no edit
abbrev pub refused : List ℕ → Said → Said
refused line s = record { counts = refused_counts s.counts; sent = s.sent; answers = s.answers; shown = s.shown; noted = s.noted ++ note_text s.counts.place line }

-- behind a line whose message had this answer
abbrev pub answered : Names → List ℕ → Message → Envelope → Said → Said
answered names line m e s = record {
  counts = answered_counts (is_wanted (numbered names s.counts.number m) e) s.counts;
  sent = s.sent ++ encoding (numbered names s.counts.number m);
  answers = s.answers ++ e ∷ [];
  shown = s.shown ++ answer_text (numbered names s.counts.number m) line e;
  noted = s.noted;
}

-- This is what is said of lines, one after another: one that asks nothing is passed over, of one that is no edit its mistake is noted, and the
-- message of any other is sent, has an answer, and that is printed.
pub data IsSaid (names : Names) : List (List ℕ) → Said → Type 0 where
  begins : IsSaid names [] nothing_said
  passes : (lines : List (List ℕ)) (line : List ℕ) (s : Said) → IsSaid names lines s → asked_of line ≡ asks.Nothing → IsSaid names (lines ++ line ∷ []) (passed s)
  refuses : (lines : List (List ℕ)) (line : List ℕ) (s : Said) → IsSaid names lines s → asked_of line ≡ asks.NoEdit → IsSaid names (lines ++ line ∷ []) (refused line s)
  answers : (lines : List (List ℕ)) (line : List ℕ) (s : Said) (m : Message) (e : Envelope) → IsSaid names lines s → asked_of line ≡ asks.Asks m → IsSaid names (lines ++ line ∷ []) (answered names line m e s)
