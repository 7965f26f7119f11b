-- The lines of a source, and what a reader holds of them.
use Rattle.std.specs.Prelude.{◌≡◌, ℕ, ◌+◌, ◌<◌, ◌≤◌, false, ◌==◌, List, [], ◌∷◌, ◌++◌, length, take, drop, slice_range, Option, Some, None, Result, Ok, Err, ◌⊎◌, vec_len}
use Rattle.std.specs.List.{AllByRecursion, flat_map}
use Rattle.mos_io.specs.Bytes.{IsAtEnd, Takes}
use Rattle.mos_io.specs.Counts.{Rose}
use Rattle.line_reader.specs.declared.reader.LineFault.{LineFault}
use Rattle.line_reader.specs.declared.reader.LineFault.TheVariants.{ReadFault, NoMemory}
use Rattle.line_reader.specs.declared.reader.LineReader.{LineReader}
use Rattle.line_reader.specs.declared.reader.Step.{Step}
use Rattle.line_reader.specs.declared.reader.Step.TheVariants.{More, Line, Ended}

-- no line feed stands in these bytes
abbrev pub HasNoEnd : List ℕ → Type 0
HasNoEnd bytes = AllByRecursion (λ b. (b == 10) ≡ false) bytes

-- the first line feed stands at this place; or there is none
abbrev pub IsEnd : List ℕ → Option ℕ → Type 0
IsEnd bytes None = HasNoEnd bytes
IsEnd bytes (Some at) = HasNoEnd (take at bytes) × (at < length bytes) × (drop at bytes ≡ 10 ∷ drop (at + 1) bytes)

-- lines, each with a line feed behind it
abbrev pub ended : List (List ℕ) → List ℕ
ended lines = flat_map (λ (line : List ℕ). line ++ 10 ∷ []) lines

-- what of the piece wasn't looked at yet
abbrev pub pending : LineReader → List ℕ
pending r = slice_range r.piece.items r.at r.end

-- places stand within the room, and there is some
pub record HasRoom (r : LineReader) : Type 0 where
  pub at : r.at ≤ r.end
  pub end : r.end ≤ vec_len r.piece
  pub some : 0 < vec_len r.piece
  pub short : vec_len r.line ≤ r.most

-- ---- what a reader has come to

-- Since the source had `l` left, it gave these lines, then the bytes of one that isn't ended, and what of the piece wasn't
-- looked at yet. The front of that line is held.
pub record Stands (l l' : Option (List ℕ)) (r : LineReader) (lines : List (List ℕ)) : Type 0 where
  pub read : List ℕ
  pub current : List ℕ
  pub took : Takes l l' read
  pub is : read ≡ (ended lines ++ current) ++ pending r
  pub each : AllByRecursion HasNoEnd lines
  pub no_end : HasNoEnd current
  pub held : r.line.items ≡ take r.most current

-- The same, and the line is ended by a line feed.
pub record HasLine (l l' : Option (List ℕ)) (r : LineReader) (lines : List (List ℕ)) : Type 0 where
  pub read : List ℕ
  pub current : List ℕ
  pub took : Takes l l' read
  pub is : read ≡ (ended lines ++ (current ++ 10 ∷ [])) ++ pending r
  pub each : AllByRecursion HasNoEnd lines
  pub no_end : HasNoEnd current
  pub held : r.line.items ≡ take r.most current

-- The source is at its end, and gave these lines and then the bytes of one without a line feed. The front of that is held.
pub record HasLast (l l' : Option (List ℕ)) (r : LineReader) (lines : List (List ℕ)) : Type 0 where
  pub read : List ℕ
  pub current : List ℕ
  pub took : Takes l l' read
  pub at_end : IsAtEnd l'
  pub is : read ≡ ended lines ++ current
  pub each : AllByRecursion HasNoEnd lines
  pub no_end : HasNoEnd current
  pub held : r.line.items ≡ take r.most current

-- Since the source had `l` left, it gave these lines, and perhaps more behind them.
pub record Gives (l l' : Option (List ℕ)) (lines : List (List ℕ)) : Type 0 where
  pub read : List ℕ
  pub behind : List ℕ
  pub took : Takes l l' read
  pub is : read ≡ ended lines ++ behind
  pub each : AllByRecursion HasNoEnd lines

-- what a step comes to, of a source with these counts of faults before and after
abbrev pub Stepped : Option (List ℕ) → Option (List ℕ) → ℕ → ℕ → LineReader → List (List ℕ) → Result Step LineFault → Type 0
Stepped l l' f f' r lines (Ok More) = Stands l l' r lines
Stepped l l' f f' r lines (Ok Line) = HasLine l l' r lines
Stepped l l' f f' r lines (Ok Ended) = HasLast l l' r lines
Stepped l l' f f' r lines (Err ReadFault) = Rose f f' × Stands l l' r lines
Stepped l l' f f' r lines (Err NoMemory) = Gives l l' lines

-- Bytes were gone over: fewer of the piece are left to be looked at; or, where none was left, a piece was read.
abbrev pub Moves : List ℕ → List ℕ → Type 0
Moves before after = (length after < length before) ⊎ ((before ≡ []) × (0 < length after))

-- where the input isn't at its end, bytes were gone over
abbrev pub GoesOn : Step → List ℕ → List ℕ → Type 0
GoesOn More before after = Moves before after
GoesOn Line before after = Moves before after
GoesOn Ended before after = Unit {0}
