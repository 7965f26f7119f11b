-- Where the reading of a message is, in memory and as the definition's.
use Rattle.std.specs.Prelude.{◌≡◌, ◌≤◌, ◌<◌, ℕ, Bool, List, [], length, take, drop, Option, Some, None, ⊤, nat_le, ◌&&◌}
use Rattle.mos_grammar.specs.RecordMachine.{at, complete}
use Rattle.mos_grammar.specs.Streams.{Position, before_message, before_prolog, inside}
use Rattle.mos_elements.specs.Standing.{Standing, reads, failed}
use Rattle.mos_tables.specs.Events.{Event}
use Rattle.mos_lexer.specs.declared.kind.Kind.{Kind}
use Rattle.mos_lexer.specs.declared.kind.Kind.TheVariants as kinds
use Rattle.mos_lexer.specs.Units.{UnitStep, reads_on, completes, rejects, start_reader, still_reads, completed, rejected_at, unit_run, message_limit, is_resting}
use Rattle.mos_lexer.specs.Units.{Reader as ReaderOf}
use Rattle.mos_lexer.specs.LexMachine.{LexStep, text_before, text_before_mark, in_tag}
use Rattle.mos_grammar.specs.Tokens.{Token, text}
use Rattle.mos_scanner.specs.ScannerView.{lex_of, IsSound, raw_of, resolved}
use Rattle.mos_scanner.specs.declared.scanner.Scanner.{Scanner}
use Rattle.mos_reader.specs.declared.outcome.Outcome.{Outcome}
use Rattle.mos_reader.specs.declared.outcome.Outcome.TheVariants.{ReadsOn, Completes, Rejects}
use Rattle.mos_reader.specs.declared.reading.Reading.{Reading}

-- where the reading of tokens stands, as long as it hasn't failed
abbrev pub position_of : Standing → Position
position_of (reads p) = p
position_of (failed k) = before_message before_prolog

-- the value of the message that is whole where the reading of tokens stands
abbrev pub value_at : Standing → List Event
value_at (reads (before_message g)) = []
value_at (reads (inside (at m f fs))) = []
value_at (reads (inside (complete v))) = v
value_at (failed k) = []

-- it stands behind a whole message
abbrev pub IsComplete : Standing → Type 0
IsComplete s = s ≡ reads (inside (complete (value_at s)))

-- the definition's reader, where these units are held and so many of them were read
abbrev pub reader_of : Reading → List ℕ → ReaderOf
reader_of r held = record { position = position_of r.frames; lex = lex_of r.scanner held r.here; start = r.start; opened = r.opened; count = r.here; high = None }

-- the characters of a text that is whole where so much of what is held was read, and what they stand for
abbrev pub text_token : Scanner → List ℕ → ℕ → Token
text_token s held here = text (raw_of s held here) (resolved s held s.start here)

-- what a `<` does behind that text, and a U+FEFF
abbrev pub before_tag : Scanner → List ℕ → ℕ → LexStep
before_tag s held here = text_before (raw_of s held here) (resolved s held s.start here) in_tag

abbrev pub before_mark : Scanner → List ℕ → ℕ → LexStep
before_mark s held here = text_before_mark (raw_of s held here) (resolved s held s.start here)

-- It hasn't failed, and its places lie in what was read.
pub record IsPlaced (r : Reading) : Type 0 where
  pub stands : r.frames ≡ reads (position_of r.frames)
  pub begun : r.start ≤ r.here
  pub openable : r.opened ≤ r.here

-- Its parts agree: what is held was scanned as far as it was read.
pub record IsAt (r : Reading) (held : List ℕ) : Type 0 where
  pub placed : IsPlaced r
  pub scanned : IsSound r.scanner held r.here
  pub within : r.here ≤ length held

-- what a character came to, as the definition says it
abbrev pub outcome_of : Outcome → Reading → List ℕ → UnitStep
outcome_of ReadsOn r held = reads_on (reader_of r held)
outcome_of (Completes began) r held = completes began (value_at r.frames)
outcome_of (Rejects place k) r held = rejects place k

-- reading goes on behind a character
pub record IsOn (r : Reading) (held : List ℕ) (next : ℕ) : Type 0 where
  pub sound : IsAt r held
  pub is : r.here ≡ next

-- a message is complete with a character
pub record IsWhole (began : ℕ) (r : Reading) (next : ℕ) : Type 0 where
  pub stands : IsComplete r.frames
  pub is : r.here ≡ next
  pub onward : began ≤ next

-- what holds behind a character that ends at this place
abbrev pub IsSoundBehind : Outcome → Reading → List ℕ → ℕ → Type 0
IsSoundBehind ReadsOn r held next = IsOn r held next
IsSoundBehind (Completes began) r held next = IsWhole began r next
IsSoundBehind (Rejects place k) r held next = place ≤ next

-- ---- from the beginning of a message

-- the units of a message up to here were read
pub record HasRead (r : Reading) (held : List ℕ) : Type 0 where
  pub sound : IsAt r held
  pub short : r.here ≤ message_limit
  pub same : unit_run start_reader (take r.here held) ≡ still_reads (reader_of r held)

-- a message ends with the last unit that was read
pub record HasCompleted (began : ℕ) (r : Reading) (held : List ℕ) : Type 0 where
  pub same : unit_run start_reader held ≡ completed began (value_at r.frames) (drop r.here held)
  pub stands : IsComplete r.frames
  pub within : r.here ≤ length held
  pub onward : began ≤ r.here

-- what is held is rejected
pub record HasRejected (place : ℕ) (k : Kind) (held : List ℕ) : Type 0 where
  pub same : unit_run start_reader held ≡ rejected_at place k
  pub within : place ≤ length held

-- what reading from the beginning of a message came to
abbrev pub Came : Outcome → Reading → List ℕ → Type 0
Came ReadsOn r held = HasRead r held
Came (Completes began) r held = HasCompleted began r held
Came (Rejects place k) r held = HasRejected place k held

-- all units were read, and nothing but white space and U+FEFF came since the last message
abbrev pub rests_at : Reading → List ℕ → Bool
rests_at r held = nat_le (length held) r.here && is_resting (reader_of r held)

-- all units were read, or all but a high one that waits for its low one
pub record IsPaused (r : Reading) (held : List ℕ) : Type 0 where
  pub read : HasRead r held
  pub still : (t : ReaderOf) × (unit_run start_reader held ≡ still_reads t)
  pub rests : (t : ReaderOf) → unit_run start_reader held ≡ still_reads t → is_resting t ≡ rests_at r held

-- what reading all that is held came to
abbrev pub Ended : Outcome → Reading → List ℕ → Type 0
Ended ReadsOn r held = IsPaused r held
Ended (Completes began) r held = HasCompleted began r held
Ended (Rejects place k) r held = HasRejected place k held

-- what one character, or what is none, came to: reading went on, or it ends so
abbrev pub WentOn : Option Outcome → Reading → Reading → List ℕ → Type 0
WentOn None old new held = HasRead new held × (old.here < new.here)
WentOn (Some o) old new held = Ended o new held

-- what a run of characters came to: reading went on, or it ends so
abbrev pub RanOn : Option Outcome → Reading → Reading → List ℕ → Type 0
RanOn None old new held = HasRead new held × (old.here ≤ new.here)
RanOn (Some o) old new held = Ended o new held

-- behind a character that goes on, more was read
abbrev pub IsOnward : Outcome → Reading → Reading → Type 0
IsOnward ReadsOn old new = old.here < new.here
IsOnward (Completes began) old new = ⊤
IsOnward (Rejects place k) old new = ⊤

-- where the last unit of a character is one too many, only a rejection that the character shows stays
abbrev pub capped_of : Outcome → Outcome
capped_of ReadsOn = Rejects message_limit kinds.TooLong
capped_of (Completes began) = Rejects message_limit kinds.TooLong
capped_of (Rejects place k) = Rejects place k
