-- Reading one message code unit after code unit. Places count code units from the end of the message before.
use Rattle.std.specs.Prelude.{ℕ, Bool, true, false, cond, List, [], ◌∷◌, ◌++◌, Option, Some, None, Result, Ok, Err, nat_le, ◌+◌, ◌-◌, ◌&&◌}
use Rattle.mos_fields.specs.Characters.{is_allowed, is_high, is_low, pair_char}
use Rattle.mos_fields.specs.Forms.{is_white}
use Rattle.mos_tables.specs.Events.{Event}
use Rattle.mos_grammar.specs.Tokens.{text, mark}
use Rattle.mos_grammar.specs.declared.fault.Fault.{Fault}
use Rattle.mos_grammar.specs.declared.fault.Fault.TheVariants as faults
use Rattle.mos_grammar.specs.RecordMachine.{at, complete, in_raw, in_field, behind_text, between}
use Rattle.mos_grammar.specs.Streams.{Position, before_message, inside, before_prolog, behind_mark, behind_declaration, message_step}
use Rattle.mos_lexer.specs.declared.kind.Kind.{Kind}
use Rattle.mos_lexer.specs.declared.kind.Kind.TheVariants as kinds
use Rattle.mos_lexer.specs.LexMachine.{LexState, begin, in_text, in_tail, LexStep, continues, whole_token, text_before, text_before_mark, no_token, no_reference, lex_step}

-- the kind of a token that does not fit
abbrev pub kind_of : Fault → Kind
kind_of (faults.Twice f) = kinds.Twice f
kind_of (faults.Order f) = kinds.Order f
kind_of (faults.Missing f) = kinds.Missing f
kind_of (faults.Value f) = kinds.Value f
kind_of faults.Tag = kinds.Tag

-- a message and what stands before it have so many code units at most
abbrev pub message_limit : ℕ
message_limit = 8388608

-- where the reading of tokens is, what of a token was read, where that token begins, where the last token began that
-- stands before a message or begins it, how many code units were read, and a high unit that waits for its low one
pub record Reader : Type 0 where
  pub position : Position
  pub lex : LexState
  pub start : ℕ
  pub opened : ℕ
  pub count : ℕ
  pub high : Option ℕ

-- behind the message before
abbrev pub start_reader : Reader
start_reader = record { position = before_message before_prolog; lex = begin; start = 0; opened = 0; count = 0; high = None }

-- What one code unit does: the reading goes on, a message is complete, whose `<mos` began at a place, with its value,
-- or the stream is rejected at a place.
pub data UnitStep : Type 0 where
  reads_on : Reader → UnitStep
  completes : ℕ → List Event → UnitStep
  rejects : ℕ → Kind → UnitStep

-- before `<mos>`
abbrev pub is_outside : Position → Bool
is_outside (before_message g) = true
is_outside (inside s) = false

-- how a token begins: behind the start tag of a raw element comes its rest
abbrev pub lex_at : Position → LexState
lex_at (inside (at (in_raw n p tag) f fs)) = in_tail n []
lex_at (inside (at between f fs)) = begin
lex_at (inside (at (in_field n o) f fs)) = begin
lex_at (inside (at (behind_text n o es) f fs)) = begin
lex_at (inside (complete v)) = begin
lex_at (before_message g) = begin

-- behind a whole token, where the next one begins at this place and this was read of it
abbrev pub behind : ℕ → ℕ → ℕ → LexState → Position → UnitStep
behind opened start count l (inside (complete v)) = completes opened v
behind opened start count l (inside (at m f fs)) = reads_on (record { position = inside (at m f fs); lex = l; start = start; opened = opened; count = count; high = None })
behind opened start count l (before_message g) = reads_on (record { position = before_message g; lex = l; start = start; opened = opened; count = count; high = None })

-- behind a token of this reader: before a message, and where it begins one, the token's place is kept
abbrev pub opened_by : Reader → ℕ
opened_by s = cond (is_outside s.position) s.start s.opened

-- what a token at a place came to; where it fits, the reading goes on
abbrev pub at_token : ℕ → Result Position Fault → (Position → UnitStep) → UnitStep
at_token place (Ok p) go_on = go_on p
at_token place (Err k) go_on = rejects place (kind_of k)

-- the next token begins with the next code unit
abbrev pub rests : ℕ → ℕ → Position → UnitStep
rests opened count p = behind opened count count (lex_at p) p

-- one character, which begins at this place; with it so many code units were read
abbrev pub lexed : Reader → ℕ → ℕ → LexStep → UnitStep
lexed s place count (continues l) = reads_on (record { position = s.position; lex = l; start = s.start; opened = s.opened; count = count; high = None })
lexed s place count (whole_token t) = at_token s.start (message_step s.position t) (rests (opened_by s) count)
lexed s place count (text_before raw y l) = at_token s.start (message_step s.position (text raw y)) (behind (opened_by s) place count l)
lexed s place count (text_before_mark raw y) = at_token s.start (message_step s.position (text raw y)) (λ p. at_token place (message_step p mark) (rests place count))
lexed s place count no_token = rejects s.start kinds.Tag
lexed s place count (no_reference k) = rejects (place - k) kinds.Entity

abbrev pub read_char : Reader → ℕ → ℕ → ℕ → UnitStep
read_char s place count c = cond (is_allowed c) (lexed s place count (lex_step (is_outside s.position) s.lex c)) (rejects place kinds.BadChar)

-- one code unit, behind a high one or not
abbrev pub unit_read : Reader → ℕ → Option ℕ → UnitStep
unit_read s u None = cond (is_high u) (reads_on (record { position = s.position; lex = s.lex; start = s.start; opened = s.opened; count = s.count + 1; high = Some u }))
    (cond (is_low u) (rejects s.count kinds.BadUnit) (read_char s s.count (s.count + 1) u))
unit_read s u (Some h) = cond (is_low u) (read_char s (s.count - 1) (s.count + 1) (pair_char h u)) (rejects (s.count - 1) kinds.BadUnit)

-- any other fault that the code unit shows comes before its being one too many
abbrev pub too_long : Reader → UnitStep → UnitStep
too_long s (rejects place k) = rejects place k
too_long s (reads_on t) = cond (nat_le message_limit s.count) (rejects message_limit kinds.TooLong) (reads_on t)
too_long s (completes began v) = cond (nat_le message_limit s.count) (rejects message_limit kinds.TooLong) (completes began v)

unfoldable pub unit_step : Reader → ℕ → UnitStep
unit_step s u = too_long s (unit_read s u s.high)

-- What code units come to: all were read and more may come, a message is complete, whose `<mos` began at a place, and
-- these follow it, or the stream is rejected.
pub data UnitRun : Type 0 where
  still_reads : Reader → UnitRun
  completed : ℕ → List Event → List ℕ → UnitRun
  rejected_at : ℕ → Kind → UnitRun

abbrev pub then_units : UnitStep → List ℕ → (Reader → UnitRun) → UnitRun
then_units (reads_on t) us go_on = go_on t
then_units (completes began v) us go_on = completed began v us
then_units (rejects place k) us go_on = rejected_at place k

unfoldable pub unit_run : Reader → List ℕ → UnitRun
unit_run s [] = still_reads s
unit_run s (u ∷ us) = then_units (unit_step s u) us (λ t. unit_run t us)

-- ---- a stream of messages

-- a message that was read: where its `<mos` began in the stream, and its value
pub record Found : Type 0 where
  pub began : ℕ
  pub value : List Event

-- the messages read, the code units before the one that is read, and where its reading is
pub record StreamReader : Type 0 where
  pub ready : List Found
  pub base : ℕ
  pub reader : Reader

abbrev pub start_stream : StreamReader
start_stream = record { ready = []; base = 0; reader = start_reader }

-- what a stream came to; a place counts from its beginning
pub data StreamRun : Type 0 where
  reads_stream : StreamReader → StreamRun
  rejects_stream : StreamReader → ℕ → Kind → StreamRun

-- what one code unit does to a stream
abbrev pub then_stream : StreamReader → UnitStep → (StreamReader → StreamRun) → StreamRun
then_stream s (reads_on t) go_on = go_on (record { ready = s.ready; base = s.base; reader = t })
then_stream s (completes began v) go_on = go_on (record { ready = s.ready ++ record { began = s.base + began; value = v } ∷ []; base = s.base + (s.reader.count + 1); reader = start_reader })
then_stream s (rejects place k) go_on = rejects_stream s (s.base + place) k

unfoldable pub stream_units : StreamReader → List ℕ → StreamRun
stream_units s [] = reads_stream s
stream_units s (u ∷ us) = then_stream s (unit_step s.reader u) (λ t. stream_units t us)

-- ---- between messages

-- before a message, and behind no declaration
abbrev pub may_rest : Position → Bool
may_rest (before_message before_prolog) = true
may_rest (before_message behind_mark) = true
may_rest (before_message behind_declaration) = false
may_rest (inside s) = false

-- no token was begun but white space
abbrev pub is_blank : LexState → Bool
is_blank begin = true
is_blank (in_text raw y) = is_white raw
is_blank l = false

abbrev pub no_high : Option ℕ → Bool
no_high None = true
no_high (Some u) = false

-- Nothing but white space and U+FEFF came since the last message.
abbrev pub is_resting : Reader → Bool
is_resting s = may_rest s.position && is_blank s.lex && no_high s.high
