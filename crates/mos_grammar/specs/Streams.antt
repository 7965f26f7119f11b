-- Messages one after another, with what may stand before each.
use Rattle.std.specs.Prelude.{◌≡◌, ℕ, Bool, true, false, cond, List, [], ◌∷◌, ◌++◌, Option, Some, None, Result, Ok, Err, codes, ◌+◌}
use Rattle.mos_tables.specs.declared.table.Table.TheVariants.{Envelope}
use Rattle.mos_fields.specs.Characters.{Text}
use Rattle.mos_fields.specs.Fields.{same}
use Rattle.mos_fields.specs.Forms.{is_white}
use Rattle.mos_tables.specs.Events.{Attribute, Event}
use Rattle.mos_grammar.specs.Tokens.{Token, open_tag, empty_tag, close_tag, text, tail, mark, declaration}
use Rattle.mos_grammar.specs.declared.fault.Fault.{Fault}
use Rattle.mos_grammar.specs.declared.fault.Fault.TheVariants.{Tag as misplaced}
use Rattle.mos_grammar.specs.Records.{end_fault, IsRecord}
use Rattle.mos_grammar.specs.RecordMachine.{State, at, complete, step, opening}

-- before a message: whether U+FEFF and the declaration may still come, or neither
pub data Stage : Type 0 where
  before_prolog : Stage
  behind_mark : Stage
  behind_declaration : Stage

abbrev pub may_mark : Stage → Bool
may_mark before_prolog = true
may_mark behind_mark = false
may_mark behind_declaration = false

abbrev pub may_declare : Stage → Bool
may_declare before_prolog = true
may_declare behind_mark = true
may_declare behind_declaration = false

abbrev pub mos_name : Text
mos_name = codes "mos"

-- From this stage on, the tokens are what may stand before a message and the message with this value.
pub data IsMessage : Stage → List Event → List Token → Type 0 where
  white_space : {g : Stage} {v : List Event} {x y : Text} {r : List Token} → is_white x ≡ true → IsMessage g v r → IsMessage g v (text x y ∷ r)
  mark_before : {g : Stage} {v : List Event} {r : List Token} → may_mark g ≡ true → IsMessage behind_mark v r → IsMessage g v (mark ∷ r)
  declaration_before : {g : Stage} {v : List Event} {r : List Token} → may_declare g ≡ true → IsMessage behind_declaration v r → IsMessage g v (declaration ∷ r)
  element : {g : Stage} {v : List Event} {tag : Text} {a : List Attribute} {r : List Token} → IsRecord Envelope mos_name v r → IsMessage g v (open_tag mos_name a tag ∷ r)

-- messages one after another
abbrev pub AreMessages : List (List Event) → List Token → Type 0
AreMessages [] ts = ts ≡ []
AreMessages (v ∷ vs) ts = (x : List Token) × (r : List Token) × IsMessage before_prolog v x × (ts ≡ x ++ r) × AreMessages vs r

-- These tokens begin a message.
abbrev pub BeginsMessage : Stage → List Token → Type 0
BeginsMessage g ts = (rest : List Token) × (v : List Event) × IsMessage g v (ts ++ rest)

-- These tokens begin a stream: messages, and the beginning of one more.
abbrev pub BeginsStream : List Token → Type 0
BeginsStream ts = (vs : List (List Event)) × (x : List Token) × (r : List Token) × AreMessages vs x × (ts ≡ x ++ r) × BeginsMessage before_prolog r

-- ---- reading one message

pub data Position : Type 0 where
  before_message : Stage → Position
  inside : State → Position

abbrev pub inside_of : Result State Fault → Result Position Fault
inside_of (Ok s) = Ok (inside s)
inside_of (Err k) = Err k

-- <mos/> lacks its fields
abbrev pub bare_fault : Option Fault → Fault
bare_fault (Some k) = k
bare_fault None = misplaced

unfoldable pub message_step : Position → Token → Result Position Fault
message_step (inside s) t = inside_of (step s t)
message_step (before_message g) (open_tag n a tag) = cond (same mos_name n) (Ok (inside (opening Envelope mos_name))) (Err misplaced)
message_step (before_message g) (empty_tag n a tag) = Err (cond (same mos_name n) (bare_fault (end_fault Envelope [])) misplaced)
message_step (before_message g) (close_tag n) = Err misplaced
message_step (before_message g) (text x y) = cond (is_white x) (Ok (before_message g)) (Err misplaced)
message_step (before_message g) (tail x) = Err misplaced
message_step (before_message g) mark = cond (may_mark g) (Ok (before_message behind_mark)) (Err misplaced)
message_step (before_message g) declaration = cond (may_declare g) (Ok (before_message behind_declaration)) (Err misplaced)

abbrev pub then_position : Result Position Fault → (Position → Result Position Fault) → Result Position Fault
then_position (Ok p) f = f p
then_position (Err k) f = Err k

unfoldable pub message_run : Position → List Token → Result Position Fault
message_run p [] = Ok p
message_run p (t ∷ ts) = then_position (message_step p t) (λ q. message_run q ts)

-- ---- reading a stream

-- the messages read, and where the reading is in the next one
pub record Reading : Type 0 where
  pub ready : List (List Event)
  pub position : Position

abbrev pub settled_at : List (List Event) → Position → Reading
settled_at vs (before_message g) = record { ready = vs; position = before_message g }
settled_at vs (inside (at m f fs)) = record { ready = vs; position = inside (at m f fs) }
settled_at vs (inside (complete v)) = record { ready = vs ++ v ∷ []; position = before_message before_prolog }

-- what is read, to the first token that doesn't fit, which is at this place and shows this fault
pub data Outcome : Type 0 where
  reading : Reading → Outcome
  rejected : ℕ → Fault → Reading → Outcome

abbrev pub stream_start : Reading
stream_start = record { ready = []; position = before_message before_prolog }

abbrev pub stepped : ℕ → Reading → Result Position Fault → (Reading → Outcome) → Outcome
stepped place s (Ok p) more = more (settled_at s.ready p)
stepped place s (Err k) more = rejected place k s

unfoldable pub stream_run : ℕ → Reading → List Token → Outcome
stream_run place s [] = reading s
stream_run place s (t ∷ ts) = stepped place s (message_step s.position t) (λ u. stream_run (place + 1) u ts)
