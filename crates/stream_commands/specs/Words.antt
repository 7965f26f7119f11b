-- How a run ends whose input is known, in words of the grammar.
use Rattle.std.specs.Prelude.{◌≡◌, ℕ, true, List, ◌++◌, length, Option, Some}
use Rattle.mos_fields.specs.Characters.{units_in}
use Rattle.mos_io.specs.Bytes.{Appends}
use Rattle.mos_lexer.specs.declared.kind.Kind.{Kind}
use Rattle.mos_lexer.specs.Units.{Found}
use Rattle.mos_rejections.specs.Laws.{values}
use Rattle.input_laws.specs.Words.{IsRejected, IsStream, are_bytes}
use Rattle.stream_commands.specs.Running.{Telling}

-- this holds of the input, where it is observable
abbrev pub OfInput : Option (List ℕ) → (List ℕ → Type 0) → Type 0
OfInput left P = (input : List ℕ) → left ≡ Some input → are_bytes input ≡ true → P input

-- The input is a stream of these messages, and what is told of them was written, and then what is told of their number and that
-- of the code units, nothing else.
pub record IsDoneOf (told : Telling) (last : ℕ → ℕ → List ℕ) (written_before written_after : Option (List ℕ)) (input : List ℕ) : Type 0 where
  pub found : List Found
  pub text : List ℕ
  pub stream : IsStream input (values found)
  pub tells : told found text
  pub writes : Appends written_before written_after (text ++ last (length found) (length (units_in input)))

-- Behind encodings of these messages the input is rejected, at this place and as this, and what is told of them and of the
-- rejection was written, nothing else.
pub record IsRefusedOf (told : Telling) (refusal : ℕ → Kind → List ℕ) (written_before written_after : Option (List ℕ)) (input : List ℕ) : Type 0 where
  pub found : List Found
  pub text : List ℕ
  pub place : ℕ
  pub kind : Kind
  pub rejected : IsRejected input (values found) place kind
  pub tells : told found text
  pub writes : Appends written_before written_after (text ++ refusal place kind)
