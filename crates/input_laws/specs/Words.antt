-- What the bytes of an input are: messages one after another, and what stands behind them.
use Rattle.std.specs.Prelude.{◌≡◌, ◌⊎◌, ℕ, ◌+◌, Bool, true, false, nat_lt, not, ◌&&◌, ◌==◌, ◌||◌, List, ◌++◌, length}
use Rattle.std.specs.List.{list_all}
use Rattle.mos_fields.specs.Characters.{units_in}
use Rattle.mos_fields.specs.Raw.{is_space}
use Rattle.mos_tables.specs.Events.{Event}
use Rattle.mos_lexer.specs.declared.kind.Kind.{Kind}
use Rattle.mos_lexer.specs.declared.kind.Kind.TheVariants.{End}
use Rattle.mos_lexer.specs.Encodings.{AreEncodings}
use Rattle.mos_lexer.specs.Lexing.{byte_order_mark}
use Rattle.mos_rejections.specs.Rejections.{IsOpen, IsRejection}
use Rattle.mos_decoder.specs.Inputs.{is_odd}

-- the numbers are bytes
abbrev pub are_bytes : List ℕ → Bool
are_bytes bytes = list_all (λ (b : ℕ). nat_lt b 256) bytes

-- white space or U+FEFF
abbrev pub is_blank_unit : ℕ → Bool
is_blank_unit u = is_space u || (u == byte_order_mark)

-- nothing else
abbrev pub are_blank : List ℕ → Bool
are_blank us = list_all is_blank_unit us

-- The bytes are a whole stream, two to a code unit: encodings of these messages one after another, and behind the last one
-- nothing but white space and U+FEFF, with which one more message might begin.
pub record IsStream (bytes : List ℕ) (vs : List (List Event)) : Type 0 where
  pub messages : List ℕ
  pub rest : List ℕ
  pub units : units_in bytes ≡ messages ++ rest
  pub encode : AreEncodings vs messages
  pub begins : IsOpen rest
  pub blank : are_blank rest ≡ true
  pub even : is_odd bytes ≡ false

-- Encodings of these messages stand one after another, and behind the last one code units that begin one more, as far as they
-- go: no whole message, and nothing that shows a rejection.
pub record ReadsOn (bytes : List ℕ) (vs : List (List Event)) : Type 0 where
  pub messages : List ℕ
  pub part : List ℕ
  pub units : units_in bytes ≡ messages ++ part
  pub encode : AreEncodings vs messages
  pub begins : IsOpen part

-- Behind encodings of these messages stand code units that show a rejection of this kind, whatever follows them. Its place
-- counts from the beginning of the stream.
pub record ShowsRejection (bytes : List ℕ) (vs : List (List Event)) (place : ℕ) (k : Kind) : Type 0 where
  pub messages : List ℕ
  pub shown : List ℕ
  pub rest : List ℕ
  pub near : ℕ
  pub units : units_in bytes ≡ messages ++ (shown ++ rest)
  pub encode : AreEncodings vs messages
  pub shows : IsRejection shown near k
  pub place_is : place ≡ length messages + near

-- Behind encodings of these messages one more begins, and the bytes end inside it: not with white space and U+FEFF alone, or
-- with half a code unit. The place is the number of whole code units.
pub record EndsInside (bytes : List ℕ) (vs : List (List Event)) (place : ℕ) : Type 0 where
  pub messages : List ℕ
  pub part : List ℕ
  pub units : units_in bytes ≡ messages ++ part
  pub encode : AreEncodings vs messages
  pub begins : IsOpen part
  pub inside : (are_blank part && not (is_odd bytes)) ≡ false
  pub place_is : place ≡ length (units_in bytes)

-- The bytes are rejected behind these messages, at this place and as this.
abbrev pub IsRejected : List ℕ → List (List Event) → ℕ → Kind → Type 0
IsRejected bytes vs place k = ShowsRejection bytes vs place k ⊎ (EndsInside bytes vs place × (k ≡ End))
