-- Which code units show that a stream is rejected, where, and as what. All is stated of one message, from the end of the
-- message before; a place counts code units from there.
use Rattle.std.specs.Prelude.{◌≡◌, ℕ, Bool, true, false, List, [], ◌∷◌, ◌++◌, length, Option, Some, None, Ok, Err, ◌⊎◌, ◌≤◌, ◌&&◌, ◌||◌, nat_le}
use Rattle.std.specs.Char.Escape.{encode_utf16}
use Rattle.mos_fields.specs.Characters.{Text, is_allowed, are_allowed, is_high, is_low, units_of}
use Rattle.mos_fields.specs.References.{reference_of, begins_reference}
use Rattle.mos_fields.specs.Forms.{is_white}
use Rattle.mos_tables.specs.Events.{Event}
use Rattle.mos_grammar.specs.Tokens.{Token, text, mark}
use Rattle.mos_grammar.specs.declared.fault.Fault.{Fault}
use Rattle.mos_grammar.specs.Streams.{before_prolog, Position, before_message, message_step, message_run}
use Rattle.mos_lexer.specs.declared.kind.Kind.{Kind}
use Rattle.mos_lexer.specs.declared.kind.Kind.TheVariants.{BadUnit, BadChar, Entity, Tag, TooLong}
use Rattle.mos_lexer.specs.Lexing.{byte_order_mark, Written}
use Rattle.mos_lexer.specs.Units.{kind_of, message_limit}
use Rattle.mos_lexer.specs.Encodings.{EncodesChars}
use Rattle.mos_rejections.specs.Alive.{IsOpenMessage, Fronts, is_before_mos, MayFollow, is_text, BeginsToken, IsAlive}

-- Behind the characters x stands an `&`, behind it the beginning m of a reference, and the character d shows that no
-- reference begins so.
pub record BreaksReference (c : List ℕ) (d : ℕ) (x : List ℕ) : Type 0 where
  pub m : Text
  pub whole : c ≡ x ++ 38 ∷ m
  pub begun : begins_reference m ≡ true
  pub not_whole : reference_of m ≡ None
  pub no_reference : reference_of (m ++ d ∷ []) ≡ None
  pub stuck : begins_reference (m ++ d ∷ []) ≡ false

-- The tokens are read to here, and these characters follow.
pub record StandsAt (ts : List Token) (front x c : List ℕ) (p : Position) : Type 0 where
  pub whole : c ≡ front ++ x
  pub fronts : Fronts ts front x
  pub message : IsOpenMessage ts
  pub ran : message_run (before_message before_prolog) ts ≡ Ok p

-- what ends a text: a tag, or U+FEFF behind white space before a message
abbrev pub EndsText : List Token → Text → ℕ → Type 0
EndsText ts raw d = (d ≡ 60) ⊎ ((d ≡ byte_order_mark) × (is_before_mos ts ≡ true) × (is_white raw ≡ true))

-- no token that may follow begins so
abbrev pub BeginsNoToken : List Token → List ℕ → Type 0
BeginsNoToken ts x = (t : Token) (more : List ℕ) → MayFollow ts t → Written t (x ++ more) → ⊥

-- Behind the characters c the character d shows a fault of this kind. The place is behind these characters of c.
pub data Shows (c : List ℕ) (d : ℕ) : List ℕ → Kind → Type 0 where
  -- an `&` that begins no reference, at the `&`
  entity : (x : List ℕ) → BreaksReference c d x → Shows c d x Entity
  -- a token that is whole with this character and does not fit
  misfit : (ts : List Token) (front x : List ℕ) (t : Token) (p : Position) (k : Fault) → StandsAt ts front x (c ++ d ∷ []) p → Written t x → is_text t ≡ false → MayFollow ts t
      → message_step p t ≡ Err k → Shows c d front (kind_of k)
  -- a text that is whole before this character and does not fit
  misfit_text : (ts : List Token) (front x raw y : List ℕ) (p : Position) (k : Fault) → StandsAt ts front x c p → Written (text raw y) x → MayFollow ts (text raw y) → EndsText ts raw d
      → message_step p (text raw y) ≡ Err k → Shows c d front (kind_of k)
  -- U+FEFF that does not fit behind white space that does
  misfit_mark : (ts : List Token) (front x raw y : List ℕ) (p q : Position) (k : Fault) → StandsAt ts front x c p → Written (text raw y) x → d ≡ byte_order_mark → is_before_mos ts ≡ true → is_white raw ≡ true
      → message_step p (text raw y) ≡ Ok q → message_step q mark ≡ Err k → Shows c d c (kind_of k)
  -- the beginning of a token, with which this character begins none, where no text and no reference stands before it
  no_token : (ts : List Token) (front x : List ℕ) (p : Position) → StandsAt ts front x c p → BeginsToken ts x → BeginsNoToken ts (x ++ d ∷ []) → ((raw y : Text) → Written (text raw y) x → ⊥) → ((b : List ℕ) → BreaksReference c d b → ⊥)
      → Shows c d front Tag

-- Behind characters that are alive the character shows the fault: with it they are neither alive nor a message.
pub record RejectsChar (c : List ℕ) (d : ℕ) (front : List ℕ) (k : Kind) : Type 0 where
  pub alive : IsAlive c
  pub dead : IsAlive (c ++ d ∷ []) → ⊥
  pub no_message : (v : List Event) → EncodesChars v (c ++ d ∷ []) → ⊥
  pub shows : Shows c d front k

-- ---- code units

-- a high unit that waits for its low one
abbrev pub waiting : Option ℕ → List ℕ
waiting None = []
waiting (Some h) = h ∷ []

abbrev pub IsWaiting : Option ℕ → Type 0
IsWaiting None = Unit {0}
IsWaiting (Some h) = is_high h ≡ true

-- The code units are those of allowed characters that are alive, and perhaps a high one behind them.
pub record AreAlive (us : List ℕ) : Type 0 where
  pub chars : List ℕ
  pub high : Option ℕ
  pub allowed : are_allowed chars ≡ true
  pub units : us ≡ units_of chars ++ waiting high
  pub waits : IsWaiting high
  pub alive : IsAlive chars

-- they are a message but for its length
pub record AreMessage (us : List ℕ) : Type 0 where
  pub chars : List ℕ
  pub value : List Event
  pub allowed : are_allowed chars ≡ true
  pub units : us ≡ units_of chars
  pub encodes : EncodesChars value chars

-- The code units begin a message, as far as they go.
pub record IsOpen (us : List ℕ) : Type 0 where
  pub alive : AreAlive us
  pub short : length us ≤ message_limit

-- a character, allowed or not: its number is no half of a pair
abbrev pub is_character : ℕ → Bool
is_character d = nat_le d 55295 || (nat_le 57344 d && nat_le d 1114111)

-- Behind the code units us the code unit u shows a fault of this kind at this place.
pub data ShowsUnit (us : List ℕ) (u : ℕ) : ℕ → Kind → Type 0 where
  -- a low unit behind no high one
  lone_low : (c : List ℕ) → are_allowed c ≡ true → us ≡ units_of c → is_low u ≡ true → ShowsUnit us u (length us) BadUnit
  -- a high unit behind which no low one stands
  lone_high : (c : List ℕ) (h : ℕ) → are_allowed c ≡ true → us ≡ units_of c ++ h ∷ [] → is_high h ≡ true → is_low u ≡ false → ShowsUnit us u (length (units_of c)) BadUnit
  -- a character that XML 1.0 forbids
  forbidden : (c : List ℕ) (d : ℕ) → are_allowed c ≡ true → us ++ u ∷ [] ≡ units_of c ++ encode_utf16 d → is_character d ≡ true → is_allowed d ≡ false → ShowsUnit us u (length (units_of c)) BadChar
  -- a character that shows a fault, behind those before it
  wrong_char : (c : List ℕ) (d : ℕ) (front : List ℕ) (k : Kind) → are_allowed c ≡ true → us ++ u ∷ [] ≡ units_of c ++ encode_utf16 d → is_allowed d ≡ true → RejectsChar c d front k → ShowsUnit us u (length (units_of front)) k
  -- one code unit too many, which shows no other fault
  too_many : length us ≡ message_limit → AreAlive (us ++ u ∷ []) ⊎ AreMessage (us ++ u ∷ []) → ShowsUnit us u message_limit TooLong

-- These code units, and none fewer, show that the stream is rejected: at this place, with this kind.
pub record IsRejection (us : List ℕ) (place : ℕ) (k : Kind) : Type 0 where
  pub before : List ℕ
  pub last : ℕ
  pub whole : us ≡ before ++ last ∷ []
  pub open_before : IsOpen before
  pub shows : ShowsUnit before last place k
