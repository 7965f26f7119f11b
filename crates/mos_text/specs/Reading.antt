-- Reading bytes as characters, in any pieces.
use Rattle.std.specs.Prelude.{◌≡◌, ℕ, Bool, true, cond, List, [], ◌∷◌, ◌++◌, Option, Some, None, Result, Ok, Err, ◌+◌, ◌-◌, ◌*◌}
use Rattle.mos_fields.specs.Characters.{Text, is_allowed, is_high, is_low, pair_char}
use Rattle.mos_text.specs.declared.fault.TextFault.{TextFault}
use Rattle.mos_text.specs.declared.fault.TextFault.TheVariants.{BadUnit as bad_unit, BadChar as bad_char, NoMemory as out_of_memory}
use Rattle.mos_text.specs.declared.reading.Reading.{Reading}

-- nothing was read
abbrev pub start : Reading
start = record { place = 0; odd = None; high = None; fault = None }

-- the unit that waits is the first of a pair
abbrev pub waits_high : Option ℕ → Bool
waits_high None = true
waits_high (Some h) = is_high h

abbrev pub is_reading : Reading → Bool
is_reading r = waits_high r.high

-- A further code unit. It may be a character by itself, the first of a pair, which waits for the second, or that second
-- one. A second one alone, and a first one behind which none comes, belong to no character. After a fault units are
-- counted alone.
abbrev pub fault_at : Option TextFault → Option ℕ → ℕ → ℕ → Option TextFault
fault_at (Some f) high place u = Some f
fault_at None None place u = cond (is_high u) None (cond (is_low u) (Some (bad_unit place)) (cond (is_allowed u) None (Some (bad_char place))))
fault_at None (Some h) place u = cond (is_low u) None (Some (bad_unit (place - 1)))

-- the unit that waits for the second one of its pair
abbrev pub high_after : Option ℕ → ℕ → Option ℕ
high_after None u = cond (is_high u) (Some u) None
high_after (Some h) u = None

-- the character that ends with this unit
abbrev pub char_at : Option TextFault → Option ℕ → ℕ → Option ℕ
char_at (Some f) high u = None
char_at None None u = cond (is_high u) None (cond (is_low u) None (cond (is_allowed u) (Some u) None))
char_at None (Some h) u = cond (is_low u) (Some (pair_char h u)) None

abbrev pub unit_step : Reading → ℕ → Reading
unit_step r u = record { place = r.place + 1; odd = None; high = high_after r.high u; fault = fault_at r.fault r.high r.place u }

-- A further byte. Every second one completes a unit, of which the first is the high byte.
abbrev pub byte_step_at : Option ℕ → Reading → ℕ → Reading
byte_step_at None r b = record { place = r.place; odd = Some b; high = r.high; fault = r.fault }
byte_step_at (Some a) r b = unit_step r (a * 256 + b)

abbrev pub byte_step : Reading → ℕ → Reading
byte_step r b = byte_step_at r.odd r b

abbrev pub byte_char_at : Option ℕ → Reading → ℕ → Option ℕ
byte_char_at None r b = None
byte_char_at (Some a) r b = char_at r.fault r.high (a * 256 + b)

abbrev pub byte_char : Reading → ℕ → Option ℕ
byte_char r b = byte_char_at r.odd r b

-- a character before others, where there is one
abbrev pub before : Option ℕ → Text → Text
before None x = x
before (Some c) x = c ∷ x

-- a character behind others, where there is one
abbrev pub joined : Text → Option ℕ → Text
joined x None = x
joined x (Some c) = x ++ c ∷ []

-- where the reading is behind a piece
unfoldable pub after : Reading → List ℕ → Reading
after r [] = r
after r (b ∷ bs) = after (byte_step r b) bs

-- the characters that a piece completes
unfoldable pub gained : Reading → List ℕ → Text
gained r [] = []
gained r (b ∷ bs) = before (byte_char r b) (gained (byte_step r b) bs)

-- the reading went on by the piece, and its characters were appended
pub record Went (r : Reading) (piece : List ℕ) (t : Reading) (old told : Text) (fault : Option TextFault) : Type 0 where
  pub reading : t ≡ after r piece
  pub chars : told ≡ old ++ gained r piece
  pub faulty : (after r piece).fault ≡ fault

-- the reading, of which it is known from now on that there was no memory
abbrev pub without_memory : Reading → Reading
without_memory r = record { place = r.place; odd = r.odd; high = r.high; fault = Some out_of_memory }

-- there was no memory for the characters of the piece: its units are counted alone, and nothing was appended
pub record Lacked (r : Reading) (piece : List ℕ) (t : Reading) (old told : Text) : Type 0 where
  pub reading : t ≡ after (without_memory r) piece
  pub chars : told ≡ old
  pub faulty : t.fault ≡ Some out_of_memory

-- What a call answers that feeds a piece to a reading: the reading's fault where it has one, or that there was no memory.
abbrev pub FeedAnswers : Reading → List ℕ → Reading → Text → Text → Result Unit TextFault → Type 0
FeedAnswers r piece t old told (Ok u) = Went r piece t old told None
FeedAnswers r piece t old told (Err out_of_memory) = Lacked r piece t old told
FeedAnswers r piece t old told (Err (bad_unit k)) = Went r piece t old told (Some (bad_unit k))
FeedAnswers r piece t old told (Err (bad_char k)) = Went r piece t old told (Some (bad_char k))
