-- What of a reference was read.
use Rattle.std.specs.Prelude.{◌≡◌, ◌≤◌, ℕ, Bool, true, false, [], ◌++◌, Some, None, codes, length, nat_lt, nat_le, cond, ◌&&◌, ◌+◌, ◌-◌, ⊤}
use Rattle.std.specs.List.{list_all}
use Rattle.mos_fields.specs.Characters.{Text, is_allowed}
use Rattle.mos_fields.specs.References.{reference_of, begins_reference, is_digit, number_in, is_hex, hex_from, may_end}
use Rattle.mos_scanner.specs.declared.reference.Reference.{Reference}
use Rattle.mos_scanner.specs.declared.reference.Reference.TheVariants.{Empty, L, Lt, G, Gt, A, Am, Amp, Ap, Apo, Apos, Q, Qu, Quo, Quot, Decimal, Hexadecimal}
use Rattle.mos_scanner.specs.declared.reference.Referred.{Referred}
use Rattle.mos_scanner.specs.declared.reference.Referred.TheVariants.{Found, Begun, Never}

abbrev pub is_ascii : ℕ → Bool
is_ascii u = nat_lt u 128

-- the last allowed character
abbrev pub last_character : ℕ
last_character = 1114111

-- so many digits that write this number
pub record IsDigits (digit : ℕ → Bool) (number : Text → ℕ) (digits : Text) (count value : ℕ) : Type 0 where
  pub all : list_all digit digits ≡ true
  pub counted : length digits ≡ count
  pub short : count ≤ 8
  pub written : number digits ≡ value
  pub low : value ≤ last_character

-- the characters behind `&#` or `&#x`
pub record IsNumber (front : Text) (digit : ℕ → Bool) (number : Text → ℕ) (m : Text) (count value : ℕ) : Type 0 where
  pub digits : Text
  pub is : m ≡ front ++ digits
  pub written : IsDigits digit number digits count value

-- which characters were read
abbrev pub IsAt : Reference → Text → Type 0
IsAt Empty m = m ≡ []
IsAt L m = m ≡ codes "l"
IsAt Lt m = m ≡ codes "lt"
IsAt G m = m ≡ codes "g"
IsAt Gt m = m ≡ codes "gt"
IsAt A m = m ≡ codes "a"
IsAt Am m = m ≡ codes "am"
IsAt Amp m = m ≡ codes "amp"
IsAt Ap m = m ≡ codes "ap"
IsAt Apo m = m ≡ codes "apo"
IsAt Apos m = m ≡ codes "apos"
IsAt Q m = m ≡ codes "q"
IsAt Qu m = m ≡ codes "qu"
IsAt Quo m = m ≡ codes "quo"
IsAt Quot m = m ≡ codes "quot"
IsAt (Decimal n v) m = IsNumber (codes "#") is_digit number_in m n v
IsAt (Hexadecimal n v) m = IsNumber (codes "#x") is_hex (hex_from 0) m n v

-- a number that may have another digit
pub record IsShort (count value : ℕ) : Type 0 where
  pub short : count ≤ 8
  pub low : value ≤ last_character

abbrev pub IsBounded : Reference → Type 0
IsBounded Empty = ⊤
IsBounded L = ⊤
IsBounded Lt = ⊤
IsBounded G = ⊤
IsBounded Gt = ⊤
IsBounded A = ⊤
IsBounded Am = ⊤
IsBounded Amp = ⊤
IsBounded Ap = ⊤
IsBounded Apo = ⊤
IsBounded Apos = ⊤
IsBounded Q = ⊤
IsBounded Qu = ⊤
IsBounded Quo = ⊤
IsBounded Quot = ⊤
IsBounded (Decimal n v) = IsShort n v
IsBounded (Hexadecimal n v) = IsShort n v

-- the text is a reference to this character
pub record IsReference (x : Text) (d : ℕ) : Type 0 where
  pub is : reference_of x ≡ Some d
  pub allowed : is_allowed d ≡ true

-- the text is the beginning of a reference
pub record IsBeginning (r : Reference) (x : Text) : Type 0 where
  pub not : reference_of x ≡ None
  pub begins : begins_reference x ≡ true
  pub ascii : list_all is_ascii x ≡ true
  pub at : IsAt r x
  pub bounded : IsBounded r

-- no reference begins with the text
pub record IsNoBeginning (x : Text) : Type 0 where
  pub not : reference_of x ≡ None
  pub begins : begins_reference x ≡ false

-- what the text is
abbrev pub IsReferred : Referred → Text → Type 0
IsReferred (Found d) x = IsReference x d
IsReferred (Begun r) x = IsBeginning r x
IsReferred Never x = IsNoBeginning x

-- the `;` behind so many digits that write this number
abbrev pub ended_of : ℕ → ℕ → Referred
ended_of count value = cond (nat_le 1 count && is_allowed value) (Found value) Never

-- so many digits and one more, which write this number together
abbrev pub decimal_of : ℕ → ℕ → Referred
decimal_of count value = cond (nat_lt count 8 && may_end 10 value value (7 - count)) (Begun (Decimal (count + 1) value)) Never

abbrev pub hexadecimal_of : ℕ → ℕ → Referred
hexadecimal_of count value = cond (nat_lt count 8 && may_end 16 value value (7 - count)) (Begun (Hexadecimal (count + 1) value)) Never
