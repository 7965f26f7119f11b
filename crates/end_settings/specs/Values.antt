-- What the value at a key has to be, and what it then is.
use Rattle.std.specs.Prelude.{ℕ, pos, cond, ◌&&◌, ◌==◌, nat_le, length, Option, Some, None, Ok, Err}
use Rattle.std.specs.Str.{chars}
use Rattle.toml.specs.Data.{Data, string, integer, Members, get_member}
use Rattle.mos_fields.specs.Characters.{Text}
use Rattle.mos_fields.specs.Faults.{Fault, text_fault, id_fault, first_of, fault_if}
use Rattle.mos_fields.specs.declared.fault.FieldFault.TheVariants.{Empty as no_character}
use Rattle.end_settings.specs.declared.key.Key.{Key}
use Rattle.end_settings.specs.declared.fault.SettingsFault.TheVariants.{Missing, BadValue}
use Rattle.end_settings.specs.Keys.{key_name}
use Rattle.end_settings.specs.Given.{Given, allowed, faultless, made}

-- what a table has at a key
abbrev pub value_of : Key → Members → Option Data
value_of key ms = get_member (key_name key) ms

-- ---- kinds of value

-- a string whose characters, as a text, have no such fault
abbrev pub string_without : (Text → Fault) → Key → Data → Given Text
string_without fault key (string bytes) = faultless key (fault (chars bytes)) (chars bytes)
string_without fault key d = Err (BadValue key)

-- the text has a character that XML 1.0 forbids, or no character
abbrev pub filled_fault : Text → Fault
filled_fault x = first_of (text_fault x) (fault_if (length x == 0) no_character)

-- an ID
abbrev pub id_in : Key → Data → Given Text
id_in = string_without id_fault

-- a text, which may be empty
abbrev pub text_in : Key → Data → Given Text
text_in = string_without text_fault

-- a text that isn't empty: a host or a path
abbrev pub filled_in : Key → Data → Given Text
filled_in = string_without filled_fault

-- an integer from 1 to this number
abbrev pub number_to : ℕ → Data → Option ℕ
number_to most (integer (pos n)) = cond (nat_le 1 n && nat_le n most) (Some n) None
number_to most d = None

-- a port
abbrev pub port_limit : ℕ
port_limit = 65535

abbrev pub port_in : Key → Data → Given ℕ
port_in key d = allowed key (number_to port_limit d)

-- how many bytes of one connection are read
abbrev pub budget_limit : ℕ
budget_limit = 1099511627776

abbrev pub budget_in : Key → Data → Given ℕ
budget_in key d = allowed key (number_to budget_limit d)

-- ---- where a key may be lacking, and what then stands for it

-- the key has to be there
abbrev pub must : {A : Type 0} → (Key → Data → Given A) → Key → Option Data → Given A
must read key None = Err (Missing key)
must read key (Some d) = read key d

-- without the key there is no value
abbrev pub maybe : {A : Type 0} → (Key → Data → Given A) → Key → Option Data → Given (Option A)
maybe read key None = Ok None
maybe read key (Some d) = made Some (read key d)

-- without the key it is this value
abbrev pub otherwise : {A : Type 0} → (Key → Data → Given A) → A → Key → Option Data → Given A
otherwise read x key None = Ok x
otherwise read x key (Some d) = read key d
