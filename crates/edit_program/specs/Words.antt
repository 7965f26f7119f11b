-- The words behind the program's name.
use Rattle.std.specs.Prelude.{◌≡◌, ℕ, ◌-◌, Bool, List, [], ◌∷◌, length, take, drop, slice_index, codes, Option, Some, None, if◌then◌else◌, ◌==◌, ◌&&◌, nat_le}
use Rattle.std.specs.Path.{rsplit_once}
use Rattle.std.specs.Str.{chars}
use Rattle.mos_fields.specs.Characters.{Text}
use Rattle.mos_fields.specs.Faults.{Fault, id_fault, text_fault}
use Rattle.mos_fields.specs.declared.fault.FieldFault.TheVariants as faults
use Rattle.port_links.specs.declared.place.Place.{Place}
use Rattle.script_edits.specs.Words.{number_of}

-- ---- ports

-- the greatest port
abbrev pub port_limit : ℕ
port_limit = 65535

-- the port that a number is
abbrev pub port_of : Option ℕ → Option ℕ
port_of None = None
port_of (Some number) = if nat_le number port_limit then Some number else None

-- the port that digits are: a number from 1 to 65535, whose first digit isn't 0
abbrev pub port_in : List ℕ → Option ℕ
port_in [] = None
port_in (first ∷ more) = if first == 48 then None else port_of (number_of (first ∷ more))

-- ---- hosts

-- brackets stand round it, as round an address of IPv6
abbrev pub has_brackets : Text → Bool
has_brackets x = nat_le 2 (length x) && (slice_index x 0 == 91) && (slice_index x (length x - 1) == 93)

-- a host without the brackets round it
abbrev pub bare : Text → Text
bare x = if has_brackets x then drop 1 (take (length x - 1) x) else x

-- why a text is no host: it is empty, or XML 1.0 forbids a character
abbrev pub host_fault : Text → Fault
host_fault [] = Some faults.Empty
host_fault (c ∷ cs) = text_fault (c ∷ cs)

-- ---- places

-- what stands before a colon and behind it is a host and a port: those of this place
abbrev pub ArePlace : Option (List ℕ × List ℕ) → Place → Type 0
ArePlace None place = ⊥
ArePlace (Some halves) place = (host_fault (bare (chars halves.0)) ≡ None) × (place.host ≡ bare (chars halves.0)) × (port_in halves.1 ≡ Some place.port)

-- what stands before a word's last colon, and behind it
abbrev pub halves_of : List ℕ → Option (List ℕ × List ℕ)
halves_of word = rsplit_once 58 word

-- The word is a host, a colon and a port, and the place is where they say. The colon is the word's last one.
abbrev pub IsPlace : List ℕ → Place → Type 0
IsPlace word place = ArePlace (halves_of word) place

-- ---- words together

-- The first word says where the server's port is, and the second is the server's ID.
pub record IsServer (first second : List ℕ) (place : Place) (id : List ℕ) : Type 0 where
  pub is_place : IsPlace first place
  pub is_id : id_fault (chars second) ≡ None
  pub id_is : id ≡ chars second

-- where the server's port is, and the server's ID
pub record AreWords (words : List (List ℕ)) (place : Place) (id : List ℕ) : Type 0 where
  pub first : List ℕ
  pub second : List ℕ
  pub are : words ≡ first ∷ second ∷ []
  pub is_server : IsServer first second place id

-- the editor's ID in its messages
abbrev pub editor_id : List ℕ
editor_id = codes "editor"
