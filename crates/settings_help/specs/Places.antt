-- Where a fault is.
use Rattle.std.specs.Prelude.{◌≡◌, ◌≤◌, ◌+◌, ◌-◌, ◌==◌, ◌&&◌, nat_lt, ℕ, suc, Bool, true, false, cond, List, [], ◌∷◌, length, take, Option, Some, None, Ok, Err}
use Rattle.toml.specs.Data.{Data, table, Members, Items, no_items, item}
use Rattle.mos_fields.specs.Characters.{Text}
use Rattle.mos_fields.specs.Fields.{same}
use Rattle.end_settings.specs.declared.key.Key.{Key}
use Rattle.end_settings.specs.declared.key.Key.TheVariants as keys
use Rattle.end_settings.specs.declared.fault.SettingsFault.{SettingsFault}
use Rattle.end_settings.specs.declared.fault.SettingsFault.TheVariants.{NotToml, Missing, BadValue, NoMemory}
use Rattle.end_settings.specs.Given.{Given}
use Rattle.end_settings.specs.Devices.{count}
use Rattle.end_settings.specs.Ends.{table_in}
use Rattle.end_settings.specs.Readable.{items_of, readable_from}
use Rattle.end_settings.specs.Values.{value_of, must, id_in}
use Rattle.settings_help.specs.declared.place.Place.{Place}
use Rattle.settings_help.specs.declared.place.Place.TheVariants.{Top, Line, Table, Twice}
use Rattle.settings_help.specs.Lines.{explained}

-- ---- lines

abbrev pub feed_of : ℕ → ℕ
feed_of b = cond (b == 10) 1 0

abbrev pub line_feeds : List ℕ → ℕ
line_feeds [] = 0
line_feeds (b ∷ bs) = feed_of b + line_feeds bs

-- the number of the line in which a byte of a text stands: the line feeds before it, and one
abbrev pub line_at : List ℕ → ℕ → ℕ
line_at text at = line_feeds (take at text) + 1

-- a line of the text; a text that is TOML has none
abbrev pub IsLineOf : List ℕ → Place → Type 0
IsLineOf text (Line number cause) = (at : ℕ) × (at ≤ length text) × (number ≡ line_at text at)
IsLineOf text Top = (ms : Members) × (table_in text ≡ Some ms)
IsLineOf text (Table number name) = ⊥
IsLineOf text (Twice number name first) = ⊥

-- ---- the mos_ids of tables

-- the ID, or nothing
abbrev pub or_nothing : Given Text → Text
or_nothing (Ok id) = id
or_nothing (Err fault) = []

-- the mos_id of a table, where one can be read
abbrev pub name_of : Members → Text
name_of ms = or_nothing (must id_in keys.DeviceMosId (value_of keys.DeviceMosId ms))

abbrev pub name_in : Data → Text
name_in (table ms) = name_of ms
name_in d = []

-- that of the item behind so many
abbrev pub name_at : ℕ → Items → Text
name_at n no_items = []
name_at n (item d ds) = cond (n == 0) (name_in d) (name_at (n - 1) ds)

-- how many items stand before the first with this mos_id
abbrev pub first_named : Text → Items → ℕ
first_named name no_items = 0
first_named name (item d ds) = cond (same name (name_in d)) 0 (suc (first_named name ds))

-- ---- tables

-- a key that stands in a table of devices
abbrev pub is_of_device : Key → Bool
is_of_device keys.DeviceMosId = true
is_of_device keys.DeviceHost = true
is_of_device keys.DeviceUpper = true
is_of_device keys.DeviceLower = true
is_of_device key = false

abbrev pub is_mos_id : Key → Bool
is_mos_id keys.DeviceMosId = true
is_mos_id key = false

-- the table behind so many; at a mos_id that an earlier one has, that one too
abbrev pub named_place_of : ℕ → Text → ℕ → Key → Place
named_place_of at name first key = cond (is_mos_id key && nat_lt first at) (Twice (at + 1) name (first + 1)) (Table (at + 1) name)

abbrev pub place_in_table : Items → ℕ → Key → Place
place_in_table ds at key = named_place_of at (name_at at ds) (first_named (name_at at ds) ds) key

-- the first table that can't be read, where there is one
abbrev pub unread_place_of : Items → Key → Place
unread_place_of ds key = cond (nat_lt (readable_from [] ds) (count ds)) (place_in_table ds (readable_from [] ds) key) Top

abbrev pub place_in : Option Items → Key → Place
place_in None key = Top
place_in (Some ds) key = unread_place_of ds key

-- the place of a fault at a key of a table of devices
abbrev pub place_of_members : Option Members → Key → Place
place_of_members None key = Top
place_of_members (Some ms) key = place_in (items_of (value_of keys.Devices ms)) key

-- the place of a fault at a key
abbrev pub key_place_of : Option Members → Key → Place
key_place_of o key = cond (is_of_device key) (place_of_members o key) Top

-- the place of a fault of a text
abbrev pub IsPlaceOf : List ℕ → SettingsFault → Place → Type 0
IsPlaceOf text NotToml p = IsLineOf text p
IsPlaceOf text (Missing key) p = p ≡ key_place_of (table_in text) key
IsPlaceOf text (BadValue key) p = p ≡ key_place_of (table_in text) key
IsPlaceOf text NoMemory p = p ≡ Top

-- the line of a fault that reading a text gave
abbrev pub IsExplained : List ℕ → List ℕ → SettingsFault → List ℕ → Type 0
IsExplained file text fault line = (p : Place) × IsPlaceOf text fault p × (line ≡ explained file fault p)
