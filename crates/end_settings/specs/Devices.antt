-- The tables of `devices`.
use Rattle.std.specs.Prelude.{◌≢◌, ◌≤◌, ℕ, suc, Bool, true, false, cond, ◌&&◌, nat_le, List, [], ◌∷◌, ◌++◌, map, length, AllPairs, Option, Some, None, Ok, Err}
use Rattle.toml.specs.Data.{Data, array, table, Items, no_items, item, Members}
use Rattle.mos_fields.specs.Characters.{Text}
use Rattle.mos_fields.specs.Forms.{among}
use Rattle.end_settings.specs.declared.key.Key.TheVariants as keys
use Rattle.end_settings.specs.declared.fault.SettingsFault.TheVariants.{Missing, BadValue}
use Rattle.end_settings.specs.declared.devices.DeviceSettings.{DeviceSettings}
use Rattle.end_settings.specs.Given.{Given, and_then, joined, made}
use Rattle.end_settings.specs.Values.{value_of, must, otherwise, id_in, filled_in, port_in}

-- the mosIDs of devices, in order
abbrev pub mos_ids : List DeviceSettings → List Text
mos_ids devices = map (λ (d : DeviceSettings). d.mos_id) devices

-- 1 to 64 devices, no two of which have the same mosID
pub record AreDevices (devices : List DeviceSettings) : Type 0 where
  pub some : 1 ≤ length devices
  pub few : length devices ≤ 64
  pub distinct : AllPairs (λ x y. x ≢ y) (mos_ids devices)

-- ---- one table

-- a mosID that none of the devices before has
abbrev pub unless_taken : List DeviceSettings → Given Text → Given Text
unless_taken before (Err f) = Err f
unless_taken before (Ok id) = cond (among id (mos_ids before)) (Err (BadValue keys.DeviceMosId)) (Ok id)

abbrev pub device_with : (Text × Text) × (ℕ × ℕ) → DeviceSettings
device_with t = record { mos_id = t.0.0; host = t.0.1; upper = t.1.0; lower = t.1.1 }

-- the device of a table, after the devices of the tables before it
unfoldable pub device_of : List DeviceSettings → Members → Given DeviceSettings
device_of before ms = made device_with (joined
    (joined (unless_taken before (must id_in keys.DeviceMosId (value_of keys.DeviceMosId ms))) (must filled_in keys.DeviceHost (value_of keys.DeviceHost ms)))
    (joined (otherwise port_in 10541 keys.DeviceUpper (value_of keys.DeviceUpper ms)) (otherwise port_in 10540 keys.DeviceLower (value_of keys.DeviceLower ms))))

-- the device of a value that has to be a table
abbrev pub device_at : List DeviceSettings → Data → Given DeviceSettings
device_at before (table ms) = device_of before ms
device_at before d = Err (BadValue keys.Devices)

-- ---- all tables

abbrev pub count : Items → ℕ
count no_items = 0
count (item d ds) = suc (count ds)

abbrev pub is_table : Data → Bool
is_table (table ms) = true
is_table d = false

abbrev pub are_tables : Items → Bool
are_tables no_items = true
are_tables (item d ds) = is_table d && are_tables ds

-- 1 to 64 tables
abbrev pub is_device_list : Items → Bool
is_device_list ds = nat_le 1 (count ds) && nat_le (count ds) 64 && are_tables ds

-- the devices of values, behind those of the values before them
unfoldable pub devices_from : List DeviceSettings → Items → Given (List DeviceSettings)
devices_from before no_items = Ok before
devices_from before (item d ds) = and_then (device_at before d) (λ device. devices_from (before ++ device ∷ []) ds)

-- the devices of an array of 1 to 64 tables
abbrev pub devices_in : Data → Given (List DeviceSettings)
devices_in (array ds) = cond (is_device_list ds) (devices_from [] ds) (Err (BadValue keys.Devices))
devices_in d = Err (BadValue keys.Devices)

abbrev pub devices_of : Option Data → Given (List DeviceSettings)
devices_of None = Err (Missing keys.Devices)
devices_of (Some d) = devices_in d
