-- How many tables of devices can be read.
use Rattle.std.specs.Prelude.{ℕ, List, [], ◌∷◌, ◌++◌, length, Option, Some, None, Ok, Err}
use Rattle.toml.specs.Data.{Data, array, Items, no_items, item}
use Rattle.end_settings.specs.declared.devices.DeviceSettings.{DeviceSettings}
use Rattle.end_settings.specs.Given.{Given}
use Rattle.end_settings.specs.Devices.{device_at}

-- the items of an array
abbrev pub items_of : Option Data → Option Items
items_of (Some (array ds)) = Some ds
items_of o = None

-- what comes of a device; without one the count ends
abbrev pub counted : ℕ → Given DeviceSettings → (DeviceSettings → ℕ) → ℕ
counted n (Ok device) more = more device
counted n (Err f) more = n

-- how many devices can be read, those before these items too
unfoldable pub readable_from : List DeviceSettings → Items → ℕ
readable_from before no_items = length before
readable_from before (item d ds) = counted (length before) (device_at before d) (λ device. readable_from (before ++ device ∷ []) ds)
