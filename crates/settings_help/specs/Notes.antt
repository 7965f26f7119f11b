-- The lines on what may be a mistake in settings that are allowed.
use Rattle.std.specs.Prelude.{ℕ, suc, Bool, true, false, cond, ◌+◌, ◌==◌, ◌&&◌, ◌||◌, nat_lt, List, [], ◌∷◌, ◌++◌, codes}
use Rattle.std.specs.Fmt.{decimal}
use Rattle.mos_fields.specs.Characters.{Text}
use Rattle.mos_fields.specs.Fields.{same}
use Rattle.end_settings.specs.declared.devices.DeviceSettings.{DeviceSettings}
use Rattle.end_settings.specs.declared.server.ServerSettings.{ServerSettings}
use Rattle.end_settings.specs.declared.gate.GateSettings.{GateSettings}
use Rattle.settings_help.specs.declared.place.Place.TheVariants.{Table}
use Rattle.settings_help.specs.Lines.{place_words}

-- a budget with which no connection goes on
abbrev pub few_words : List ℕ → ℕ → List ℕ
few_words file budget = file ++ codes ": with a budget of " ++ decimal budget ++ codes " bytes every connection will end with Budget\n"

abbrev pub budget_notes : List ℕ → ℕ → List ℕ
budget_notes file budget = cond (nat_lt budget 1000) (few_words file budget) []

-- two ports of one machine that are the same
abbrev pub pair_notes : List ℕ → List ℕ → ℕ → ℕ → List ℕ
pair_notes file words one other = cond (one == other) (file ++ codes ": " ++ words ++ codes " are one port, " ++ decimal one ++ codes "\n") []

-- a gateway's ID that is the server's
abbrev pub id_notes : List ℕ → Bool → List ℕ
id_notes file true = file ++ codes ": mos_id and ncs_id are one ID\n"
id_notes file false = []

-- ---- devices

-- two devices have one host and a port in common
abbrev pub share_ports : DeviceSettings → DeviceSettings → Bool
share_ports a b = same a.host b.host && (a.upper == b.upper || a.upper == b.lower || a.lower == b.upper || a.lower == b.lower)

-- how many devices stand before the first that has a device's host and a port of it
abbrev pub first_sharing : DeviceSettings → List DeviceSettings → ℕ
first_sharing a [] = 0
first_sharing a (b ∷ bs) = cond (share_ports a b) 0 (suc (first_sharing a bs))

-- the device behind so many
abbrev pub device_words : List ℕ → ℕ → DeviceSettings → List ℕ
device_words file before device = file ++ place_words (Table (before + 1) device.mos_id)

abbrev pub shared_notes : List ℕ → List DeviceSettings → ℕ → DeviceSettings → List ℕ
shared_notes file devices before device =
    cond (nat_lt (first_sharing device devices) before) (device_words file before device ++ codes ": it has the host and a port of table " ++ decimal (first_sharing device devices + 1) ++ codes "\n") []

abbrev pub names_server : List ℕ → Text → ℕ → DeviceSettings → List ℕ
names_server file ncs_id before device = cond (same ncs_id device.mos_id) (device_words file before device ++ codes ": its mos_id is the ncs_id\n") []

abbrev pub both_notes : List ℕ → Text → List DeviceSettings → ℕ → DeviceSettings → List ℕ
both_notes file ncs_id all before device = names_server file ncs_id before device ++ shared_notes file all before device

-- of all devices, those behind so many
abbrev pub device_notes : List ℕ → Text → List DeviceSettings → ℕ → List DeviceSettings → List ℕ
device_notes file ncs_id all before [] = []
device_notes file ncs_id all before (device ∷ devices) = both_notes file ncs_id all before device ++ device_notes file ncs_id all (suc before) devices

-- ---- of whole settings

abbrev pub port_notes : List ℕ → ServerSettings → List ℕ
port_notes file s = pair_notes file (codes "upper and lower") s.upper s.lower ++ pair_notes file (codes "upper and editor") s.upper s.editor ++ pair_notes file (codes "lower and editor") s.lower s.editor

abbrev pub server_notes_of : List ℕ → ServerSettings → List ℕ
server_notes_of file s = port_notes file s ++ device_notes file s.ncs_id s.devices 0 s.devices ++ budget_notes file s.budget

abbrev pub gate_notes_of : List ℕ → GateSettings → List ℕ
gate_notes_of file s = id_notes file (same s.mos_id s.ncs_id) ++ pair_notes file (codes "upper and lower") s.upper s.lower ++ pair_notes file (codes "server_upper and server_lower") s.server_upper s.server_lower ++ budget_notes file s.budget
