-- What a machine says of itself.
use Rattle.std.specs.Prelude.{◌≡◌, ℕ, Bool, true, false, List, [], ◌∷◌, map, Option, Some, None}
use Rattle.mos_fields.specs.Characters.{Text}
use Rattle.mos_values.specs.declared.mach_info.MachInfo.{MachInfo}
use Rattle.mos_values.specs.declared.profile.DeviceType.{DeviceType}
use Rattle.mos_values.specs.declared.profile.Profile.{Profile}
use Rattle.mos_values.specs.declared.profile.SupportedProfiles.{SupportedProfiles}

-- `2.8.5`, the revision of the protocol
abbrev pub revision : Text
revision = 50 ∷ 46 ∷ 56 ∷ 46 ∷ 53 ∷ []

-- a profile's number, and whether it is supported
abbrev pub support_of : Profile → ℕ × Bool
support_of p = (p.number, p.supported)

-- the profiles of MOS, and which of them both ends support
abbrev pub supported : List (ℕ × Bool)
supported = (0, true) ∷ (1, true) ∷ (2, true) ∷ (3, false) ∷ (4, true) ∷ (5, false) ∷ (6, false) ∷ (7, false) ∷ []

-- these are named, by a machine of this type
abbrev pub Supports : DeviceType → Option SupportedProfiles → Type 0
Supports type None = ⊥
Supports type (Some s) = (s.device_type ≡ type) × (map support_of s.profiles ≡ supported)

-- What a machine of this type and name, of this manufacturer and model, says of itself; all else it leaves out.
pub record IsInfo (type : DeviceType) (id : Text) (manufacturer model : Option Text) (m : MachInfo) : Type 0 where
  pub name : m.id ≡ Some id
  pub maker : m.manufacturer ≡ manufacturer
  pub made : m.model ≡ model
  pub revises : m.mos_rev ≡ Some revision
  pub supports : Supports type m.supported_profiles
  pub no_hw_rev : m.hw_rev ≡ None
  pub no_sw_rev : m.sw_rev ≡ None
  pub no_date : m.dom ≡ None
  pub no_number : m.serial_number ≡ None
  pub no_time : m.time ≡ None
  pub no_begin : m.op_time ≡ None
  pub no_plugins : m.default_active_x ≡ []
  pub no_metadata : m.metadata ≡ []
  pub no_others : m.others ≡ []
