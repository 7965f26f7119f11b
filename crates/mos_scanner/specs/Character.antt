-- The character that stands at a place.
use Rattle.std.specs.Prelude.{◌≡◌, ◌<◌, ◌+◌, ℕ, true, false, List, length, slice_index, ◌⊎◌}
use Rattle.mos_fields.specs.Characters.{is_high, is_low, is_allowed}
use Rattle.mos_scanner.specs.Parts.{IsCharacter}
use Rattle.mos_scanner.specs.declared.character.Character.{Character}
use Rattle.mos_scanner.specs.declared.character.Character.TheVariants.{Whole, Cut, Unpaired, Forbidden}

-- a high unit is the last that is held
pub record IsCut (held : List ℕ) (here : ℕ) : Type 0 where
  pub high : is_high (slice_index held here) ≡ true
  pub last : here + 1 ≡ length held

-- a high unit with another unit than a low one behind it
pub record IsHighAlone (held : List ℕ) (here : ℕ) : Type 0 where
  pub high : is_high (slice_index held here) ≡ true
  pub within : here + 1 < length held
  pub alone : is_low (slice_index held (here + 1)) ≡ false

-- a unit in no pair that is a character which XML 1.0 doesn't allow
pub record IsForbidden (held : List ℕ) (here : ℕ) : Type 0 where
  pub not_high : is_high (slice_index held here) ≡ false
  pub not_low : is_low (slice_index held here) ≡ false
  pub forbidden : is_allowed (slice_index held here) ≡ false

-- what stands at a place
abbrev pub IsAtPlace : Character → List ℕ → ℕ → Type 0
IsAtPlace (Whole c next) held here = IsCharacter held here next c
IsAtPlace Cut held here = IsCut held here
IsAtPlace Unpaired held here = (is_low (slice_index held here) ≡ true) ⊎ IsHighAlone held here
IsAtPlace Forbidden held here = IsForbidden held here
