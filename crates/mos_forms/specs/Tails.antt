-- The rest of a raw element in code units.
use Rattle.std.specs.Prelude.{ℕ, ◌≡◌, ◌≢◌, ◌-◌, Bool, false, cond, slice_index, [], ◌∷◌, ◌++◌}
use Rattle.mos_fields.specs.Characters.{Text}
use Rattle.mos_fields.specs.Names.{is_empty}
use Rattle.mos_fields.specs.Raw.{end_text, ends_with}

-- the units behind a front without the end tag: up to the first end tag
abbrev pub tail_units : Text → Text → Text → Bool
tail_units n front [] = false
tail_units n front (u ∷ us) = cond (ends_with (end_text n) (front ++ u ∷ [])) (is_empty us) (tail_units n (front ++ u ∷ []) us)

-- at this place there is no `>`, or no `/` so far before it
abbrev pub IsNoEnd : Text → ℕ → ℕ → Type 0
IsNoEnd us back k = slice_index us k ≡ 62 → slice_index us (k - back) ≢ 47
