-- Numbers that are written as they are kept.
use Rattle.std.specs.Prelude.{Bool, false, [], ◌∷◌, length, nat_lt, ◌==◌, ◌&&◌, ◌||◌, not}
use Rattle.mos_fields.specs.Characters.{Text}
use Rattle.mos_fields.specs.Forms.{is_digits, is_empty}

-- 1 to 9 digits, with no zero in front of others
unfoldable pub is_plain_number : Text → Bool
is_plain_number [] = false
is_plain_number (c ∷ cs) = nat_lt (length cs) 9 && (not (c == 48) || is_empty cs) && is_digits (c ∷ cs)
