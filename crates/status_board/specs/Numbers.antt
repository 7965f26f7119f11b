-- The numbers by which elements and orders are looked up. Two elements may have one number, so a look-up compares them
-- besides.
use Rattle.std.specs.Prelude.{ℕ, ◌+◌, ◌*◌, ◌%◌, ◌^◌, List, [], ◌∷◌, map}
use Rattle.mos_fields.specs.Characters.{Text, units_of}
use Rattle.mos_fields.specs.declared.level.Level.{Level}
use Rattle.mos_values.specs.Names.{text_or_none}
use Rattle.status_board.specs.Board.{Report, level_number}

-- a number with one more mixed in
unfoldable pub mix : ℕ → ℕ → ℕ
mix n m = ((n * 6364136223846793005) % 2 ^ 64 + m) % 2 ^ 64

-- with each of a list
abbrev pub mix_all : ℕ → List ℕ → ℕ
mix_all n [] = n
mix_all n (m ∷ ms) = mix_all (mix n m) ms

-- with a text, behind a mark that no code unit is
abbrev pub mix_text : ℕ → Text → ℕ
mix_text n text = mix_all (mix n 65536) (units_of text)

-- the number of an order, by the device that reports on it
abbrev pub order_number : ℕ → Text → ℕ
order_number d ro = mix_text d ro

-- the number of an element
abbrev pub element_number : ℕ → Text → Level → Text → Text → ℕ
element_number d ro level story item = mix_text (mix_text (mix (order_number d ro) (level_number level)) story) item

-- the same of a report
abbrev pub order_of : Report → ℕ
order_of r = order_number r.0 r.1.ro

abbrev pub element_of : Report → ℕ
element_of r = element_number r.0 r.1.ro r.1.level (text_or_none r.1.story) (text_or_none r.1.item)
