-- Where the entries of an order stand in a journal.
use Rattle.std.specs.Prelude.{◌≡◌, ℕ, zero, suc, List, [], ◌∷◌, if◌then◌else◌}
use Rattle.mos_edits.specs.Texts.{Text, same_id}
use Rattle.mos_edits.specs.Entries.{Entry}
use Rattle.mos_machines.specs.Tables.{look}

-- the places of the entries of `r` in this part of the journal, before which `n` entries stand
abbrev pub positions_from : ℕ → Text → List Entry → List ℕ
positions_from n r [] = []
positions_from n r (x ∷ xs) = if same_id r x.ro then n ∷ positions_from (suc n) r xs else positions_from (suc n) r xs

abbrev pub positions : Text → List Entry → List ℕ
positions r journal = positions_from zero r journal

-- the rows say where the entries of each order stand
abbrev pub ArePositions : List Entry → List (Text × List ℕ) → Type 0
ArePositions journal rows = (r : Text) → look [] rows r ≡ positions r journal
