-- What a start finds in a journal's bytes.
use Rattle.std.specs.Prelude.{◌≡◌, ℕ, suc, ◌-◌, Bool, true, false, cond, List, [], ◌∷◌, length, take, drop}
use Rattle.std.specs.List.{AllByRecursion}
use Rattle.journal_bytes.specs.Journals.{HasRead, ReaderState}
use Rattle.mos_edits.specs.Entries.{Entry, IsAccepted}
use Rattle.mos_edits.specs.declared.edit.Edit.{Edit}
use Rattle.mos_edits.specs.declared.edit.Edit.TheVariants as edits
use Rattle.journal_check.specs.declared.checking.JournalFound.{JournalFound}

-- ---- orders

abbrev pub is_create : Edit → Bool
is_create (edits.Create body) = true
is_create e = false

abbrev pub is_delete : Edit → Bool
is_delete (edits.Delete ro) = true
is_delete e = false

-- how many entries create an order, and how many delete one
abbrev pub creations : List Entry → ℕ
creations [] = 0
creations (e ∷ es) = cond (is_create e.edit) (suc (creations es)) (creations es)

abbrev pub deletions : List Entry → ℕ
deletions [] = 0
deletions (e ∷ es) = cond (is_delete e.edit) (suc (deletions es)) (deletions es)

-- ---- bytes

-- the entries of the whole messages of some bytes, none of which was rejected
abbrev pub HasEntries : List ℕ → List Entry → Type 0
HasEntries bytes entries = (r : ReaderState) × HasRead r bytes × (entries ≡ r.entries)

-- All behind the first so many bytes are zeros; before them stand the entries of whole messages, each of which is accepted after
-- those before it.
pub record IsFound (bytes : List ℕ) (f : JournalFound) : Type 0 where
  pub count : ℕ
  pub zeros : AllByRecursion (λ b. b ≡ 0) (drop count bytes)
  pub all : List Entry
  pub read : HasEntries (take count bytes) all
  pub accepted : IsAccepted [] all
  pub entries : f.entries ≡ length all
  pub orders : f.orders ≡ creations all - deletions all
