-- The numbers of the entries whose scripts stand, as rows by roID of rows by storyID.
use Rattle.std.specs.Prelude.{◌≡◌, ◌<◌, ℕ, List, [], ◌∷◌, false, Option, Some, None, IsSome, if◌then◌else◌}
use Rattle.mos_edits.specs.Texts.{Text, same_id, has_id}
use Rattle.mos_edits.specs.KeyedLists.{with_found}
use Rattle.mos_edits.specs.Rows.{find_row, look}
use Rattle.mos_edits.specs.Orders.{form_of, taken_out}
use Rattle.mos_edits.specs.declared.edit.Edit.{Edit}
use Rattle.mos_edits.specs.declared.edit.Edit.TheVariants.{Create, Replace, Delete, Metadata, Act, Air, Script}
use Rattle.mos_edits.specs.Entries.{Entry, entries}
use Rattle.mos_edits.specs.Scripts.{numbers_after, has_number}

-- the number of the entry whose script stands on a story; a row with None is as none
abbrev pub number_in : List (Text × List (Text × Option ℕ)) → Text → Text → Option ℕ
number_in rows r story = look None (look [] rows r) story

-- the rows are those of the journal
abbrev pub AreNumbers : List Entry → List (Text × List (Text × Option ℕ)) → Type 0
AreNumbers journal rows = (r story : Text) → number_in rows r story ≡ find_row story (numbers_after r (entries r journal))

-- what edit `k` of an order, where it applies, makes of the number on a story of the order
abbrev pub number_next : Edit → ℕ → Text → Option ℕ → Option ℕ
number_next (Create body) k story number = None
number_next (Replace body) k story number = None
number_next (Delete ro) k story number = None
number_next (Metadata patch) k story number = number
number_next (Act ro action) k story number = if has_id story (taken_out (form_of action)) then None else number
number_next (Air ro air) k story number = number
number_next (Script script) k story number = if same_id story script.story then Some k else number

-- the numbers on the stories of order `r` are changed so, and all others stay
abbrev pub IsChanged : Text → (Text → Option ℕ → Option ℕ) → List (Text × List (Text × Option ℕ)) → List (Text × List (Text × Option ℕ)) → Type 0
IsChanged r change old new =
    (q story : Text) → number_in new q story ≡ (if same_id q r then change story (number_in old q story) else number_in old q story)

-- each story has the same number in both
abbrev pub IsSame : List (Text × List (Text × Option ℕ)) → List (Text × List (Text × Option ℕ)) → Type 0
IsSame old new = (r story : Text) → number_in new r story ≡ number_in old r story

-- there is a row for the number on a story
abbrev pub HasRow : Text → Text → List (Text × List (Text × Option ℕ)) → Type 0
HasRow r story rows = IsSome (find_row r rows) × IsSome (find_row story (look [] rows r))

-- there is a row for the number that an edit gives
abbrev pub HasRoom : Edit → List (Text × List (Text × Option ℕ)) → Type 0
HasRoom (Script script) rows = HasRow script.ro script.story rows
HasRoom e rows = Unit {0}

-- the numbers in the rows of an order, in the order of these stories
abbrev pub numbers_on : List Text → List (Text × Option ℕ) → List ℕ
numbers_on [] rows = []
numbers_on (id ∷ more) rows = with_found (look None rows id) (numbers_on more rows)

-- each number is below `n`
abbrev pub AreBelow : ℕ → List ℕ → Type 0
AreBelow n [] = Unit {0}
AreBelow n (k ∷ ks) = (k < n) × AreBelow n ks

-- no number stands twice
abbrev pub StandOnce : List ℕ → Type 0
StandOnce [] = Unit {0}
StandOnce (k ∷ ks) = (has_number k ks ≡ false) × StandOnce ks
