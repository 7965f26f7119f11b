-- Decks in memory.
use Rattle.std.specs.Prelude.{◌≡◌, ℕ, List, Some, true, false, Result, Ok, Err}
use Rattle.mos_edits.specs.Texts.{Text}
use Rattle.mos_machines.specs.Tables.{look, put_row}
use Rattle.mos_io.specs.Counts.{counted}
use Rattle.mos_io.specs.Memory.{is_listed}
use Rattle.deck_rack.specs.Decks.{DeckView, Row, no_row}
use Rattle.deck_rack.specs.declared.deck.DeckFault.{DeckFault}
use Rattle.deck_rack.specs.declared.deck.DeckFault.TheVariants.{Failed, NoMemory}

-- what rows say of each order
abbrev pub rows_of : List (Text × Row) → Text → Row
rows_of rows = look no_row rows

-- a change of the row of an order, which is added where there is none
abbrev pub row_changed : (Row → Row) → Text → List (Text × Row) → List (Text × Row)
row_changed change ro rows = put_row ro (change (rows_of rows ro)) rows

-- a deck in memory: its rows, which calls fail, the number of the next call, and the two counts
pub record MemoryDeck : Type 0 where
  pub rows : List (Text × Row)
  pub fails : List ℕ
  pub call : ℕ
  pub faults : ℕ
  pub wants : ℕ

abbrev pub memory_view : MemoryDeck → DeckView
memory_view d = record { told = Some (rows_of d.rows); faults = d.faults; wants = d.wants }

-- a deck that writes lines: what they are written to, its rows, and its count of wants
pub record WritingDeck (K : Type 0) : Type 0 where
  pub sink : K
  pub rows : List (Text × Row)
  pub wants : ℕ

abbrev pub writing_view : {K : Type 0} → (K → ℕ) → WritingDeck K → DeckView
writing_view faults d = record { told = Some (rows_of d.rows); faults = faults d.sink; wants = d.wants }

-- a call of a deck in memory, which counts it: exactly the listed calls answer Failed, and change nothing more than the counts; nor
-- does one that finds no memory
abbrev pub IsMemoryAnswer : MemoryDeck → MemoryDeck → (Row → Row) → Text → Result (Unit {0}) DeckFault → Type 0
IsMemoryAnswer before after change ro (Ok done) =
    (is_listed before.call before.fails ≡ false) × (after ≡ record before { call = counted before.call; rows = row_changed change ro before.rows })
IsMemoryAnswer before after change ro (Err Failed) =
    (is_listed before.call before.fails ≡ true) × (after ≡ record before { call = counted before.call; faults = counted before.faults })
IsMemoryAnswer before after change ro (Err NoMemory) =
    (is_listed before.call before.fails ≡ false) × (after ≡ record before { call = counted before.call; wants = counted before.wants })
