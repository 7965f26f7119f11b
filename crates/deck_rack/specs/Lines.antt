-- The lines of a deck that writes what it is told, in UTF-8.
use Rattle.std.specs.Prelude.{◌≡◌, ◌≤◌, ℕ, List, [], ◌∷◌, ◌++◌, codes, Option, Result, Ok, Err}
use Rattle.std.specs.List.{flat_map}
use Rattle.std.specs.Char.{encode_utf8}
use Rattle.mos_edits.specs.Texts.{Text}
use Rattle.mos_io.specs.Bytes.{Appends, AppendsFront}
use Rattle.mos_io.specs.Counts.{Rose, counted}
use Rattle.deck_rack.specs.Decks.{Row}
use Rattle.deck_rack.specs.Memory.{WritingDeck}
use Rattle.deck_rack.specs.declared.deck.DeckFault.{DeckFault}
use Rattle.deck_rack.specs.declared.deck.DeckFault.TheVariants.{Failed, NoMemory}
use Rattle.deck_rack.specs.declared.plays.PlayItem.{PlayItem}

-- a text in UTF-8
abbrev pub utf8 : Text → List ℕ
utf8 x = flat_map encode_utf8 x

-- ` ITEM=OBJ`
abbrev pub item_word : PlayItem → List ℕ
item_word p = 32 ∷ utf8 p.item ++ (61 ∷ utf8 p.obj)

abbrev pub item_words : List PlayItem → List ℕ
item_words ps = flat_map item_word ps

-- `load RO` and a word for each item, with a line feed
abbrev pub load_line : Text → List PlayItem → List ℕ
load_line ro ps = codes "load " ++ (utf8 ro ++ (item_words ps ++ (10 ∷ [])))

-- `arm RO` and `disarm RO`, with a line feed
abbrev pub arm_line : Text → List ℕ
arm_line ro = codes "arm " ++ (utf8 ro ++ (10 ∷ []))

abbrev pub disarm_line : Text → List ℕ
disarm_line ro = codes "disarm " ++ (utf8 ro ++ (10 ∷ []))

module _ {K : Type 0} (written : K → Option (List ℕ)) (faults : K → ℕ) where
  -- A line was written, by one write, and the deck holds these rows, where the answer is Ok. Where it is Failed, the sink's
  -- count rose, and a front of the line may stand there. Where it is NoMemory, the deck counted that, and nothing was written.
  abbrev pub WritesLine : WritingDeck K → WritingDeck K → List (Text × Row) → List ℕ → Result (Unit {0}) DeckFault → Type 0
  WritesLine before after rows line (Ok done) =
      (after.rows ≡ rows) × (after.wants ≡ before.wants) × Appends (written before.sink) (written after.sink) line × (faults before.sink ≤ faults after.sink)
  WritesLine before after rows line (Err Failed) =
      (after.wants ≡ before.wants) × AppendsFront (written before.sink) (written after.sink) line × (faults before.sink ≤ faults after.sink) × Rose (faults before.sink) (faults after.sink)
  WritesLine before after rows line (Err NoMemory) =
      (after.wants ≡ counted before.wants) × (written after.sink ≡ written before.sink) × (faults before.sink ≤ faults after.sink)
