-- What decks hold, and what a call makes of one and of all.
use Rattle.std.specs.Prelude.{◌≡◌, ◌≤◌, ℕ, zero, suc, List, [], ◌∷◌, Bool, true, false, Option, None, Some, Result, Ok, Err, is_ok, if◌then◌else◌}
use Rattle.mos_edits.specs.Texts.{Text, set_order}
use Rattle.mos_io.specs.Counts.{Rose}
use Rattle.deck_rack.specs.declared.deck.DeckFault.{DeckFault}
use Rattle.deck_rack.specs.declared.deck.DeckFault.TheVariants.{Failed, NoMemory}
use Rattle.deck_rack.specs.declared.plays.PlayItem.{PlayItem}

-- what a deck holds of an order: its playlist, and whether it is armed for it
pub record Row : Type 0 where
  pub list : List PlayItem
  pub armed : Bool

-- nothing, and not armed
abbrev pub no_row : Row
no_row = record { list = []; armed = false }

-- another playlist, with the mark taken off
abbrev pub loaded : List PlayItem → Row → Row
loaded list row = record { list = list; armed = false }

-- the same playlist, armed or not
abbrev pub marked : Bool → Row → Row
marked armed row = record row { armed = armed }

-- a change of what is held of one order
abbrev pub changed : (Row → Row) → Text → (Text → Row) → Text → Row
changed change ro rows = set_order rows ro (change (rows ro))

-- what a deck says of itself: what it holds of each order, where it tells that, and how many calls failed and found no memory
pub record DeckView : Type 0 where
  pub told : Option (Text → Row)
  pub faults : ℕ
  pub wants : ℕ

-- neither count fell
pub record KeepsCounts (before after : DeckView) : Type 0 where
  pub faults : before.faults ≤ after.faults
  pub wants : before.wants ≤ after.wants

-- what is held of one order was changed, where that is told
abbrev pub IsChanged : Option (Text → Row) → Option (Text → Row) → (Row → Row) → Text → Type 0
IsChanged None after change ro = after ≡ None
IsChanged (Some rows) after change ro = after ≡ Some (changed change ro rows)

-- A call that was to change what is held of one order. It did so where it answers Ok; else a count rose, and nothing is said
-- of what the deck holds.
abbrev pub Answers : DeckView → DeckView → (Row → Row) → Text → Result (Unit {0}) DeckFault → Type 0
Answers before after change ro (Ok done) = KeepsCounts before after × IsChanged before.told after.told change ro
Answers before after change ro (Err Failed) = KeepsCounts before after × Rose before.faults after.faults
Answers before after change ro (Err NoMemory) = KeepsCounts before after × Rose before.wants after.wants

-- D is the type of a deck, and `view` what one says of itself
module _ {D : Type 0} (view : D → DeckView) (change : Row → Row) (ro : Text) where
  -- one deck was called once, and answered Ok or not
  pub record IsCalled (before after : D) (done : Bool) : Type 0 where
    pub answer : Result (Unit {0}) DeckFault
    pub answers : Answers (view before) (view after) change ro answer
    pub is : done ≡ is_ok answer

  -- each deck was called once: it stays exactly where it answered Ok
  abbrev pub AreCalled : List D → List D → Type 0
  AreCalled [] left = left ≡ []
  AreCalled (d ∷ ds) left =
      (after : D) × (done : Bool) × (rest : List D) × IsCalled d after done × AreCalled ds rest × (left ≡ (if done then after ∷ rest else rest))

  -- the deck at a place was called, and stays exactly where it answered Ok
  abbrev pub IsCalledAt : List D → ℕ → List D → Bool → Type 0
  IsCalledAt [] i left done = ⊥
  IsCalledAt (d ∷ ds) zero left done = (after : D) × IsCalled d after done × (left ≡ (if done then after ∷ ds else ds))
  IsCalledAt (d ∷ ds) (suc i) left done = (rest : List D) × (left ≡ d ∷ rest) × IsCalledAt ds i rest done
