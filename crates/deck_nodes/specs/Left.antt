-- How many decks are left, as the gateway knows it.
use Rattle.deck_rack.specs.Decks.{DeckView}
use Rattle.std.specs.Prelude.{◌≡◌, ◌≤◌, ℕ, if◌then◌else◌, nat_lt}
use Rattle.mos_machines.specs.Device.{Decks}

-- So many decks are in the rack: no more are left than before.
abbrev pub still_left : Decks → ℕ → Decks
still_left decks n = record { handed = decks.handed; left = if nat_lt n decks.left then n else decks.left }

-- the number of decks that are left never rises, and whether some were handed in stays
pub record KeepsDecks (before after : Decks) : Type 0 where
  pub handed : after.handed ≡ before.handed
  pub fewer : after.left ≤ before.left

-- a deck as it is seen, of a deck that is given so
abbrev pub as_seen : DeckView → DeckView
as_seen d = d
