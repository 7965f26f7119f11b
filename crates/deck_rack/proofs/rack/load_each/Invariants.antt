use Rattle.std.proofs.Common.{◌-◌, length}
use Rattle.std.specs.Option.{option_copied}
use Rattle.deck_rack.specs.Playlists.{playlist_of}
use Rattle.deck_rack.specs.Decks.{loaded}
use Rattle.deck_rack.proofs.Calls.{Goes}
use Rattle.deck_rack.proofs.rack.load_each.Given as goal

abbrev pub invariant-decks : goal.invariant-decks
invariant-decks g l = Goes g.D.Deck.view (loaded (playlist_of (option_copied l.order) l.mos)) l.ro l.initial.decks.items l.place l.decks.items

abbrev pub decreases-decks : goal.decreases-decks
decreases-decks g l = length l.decks.items - l.place
