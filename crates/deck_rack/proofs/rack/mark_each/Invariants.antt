use Rattle.std.proofs.Common.{◌-◌, length}
use Rattle.deck_rack.specs.Decks.{marked}
use Rattle.deck_rack.proofs.Calls.{Goes}
use Rattle.deck_rack.proofs.rack.mark_each.Given as goal

abbrev pub invariant-decks : goal.invariant-decks
invariant-decks g l = Goes g.D.Deck.view (marked l.armed) l.ro l.initial.decks.items l.place l.decks.items

abbrev pub decreases-decks : goal.decreases-decks
decreases-decks g l = length l.decks.items - l.place
