use Rattle.std.specs.Prelude.{false}
use Rattle.deck_rack.specs.Decks.{marked}
use Rattle.deck_tests.proofs.shared_deck.SharedDeckDeck.disarm.Goals as goal

pub returns : goal.returns
returns c = c.counted.ensures (marked false) c.args.ro.now
