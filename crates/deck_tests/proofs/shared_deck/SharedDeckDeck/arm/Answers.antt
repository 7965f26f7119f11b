use Rattle.std.specs.Prelude.{true}
use Rattle.deck_rack.specs.Decks.{marked}
use Rattle.deck_tests.proofs.shared_deck.SharedDeckDeck.arm.Goals as goal

pub returns : goal.returns
returns c = c.counted.ensures (marked true) c.args.ro.now
