use Rattle.std.proofs.Common.{true, false}
use Rattle.deck_rack.specs.Decks.{marked}
use Rattle.deck_rack.proofs.Views.{memory-answers}
use Rattle.deck_rack.proofs.mem_deck.MemDeckDeck.disarm.Goals as goal

pub returns-clause-answers : goal.returns-clause-answers
returns-clause-answers c = memory-answers c.args.self.now c.mark.new.self (marked false) c.args.ro.now c.mark.result c.mark.ensures
