use Rattle.std.specs.Option.{option_copied}
use Rattle.deck_rack.specs.Playlists.{playlist_of}
use Rattle.deck_rack.specs.Decks.{loaded}
use Rattle.deck_rack.proofs.Views.{memory-answers}
use Rattle.deck_rack.proofs.mem_deck.MemDeckDeck.load.Goals as goal

pub returns-clause-answers : goal.returns-clause-answers
returns-clause-answers c = memory-answers c.args.self.now c.hold.new.self (loaded (playlist_of (option_copied c.args.order) c.args.mos.now)) c.args.ro.now c.hold.result c.hold.ensures
