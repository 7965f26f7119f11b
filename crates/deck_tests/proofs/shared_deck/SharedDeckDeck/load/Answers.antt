use Rattle.std.specs.Option.{option_copied}
use Rattle.deck_rack.specs.Decks.{loaded}
use Rattle.deck_rack.specs.Playlists.{playlist_of}
use Rattle.deck_tests.proofs.shared_deck.SharedDeckDeck.load.Goals as goal

pub returns : goal.returns
returns c = c.counted.ensures (loaded (playlist_of (option_copied c.args.order) c.args.mos.now)) c.args.ro.now
