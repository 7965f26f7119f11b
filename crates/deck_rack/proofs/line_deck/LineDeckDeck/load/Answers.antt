use Rattle.std.specs.Option.{option_copied}
use Rattle.deck_rack.specs.Playlists.{playlist_of}
use Rattle.std.specs.Prelude.{string_bytes}
use Rattle.deck_rack.specs.Decks.{loaded}
use Rattle.deck_rack.proofs.Views.{held-answers, want-answers}
use Rattle.deck_rack.proofs.line_deck.LineDeckDeck.load.Goals as goal

pub returns-in-Ok-clause-answers : goal.returns-in-Ok-clause-answers
returns-in-Ok-clause-answers g c = held-answers g.K.Sink.written g.K.Sink.faults c.args.self.now c.hold.new.self c.write.new.self (loaded (playlist_of (option_copied c.args.order) c.args.mos.now)) c.args.ro.now (string_bytes c.in-Ok.line) c.write.result c.in-Ok.ensures.ok c.write.ensures

pub returns-in-Err-clause-answers : goal.returns-in-Err-clause-answers
returns-in-Err-clause-answers g c = want-answers g.K.Sink.faults c.args.self.now c.hold.new.self c.want.new.self (loaded (playlist_of (option_copied c.args.order) c.args.mos.now)) c.args.ro.now c.want.result c.want.ensures.fault c.want.ensures.counts c.in-Err.ensures.err
