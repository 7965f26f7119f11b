use Rattle.std.proofs.Common.{subst, sym}
use Rattle.std.specs.Option.{option_copied}
use Rattle.deck_rack.specs.Playlists.{playlist_of}
use Rattle.deck_rack.specs.Decks.{loaded, IsCalledAt}
use Rattle.deck_rack.proofs.Calls.{called-stays, called-goes}
use Rattle.deck_rack.proofs.rack.load_at.Goals as goal

pub returns-then-not-done : goal.returns-then-not-done
returns-then-not-done g c =
    let at = called-goes g.D.Deck.view (loaded (playlist_of (option_copied c.args.order) c.args.mos.now)) c.args.ro.now c.args.decks.now.items c.args.place c.index_mut.result.now c.load_one-done.new.deck c.load_one-done.result c.requires c.index_mut.ensures.value c.load_one-done.ensures c.if-not-done.true in
    subst (λ l. IsCalledAt g.D.Deck.view (loaded (playlist_of (option_copied c.args.order) c.args.mos.now)) c.args.ro.now c.args.decks.now.items c.args.place l c.load_one-done.result) (sym c.remove.ensures.items) at

pub returns-else-not-done : goal.returns-else-not-done
returns-else-not-done g c =
    called-stays g.D.Deck.view (loaded (playlist_of (option_copied c.args.order) c.args.mos.now)) c.args.ro.now c.args.decks.now.items c.args.place c.index_mut.result.now c.load_one-done.new.deck c.load_one-done.result c.requires c.index_mut.ensures.value c.load_one-done.ensures c.if-not-done.false
