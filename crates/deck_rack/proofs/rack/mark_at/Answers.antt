use Rattle.std.proofs.Common.{subst, sym}
use Rattle.deck_rack.specs.Decks.{marked, IsCalledAt}
use Rattle.deck_rack.proofs.Calls.{called-stays, called-goes}
use Rattle.deck_rack.proofs.rack.mark_at.Goals as goal

pub returns-then-not-done : goal.returns-then-not-done
returns-then-not-done g c =
    let at = called-goes g.D.Deck.view (marked c.args.armed) c.args.ro.now c.args.decks.now.items c.args.place c.index_mut.result.now c.mark_one-done.new.deck c.mark_one-done.result c.requires c.index_mut.ensures.value c.mark_one-done.ensures c.if-not-done.true in
    subst (λ l. IsCalledAt g.D.Deck.view (marked c.args.armed) c.args.ro.now c.args.decks.now.items c.args.place l c.mark_one-done.result) (sym c.remove.ensures.items) at

pub returns-else-not-done : goal.returns-else-not-done
returns-else-not-done g c =
    called-stays g.D.Deck.view (marked c.args.armed) c.args.ro.now c.args.decks.now.items c.args.place c.index_mut.result.now c.mark_one-done.new.deck c.mark_one-done.result c.requires c.index_mut.ensures.value c.mark_one-done.ensures c.if-not-done.false
