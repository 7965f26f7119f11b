use Rattle.std.proofs.Common.{◌≡◌, ℕ, suc, ◌+◌, ◌≤◌, true, false, length, subst, arith}
use Rattle.std.specs.Option.{option_copied}
use Rattle.deck_rack.specs.Playlists.{playlist_of}
use Rattle.deck_rack.specs.Decks.{loaded, IsCalledAt}
use Rattle.deck_rack.proofs.Calls.{Goes, called-fewer, goes-on, goes-end, less}
use Rattle.deck_rack.proofs.rack.load_each.Goals as goal

pub load_at-requires : goal.load_at-requires
load_at-requires g c = let o = c.decks.decks.ok in omega (arith, c.decks-test.true, c.len.ensures, o)

pub decks-smaller-then-load_at : goal.decks-smaller-then-load_at
decks-smaller-then-load_at g c =
    let at = subst (IsCalledAt g.D.Deck.view (loaded (playlist_of (option_copied c.args.order) c.args.mos.now)) c.args.ro.now c.decks.decks.items c.decks.place c.load_at.new.decks.items) c.if-load_at.true c.load_at.ensures in
    let n = less g.D.Deck.view (loaded (playlist_of (option_copied c.args.order) c.args.mos.now)) c.args.ro.now c.decks.decks.items c.decks.place c.load_at.new.decks.items true at in
    omega (arith, n)

pub decks-smaller : goal.decks-smaller
decks-smaller g c =
    let at = subst (IsCalledAt g.D.Deck.view (loaded (playlist_of (option_copied c.args.order) c.args.mos.now)) c.args.ro.now c.decks.decks.items c.decks.place c.load_at.new.decks.items) c.if-load_at.false c.load_at.ensures in
    (less g.D.Deck.view (loaded (playlist_of (option_copied c.args.order) c.args.mos.now)) c.args.ro.now c.decks.decks.items c.decks.place c.load_at.new.decks.items false at).1

pub decks-preserved-then-load_at : goal.decks-preserved-then-load_at
decks-preserved-then-load_at g c =
    let at = subst (IsCalledAt g.D.Deck.view (loaded (playlist_of (option_copied c.args.order) c.args.mos.now)) c.args.ro.now c.decks.decks.items c.decks.place c.load_at.new.decks.items) c.if-load_at.true c.load_at.ensures in
    let k : suc c.decks.place ≡ c.decks.place + 1 = omega arith in
    subst (λ (n : ℕ). Goes g.D.Deck.view (loaded (playlist_of (option_copied c.args.order) c.args.mos.now)) c.args.ro.now c.args.decks.now.items n c.load_at.new.decks.items) k (goes-on g.D.Deck.view (loaded (playlist_of (option_copied c.args.order) c.args.mos.now)) c.args.ro.now c.args.decks.now.items c.decks.decks.items c.load_at.new.decks.items c.decks.place true c.decks.invariant at)

pub decks-preserved : goal.decks-preserved
decks-preserved g c =
    let at = subst (IsCalledAt g.D.Deck.view (loaded (playlist_of (option_copied c.args.order) c.args.mos.now)) c.args.ro.now c.decks.decks.items c.decks.place c.load_at.new.decks.items) c.if-load_at.false c.load_at.ensures in
    goes-on g.D.Deck.view (loaded (playlist_of (option_copied c.args.order) c.args.mos.now)) c.args.ro.now c.args.decks.now.items c.decks.decks.items c.load_at.new.decks.items c.decks.place false c.decks.invariant at

pub returns-clause-called : goal.returns-clause-called
returns-clause-called g c =
    let o = c.decks.decks.ok in
    let le : length c.decks.decks.items ≤ c.decks.place = omega (arith, c.decks-test.false, c.len.ensures, o) in
    goes-end g.D.Deck.view (loaded (playlist_of (option_copied c.args.order) c.args.mos.now)) c.args.ro.now c.args.decks.now.items c.decks.decks.items c.decks.place le c.decks.invariant

pub returns-clause-fewer : goal.returns-clause-fewer
returns-clause-fewer g c =
    let o = c.decks.decks.ok in
    let le : length c.decks.decks.items ≤ c.decks.place = omega (arith, c.decks-test.false, c.len.ensures, o) in
    called-fewer g.D.Deck.view (loaded (playlist_of (option_copied c.args.order) c.args.mos.now)) c.args.ro.now c.args.decks.now.items c.decks.decks.items (goes-end g.D.Deck.view (loaded (playlist_of (option_copied c.args.order) c.args.mos.now)) c.args.ro.now c.args.decks.now.items c.decks.decks.items c.decks.place le c.decks.invariant)
