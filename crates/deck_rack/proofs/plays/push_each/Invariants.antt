use Rattle.std.proofs.Common.{◌≡◌, ◌++◌, drop}
use Rattle.deck_rack.specs.Playlists.{played_items}
use Rattle.deck_rack.proofs.plays.push_each.Given as goal

abbrev pub invariant-items : goal.invariant-items
invariant-items l = l.list.items ++ played_items l.mos (drop l.item-index l.items) ≡ l.initial.list.items ++ played_items l.mos l.items
