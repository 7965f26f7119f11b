use Rattle.std.proofs.Common.{◌≡◌, ◌++◌, drop}
use Rattle.deck_rack.specs.Playlists.{played_stories}
use Rattle.deck_rack.proofs.plays.push_stories.Given as goal

abbrev pub invariant-stories : goal.invariant-stories
invariant-stories l = l.list.items ++ played_stories l.mos (drop l.place l.order.stories) ≡ l.initial.list.items ++ played_stories l.mos l.order.stories
