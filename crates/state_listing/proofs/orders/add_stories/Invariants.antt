use Rattle.std.proofs.Common.{◌≡◌, ◌++◌, drop, map, string_bytes}
use Rattle.world_scripts.specs.Listing.{story_word}
use Rattle.state_listing.specs.Words.{behind}
use Rattle.state_listing.proofs.orders.add_stories.Given as goal

abbrev pub invariant-places : goal.invariant-places
invariant-places l =
    string_bytes l.line ++ behind (map (story_word l.order) (drop l.place l.order.stories)) ≡ string_bytes l.initial.line ++ behind (map (story_word l.order) l.order.stories)
