use Rattle.std.proofs.Common.{◌≡◌, take}
use Rattle.mos_values.specs.Units.{capped, units_in}
use Rattle.mos_values.specs.Views.{stories_events}
use Rattle.mos_values.proofs.sizes.stories_units.Given as goal

abbrev pub invariant-loop-story : goal.invariant-loop-story
invariant-loop-story l = l.count ≡ capped (units_in (stories_events (take l.story-index l.stories)))
