use Rattle.std.proofs.Common.{◌≡◌, ◌++◌, drop}
use Rattle.mos_values.specs.Distinct.{story_ids}
use Rattle.script_numbers.specs.Numbers.{numbers_on}
use Rattle.script_numbers.proofs.stories.numbers_in_order.Given as goal

abbrev pub invariant-places : goal.invariant-places
invariant-places l = l.numbers.items ++ numbers_on (story_ids (drop l.place l.order.stories)) l.stories ≡ numbers_on (story_ids l.order.stories) l.stories
