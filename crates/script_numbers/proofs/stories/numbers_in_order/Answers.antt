use Rattle.std.proofs.Common.{◌++◌, ◌+◌, drop, ap, sym, ◌∙◌}
use Rattle.mos_values.specs.Distinct.{story_ids}
use Rattle.script_numbers.specs.Numbers.{numbers_on}
use Rattle.script_numbers.proofs.RowLemmas.{place-more, place-none}
use Rattle.script_numbers.proofs.stories.numbers_in_order.Goals as goal
use Rattle.script_numbers.proofs.stories.numbers_in_order.Goals.{in-Some+in_ok-push_number-in-Some, in-None}

pub places-preserved : goal.places-preserved
places-preserved c =
    let rows = c.args.stories.now in
    let stories = c.args.order.now.stories in
    let all = numbers_on (story_ids stories) rows in
    let rest = numbers_on (story_ids (drop (c.places.place + 1) stories)) rows in
    elim c.match-story.branch [
      | in-Some+in_ok-push_number-in-Some w ↦ ap (λ v. v.items ++ rest) w.numbers-is
          ∙ place-more rows stories c.places.place w.in-Some.story.now all c.places.numbers.items w.push_number.new.numbers.items (sym w.in-Some.ensures) c.places.invariant w.in_ok-push_number-in-Some.ensures
      | in-None w ↦ ap (λ v. v.items ++ rest) w.numbers-is ∙ place-none rows stories c.places.place all c.places.numbers.items (sym w.in-None.ensures) c.places.invariant
    ]
