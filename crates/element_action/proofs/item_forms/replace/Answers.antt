use Rattle.std.proofs.Common.{true, [], Some, refl, sym, ap, ◌∙◌}
use Rattle.std.specs.Option.{option_map}
use Rattle.mos_edits.specs.KeyedLists.{first_of, lacking, first_repeated}
use Rattle.mos_edits.specs.KeyedLists.ListAction.{Replace}
use Rattle.mos_edits.specs.Orders.{Order}
use Rattle.mos_values.specs.Distinct.{story_ids, item_ids}
use Rattle.element_action.specs.Answers.{named}
use Rattle.element_action.specs.Levels.{beside}
use Rattle.element_action.proofs.ItemLemmas.{items_in}
use Rattle.element_action.proofs.FormLemmas.{item_fault, item_done}
use Rattle.element_action.proofs.item_forms.replace.Goals as goal

pub returns-in-Some : goal.returns-in-Some
returns-in-Some c =
    let ss = c.args.order.now.stories in
    let story = c.args.story.now in
    let there = item_ids (items_in story ss) in
    let first = lacking (story_ids ss) story in
    let t = c.args.target.now in
    let ids = c.as_slice.ensures ∙ c.in_ok-ids.ensures in
    let found = sym (c.find_replace_fault.ensures ∙ ap (λ l. first_of first (first_of (lacking there t) (first_repeated (beside (Some t) there) [] l))) ids) ∙ ap (λ o. option_map named o) c.in-Some.is in
    (item_fault true story (Replace t c.args.sources.now) ss (named c.in-Some.fault) c.told.result found c.told.ensures, refl)

pub returns : goal.returns
returns c =
    let ss = c.args.order.now.stories in
    let story = c.args.story.now in
    let there = item_ids (items_in story ss) in
    let first = lacking (story_ids ss) story in
    let t = c.args.target.now in
    let ids = c.as_slice.ensures ∙ c.in_ok-ids.ensures in
    let found = sym (c.find_replace_fault.ensures ∙ ap (λ l. first_of first (first_of (lacking there t) (first_repeated (beside (Some t) there) [] l))) ids) ∙ ap (λ o. option_map named o) c.in-None.is in (
      item_done story (Replace t c.args.sources.now) ss c.put_items_for.new.order.stories found (ap (λ (o : Order). o.stories) c.in_ok-put_items_for-in-None.ensures.ok),
      ap (λ (o : Order). o.header) c.in_ok-put_items_for-in-None.ensures.ok,
      ap (λ (o : Order). o.scripts) c.in_ok-put_items_for-in-None.ensures.ok,
    )
