use Rattle.std.proofs.Common.{true, [], sym, ap, ◌∙◌}
use Rattle.std.specs.Option.{option_map}
use Rattle.mos_edits.specs.KeyedLists.{first_of, lacking, first_missing}
use Rattle.mos_edits.specs.KeyedLists.ListAction.{Delete}
use Rattle.mos_values.specs.Distinct.{story_ids, item_ids}
use Rattle.element_action.specs.Answers.{named}
use Rattle.element_action.proofs.ItemLemmas.{items_in}
use Rattle.element_action.proofs.FormLemmas.{item_fault, item_result}
use Rattle.element_action.proofs.checks.check_delete_items.Goals as goal

pub returns-in-Some : goal.returns-in-Some
returns-in-Some c =
    let ss = c.args.order.now.stories in
    let story = c.args.story.now in
    let there = item_ids (items_in story ss) in
    let first = lacking (story_ids ss) story in
    let found = sym (c.find_delete_fault.ensures ∙ ap (λ l. first_of first (first_missing there [] l)) c.as_slice-ids.ensures) ∙ ap (λ o. option_map named o) c.in-Some.is in
    item_fault true story (Delete c.args.sources.now) ss (named c.in-Some.fault) c.told.result found c.told.ensures

pub returns-in-None : goal.returns-in-None
returns-in-None c =
    let ss = c.args.order.now.stories in
    let story = c.args.story.now in
    let there = item_ids (items_in story ss) in
    let first = lacking (story_ids ss) story in
    let found = sym (c.find_delete_fault.ensures ∙ ap (λ l. first_of first (first_missing there [] l)) c.as_slice-ids.ensures) ∙ ap (λ o. option_map named o) c.in-None.is in
    item_result story (Delete c.args.sources.now) ss found
