use Rattle.std.proofs.Common.{◌≡◌, false, [], None, refl, sym, ap, ◌∙◌}
use Rattle.std.specs.Option.{option_map}
use Rattle.mos_edits.specs.KeyedLists.{first_of, lacking, first_missing, without}
use Rattle.mos_edits.specs.KeyedLists.ListAction.{Delete}
use Rattle.mos_edits.specs.Orders.{Order, shape}
use Rattle.mos_values.specs.Distinct.{story_ids, item_ids}
use Rattle.element_action.specs.Answers.{named}
use Rattle.element_action.specs.Levels.{edit_story}
use Rattle.element_action.proofs.ItemLemmas.{items_in}
use Rattle.element_action.proofs.FormLemmas.{item_fault, item_done}
use Rattle.element_action.proofs.SourceLemmas.{first-none}
use Rattle.element_action.proofs.item_forms.delete.Goals as goal

pub remove_all-requires : goal.remove_all-requires
remove_all-requires c =
    let ss = c.args.order.now.stories in
    let there = item_ids (items_in c.args.story.now ss) in
    let first = lacking (story_ids ss) c.args.story.now in
    let ids = c.as_slice-ids.result.now in
    let h : first_of first (first_missing there [] ids) ≡ None = sym c.find_delete_fault.ensures ∙ ap (λ o. option_map named o) c.in-None.is in
    (first-none first (first_missing there [] ids) h).1

pub returns-in-Some : goal.returns-in-Some
returns-in-Some c =
    let ss = c.args.order.now.stories in
    let story = c.args.story.now in
    let there = item_ids (items_in story ss) in
    let first = lacking (story_ids ss) story in
    let found = sym (c.find_delete_fault.ensures ∙ ap (λ l. first_of first (first_missing there [] l)) c.as_slice-ids.ensures) ∙ ap (λ o. option_map named o) c.in-Some.is in
    (item_fault false story (Delete c.args.sources.now) ss (named c.in-Some.fault) c.told.result found c.told.ensures, refl)

pub returns-in-None : goal.returns-in-None
returns-in-None c =
    let ss = c.args.order.now.stories in
    let story = c.args.story.now in
    let there = item_ids (items_in story ss) in
    let first = lacking (story_ids ss) story in
    let found = sym (c.find_delete_fault.ensures ∙ ap (λ l. first_of first (first_missing there [] l)) c.as_slice-ids.ensures) ∙ ap (λ o. option_map named o) c.in-None.is in
    let left = ap (λ (o : Order). o.stories) c.remove_all.ensures ∙ ap (λ l. edit_story story (without shape.item_id l) ss) c.as_slice-ids.ensures in
    (item_done story (Delete c.args.sources.now) ss c.remove_all.new.order.stories found left, ap (λ (o : Order). o.header) c.remove_all.ensures, ap (λ (o : Order). o.scripts) c.remove_all.ensures)
