use Rattle.std.proofs.Common.{◌≡◌, false, [], None, refl, sym, ap, ◌∙◌}
use Rattle.std.specs.Option.{option_map}
use Rattle.mos_edits.specs.KeyedLists.{first_of, lacking, lacking_place, first_missing, picked, put_before, without}
use Rattle.mos_edits.specs.KeyedLists.ListAction.{Move}
use Rattle.mos_edits.specs.Orders.{Order, shape}
use Rattle.mos_values.specs.Distinct.{story_ids, item_ids}
use Rattle.element_action.specs.Answers.{named}
use Rattle.element_action.specs.Levels.{edit_story}
use Rattle.element_action.proofs.ItemLemmas.{items_in}
use Rattle.element_action.proofs.FormLemmas.{item_fault, item_done}
use Rattle.element_action.proofs.SourceLemmas.{first-none}
use Rattle.element_action.proofs.item_forms.shift.Goals as goal

pub move_all-requires-clause-apart : goal.move_all-requires-clause-apart
move_all-requires-clause-apart c =
    let ss = c.args.order.now.stories in
    let there = item_ids (items_in c.args.story.now ss) in
    let first = lacking (story_ids ss) c.args.story.now in
    let ids = c.as_slice-ids.result.now in
    let both = first_of (lacking_place there ids c.args.target.now) (first_missing there [] ids) in
    let h : first_of first both ≡ None = sym c.find_move_fault.ensures ∙ ap (λ o. option_map named o) c.in-None.is in
    (first-none (lacking_place there ids c.args.target.now) (first_missing there [] ids) (first-none first both h).1).0

pub move_all-requires-clause-there : goal.move_all-requires-clause-there
move_all-requires-clause-there c =
    let ss = c.args.order.now.stories in
    let there = item_ids (items_in c.args.story.now ss) in
    let first = lacking (story_ids ss) c.args.story.now in
    let ids = c.as_slice-ids.result.now in
    let both = first_of (lacking_place there ids c.args.target.now) (first_missing there [] ids) in
    let h : first_of first both ≡ None = sym c.find_move_fault.ensures ∙ ap (λ o. option_map named o) c.in-None.is in
    (first-none (lacking_place there ids c.args.target.now) (first_missing there [] ids) (first-none first both h).1).1

pub returns-in-Some : goal.returns-in-Some
returns-in-Some c =
    let ss = c.args.order.now.stories in
    let story = c.args.story.now in
    let there = item_ids (items_in story ss) in
    let first = lacking (story_ids ss) story in
    let t = c.args.target.now in
    let found = sym (c.find_move_fault.ensures ∙ ap (λ l. first_of first (first_of (lacking_place there l t) (first_missing there [] l))) c.as_slice-ids.ensures) ∙ ap (λ o. option_map named o) c.in-Some.is in
    (item_fault false story (Move t c.args.sources.now) ss (named c.in-Some.fault) c.told.result found c.told.ensures, refl)

pub returns-in-None : goal.returns-in-None
returns-in-None c =
    let ss = c.args.order.now.stories in
    let story = c.args.story.now in
    let there = item_ids (items_in story ss) in
    let first = lacking (story_ids ss) story in
    let t = c.args.target.now in
    let ids = c.args.sources.now in
    let found : first_of first (first_of (lacking_place there ids t) (first_missing there [] ids)) ≡ None =
    sym (c.find_move_fault.ensures ∙ ap (λ l. first_of first (first_of (lacking_place there l t) (first_missing there [] l))) c.as_slice-ids.ensures) ∙ ap (λ o. option_map named o) c.in-None.is in
    let left = ap (λ (o : Order). o.stories) c.move_all.ensures
    ∙ ap (λ l. edit_story story (λ old. put_before shape.item_id t (picked shape.item_id l old) (without shape.item_id l old)) ss) c.as_slice-ids.ensures in
    (item_done story (Move t ids) ss c.move_all.new.order.stories found left, ap (λ (o : Order). o.header) c.move_all.ensures, ap (λ (o : Order). o.scripts) c.move_all.ensures)
