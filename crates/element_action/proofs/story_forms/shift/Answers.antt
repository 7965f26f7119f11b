use Rattle.std.proofs.Common.{◌≡◌, [], None, sym, ap, ◌∙◌}
use Rattle.std.specs.Option.{option_map}
use Rattle.mos_edits.specs.KeyedLists.{first_of, lacking_place, first_missing, put_before, picked, without}
use Rattle.mos_edits.specs.KeyedLists.Applied.{Done}
use Rattle.mos_edits.specs.Orders.{Order, shape}
use Rattle.mos_values.specs.Distinct.{story_ids}
use Rattle.element_action.specs.Answers.{named}
use Rattle.element_action.proofs.FormLemmas.{done_when}
use Rattle.element_action.proofs.SourceLemmas.{first-none}
use Rattle.element_action.proofs.story_forms.shift.Goals as goal

pub move_all-requires-clause-apart : goal.move_all-requires-clause-apart
move_all-requires-clause-apart c =
    let there = story_ids c.args.order.now.stories in
    let ids = c.as_slice-ids.result.now in
    let h : first_of (lacking_place there ids c.args.target.now) (first_missing there [] ids) ≡ None = sym c.find_move_fault.ensures ∙ ap (λ o. option_map named o) c.in-None.is in
    (first-none (lacking_place there ids c.args.target.now) (first_missing there [] ids) h).0

pub move_all-requires-clause-there : goal.move_all-requires-clause-there
move_all-requires-clause-there c =
    let there = story_ids c.args.order.now.stories in
    let ids = c.as_slice-ids.result.now in
    let h : first_of (lacking_place there ids c.args.target.now) (first_missing there [] ids) ≡ None = sym c.find_move_fault.ensures ∙ ap (λ o. option_map named o) c.in-None.is in
    (first-none (lacking_place there ids c.args.target.now) (first_missing there [] ids) h).1

pub returns-in-None : goal.returns-in-None
returns-in-None c =
    let ss = c.args.order.now.stories in
    let there = story_ids ss in
    let t = c.args.target.now in
    let ids = c.args.sources.now in
    let h : first_of (lacking_place there ids t) (first_missing there [] ids) ≡ None =
    ap (λ l. first_of (lacking_place there l t) (first_missing there [] l)) (sym c.as_slice-ids.ensures) ∙ sym c.find_move_fault.ensures ∙ ap (λ o. option_map named o) c.in-None.is in (
      done_when (first_of (lacking_place there ids t) (first_missing there [] ids)) (put_before shape.story_id t (picked shape.story_id ids ss) (without shape.story_id ids ss)) h
          ∙ ap (λ l. Done l)
          (sym (ap (λ (o : Order). o.stories) c.move_all.ensures ∙ ap (λ l. put_before shape.story_id t (picked shape.story_id l ss) (without shape.story_id l ss)) c.as_slice-ids.ensures)),
      ap (λ (o : Order). o.header) c.move_all.ensures,
      ap (λ (o : Order). o.scripts) c.move_all.ensures,
    )
