use Rattle.std.proofs.Common.{◌≡◌, [], None, sym, ap, ◌∙◌}
use Rattle.std.specs.Option.{option_map}
use Rattle.mos_edits.specs.KeyedLists.{first_missing, without}
use Rattle.mos_edits.specs.KeyedLists.Applied.{Done}
use Rattle.mos_edits.specs.Orders.{Order, shape}
use Rattle.mos_values.specs.Distinct.{story_ids}
use Rattle.order_table.specs.Rows.{without_rows}
use Rattle.element_action.specs.Answers.{named}
use Rattle.element_action.proofs.FormLemmas.{done_when}
use Rattle.element_action.proofs.ScriptLemmas.{rows_left_are}
use Rattle.element_action.proofs.story_forms.delete.Goals as goal

pub remove_all-requires : goal.remove_all-requires
remove_all-requires c = sym c.find_delete_fault.ensures ∙ ap (λ o. option_map named o) c.in-None.is

pub returns-in-None : goal.returns-in-None
returns-in-None c =
    let ss = c.args.order.now.stories in
    let rows = c.args.order.now.scripts in
    let ids = c.args.sources.now in
    let h : first_missing (story_ids ss) [] ids ≡ None = ap (λ l. first_missing (story_ids ss) [] l) (sym c.as_slice-ids.ensures) ∙ sym c.find_delete_fault.ensures ∙ ap (λ o. option_map named o) c.in-None.is in (
      done_when (first_missing (story_ids ss) [] ids) (without shape.story_id ids ss) h
          ∙ ap (λ l. Done l) (sym (ap (λ (o : Order). o.stories) c.remove_all.ensures ∙ ap (λ l. without shape.story_id l ss) c.as_slice-ids.ensures)),
      ap (λ (o : Order). o.header) c.remove_all.ensures,
      ap (λ (o : Order). o.scripts) c.remove_all.ensures ∙ ap (λ l. without_rows l rows) c.as_slice-ids.ensures ∙ sym (rows_left_are ids rows),
    )
