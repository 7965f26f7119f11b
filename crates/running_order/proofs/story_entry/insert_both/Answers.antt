use Rattle.std.proofs.Common.{ap, sym, ◌∙◌}
use Rattle.running_order.specs.Places.{put_in}
use Rattle.mos_values.specs.Distinct.{item_ids}
use Rattle.running_order.proofs.Ids.{ids_put_in}
use Rattle.running_order.proofs.story_entry.insert_both.Goals as goal

pub returns-clause-tied_still : goal.returns-clause-tied_still
returns-clause-tied_still c =
    let list = c.args.list.now.items in
    let new = c.args.new.items in
    c.in_ok-insert_all.ensures.ok ∙ (λ j. put_in (c.requires.tied j) c.args.at (c.requires.new_tied j)) ∙ sym (ids_put_in list new c.args.at)
    ∙ ap (λ l. item_ids (l)) (sym (c.put_in_room.ensures ∙ ap (λ l. put_in l c.args.at new) c.reserve.ensures.items))
