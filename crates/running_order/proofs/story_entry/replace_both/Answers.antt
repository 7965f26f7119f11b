use Rattle.std.proofs.Common.{◌<◌, ap, sym, subst, ◌∙◌, remove}
use Rattle.running_order.specs.Places.{put_in, put_over}
use Rattle.mos_values.specs.Distinct.{item_ids}
use Rattle.running_order.proofs.Lists.{put_in-remove}
use Rattle.running_order.proofs.Ids.{ids_put_over}
use Rattle.running_order.proofs.story_entry.replace_both.Goals as goal

pub returns-clause-tied_still : goal.returns-clause-tied_still
returns-clause-tied_still c =
    let list = c.args.list.now.items in
    let new = c.args.new.items in
    c.in_ok-replace.ensures.ok ∙ (λ j. put_over (c.requires.tied j) c.args.at (c.requires.new_tied j)) ∙ sym (ids_put_over list new c.args.at)
    ∙ ap (λ l. item_ids (l)) (sym (c.put_in_room.ensures ∙ ap (λ l. put_in l c.args.at new) (c.remove.ensures.items ∙ ap (λ l. remove l c.args.at) c.reserve.ensures.items) ∙ put_in-remove list c.args.at new (subst (λ n. c.args.at < n) c.args.list.now.ok.0 c.requires.within)))
