use Rattle.std.proofs.Common.{◌≡◌, ◌<◌, length, remove, sym, ap, subst}
use Rattle.mos_edits.specs.Orders.{Order}
use Rattle.mos_values.specs.Distinct.{story_ids}
use Rattle.running_order.proofs.Ids.{AreDistinct-right}
use Rattle.running_order.specs.Sizes.{story_size, size_at, stories_size}
use Rattle.running_order.proofs.SizeLemmas.{edited-put_over}
use Rattle.running_order.proofs.order.Order.replace_story.Goals as goal

pub table_of-requires : goal.table_of-requires
table_of-requires c = AreDistinct-right (story_ids (remove c.args.self.now.stories c.args.at)) (story_ids (c.args.s.now)) c.requires.distinct

pub invariant_of-self-2 : goal.invariant_of-self-2
invariant_of-self-2 c =
    let old = c.self.inside.stories in
    let seen : c.args.self.now.stories ≡ old = ap (λ (o : Order). o.stories) (sym c.self.view_is) in
    (c.self.invariant.0, c.size_after-self-inside.ensures old (size_at story_size old c.args.at) (stories_size c.in_ok-new.new) c.self.invariant.1 c.story_units-gone.ensures c.units-come.ensures (edited-put_over old c.replace.new.self c.in_ok-new.new c.args.at (subst (λ l. c.args.at < length l) seen c.requires.within) c.in_ok-replace.ensures.ok))
