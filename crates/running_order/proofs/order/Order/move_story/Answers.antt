use Rattle.std.proofs.Common.{sym, ap, ◌∙◌, ◌≡◌, ◌<◌, length, subst}
use Rattle.mos_values.specs.Units.{capped}
use Rattle.mos_edits.specs.Orders.{Order}
use Rattle.running_order.proofs.SizeLemmas.{size-move}
use Rattle.running_order.proofs.order.Order.move_story.Goals as goal

pub invariant_of-self : goal.invariant_of-self
invariant_of-self c =
    let old = c.self.inside.stories in
    let seen : c.args.self.now.stories ≡ old = ap (λ (o : Order). o.stories) (sym c.self.view_is) in
    (c.self.invariant.0, c.self.invariant.1 ∙ ap capped (sym (size-move old c.move_to.new.self c.args.from c.args.to (subst (λ l. c.args.from < length l) seen c.requires.from) (subst (λ l. c.args.to < length l) seen c.requires.to) c.move_to.ensures)))
