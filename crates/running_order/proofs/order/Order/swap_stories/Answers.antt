use Rattle.std.proofs.Common.{sym, ap, ◌∙◌, ◌≡◌, ◌<◌, length, subst}
use Rattle.mos_values.specs.Units.{capped}
use Rattle.mos_edits.specs.Orders.{Order}
use Rattle.running_order.proofs.SizeLemmas.{size-swap}
use Rattle.running_order.proofs.order.Order.swap_stories.Goals as goal

pub invariant_of-self : goal.invariant_of-self
invariant_of-self c =
    let old = c.self.inside.stories in
    let seen : c.args.self.now.stories ≡ old = ap (λ (o : Order). o.stories) (sym c.self.view_is) in
    (c.self.invariant.0, c.self.invariant.1 ∙ ap capped (sym (size-swap old c.swap.new.self c.args.a c.args.b (subst (λ l. c.args.a < length l) seen c.requires.a) (subst (λ l. c.args.b < length l) seen c.requires.b) c.swap.ensures)))
