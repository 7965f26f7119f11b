use Rattle.std.proofs.Common.{◌≡◌, ◌+◌, ◌-◌, ◌≤◌, suc, length, take, refl, ap, ◌∙◌, arith}
use Rattle.mos_edits.specs.Orders.{Order}
use Rattle.running_order.specs.Places.{items_at, edit_items}
use Rattle.element_action.proofs.ItemMoveLemmas.{edited_long, edited_same, none_dropped, dropped_next, dropped_within}
use Rattle.element_action.proofs.item_moves.drop_last.Goals as goal

pub loop-k-init : goal.loop-k-init
loop-k-init c =
    record {
      header = refl;
      scripts = refl;
      bound = omega arith;
      rest = none_dropped c.args.order.now.stories c.args.i (c.item_count-end.result - 0) (omega (arith, c.item_count-end.ensures.count));
    }

pub remove_item-requires-clause-story : goal.remove_item-requires-clause-story
remove_item-requires-clause-story c =
    let long = ap length c.loop-k.invariant.rest ∙ edited_long c.args.order.now.stories c.args.i (λ old. take (c.item_count-end.result - c.loop-k.k) old) in
    omega (arith, long, c.requires.story)

pub remove_item-requires-clause-within : goal.remove_item-requires-clause-within
remove_item-requires-clause-within c =
    let all = items_at c.args.order.now.stories c.args.i in
    let end = c.item_count-end.result in
    let k = c.loop-k.k in
    let le : end - k ≤ length all = omega (arith, c.item_count-end.ensures.count) in
    let long = dropped_within c.args.order.now.stories c.loop-k.order.stories c.args.i (end - k) c.requires.story le c.loop-k.invariant.rest in
    omega (arith, long, c.loop-k-test.true, c.item_count-end.ensures.count, c.requires.within)

pub loop-k-preserved : goal.loop-k-preserved
loop-k-preserved c =
    let first = c.args.order.now.stories in
    let i = c.args.i in
    let all = items_at first i in
    let end = c.item_count-end.result in
    let k = c.loop-k.k in
    let at = end - 1 - k in
    let more : end - k ≡ suc at = omega (arith, c.loop-k-test.true, c.item_count-end.ensures.count, c.requires.within) in
    let le : end - k ≤ length all = omega (arith, c.item_count-end.ensures.count) in
    let less : at ≡ end - (k + 1) = omega (arith, c.loop-k-test.true, c.item_count-end.ensures.count, c.requires.within) in
    record {
      header = ap (λ (o : Order). o.header) c.remove_item.ensures ∙ c.loop-k.invariant.header;
      scripts = ap (λ (o : Order). o.scripts) c.remove_item.ensures ∙ c.loop-k.invariant.scripts;
      bound = omega (arith, c.loop-k-test.true);
      rest = dropped_next first c.loop-k.order.stories c.remove_item.new.self.stories i (end - k) at more le c.loop-k.invariant.rest (ap (λ (o : Order). o.stories) c.remove_item.ensures)
          ∙ (λ j. edit_items first i (λ old. take (less j) old));
    }

pub returns : goal.returns
returns c =
    let first = c.args.order.now.stories in
    let i = c.args.i in
    let all = items_at first i in
    let end = c.item_count-end.result in
    let k = c.loop-k.k in
    let count = c.args.count in
    let same : end - k ≡ length all - count = omega (arith, c.loop-k-test.false, c.loop-k.invariant.bound, c.item_count-end.ensures.count, c.requires.within) in
    let is = c.loop-k.invariant.rest ∙ edited_same first i (λ old. take (end - k) old) (λ old. take (length old - count) old) (ap (λ n. take n all) same) in
    λ j. record { header = c.loop-k.invariant.header j; stories = is j; scripts = c.loop-k.invariant.scripts j }
