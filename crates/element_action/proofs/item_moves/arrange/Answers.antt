use Rattle.std.proofs.Common.{◌≡◌, ◌+◌, ◌<◌, List, length, take, refl, sym, ap, subst, ◌∙◌, arith}
use Rattle.std.specs.List.Sorted.{IsPermutation}
use Rattle.mos_edits.specs.Orders.{Item, Order, shape}
use Rattle.running_order.specs.Places.{items_at, edit_items}
use Rattle.element_action.specs.Targets.{brought}
use Rattle.element_action.proofs.ArrangeLemmas.{next, arranged, brought_long}
use Rattle.element_action.proofs.ItemMoveLemmas.{edited_at, edited_long, edited_next, edited_none, story_within, still_here}
use Rattle.element_action.proofs.item_moves.arrange.Goals as goal

pub loop-k-init : goal.loop-k-init
loop-k-init c = record { header = refl; scripts = refl; is = sym (edited_none c.args.order.now.stories c.args.i); long = refl; rest = λ ys p q. (p, refl) }

pub item_count-count-requires : goal.item_count-count-requires
item_count-count-requires c =
    let ss = c.args.order.now.stories in
    let lt = story_within c.args.story.now ss c.args.i c.requires.here in
    let long = ap length c.loop-k.invariant.is ∙ edited_long ss c.args.i (λ old. items_at c.loop-k.order.stories c.args.i) in
    omega (arith, lt, long)

pub bring-requires-clause-here : goal.bring-requires-clause-here
bring-requires-clause-here c =
    still_here c.args.story.now c.args.order.now.stories c.args.i c.requires.here c.loop-k.order.stories (λ old. items_at c.loop-k.order.stories c.args.i) c.loop-k.invariant.is

pub bring-requires-clause-within : goal.bring-requires-clause-within
bring-requires-clause-within c = omega (arith, c.requires.within, c.loop-k-test.true, c.loop-k.invariant.long)

pub loop-k-preserved : goal.loop-k-preserved
loop-k-preserved c =
    let k = c.loop-k.k in
    let i = c.args.i in
    let first = c.args.order.now.stories in
    let ss = c.loop-k.order.stories in
    let id = c.index-ids-k.result in
    let change = brought shape.item_id k id in
    let is = ap (λ (o : Order). o.stories) c.bring.ensures in
    let lt = story_within c.args.story.now first i c.requires.here in
    let long = ap length c.loop-k.invariant.is ∙ edited_long first i (λ old. items_at ss i) in
    let within : i < length ss = omega (arith, lt, long) in
    let at = ap (λ l. items_at l i) is ∙ edited_at ss i change within in
    record {
      header = ap (λ (o : Order). o.header) c.bring.ensures ∙ c.loop-k.invariant.header;
      scripts = ap (λ (o : Order). o.scripts) c.bring.ensures ∙ c.loop-k.invariant.scripts;
      is = edited_next first ss c.bring.new.order.stories i change within c.loop-k.invariant.is is;
      long = ap length at ∙ brought_long shape.item_id k id (items_at ss i) ∙ c.loop-k.invariant.long;
      rest = λ ys p q.
          let r = c.loop-k.invariant.rest ys p q in
          subst (λ (l : List Item). IsPermutation l ys × (take (k + 1) l ≡ take (k + 1) ys)) (sym at)
          (next shape.item_id (items_at ss i) ys c.args.ids.now k id c.item_count-count.ensures.distinct r.0 r.1 q c.loop-k-test.true c.index-ids-k.is);
    }

pub returns : goal.returns
returns c =
    λ ys p q.
    let i = c.args.i in
    let ss = c.loop-k.order.stories in
    let r = c.loop-k.invariant.rest ys p q in
    let e = arranged shape.item_id (items_at ss i) ys c.args.ids.now c.loop-k.k r.0 r.1 q c.loop-k-test.false in
    let is = c.loop-k.invariant.is ∙ (λ j. edit_items c.args.order.now.stories i (λ old. e j)) in
    λ j. record { header = c.loop-k.invariant.header j; stories = is j; scripts = c.loop-k.invariant.scripts j }
