use Rattle.std.proofs.Common.{◌≡◌, ◌+◌, List, length, take, refl, sym, ap, subst, ◌∙◌, arith}
use Rattle.std.specs.List.Sorted.{IsPermutation}
use Rattle.mos_edits.specs.Orders.{Order, Story, shape}
use Rattle.element_action.proofs.ArrangeLemmas.{next, arranged, brought_long}
use Rattle.element_action.proofs.story_moves.arrange.Goals as goal

pub loop-k-init : goal.loop-k-init
loop-k-init c = record { header = refl; scripts = refl; long = refl; rest = λ ys p i. (p, refl) }

pub bring-requires : goal.bring-requires
bring-requires c = omega (arith, c.requires, c.loop-k-test.true, c.loop-k.invariant.long)

pub loop-k-preserved : goal.loop-k-preserved
loop-k-preserved c =
    let k = c.loop-k.k in
    let ss = c.loop-k.order.stories in
    let is = ap (λ (o : Order). o.stories) c.bring.ensures in
    record {
      header = ap (λ (o : Order). o.header) c.bring.ensures ∙ c.loop-k.invariant.header;
      scripts = ap (λ (o : Order). o.scripts) c.bring.ensures ∙ c.loop-k.invariant.scripts;
      long = ap length is ∙ brought_long shape.story_id k c.index-ids-k.result ss ∙ c.loop-k.invariant.long;
      rest = λ ys p i.
          let r = c.loop-k.invariant.rest ys p i in
          subst (λ (l : List Story). IsPermutation l ys × (take (k + 1) l ≡ take (k + 1) ys)) (sym is)
          (next shape.story_id ss ys c.args.ids.now k c.index-ids-k.result c.has_distinct_stories.ensures r.0 r.1 i c.loop-k-test.true c.index-ids-k.is);
    }

pub returns : goal.returns
returns c =
    λ ys p i.
    let r = c.loop-k.invariant.rest ys p i in
    let e = arranged shape.story_id c.loop-k.order.stories ys c.args.ids.now c.loop-k.k r.0 r.1 i c.loop-k-test.false in
    λ j. record { header = c.loop-k.invariant.header j; stories = e j; scripts = c.loop-k.invariant.scripts j }
