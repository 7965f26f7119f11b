use Rattle.std.proofs.Common.{take, sym, ap, ◌∙◌}
use Rattle.std.specs.Option.{option_copied}
use Rattle.mos_edits.specs.Texts.{has_id}
use Rattle.element_action.specs.Levels.{level_ids, beside}
use Rattle.element_action.proofs.SourceLemmas.{repeated_next, repeated_end}
use Rattle.element_action.proofs.search.find_repeated_by_pairs.Goals as goal

pub loop-k-preserved : goal.loop-k-preserved
loop-k-preserved c =
    let there = beside (option_copied c.args.out) (level_ids c.args.level c.args.order.now.stories) in
    let ss = c.args.sources.now in
    let k = c.loop-k.k in
    let x = c.index-sources-k.result in
    c.loop-k.invariant ∙ repeated_next there ss k x c.loop-k-test.true
    (ap (λ u. has_id u there) (sym c.index-sources-k.is) ∙ sym c.is_beside.ensures ∙ c.if-is_beside.false)
    (ap (λ u. has_id u (take k ss)) (sym c.index-sources-k.is) ∙ sym c.is_among.ensures ∙ c.if-is_among.false)

pub returns : goal.returns
returns c =
    let there = beside (option_copied c.args.out) (level_ids c.args.level c.args.order.now.stories) in
    sym (c.loop-k.invariant ∙ repeated_end there c.args.sources.now c.loop-k.k c.loop-k-test.false)
