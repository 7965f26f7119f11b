use Rattle.std.proofs.Common.{◌++◌, ◌∷◌, [], take, sym, ap, ◌∙◌}
use Rattle.std.proofs.lemmas.List.{take_more}
use Rattle.mos_edits.specs.Texts.{has_id}
use Rattle.element_action.specs.Levels.{level_ids}
use Rattle.element_action.proofs.SourceLemmas.{missing_next, missing_end}
use Rattle.element_action.proofs.search.find_missing_by_table.Goals as goal

pub loop-k-preserved : goal.loop-k-preserved
loop-k-preserved c =
    let there = level_ids c.args.level c.args.order.now.stories in
    let ss = c.args.sources.now in
    let k = c.loop-k.k in
    let x = c.index-sources-k.result in
    record {
      seen = c.in_ok-note.ensures ∙ (λ j. c.loop-k.invariant.seen j ++ c.index-sources-k.is j ∷ []) ∙ sym (take_more ss k x c.loop-k-test.true);
      rest = c.loop-k.invariant.rest ∙ missing_next there ss k x c.loop-k-test.true
          (ap (λ u. has_id u there) (sym c.index-sources-k.is) ∙ sym c.is_there.ensures ∙ c.if-not-is_there.false)
          (ap (λ u. has_id u (take k ss)) (sym c.index-sources-k.is) ∙ ap (λ l. has_id x l) (sym c.loop-k.invariant.seen) ∙ sym c.is_seen.ensures ∙ c.if-is_seen.false);
    }

pub returns : goal.returns
returns c =
    let there = level_ids c.args.level c.args.order.now.stories in
    sym (c.loop-k.invariant.rest ∙ missing_end there c.args.sources.now c.loop-k.k c.loop-k-test.false)
