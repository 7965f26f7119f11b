use Rattle.std.proofs.Common.{◌≡◌, ◌+◌, length, sym, ap, ◌∙◌, subst, arith}
use Rattle.std.specs.Vec.Iter.{into_iter_items}
use Rattle.mos_edits.specs.Rows.{row_ids}
use Rattle.order_table.specs.Rows.{IsAscending, put_rows}
use Rattle.order_table.proofs.AscendingRows.{put-ascending}
use Rattle.order_table.proofs.rows.put_all_in.Goals as goal

pub loop-ro-preserved : goal.loop-ro-preserved
loop-ro-preserved g c =
    let left = into_iter_items c.next.new.self in
    let step = c.in-Some.ensures.steps.0 in
    let more : length (into_iter_items c.loop-ro.ro-iterator) ≡ length left + 1 = ap length step ∙ omega arith in
    record {
      can_next = tt;
      is_finite = tt;
      ascending = subst (λ rows. IsAscending (row_ids rows)) (sym c.put_within.ensures.items) (put-ascending c.in-Some.ro c.in-Some.value c.loop-ro.rows.items c.loop-ro.invariant.ascending);
      room = omega arith;
      rest = ap (put_rows left) c.put_within.ensures.items ∙ (sym (ap (λ new. put_rows new c.loop-ro.rows.items) step) ∙ c.loop-ro.invariant.rest);
    }
