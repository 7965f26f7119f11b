use Rattle.std.proofs.Common.{◌≡◌, ◌+◌, ◌≤◌, length, vec_len}
use Rattle.std.specs.Vec.{vec_capacity}
use Rattle.std.specs.Vec.Iter.{into_iter_items}
use Rattle.mos_edits.specs.Rows.{row_ids}
use Rattle.order_table.specs.Rows.{IsAscending, put_rows}
use Rattle.order_table.proofs.rows.put_all_in.Given as goal

abbrev pub invariant-loop-ro : goal.invariant-loop-ro
invariant-loop-ro g l =
    record {
      can_next : (goal.iterator-loop-ro g).can_next l.ro-iterator;
      is_finite : (goal.iterator-loop-ro g).is_finite l.ro-iterator;
      ascending : IsAscending (row_ids l.rows.items);
      room : vec_len l.rows + length (into_iter_items l.ro-iterator) ≤ vec_capacity l.rows;
      rest : put_rows (into_iter_items l.ro-iterator) l.rows.items ≡ put_rows l.fn.new.items l.fn.rows.items;
    }
