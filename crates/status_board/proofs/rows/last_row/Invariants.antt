use Rattle.std.proofs.Common.{◌≡◌, take}
use Rattle.status_board.specs.Board.{is_of_order}
use Rattle.status_board.specs.Links.{last_by}
use Rattle.status_board.specs.Numbers.{order_of}
use Rattle.status_board.proofs.Places.{Along}
use Rattle.status_board.proofs.rows.last_row.Given as goal

abbrev pub invariant-next : goal.invariant-next
invariant-next l = (last_by (is_of_order l.d l.ro) l.rows ≡ last_by (is_of_order l.d l.ro) (take l.at l.rows)) × Along order_of l.n l.rows l.at

abbrev pub decreases-next : goal.decreases-next
decreases-next l = l.at
