use Rattle.std.proofs.Common.{◌≡◌, ◌++◌, reverse, take}
use Rattle.status_board.specs.Board.{groups}
use Rattle.status_board.specs.Numbers.{order_of}
use Rattle.status_board.proofs.Places.{Along}
use Rattle.status_board.proofs.rows.groups_behind.Given as goal

abbrev pub invariant-next : goal.invariant-next
invariant-next l = (l.out.items ++ reverse (groups l.d l.ro (take l.at l.rows)) ≡ reverse (groups l.d l.ro l.rows)) × Along order_of l.n l.rows l.at

abbrev pub decreases-next : goal.decreases-next
decreases-next l = l.at
