use Rattle.std.proofs.Common.{◌≡◌, drop}
use Rattle.std.specs.List.{position_from}
use Rattle.status_board.specs.Board.{is_of_element}
use Rattle.status_board.specs.Numbers.{element_of}
use Rattle.status_board.proofs.Places.{Along}
use Rattle.status_board.proofs.rows.find_row.Given as goal

abbrev pub invariant-next : goal.invariant-next
invariant-next l = (l.found ≡ position_from (is_of_element l.d l.ro l.level l.story l.item) l.at (drop l.at l.rows)) × Along element_of l.n l.rows l.at

abbrev pub decreases-next : goal.decreases-next
decreases-next l = l.at
