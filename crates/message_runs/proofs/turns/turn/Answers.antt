use Rattle.message_runs.proofs.Givings.{turned_given, turned_over}
use Rattle.message_runs.proofs.turns.turn.Goals as goal

pub returns-in-Message : goal.returns-in-Message
returns-in-Message g c l f was w = turned_given l f _ _ was _ _ _ _ _ (c.give_next.ensures l f _ _ _ was _ (c.in-Message.ensures.next l f _ w.reads) w.good_is w.going)

pub returns-in-Over : goal.returns-in-Over
returns-in-Over g c l f was w = turned_over l f _ _ was _ _ _ _ _ _ w _ _ _ _ (c.in-Over.ensures.next l f _ w.reads) c.ended_by.ensures
