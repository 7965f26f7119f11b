use Rattle.std.proofs.Common.{rules, ap}
use Rattle.shared_machine.proofs.RuleSteps.{splits, numbers_caller}
use Rattle.shared_machine.proofs.meeting.split_seat_off.Goals as goal

pub split_seat-new-requires : goal.split_seat-new-requires
split_seat-new-requires g c = (search rules, search rules, splits _ _ _ _ _ _ c.requires.2)

pub load-requires : goal.load-requires
load-requires g c = let new = c.split_seat-new.ensures.4 in (search rules, search rules, numbers_caller _ _ _ _ _ _ _ (ap (λ m. m.0.turn) new))
