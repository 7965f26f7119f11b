use Rattle.std.proofs.Common.{rules, ap}
use Rattle.shared_machine.proofs.RuleSteps.{splits, joins}
use Rattle.shared_machine.proofs.meeting.share_history.Goals as goal

pub split_seat-copy-requires : goal.split_seat-copy-requires
split_seat-copy-requires g c = (search rules, search rules, splits _ _ _ _ _ _ c.requires.3)

pub join_seat-requires : goal.join_seat-requires
join_seat-requires g c = let new = c.split_seat-copy.ensures.4 in
    (search rules, search rules, ap (λ m. m.1) new, search rules, joins _ _ _ _ _ _ _ _ c.requires.4 (ap (λ m. m.0.turn) new))
