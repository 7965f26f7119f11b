use Rattle.message_runs.proofs.Givings.{giving_more, stopped_at}
use Rattle.message_runs.proofs.turns.give_next.Goals as goal

pub returns-in-Ok : goal.returns-in-Ok
returns-in-Ok g c l f l' f' stream was exchanges r e w = rw c.both.ensures (giving_more l f l' f' was stream exchanges _ r _ e _ _ _ (c.in-Ok.ensures.gives was exchanges w))

pub returns-in-Err : goal.returns-in-Err
returns-in-Err g c l f l' f' stream was exchanges r e w = stopped_at l f l' f' was stream exchanges _ r _ e _ _ _ _ w (c.in-Err.ensures.gives was exchanges w)
