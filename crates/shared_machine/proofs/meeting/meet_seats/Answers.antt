use Rattle.std.proofs.Common.{rules, ap, ◌∙◌}
use Rattle.shared_machine.proofs.RuleSteps.{learns_history, adopts_history}
use Rattle.shared_machine.proofs.CallLaws.{received_longer}
use Rattle.shared_machine.proofs.meeting.meet_seats.Goals as goal

pub load-requires : goal.load-requires
load-requires g c = (search rules, search rules, learns_history _ _ _ _ _ _ _ (ap (λ m. m.0.turn) c.share_history.ensures.3 ∙ c.requires.3))

pub load-requires-2 : goal.load-requires-2
load-requires-2 g c =
    let t = c.load.ensures.2 (ap (λ m. m.0.turn) c.share_history.ensures.3 ∙ c.requires.3) in (
      search rules,
      search rules,
      adopts_history _ _ _ _ _ _ _ (ap (λ m. m.0.turn) c.share_history-2.ensures.3 ∙ (ap (λ m. m.0.turn) c.share_history.ensures.1 ∙ c.requires.4))
          (received_longer c.args.a.now.me c.args.b.now.me c.share_history.new.to.me c.share_history.new.from.me c.load.new.seat.me c.share_history-2.new.to.me t.0 c.share_history.ensures.1 c.share_history.ensures.3 t.2 t.4 c.share_history-2.ensures.3),
    )
