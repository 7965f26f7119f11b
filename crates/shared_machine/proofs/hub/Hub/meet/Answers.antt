use Rattle.std.proofs.Common.{ap, ◌∙◌}
use Rattle.shared_machine.proofs.CallLaws.{legal_as, legal_first}
use Rattle.shared_machine.proofs.hub.Hub.meet.Goals as goal

pub returns-clause-legal : goal.returns-clause-legal
returns-clause-legal g c = let t = c.meet_seats.ensures.seen in
    legal_first _ _ _ c.args.self.now.start c.meet_seats.new.a.me.0.seen (legal_as _ _ _ c.a.inside.seat.me.0.start c.args.self.now.start c.meet_seats.new.a.me.0.seen t.0 (ap (λ k. k.start) c.a.view_is ∙ c.requires.0.1) (ap (λ m. m.0.seen) t.1) t.5)
