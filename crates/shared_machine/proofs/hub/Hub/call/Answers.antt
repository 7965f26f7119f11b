use Rattle.std.proofs.Common.{ap, ◌∙◌, subst}
use Rattle.shared_machine.specs.Passes.{Known, Follows}
use Rattle.shared_machine.proofs.Histories.{if_ok}
use Rattle.shared_machine.proofs.CallLaws.{call_follows, follows_first}
use Rattle.shared_machine.proofs.hub.Hub.call.Goals as goal

pub returns-clause-ok : goal.returns-clause-ok
returns-clause-ok g c = if_ok c.call_in_turn.result _ _
    (λ a h. follows_first _ _ _ c.args.self.now.start c.args.pass.now.caller c.args.pass.now.seen c.args.event a c.call_in_turn.new.seat.me.0.seen (subst (λ (k : Known (g.row.M.Denot × g.row.D.Denot) g.row.M-Event.Denot g.row.M-Answer.Denot). Follows (λ x e b y. g.M.StepRelation.steps x.0 e b y.0) (λ x y. g.M.StepRelation.refusal x.0 y.0) (λ x. g.M.StepRelation.decks_left x.0) c.args.self.now.start k.caller k.seen c.args.event a c.call_in_turn.new.seat.me.0.seen)
    c.pass.view_is
    (call_follows _ _ _ c.pass.inside.seat.me.0 c.wait_for_turn-ticket.new.seat.me.0 c.call_in_turn.new.seat.me.0 _ c.args.self.now.start h.0 c.args.event a h.1 (ap (λ m. m.0) c.wait_for_turn-ticket.ensures.2) (ap (λ m. m.0) h.2) (ap (λ k. k.start) c.pass.view_is ∙ c.requires.1) h.3)))
    c.call_in_turn.ensures.ok
