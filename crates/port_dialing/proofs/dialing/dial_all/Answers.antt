use Rattle.std.proofs.Common.{◌≡◌, ◌||◌, [], ◌∷◌, ◌++◌, Bool, refl, sym, ap, ◌∙◌}
use Rattle.port_dialing.specs.Dialing.{Tries, Worker, worker}
use Rattle.port_dialing.proofs.Dialings.{dialed_all, dials_more, goes_more, same_caller, starves_on}
use Rattle.port_dialing.proofs.dialing.dial_all.Goals as goal
use Rattle.port_dialing.proofs.dialing.dial_all.Goals.{then-starved, else-starved}

pub loop-init : goal.loop-init
loop-init g c = record { own = c.requires; caller = refl; tries = []; dials = refl; goes_on = tt; starves = refl }

pub returns-then-next-clause-dialed : goal.returns-then-next-clause-dialed
returns-then-next-clause-dialed g c =
    let i = c.loop.invariant in
    let s = c.dial_once-next.ensures.tries in
    let a : Worker = worker (g.Di.Dialer.links c.args.dialer.now) (g.Di.Dialer.calls c.args.dialer.now) (g.P.Pacer.paces c.args.pacer.now) (g.P.Pacer.stops c.args.pacer.now) (g.C.Clock.time c.args.clock.now) c.args.pass.now.seen in
    let b : Worker = worker (g.Di.Dialer.links c.loop.dialer) (g.Di.Dialer.calls c.loop.dialer) (g.P.Pacer.paces c.loop.pacer) (g.P.Pacer.stops c.loop.pacer) (g.C.Clock.time c.loop.clock) c.loop.pass.seen in
    let z : Worker = worker (g.Di.Dialer.links c.dial_once-next.new.dialer) (g.Di.Dialer.calls c.dial_once-next.new.dialer) (g.P.Pacer.paces c.dial_once-next.new.pacer) (g.P.Pacer.stops c.dial_once-next.new.pacer) (g.C.Clock.time c.dial_once-next.new.clock) c.dial_once-next.new.pass.seen in
    let t : Tries g.M.StepRelation.steps g.M.StepRelation.refusal g.M.StepRelation.decks_left c.args.hub.now.start.0 c.args.pass.now.caller c.args.port.now c.args.budget b z s.0 = same_caller g.M.StepRelation.steps g.M.StepRelation.refusal g.M.StepRelation.decks_left c.args.hub.now.start.0 c.loop.pass.caller c.args.pass.now.caller c.args.port.now c.args.budget b z s.0 i.caller s.1 in
    let joined : c.if-starved.starved ≡ (c.loop.starved || c.dial_once-next.result.starved) = elim c.if-starved.branch [
      | then-starved w ↦ w.starved-is ∙ (w.if-starved.true ∙ sym (ap (λ (x : Bool). x || c.dial_once-next.result.starved) w.if-starved.true))
      | else-starved w ↦ w.starved-is ∙ sym (ap (λ (x : Bool). x || c.dial_once-next.result.starved) w.if-starved.false)
    ] in
    dialed_all g.M.StepRelation.steps g.M.StepRelation.refusal g.M.StepRelation.decks_left c.args.hub.now.start.0 c.args.pass.now.caller c.args.port.now c.args.budget a b z i.tries s.0 c.if-starved.starved i.dials t i.goes_on (sym s.2 ∙ c.if-next.true) (starves_on i.tries s.0 c.loop.starved c.dial_once-next.result.starved c.if-starved.starved i.starves s.3 joined)

pub loop-preserved : goal.loop-preserved
loop-preserved g c =
    let i = c.loop.invariant in
    let s = c.dial_once-next.ensures.tries in
    let a : Worker = worker (g.Di.Dialer.links c.args.dialer.now) (g.Di.Dialer.calls c.args.dialer.now) (g.P.Pacer.paces c.args.pacer.now) (g.P.Pacer.stops c.args.pacer.now) (g.C.Clock.time c.args.clock.now) c.args.pass.now.seen in
    let b : Worker = worker (g.Di.Dialer.links c.loop.dialer) (g.Di.Dialer.calls c.loop.dialer) (g.P.Pacer.paces c.loop.pacer) (g.P.Pacer.stops c.loop.pacer) (g.C.Clock.time c.loop.clock) c.loop.pass.seen in
    let z : Worker = worker (g.Di.Dialer.links c.dial_once-next.new.dialer) (g.Di.Dialer.calls c.dial_once-next.new.dialer) (g.P.Pacer.paces c.dial_once-next.new.pacer) (g.P.Pacer.stops c.dial_once-next.new.pacer) (g.C.Clock.time c.dial_once-next.new.clock) c.dial_once-next.new.pass.seen in
    let t : Tries g.M.StepRelation.steps g.M.StepRelation.refusal g.M.StepRelation.decks_left c.args.hub.now.start.0 c.args.pass.now.caller c.args.port.now c.args.budget b z s.0 = same_caller g.M.StepRelation.steps g.M.StepRelation.refusal g.M.StepRelation.decks_left c.args.hub.now.start.0 c.loop.pass.caller c.args.pass.now.caller c.args.port.now c.args.budget b z s.0 i.caller s.1 in
    let joined : c.if-starved.starved ≡ (c.loop.starved || c.dial_once-next.result.starved) = elim c.if-starved.branch [
      | then-starved w ↦ w.starved-is ∙ (w.if-starved.true ∙ sym (ap (λ (x : Bool). x || c.dial_once-next.result.starved) w.if-starved.true))
      | else-starved w ↦ w.starved-is ∙ sym (ap (λ (x : Bool). x || c.dial_once-next.result.starved) w.if-starved.false)
    ] in
    record {
      own = c.dial_once-next.ensures.pass.0;
      caller = c.dial_once-next.ensures.pass.1 ∙ i.caller;
      tries = i.tries ++ s.0 ∷ [];
      dials = dials_more g.M.StepRelation.steps g.M.StepRelation.refusal g.M.StepRelation.decks_left c.args.hub.now.start.0 c.args.pass.now.caller c.args.port.now c.args.budget a b z i.tries s.0 i.dials t;
      goes_on = goes_more i.tries s.0 i.goes_on (sym s.2 ∙ c.if-next.false);
      starves = starves_on i.tries s.0 c.loop.starved c.dial_once-next.result.starved c.if-starved.starved i.starves s.3 joined;
    }
