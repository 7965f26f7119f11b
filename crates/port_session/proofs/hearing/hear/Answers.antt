use Rattle.std.proofs.Common.{List, [], ◌∷◌, ◌++◌, refl, subst, ◌∙◌}
use Rattle.mos_values.specs.declared.message.Envelope.{Envelope}
use Rattle.mos_values.specs.declared.message.Message.{Message}
use Rattle.mos_values.specs.declared.message.Message.TheVariants.{ReqMachInfo}
use Rattle.port_events.specs.declared.event.What.TheVariants.{Heard}
use Rattle.port_session.specs.Calls.{Gained}
use Rattle.port_session.specs.Events.{event}
use Rattle.port_session.specs.Serving.{Call, Responds}
use Rattle.port_session.proofs.Servings.{gains_more, responded, responds_rest}
use Rattle.port_session.proofs.hearing.hear.Goals as goal

pub returns-in-Ok-clause-exchanged : goal.returns-in-Ok-clause-exchanged
returns-in-Ok-clause-exchanged g c =
    let o = c.in_default.ensures.began in
    let e = c.args.e.now in
    let p = c.args.port.now in
    let a = c.in-Ok.answer in
    let calls : List Call = o.0 ++ (event p (Heard e.message), a) ∷ [] in
    let told = subst (λ (m : Message). Gained g.M.StepRelation.steps g.M.StepRelation.refusal g.M.StepRelation.decks_left c.args.hub.now.start.0 c.accept.new.pass.caller c.accept.new.pass.seen c.tell.new.pass.seen ((event p (Heard m), a) ∷ [])) (c.new-message.ensures ∙ c.take_message.ensures.message) c.in-Ok.ensures.ok in
    let same = responds_rest (g.K.Sink.written c.args.sink.now) (g.K.Sink.written c.respond.new.sink) (g.K.Sink.faults c.args.sink.now) (g.K.Sink.faults c.respond.new.sink) e ReqMachInfo a c.respond.result
    (subst (λ (z : Envelope). Responds (g.K.Sink.written c.args.sink.now) (g.K.Sink.written c.respond.new.sink) (g.K.Sink.faults c.args.sink.now) (g.K.Sink.faults c.respond.new.sink) z a c.respond.result) c.take_message.ensures.rest c.respond.ensures.responds) in
    let t = responded p c.args.on e calls a _ _ _ _ c.respond.result (c.requires.named, (o.0, o.2, refl)) same in record {
      calls = calls;
      out = t.0;
      gained = gains_more _ _ _ _ _ _ _ _ _ _ _ c.accept.ensures.pass.1 o.1 told;
      wrote = t.1;
      served = t.2;
    }
