use Rattle.std.proofs.Common.{sym, ap, ◌∙◌}
use Rattle.mos_machines.specs.Server.View.{Out}
use Rattle.mos_machines.specs.Tables.{look, peer_of}
use Rattle.mos_machines.specs.Values.{seen}
use Rattle.machine_answers.specs.Answers.{stepped}
use Rattle.server_peer.specs.Parts.{after_view, flight_view, outcome_of}
use Rattle.server_peer.proofs.Outcomes.{entry-seen, entry-taken, beat-answer, unasked-answer}
use Rattle.server_peer.proofs.peer.Peer.answered.Goals as goal

pub returns-in-Unasked-clause-answer : goal.returns-in-Unasked-clause-answer
returns-in-Unasked-clause-answer c =
    let p = c.args.self.now in
    let v = flight_view p.upper (look Out p.views) in
    c.unasked.ensures.answer ∙ sym (ap (λ x. stepped x.1) (unasked-answer c.args.journal.now p (seen c.args.m.now) (sym (c.outcome.ensures v) ∙ ap (outcome_of v) c.in-Unasked.is)))

pub returns-in-Unasked-clause-step : goal.returns-in-Unasked-clause-step
returns-in-Unasked-clause-step c =
    let p = c.args.self.now in
    let v = flight_view p.upper (look Out p.views) in
    c.unasked.ensures.step ∙ sym (ap (λ x. x.0) (unasked-answer c.args.journal.now p (seen c.args.m.now) (sym (c.outcome.ensures v) ∙ ap (outcome_of v) c.in-Unasked.is)))

pub returns-in-Done-clause-answer : goal.returns-in-Done-clause-answer
returns-in-Done-clause-answer c =
    let p = c.args.self.now in
    let v = flight_view p.upper (look Out p.views) in
    ap (λ x. stepped x.1) (beat-answer c.args.journal.now p (seen c.args.m.now) (sym (c.outcome.ensures v) ∙ ap (outcome_of v) c.in-Done.is))

pub returns-in-Done-clause-step : goal.returns-in-Done-clause-step
returns-in-Done-clause-step c =
    let p = c.args.self.now in
    let v = flight_view p.upper (look Out p.views) in
    ap peer_of c.done.ensures ∙ ap (λ x. x.0) (beat-answer c.args.journal.now p (seen c.args.m.now) (sym (c.outcome.ensures v) ∙ ap (outcome_of v) c.in-Done.is))

pub returns-in-Seen-clause-answer : goal.returns-in-Seen-clause-answer
returns-in-Seen-clause-answer c =
    let p = c.args.self.now in
    let v = flight_view p.upper (look Out p.views) in
    sym (ap stepped (entry-taken c.args.journal.now p (seen c.args.m.now) (after_view c.in-Seen.after v) (sym (c.outcome.ensures v) ∙ ap (outcome_of v) c.in-Seen.is)))

pub returns-in-Seen-clause-step : goal.returns-in-Seen-clause-step
returns-in-Seen-clause-step c =
    let m = seen c.args.m.now in
    let p = c.args.self.now in
    let v = flight_view p.upper (look Out p.views) in
    ap peer_of c.see.ensures ∙ entry-seen c.args.journal.now p m (after_view c.in-Seen.after v) (sym (c.outcome.ensures v) ∙ ap (outcome_of v) c.in-Seen.is)
