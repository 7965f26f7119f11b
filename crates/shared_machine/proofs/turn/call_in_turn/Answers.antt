use Rattle.std.proofs.Common.{rules, [], true, false, sym, ap, ◌∙◌, subst}
use Rattle.shared_machine.specs.Turns.{ticket_of}
use Rattle.shared_machine.proofs.RuleSteps.{raises_count}
use Rattle.shared_machine.proofs.CallLaws.{call_added}
use Rattle.shared_machine.proofs.turn.call_in_turn.Goals as goal

pub step_in_slot-requires : goal.step_in_slot-requires
step_in_slot-requires g c = let t = c.take_machine.ensures.2 in (search rules, (t.0, ap (λ m. m.1) t.1))

pub fetch_add-requires : goal.fetch_add-requires
fetch_add-requires g c = let t = c.take_machine.ensures.2 in
    let r = c.in-Ok.ensures.ok t.0 (ap (λ m. m.1) t.1) in
    let at = c.step_in_slot.ensures.seat.2 ∙ ap (λ m. m.0) t.1 in (
      search rules,
      search rules,
      raises_count _ _ _ _ (λ x. g.met.M.Machine.refusal_reflexive x.0) _ _ _ r.0 r.3.0 c.args.ticket t.0.machine r.1 (ap (λ z. z.turn) at) r.3.1
          (subst (λ (z : g.row.M-Event.Denot × g.row.M-Answer.Denot). g.M.StepRelation.steps t.0.machine.0 z.0 z.1 r.0.machine.0) (sym r.3.2) r.2),
    )

pub pass_turn-requires-clause-held : goal.pass_turn-requires-clause-held
pass_turn-requires-clause-held g c = let t = c.take_machine.ensures.2 in
    let r = c.in-Ok.ensures.ok t.0 (ap (λ m. m.1) t.1) in
    let a = c.fetch_add.ensures.2 r.0 r.3.0 r.1 r.3.1 in
    (ticket_of c.step_in_slot.new.seat.me.0.turn, r.0.machine, true, r.0, ap (λ z. z.turn) a.1.1, a.0 ∙ r.1, g.met.M.Machine.refusal_reflexive r.0.machine.0)

pub pass_turn-requires-in-Err-clause-held : goal.pass_turn-requires-in-Err-clause-held
pass_turn-requires-in-Err-clause-held g c = let t = c.take_machine.ensures.2 in
    let r = c.in-Err.ensures.err t.0 (ap (λ m. m.1) t.1) in
    let at = c.step_in_slot.ensures.seat.2 ∙ ap (λ m. m.0) t.1 in
    (c.args.ticket, t.0.machine, false, r.0, ap (λ z. z.turn) at, r.1, r.2)

pub returns-in-Ok-clause-ok : goal.returns-in-Ok-clause-ok
returns-in-Ok-clause-ok g c = let t = c.take_machine.ensures.2 in
    let r = c.in-Ok.ensures.ok t.0 (ap (λ m. m.1) t.1) in
    let at = c.step_in_slot.ensures.seat.2 ∙ ap (λ m. m.0) t.1 in
    let a = c.fetch_add.ensures.2 r.0 r.3.0 r.1 r.3.1 in
    let w = call_added _ _ _ c.args.seat.now.me.0 c.step_in_slot.new.seat.me.0 c.fetch_add.new.seat.me.0 _ _ a.1.0 r.3.0.value c.args.event c.in-Ok.answer _ at a.1.1 r.3.2 a.1.2 in
    (a.1.0, g.M.StepRelation.decks_left r.0.machine.0, c.pass_turn.ensures.2 ∙ ap (λ v. (v, [])) w.0, w.1)
