use Rattle.std.proofs.Common.{◌≡◌, ◌∷◌, [], sym, ap, ◌∙◌, subst}
use Rattle.atomic_table.specs.Table.{rest}
use Rattle.shared_machine.specs.declared.slot_value.SlotValue.{SlotValue}
use Rattle.shared_machine.proofs.Histories.{if_ok, if_err, same_in_hand}
use Rattle.shared_machine.proofs.turn.step_in_slot.Goals as goal

pub slot_mut-slot-requires : goal.slot_mut-slot-requires
slot_mut-slot-requires g c = let e = c.requires.1.1 in (c.requires.0, (c.requires.1.0, e ∙ ap (λ l. (0, c.requires.1.0) ∷ l) (sym (ap rest e))))

pub returns-clause-ok : goal.returns-clause-ok
returns-clause-ok g c = let r : rest c.args.seat.now.me.1 ≡ [] = ap rest c.requires.1.1 in
    let had = c.slot_mut-slot.ensures.value ∙ ap (λ l. (0, c.slot_mut-slot.result.now) ∷ l) r in
    if_ok c.step_machine.result _ _
    (λ a h b e. let same = same_in_hand c.slot_mut-slot.result.now b c.args.seat.now.me.1 had e in
    (c.step_machine.new.slot, ap (λ l. (0, c.step_machine.new.slot) ∷ l) r, subst (λ (z : SlotValue (g.row.M.Denot × g.row.D.Denot) g.row.M-Event.Denot g.row.M-Answer.Denot). g.M.StepRelation.steps z.machine.0 c.args.event a c.step_machine.new.slot.machine.0) same h.0, h.1)) c.step_machine.ensures.ok

pub returns-clause-err : goal.returns-clause-err
returns-clause-err g c = let r : rest c.args.seat.now.me.1 ≡ [] = ap rest c.requires.1.1 in
    let had = c.slot_mut-slot.ensures.value ∙ ap (λ l. (0, c.slot_mut-slot.result.now) ∷ l) r in
    if_err c.step_machine.result _ _
    (λ a h b e. let same = same_in_hand c.slot_mut-slot.result.now b c.args.seat.now.me.1 had e in
    (c.step_machine.new.slot, ap (λ l. (0, c.step_machine.new.slot) ∷ l) r, subst (λ (z : SlotValue (g.row.M.Denot × g.row.D.Denot) g.row.M-Event.Denot g.row.M-Answer.Denot). g.M.StepRelation.refusal z.machine.0 c.step_machine.new.slot.machine.0) same h)) c.step_machine.ensures.err
