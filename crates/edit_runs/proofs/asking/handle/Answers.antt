use Rattle.std.proofs.Common.{subst}
use Rattle.edit_lines.specs.Asked.{asked_of}
use Rattle.edit_lines.specs.Requests.{IsRequest}
use Rattle.edit_runs.proofs.Goings.{going_passed, handled_refused, stops_unasked}
use Rattle.edit_runs.proofs.asking.handle.Goals as goal

pub returns-in-Err-clause-handled : goal.returns-in-Err-clause-handled
returns-in-Err-clause-handled g c lines was w = stops_unasked c.args.names.now lines _ was _ _ _ w

pub returns-in-Ok-Nothing-clause-handled : goal.returns-in-Ok-Nothing-clause-handled
returns-in-Ok-Nothing-clause-handled g c lines was w =
    let asks = subst (λ r. IsRequest c.args.names.now c.args.counts.now.number (asked_of c.args.line.now) r) c.in-Ok-Nothing.field-0-is c.in-Ok-Nothing.ensures in
    rw c.passed.ensures (going_passed c.args.names.now lines _ was _ _ _ w asks)

pub returns-in-Ok-NoEdit-clause-handled : goal.returns-in-Ok-NoEdit-clause-handled
returns-in-Ok-NoEdit-clause-handled g c lines was w =
    let asks = subst (λ r. IsRequest c.args.names.now c.args.counts.now.number (asked_of c.args.line.now) r) c.in-Ok-NoEdit.field-0-is c.in-Ok-NoEdit.ensures in
    handled_refused c.args.names.now lines _ was _ _ _ w _ _ _ _ asks c.refuse.ensures.refuses c.refuse.ensures.rises

pub returns-in-Ok-Sends-clause-handled : goal.returns-in-Ok-Sends-clause-handled
returns-in-Ok-Sends-clause-handled g c lines was w =
    let asks = subst (λ r. IsRequest c.args.names.now c.args.counts.now.number (asked_of c.args.line.now) r) c.in-Ok-Sends.field-0-is c.in-Ok-Sends.ensures in
    c.ask-answered.ensures.handled _ lines was _ _ w (rw c.deref.ensures.value asks)
