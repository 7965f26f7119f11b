use Rattle.mos_machines.proofs.ServerAnswers.{request-heard, request-put_off}
use Rattle.mos_machines.proofs.server.requests_are_answered_with_the_order.Goals as goal

pub returns : goal.returns
returns c = record { answered = request-heard; put_off = request-put_off }
