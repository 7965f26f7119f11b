use Rattle.mos_machines.specs.Tables.{gate_of}
use Rattle.mos_decoder.specs.Bytes.{found_of}
use Rattle.device_answers.proofs.AnswerLemmas.{answered_more, where_ok}
use Rattle.device_answers.proofs.device.DeviceTeller.tell.Goals as goal

pub returns : goal.returns
returns c = λ before text h.
    where_ok c.answer_encoded-text.result
    (λ more b. answered_more (gate_of c.args.self.now) (gate_of c.answer_encoded-text.new.self) before text more.items (found_of c.args.found) c.in_ok-envelope.envelope h c.in_ok-envelope.ensures.events c.in_ok-envelope.ensures.named c.message_is_in_range.ensures b.0 b.1)
    c.answer_encoded-text.ensures
