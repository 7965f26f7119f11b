use Rattle.device_answers.proofs.AnswerLemmas.{where_ok}
use Rattle.device_answers.proofs.device.Device.answer_encoded.Goals as goal

pub returns : goal.returns
returns c = where_ok c.encode_heard-text.result (λ bytes e. (e, c.in_ok-heard.ensures.1)) (c.encode_heard-text.ensures _ c.in_ok-heard.ensures.0)
