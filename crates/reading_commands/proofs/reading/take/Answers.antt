use Rattle.mos_machines.specs.Tables.{gate_of}
use Rattle.device_answers.specs.Taking.{IsAnswered}
use Rattle.reading_commands.specs.Answered.{AreAnswered}
use Rattle.reading_commands.proofs.Tellings.{broken_off, cut_off, done_of, refused_of}
use Rattle.reading_commands.proofs.reading.take.Goals as goal

pub returns-clause-cut_off : goal.returns-clause-cut_off
returns-clause-cut_off g c = λ e. cut_off (λ d. IsAnswered (gate_of d)) AreAnswered (λ d found text h. (h.envelopes, h.messages, h.written)) _ _ _ _ _ (c.run_stream-status.ensures.cut_off e)

pub returns-clause-broken_off : goal.returns-clause-broken_off
returns-clause-broken_off g c = λ e. broken_off (λ d. IsAnswered (gate_of d)) AreAnswered (λ d found text h. (h.envelopes, h.messages, h.written)) _ _ _ _ _ _ _ (c.run_stream-status.ensures.broken_off e)

pub returns-clause-whole : goal.returns-clause-whole
returns-clause-whole g c = λ e input left w. done_of (λ d. IsAnswered (gate_of d)) AreAnswered (λ d found text h. (h.envelopes, h.messages, h.written)) _ _ _ _ input (c.run_stream-status.ensures.whole e input left w)

pub returns-clause-rejected : goal.returns-clause-rejected
returns-clause-rejected g c = λ e input left w. refused_of (λ d. IsAnswered (gate_of d)) AreAnswered (λ d found text h. (h.envelopes, h.messages, h.written)) _ _ _ _ input (c.run_stream-status.ensures.rejected e input left w)
