-- What `take` writes.
use Rattle.std.specs.Prelude.{◌≡◌, ℕ, List}
use Rattle.mos_lexer.specs.Units.{Found}
use Rattle.mos_values.specs.declared.message.Envelope.{Envelope}
use Rattle.device_answers.specs.Taking.{AreMessages, take_output}

-- the values that were found are those of messages, and this is what a device answers to them
abbrev pub AreAnswered : List Found → List ℕ → Type 0
AreAnswered found text = (es : List Envelope) × AreMessages found es × (text ≡ take_output es)
