-- Messages and their answers.
use Rattle.std.specs.Prelude.{ℕ, Bool, List, map}
use Rattle.std.specs.List.{flat_map, list_all}
use Rattle.mos_codec.specs.Codec.{encoding}
use Rattle.mos_values.specs.declared.message.Envelope.{Envelope}
use Rattle.edit_lines.specs.Answers.{answer_text, is_wanted}
use Rattle.message_runs.specs.Labels.{label_text}

-- a message that was sent, and the one that answered it
pub record Exchange : Type 0 where
  pub sent : Envelope
  pub answer : Envelope

-- what is told of an answer, behind the message's label
abbrev pub told_text : Exchange → List ℕ
told_text x = answer_text x.sent (label_text x.sent.message) x.answer

-- the answer is the one that the message wanted
abbrev pub is_good : Exchange → Bool
is_good x = is_wanted x.sent x.answer

-- ---- one after another

abbrev pub messages_of : List Exchange → List Envelope
messages_of xs = map (λ (x : Exchange). x.sent) xs

abbrev pub answers_of : List Exchange → List Envelope
answers_of xs = map (λ (x : Exchange). x.answer) xs

-- the bytes that were sent: the canonical encodings of the messages
abbrev pub sent_of : List Exchange → List ℕ
sent_of xs = flat_map (λ (x : Exchange). encoding x.sent) xs

-- what was told of the answers
abbrev pub told_of : List Exchange → List ℕ
told_of xs = flat_map told_text xs

abbrev pub are_good : List Exchange → Bool
are_good xs = list_all is_good xs
