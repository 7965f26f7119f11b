-- Without the premises the law is false.
use Rattle.std.proofs.Common.{◌≡◌, ◌*◌, ◌^◌, refl}
use Rattle.std.specs.Fmt.{digits}
use Rattle.mos_fields.specs.Characters.{Text}
use Rattle.mos_values.specs.MessageViews.{message_events}
use Rattle.mos_values.specs.declared.message.Message.TheVariants as messages

-- two numbers of more than 64 digits are written the same
large_numbers : message_events (messages.MosReqAll (10 ^ 64)) ≡ message_events (messages.MosReqAll (2 * 10 ^ 64))
unfolding message_events digits
large_numbers = refl

-- a message that is kept as it was written, under two names
two_names : (n m x : Text) → message_events (messages.Other n x) ≡ message_events (messages.Other m x)
unfolding message_events
two_names n m x = refl
