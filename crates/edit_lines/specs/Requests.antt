-- What is sent for a line.
use Rattle.std.specs.Prelude.{◌≡◌, ℕ, List, Some}
use Rattle.std.specs.Fmt.{decimal}
use Rattle.mos_codec.specs.Codec.{encoding}
use Rattle.mos_values.specs.declared.message.Envelope.{Envelope}
use Rattle.mos_values.specs.declared.message.Message.{Message}
use Rattle.edit_lines.specs.declared.asked.Asked.{Asked}
use Rattle.edit_lines.specs.declared.asked.Asked.TheVariants as asks
use Rattle.edit_lines.specs.declared.request.Names.{Names}
use Rattle.edit_lines.specs.declared.request.Request.{Request}
use Rattle.edit_lines.specs.declared.request.Request.TheVariants as requests

-- the message of this number: its messageID is the number
abbrev pub numbered : Names → ℕ → Message → Envelope
numbered names n m = record { mos = names.mos; ncs = names.ncs; message_id = Some (decimal n); message = m }

-- this message is sent for the line, by these bytes
pub record IsSent (names : Names) (n : ℕ) (asked : Asked) (bytes : List ℕ) (sent : Envelope) : Type 0 where
  pub message : Message
  pub asks : asked ≡ asks.Asks message
  pub sent_is : sent ≡ numbered names n message
  pub encodes : bytes ≡ encoding (numbered names n message)

-- What is done about a line that asks this, where the next message has this number.
abbrev pub IsRequest : Names → ℕ → Asked → Request → Type 0
IsRequest names n asked requests.Nothing = asked ≡ asks.Nothing
IsRequest names n asked requests.NoEdit = asked ≡ asks.NoEdit
IsRequest names n asked (requests.Sends bytes sent) = IsSent names n asked bytes.items sent
