-- The objects that the messages of a stream carry.
use Rattle.std.specs.Prelude.{◌≡◌, ◌≤◌, List, [], ◌∷◌, Option, Some, None}
use Rattle.mos_lexer.specs.Units.{Found}
use Rattle.mos_message_reading.specs.Values.{IsNamed}
use Rattle.mos_values.specs.MessageViews.{envelope_events}
use Rattle.mos_values.specs.declared.message.Envelope.{Envelope}
use Rattle.mos_values.specs.declared.message.Message.{Message}
use Rattle.mos_values.specs.declared.message.Message.TheVariants as messages
use Rattle.mos_values.specs.declared.mos_obj.MosObj.{MosObj}
use Rattle.object_table.specs.Objects.{objects_after, taken}
use Rattle.object_table.specs.Sizes.{list_size, size_limit}
use Rattle.value_laws.specs.Ranges.{IsInRange}

-- ---- one message

-- the object that a message mosObj carries
abbrev pub object_in : Message → Option MosObj
object_in (messages.MosObj o) = Some o
object_in m = None

-- The events that were found are those of the message with its envelope. Its numbers are in range, so that the events pin it.
pub record IsMessage (f : Found) (e : Envelope) : Type 0 where
  pub events : envelope_events e ≡ f.value
  pub named : IsNamed e.message
  pub in_range : IsInRange e.message

-- the message is mosObj with this object, in whichever envelope
pub record IsObject (f : Found) (o : MosObj) : Type 0 where
  pub envelope : Envelope
  pub message : IsMessage f envelope
  pub carries : object_in envelope.message ≡ Some o

-- the message isn't mosObj
pub record IsNotObject (f : Found) : Type 0 where
  pub envelope : Envelope
  pub message : IsMessage f envelope
  pub carries : object_in envelope.message ≡ None

-- ---- message after message

-- each message is mosObj, and these are their objects
abbrev pub AreObjects : List Found → List MosObj → Type 0
AreObjects [] [] = Unit {0}
AreObjects [] (o ∷ os) = ⊥
AreObjects (f ∷ fs) [] = ⊥
AreObjects (f ∷ fs) (o ∷ os) = IsObject f o × AreObjects fs os

-- A table with the objects before takes these, one after another: behind each, the list of all is within its limit.
abbrev pub AllFit : List MosObj → List MosObj → Type 0
AllFit before [] = Unit {0}
AllFit before (o ∷ os) = (list_size (taken o before) ≤ size_limit) × AllFit (taken o before) os

-- Each message is mosObj, a table that was empty took their objects, each once and in order, and this is what it holds.
pub record AreTaken (found : List Found) (table : List MosObj) : Type 0 where
  pub objects : List MosObj
  pub are : AreObjects found objects
  pub fit : AllFit [] objects
  pub after : table ≡ objects_after objects
