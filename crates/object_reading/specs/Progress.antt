-- What reading the objects of a stream comes to on the way.
use Rattle.std.specs.Prelude.{◌≡◌, ◌≤◌, ℕ, Bool, true, false, List, Option, Some, None, Result, Ok, Err}
use Rattle.mos_decoder.specs.Bytes.{ByteStream, HasHanded}
use Rattle.mos_decoder.specs.Inputs.{whole, input_of}
use Rattle.mos_lexer.specs.Units.{Found}
use Rattle.mos_reader.specs.declared.found.ReadFault.{ReadFault as DecoderFault}
use Rattle.mos_reader.specs.declared.found.ReadFault.TheVariants as decoder_faults
use Rattle.mos_values.specs.declared.mos_obj.MosObj.{MosObj}
use Rattle.object_table.specs.Objects.{taken}
use Rattle.object_table.specs.Sizes.{list_size, size_limit}
use Rattle.object_table.specs.Tables.{IsFault}
use Rattle.object_table.specs.declared.fault.TableFault.{TableFault}
use Rattle.object_table.specs.declared.fault.TableFault.TheVariants as table_faults
use Rattle.stream_commands.specs.Running.{IsBegun, ShowsAt}
use Rattle.object_reading.specs.Messages.{AreTaken, IsNotObject, IsObject}
use Rattle.object_reading.specs.Streams.{HasOther, HasTooMuch, IsRejected}
use Rattle.object_reading.specs.declared.fault.ObjectsFault.{ObjectsFault}
use Rattle.object_reading.specs.declared.fault.ObjectsFault.TheVariants.{Refused, NotObject, Full, ReadFault, NoMemory}

-- why reading stops where the decoder does
abbrev pub stopped_by : DecoderFault → ObjectsFault
stopped_by (decoder_faults.Rejected place kind) = Refused place kind
stopped_by decoder_faults.NoMemory = NoMemory

-- why reading stops where a table takes no object
abbrev pub refused_by : ℕ → TableFault → ObjectsFault
refused_by number (table_faults.Full units) = Full number units
refused_by number table_faults.NoMemory = NoMemory

-- one more object was taken
pub record TakesMore (f : Found) (before after : List MosObj) : Type 0 where
  pub object : MosObj
  pub carries : IsObject f object
  pub holds : after ≡ taken object before
  pub within : list_size after ≤ size_limit

-- the message of this number carries an object that the table doesn't take
pub record TakesNone (f : Found) (before : List MosObj) (number n units : ℕ) : Type 0 where
  pub object : MosObj
  pub carries : IsObject f object
  pub full : IsFault (taken object before) (table_faults.Full units)
  pub same : n ≡ number

-- what taking the object comes to that the message of this number carries, if it carries one
abbrev pub TakesObject : Option MosObj → ℕ → List MosObj → Result (Unit {0}) ObjectsFault → List MosObj → Type 0
TakesObject None number before r after = r ≡ Err (NotObject number)
TakesObject (Some o) number before (Ok u) after = (after ≡ taken o before) × (list_size after ≤ size_limit)
TakesObject (Some o) number before (Err (Full n units)) after = IsFault (taken o before) (table_faults.Full units) × (n ≡ number)
TakesObject (Some o) number before (Err NoMemory) after = Unit {0}
TakesObject (Some o) number before (Err k) after = ⊥

-- what taking the object of the message of this number comes to
abbrev pub Takes : Found → ℕ → List MosObj → Result (Unit {0}) ObjectsFault → List MosObj → Type 0
Takes f number before (Ok u) after = TakesMore f before after
Takes f number before (Err (NotObject n)) after = IsNotObject f × (n ≡ number)
Takes f number before (Err (Full n units)) after = TakesNone f before number n units
Takes f number before (Err NoMemory) after = Unit {0}
Takes f number before (Err k) after = ⊥

-- Of these bytes messages were handed out, and the table took their objects.
pub record HasTaken (bytes : List ℕ) (s : ByteStream) (table : List MosObj) : Type 0 where
  pub found : List Found
  pub handed : HasHanded s bytes found
  pub took : AreTaken found table

-- The messages that were handed out are all that are whole in the bytes; or the bytes are the whole input, and those are its
-- messages.
abbrev pub AreAll : Bool → List ℕ → List Found → Type 0
AreAll false bytes found = IsBegun bytes found
AreAll true bytes found = input_of bytes ≡ whole found

-- the objects of all messages were taken
pub record HasTakenAll (at_end : Bool) (bytes : List ℕ) (s : ByteStream) (table : List MosObj) : Type 0 where
  pub here : HasTaken bytes s table
  pub all : AreAll at_end bytes here.found

-- what taking the objects of all messages comes to
abbrev pub TakesAll : Bool → List ℕ → Result (Unit {0}) ObjectsFault → ByteStream → List MosObj → Type 0
TakesAll at_end bytes (Ok u) s table = HasTakenAll at_end bytes s table
TakesAll at_end bytes (Err (Refused place kind)) s table = IsRejected bytes place kind × ShowsAt at_end bytes place kind
TakesAll at_end bytes (Err (NotObject number)) s table = HasOther bytes number
TakesAll at_end bytes (Err (Full number units)) s table = HasTooMuch bytes number units
TakesAll at_end bytes (Err NoMemory) s table = Unit {0}
TakesAll at_end bytes (Err ReadFault) s table = ⊥
