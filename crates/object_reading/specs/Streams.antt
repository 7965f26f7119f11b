-- What reading the objects of a stream comes to, where its source is observable.
use Rattle.std.specs.Prelude.{◌≡◌, ◌⊎◌, ℕ, List, ◌∷◌, [], ◌++◌, Option, length}
use Rattle.mos_decoder.specs.Inputs.{whole, refused, input_of}
use Rattle.mos_io.specs.Counts.{Rose}
use Rattle.mos_lexer.specs.Units.{Found}
use Rattle.mos_lexer.specs.declared.kind.Kind.{Kind}
use Rattle.mos_values.specs.declared.mos_obj.MosObj.{MosObj}
use Rattle.object_table.specs.Objects.{taken}
use Rattle.object_table.specs.Tables.{IsFault}
use Rattle.object_table.specs.declared.fault.TableFault.TheVariants as table_faults
use Rattle.stream_commands.specs.Running.{AreFirst, IsBegun, IsShown, Reads, ReadsAll}
use Rattle.object_reading.specs.Messages.{AreTaken, IsNotObject, IsObject}
use Rattle.object_reading.specs.declared.fault.ObjectsFault.{ObjectsFault}
use Rattle.object_reading.specs.declared.fault.ObjectsFault.TheVariants.{Refused, NotObject, Full, ReadFault, NoMemory}

-- ---- what stands in bytes

-- Behind messages whose objects were all taken, the bytes are rejected at this place with this kind.
pub record IsRejected (bytes : List ℕ) (place : ℕ) (kind : Kind) : Type 0 where
  pub found : List Found
  pub table : List MosObj
  pub took : AreTaken found table
  pub input : input_of bytes ≡ refused found place kind

-- Behind so many messages whose objects were all taken stands one that isn't mosObj.
pub record HasOther (bytes : List ℕ) (number : ℕ) : Type 0 where
  pub found : List Found
  pub table : List MosObj
  pub took : AreTaken found table
  pub count : number ≡ length found
  pub next : Found
  pub first : AreFirst bytes (found ++ next ∷ [])
  pub other : IsNotObject next

-- Behind so many messages whose objects were all taken stands one whose object the table doesn't take: the list of all would
-- have so many code units, which is past the limit.
pub record HasTooMuch (bytes : List ℕ) (number units : ℕ) : Type 0 where
  pub found : List Found
  pub table : List MosObj
  pub took : AreTaken found table
  pub count : number ≡ length found
  pub next : Found
  pub first : AreFirst bytes (found ++ next ∷ [])
  pub object : MosObj
  pub carries : IsObject next object
  pub full : IsFault (taken object table) (table_faults.Full units)

-- The messages that are whole in the bytes carry objects that were all taken, and more of the stream may come behind them.
pub record IsCutOff (bytes : List ℕ) : Type 0 where
  pub found : List Found
  pub table : List MosObj
  pub took : AreTaken found table
  pub begun : IsBegun bytes found

-- ---- how reading ends

-- The input was read to its end and is a stream of messages. Each is mosObj, and the table took their objects.
pub record IsRead (left_before left_after : Option (List ℕ)) (table : List MosObj) : Type 0 where
  pub bytes : List ℕ
  pub found : List Found
  pub reads : ReadsAll left_before left_after bytes
  pub input : input_of bytes ≡ whole found
  pub took : AreTaken found table

-- Why reading stopped, and that it did so at the first cause. A rejection shows in what was read, or the input ended behind
-- that.
abbrev pub Explains : Option (List ℕ) → Option (List ℕ) → ℕ → ℕ → ObjectsFault → Type 0
Explains left_before left_after faults_before faults_after (Refused place kind) =
    (bytes : List ℕ) × ((Reads left_before left_after bytes × IsShown bytes place kind) ⊎ ReadsAll left_before left_after bytes) × IsRejected bytes place kind
Explains left_before left_after faults_before faults_after (NotObject number) = (bytes : List ℕ) × Reads left_before left_after bytes × HasOther bytes number
Explains left_before left_after faults_before faults_after (Full number units) = (bytes : List ℕ) × Reads left_before left_after bytes × HasTooMuch bytes number units
Explains left_before left_after faults_before faults_after ReadFault = Rose faults_before faults_after × ((bytes : List ℕ) × Reads left_before left_after bytes × IsCutOff bytes)
Explains left_before left_after faults_before faults_after NoMemory = Unit {0}
