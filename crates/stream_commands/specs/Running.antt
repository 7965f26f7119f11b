-- What a run reads and writes, where its source and its sink are observable.
use Rattle.std.specs.Prelude.{◌≡◌, ℕ, ◌<◌, ◌^◌, Bool, true, false, List, [], ◌∷◌, ◌++◌, length, Option, Some, None, Result, Ok, Err, ⊤, ◌⊎◌}
use Rattle.mos_fields.specs.Characters.{units_in}
use Rattle.mos_io.specs.Bytes.{Appends, AppendsFront}
use Rattle.mos_io.specs.Counts.{Rose}
use Rattle.mos_lexer.specs.declared.kind.Kind.{Kind}
use Rattle.mos_lexer.specs.Units.{Found, Reader, StreamReader, start_stream, stream_units, reads_stream, rejects_stream}
use Rattle.mos_reader.specs.declared.found.Found.{Found as Read}
use Rattle.mos_reader.specs.declared.found.ReadFault.{ReadFault}
use Rattle.mos_reader.specs.declared.found.ReadFault.TheVariants.{Rejected, NoMemory}
use Rattle.mos_decoder.specs.Inputs.{Input, whole, refused, input_of}
use Rattle.mos_decoder.specs.Bytes.{ByteStream, HasHanded, Tells, TellsEnd}
use Rattle.stream_commands.specs.declared.status.Status.{Status}
use Rattle.stream_commands.specs.declared.status.Status.TheVariants as statuses

-- the source tells a bound below 2^64 on what it may still give
abbrev pub IsBounded : Option ℕ → Type 0
IsBounded None = ⊥
IsBounded (Some bound) = bound < 2 ^ 64

-- these bytes were read, from the front of what was left
abbrev pub Reads : Option (List ℕ) → Option (List ℕ) → List ℕ → Type 0
Reads before after bytes = (left : List ℕ) → before ≡ Some left → (rest : List ℕ) × (left ≡ bytes ++ rest) × (after ≡ Some rest)

-- these bytes were read, to the end of the input
abbrev pub ReadsAll : Option (List ℕ) → Option (List ℕ) → List ℕ → Type 0
ReadsAll before after bytes = (left : List ℕ) → before ≡ Some left → (bytes ≡ left) × (after ≡ Some [])

-- ---- how a run ends

-- what may have been told of messages
abbrev pub Telling : Type 1
Telling = List Found → List ℕ → Type 0

-- The input was read to its end, is a stream of messages, and what is told of them was written, and then what is told of
-- their number and that of the code units, nothing else.
pub record IsDone (told : Telling) (last : ℕ → ℕ → List ℕ) (left_before left_after written_before written_after : Option (List ℕ)) : Type 0 where
  pub bytes : List ℕ
  pub found : List Found
  pub text : List ℕ
  pub reads : ReadsAll left_before left_after bytes
  pub input : input_of bytes ≡ whole found
  pub tells : told found text
  pub writes : Appends written_before written_after (text ++ last (length found) (length (units_in bytes)))

-- the code units show this rejection, whatever follows them
abbrev pub IsShown : List ℕ → ℕ → Kind → Type 0
IsShown bytes place k = (s : StreamReader) × (stream_units start_stream (units_in bytes) ≡ rejects_stream s place k)

-- What was read is rejected behind these messages, at this place with this kind, and what is told of them and of the
-- rejection was written, nothing else. What was read shows the rejection, or the input ended behind it.
pub record IsRefused (told : Telling) (refusal : ℕ → Kind → List ℕ) (left_before left_after written_before written_after : Option (List ℕ)) : Type 0 where
  pub bytes : List ℕ
  pub found : List Found
  pub text : List ℕ
  pub place : ℕ
  pub kind : Kind
  pub reads : (Reads left_before left_after bytes × IsShown bytes place kind) ⊎ ReadsAll left_before left_after bytes
  pub input : input_of bytes ≡ refused found place kind
  pub tells : told found text
  pub writes : Appends written_before written_after (text ++ refusal place kind)

-- these messages are whole in the bytes, and more of the stream may come behind them
abbrev pub IsBegun : List ℕ → List Found → Type 0
IsBegun bytes found = (base : ℕ) × (r : Reader) × (stream_units start_stream (units_in bytes) ≡ reads_stream (record { ready = found; base = base; reader = r }))

-- The source failed behind these bytes. What is told of the messages that are whole in them was written, and nothing else.
pub record IsCutOff (told : Telling) (left_before left_after written_before written_after : Option (List ℕ)) : Type 0 where
  pub bytes : List ℕ
  pub found : List Found
  pub text : List ℕ
  pub reads : Reads left_before left_after bytes
  pub whole : IsBegun bytes found
  pub tells : told found text
  pub writes : Appends written_before written_after text

-- some teller may have told this
abbrev pub ToldBySome : {T : Type 0} → (T → Telling) → Telling
ToldBySome {T} told found text = (t : T) × told t found text

-- these are the first messages of the stream of the bytes
abbrev pub AreFirst : List ℕ → List Found → Type 0
AreFirst bytes found = (s : ByteStream) × HasHanded s bytes found

-- What is told next, behind what was told of these messages: of one more message, behind the last one, or of a rejection.
abbrev pub IsNext : Telling → (ℕ → ℕ → List ℕ) → (ℕ → Kind → List ℕ) → List ℕ → List Found → List ℕ → List ℕ → Type 0
IsNext told last refusal bytes found text next =
    ((f : Found) × AreFirst bytes (found ++ f ∷ []) × told (found ++ f ∷ []) (text ++ next))
    ⊎ (((input_of bytes ≡ whole found) × (next ≡ last (length found) (length (units_in bytes))))
    ⊎ ((place : ℕ) × (kind : Kind) × (input_of bytes ≡ refused found place kind) × (next ≡ refusal place kind)))

-- A write failed. What is told of these messages was written, then perhaps a part of what is told next, and nothing behind it.
pub record IsPartWritten (before told : Telling) (last : ℕ → ℕ → List ℕ) (refusal : ℕ → Kind → List ℕ) (bytes : List ℕ) (written_before written_after : Option (List ℕ)) : Type 0 where
  pub found : List Found
  pub text : List ℕ
  pub next : List ℕ
  pub first : AreFirst bytes found
  pub tells : before found text
  pub tells_next : IsNext told last refusal bytes found text next
  pub between : Option (List ℕ)
  pub writes : Appends written_before between text
  pub writes_part : AppendsFront between written_after next

-- The sink failed behind these bytes of the input.
pub record IsBrokenOff (before told : Telling) (last : ℕ → ℕ → List ℕ) (refusal : ℕ → Kind → List ℕ) (left_before left_after written_before written_after : Option (List ℕ)) : Type 0 where
  pub bytes : List ℕ
  pub reads : Reads left_before left_after bytes
  pub written : IsPartWritten before told last refusal bytes written_before written_after

-- ---- on the way

-- Of these bytes these messages were handed out, and what is told of them was written.
pub record HasHeard (told : Telling) (bytes : List ℕ) (s : ByteStream) (start written : Option (List ℕ)) : Type 0 where
  pub found : List Found
  pub text : List ℕ
  pub handed : HasHanded s bytes found
  pub tells : told found text
  pub writes : Appends start written text

-- the same, and those are all messages that are whole in the bytes
pub record HasHeardWhole (told : Telling) (bytes : List ℕ) (s : ByteStream) (start written : Option (List ℕ)) : Type 0 where
  pub heard : HasHeard told bytes s start written
  pub whole : IsBegun bytes heard.found

-- the bytes are the whole input, and a stream of the messages that were handed out
pub record HasHeardAll (told : Telling) (bytes : List ℕ) (s : ByteStream) (start written : Option (List ℕ)) : Type 0 where
  pub heard : HasHeard told bytes s start written
  pub input : input_of bytes ≡ whole heard.found

-- a rejection before the input's end shows
abbrev pub ShowsAt : Bool → List ℕ → ℕ → Kind → Type 0
ShowsAt false bytes place k = IsShown bytes place k
ShowsAt true bytes place k = ⊤

-- the bytes are rejected behind those messages
pub record HasRefused (told : Telling) (refusal : ℕ → Kind → List ℕ) (at_end : Bool) (bytes : List ℕ) (start written : Option (List ℕ)) : Type 0 where
  pub found : List Found
  pub text : List ℕ
  pub place : ℕ
  pub kind : Kind
  pub input : input_of bytes ≡ refused found place kind
  pub shows : ShowsAt at_end bytes place kind
  pub tells : told found text
  pub writes : Appends start written (text ++ refusal place kind)

-- what an answer tells, at the input's end or before it
abbrev pub TellsAt : Bool → List ℕ → List Found → Result (Option Read) ReadFault → ByteStream → Type 0
TellsAt false bytes found r t = Tells bytes found r t
TellsAt true bytes found r t = TellsEnd bytes found r t

abbrev pub HeardAt : Bool → Telling → List ℕ → ByteStream → Option (List ℕ) → Option (List ℕ) → Type 0
HeardAt false told bytes s start written = HasHeardWhole told bytes s start written
HeardAt true told bytes s start written = HasHeardAll told bytes s start written

-- what hearing the messages of bytes that were fed comes to
abbrev pub Hears : Bool → Telling → (ℕ → Kind → List ℕ) → List ℕ → Result (Unit {0}) Status → ByteStream → Option (List ℕ) → Option (List ℕ) → ℕ → ℕ → Type 0
Hears at_end told refusal bytes (Ok done) s start written faults_before faults_after = HeardAt at_end told bytes s start written
Hears at_end told refusal bytes (Err statuses.Refused) s start written faults_before faults_after = HasRefused told refusal at_end bytes start written
Hears at_end told refusal bytes (Err statuses.WriteFault) s start written faults_before faults_after = Rose faults_before faults_after
Hears at_end told refusal bytes (Err statuses.NoMemory) s start written faults_before faults_after = ⊤
Hears at_end told refusal bytes (Err k) s start written faults_before faults_after = ⊥

-- what telling one more message comes to
abbrev pub TellsMore : Telling → Telling → Found → Option (List ℕ) → Option (List ℕ) → ℕ → ℕ → Result (Unit {0}) Status → Type 0
TellsMore old new f before after faults_before faults_after (Ok done) =
    (found : List Found) (text : List ℕ) → old found text → (more : List ℕ) × new (found ++ f ∷ []) (text ++ more) × Appends before after more
TellsMore old new f before after faults_before faults_after (Err statuses.WriteFault) = Rose faults_before faults_after
TellsMore old new f before after faults_before faults_after (Err statuses.NoMemory) = ⊤
TellsMore old new f before after faults_before faults_after (Err k) = ⊥

-- what telling one more message comes to where its text is written in part
abbrev pub TellsPart : Telling → Telling → Found → Option (List ℕ) → Option (List ℕ) → Type 0
TellsPart old new f before after =
    (found : List Found) (text : List ℕ) → old found text → (more : List ℕ) × new (found ++ f ∷ []) (text ++ more) × AppendsFront before after more

-- what is told of a rejection is written in part
abbrev pub StopsPart : (ℕ → Kind → List ℕ) → ReadFault → Option (List ℕ) → Option (List ℕ) → Type 0
StopsPart refusal (Rejected place k) before after = AppendsFront before after (refusal place k)
StopsPart refusal NoMemory before after = ⊥

-- what writing a text comes to
abbrev pub WritesText : List ℕ → Option (List ℕ) → Option (List ℕ) → ℕ → ℕ → Result (Unit {0}) Status → Type 0
WritesText text before after faults_before faults_after (Ok done) = Appends before after text
WritesText text before after faults_before faults_after (Err statuses.WriteFault) = Rose faults_before faults_after
WritesText text before after faults_before faults_after (Err statuses.NoMemory) = ⊤
WritesText text before after faults_before faults_after (Err k) = ⊥

-- what writing the text of a rejection comes to
abbrev pub Refuses : List ℕ → Option (List ℕ) → Option (List ℕ) → ℕ → ℕ → Status → Type 0
Refuses text before after faults_before faults_after statuses.Refused = Appends before after text
Refuses text before after faults_before faults_after statuses.WriteFault = Rose faults_before faults_after
Refuses text before after faults_before faults_after statuses.NoMemory = ⊤
Refuses text before after faults_before faults_after k = ⊥

-- what stopping at a fault of the reading comes to
abbrev pub Stops : (ℕ → Kind → List ℕ) → ReadFault → Option (List ℕ) → Option (List ℕ) → ℕ → ℕ → Status → Type 0
Stops refusal (Rejected place k) before after faults_before faults_after status = Refuses (refusal place k) before after faults_before faults_after status
Stops refusal NoMemory before after faults_before faults_after status = status ≡ statuses.NoMemory

-- how a run ends whose input is these bytes
abbrev pub EndsSo : Telling → (ℕ → ℕ → List ℕ) → (ℕ → Kind → List ℕ) → List ℕ → Status → Option (List ℕ) → Option (List ℕ) → ℕ → ℕ → Type 0
EndsSo told last refusal bytes statuses.Done start written faults_before faults_after =
    (found : List Found) × (text : List ℕ) × (input_of bytes ≡ whole found) × told found text × Appends start written (text ++ last (length found) (length (units_in bytes)))
EndsSo told last refusal bytes statuses.Refused start written faults_before faults_after = HasRefused told refusal true bytes start written
EndsSo told last refusal bytes statuses.WriteFault start written faults_before faults_after = Rose faults_before faults_after
EndsSo told last refusal bytes statuses.NoMemory start written faults_before faults_after = ⊤
EndsSo told last refusal bytes k start written faults_before faults_after = ⊥
