-- A journal as bytes: messages one after another, each of which carries an edit.
use Rattle.std.specs.Prelude.{◌≡◌, ◌⊎◌, ℕ, cond, codes, List, [], ◌∷◌, ◌++◌, Option, Some, None}
use Rattle.mos_codec.specs.Codec.{encoding}
use Rattle.mos_codec.specs.Decoding.{DecoderState, HasTaken, IsRejected, bytes_behind, rests}
use Rattle.mos_codec.specs.declared.fault.DecodeFault.{DecodeFault}
use Rattle.mos_codec.specs.declared.fault.DecodeFault.TheVariants.{Refused, NoMemory as OutOfMemory}
use Rattle.mos_decoder.specs.Bytes.{ByteStream}
use Rattle.mos_edits.specs.Entries.{Entry, entry_of}
use Rattle.mos_edits.specs.declared.edit.Edit.{Edit}
use Rattle.mos_lexer.specs.Units.{Found}
use Rattle.mos_lexer.specs.declared.kind.Kind.{Kind}
use Rattle.mos_edits.specs.Carried.{edit_in, edit_message}
use Rattle.mos_values.specs.MessageViews.{envelope_events}
use Rattle.mos_values.specs.declared.message.Envelope.{Envelope}
use Rattle.journal_bytes.specs.declared.fault.JournalFault.{JournalFault}
use Rattle.journal_bytes.specs.declared.fault.JournalFault.TheVariants.{Damaged, NoMemory}

-- ---- one entry

-- the envelope in which an edit stands: both names are `log`, and there is no messageID
abbrev pub log_envelope : Edit → Envelope
log_envelope edit = record { mos = codes "log"; ncs = codes "log"; message_id = None; message = edit_message edit }

-- the bytes of an entry
abbrev pub entry_bytes : Entry → List ℕ
entry_bytes e = encoding (log_envelope e.edit)

-- ---- the entries of a stream's messages

-- the message with these events carries the edit of this entry, in whichever envelope
pub record IsEntryOf (f : Found) (e : Entry) : Type 0 where
  pub envelope : Envelope
  pub events : envelope_events envelope ≡ f.value
  pub carries : edit_in envelope.message ≡ Some e.edit
  pub entry : e ≡ entry_of e.edit

-- the message with these events carries no edit
pub record IsNoEntry (f : Found) : Type 0 where
  pub envelope : Envelope
  pub events : envelope_events envelope ≡ f.value
  pub carries : edit_in envelope.message ≡ None

-- the entries of the messages, one after another
pub data AreEntries : List Found → List Entry → Type 0 where
  no_entries : AreEntries [] []
  one_more : {f : Found} {e : Entry} {fs : List Found} {es : List Entry} → AreEntries fs es → IsEntryOf f e → AreEntries (fs ++ f ∷ []) (es ++ e ∷ [])

-- ---- reading

-- a decoder and the entries read so far
pub record ReaderState : Type 0 where
  pub decoder : DecoderState
  pub entries : List Entry

-- Of these bytes the decoder handed out messages, whose entries these are.
pub record Follows (bytes : List ℕ) (d : DecoderState) (entries : List Entry) : Type 0 where
  pub found : List Found
  pub taken : HasTaken d bytes found
  pub are : AreEntries found entries

-- the entry that a message is, or that it is none
abbrev pub Carries : Found → Option Edit → Type 0
Carries f (Some edit) = IsEntryOf f (entry_of edit)
Carries f None = IsNoEntry f

-- The next message that is whole was handed out, with the edit that it carries; or there is none left.
abbrev pub Takes : List ℕ → List Found → DecoderState → Option (Option Edit) → Type 0
Takes bytes found d None = HasTaken d bytes found × (d.ready ≡ [])
Takes bytes found d (Some o) = (f : Found) × HasTaken d bytes (found ++ f ∷ []) × Carries f o

-- The messages that are whole in these bytes have all been read, and their entries are those read so far.
abbrev pub HasRead : ReaderState → List ℕ → Type 0
HasRead r bytes = Follows bytes r.decoder r.entries × (r.decoder.ready ≡ [])

-- The bytes are no journal, nor the front of one: they are rejected behind some messages, or one of their whole messages
-- carries no edit.
pub record IsRefused (bytes : List ℕ) : Type 0 where
  pub found : List Found
  pub place : ℕ
  pub kind : Kind
  pub rejected : IsRejected bytes found place kind

pub record HasNoEntry (bytes : List ℕ) : Type 0 where
  pub decoder : DecoderState
  pub found : List Found
  pub last : Found
  pub taken : HasTaken decoder bytes (found ++ last ∷ [])
  pub none : IsNoEntry last

abbrev pub IsDamaged : List ℕ → Type 0
IsDamaged bytes = IsRefused bytes ⊎ HasNoEntry bytes

-- what a fault of the decoder is to a journal: bytes that are rejected are no journal
abbrev pub journal_fault : DecodeFault → JournalFault
journal_fault (Refused place kind) = Damaged
journal_fault OutOfMemory = NoMemory

-- how many of the bytes read stand in a message that isn't whole yet
abbrev pub rest_of : ByteStream → ℕ
rest_of s = cond (rests s) 0 (bytes_behind s)
