-- Bytes that are an entry as the journal spells it, and no others.
use Rattle.std.specs.Prelude.{◌≡◌, ℕ, List, Option, Some, None}
use Rattle.mos_codec.specs.Codec.{IsEncodedBy}
use Rattle.mos_edits.specs.Carried.{edit_in, edit_message}
use Rattle.mos_edits.specs.Entries.{Entry, IsEntry, entry_of}
use Rattle.mos_edits.specs.declared.edit.Edit.{Edit}
use Rattle.mos_values.specs.Sound.{IsSound}
use Rattle.mos_values.specs.declared.message.Message.{Message}
use Rattle.journal_bytes.specs.Journals.{entry_bytes, log_envelope}

-- These bytes are this entry as the journal spells it: the canonical encoding of its edit in the envelope of an entry, from
-- which a reader comes to that envelope. The edit is sound, and the roID is the one that it names.
pub record Spells (bytes : List ℕ) (e : Entry) : Type 0 where
  pub spelled : bytes ≡ entry_bytes e
  pub own : IsEntry e
  pub sound : IsSound (edit_message e.edit)
  pub encodes : IsEncodedBy bytes (log_envelope e.edit)

-- these bytes are no entry
abbrev pub SpellsNone : List ℕ → Type 0
SpellsNone bytes = (e : Entry) → Spells bytes e → ⊥

-- what reading them gives
abbrev pub IsSpelled : List ℕ → Option Entry → Type 0
IsSpelled bytes (Some e) = Spells bytes e
IsSpelled bytes None = SpellsNone bytes

-- the entry of the edit that a message carries
abbrev pub entry_of_edit : Option Edit → Option Entry
entry_of_edit (Some edit) = Some (entry_of edit)
entry_of_edit None = None

abbrev pub entry_in : Message → Option Entry
entry_in m = entry_of_edit (edit_in m)
