-- Spellings, and the entries that they are of.
use Rattle.std.proofs.Common.{◌≡◌, ℕ, ◌*◌, ◌≤◌, List, [], ◌++◌, length, Option, Some, None, refl, sym, ap, subst, ◌∙◌, arith}
use Rattle.std.proofs.lemmas.List.{append-nil}
use Rattle.mos_codec.proofs.ByteLemmas.{bytes_length, units_back}
use Rattle.mos_codec.specs.Codec.{encoding_units}
use Rattle.mos_edits.specs.Carried.{edit_in, edit_message}
use Rattle.mos_edits.specs.Entries.{Entry, IsEntry}
use Rattle.mos_edits.specs.Orders.{edit_ro}
use Rattle.mos_edits.specs.declared.edit.Edit.{Edit}
use Rattle.mos_edits.specs.declared.edit.Edit.TheVariants.{Create, Replace, Delete, Metadata, Act, Air, Script}
use Rattle.mos_fields.specs.Characters.{units_in}
use Rattle.mos_lexer.specs.Encodings.{Encodes}
use Rattle.mos_lexer.specs.Units.{message_limit}
use Rattle.mos_values.specs.MessageViews.{envelope_events}
use Rattle.mos_values.specs.declared.message.Envelope.{Envelope}
use Rattle.value_laws.specs.Laws.{EncodingsPinEnvelopes}
use Rattle.journal_bytes.specs.Journals.{log_envelope}
use Rattle.entry_spellings.specs.Spellings.{Spells}

-- ---- how long a spelling is

pub units_short : (bytes : List ℕ) (e : Entry) → Spells bytes e → length (encoding_units (log_envelope e.edit)) ≤ message_limit
units_short bytes e s =
    let units : units_in bytes ≡ encoding_units (log_envelope e.edit) = ap units_in s.spelled ∙ units_back (encoding_units (log_envelope e.edit)) in
    subst (λ (us : List ℕ). length us ≤ message_limit) units s.encodes.encodes.short

pub bytes_short : (bytes : List ℕ) (e : Entry) → Spells bytes e → length bytes ≤ 16777216
bytes_short bytes e s =
    let k : length bytes ≡ length (encoding_units (log_envelope e.edit)) * 2 = ap length s.spelled ∙ bytes_length (encoding_units (log_envelope e.edit)) in
    let l : length (encoding_units (log_envelope e.edit)) ≤ 8388608 = units_short bytes e s in
    omega (arith, k, l)

-- ---- messages that carry edits

edit_back : (x : Edit) → edit_in (edit_message x) ≡ Some x
edit_back (Create body) = refl
edit_back (Replace body) = refl
edit_back (Delete ro) = refl
edit_back (Metadata patch) = refl
edit_back (Act ro action) = refl
edit_back (Air ro air) = refl
edit_back (Script script) = refl

same_some : (x y : Edit) → Some x ≡ Some y → x ≡ y
same_some x y e = cc

same_edit : (x y : Edit) → edit_message x ≡ edit_message y → x ≡ y
same_edit x y e = same_some x y (sym (edit_back x) ∙ (ap edit_in e ∙ edit_back y))

same_entry : (e f : Entry) → IsEntry e → IsEntry f → e.edit ≡ f.edit → e ≡ f
same_entry e f own also p =
    let q : e.ro ≡ f.ro = own ∙ (ap edit_ro p ∙ sym also) in
    λ i. record { ro = q i; edit = p i }

-- ---- one entry

pub spells_one : EncodingsPinEnvelopes → (bytes : List ℕ) (e f : Entry) → Spells bytes e → Spells bytes f → e ≡ f
spells_one pin bytes e f s t =
    let us = units_in bytes in
    let more : Encodes (envelope_events (log_envelope f.edit)) (us ++ []) = subst (Encodes (envelope_events (log_envelope f.edit))) (sym (append-nil us)) t.encodes.encodes in
    let both = pin (log_envelope e.edit) (log_envelope f.edit) us [] s.encodes.named t.encodes.named s.encodes.in_range t.encodes.in_range s.encodes.encodes more in
    same_entry e f s.own t.own (same_edit e.edit f.edit (ap (λ (x : Envelope). x.message) both.1))
