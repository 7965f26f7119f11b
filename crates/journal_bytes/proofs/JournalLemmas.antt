-- What the messages that are handed out make of the entries.
use Rattle.std.proofs.Common.{◌≡◌, inl, ℕ, ◌<◌, List, [], ◌∷◌, ◌++◌, length, Option, Some, None, Err, refl, sym, subst, arith}
use Rattle.mos_codec.specs.Decoding.{DecoderState, HasTaken, HandsOut, TellsFed, handed_more, with_ready}
use Rattle.mos_codec.specs.declared.fault.DecodeFault.{DecodeFault}
use Rattle.mos_codec.specs.declared.fault.DecodeFault.TheVariants.{Refused, NoMemory as OutOfMemory}
use Rattle.mos_codec.specs.declared.whole.Placed.{Placed}
use Rattle.mos_edits.specs.Entries.{Entry, entry_of}
use Rattle.mos_edits.specs.declared.edit.Edit.{Edit}
use Rattle.mos_lexer.specs.Units.{Found}
use Rattle.mos_values.specs.MessageViews.{envelope_events}
use Rattle.mos_values.specs.declared.message.Envelope.{Envelope}
use Rattle.mos_edits.specs.Carried.{edit_in}
use Rattle.journal_bytes.specs.Journals.{Carries, Follows, HasNoEntry, IsDamaged, Takes, journal_fault, one_more}
use Rattle.journal_bytes.specs.declared.fault.JournalFault.{JournalFault}
use Rattle.journal_bytes.specs.declared.fault.JournalFault.TheVariants.{Damaged}

carries : (e : Envelope) (began : ℕ) (o : Option Edit) → edit_in e.message ≡ o → Carries (record { began = began; value = envelope_events e }) o
carries e began (Some edit) q = record { envelope = e; events = refl; carries = q; entry = refl }
carries e began None q = record { envelope = e; events = refl; carries = q }

pub takes_message : (bytes : List ℕ) (found : List Found) (d : DecoderState) (e : Envelope) (began : ℕ) (o : Option Edit) → o ≡ edit_in e.message
    → HasTaken d bytes (handed_more found (Some e) began) → Takes bytes found d (Some o)
takes_message bytes found d e began o q h = (record { began = began; value = envelope_events e }, h, carries e began o (sym q))

pub fewer : (ready : List Placed) (e : Envelope) (d t : DecoderState) → d.ready ≡ ready → HandsOut ready (Some e) d t → length t.ready < length d.ready
fewer [] e d t q h = absurd (cc h.0)
fewer (p ∷ more) e d t q h = rw (q, h.1) (omega arith)

pub follows_more : (bytes : List ℕ) (d t : DecoderState) (es after : List Entry) (edit : Edit) (o : Option Edit) → Follows bytes d es
    → ((found : List Found) → HasTaken d bytes found → Takes bytes found t (Some o)) → o ≡ Some edit → after ≡ es ++ entry_of edit ∷ []
    → Follows bytes t after
follows_more bytes d t es after edit o w h q r =
    let next = h w.found w.taken in
    let one : Follows bytes t (es ++ entry_of edit ∷ []) = record { found = w.found ++ next.0 ∷ []; taken = next.1; are = one_more w.are (subst (Carries next.0) q next.2) } in
    subst (Follows bytes t) (sym r) one

pub follows_none : (bytes : List ℕ) (d t : DecoderState) (es : List Entry) → Follows bytes d es
    → ((found : List Found) → HasTaken d bytes found → Takes bytes found t None) → Follows bytes t es
follows_none bytes d t es w h = record { found = w.found; taken = (h w.found w.taken).0; are = w.are }

pub is_no_entry : (bytes : List ℕ) (d t : DecoderState) (es : List Entry) (o : Option Edit) → Follows bytes d es
    → ((found : List Found) → HasTaken d bytes found → Takes bytes found t (Some o)) → o ≡ None → HasNoEntry bytes
is_no_entry bytes d t es o w h q =
    let next = h w.found w.taken in
    record { decoder = t; found = w.found; last = next.0; taken = next.1; none = subst (Carries next.0) q next.2 }

-- ---- one more piece

pub read_on : (bytes more : List ℕ) (d t : DecoderState) (es : List Entry) → Follows bytes d es
    → ((found : List Found) → HasTaken d bytes found → HasTaken t more found) → Follows more t es
read_on bytes more d t es w h = record { found = w.found; taken = h w.found w.taken; are = w.are }

pub is_refused : (bytes more : List ℕ) (d t : DecoderState) (es : List Entry) (fault : DecodeFault) (k : JournalFault) → Follows bytes d es
    → ((found : List Found) → HasTaken d bytes found → TellsFed more found (Err fault) t) → k ≡ journal_fault fault → k ≡ Damaged → IsDamaged more
is_refused bytes more d t es (Refused place kind) k w h q r = inl (record { found = with_ready w.found t.ready; place = place; kind = kind; rejected = (h w.found w.taken).0 })
is_refused bytes more d t es OutOfMemory k w h q r = absurd (cc (q, r))
