-- The canonical encoding of a message's value is an encoding of it.
use Rattle.std.proofs.Common.{◌≡◌, true, List, [], ◌∷◌, ◌++◌, refl, sym, ap, subst}
use Rattle.std.specs.List.{AllByRecursion}
use Rattle.std.proofs.lemmas.List.{append-nil}
use Rattle.mos_fields.specs.Characters.{Text}
use Rattle.mos_fields.specs.Names.{may_grow, named}
use Rattle.mos_tables.specs.declared.table.Table.TheVariants.{Envelope}
use Rattle.mos_tables.specs.Events.{Event, opens, closes}
use Rattle.mos_tables.specs.Canonical.{start_text, canonical}
use Rattle.mos_grammar.specs.Tokens.{Token, open_tag, close_tag}
use Rattle.mos_grammar.specs.Records.{nested, IsRecord}
use Rattle.mos_grammar.specs.Streams.{mos_name, element}
use Rattle.mos_lexer.specs.Lexing.{WritesTokens}
use Rattle.mos_lexer.specs.Encodings.{EncodesChars}
use Rattle.mos_cursor.specs.Accepted.{IsWritten, IsAccepted, IsWhole}
use Rattle.mos_cursor.proofs.WholeRecords.{written_tags_law}
use Rattle.encoding_laws.specs.Laws.{IsEncodedCanonically, ReadIsReadAgain, ValuesAreMessages, AllowedTextsAreEncoded, ValuesAreEncoded}
use Rattle.encoding_laws.proofs.Envelopes.{inner_events, envelope_is, envelope_canonical}
use Rattle.encoding_laws.proofs.Written.{HasNames, names_both, WritesFront}
use Rattle.encoding_laws.proofs.AllowedEncodings.{canonical_allowed}
use Rattle.encoding_laws.proofs.Pieces.{Canonical, nested_front}
use Rattle.encoding_laws.proofs.Ordered.{canonical_of}
use Rattle.encoding_laws.proofs.Collected.{collect}

mos_named : named [] mos_name ≡ true
unfolding may_grow
mos_named = refl

record_again : (es : List Event) (c : Canonical Envelope [] es) → IsRecord Envelope mos_name (opens mos_name [] ∷ (es ++ closes mos_name ∷ [])) (c.tokens ++ close_tag mos_name ∷ [])
unfolding nested
record_again es c = (c.children, c.tokens, c.content, refl, ap (λ (z : List Event). opens mos_name [] ∷ (z ++ closes mos_name ∷ [])) (sym c.value))

pub message_again : (es : List Event) → Canonical Envelope [] es → EncodesChars (opens mos_name [] ∷ (es ++ closes mos_name ∷ [])) (canonical (opens mos_name [] ∷ (es ++ closes mos_name ∷ [])))
message_again es c =
    let v : List Event = opens mos_name [] ∷ (es ++ closes mos_name ∷ []) in
    let tag : Text = start_text mos_name [] in
    let r : List Token = c.tokens ++ close_tag mos_name ∷ [] in
    let f : WritesFront (open_tag mos_name [] tag ∷ r) (canonical v) = nested_front mos_name [] es c.tokens mos_named tt c.written in
    let w : WritesTokens (open_tag mos_name [] tag ∷ (r ++ [])) (canonical v ++ []) = f.before [] [] refl in
    let w2 : WritesTokens (open_tag mos_name [] tag ∷ r) (canonical v) = subst (λ (z : List Token). WritesTokens (open_tag mos_name [] tag ∷ z) (canonical v)) (append-nil r) (subst (WritesTokens (open_tag mos_name [] tag ∷ (r ++ []))) (append-nil (canonical v)) w) in
    (open_tag mos_name [] tag ∷ r, w2, element (record_again es c))

pub encoded : (v : List Event) → EncodesChars v (canonical v) → IsEncodedCanonically v
encoded v e a l = record { chars = canonical v; allowed = a; units = refl; encodes = e; short = l }

whole_canonical : (v : List Event) (w : IsWhole Envelope mos_name v) → Canonical Envelope [] w.inner
whole_canonical v w =
    let q = collect w.accepted.content w.accepted.written tt in
    subst (Canonical Envelope []) (sym w.accepted.value) (canonical_of Envelope [] w.accepted.all q.0 q.1)

pub read_again : ReadIsReadAgain
read_again v w =
    let c : Canonical Envelope [] w.inner = whole_canonical v w in
    subst IsEncodedCanonically (sym w.whole) (encoded (opens mos_name [] ∷ (w.inner ++ closes mos_name ∷ [])) (message_again w.inner c))

pub values_encoded : ValuesAreEncoded
values_encoded e s d h =
    let es : List Event = inner_events e in
    subst IsEncodedCanonically (sym (envelope_is e)) (encoded (opens mos_name [] ∷ (es ++ closes mos_name ∷ [])) (message_again es (envelope_canonical e s d h)))

accepted_again : (es : List Event) → Canonical Envelope [] es → IsAccepted Envelope [] es
accepted_again es c =
    let w : WritesTokens (c.tokens ++ []) (canonical es ++ []) = c.written.before [] [] refl in
    record {
      all = c.children;
      tokens = c.tokens;
      content = c.content;
      written = subst (AllByRecursion IsWritten) (append-nil c.tokens) (written_tags_law (c.tokens ++ []) (canonical es ++ []) w);
      value = sym c.value;
    }

pub values_messages : ValuesAreMessages
values_messages e s d h = record { inner = inner_events e; accepted = accepted_again (inner_events e) (envelope_canonical e s d h); whole = envelope_is e }

pub allowed_encoded : AllowedTextsAreEncoded
allowed_encoded v w h =
    let c : Canonical Envelope [] w.inner = whole_canonical v w in
    let m : AllByRecursion HasNames (opens mos_name [] ∷ (w.inner ++ closes mos_name ∷ [])) = ((mos_named, tt), names_both w.inner (closes mos_name ∷ []) c.names (mos_named, tt)) in
    canonical_allowed v (subst (AllByRecursion HasNames) (sym w.whole) m) h
