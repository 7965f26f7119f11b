-- Texts and values, as one more character is read.
use Rattle.std.proofs.Common.{◌≡◌, ℕ, ◌+◌, ◌-◌, ◌<◌, ◌≤◌, Bool, true, false, ◌&&◌, List, [], ◌∷◌, ◌++◌, length, sym, ap, ◌∙◌, subst, arith}
use Rattle.std.specs.Prelude.{◌==◌}
use Rattle.std.specs.List.{list_all}
use Rattle.std.specs.Char.Escape.{encode_utf16}
use Rattle.std.proofs.lemmas.Bool.{and_parts, ltb-true}
use Rattle.std.proofs.lemmas.List.{length-append}
use Rattle.std.proofs.lemmas.List.Folds.{list_all-append}
use Rattle.mos_fields.specs.Characters.{Text, IsUtf16, chars_of}
use Rattle.mos_fields.specs.Forms.{is_white}
use Rattle.mos_lexer.specs.Lexing.{byte_order_mark}
use Rattle.mos_lexer.specs.LexMachine.{continues}
use Rattle.mos_scanner.specs.Parts.{part, IsCharacter}
use Rattle.mos_scanner.specs.declared.reference.Reference.{Reference}
use Rattle.mos_scanner.specs.declared.reference.Reference.TheVariants.{Empty}
use Rattle.mos_scanner.specs.References.{is_ascii, IsAt, IsReference, IsBeginning}
use Rattle.mos_scanner.specs.ScannerView.{raw_of, resolved, resolved_units, tag_of, given_name, state_of, IsTextIn, IsReferring, IsBegun, IsSoundAt, IsStep}
use Rattle.mos_scanner.specs.declared.mode.Mode.TheVariants.{InText, TextReference, InValue, ValueReference}
use Rattle.mos_scanner.specs.declared.scanned.Scanned.TheVariants.{More}
use Rattle.mos_scanner.specs.declared.scanner.Scanner.{Scanner}
use Rattle.mos_fields.proofs.CharacterLemmas.{chars_of-nil}
use Rattle.mos_scanner.proofs.PartLemmas.{part_none, part_more, length-part, Grows, grows, chars_more, text_more, text_none}
use Rattle.mos_scanner.proofs.TagLemmas.{valued_more}
use Rattle.mos_scanner.proofs.LexSteps.{text_begins_reference, text_more as lex_text_more, text_found, text_refers, value_begins_reference, value_more, value_found, value_refers}

-- units that go on with a character
pub units_grow : (held us vs : List ℕ) (here next c : ℕ) → IsUtf16 us → IsCharacter held here next c → vs ≡ us ++ part held here next → Grows us vs c
units_grow held us vs here next c w i e = subst (λ z. Grows us z c) (ap (λ z. us ++ z) (sym i.is) ∙ sym e) (grows us c w i.allowed)

-- the token begins
pub begun_text : (held : List ℕ) (start here next c : ℕ) → IsBegun held start here → IsCharacter held here next c → IsTextIn held start next
begun_text held start here next c b i = subst (λ k. IsTextIn held k next) (sym b.begun) (text_more held here here next c (text_none held here b.within) i)

pub begun_chars : (held : List ℕ) (start here next c : ℕ) → IsBegun held start here → IsCharacter held here next c → chars_of (part held start next) ≡ c ∷ []
begun_chars held start here next c b i =
    ap (λ k. chars_of (part held k next)) b.begun
    ∙ (chars_more held here here next c (text_none held here b.within) i ∙ ap (λ z. chars_of z ++ c ∷ []) (part_none held here) ∙ ap (λ z. z ++ c ∷ []) chars_of-nil)

-- the reference begins
pub reference_begun : (held : List ℕ) (place : ℕ) (before : List ℕ) → place ≤ length held → IsUtf16 before → IsReferring held place place Empty before
reference_begun held place before h w = record {
  is = part_none held place;
  bounded = tt;
  ascii = ap (list_all is_ascii) (part_none held place);
  onward = omega arith;
  within = h;
  resolving = w;
}

-- a reference goes on
pub referring_more : (held : List ℕ) (reference here next c : ℕ) (q r : Reference) (before : List ℕ) → IsReferring held reference here q before → IsCharacter held here next c → IsBeginning r (part held reference here ++ c ∷ [])
    → (part held reference next ≡ part held reference here ++ c ∷ []) × IsReferring held reference next r before
referring_more held reference here next c q r before t i b =
    let all = and_parts (list_all is_ascii (part held reference here)) (is_ascii c && true) (sym (list_all-append is_ascii (part held reference here) (c ∷ [])) ∙ b.ascii) in
    let small : c < 128 = ltb-true c 128 (and_parts (is_ascii c) true all.1).0 in
    let e = part_more held reference here next c t.onward i (omega (arith, small)) in
    let o = t.onward in
    let n = i.onward in
    (e, record { is = subst (IsAt r) (sym e) b.at; bounded = b.bounded; ascii = ap (list_all is_ascii) e ∙ b.ascii; onward = omega arith; within = i.within; resolving = t.resolving })

-- how long what was read of a reference is
pub referring_length : (held : List ℕ) (reference here c : ℕ) (q : Reference) (before : List ℕ) → IsReferring held reference here q before → here - reference + 1 ≡ length (part held reference here ++ c ∷ [])
referring_length held reference here c q before t =
    let l = length-part held reference here t.within in
    let a = length-append (part held reference here) (c ∷ []) in
    omega (arith, l, a)

-- ---- texts

abbrev NotMark : Bool → ℕ → Text → Type 0
NotMark o c raw = (o && (c == byte_order_mark) && is_white raw) ≡ false

pub text_reference_step : (s t : Scanner) (o : Bool) (held : List ℕ) (here next c : ℕ) → IsSoundAt InText s held here → IsCharacter held here next c
    → (c == 60) ≡ false → NotMark o c (raw_of s held here) → (c == 38) ≡ true → t ≡ record s { text = t.text } → t.text.items ≡ resolved_units s held s.start here
    → IsStep InText s (record t { mode = TextReference; referring = Empty; reference = next }) o More held here next c
text_reference_step s t o held here next c d i n m k e x =
    subst (λ (z : Scanner). z.text.items ≡ resolved_units s held s.start here → IsStep InText s (record z { mode = TextReference; referring = Empty; reference = next }) o More held here next c) (sym e)
    (λ y. record {
      same = text_begins_reference o c (raw_of s held here) (resolved s held s.start here) (chars_more held s.start here next c d.whole i) (ap chars_of y) (part_none held next) n m k;
      sound = record { whole = text_more held s.start here next c d.whole i; referring = reference_begun held next t.text.items i.within (subst IsUtf16 (sym y) d.resolving) };
    }) x

pub text_step : (s t : Scanner) (o : Bool) (held : List ℕ) (here next c : ℕ) → s.mode ≡ InText → IsSoundAt InText s held here → IsCharacter held here next c
    → (c == 60) ≡ false → NotMark o c (raw_of s held here) → (c == 38) ≡ false → t ≡ record s { text = t.text }
    → ((from : ℕ) → from ≤ here → resolved_units t held from next ≡ resolved_units s held from here ++ part held here next)
    → IsStep InText s t o More held here next c
text_step s t o held here next c is d i n m k e x =
    subst (λ (z : Scanner). ((from : ℕ) → from ≤ here → resolved_units z held from next ≡ resolved_units s held from here ++ part held here next) → IsStep InText s z o More held here next c) (sym e)
    (λ y.
    let r : Scanner = record s { text = t.text } in
    let g = units_grow held (resolved_units s held s.start here) (resolved_units r held s.start next) here next c d.resolving i (y s.start d.whole.onward) in
    record {
      same = ap (λ j. continues (state_of j r held next)) is
          ∙ lex_text_more o c (raw_of s held here) (resolved s held s.start here) (chars_more held s.start here next c d.whole i) g.chars n m k;
      sound = subst (λ j. IsSoundAt j r held next) (sym is) (record { whole = text_more held s.start here next c d.whole i; resolving = g.text });
    }) x

pub text_found_step : (s t : Scanner) (o : Bool) (held : List ℕ) (here next c d : ℕ) → IsSoundAt TextReference s held here → IsCharacter held here next c
    → IsReference (part held s.reference here ++ c ∷ []) d → t ≡ record s { text = t.text } → t.text.items ≡ s.text.items ++ encode_utf16 d
    → IsStep TextReference s (record t { mode = InText; is_resolved = true }) o More held here next c
text_found_step s t o held here next c d w i f e x =
    subst (λ (z : Scanner). z.text.items ≡ s.text.items ++ encode_utf16 d → IsStep TextReference s (record z { mode = InText; is_resolved = true }) o More held here next c) (sym e)
    (λ y.
    let g : Grows s.text.items t.text.items d = subst (λ z. Grows s.text.items z d) (sym y) (grows s.text.items d w.referring.resolving f.allowed) in
    record {
      same = text_found o c (raw_of s held here) (chars_of s.text.items) (part held s.reference here) d (chars_more held s.start here next c w.whole i) g.chars f.is;
      sound = record { whole = text_more held s.start here next c w.whole i; resolving = g.text };
    }) x

pub text_refers_step : (s : Scanner) (r : Reference) (o : Bool) (held : List ℕ) (here next c : ℕ) → s.mode ≡ TextReference → IsSoundAt TextReference s held here → IsCharacter held here next c
    → IsBeginning r (part held s.reference here ++ c ∷ []) → IsStep TextReference s (record s { referring = r }) o More held here next c
text_refers_step s r o held here next c is w i b =
    let t : Scanner = record s { referring = r } in
    let m = referring_more held s.reference here next c s.referring r s.text.items w.referring i b in
    record {
      same = ap (λ j. continues (state_of j t held next)) is
          ∙ text_refers o c (raw_of s held here) (chars_of s.text.items) (part held s.reference here) (chars_more held s.start here next c w.whole i) m.0 b.not b.begins;
      sound = subst (λ j. IsSoundAt j t held next) (sym is) (record { whole = text_more held s.start here next c w.whole i; referring = m.1 });
    }

-- ---- values

pub value_reference_step : (s t : Scanner) (o : Bool) (held : List ℕ) (here next c : ℕ) → IsSoundAt InValue s held here → IsCharacter held here next c
    → (c == s.quote) ≡ false → (c == 38) ≡ true → t ≡ record s { text = t.text } → t.text.items ≡ resolved_units s held s.value_start here
    → IsStep InValue s (record t { mode = ValueReference; referring = Empty; reference = next }) o More held here next c
value_reference_step s t o held here next c d i n k e x =
    subst (λ (z : Scanner). z.text.items ≡ resolved_units s held s.value_start here → IsStep InValue s (record z { mode = ValueReference; referring = Empty; reference = next }) o More held here next c) (sym e)
    (λ y. record {
      same = value_begins_reference o c (tag_of s held) (given_name s held) s.quote (resolved s held s.value_start here) (raw_of s held here) (ap chars_of y)
          (chars_more held s.start here next c d.valued.given.tag.whole i) (part_none held next) n k;
      sound = record {
        valued = valued_more held s.start s.name_end s.attribute_start s.attribute_end s.value_start s.quote here next c d.valued i;
        referring = reference_begun held next t.text.items i.within (subst IsUtf16 (sym y) d.resolving);
      };
    }) x

pub value_step : (s t : Scanner) (o : Bool) (held : List ℕ) (here next c : ℕ) → s.mode ≡ InValue → IsSoundAt InValue s held here → IsCharacter held here next c
    → (c == s.quote) ≡ false → (c == 38) ≡ false → (c == 60) ≡ false → t ≡ record s { text = t.text }
    → ((from : ℕ) → from ≤ here → resolved_units t held from next ≡ resolved_units s held from here ++ part held here next)
    → IsStep InValue s t o More held here next c
value_step s t o held here next c is d i n m k e x =
    subst (λ (z : Scanner). ((from : ℕ) → from ≤ here → resolved_units z held from next ≡ resolved_units s held from here ++ part held here next) → IsStep InValue s z o More held here next c) (sym e)
    (λ y.
    let r : Scanner = record s { text = t.text } in
    let g = units_grow held (resolved_units s held s.value_start here) (resolved_units r held s.value_start next) here next c d.resolving i (y s.value_start d.valued.value.onward) in
    record {
      same = ap (λ j. continues (state_of j r held next)) is
          ∙ value_more o c (tag_of s held) (given_name s held) s.quote (resolved s held s.value_start here) (raw_of s held here) g.chars (chars_more held s.start here next c d.valued.given.tag.whole i) n m k;
      sound = subst (λ j. IsSoundAt j r held next) (sym is) (record {
        valued = valued_more held s.start s.name_end s.attribute_start s.attribute_end s.value_start s.quote here next c d.valued i;
        resolving = g.text;
      });
    }) x

pub value_found_step : (s t : Scanner) (o : Bool) (held : List ℕ) (here next c d : ℕ) → IsSoundAt ValueReference s held here → IsCharacter held here next c
    → IsReference (part held s.reference here ++ c ∷ []) d → t ≡ record s { text = t.text } → t.text.items ≡ s.text.items ++ encode_utf16 d
    → IsStep ValueReference s (record t { mode = InValue; is_resolved = true }) o More held here next c
value_found_step s t o held here next c d w i f e x =
    subst (λ (z : Scanner). z.text.items ≡ s.text.items ++ encode_utf16 d → IsStep ValueReference s (record z { mode = InValue; is_resolved = true }) o More held here next c) (sym e)
    (λ y.
    let g : Grows s.text.items t.text.items d = subst (λ z. Grows s.text.items z d) (sym y) (grows s.text.items d w.referring.resolving f.allowed) in
    record {
      same = value_found o c (tag_of s held) (given_name s held) s.quote (chars_of s.text.items) (raw_of s held here) (part held s.reference here) d g.chars
          (chars_more held s.start here next c w.valued.given.tag.whole i) f.is;
      sound = record {
        valued = valued_more held s.start s.name_end s.attribute_start s.attribute_end s.value_start s.quote here next c w.valued i;
        resolving = g.text;
      };
    }) x

pub value_refers_step : (s : Scanner) (r : Reference) (o : Bool) (held : List ℕ) (here next c : ℕ) → s.mode ≡ ValueReference → IsSoundAt ValueReference s held here → IsCharacter held here next c
    → IsBeginning r (part held s.reference here ++ c ∷ []) → IsStep ValueReference s (record s { referring = r }) o More held here next c
value_refers_step s r o held here next c is w i b =
    let t : Scanner = record s { referring = r } in
    let m = referring_more held s.reference here next c s.referring r s.text.items w.referring i b in
    record {
      same = ap (λ j. continues (state_of j t held next)) is
          ∙ value_refers o c (tag_of s held) (given_name s held) s.quote (chars_of s.text.items) (raw_of s held here) (part held s.reference here)
          (chars_more held s.start here next c w.valued.given.tag.whole i) m.0 b.not b.begins;
      sound = subst (λ j. IsSoundAt j t held next) (sym is) (record {
        valued = valued_more held s.start s.name_end s.attribute_start s.attribute_end s.value_start s.quote here next c w.valued i;
        referring = m.1;
      });
    }
