-- What the scanner has read stays the same where more is held.
use Rattle.std.proofs.Common.{◌≡◌, ℕ, ◌+◌, ◌≤◌, true, List, ◌∷◌, ◌++◌, length, refl, sym, ap, ◌∙◌, subst, arith}
use Rattle.std.specs.Prelude.{cond}
use Rattle.std.specs.List.{list_all}
use Rattle.std.proofs.lemmas.List.{length-append}
use Rattle.mos_fields.specs.Characters.{Text, IsUtf16, chars_of}
use Rattle.mos_fields.specs.Names.{is_name}
use Rattle.mos_lexer.specs.LexMachine.{Tag, start_name, end_name, end_white}
use Rattle.mos_scanner.specs.References.{is_ascii, IsAt}
use Rattle.mos_scanner.specs.ScannerView.{raw_of, tag_of, resolved_units, state_of, IsNameIn, IsTextIn, IsOpenTag, IsGiven, IsValued, IsReferring, IsSoundAt}
use Rattle.mos_scanner.specs.declared.mode.Mode.{Mode}
use Rattle.mos_scanner.specs.declared.mode.Mode.TheVariants.{Begin, InText, TextReference, InTag, StartName, InStart, AttributeName, BeforeEquals, BeforeValue, InValue, ValueReference, BeforeClose, EndName, EndWhite, InTail, BeforeXml, BeforeMl, BeforeL, AfterXml, InDeclaration}
use Rattle.mos_scanner.specs.declared.scanner.Scanner.{Scanner}
use Rattle.mos_scanner.proofs.PartLemmas.{part-append}

module _ (held more : List ℕ) where
  within_more : (n : ℕ) → n ≤ length held → n ≤ length (held ++ more)
  within_more n h = let l = length-append held more in omega (arith, h, l)

  pub name_held : (a b : ℕ) → IsNameIn held a b → IsNameIn (held ++ more) a b
  name_held a b n = record { name = subst (λ z. is_name z ≡ true) (sym (part-append held more a b n.onward n.within)) n.name; onward = n.onward; within = within_more b n.within }

  pub text_held : (a b : ℕ) → IsTextIn held a b → IsTextIn (held ++ more) a b
  text_held a b t = record { text = subst IsUtf16 (sym (part-append held more a b t.onward t.within)) t.text; onward = t.onward; within = within_more b t.within }

  open_held : (start name_end here : ℕ) → IsOpenTag held start name_end here → IsOpenTag (held ++ more) start name_end here
  open_held start name_end here t = record { name = name_held (start + 1) name_end t.name; onward = t.onward; whole = text_held start here t.whole }

  given_held : (start name_end a b here : ℕ) → IsGiven held start name_end a b here → IsGiven (held ++ more) start name_end a b here
  given_held start name_end a b here t = record { tag = open_held start name_end here t.tag; name = name_held a b t.name; onward = t.onward }

  valued_held : (start name_end a b v q here : ℕ) → IsValued held start name_end a b v q here → IsValued (held ++ more) start name_end a b v q here
  valued_held start name_end a b v q here t = record { given = given_held start name_end a b here t.given; quoted = t.quoted; value = text_held v here t.value }

  resolved_held : (s : Scanner) (from here : ℕ) → from ≤ here → here ≤ length held → resolved_units s (held ++ more) from here ≡ resolved_units s held from here
  resolved_held s from here o w = ap (cond s.is_resolved s.text.items) (part-append held more from here o w)

  referring_held : (s : Scanner) (here : ℕ) → IsReferring held s.reference here s.referring s.text.items → IsReferring (held ++ more) s.reference here s.referring s.text.items
  referring_held s here t =
      let e = part-append held more s.reference here t.onward t.within in
      record {
        is = subst (IsAt s.referring) (sym e) t.is;
        bounded = t.bounded;
        ascii = ap (list_all is_ascii) e ∙ t.ascii;
        onward = t.onward;
        within = within_more here t.within;
        resolving = t.resolving;
      }

  pub sound_held : (m : Mode) (s : Scanner) (here : ℕ) → IsSoundAt m s held here → IsSoundAt m s (held ++ more) here
  sound_held Begin s here t = record { begun = t.begun; within = within_more here t.within }
  sound_held InText s here t = record { whole = text_held s.start here t.whole; resolving = subst IsUtf16 (sym (resolved_held s s.start here t.whole.onward t.whole.within)) t.resolving }
  sound_held TextReference s here t = record { whole = text_held s.start here t.whole; referring = referring_held s here t.referring }
  sound_held InTag s here t =
      let b = t.begun in
      record { is = part-append held more s.start here (omega arith) t.within ∙ t.is; begun = t.begun; within = within_more here t.within }
  sound_held StartName s here t = record {
    name = name_held (s.start + 1) here t.name;
    whole = text_held s.start here t.whole;
    begins = part-append held more s.start here t.whole.onward t.whole.within ∙ (t.begins ∙ ap (λ z. 60 ∷ z) (sym (part-append held more (s.start + 1) here t.name.onward t.name.within)));
    none = t.none;
  }
  sound_held (InStart spaced) s here t = open_held s.start s.name_end here t
  sound_held AttributeName s here t = record { tag = open_held s.start s.name_end here t.tag; name = name_held s.attribute_start here t.name }
  sound_held BeforeEquals s here t = given_held s.start s.name_end s.attribute_start s.attribute_end here t
  sound_held BeforeValue s here t = given_held s.start s.name_end s.attribute_start s.attribute_end here t
  sound_held InValue s here t = record {
    valued = valued_held s.start s.name_end s.attribute_start s.attribute_end s.value_start s.quote here t.valued;
    resolving = subst IsUtf16 (sym (resolved_held s s.value_start here t.valued.value.onward t.valued.value.within)) t.resolving;
  }
  sound_held ValueReference s here t = record {
    valued = valued_held s.start s.name_end s.attribute_start s.attribute_end s.value_start s.quote here t.valued;
    referring = referring_held s here t.referring;
  }
  sound_held BeforeClose s here t = open_held s.start s.name_end here t
  sound_held EndName s here t = record {
    onward = t.onward;
    within = within_more here t.within;
    name = λ h. subst (λ z. is_name z ≡ true) (sym (part-append held more (s.start + 2) here t.onward t.within)) (t.name h);
  }
  sound_held EndWhite s here t = record { name = name_held (s.start + 2) s.name_end t.name; onward = t.onward }
  sound_held InTail s here t = record { name = name_held s.raw_start s.raw_end t.name; whole = text_held s.start here t.whole }
  sound_held BeforeXml s here t = tt
  sound_held BeforeMl s here t = tt
  sound_held BeforeL s here t = tt
  sound_held AfterXml s here t = tt
  sound_held (InDeclaration question) s here t = tt

  open_tag_held : (s : Scanner) (here : ℕ) → IsOpenTag held s.start s.name_end here → tag_of s (held ++ more) ≡ tag_of s held
  open_tag_held s here t = ap with_name (part-append held more (s.start + 1) s.name_end t.name.onward t.name.within)
    where
      with_name : Text → Tag
      with_name n = record { name = n; given = s.attributes.items }

  raw_held : (s : Scanner) (here : ℕ) → IsTextIn held s.start here → raw_of s (held ++ more) here ≡ raw_of s held here
  raw_held s here t = ap chars_of (part-append held more s.start here t.onward t.within)

  pub state_held : (m : Mode) (s : Scanner) (here : ℕ) → IsSoundAt m s held here → state_of m s (held ++ more) here ≡ state_of m s held here
  state_held Begin s here t = refl
  state_held InText s here t = let r = raw_held s here t.whole in let y = ap chars_of (resolved_held s s.start here t.whole.onward t.whole.within) in cc
  state_held TextReference s here t = let r = raw_held s here t.whole in let m = part-append held more s.reference here t.referring.onward t.referring.within in cc
  state_held InTag s here t = refl
  state_held StartName s here t = ap start_name (part-append held more (s.start + 1) here t.name.onward t.name.within)
  state_held (InStart spaced) s here t = let g = open_tag_held s here t in let r = raw_held s here t.whole in cc
  state_held AttributeName s here t = let g = open_tag_held s here t.tag in let r = raw_held s here t.tag.whole in let a = part-append held more s.attribute_start here t.name.onward t.name.within in cc
  state_held BeforeEquals s here t = let g = open_tag_held s here t.tag in let r = raw_held s here t.tag.whole in let a = part-append held more s.attribute_start s.attribute_end t.name.onward t.name.within in cc
  state_held BeforeValue s here t = let g = open_tag_held s here t.tag in let r = raw_held s here t.tag.whole in let a = part-append held more s.attribute_start s.attribute_end t.name.onward t.name.within in cc
  state_held InValue s here t =
      let g = open_tag_held s here t.valued.given.tag in
      let r = raw_held s here t.valued.given.tag.whole in
      let a = part-append held more s.attribute_start s.attribute_end t.valued.given.name.onward t.valued.given.name.within in
      let v = ap chars_of (resolved_held s s.value_start here t.valued.value.onward t.valued.value.within) in
      cc
  state_held ValueReference s here t =
      let g = open_tag_held s here t.valued.given.tag in
      let r = raw_held s here t.valued.given.tag.whole in
      let a = part-append held more s.attribute_start s.attribute_end t.valued.given.name.onward t.valued.given.name.within in
      let m = part-append held more s.reference here t.referring.onward t.referring.within in
      cc
  state_held BeforeClose s here t = let g = open_tag_held s here t in let r = raw_held s here t.whole in cc
  state_held EndName s here t = ap end_name (part-append held more (s.start + 2) here t.onward t.within)
  state_held EndWhite s here t = ap end_white (part-append held more (s.start + 2) s.name_end t.name.onward t.name.within)
  state_held InTail s here t = let r = raw_held s here t.whole in let n = part-append held more s.raw_start s.raw_end t.name.onward t.name.within in cc
  state_held BeforeXml s here t = refl
  state_held BeforeMl s here t = refl
  state_held BeforeL s here t = refl
  state_held AfterXml s here t = refl
  state_held (InDeclaration question) s here t = refl
