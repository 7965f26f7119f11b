-- What a run makes of the scanner.
use Rattle.std.proofs.Common.{◌≡◌, ℕ, ◌+◌, ◌-◌, ◌<◌, ◌≤◌, Bool, true, List, ◌∷◌, ◌++◌, length, get_or, sym, ap, ◌∙◌, subst, arith}
use Rattle.std.specs.Prelude.{Some}
use Rattle.std.specs.List.{list_all}
use Rattle.mos_fields.specs.Characters.{IsUtf16}
use Rattle.mos_fields.specs.Names.{is_name, is_further}
use Rattle.mos_lexer.specs.LexMachine.{in_text, in_tail, in_value, start_name, end_name}
use Rattle.mos_scanner.specs.Parts.{part}
use Rattle.mos_scanner.specs.Runs.{is_lone, is_plain_but, lex_run, IsRun}
use Rattle.mos_scanner.specs.ScannerView.{raw_of, resolved, resolved_units, tag_of, given_name, raw_name, state_of, IsNameIn, IsSoundAt}
use Rattle.mos_scanner.specs.declared.mode.Mode.{Mode}
use Rattle.mos_scanner.specs.declared.mode.Mode.TheVariants.{InText, InTail, InValue, StartName, EndName}
use Rattle.mos_scanner.specs.declared.scanner.Scanner.{Scanner}
use Rattle.mos_scanner.proofs.PartLemmas.{part_split, length-part}
use Rattle.mos_scanner.proofs.TagLemmas.{name_some}
use Rattle.mos_scanner.proofs.RunLemmas.{GrowsBy, lone_grow, all_part, text_run, text_in_run, plain_lone, run_text, run_tail, run_value, run_start_name, run_end_name, name_run, names_lone}

-- a run by the part of a token that is being read
run_by : (m : Mode) (s t : Scanner) (held : List ℕ) (here next : ℕ) → s.mode ≡ m → t.mode ≡ m → here ≤ next → next ≤ length held → list_all is_lone (part held here next) ≡ true
    → ((o : Bool) → lex_run o (state_of m s held here) (part held here next) ≡ Some (state_of m t held next)) → IsSoundAt m t held next → IsRun s t held here next
run_by m s t held here next is js on w a f g = record {
  onward = on;
  within = w;
  lone = a;
  same = λ o. ap (λ k. lex_run o (state_of k s held here) (part held here next)) is ∙ (f o ∙ sym (ap (λ k. Some (state_of k t held next)) js));
  sound = subst (λ k. IsSoundAt k t held next) (sym js) g;
}

abbrev Grown : Scanner → Scanner → List ℕ → ℕ → ℕ → Type 0
Grown s t held here next = (from : ℕ) → from ≤ here → resolved_units t held from next ≡ resolved_units s held from here ++ part held here next

units_by : (us vs x : List ℕ) → IsUtf16 us → list_all is_lone x ≡ true → vs ≡ us ++ x → GrowsBy us vs x
units_by us vs x w a e = subst (λ z. GrowsBy us z x) (sym e) (lone_grow us x w a)

pub text_skips : (s t : Scanner) (held : List ℕ) (here next : ℕ) → s.mode ≡ InText → IsSoundAt s.mode s held here → here ≤ next → next ≤ length held
    → ((k : ℕ) → here ≤ k → k < next → is_plain_but 60 38 38 (get_or held k 0) ≡ true) → t ≡ record s { text = t.text } → Grown s t held here next → IsRun s t held here next
text_skips s t held here next is sound on w f e x =
    let d : IsSoundAt InText s held here = subst (λ m. IsSoundAt m s held here) is sound in
    let a = all_part (is_plain_but 60 38 38) held here next on w f in
    let l = plain_lone 60 38 38 (part held here next) a in
    subst (λ (z : Scanner). Grown s z held here next → IsRun s z held here next) (sym e)
    (λ y.
    let r : Scanner = record s { text = t.text } in
    let g = units_by (resolved_units s held s.start here) (resolved_units r held s.start next) (part held here next) d.resolving l (y s.start d.whole.onward) in
    let raw = text_run held s.start here next d.whole on l in
    run_by InText s r held here next is is on w l
    (λ o. run_text o (raw_of s held here) (resolved s held s.start here) (part held here next) a
    ∙ ap Some (sym (ap (λ z. in_text z (resolved r held s.start next)) raw.chars ∙ ap (in_text (raw_of s held here ++ part held here next)) g.chars)))
    (record { whole = text_in_run held s.start here next d.whole on w l; resolving = g.text })) x

pub tail_skips : (s : Scanner) (held : List ℕ) (here next : ℕ) → s.mode ≡ InTail → IsSoundAt s.mode s held here → here ≤ next → next ≤ length held
    → ((k : ℕ) → here ≤ k → k < next → is_plain_but 62 62 62 (get_or held k 0) ≡ true) → IsRun s s held here next
tail_skips s held here next is sound on w f =
    let d : IsSoundAt InTail s held here = subst (λ m. IsSoundAt m s held here) is sound in
    let a = all_part (is_plain_but 62 62 62) held here next on w f in
    let l = plain_lone 62 62 62 (part held here next) a in
    let raw = text_run held s.start here next d.whole on l in
    run_by InTail s s held here next is is on w l
    (λ o. run_tail o (raw_name s held) (raw_of s held here) (part held here next) a ∙ ap (λ z. Some (in_tail (raw_name s held) z)) (sym raw.chars))
    (record { name = d.name; whole = text_in_run held s.start here next d.whole on w l })

pub value_skips : (s t : Scanner) (held : List ℕ) (here next q : ℕ) → s.mode ≡ InValue → IsSoundAt s.mode s held here → q ≡ s.quote → here ≤ next → next ≤ length held
    → ((k : ℕ) → here ≤ k → k < next → is_plain_but q 38 60 (get_or held k 0) ≡ true) → t ≡ record s { text = t.text } → Grown s t held here next → IsRun s t held here next
value_skips s t held here next q is sound qs on w f e x =
    let d : IsSoundAt InValue s held here = subst (λ m. IsSoundAt m s held here) is sound in
    let a = subst (λ z. list_all (is_plain_but z 38 60) (part held here next) ≡ true) qs (all_part (is_plain_but q 38 60) held here next on w f) in
    let l = plain_lone s.quote 38 60 (part held here next) a in
    subst (λ (z : Scanner). Grown s z held here next → IsRun s z held here next) (sym e)
    (λ y.
    let r : Scanner = record s { text = t.text } in
    let g = units_by (resolved_units s held s.value_start here) (resolved_units r held s.value_start next) (part held here next) d.resolving l (y s.value_start d.valued.value.onward) in
    let tag = d.valued.given.tag in
    let raw = text_run held s.start here next tag.whole on l in
    let h = tag.onward in
    let b = d.valued.given.onward in
    run_by InValue s r held here next is is on w l
    (λ o. run_value o (tag_of s held) (given_name s held) s.quote (resolved s held s.value_start here) (raw_of s held here) (part held here next) a
    ∙ ap Some (sym (ap (λ z. in_value (tag_of s held) (given_name s held) s.quote z (raw_of r held next)) g.chars
    ∙ ap (in_value (tag_of s held) (given_name s held) s.quote (resolved s held s.value_start here ++ part held here next)) raw.chars)))
    (record {
      valued = record {
        given = record {
          tag = record { name = tag.name; onward = omega (arith, h, on); whole = text_in_run held s.start here next tag.whole on w l };
          name = d.valued.given.name;
          onward = omega (arith, b, on);
        };
        quoted = d.valued.quoted;
        value = text_in_run held s.value_start here next d.valued.value on w l;
      };
      resolving = g.text;
    })) x

name_part_run : (held : List ℕ) (a here next : ℕ) → IsNameIn held a here → here ≤ next → next ≤ length held → list_all is_further (part held here next) ≡ true
    → length (part held here next) ≤ 128 - length (part held a here) → IsNameIn held a next
name_part_run held a here next n on w e l = let h = n.onward in
    record {
      name = subst (λ z. is_name z ≡ true) (sym (part_split held a here next n.onward on)) (name_run (part held a here) (part held here next) n.name (name_some (part held a here) n.name) e l);
      onward = omega (arith, h, on);
      within = w;
    }

-- a name stays short enough
short : (held : List ℕ) (a here next n : ℕ) → here ≤ length held → next ≤ length held → n ≡ here - a → next ≤ here + (128 - n) → length (part held here next) ≤ 128 - length (part held a here)
short held a here next n v w e f = let x = length-part held here next w in let y = length-part held a here v in omega (arith, x, y, e, f)

pub start_skips : (s : Scanner) (held : List ℕ) (here next last : ℕ) → s.mode ≡ StartName → IsSoundAt s.mode s held here → here ≤ next → next ≤ length held
    → last ≡ s.start + 1 + 128 → next ≤ here + (last - here) → ((k : ℕ) → here ≤ k → k < next → is_further (get_or held k 0) ≡ true) → IsRun s s held here next
start_skips s held here next last is sound on w r f p =
    let d : IsSoundAt StartName s held here = subst (λ m. IsSoundAt m s held here) is sound in
    let a = all_part is_further held here next on w p in
    let l = names_lone (part held here next) a in
    let few = short held (s.start + 1) here next (here - s.start - 1) d.name.within w (omega arith) (let o = d.name.onward in omega (arith, r, f, o)) in
    let more = name_part_run held (s.start + 1) here next d.name on w a few in
    let grown = part_split held (s.start + 1) here next d.name.onward on in
    run_by StartName s s held here next is is on w l
    (λ o. run_start_name o (part held (s.start + 1) here) (part held here next) (name_some (part held (s.start + 1) here) d.name.name) a few ∙ ap (λ z. Some (start_name z)) (sym grown))
    (record {
      name = more;
      whole = text_in_run held s.start here next d.whole on w l;
      begins = part_split held s.start here next d.whole.onward on ∙ (ap (λ z. z ++ part held here next) d.begins ∙ ap (λ z. 60 ∷ z) (sym grown));
      none = d.none;
    })

pub end_skips : (s : Scanner) (held : List ℕ) (here next last : ℕ) → s.mode ≡ EndName → IsSoundAt s.mode s held here → here ≤ next → next ≤ length held → 2 < here - s.start
    → last ≡ s.start + 2 + 128 → next ≤ here + (last - here) → ((k : ℕ) → here ≤ k → k < next → is_further (get_or held k 0) ≡ true) → IsRun s s held here next
end_skips s held here next last is sound on w some r f p =
    let d : IsSoundAt EndName s held here = subst (λ m. IsSoundAt m s held here) is sound in
    let a = all_part is_further held here next on w p in
    let l = names_lone (part held here next) a in
    let few = short held (s.start + 2) here next (here - s.start - 2) d.within w (omega arith) (let o = d.onward in omega (arith, r, f, o)) in
    let name : IsNameIn held (s.start + 2) here = record { name = d.name (omega (arith, some)); onward = d.onward; within = d.within } in
    let more = name_part_run held (s.start + 2) here next name on w a few in
    let grown = part_split held (s.start + 2) here next d.onward on in
    let h = d.onward in
    run_by EndName s s held here next is is on w l
    (λ o. run_end_name o (part held (s.start + 2) here) (part held here next) (name_some (part held (s.start + 2) here) name.name) a few ∙ ap (λ z. Some (end_name z)) (sym grown))
    (record { onward = omega (arith, h, on); within = w; name = λ q. more.name })
