-- The first characters of a token, read at once.
use Rattle.std.proofs.Common.{◌≡◌, ℕ, ◌+◌, ◌-◌, ◌<◌, ◌≤◌, Bool, true, false, List, [], ◌∷◌, ◌++◌, length, take, drop, get_or, refl, sym, ap, ◌∙◌, subst, arith, add-one, drop-cons, eq-eqb, ne_eqb}
use Rattle.std.specs.Prelude.{Option, Some, None, Result, Ok, Err, IfOk, ◌==◌}
use Rattle.std.specs.List.{list_all}
use Rattle.std.proofs.lemmas.Bool.{and_from, and_right}
use Rattle.std.proofs.lemmas.Bool.Decides.{nat_tests}
use Rattle.std.proofs.lemmas.List.Folds.{list_all-append}
use Rattle.mos_fields.specs.Names.{is_start, may_grow}
use Rattle.mos_lexer.specs.Lexing.{byte_order_mark}
use Rattle.mos_lexer.specs.LexMachine.{LexState, LexStep, start_name, continues, whole_token, text_before, text_before_mark, no_token, no_reference, lex_step}
use Rattle.mos_scanner.specs.Parts.{part, IsCharacter}
use Rattle.mos_scanner.specs.Runs.{is_lone, is_plain_but, goes_on, lex_run, IsRun}
use Rattle.mos_scanner.specs.ScannerView.{lex_of, state_of, IsSound, IsSoundAt, IsInStartName}
use Rattle.mos_scanner.specs.declared.mode.Mode.{Mode}
use Rattle.mos_scanner.specs.declared.mode.Mode.TheVariants.{Begin, InText, InTag, StartName, EndName}
use Rattle.mos_scanner.specs.declared.scanner.Scanner.{Scanner}
use Rattle.mos_fields.proofs.CharacterLemmas.{one_unit}
use Rattle.mos_scanner.proofs.PartLemmas.{part_split, part_none}
use Rattle.mos_scanner.proofs.TagLemmas.{tag_begun, start_begun, start_name_begun, end_name_none, end_name_begun, end_part_more, end_name_more}
use Rattle.mos_scanner.proofs.TextLemmas.{begun_text, begun_chars}
use Rattle.mos_scanner.proofs.LexSteps.{begin_tag, begin_text, tag_end, tag_name, end_more}
use Rattle.mos_scanner.proofs.RunLemmas.{lone_allowed, lone_small, plain}

-- ---- runs one behind the other

pub run_none : (s : Scanner) (held : List ℕ) (here : ℕ) → here ≤ length held → IsSound s held here → IsRun s s held here here
run_none s held here w d = record {
  onward = omega arith;
  within = w;
  lone = ap (list_all is_lone) (part_none held here);
  same = λ o. ap (lex_run o (lex_of s held here)) (part_none held here);
  sound = d;
}

abbrev from_there : Option LexState → (LexState → Option LexState) → Option LexState
from_there None f = None
from_there (Some l) f = f l

lex_append : (o : Bool) (l : LexState) (x y : List ℕ) → lex_run o l (x ++ y) ≡ from_there (lex_run o l x) (λ m. lex_run o m y)
lex_append o l [] y = refl
lex_append o l (c ∷ x) y = go (λ m. lex_append o m x y) (lex_step o l c)
  where
    go : ((m : LexState) → lex_run o m (x ++ y) ≡ from_there (lex_run o m x) (λ n. lex_run o n y)) → (r : LexStep) → goes_on r (λ m. lex_run o m (x ++ y)) ≡ from_there (goes_on r (λ m. lex_run o m x)) (λ n. lex_run o n y)
    go h (continues m) = h m
    go h (whole_token t) = refl
    go h (text_before raw z m) = refl
    go h (text_before_mark raw z) = refl
    go h no_token = refl
    go h (no_reference k) = refl

pub run_join : (r s t : Scanner) (held : List ℕ) (a b c : ℕ) → IsRun r s held a b → IsRun s t held b c → IsRun r t held a c
run_join r s t held a b c p q =
    let i = p.onward in
    let j = q.onward in
    let e = part_split held a b c i j in
    record {
      onward = omega (arith, i, j);
      within = q.within;
      lone = ap (list_all is_lone) e ∙ (list_all-append is_lone (part held a b) (part held b c) ∙ and_from (list_all is_lone (part held a b)) (list_all is_lone (part held b c)) p.lone q.lone);
      same = λ o. ap (lex_run o (lex_of r held a)) e
          ∙ (lex_append o (lex_of r held a) (part held a b) (part held b c)
          ∙ (ap (λ z. from_there z (λ m. lex_run o m (part held b c))) (p.same o) ∙ q.same o));
      sound = q.sound;
    }

-- ---- one unit

unit_here : (held : List ℕ) (here : ℕ) → here < length held → part held here (here + 1) ≡ get_or held here 0 ∷ []
unit_here held here h =
    let d : drop here held ≡ get_or held here 0 ∷ drop (here + 1) held = rw (add-one, drop-cons held here 0) in
    ap (λ k. take k (drop here held)) (let e : here + 1 - here ≡ 1 = omega arith in e) ∙ ap (take 1) d

lone_here : (held : List ℕ) (here : ℕ) → here < length held → is_lone (get_or held here 0) ≡ true → IsCharacter held here (here + 1) (get_or held here 0)
lone_here held here h e = let s = lone_small (get_or held here 0) e in
    record { is = unit_here held here h ∙ sym (one_unit (get_or held here 0) (omega (arith, s))); allowed = lone_allowed (get_or held here 0) e; onward = omega arith; within = omega (arith, h) }

step_run : (m : Mode) (s t : Scanner) (held : List ℕ) (here : ℕ) → s.mode ≡ m → here < length held → is_lone (get_or held here 0) ≡ true
    → ((o : Bool) → continues (lex_of t held (here + 1)) ≡ lex_step o (state_of m s held here) (get_or held here 0)) → IsSound t held (here + 1) → IsRun s t held here (here + 1)
step_run m s t held here is h e f d =
    let u = unit_here held here h in
    record {
      onward = omega arith;
      within = omega (arith, h);
      lone = ap (list_all is_lone) u ∙ and_from (is_lone (get_or held here 0)) true e refl;
      same = λ o. ap (λ k. lex_run o (state_of k s held here) (part held here (here + 1))) is
          ∙ (ap (lex_run o (state_of m s held here)) u ∙ ap (λ z. goes_on z (λ n. lex_run o n [])) (sym (f o)));
      sound = d;
    }

start_lone : (c : ℕ) → is_start c ≡ true → is_lone c ≡ true
start_lone c e = grind (arith, nat_tests)

-- ---- the beginnings

pub tag_begins : (s : Scanner) (held : List ℕ) (here : ℕ) → s.mode ≡ Begin → IsSoundAt s.mode s held here → here < length held → get_or held here 0 ≡ 60
    → IsRun s (record s { mode = InTag }) held here (here + 1)
tag_begins s held here is sound h e =
    let d : IsSoundAt Begin s held here = subst (λ m. IsSoundAt m s held here) is sound in
    let l = ap is_lone e in
    step_run Begin s (record s { mode = InTag }) held here is h l (λ o. begin_tag o (get_or held here 0) (eq-eqb (get_or held here 0) 60 e)) (tag_begun held s.start here (here + 1) (get_or held here 0) d (lone_here held here h l) e)

pub text_begins : (s : Scanner) (held : List ℕ) (here : ℕ) → s.mode ≡ Begin → IsSoundAt s.mode s held here → here < length held → is_plain_but 60 38 38 (get_or held here 0) ≡ true
    → IsRun s (record s { is_resolved = false; mode = InText }) held here (here + 1)
text_begins s held here is sound h e =
    let d : IsSoundAt Begin s held here = subst (λ m. IsSoundAt m s held here) is sound in
    let c = get_or held here 0 in
    let p = plain 60 38 38 c e in
    let i = lone_here held here h p.lone in
    let x = begun_chars held s.start here (here + 1) c d i in
    let t = begun_text held s.start here (here + 1) c d i in
    step_run Begin s (record s { is_resolved = false; mode = InText }) held here is h p.lone
    (λ o. begin_text o c x x p.first (and_right o (c == byte_order_mark) (ne_eqb c byte_order_mark (λ q. let z = lone_small c p.lone in omega (arith, z, q)))) p.second)
    (record { whole = t; resolving = t.text })

pub end_begins : (s : Scanner) (held : List ℕ) (here : ℕ) → s.mode ≡ InTag → IsSoundAt s.mode s held here → here < length held → get_or held here 0 ≡ 47
    → IsRun s (record s { mode = EndName }) held here (here + 1)
end_begins s held here is sound h e =
    let d : IsSoundAt InTag s held here = subst (λ m. IsSoundAt m s held here) is sound in
    let c = get_or held here 0 in
    let l = ap is_lone e in
    let x = lone_here held here h l in
    step_run InTag s (record s { mode = EndName }) held here is h l (λ o. tag_end o c (end_name_none held s.start here (here + 1) c d x e) (eq-eqb c 47 e)) (end_name_begun held s.start here (here + 1) c d x e)

start_not : (c n : ℕ) → is_start n ≡ false → is_start c ≡ true → (c == n) ≡ false
start_not c n f e = ne_eqb c n (λ i. absurd (cc))

pub name_begins : (s t : Scanner) (held : List ℕ) (here : ℕ) → s.mode ≡ InTag → IsSoundAt s.mode s held here → here < length held → is_start (get_or held here 0) ≡ true
    → t.mode ≡ StartName → t.start ≡ s.start → t.attributes.items ≡ [] → IsRun s t held here (here + 1)
name_begins s t held here is sound h e js st none =
    let d : IsSoundAt InTag s held here = subst (λ m. IsSoundAt m s held here) is sound in
    let c = get_or held here 0 in
    let l = start_lone c e in
    let x = lone_here held here h l in
    step_run InTag s t held here is h l
    (λ o. ap (λ k. continues (state_of k t held (here + 1))) js
    ∙ (ap (λ k. continues (start_name (part held (k + 1) (here + 1)))) st ∙ tag_name o c (start_begun held s.start here (here + 1) c d x e) (start_not c 47 refl e) (start_not c 63 refl e) e))
    (subst (λ k. IsSoundAt k t held (here + 1)) (sym js) (subst (λ k. IsInStartName held k (here + 1) t.attributes.items) (sym st) (start_name_begun held s.start here (here + 1) c t.attributes.items d x e none)))

pub end_name_begins : (s : Scanner) (held : List ℕ) (here : ℕ) → s.mode ≡ EndName → IsSoundAt s.mode s held here → here < length held → here - s.start ≡ 2 → is_start (get_or held here 0) ≡ true → IsRun s s held here (here + 1)
unfolding may_grow
end_name_begins s held here is sound h two e =
    let d : IsSoundAt EndName s held here = subst (λ m. IsSoundAt m s held here) is sound in
    let c = get_or held here 0 in
    let l = start_lone c e in
    let x = lone_here held here h l in
    let b = d.onward in
    let n : part held (s.start + 2) here ≡ [] = ap (part held (s.start + 2)) (let q : here ≡ s.start + 2 = omega (arith, b, two) in q) ∙ part_none held (s.start + 2) in
    let g : may_grow (part held (s.start + 2) here) c ≡ true = ap (λ z. may_grow z c) n ∙ e in
    step_run EndName s s held here is h l
    (λ o. ap (λ m. continues (state_of m s held (here + 1))) is ∙ end_more o c (part held (s.start + 2) here) (end_part_more held s.start here (here + 1) c d x g) g)
    (subst (λ m. IsSoundAt m s held (here + 1)) (sym is) (end_name_more held s.start here (here + 1) c d x g))

pub run_join_ok : {E : Type 0} (r s t : Scanner) (held : List ℕ) (a b : ℕ) (x : Result ℕ E) → IsRun r s held a b → IfOk x (λ c. IsRun s t held b c) → IfOk x (λ c. IsRun r t held a c)
run_join_ok r s t held a b (Ok c) p q = run_join r s t held a b c p q
run_join_ok r s t held a b (Err e) p q = tt
