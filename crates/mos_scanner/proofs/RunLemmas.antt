-- A run is the same as a step for each of its characters.
use Rattle.std.proofs.Common.{◌≡◌, ℕ, zero, suc, ◌+◌, ◌-◌, ◌<◌, ◌≤◌, Bool, true, false, ◌&&◌, List, [], ◌∷◌, ◌++◌, length, take, drop, get_or, refl, sym, ap, ◌∙◌, subst, arith, append_assoc, length-drop, ne_eqb, eq-eqb}
use Rattle.std.specs.Prelude.{Some, ◌==◌, not, nat_lt}
use Rattle.std.specs.List.{list_all}
use Rattle.std.specs.Char.Escape.{encode_utf16}
use Rattle.std.proofs.lemmas.Bool.{both_ways, and_parts, and_from, lt-ltb, and_left, and_right}
use Rattle.std.proofs.lemmas.Bool.Decides.{nat_tests}
use Rattle.std.proofs.lemmas.List.{append-nil, length-append, get_or-drop}
use Rattle.std.proofs.lemmas.List.Concat.{flat_map-append}
use Rattle.std.proofs.lemmas.List.Folds.{list_all-append}
use Rattle.mos_fields.specs.Characters.{Text, IsUtf16, chars_of, units_of, is_allowed, are_allowed}
use Rattle.mos_fields.specs.Forms.{is_white}
use Rattle.mos_fields.specs.Names.{is_empty, is_name, is_further, may_grow}
use Rattle.mos_lexer.specs.Lexing.{byte_order_mark}
use Rattle.mos_lexer.specs.LexMachine.{Tag, in_text, in_tail, in_value, start_name, end_name}
use Rattle.mos_scanner.specs.Parts.{part}
use Rattle.mos_scanner.specs.Runs.{is_lone, is_plain_but, goes_on, lex_run}
use Rattle.mos_scanner.specs.ScannerView.{IsTextIn}
use Rattle.mos_fields.proofs.CharacterLemmas.{one_unit, chars_of-units_of, IsUtf16-units_of}
use Rattle.mos_scanner.proofs.PartLemmas.{part_split, name_push}
use Rattle.mos_scanner.proofs.EndLemmas.{end_without_mark}
use Rattle.mos_scanner.proofs.LexSteps.{text_more, tail_more, value_more, name_more, end_more}

-- ---- units of a part

all_front : (p : ℕ → Bool) (n : ℕ) (s : List ℕ) → n ≤ length s → ((k : ℕ) → k < n → p (get_or s k 0) ≡ true) → list_all p (take n s) ≡ true
all_front p zero s h f = refl
all_front p (suc n) [] h f = refl
all_front p (suc n) (x ∷ s) h f = and_from (p x) (list_all p (take n s)) (f 0 (omega arith)) (all_front p n s (omega (arith, h)) (λ k lt. f (suc k) (omega (arith, lt))))

pub all_part : (p : ℕ → Bool) (held : List ℕ) (a b : ℕ) → a ≤ b → b ≤ length held → ((k : ℕ) → a ≤ k → k < b → p (get_or held k 0) ≡ true) → list_all p (part held a b) ≡ true
all_part p held a b o w f =
    all_front p (b - a) (drop a held) (let l = length-drop a held in omega (arith, l, o, w))
    (λ k lt. ap p (get_or-drop a held k 0) ∙ f (a + k) (omega arith) (omega (arith, lt, o)))

all_weaker : (p q : ℕ → Bool) → ((c : ℕ) → p c ≡ true → q c ≡ true) → (x : Text) → list_all p x ≡ true → list_all q x ≡ true
all_weaker p q f [] e = refl
all_weaker p q f (c ∷ x) e = let h = and_parts (p c) (list_all p x) e in and_from (q c) (list_all q x) (f c h.0) (all_weaker p q f x h.1)

-- ---- characters of one unit

pub lone_allowed : (c : ℕ) → is_lone c ≡ true → is_allowed c ≡ true
lone_allowed c e = grind (arith, nat_tests)

pub lone_small : (c : ℕ) → is_lone c ≡ true → c < 65279
lone_small c e = grind (arith, nat_tests)

lone_units : (x : Text) → list_all is_lone x ≡ true → units_of x ≡ x
lone_units [] e = refl
lone_units (c ∷ x) e =
    let h = and_parts (is_lone c) (list_all is_lone x) e in
    let s = lone_small c h.0 in
    ap (λ z. z ++ units_of x) (one_unit c (omega arith)) ∙ ap (λ z. c ∷ z) (lone_units x h.1)

pub record GrowsBy (us vs : List ℕ) (x : Text) : Type 0 where
  pub chars : chars_of vs ≡ chars_of us ++ x
  pub text : IsUtf16 vs

pub lone_grow : (us x : List ℕ) → IsUtf16 us → list_all is_lone x ≡ true → GrowsBy us (us ++ x) x
lone_grow us x w a =
    let e : units_of (chars_of us ++ x) ≡ us ++ x =
    flat_map-append encode_utf16 (chars_of us) x ∙ (ap (λ z. z ++ units_of x) w.round_trip ∙ ap (λ z. us ++ z) (lone_units x a)) in
    let f : are_allowed (chars_of us ++ x) ≡ true = list_all-append is_allowed (chars_of us) x ∙ and_from (are_allowed (chars_of us)) (are_allowed x) w.allowed (all_weaker is_lone is_allowed lone_allowed x a) in
    record {
      chars = subst (λ z. chars_of z ≡ chars_of us ++ x) e (chars_of-units_of (chars_of us ++ x) f);
      text = subst IsUtf16 e (IsUtf16-units_of (chars_of us ++ x) f);
    }

pub text_run : (held : List ℕ) (a here next : ℕ) → IsTextIn held a here → here ≤ next → list_all is_lone (part held here next) ≡ true → GrowsBy (part held a here) (part held a next) (part held here next)
text_run held a here next t o e =
    subst (λ z. GrowsBy (part held a here) z (part held here next)) (sym (part_split held a here next t.onward o)) (lone_grow (part held a here) (part held here next) t.text e)

pub text_in_run : (held : List ℕ) (a here next : ℕ) → IsTextIn held a here → here ≤ next → next ≤ length held → list_all is_lone (part held here next) ≡ true → IsTextIn held a next
text_in_run held a here next t o w e = let h = t.onward in record { text = (text_run held a here next t o e).text; onward = omega (arith, h, o); within = w }

-- ---- plain characters

pub record Plain (p q r c : ℕ) : Type 0 where
  pub lone : is_lone c ≡ true
  pub first : (c == p) ≡ false
  pub second : (c == q) ≡ false
  pub third : (c == r) ≡ false

not_true : (b : Bool) → not b ≡ true → b ≡ false
not_true false e = refl
not_true true e = absurd cc

pub plain : (p q r c : ℕ) → is_plain_but p q r c ≡ true → Plain p q r c
plain p q r c e =
    let x = and_parts (is_lone c && not (c == p) && not (c == q)) (not (c == r)) e in
    let y = and_parts (is_lone c && not (c == p)) (not (c == q)) x.0 in
    let z = and_parts (is_lone c) (not (c == p)) y.0 in
    record { lone = z.0; first = not_true (c == p) z.1; second = not_true (c == q) y.1; third = not_true (c == r) x.1 }

pub plain_lone : (p q r : ℕ) (x : Text) → list_all (is_plain_but p q r) x ≡ true → list_all is_lone x ≡ true
plain_lone p q r x e = all_weaker (is_plain_but p q r) is_lone (λ c h. (plain p q r c h).lone) x e

no_mark : (o : Bool) (c : ℕ) (raw : Text) → is_lone c ≡ true → (o && (c == byte_order_mark) && is_white raw) ≡ false
no_mark o c raw e = and_left (o && (c == byte_order_mark)) (is_white raw) (and_right o (c == byte_order_mark) (ne_eqb c byte_order_mark (λ i. let s = lone_small c e in omega (arith, s, i))))

pub run_text : (o : Bool) (raw y x : Text) → list_all (is_plain_but 60 38 38) x ≡ true → lex_run o (in_text raw y) x ≡ Some (in_text (raw ++ x) (y ++ x))
run_text o raw y [] e = ap Some (both_nil)
  where
    both_nil : in_text raw y ≡ in_text (raw ++ []) (y ++ [])
    both_nil = sym (ap (λ z. in_text z (y ++ [])) (append-nil raw) ∙ ap (in_text raw) (append-nil y))
run_text o raw y (c ∷ x) e =
    let h = and_parts (is_plain_but 60 38 38 c) (list_all (is_plain_but 60 38 38) x) e in
    let p = plain 60 38 38 c h.0 in
    sym (ap (λ z. goes_on z (λ m. lex_run o m x)) (text_more o c raw y {raw' = raw ++ c ∷ []} {y' = y ++ c ∷ []} refl refl p.first (no_mark o c raw p.lone) p.second))
    ∙ (run_text o (raw ++ c ∷ []) (y ++ c ∷ []) x h.1 ∙ ap Some (ap (λ z. in_text z ((y ++ c ∷ []) ++ x)) (append_assoc raw (c ∷ []) x) ∙ ap (in_text (raw ++ c ∷ x)) (append_assoc y (c ∷ []) x)))

last_is : (x a : Text) (c d : ℕ) → x ++ c ∷ [] ≡ a ++ d ∷ [] → c ≡ d
last_is x a c d e = sym (last-push x c) ∙ (ap last e ∙ last-push a d)
  where
    last_from : ℕ → Text → ℕ
    last_from k [] = k
    last_from k (c ∷ cs) = last_from c cs

    last : Text → ℕ
    last x = last_from 0 x

    from-push : (k : ℕ) (x : Text) (c : ℕ) → last_from k (x ++ c ∷ []) ≡ c
    from-push k [] c = refl
    from-push k (b ∷ x) c = from-push b x c

    last-push : (x : Text) (c : ℕ) → last (x ++ c ∷ []) ≡ c
    last-push x c = from-push 0 x c

pub run_tail : (o : Bool) (n y x : Text) → list_all (is_plain_but 62 62 62) x ≡ true → lex_run o (in_tail n y) x ≡ Some (in_tail n (y ++ x))
run_tail o n y [] e = ap (λ z. Some (in_tail n z)) (sym (append-nil y))
run_tail o n y (c ∷ x) e =
    let h = and_parts (is_plain_but 62 62 62 c) (list_all (is_plain_but 62 62 62) x) e in
    let p = plain 62 62 62 c h.0 in
    sym (ap (λ z. goes_on z (λ m. lex_run o m x)) (tail_more o c n y {x' = y ++ c ∷ []} refl (end_without_mark n (y ++ c ∷ []) (λ a i. both_ways (c == 62) p.first (eq-eqb c 62 (last_is y a c 62 i))))))
    ∙ (run_tail o n (y ++ c ∷ []) x h.1 ∙ ap (λ z. Some (in_tail n z)) (append_assoc y (c ∷ []) x))

pub run_value : (o : Bool) (t : Tag) (a : Text) (q : ℕ) (v raw x : Text) → list_all (is_plain_but q 38 60) x ≡ true → lex_run o (in_value t a q v raw) x ≡ Some (in_value t a q (v ++ x) (raw ++ x))
run_value o t a q v raw [] e = ap Some (sym (ap (λ z. in_value t a q z (raw ++ [])) (append-nil v) ∙ ap (in_value t a q v) (append-nil raw)))
run_value o t a q v raw (c ∷ x) e =
    let h = and_parts (is_plain_but q 38 60 c) (list_all (is_plain_but q 38 60) x) e in
    let p = plain q 38 60 c h.0 in
    sym (ap (λ z. goes_on z (λ m. lex_run o m x)) (value_more o c t a q v raw {v' = v ++ c ∷ []} {raw' = raw ++ c ∷ []} refl refl p.first p.second p.third))
    ∙ (run_value o t a q (v ++ c ∷ []) (raw ++ c ∷ []) x h.1
    ∙ ap Some (ap (λ z. in_value t a q z ((raw ++ c ∷ []) ++ x)) (append_assoc v (c ∷ []) x) ∙ ap (in_value t a q (v ++ c ∷ x)) (append_assoc raw (c ∷ []) x)))

-- ---- names

grows_here : (n : Text) (c : ℕ) → is_empty n ≡ false → is_further c ≡ true → length n < 128 → may_grow n c ≡ true
unfolding may_grow
grows_here [] c e f h = absurd cc
grows_here (d ∷ n) c e f h = and_from (is_further c) (nat_lt (length (d ∷ n)) 128) f (lt-ltb (length (d ∷ n)) 128 h)

not_empty : (n : Text) (c : ℕ) → is_empty (n ++ c ∷ []) ≡ false
not_empty [] c = refl
not_empty (d ∷ n) c = refl

shorter : (n x : Text) (c : ℕ) → length (c ∷ x) ≤ 128 - length n → length x ≤ 128 - length (n ++ c ∷ [])
shorter n x c l = let a = length-append n (c ∷ []) in omega (arith, l, a)

room : (n x : Text) (c : ℕ) → length (c ∷ x) ≤ 128 - length n → length n < 128
room n x c l = omega (arith, l)

pub name_run : (n x : Text) → is_name n ≡ true → is_empty n ≡ false → list_all is_further x ≡ true → length x ≤ 128 - length n → is_name (n ++ x) ≡ true
name_run n [] i e f l = ap is_name (append-nil n) ∙ i
name_run n (c ∷ x) i e f l =
    let h = and_parts (is_further c) (list_all is_further x) f in
    ap is_name (sym (append_assoc n (c ∷ []) x)) ∙ name_run (n ++ c ∷ []) x (name_push n c i (grows_here n c e h.0 (room n x c l))) (not_empty n c) h.1 (shorter n x c l)

pub run_start_name : (o : Bool) (n x : Text) → is_empty n ≡ false → list_all is_further x ≡ true → length x ≤ 128 - length n → lex_run o (start_name n) x ≡ Some (start_name (n ++ x))
run_start_name o n [] e f l = ap (λ z. Some (start_name z)) (sym (append-nil n))
run_start_name o n (c ∷ x) e f l =
    let h = and_parts (is_further c) (list_all is_further x) f in
    sym (ap (λ z. goes_on z (λ m. lex_run o m x)) (name_more o c n {n' = n ++ c ∷ []} refl (grows_here n c e h.0 (room n x c l))))
    ∙ (run_start_name o (n ++ c ∷ []) x (not_empty n c) h.1 (shorter n x c l) ∙ ap (λ z. Some (start_name z)) (append_assoc n (c ∷ []) x))

pub run_end_name : (o : Bool) (n x : Text) → is_empty n ≡ false → list_all is_further x ≡ true → length x ≤ 128 - length n → lex_run o (end_name n) x ≡ Some (end_name (n ++ x))
run_end_name o n [] e f l = ap (λ z. Some (end_name z)) (sym (append-nil n))
run_end_name o n (c ∷ x) e f l =
    let h = and_parts (is_further c) (list_all is_further x) f in
    sym (ap (λ z. goes_on z (λ m. lex_run o m x)) (end_more o c n {n' = n ++ c ∷ []} refl (grows_here n c e h.0 (room n x c l))))
    ∙ (run_end_name o (n ++ c ∷ []) x (not_empty n c) h.1 (shorter n x c l) ∙ ap (λ z. Some (end_name z)) (append_assoc n (c ∷ []) x))

further_lone : (c : ℕ) → is_further c ≡ true → is_lone c ≡ true
further_lone c e = grind (arith, nat_tests)

pub names_lone : (x : Text) → list_all is_further x ≡ true → list_all is_lone x ≡ true
names_lone x e = all_weaker is_further is_lone further_lone x e
