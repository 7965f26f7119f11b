-- Fields in the order of columns, and what the machine asks of the fields seen.
use Rattle.std.proofs.Common.{◌≡◌, ℕ, zero, suc, ◌+◌, ◌<◌, ◌≤◌, Bool, true, false, cond, eq-eqb, List, [], ◌∷◌, ◌++◌, Option, Some, None, refl, sym, ap, subst, ◌∙◌, append_assoc, arith, ◌⊎◌, inl, inr}
use Rattle.std.specs.Prelude.{◌&&◌, nat_lt}
use Rattle.std.proofs.lemmas.List.{append-nil}
use Rattle.std.proofs.lemmas.Bool.{eqb-true}
use Rattle.std.proofs.lemmas.Bool.Decides.{nat_tests}
use Rattle.mos_fields.specs.declared.field.Field.{Field}
use Rattle.mos_fields.specs.Characters.{Text}
use Rattle.mos_fields.specs.Fields.{number_of, same_field}
use Rattle.mos_tables.specs.declared.column.Column.{Column}
use Rattle.mos_tables.specs.declared.column.Often.{Often}
use Rattle.mos_tables.specs.declared.column.Often.TheVariants.{One, Optional, Any, Many, Count}
use Rattle.mos_grammar.specs.declared.fault.Fault.{Fault}
use Rattle.mos_grammar.specs.declared.fault.Fault.TheVariants.{Twice as twice, Order as out_of_order}
use Rattle.mos_grammar.specs.Records.{times, least_count, is_single, is_full, is_named, column_of, before_column, any_seen, lacks, lacking, repeated}
use Rattle.mos_grammar.proofs.Seen.{or_false, no_true, not_true, times_last, has, distinct, not_lacking}
use Rattle.record_laws.specs.Words.{copies, Allows, IsFilled}

-- ---- which fields are the same

pub same_self : (f : Field) → same_field f f ≡ true
same_self f = eq-eqb (number_of f) (number_of f) refl

pub same_turned : (a b : Field) → same_field a b ≡ false → same_field b a ≡ false
same_turned a b h = not_true (same_field b a) (λ e. (let p : same_field a b ≡ true = eq-eqb (number_of a) (number_of b) (sym (eqb-true (number_of b) (number_of a) e)) in absurd (clash (same_field a b) p h)))
  where
    clash : (b : Bool) → b ≡ true → b ≡ false → ⊥
    clash b p q = cc

pub some_column : (c d : Column) → ◌≡◌ {A = Option Column} (Some c) (Some d) → c ≡ d
some_column c d e = cc

-- ---- copies of a field

pub times_copies : (f g : Field) (k : ℕ) (rest : List Field) → same_field f g ≡ false → times f (copies k g ++ rest) ≡ times f rest
times_copies f g zero rest h = refl
times_copies f g (suc k) rest h = rw h (times_copies f g k rest h)

pub times_own : (f : Field) (k : ℕ) (rest : List Field) → times f (copies k f ++ rest) ≡ k + times f rest
times_own f zero rest = omega arith
times_own f (suc k) rest = rw (same_self f) (omega (arith, times_own f k rest))

pub times_only : (f : Field) (k : ℕ) → times f (copies k f) ≡ k
times_only f zero = refl
times_only f (suc k) = rw (same_self f) (omega (arith, times_only f k))

pub copies_end : (k : ℕ) (f : Field) → copies k f ++ f ∷ [] ≡ copies (suc k) f
copies_end zero f = refl
copies_end (suc k) f = ap (λ (x : List Field). f ∷ x) (copies_end k f)

-- fields with one in them, where copies stand first: it is one of the copies, or it stands behind them
pub split : (k : ℕ) (f : Field) (seen : List Field) (y : Field) (more rest : List Field) → seen ++ y ∷ more ≡ copies k f ++ rest
    → ((j : ℕ) × (seen ≡ copies j f) × (j < k) × (y ≡ f)) ⊎ ((front : List Field) × (seen ≡ copies k f ++ front) × (rest ≡ front ++ y ∷ more))
split zero f seen y more rest e = inr (seen, refl, sym e)
split (suc k) f [] y more rest e = inl (zero, refl, omega arith, cc)
split (suc k) f (s ∷ seen) y more rest e =
    let q : seen ++ y ∷ more ≡ copies k f ++ rest = cc in
    let p : s ≡ f = cc in
    go p (split k f seen y more rest q)
  where
    go : s ≡ f → ((j : ℕ) × (seen ≡ copies j f) × (j < k) × (y ≡ f)) ⊎ ((front : List Field) × (seen ≡ copies k f ++ front) × (rest ≡ front ++ y ∷ more))
        → ((j : ℕ) × (s ∷ seen ≡ copies j f) × (j < suc k) × (y ≡ f)) ⊎ ((front : List Field) × (s ∷ seen ≡ copies (suc k) f ++ front) × (rest ≡ front ++ y ∷ more))
    go p (inl h) = inl (suc h.0, (let a = h.1 in cc), omega (arith, h.2), h.3)
    go p (inr h) = inr (h.0, (let a = h.1 in cc), h.2)

-- a front of fields where copies stand first
pub cut : (k : ℕ) (f : Field) (fs more rest : List Field) → fs ++ more ≡ copies k f ++ rest
    → ((j : ℕ) × (fs ≡ copies j f) × (j ≤ k)) ⊎ ((front : List Field) × (fs ≡ copies k f ++ front) × (rest ≡ front ++ more))
cut zero f fs more rest e = inr (fs, refl, sym e)
cut (suc k) f [] more rest e = inl (zero, refl, omega arith)
cut (suc k) f (s ∷ fs) more rest e =
    let q : fs ++ more ≡ copies k f ++ rest = cc in
    let p : s ≡ f = cc in
    go p (cut k f fs more rest q)
  where
    go : s ≡ f → ((j : ℕ) × (fs ≡ copies j f) × (j ≤ k)) ⊎ ((front : List Field) × (fs ≡ copies k f ++ front) × (rest ≡ front ++ more))
        → ((j : ℕ) × (s ∷ fs ≡ copies j f) × (j ≤ suc k)) ⊎ ((front : List Field) × (s ∷ fs ≡ copies (suc k) f ++ front) × (rest ≡ front ++ more))
    go p (inl h) = inl (suc h.0, (let a = h.1 in cc), omega (arith, h.2))
    go p (inr h) = inr (h.0, (let a = h.1 in cc), h.2)

-- ---- the same fields seen as often

abbrev pub Agree : List Column → List Field → List Field → Type 0
Agree [] a b = Unit {0}
Agree (c ∷ cs) a b = (times c.field a ≡ times c.field b) × Agree cs a b

pub any_agree : (cs : List Column) (a b : List Field) → Agree cs a b → any_seen cs a ≡ any_seen cs b
any_agree [] a b h = refl
any_agree (c ∷ cs) a b h = rw (h.0, any_agree cs a b h.1) refl

pub lacking_agree : (cs : List Column) (a b : List Field) → Agree cs a b → lacking cs a ≡ lacking cs b
lacking_agree [] a b h = refl
lacking_agree (c ∷ cs) a b h = rw (h.0, lacking_agree cs a b h.1) refl

pub before_agree : (cs : List Column) (a b : List Field) (n : Text) → Agree cs a b → lacking (before_column cs n) a ≡ lacking (before_column cs n) b
before_agree [] a b n h = refl
before_agree (c ∷ cs) a b n h = go (is_named c n) (before_agree cs a b n h.1)
  where
    go : (x : Bool) → lacking (before_column cs n) a ≡ lacking (before_column cs n) b → lacking (cond x [] (c ∷ before_column cs n)) a ≡ lacking (cond x [] (c ∷ before_column cs n)) b
    go true ih = refl
    go false ih = rw (h.0, ih) refl

pub repeated_agree : (cs : List Column) (a b : List Field) (n : Text) → Agree cs a b → repeated cs a n ≡ repeated cs b n
repeated_agree [] a b n h = refl
repeated_agree (c ∷ cs) a b n h = rw (h.0, any_agree cs a b h.1, repeated_agree cs a b n h.1) refl

pub shift_agree : (cs : List Column) (f : Field) (k : ℕ) (rest : List Field) → has cs f ≡ false → Agree cs (copies k f ++ rest) rest
shift_agree [] f k rest h = tt
shift_agree (c ∷ cs) f k rest h =
    let q = or_false (same_field c.field f) (has cs f) h in
    (times_copies c.field f k rest q.0, shift_agree cs f k rest q.1)

-- a column that is named isn't of a field that none of the columns has
pub column_other : (cs : List Column) (n : Text) (d : Column) (f : Field) → column_of cs n ≡ Some d → has cs f ≡ false → same_field d.field f ≡ false
column_other [] n d f is h = absurd cc
column_other (c ∷ cs) n d f is h = go (is_named c n) is (λ e. column_other cs n d f e (or_false (same_field c.field f) (has cs f) h).1)
  where
    go : (x : Bool) → cond x (Some c) (column_of cs n) ≡ Some d → (column_of cs n ≡ Some d → same_field d.field f ≡ false) → same_field d.field f ≡ false
    go true e ih = subst (λ (z : Column). same_field z.field f ≡ false) (some_column c d e) (or_false (same_field c.field f) (has cs f) h).0
    go false e ih = ih e

-- ---- the beginnings of filled columns

-- not more than a column allows
abbrev pub May : Often → ℕ → Type 0
May One k = k ≤ 1
May Optional k = k ≤ 1
May Any k = Unit {0}
May Many k = Unit {0}
May (Count m) k = k ≤ m

abbrev pub Begins : List Column → List Field → Type 0
Begins [] fs = fs ≡ []
Begins (c ∷ cs) fs = ((k : ℕ) × May c.often k × (fs ≡ copies k c.field)) ⊎ ((k : ℕ) × (rest : List Field) × Allows c.often k × (fs ≡ copies k c.field ++ rest) × Begins cs rest)

pub allows_may : (o : Often) (k : ℕ) → Allows o k → May o k
allows_may One k h = omega arith
allows_may Optional k h = h
allows_may Any k h = tt
allows_may Many k h = tt
allows_may (Count m) k h = omega arith

pub may_less : (o : Often) (j k : ℕ) → j ≤ k → May o k → May o j
may_less One j k l h = omega arith
may_less Optional j k l h = omega arith
may_less Any j k l h = tt
may_less Many j k l h = tt
may_less (Count m) j k l h = omega arith

pub may_more : (o : Often) (k : ℕ) → (is_single o && nat_lt 0 k) ≡ false → is_full o k ≡ false → May o (suc k)
may_more One k s f = grind (arith, nat_tests, s)
may_more Optional k s f = grind (arith, nat_tests, s)
may_more Any k s f = tt
may_more Many k s f = tt
may_more (Count m) k s f = grind (arith, nat_tests, f)

pub may_enough : (o : Often) (k : ℕ) → May o k → nat_lt k (least_count o) ≡ false → Allows o k
may_enough One k h l = grind (arith, nat_tests, l)
may_enough Optional k h l = h
may_enough Any k h l = tt
may_enough Many k h l = grind (arith, nat_tests, l)
may_enough (Count m) k h l = grind (arith, nat_tests, l)

pub allows_enough : (o : Often) (k more : ℕ) → Allows o k → nat_lt (k + more) (least_count o) ≡ false
allows_enough One k more h = grind (arith, nat_tests)
allows_enough Optional k more h = grind (arith, nat_tests)
allows_enough Any k more h = grind (arith, nat_tests)
allows_enough Many k more h = grind (arith, nat_tests)
allows_enough (Count m) k more h = grind (arith, nat_tests)

pub not_single : (o : Often) (j k : ℕ) → j < k → May o k → (is_single o && nat_lt 0 j) ≡ false
not_single One j k l h = grind (arith, nat_tests)
not_single Optional j k l h = grind (arith, nat_tests)
not_single Any j k l h = refl
not_single Many j k l h = refl
not_single (Count m) j k l h = refl

pub not_full : (o : Often) (j k : ℕ) → j < k → May o k → is_full o j ≡ false
not_full One j k l h = refl
not_full Optional j k l h = refl
not_full Any j k l h = refl
not_full Many j k l h = refl
not_full (Count m) j k l h = grind (arith, nat_tests)

may_none : (o : Often) → May o 0
may_none One = omega arith
may_none Optional = omega arith
may_none Any = tt
may_none Many = tt
may_none (Count m) = omega arith

pub begins_nothing : (cs : List Column) → Begins cs []
begins_nothing [] = refl
begins_nothing (c ∷ cs) = inl (zero, may_none c.often, refl)

-- a field of no column doesn't stand there
pub none_in : (cs : List Column) (f : Field) (fs : List Field) → has cs f ≡ false → Begins cs fs → times f fs ≡ 0
none_in [] f fs h b = rw b refl
none_in (c ∷ cs) f fs h b =
    let q = or_false (same_field c.field f) (has cs f) h in
    go q.0 (λ rest e. none_in cs f rest q.1 e) b
  where
    go : same_field c.field f ≡ false → ((rest : List Field) → Begins cs rest → times f rest ≡ 0) → Begins (c ∷ cs) fs → times f fs ≡ 0
    go q ih (inl h) = rw (h.2, ← append-nil (copies h.0 c.field)) (times_copies f c.field h.0 [] (same_turned c.field f q))
    go q ih (inr h) = rw h.3 (times_copies f c.field h.0 h.1 (same_turned c.field f q) ∙ ih h.1 h.4)

-- ---- a tag that fits

-- the machine finds nothing wrong with a tag of this column behind these fields
abbrev pub Fitting : List Column → List Field → Text → Column → Type 0
Fitting cs seen n d = (repeated cs seen n ≡ None) × (lacking (before_column cs n) seen ≡ None) × (is_full d.often (times d.field seen) ≡ false)

-- what is asked of a tag of the first column
abbrev pub FirstFits : Column → List Column → List Field → Type 0
FirstFits c cs seen = ((is_single c.often && nat_lt 0 (times c.field seen)) ≡ false) × (any_seen cs seen ≡ false) × (is_full c.often (times c.field seen) ≡ false)

first_faults : (a b : Bool) (f g : Fault) → cond a (Some f) (cond b (Some g) None) ≡ None → (a ≡ false) × (b ≡ false)
first_faults true b f g h = absurd cc
first_faults false true f g h = absurd cc
first_faults false false f g h = (refl, refl)

nothing_copied : (cs : List Column) (f : Field) (k : ℕ) → has cs f ≡ false → any_seen cs (copies k f) ≡ false
nothing_copied cs f k h = rw (← append-nil (copies k f)) (any_agree cs (copies k f ++ []) [] (shift_agree cs f k [] h) ∙ none_seen cs)
  where
    none_seen : (cs : List Column) → any_seen cs [] ≡ false
    none_seen [] = refl
    none_seen (c ∷ cs) = none_seen cs

-- fields of which none was seen are none
pub nothing_begun : (cs : List Column) (fs : List Field) → Begins cs fs → any_seen cs fs ≡ false → fs ≡ []
nothing_begun [] fs b h = b
nothing_begun (c ∷ cs) fs b h =
    let q = or_false (nat_lt 0 (times c.field fs)) (any_seen cs fs) h in
    go q.0 q.1 (λ rest e w. nothing_begun cs rest e w) b
  where
    no_copies : (k : ℕ) (f : Field) (rest : List Field) → nat_lt 0 (times f (copies k f ++ rest)) ≡ false → k ≡ 0
    no_copies k f rest w = grind (arith, nat_tests, w, times_own f k rest)

    go : nat_lt 0 (times c.field fs) ≡ false → any_seen cs fs ≡ false → ((rest : List Field) → Begins cs rest → any_seen cs rest ≡ false → rest ≡ []) → Begins (c ∷ cs) fs → fs ≡ []
    go z w ih (inl x) =
        let e : fs ≡ copies x.0 c.field ++ [] = x.2 ∙ sym (append-nil (copies x.0 c.field)) in
        let k : x.0 ≡ 0 = no_copies x.0 c.field [] (rw e at z) in
        x.2 ∙ ap (λ (i : ℕ). copies i c.field) k
    go z w ih (inr x) =
        let k : x.0 ≡ 0 = no_copies x.0 c.field x.1 (rw x.3 at z) in
        let e : fs ≡ x.1 = x.3 ∙ ap (λ (i : ℕ). copies i c.field ++ x.1) k in
        e ∙ ih x.1 x.4 (rw e at w)

own_more : (c : Column) (cs : List Column) (seen : List Field) → has cs c.field ≡ false → Begins (c ∷ cs) seen → FirstFits c cs seen → Begins (c ∷ cs) (seen ++ c.field ∷ [])
own_more c cs seen d b fit = go b
  where
    one_more : (k : ℕ) → seen ≡ copies k c.field → Begins (c ∷ cs) (seen ++ c.field ∷ [])
    one_more k e =
        let t : times c.field seen ≡ k = rw e (times_only c.field k) in
        inl (suc k, may_more c.often k (rw t at fit.0) (rw t at fit.2), rw e (copies_end k c.field))

    go : Begins (c ∷ cs) seen → Begins (c ∷ cs) (seen ++ c.field ∷ [])
    go (inl h) = one_more h.0 h.2
    go (inr h) =
        let w : any_seen cs h.1 ≡ false = sym (any_agree cs (copies h.0 c.field ++ h.1) h.1 (shift_agree cs c.field h.0 h.1 d)) ∙ subst (λ (x : List Field). any_seen cs x ≡ false) h.3 fit.1 in
        let e : h.1 ≡ [] = nothing_begun cs h.1 h.4 w in
        one_more h.0 (h.3 ∙ ap (λ (x : List Field). copies h.0 c.field ++ x) e ∙ append-nil (copies h.0 c.field))

own_fits : (c : Column) (cs : List Column) (seen : List Field) → has cs c.field ≡ false → Begins (c ∷ cs) (seen ++ c.field ∷ []) → FirstFits c cs seen
own_fits c cs seen d b = go b
  where
    fewer : (j k : ℕ) → seen ≡ copies j c.field → j < k → May c.often k → FirstFits c cs seen
    fewer j k e l m =
        let t : times c.field seen ≡ j = rw e (times_only c.field j) in
        (rw t (not_single c.often j k l m), rw e (nothing_copied cs c.field j d), rw t (not_full c.often j k l m))

    no_front : (front : List Field) (y : Field) → ◌≡◌ {A = List Field} [] (front ++ y ∷ []) → ⊥
    no_front [] y e = cc
    no_front (x ∷ front) y e = cc

    from_copies : (k : ℕ) → May c.often k → ((j : ℕ) × (seen ≡ copies j c.field) × (j < k) × (c.field ≡ c.field)) ⊎ ((front : List Field) × (seen ≡ copies k c.field ++ front) × ([] ≡ front ++ c.field ∷ [])) → FirstFits c cs seen
    from_copies k m (inl x) = fewer x.0 k x.1 x.2 m
    from_copies k m (inr x) = absurd (no_front x.0 c.field x.2)

    behind : (k : ℕ) (rest : List Field) → Allows c.often k → Begins cs rest → ((j : ℕ) × (seen ≡ copies j c.field) × (j < k) × (c.field ≡ c.field)) ⊎ ((front : List Field) × (seen ≡ copies k c.field ++ front) × (rest ≡ front ++ c.field ∷ [])) → FirstFits c cs seen
    behind k rest m b (inl x) = fewer x.0 k x.1 x.2 (allows_may c.often k m)
    behind k rest m b (inr x) =
        let z : times c.field rest ≡ 0 = none_in cs c.field rest d b in
        let o : times c.field rest ≡ times c.field x.0 + 1 = ap (times c.field) x.2 ∙ times_last c.field x.0 in
        absurd (omega arith)

    go : Begins (c ∷ cs) (seen ++ c.field ∷ []) → FirstFits c cs seen
    go (inl h) = from_copies h.0 h.1 (split h.0 c.field seen c.field [] [] (h.2 ∙ sym (append-nil (copies h.0 c.field))))
    go (inr h) = behind h.0 h.1 h.2 h.4 (split h.0 c.field seen c.field [] h.1 h.3)

-- behind a column that doesn't lack
pub past : (c : Column) (cs : List Column) (seen : List Field) → Begins (c ∷ cs) seen → lacks c seen ≡ false
    → (k : ℕ) × (rest : List Field) × Allows c.often k × (seen ≡ copies k c.field ++ rest) × Begins cs rest
past c cs seen (inl h) l =
    let t : times c.field seen ≡ h.0 = rw h.2 (times_only c.field h.0) in
    (h.0, [], may_enough c.often h.0 h.1 (rw t at l), h.2 ∙ sym (append-nil (copies h.0 c.field)), begins_nothing cs)
past c cs seen (inr h) l = h

never_lacks : (c : Column) (k : ℕ) (seen rest : List Field) → Allows c.often k → seen ≡ copies k c.field ++ rest → lacks c seen ≡ false
never_lacks c k seen rest a e = rw (e, times_own c.field k rest) (allows_enough c.often k (times c.field rest) a)

-- A tag that fits goes on with what was begun,
pub tag_begins : (cs : List Column) (seen : List Field) (n : Text) (d : Column) → distinct cs ≡ true → column_of cs n ≡ Some d → Begins cs seen → Fitting cs seen n d → Begins cs (seen ++ d.field ∷ [])
tag_begins [] seen n d u is b fit = absurd cc
tag_begins (c ∷ cs) seen n d u is b fit =
    let apart = no_true (has cs c.field) (distinct cs) u in
    go apart.0 (λ rest e w f. tag_begins cs rest n d apart.1 e w f) (is_named c n) is fit.0 fit.1
  where
    go : has cs c.field ≡ false → ((rest : List Field) → column_of cs n ≡ Some d → Begins cs rest → Fitting cs rest n d → Begins cs (rest ++ d.field ∷ [])) → (x : Bool) → cond x (Some c) (column_of cs n) ≡ Some d
        → cond x (cond (is_single c.often && nat_lt 0 (times c.field seen)) (Some (twice c.field)) (cond (any_seen cs seen) (Some (out_of_order c.field)) None)) (repeated cs seen n) ≡ None
        → lacking (cond x [] (c ∷ before_column cs n)) seen ≡ None → Begins (c ∷ cs) (seen ++ d.field ∷ [])
    go apart ih true e r l =
        let same : c ≡ d = some_column c d e in
        let f = first_faults (is_single c.often && nat_lt 0 (times c.field seen)) (any_seen cs seen) (twice c.field) (out_of_order c.field) r in
        subst (λ (z : Column). Begins (c ∷ cs) (seen ++ z.field ∷ [])) same
        (own_more c cs seen apart b (f.0, f.1, subst (λ (z : Column). is_full z.often (times z.field seen) ≡ false) (sym same) fit.2))
    go apart ih false e r l =
        let w = not_lacking c (before_column cs n) seen l in
        let p = past c cs seen b w.0 in
        let a : Agree cs seen p.1 = subst (λ (x : List Field). Agree cs x p.1) (sym p.3) (shift_agree cs c.field p.0 p.1 apart) in
        let t : times d.field seen ≡ times d.field p.1 = ap (times d.field) p.3 ∙ times_copies d.field c.field p.0 p.1 (column_other cs n d c.field e apart) in
        let next : Begins cs (p.1 ++ d.field ∷ []) = ih p.1 e p.4 (sym (repeated_agree cs seen p.1 n a) ∙ r, sym (before_agree cs seen p.1 n a) ∙ w.1, rw t at fit.2) in
        inr (p.0, p.1 ++ d.field ∷ [], p.2, ap (λ (x : List Field). x ++ d.field ∷ []) p.3 ∙ append_assoc (copies p.0 c.field) p.1 (d.field ∷ []), next)

-- and one that goes on with it fits.
pub begins_tag : (cs : List Column) (seen : List Field) (n : Text) (d : Column) → distinct cs ≡ true → column_of cs n ≡ Some d → Begins cs (seen ++ d.field ∷ []) → Fitting cs seen n d
begins_tag [] seen n d u is b = absurd cc
begins_tag (c ∷ cs) seen n d u is b =
    let apart = no_true (has cs c.field) (distinct cs) u in
    let f = go apart.0 (λ rest e w. begins_tag cs rest n d apart.1 e w) (is_named c n) is in
    f
  where
    other : has cs c.field ≡ false → column_of cs n ≡ Some d → d.field ≡ c.field → ⊥
    other apart e same =
        let p : same_field d.field c.field ≡ false = column_other cs n d c.field e apart in
        let q : same_field d.field c.field ≡ true = rw same (same_self c.field) in
        clash (same_field d.field c.field) q p
      where
        clash : (b : Bool) → b ≡ true → b ≡ false → ⊥
        clash b p q = cc

    no_front : (front : List Field) (y : Field) → ◌≡◌ {A = List Field} [] (front ++ y ∷ []) → ⊥
    no_front [] y e = cc
    no_front (x ∷ front) y e = cc

    later : has cs c.field ≡ false → column_of cs n ≡ Some d → ((rest : List Field) → column_of cs n ≡ Some d → Begins cs (rest ++ d.field ∷ []) → Fitting cs rest n d) → (k : ℕ) (rest : List Field) → Allows c.often k → Begins cs rest
        → ((j : ℕ) × (seen ≡ copies j c.field) × (j < k) × (d.field ≡ c.field)) ⊎ ((front : List Field) × (seen ≡ copies k c.field ++ front) × (rest ≡ front ++ d.field ∷ [])) → Fitting cs seen n d × (lacks c seen ≡ false)
    later apart e ih k rest m b (inl x) = absurd (other apart e x.3)
    later apart e ih k rest m b (inr x) =
        let a : Agree cs seen x.0 = subst (λ (z : List Field). Agree cs z x.0) (sym x.1) (shift_agree cs c.field k x.0 apart) in
        let t : times d.field seen ≡ times d.field x.0 = rw x.1 (times_copies d.field c.field k x.0 (column_other cs n d c.field e apart)) in
        let f = ih x.0 e (rw x.2 at b) in
        ((repeated_agree cs seen x.0 n a ∙ f.0, before_agree cs seen x.0 n a ∙ f.1, rw t f.2), never_lacks c k seen x.0 m x.1)

    first_later : has cs c.field ≡ false → column_of cs n ≡ Some d → ((rest : List Field) → column_of cs n ≡ Some d → Begins cs (rest ++ d.field ∷ []) → Fitting cs rest n d) → Begins (c ∷ cs) (seen ++ d.field ∷ []) → Fitting cs seen n d × (lacks c seen ≡ false)
    first_later apart e ih (inl h) = absurd (go (split h.0 c.field seen d.field [] [] (h.2 ∙ sym (append-nil (copies h.0 c.field)))))
      where
        go : ((j : ℕ) × (seen ≡ copies j c.field) × (j < h.0) × (d.field ≡ c.field)) ⊎ ((front : List Field) × (seen ≡ copies h.0 c.field ++ front) × ([] ≡ front ++ d.field ∷ [])) → ⊥
        go (inl x) = other apart e x.3
        go (inr x) = no_front x.0 d.field x.2
    first_later apart e ih (inr h) = later apart e ih h.0 h.1 h.2 h.4 (split h.0 c.field seen d.field [] h.1 h.3)

    go : has cs c.field ≡ false → ((rest : List Field) → column_of cs n ≡ Some d → Begins cs (rest ++ d.field ∷ []) → Fitting cs rest n d) → (x : Bool) → cond x (Some c) (column_of cs n) ≡ Some d
        → (cond x (cond (is_single c.often && nat_lt 0 (times c.field seen)) (Some (twice c.field)) (cond (any_seen cs seen) (Some (out_of_order c.field)) None)) (repeated cs seen n) ≡ None)
        × (lacking (cond x [] (c ∷ before_column cs n)) seen ≡ None) × (is_full d.often (times d.field seen) ≡ false)
    go apart ih true e =
        let same : c ≡ d = some_column c d e in
        let f = own_fits c cs seen apart (subst (λ (z : Column). Begins (c ∷ cs) (seen ++ z.field ∷ [])) (sym same) b) in
        (rw (f.0, f.1) refl, refl, subst (λ (z : Column). is_full z.often (times z.field seen) ≡ false) same f.2)
    go apart ih false e =
        let f = first_later apart e ih b in
        (f.0.0, rw (f.1, f.0.1) refl, f.0.2)

-- What was begun is filled where nothing lacks,
pub nothing_lacks : (cs : List Column) (seen : List Field) → distinct cs ≡ true → Begins cs seen → lacking cs seen ≡ None → IsFilled cs seen
nothing_lacks [] seen u b l = b
nothing_lacks (c ∷ cs) seen u b l =
    let apart = no_true (has cs c.field) (distinct cs) u in
    let w = not_lacking c cs seen l in
    let p = past c cs seen b w.0 in
    let a : Agree cs seen p.1 = subst (λ (x : List Field). Agree cs x p.1) (sym p.3) (shift_agree cs c.field p.0 p.1 apart.0) in
    (p.0, p.1, p.2, p.3, nothing_lacks cs p.1 apart.1 p.4 (sym (lacking_agree cs seen p.1 a) ∙ w.1))

-- and in what is filled nothing lacks.
pub filled_ends : (cs : List Column) (seen : List Field) → distinct cs ≡ true → IsFilled cs seen → lacking cs seen ≡ None
filled_ends [] seen u h = refl
filled_ends (c ∷ cs) seen u h =
    let apart = no_true (has cs c.field) (distinct cs) u in
    let a : Agree cs seen h.1 = subst (λ (x : List Field). Agree cs x h.1) (sym h.3) (shift_agree cs c.field h.0 h.1 apart.0) in
    rw (never_lacks c h.0 seen h.1 h.2 h.3, lacking_agree cs seen h.1 a) (filled_ends cs h.1 apart.1 h.4)

-- A front of what is filled begins it.
pub front_begins : (cs : List Column) (fs more : List Field) → IsFilled cs (fs ++ more) → Begins cs fs
front_begins [] fs more h = nothing fs h
  where
    nothing : (fs : List Field) → fs ++ more ≡ [] → fs ≡ []
    nothing [] e = refl
    nothing (f ∷ fs) e = absurd cc
front_begins (c ∷ cs) fs more h = go (λ front e. front_begins cs front more e) (cut h.0 c.field fs more h.1 h.3)
  where
    go : ((front : List Field) → IsFilled cs (front ++ more) → Begins cs front) → ((j : ℕ) × (fs ≡ copies j c.field) × (j ≤ h.0)) ⊎ ((front : List Field) × (fs ≡ copies h.0 c.field ++ front) × (h.1 ≡ front ++ more)) → Begins (c ∷ cs) fs
    go ih (inl x) = inl (x.0, may_less c.often x.0 h.0 x.2 (allows_may c.often h.0 h.2), x.1)
    go ih (inr x) = inr (h.0, x.0, h.2, x.1, ih x.0 (rw x.2 at h.4))

-- More columns may follow.
pub begins_more : (cs ds : List Column) (fs : List Field) → Begins cs fs → Begins (cs ++ ds) fs
begins_more [] ds fs b = rw b (begins_nothing ds)
begins_more (c ∷ cs) ds fs (inl h) = inl h
begins_more (c ∷ cs) ds fs (inr h) = inr (h.0, h.1, h.2, h.3, begins_more cs ds h.1 h.4)
