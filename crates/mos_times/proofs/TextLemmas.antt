-- Plain times as texts and as code units.
use Rattle.std.proofs.Common.{◌≡◌, ℕ, ◌≤◌, Bool, true, false, cond, eqb, leb, [], ◌∷◌, ◌++◌, reverse, take, Option, Some, None, codes, refl, sym, ap, ◌∙◌, arith}
use Rattle.std.specs.Prelude.{IfSome, IfNone, is_some}
use Rattle.std.specs.List.{list_all}
use Rattle.std.proofs.lemmas.Bool.{and_parts, eqb-true, leb-true, le-leb}
use Rattle.mos_fields.specs.declared.form.Form.TheVariants as forms
use Rattle.mos_fields.specs.declared.time.MosTime.{MosTime}
use Rattle.mos_fields.specs.Characters.{Text, are_allowed, chars_of, units_of}
use Rattle.mos_fields.specs.Forms.{fits, is_digit, is_space, is_time, behind_white, before_white, trimmed, reads, only_if}
use Rattle.mos_fields.specs.Values.{time_text}
use Rattle.mos_fields.proofs.CharacterLemmas.{chars_of-nil, chars_of-lone, chars_of-units_of, one_unit, not_high-low}
use Rattle.std.proofs.lemmas.List.{reverse-append, reverse-reverse, take-append-drop}
use Rattle.mos_times.proofs.PlainLemmas.{ends}
use Rattle.mos_times.specs.Plain.{IsPlainRead, is_plain}

abbrev is_ascii : ℕ → Bool
is_ascii c = leb c 127

abbrev are_ascii : Text → Bool
are_ascii x = list_all is_ascii x

ascii_here : (p c : ℕ) (b : Bool) → eqb p 48 ≡ b → is_ascii p ≡ true → cond (eqb p 48) (is_digit c) (eqb p c) ≡ true → is_ascii c ≡ true
ascii_here p c true e f g =
    let d : is_digit c ≡ true = rw e at g in
    let h : c ≤ 57 = leb-true c 57 (and_parts (leb 48 c) (leb c 57) d).1 in
    le-leb c 127 (omega arith)
ascii_here p c false e f g =
    let d : eqb p c ≡ true = rw e at g in
    ap is_ascii (sym (eqb-true p c d)) ∙ f

-- what fits a pattern of ASCII is ASCII
ascii_as_pattern : (p x : Text) → are_ascii p ≡ true → fits p x ≡ true → are_ascii x ≡ true
ascii_as_pattern [] [] e f = refl
ascii_as_pattern [] (c ∷ x) e f = absurd (cc)
ascii_as_pattern (d ∷ p) [] e f = absurd (cc)
ascii_as_pattern (d ∷ p) (c ∷ x) e f =
    let q = and_parts (is_ascii d) (are_ascii p) e in
    let r = and_parts (cond (eqb d 48) (is_digit c) (eqb d c)) (fits p x) f in
    rw (ascii_here d c (eqb d 48) refl q.0 r.0) (ascii_as_pattern p x q.1 r.1)

plain_parts : (x : Text) → is_plain x ≡ true → (fits (codes "0000-00-00T00:00:00Z") x ≡ true) × (is_time x ≡ true)
unfolding is_plain
plain_parts x e = and_parts (fits (codes "0000-00-00T00:00:00Z") x) (is_time x) e

plain_ascii : (x : Text) → is_plain x ≡ true → are_ascii x ≡ true
plain_ascii x e = ascii_as_pattern (codes "0000-00-00T00:00:00Z") x refl (plain_parts x e).0

ascii_units : (x : Text) → are_ascii x ≡ true → units_of x ≡ x
ascii_units [] e = refl
ascii_units (c ∷ x) e =
    let p = and_parts (is_ascii c) (are_ascii x) e in
    let h : c ≤ 127 = leb-true c 127 p.0 in
    ap (λ y. y ++ units_of x) (one_unit c (omega arith)) ∙ ap (λ y. c ∷ y) (ascii_units x p.1)

ascii_chars : (x : Text) → are_ascii x ≡ true → chars_of x ≡ x
ascii_chars [] e = chars_of-nil
ascii_chars (c ∷ x) e =
    let p = and_parts (is_ascii c) (are_ascii x) e in
    let h : c ≤ 127 = leb-true c 127 p.0 in
    chars_of-lone c x (not_high-low c (omega arith)) ∙ ap (λ y. c ∷ y) (ascii_chars x p.1)

-- code units that are a plain time are the text themselves
units_plain : (x us : Text) → us ≡ units_of x → are_allowed x ≡ true → is_plain us ≡ true → us ≡ x
units_plain x us e a p = sym (ascii_chars us (plain_ascii us p)) ∙ (ap chars_of e ∙ chars_of-units_of x a)

text_plain : (x us : Text) → us ≡ units_of x → is_plain x ≡ true → us ≡ x
text_plain x us e p = e ∙ ascii_units x (plain_ascii x p)

lost_text : (x us : Text) (b : Bool) → us ≡ units_of x → is_plain us ≡ false → is_plain x ≡ b → false ≡ b
lost_text x us true e f p = absurd (let no : is_plain us ≡ true = ap is_plain (text_plain x us e p) ∙ p in cc)
lost_text x us false e f p = refl

pub text_found : (x us : Text) (r : Option MosTime) → us ≡ units_of x → are_allowed x ≡ true → IfSome r (IsPlainRead us) → IfSome r (λ t. time_text t ≡ x)
text_found x us None e a f = tt
text_found x us (Some t) e a f = f.written ∙ units_plain x us e a f.plain

pub text_told : (x us : Text) (r : Option MosTime) → us ≡ units_of x → are_allowed x ≡ true → IfSome r (IsPlainRead us) → IfNone r (is_plain us ≡ false) → is_some r ≡ is_plain x
text_told x us None e a f g = lost_text x us (is_plain x) e g refl
text_told x us (Some t) e a f g = sym (ap is_plain (sym (units_plain x us e a f.plain)) ∙ f.plain)

-- ---- how it is read

no_space : (c : ℕ) → is_digit c ≡ true → is_space c ≡ false
no_space c e =
    let p = and_parts (leb 48 c) (leb c 57) e in
    let h : 48 ≤ c = leb-true 48 c p.0 in
    grind (arith)

digit_first : (y1 : ℕ) (x : Text) → fits (codes "0000-00-00T00:00:00Z") (y1 ∷ x) ≡ true → behind_white (y1 ∷ x) ≡ y1 ∷ x
digit_first y1 x e = rw (no_space y1 (and_parts (is_digit y1) (fits (codes "000-00-00T00:00:00Z") x) e).0) refl

-- there is no white space round it
pattern_trimmed : (x : Text) → fits (codes "0000-00-00T00:00:00Z") x ≡ true → trimmed x ≡ x
pattern_trimmed [] e = absurd (cc)
pattern_trimmed (y1 ∷ x) e = ap before_white (digit_first y1 x e) ∙ last_stays (take 19 (y1 ∷ x)) (y1 ∷ x) (sym (ap (λ y. take 19 (y1 ∷ x) ++ y) (ends (y1 ∷ x) e)) ∙ take-append-drop 19 (y1 ∷ x))
  where
    last_stays : (front x : Text) → front ++ codes "Z" ≡ x → before_white x ≡ x
    last_stays front x e =
        let r : reverse x ≡ 90 ∷ reverse front = ap reverse (sym e) ∙ reverse-append front (codes "Z") in
        ap (λ y. reverse (behind_white y)) r ∙ (ap reverse (sym r) ∙ reverse-reverse x)

-- a plain time is kept as it is
pub plain_kept : (x : Text) → is_plain x ≡ true → Some x ≡ reads forms.Time [] x
unfolding reads
plain_kept x e =
    let p = plain_parts x e in
    let t = pattern_trimmed x p.0 in
    sym (ap (λ y. only_if (is_time y) y) t ∙ ap (λ b. only_if b x) p.1)
