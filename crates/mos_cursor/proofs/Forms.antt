-- A canonical text is read as itself.
use Rattle.std.proofs.Common.{◌≡◌, ℕ, ◌+◌, ◌*◌, ◌≤◌, Bool, true, false, cond, List, [], ◌∷◌, ◌++◌, length, reverse, Some, refl, sym, ap, subst, ◌∙◌, arith}
use Rattle.std.specs.Prelude.{◌&&◌, nat_le, ◌==◌, not, codes, eqb, ◌-◌}
use Rattle.std.specs.List.{list_all}
use Rattle.std.proofs.lemmas.Bool.{eqb-true, le-leb, leb-true}
use Rattle.std.proofs.lemmas.List.{reverse-append, reverse-reverse}
use Rattle.mos_fields.specs.Characters.{Text}
use Rattle.mos_fields.specs.declared.form.Form.{Form}
use Rattle.mos_fields.specs.declared.form.Form.TheVariants as forms
use Rattle.mos_fields.specs.References.{is_digit, number_from, number_in}
use Rattle.mos_fields.specs.Raw.{is_empty, is_space}
use Rattle.mos_fields.specs.Forms.{among, behind_white, trimmed, is_digits, shortest_digits, is_time, only_if, at_most, number_up_to, reads}

-- ---- white space

abbrev head_space : Text → Bool
head_space [] = false
head_space (c ∷ cs) = is_space c

-- the white space at the front
front : (x : Text) → (w : Text) × (x ≡ w ++ behind_white x)
front [] = ([], refl)
front (c ∷ cs) = go (is_space c) (front cs)
  where
    go : (b : Bool) → (w : Text) × (cs ≡ w ++ behind_white cs) → (w : Text) × (c ∷ cs ≡ w ++ cond b (behind_white cs) (c ∷ cs))
    go true p = (c ∷ p.0, ap (λ (z : Text). c ∷ z) p.1)
    go false p = ([], refl)

head_behind : (x : Text) → head_space (behind_white x) ≡ false
head_behind [] = refl
head_behind (c ∷ cs) = go (is_space c) refl (head_behind cs)
  where
    go : (b : Bool) → is_space c ≡ b → head_space (behind_white cs) ≡ false → head_space (cond b (behind_white cs) (c ∷ cs)) ≡ false
    go true e ih = ih
    go false e ih = e

solid : (x : Text) → head_space x ≡ false → behind_white x ≡ x
solid [] h = refl
solid (c ∷ cs) h = rw h refl

-- a front of a text without white space at its front
front_solid : (x y : Text) → head_space (x ++ y) ≡ false → head_space x ≡ false
front_solid [] y h = refl
front_solid (c ∷ cs) y h = h

pub trimmed_trimmed : (x : Text) → trimmed (trimmed x) ≡ trimmed x
trimmed_trimmed x =
    let z : Text = behind_white x in
    let b : Text = behind_white (reverse z) in
    let p : (w : Text) × (reverse z ≡ w ++ b) = front (reverse z) in
    let q : z ≡ reverse b ++ reverse p.0 = sym (reverse-reverse z) ∙ ap reverse p.1 ∙ reverse-append p.0 b in
    let s : head_space (reverse b) ≡ false = front_solid (reverse b) (reverse p.0) (subst (λ (v : Text). head_space v ≡ false) q (head_behind x)) in
    let t : behind_white (reverse b) ≡ reverse b = solid (reverse b) s in
    let u : behind_white b ≡ b = solid b (head_behind (reverse z)) in
    ap (λ (v : Text). reverse (behind_white (reverse v))) t ∙ ap (λ (v : Text). reverse (behind_white v)) (reverse-reverse b) ∙ ap reverse u

-- ---- digits

pub both : (a b : Bool) → (a && b) ≡ true → (a ≡ true) × (b ≡ true)
both true true h = (refl, refl)
both true false h = absurd cc
both false b h = absurd cc

both_back : (a b : Bool) → a ≡ true → b ≡ true → (a && b) ≡ true
both_back true true h k = refl
both_back true false h k = absurd cc
both_back false b h k = absurd cc

not_eqb : (a b : ℕ) → (a ≡ b → ⊥) → eqb a b ≡ false
not_eqb a b n = go (eqb a b) refl
  where
    go : (v : Bool) → eqb a b ≡ v → v ≡ false
    go true e = absurd (n (eqb-true a b e))
    go false e = refl

digit_solid : (c : ℕ) → is_digit c ≡ true → is_space c ≡ false
digit_solid c h =
    let p = both (nat_le 48 c) (nat_le c 57) h in
    let low : 48 ≤ c = leb-true 48 c p.0 in
    rw (not_eqb c 32 (λ e. omega arith), not_eqb c 9 (λ e. omega arith), not_eqb c 10 (λ e. omega arith), not_eqb c 13 (λ e. omega arith)) refl

all_append : (p : ℕ → Bool) (x y : Text) → list_all p x ≡ true → list_all p y ≡ true → list_all p (x ++ y) ≡ true
all_append p [] y h k = k
all_append p (c ∷ cs) y h k = let q = both (p c) (list_all p cs) h in both_back (p c) (list_all p (cs ++ y)) q.0 (all_append p cs y q.1 k)

all_reverse : (p : ℕ → Bool) (x : Text) → list_all p x ≡ true → list_all p (reverse x) ≡ true
all_reverse p [] h = refl
all_reverse p (c ∷ cs) h =
    let q = both (p c) (list_all p cs) h in
    subst (λ (z : Text). list_all p z ≡ true) (sym (reverse-append (c ∷ []) cs)) (all_append p (reverse cs) (c ∷ []) (all_reverse p cs q.1) (both_back (p c) true q.0 refl))

digits_solid : (x : Text) → is_digits x ≡ true → behind_white x ≡ x
digits_solid [] h = refl
digits_solid (c ∷ cs) h = rw (digit_solid c (both (is_digit c) (is_digits cs) h).0) refl

digits_trimmed : (x : Text) → is_digits x ≡ true → trimmed x ≡ x
digits_trimmed x h =
    ap (λ (v : Text). reverse (behind_white (reverse v))) (digits_solid x h) ∙ ap reverse (digits_solid (reverse x) (all_reverse is_digit x h)) ∙ reverse-reverse x

-- a zero in front of further digits
abbrev is_leading : ℕ → Text → Bool
is_leading c cs = (c == 48) && not (is_empty cs)

leading_zero : (c : ℕ) (cs : Text) → is_leading c cs ≡ true → (c ≡ 48) × (is_empty cs ≡ false)
leading_zero c [] h = let p = both (c == 48) false h in absurd (let q = p.1 in cc)
leading_zero c (d ∷ cs) h = let p = both (c == 48) true h in (eqb-true c 48 p.0, refl)

shortest_is_digits : (x : Text) → is_digits x ≡ true → is_digits (shortest_digits x) ≡ true
shortest_is_digits [] h = refl
shortest_is_digits (c ∷ cs) h = go (is_leading c cs) (shortest_is_digits cs (both (is_digit c) (is_digits cs) h).1)
  where
    go : (b : Bool) → is_digits (shortest_digits cs) ≡ true → is_digits (cond b (shortest_digits cs) (c ∷ cs)) ≡ true
    go true ih = ih
    go false ih = h

shortest_number : (x : Text) → number_in (shortest_digits x) ≡ number_in x
shortest_number [] = refl
shortest_number (c ∷ cs) = go (is_leading c cs) refl (shortest_number cs)
  where
    go : (b : Bool) → is_leading c cs ≡ b → number_in (shortest_digits cs) ≡ number_in cs → number_in (cond b (shortest_digits cs) (c ∷ cs)) ≡ number_in (c ∷ cs)
    go true e ih = ih ∙ sym (ap (λ k. number_from (0 * 10 + (k - 48)) cs) (leading_zero c cs e).0)
    go false e ih = refl

shortest_length : (x : Text) → length (shortest_digits x) ≤ length x
shortest_length [] = omega arith
shortest_length (c ∷ cs) = go (is_leading c cs) (shortest_length cs)
  where
    go : (b : Bool) → length (shortest_digits cs) ≤ length cs → length (cond b (shortest_digits cs) (c ∷ cs)) ≤ length (c ∷ cs)
    go true ih = omega arith
    go false ih = omega arith

shortest_some : (x : Text) → is_empty x ≡ false → is_empty (shortest_digits x) ≡ false
shortest_some [] h = h
shortest_some (c ∷ cs) h = go (is_leading c cs) refl (shortest_some cs)
  where
    go : (b : Bool) → is_leading c cs ≡ b → (is_empty cs ≡ false → is_empty (shortest_digits cs) ≡ false) → is_empty (cond b (shortest_digits cs) (c ∷ cs)) ≡ false
    go true e ih = ih (leading_zero c cs e).1
    go false e ih = refl

shortest_shortest : (x : Text) → shortest_digits (shortest_digits x) ≡ shortest_digits x
shortest_shortest [] = refl
shortest_shortest (c ∷ cs) = go (is_leading c cs) refl (shortest_shortest cs)
  where
    go : (b : Bool) → is_leading c cs ≡ b → shortest_digits (shortest_digits cs) ≡ shortest_digits cs → shortest_digits (cond b (shortest_digits cs) (c ∷ cs)) ≡ cond b (shortest_digits cs) (c ∷ cs)
    go true e ih = ih
    go false e ih = rw e refl

some_length : (x : Text) → nat_le 1 (length x) ≡ true → is_empty x ≡ false
some_length [] h = absurd (omega (arith, leb-true 1 0 h))
some_length (c ∷ cs) h = refl

length_some : (x : Text) → is_empty x ≡ false → nat_le 1 (length x) ≡ true
length_some [] h = absurd cc
length_some (c ∷ cs) h = le-leb 1 (length (c ∷ cs)) (omega arith)

pub only_if_some : (b : Bool) (x y : Text) → only_if b x ≡ Some y → (b ≡ true) × (x ≡ y)
only_if_some true x y h = (refl, cc)
only_if_some false x y h = absurd cc

number_again : (k most : ℕ) (x y : Text) → number_up_to k most (trimmed x) ≡ Some y → number_up_to k most (trimmed y) ≡ Some y
number_again k most x y h =
    let z : Text = trimmed x in
    let p = only_if_some (nat_le 1 (length z) && at_most k z && is_digits z && nat_le (number_in z) most) (shortest_digits z) y h in
    let a = both (nat_le 1 (length z) && at_most k z && is_digits z) (nat_le (number_in z) most) p.0 in
    let b = both (nat_le 1 (length z) && at_most k z) (is_digits z) a.0 in
    let c = both (nat_le 1 (length z)) (at_most k z) b.0 in
    let w : Text = shortest_digits z in
    let d : is_digits w ≡ true = shortest_is_digits z b.1 in
    let e : at_most k w ≡ true = le-leb (length w) k (omega (arith, shortest_length z, leb-true (length z) k c.1)) in
    let f : nat_le 1 (length w) ≡ true = length_some w (shortest_some z (some_length z c.0)) in
    let g : nat_le (number_in w) most ≡ true = rw (shortest_number z) a.1 in
    let i : number_up_to k most w ≡ Some w = rw (f, e, d, g) (ap Some (shortest_shortest z)) in
    let P : Text → Type 0 = λ v. number_up_to k most (trimmed v) ≡ Some v in
    subst P p.1 (rw (digits_trimmed w d) i)

-- ---- the types

words_again : (ws : List Text) (x y : Text) → only_if (among (trimmed x) ws) (trimmed x) ≡ Some y → only_if (among (trimmed y) ws) (trimmed y) ≡ Some y
words_again ws x y h =
    let p = only_if_some (among (trimmed x) ws) (trimmed x) y h in
    let P : Text → Type 0 = λ v. only_if (among (trimmed v) ws) (trimmed v) ≡ Some v in
    subst P p.1 (rw (trimmed_trimmed x, p.0) refl)

same_again : (p : Text → Bool) (x y : Text) → only_if (p x) x ≡ Some y → only_if (p y) y ≡ Some y
same_again p x y h =
    let q = only_if_some (p x) x y h in
    let P : Text → Type 0 = λ v. only_if (p v) v ≡ Some v in
    subst P q.1 (rw q.0 refl)

-- without the keys taken
key_again : (a : Bool) (b : Bool) (x y : Text) → only_if (a && not b) x ≡ Some y → only_if (a && not false) x ≡ Some y
key_again true true x y h = absurd cc
key_again true false x y h = h
key_again false b x y h = absurd cc

pub reads_again : (form : Form) (taken : List Text) (x y : Text) → reads form taken x ≡ Some y → reads form [] y ≡ Some y
unfolding reads
reads_again forms.Id taken x y h = same_again (λ v. nat_le 1 (length v) && at_most 128 v) x y h
reads_again forms.Key taken x y h =
    same_again (λ v. nat_le 1 (length v) && at_most 128 v && not false) x y (key_again (nat_le 1 (length x) && at_most 128 x) (among x taken) x y h)
reads_again forms.OptId taken x y h = same_again (λ v. at_most 128 v) x y h
reads_again forms.Slug taken x y h = same_again (λ v. at_most 1024 v) x y h
reads_again forms.Text taken x y h = refl
reads_again forms.Samples taken x y h = number_again 10 4294967295 x y h
reads_again forms.Rev taken x y h = number_again 3 999 x y h
reads_again forms.Time taken x y h =
    let p = only_if_some (is_time (trimmed x)) (trimmed x) y h in
    let P : Text → Type 0 = λ v. only_if (is_time (trimmed v)) (trimmed v) ≡ Some v in
    subst P p.1 (rw (trimmed_trimmed x, p.0) refl)
reads_again forms.Air taken x y h = words_again (codes "READY" ∷ codes "NOT READY" ∷ []) x y h
reads_again forms.ObjType taken x y h = words_again (codes "STILL" ∷ codes "AUDIO" ∷ codes "VIDEO" ∷ codes "OTHER" ∷ []) x y h
reads_again forms.AckWord taken x y h = words_again (codes "ACK" ∷ codes "NACK" ∷ []) x y h
reads_again forms.Profile taken x y h = words_again (codes "YES" ∷ codes "NO" ∷ []) x y h

-- the key is none of those taken
pub key_is_fresh : (taken : List Text) (x y : Text) → reads forms.Key taken x ≡ Some y → among y taken ≡ false
unfolding reads
key_is_fresh taken x y h =
    let p = only_if_some (nat_le 1 (length x) && at_most 128 x && not (among x taken)) x y h in
    let q = both (nat_le 1 (length x) && at_most 128 x) (not (among x taken)) p.0 in
    subst (λ (v : Text). among v taken ≡ false) p.1 (turned (among x taken) q.1)
  where
    turned : (b : Bool) → not b ≡ true → b ≡ false
    turned true h = absurd cc
    turned false h = refl
