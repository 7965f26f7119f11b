-- The words of fields, by their lengths.
use Rattle.std.proofs.Common.{◌≡◌, Bool, true, false, cond, [], ◌∷◌, length, Some, None, refl, sym, subst, ap, arith, ◌⊎◌, inl, inr}
use Rattle.std.specs.Prelude.{codes}
use Rattle.mos_fields.specs.Characters.{Text}
use Rattle.mos_fields.specs.Fields.{same}
use Rattle.mos_fields.specs.Forms.{reads, trimmed, among}
use Rattle.mos_fields.specs.declared.form.Form.TheVariants as forms
use Rattle.mos_fields.proofs.WordLemmas.{same_is}
use Rattle.mos_cursor.proofs.Forms.{only_if_some}

one_of_two : (x v w : Text) → among x (v ∷ w ∷ []) ≡ true → (x ≡ v) ⊎ (x ≡ w)
one_of_two x v w h = go (same x v) refl h
  where
    second : (b : Bool) → same x w ≡ b → cond b true false ≡ true → x ≡ w
    second true e h = same_is x w e
    second false e h = absurd cc

    go : (b : Bool) → same x v ≡ b → cond b true (cond (same x w) true false) ≡ true → (x ≡ v) ⊎ (x ≡ w)
    go true e h = inl (same_is x v e)
    go false e h = inr (second (same x w) refl h)

word_of_two : (x v w : Text) → cond (among (trimmed x) (v ∷ w ∷ [])) (Some (trimmed x)) None ≡ Some x → (x ≡ v) ⊎ (x ≡ w)
word_of_two x v w h =
    let p = only_if_some (among (trimmed x) (v ∷ w ∷ [])) (trimmed x) x h in
    one_of_two x v w (subst (λ (z : Text). among z (v ∷ w ∷ []) ≡ true) p.1 p.0)

ack_word : (x : Text) → reads forms.AckWord [] x ≡ Some x → (x ≡ codes "ACK") ⊎ (x ≡ codes "NACK")
unfolding reads
ack_word x h = word_of_two x (codes "ACK") (codes "NACK") h

pub answer_word : (x : Text) → reads forms.Profile [] x ≡ Some x → (x ≡ codes "YES") ⊎ (x ≡ codes "NO")
unfolding reads
answer_word x h = word_of_two x (codes "YES") (codes "NO") h

pub is_ack : (x : Text) → reads forms.AckWord [] x ≡ Some x → length x ≡ 3 → codes "ACK" ≡ x
is_ack x h n = elim (ack_word x h) [ inl p ↦ sym p | inr p ↦ (let q : length x ≡ 4 = ap length p in absurd (omega (arith, q, n))) ]

pub is_nack : (x : Text) → reads forms.AckWord [] x ≡ Some x → (length x ≡ 3 → ⊥) → codes "NACK" ≡ x
is_nack x h n = elim (ack_word x h) [ inl p ↦ absurd (n (ap length p)) | inr p ↦ sym p ]

pub is_yes : (x : Text) → reads forms.Profile [] x ≡ Some x → length x ≡ 3 → codes "YES" ≡ x
is_yes x h n = elim (answer_word x h) [ inl p ↦ sym p | inr p ↦ (let q : length x ≡ 2 = ap length p in absurd (omega (arith, q, n))) ]

pub is_no : (x : Text) → reads forms.Profile [] x ≡ Some x → (length x ≡ 3 → ⊥) → codes "NO" ≡ x
is_no x h n = elim (answer_word x h) [ inl p ↦ absurd (n (ap length p)) | inr p ↦ sym p ]
