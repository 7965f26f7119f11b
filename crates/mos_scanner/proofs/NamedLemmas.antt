-- References by name, character after character.
use Rattle.std.proofs.Common.{◌≡◌, ℕ, Bool, true, false, cond, [], ◌∷◌, ◌++◌, refl, sym, subst, lit≤}
use Rattle.std.specs.Prelude.{codes, ◌==◌}
use Rattle.std.proofs.lemmas.Bool.{eqb-true}
use Rattle.mos_fields.specs.Characters.{Text}
use Rattle.mos_fields.specs.References.{reference_of, begins_reference}
use Rattle.mos_scanner.specs.References.{IsReference, IsBeginning, IsNoBeginning, IsReferred}
use Rattle.mos_scanner.specs.declared.reference.Reference.{Reference}
use Rattle.mos_scanner.specs.declared.reference.Reference.TheVariants.{L, Lt, G, Gt, A, Am, Amp, Ap, Apo, Apos, Q, Qu, Quo, Quot, Decimal}
use Rattle.mos_scanner.specs.declared.reference.Referred.{Referred}
use Rattle.mos_scanner.specs.declared.reference.Referred.TheVariants.{Found, Begun, Never}

-- one character goes on, and no other
goes_on : (x : Text) (a : ℕ) (r : Reference) → IsBeginning r (x ++ a ∷ []) → ((c : ℕ) → (c == a) ≡ false → IsNoBeginning (x ++ c ∷ []))
    → (m : Text) → m ≡ x → (c : ℕ) (out : Referred) → out ≡ cond (c == a) (Begun r) Never → IsReferred out (m ++ c ∷ [])
goes_on x a r b n m e c out o = subst (λ z. IsReferred out (z ++ c ∷ [])) (sym e) (subst (λ z. IsReferred z (x ++ c ∷ [])) (sym o) (go (c == a) refl))
  where
    go : (t : Bool) → (c == a) ≡ t → IsReferred (cond t (Begun r) Never) (x ++ c ∷ [])
    go true h = subst (λ z. IsBeginning r (x ++ z ∷ [])) (sym (eqb-true c a h)) b
    go false h = n c h

-- `;` ends the reference, and nothing else goes on
ends : (x : Text) (d : ℕ) → IsReference (x ++ 59 ∷ []) d → ((c : ℕ) → (c == 59) ≡ false → IsNoBeginning (x ++ c ∷ []))
    → (m : Text) → m ≡ x → (c : ℕ) (out : Referred) → out ≡ cond (c == 59) (Found d) Never → IsReferred out (m ++ c ∷ [])
ends x d b n m e c out o = subst (λ z. IsReferred out (z ++ c ∷ [])) (sym e) (subst (λ z. IsReferred z (x ++ c ∷ [])) (sym o) (go (c == 59) refl))
  where
    go : (t : Bool) → (c == 59) ≡ t → IsReferred (cond t (Found d) Never) (x ++ c ∷ [])
    go true h = subst (λ z. IsReference (x ++ z ∷ []) d) (sym (eqb-true c 59 h)) b
    go false h = n c h

pub after_l : (m : Text) → m ≡ codes "l" → (c : ℕ) (out : Referred) → out ≡ cond (c == 116) (Begun Lt) Never → IsReferred out (m ++ c ∷ [])
unfolding reference_of begins_reference
after_l m e c out o = goes_on (codes "l") 116 Lt (record { not = refl; begins = refl; ascii = refl; at = refl; bounded = tt }) (λ b h. record { not = rw h refl; begins = rw h refl }) m e c out o

pub after_lt : (m : Text) → m ≡ codes "lt" → (c : ℕ) (out : Referred) → out ≡ cond (c == 59) (Found 60) Never → IsReferred out (m ++ c ∷ [])
unfolding reference_of begins_reference
after_lt m e c out o = ends (codes "lt") 60 (record { is = refl; allowed = refl }) (λ b h. record { not = rw h refl; begins = rw h refl }) m e c out o

pub after_g : (m : Text) → m ≡ codes "g" → (c : ℕ) (out : Referred) → out ≡ cond (c == 116) (Begun Gt) Never → IsReferred out (m ++ c ∷ [])
unfolding reference_of begins_reference
after_g m e c out o = goes_on (codes "g") 116 Gt (record { not = refl; begins = refl; ascii = refl; at = refl; bounded = tt }) (λ b h. record { not = rw h refl; begins = rw h refl }) m e c out o

pub after_gt : (m : Text) → m ≡ codes "gt" → (c : ℕ) (out : Referred) → out ≡ cond (c == 59) (Found 62) Never → IsReferred out (m ++ c ∷ [])
unfolding reference_of begins_reference
after_gt m e c out o = ends (codes "gt") 62 (record { is = refl; allowed = refl }) (λ b h. record { not = rw h refl; begins = rw h refl }) m e c out o

pub after_am : (m : Text) → m ≡ codes "am" → (c : ℕ) (out : Referred) → out ≡ cond (c == 112) (Begun Amp) Never → IsReferred out (m ++ c ∷ [])
unfolding reference_of begins_reference
after_am m e c out o = goes_on (codes "am") 112 Amp (record { not = refl; begins = refl; ascii = refl; at = refl; bounded = tt }) (λ b h. record { not = rw h refl; begins = rw h refl }) m e c out o

pub after_amp : (m : Text) → m ≡ codes "amp" → (c : ℕ) (out : Referred) → out ≡ cond (c == 59) (Found 38) Never → IsReferred out (m ++ c ∷ [])
unfolding reference_of begins_reference
after_amp m e c out o = ends (codes "amp") 38 (record { is = refl; allowed = refl }) (λ b h. record { not = rw h refl; begins = rw h refl }) m e c out o

pub after_ap : (m : Text) → m ≡ codes "ap" → (c : ℕ) (out : Referred) → out ≡ cond (c == 111) (Begun Apo) Never → IsReferred out (m ++ c ∷ [])
unfolding reference_of begins_reference
after_ap m e c out o = goes_on (codes "ap") 111 Apo (record { not = refl; begins = refl; ascii = refl; at = refl; bounded = tt }) (λ b h. record { not = rw h refl; begins = rw h refl }) m e c out o

pub after_apo : (m : Text) → m ≡ codes "apo" → (c : ℕ) (out : Referred) → out ≡ cond (c == 115) (Begun Apos) Never → IsReferred out (m ++ c ∷ [])
unfolding reference_of begins_reference
after_apo m e c out o = goes_on (codes "apo") 115 Apos (record { not = refl; begins = refl; ascii = refl; at = refl; bounded = tt }) (λ b h. record { not = rw h refl; begins = rw h refl }) m e c out o

pub after_apos : (m : Text) → m ≡ codes "apos" → (c : ℕ) (out : Referred) → out ≡ cond (c == 59) (Found 39) Never → IsReferred out (m ++ c ∷ [])
unfolding reference_of begins_reference
after_apos m e c out o = ends (codes "apos") 39 (record { is = refl; allowed = refl }) (λ b h. record { not = rw h refl; begins = rw h refl }) m e c out o

pub after_q : (m : Text) → m ≡ codes "q" → (c : ℕ) (out : Referred) → out ≡ cond (c == 117) (Begun Qu) Never → IsReferred out (m ++ c ∷ [])
unfolding reference_of begins_reference
after_q m e c out o = goes_on (codes "q") 117 Qu (record { not = refl; begins = refl; ascii = refl; at = refl; bounded = tt }) (λ b h. record { not = rw h refl; begins = rw h refl }) m e c out o

pub after_qu : (m : Text) → m ≡ codes "qu" → (c : ℕ) (out : Referred) → out ≡ cond (c == 111) (Begun Quo) Never → IsReferred out (m ++ c ∷ [])
unfolding reference_of begins_reference
after_qu m e c out o = goes_on (codes "qu") 111 Quo (record { not = refl; begins = refl; ascii = refl; at = refl; bounded = tt }) (λ b h. record { not = rw h refl; begins = rw h refl }) m e c out o

pub after_quo : (m : Text) → m ≡ codes "quo" → (c : ℕ) (out : Referred) → out ≡ cond (c == 116) (Begun Quot) Never → IsReferred out (m ++ c ∷ [])
unfolding reference_of begins_reference
after_quo m e c out o = goes_on (codes "quo") 116 Quot (record { not = refl; begins = refl; ascii = refl; at = refl; bounded = tt }) (λ b h. record { not = rw h refl; begins = rw h refl }) m e c out o

pub after_quot : (m : Text) → m ≡ codes "quot" → (c : ℕ) (out : Referred) → out ≡ cond (c == 59) (Found 34) Never → IsReferred out (m ++ c ∷ [])
unfolding reference_of begins_reference
after_quot m e c out o = ends (codes "quot") 34 (record { is = refl; allowed = refl }) (λ b h. record { not = rw h refl; begins = rw h refl }) m e c out o

pub first_l : (c : ℕ) → c ≡ 108 → IsBeginning L (c ∷ [])
unfolding reference_of begins_reference
first_l c e = subst (λ z. IsBeginning L (z ∷ [])) (sym e) (record { not = refl; begins = refl; ascii = refl; at = refl; bounded = tt })

pub first_g : (c : ℕ) → c ≡ 103 → IsBeginning G (c ∷ [])
unfolding reference_of begins_reference
first_g c e = subst (λ z. IsBeginning G (z ∷ [])) (sym e) (record { not = refl; begins = refl; ascii = refl; at = refl; bounded = tt })

pub first_a : (c : ℕ) → c ≡ 97 → IsBeginning A (c ∷ [])
unfolding reference_of begins_reference
first_a c e = subst (λ z. IsBeginning A (z ∷ [])) (sym e) (record { not = refl; begins = refl; ascii = refl; at = refl; bounded = tt })

pub first_q : (c : ℕ) → c ≡ 113 → IsBeginning Q (c ∷ [])
unfolding reference_of begins_reference
first_q c e = subst (λ z. IsBeginning Q (z ∷ [])) (sym e) (record { not = refl; begins = refl; ascii = refl; at = refl; bounded = tt })

pub first_number : (c : ℕ) → c ≡ 35 → IsBeginning (Decimal 0 0) (c ∷ [])
unfolding reference_of begins_reference
first_number c e = subst (λ z. IsBeginning (Decimal 0 0) (z ∷ [])) (sym e) (record {
  not = refl;
  begins = refl;
  ascii = refl;
  at = record { digits = []; is = refl; written = record { all = refl; counted = refl; short = lit≤ tt; written = refl; low = lit≤ tt } };
  bounded = record { short = lit≤ tt; low = lit≤ tt };
})

pub first_never : (c : ℕ) → (c == 108) ≡ false → (c == 103) ≡ false → (c == 97) ≡ false → (c == 113) ≡ false → (c == 35) ≡ false → IsNoBeginning (c ∷ [])
unfolding reference_of begins_reference
first_never c l g a q n = record { not = rw (l, g, a, q, n) refl; begins = rw (l, g, a, q, n) refl }

pub a_begun : (c : ℕ) (k : ℕ) (r : Reference) → c ≡ k → IsBeginning r (97 ∷ k ∷ []) → IsBeginning r (97 ∷ c ∷ [])
a_begun c k r e b = subst (λ z. IsBeginning r (97 ∷ z ∷ [])) (sym e) b

pub a_m : (c : ℕ) → c ≡ 109 → IsBeginning Am (97 ∷ c ∷ [])
unfolding reference_of begins_reference
a_m c e = a_begun c 109 Am e (record { not = refl; begins = refl; ascii = refl; at = refl; bounded = tt })

pub a_p : (c : ℕ) → c ≡ 112 → IsBeginning Ap (97 ∷ c ∷ [])
unfolding reference_of begins_reference
a_p c e = a_begun c 112 Ap e (record { not = refl; begins = refl; ascii = refl; at = refl; bounded = tt })

pub a_never : (c : ℕ) → (c == 109) ≡ false → (c == 112) ≡ false → IsNoBeginning (97 ∷ c ∷ [])
unfolding reference_of begins_reference
a_never c m p = record { not = rw (m, p) refl; begins = rw (m, p) refl }
