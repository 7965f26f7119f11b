-- Texts have no fault where they are values.
use Rattle.std.proofs.Common.{◌≡◌, ℕ, ◌+◌, ◌<◌, ◌≤◌, Bool, true, false, cond, not, eqb, ltb, [], ◌∷◌, length, Some, None, refl, sym, ap, ◌∙◌, arith}
use Rattle.std.proofs.lemmas.Bool.{and_parts, ne_eqb}
use Rattle.std.proofs.lemmas.Bool.Decides.{nat_tests}
use Rattle.mos_fields.specs.Characters.{Text, is_allowed, are_allowed}
use Rattle.mos_fields.specs.Names.{is_name}
use Rattle.mos_fields.specs.Units.{grows_at, named_at}
use Rattle.mos_fields.specs.Faults.{Fault, bad_char_from, text_fault, first_of, fault_if, length_fault, id_length_fault}
use Rattle.mos_fields.specs.declared.fault.FieldFault.{FieldFault}
use Rattle.mos_fields.specs.declared.fault.FieldFault.TheVariants.{BadWord as bad_word}
use Rattle.mos_fields.proofs.NameLemmas.{name_by_places}
use Rattle.mos_fields.proofs.ElementLemmas.{grown_few}
use Rattle.encoding_laws.specs.FieldLaws.{TextsAreReadBack, IdsAreReadBack, OptIdsAreReadBack, SlugsAreReadBack, NamesAreReadBack}

-- no forbidden character where each is allowed
pub no_bad_char : (k : ℕ) (x : Text) → are_allowed x ≡ true → bad_char_from k x ≡ None
no_bad_char k [] h = refl
no_bad_char k (c ∷ x) h = let p = and_parts (is_allowed c) (are_allowed x) h in rw p.0 (no_bad_char (k + 1) x p.1)

pub allowed_text : (x : Text) → are_allowed x ≡ true → text_fault x ≡ None
allowed_text x h = no_bad_char 0 x h

-- behind a fault that isn't there
pub behind : (f g : Fault) → f ≡ None → g ≡ None → first_of f g ≡ None
behind None g e h = h
behind (Some f) g e h = absurd cc

pub no_fault_if : (b : Bool) (f : FieldFault) → b ≡ false → fault_if b f ≡ None
no_fault_if b f e = ap (λ c. fault_if c f) e

short : (limit : ℕ) (x : Text) → length x ≤ limit → length_fault limit x ≡ None
short limit x h = no_fault_if (ltb limit (length x)) _ (grind (arith, nat_tests))

named_short : (k : ℕ) (x : Text) → k ≤ 128 → named_at k x ≡ true → k + length x ≤ 128
named_short k [] l h = omega arith
named_short k (c ∷ x) l h = go (grows_at k c) refl (λ m g. named_short (k + 1) x m g) h
  where
    go : (b : Bool) → grows_at k c ≡ b → (k + 1 ≤ 128 → named_at (k + 1) x ≡ true → k + 1 + length x ≤ 128) → cond b (named_at (k + 1) x) false ≡ true → k + length (c ∷ x) ≤ 128
    go true e ih h = let few : k < 128 = grown_few k c e in let more : k + 1 + length x ≤ 128 = ih (omega arith) h in omega arith
    go false e ih h = absurd cc

pub texts_back : TextsAreReadBack
texts_back x a = (allowed_text x a, λ y e. e)

pub ids_back : IdsAreReadBack
ids_back x a i = (behind (text_fault x) (id_length_fault x) (allowed_text x a) (behind (length_fault 128 x) _ (short 128 x i.short) (no_fault_if (eqb (length x) 0) _ (let l : 1 ≤ length x = i.some in ne_eqb (length x) 0 (λ e. omega arith)))), λ y e. e)

pub opt_ids_back : OptIdsAreReadBack
opt_ids_back x a l = (behind (text_fault x) (length_fault 128 x) (allowed_text x a) (short 128 x l), λ y e. e)

pub slugs_back : SlugsAreReadBack
slugs_back x a l = (behind (text_fault x) (length_fault 1024 x) (allowed_text x a) (short 1024 x l), λ y e. e)

pub names_back : NamesAreReadBack
names_back x a n =
    let l : 0 + length x ≤ 128 = named_short 0 x (omega arith) (sym (name_by_places x) ∙ n) in
    (behind (text_fault x) _ (allowed_text x a) (behind (length_fault 128 x) _ (short 128 x (omega arith)) (no_fault_if (not (is_name x)) bad_word (ap not n))), λ y e. e)
