-- Values that are read one after another, from a list that has the next one last.
use Rattle.std.proofs.Common.{◌≡◌, List, [], ◌∷◌, ◌++◌, map, reverse, append_assoc, refl, sym, subst, ◌∙◌, ap}
use Rattle.std.specs.List.{AllByRecursion}
use Rattle.std.proofs.lemmas.List.{append-nil, map-append, reverse-append, reverse-reverse}

-- what was read has the meaning of what it was read from, and the rest may be read
pub record ReadSoFar {A B X : Type 0} (read : A → B) (meaning : X → B) (fits : X → Type 0) (all : List X) (done : List A) (left : List X) : Type 0 where
  pub all_is : map read done ++ map meaning (reverse left) ≡ map meaning all
  pub fine : AllByRecursion fits (reverse left)

pub read_start : {A B X : Type 0} (read : A → B) (meaning : X → B) (fits : X → Type 0) (all left : List X) → left ≡ reverse all → AllByRecursion fits all → ReadSoFar read meaning fits all [] left
read_start read meaning fits all left e a =
    let p : reverse left ≡ all = ap reverse e ∙ reverse-reverse all in
    record { all_is = ap (map meaning) p; fine = subst (AllByRecursion fits) (sym p) a }

pushed : {X : Type 0} (left : List X) (x : X) → reverse (left ++ x ∷ []) ≡ x ∷ reverse left
pushed left x = reverse-append left (x ∷ [])

pub read_next : {A B X : Type 0} (read : A → B) (meaning : X → B) (fits : X → Type 0) (all : List X) (done : List A) (left more : List X) (x : X) → ReadSoFar read meaning fits all done left → left ≡ more ++ x ∷ [] → fits x
read_next read meaning fits all done left more x r e = (subst (AllByRecursion fits) (ap reverse e ∙ pushed more x) r.fine).0

pub read_more : {A B X : Type 0} (read : A → B) (meaning : X → B) (fits : X → Type 0) (all : List X) (done : List A) (left more : List X) (x : X) (a : A)
    → ReadSoFar read meaning fits all done left → left ≡ more ++ x ∷ [] → read a ≡ meaning x → ReadSoFar read meaning fits all (done ++ a ∷ []) more
read_more {B = B} {X = X} read meaning fits all done left more x a r e k = record {
  all_is = ap (λ (z : List B). z ++ map meaning (reverse more)) (map-append read done (a ∷ [])) ∙ append_assoc (map read done) (read a ∷ []) (map meaning (reverse more))
      ∙ ap (λ (z : B). map read done ++ z ∷ map meaning (reverse more)) k
      ∙ ap (λ (z : List X). map read done ++ map meaning z) (sym (ap reverse e ∙ pushed more x)) ∙ r.all_is;
  fine = (subst (AllByRecursion fits) (ap reverse e ∙ pushed more x) r.fine).1;
}

pub read_end : {A B X : Type 0} (read : A → B) (meaning : X → B) (fits : X → Type 0) (all : List X) (done : List A) (left : List X) → ReadSoFar read meaning fits all done left → left ≡ [] → map read done ≡ map meaning all
read_end {X = X} read meaning fits all done left r e = sym (append-nil (map read done)) ∙ sym (ap (λ (z : List X). map read done ++ map meaning (reverse z)) e) ∙ r.all_is
