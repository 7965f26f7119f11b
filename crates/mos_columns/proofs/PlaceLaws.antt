-- What stands at the places that are looked for.
use Rattle.std.proofs.Common.{◌≡◌, ℕ, zero, suc, Bool, true, false, cond, List, [], ◌∷◌, ◌≤◌, ◌+◌, length, take, drop, Some, None, refl, sym, ap, ◌∙◌, arith, length-drop}
use Rattle.std.specs.Prelude.{nat_lt}
use Rattle.mos_fields.specs.Characters.{Text}
use Rattle.mos_tables.specs.declared.column.Column.{Column}
use Rattle.mos_grammar.specs.Records.{column_of, is_named, least_count, lack_of, or_else}
use Rattle.mos_columns.specs.Counts.{lacking_by, repeated_by, before_by, tag_fault_by, place_of, lack_place, head_of, head_lack, head_repeated}

nothing_left : (xs : List ℕ) (n : ℕ) → length xs ≤ n → drop n xs ≡ []
nothing_left xs n h = empty (drop n xs) (let l = length-drop n xs in omega (arith, l, h))
  where
    empty : (xs : List ℕ) → length xs ≡ 0 → xs ≡ []
    empty [] e = refl
    empty (x ∷ xs) e = absurd (omega (arith, e))

-- behind more than all there is nothing
pub nothing_behind : (xs : List ℕ) (n : ℕ) → (n ≤ length xs → ⊥) → drop (length xs) xs ≡ drop n xs
nothing_behind xs n h = nothing_left xs (length xs) (omega arith) ∙ sym (nothing_left xs n (omega (arith, h)))

one_more : (n : ℕ) → 1 + n ≡ suc n
one_more n = omega arith

pub lack_is : (cs : List Column) (ks : List ℕ) → head_lack (drop (lack_place cs ks) cs) ≡ lacking_by cs ks
lack_is [] ks = refl
lack_is (c ∷ cs) [] = ap head_lack (all cs)
  where
    all : (xs : List Column) → drop (length xs) xs ≡ []
    all [] = refl
    all (x ∷ xs) = all xs
lack_is (c ∷ cs) (k ∷ ks) = go (nat_lt k (least_count c.often)) (lack_is cs ks)
  where
    go : (b : Bool) → head_lack (drop (lack_place cs ks) cs) ≡ lacking_by cs ks → head_lack (drop (cond b 0 (1 + lack_place cs ks)) (c ∷ cs)) ≡ cond b (Some (lack_of c.field)) (lacking_by cs ks)
    go true e = refl
    go false e = ap (λ p. head_lack (drop p (c ∷ cs))) (one_more (lack_place cs ks)) ∙ e

pub column_is : (cs : List Column) (n : Text) → head_of (drop (place_of cs n) cs) ≡ column_of cs n
column_is [] n = refl
column_is (c ∷ cs) n = go (is_named c n) (column_is cs n)
  where
    go : (b : Bool) → head_of (drop (place_of cs n) cs) ≡ column_of cs n → head_of (drop (cond b 0 (1 + place_of cs n)) (c ∷ cs)) ≡ cond b (Some c) (column_of cs n)
    go true e = refl
    go false e = ap (λ p. head_of (drop p (c ∷ cs))) (one_more (place_of cs n)) ∙ e

repeated_at : (cs : List Column) (ks : List ℕ) (n : Text) → head_repeated (drop (place_of cs n) cs) (drop (place_of cs n) ks) ≡ repeated_by cs ks n
repeated_at [] ks n = refl
repeated_at (c ∷ cs) [] n = go (place_of (c ∷ cs) n)
  where
    none : (xs : List Column) → head_repeated xs [] ≡ None
    none [] = refl
    none (x ∷ xs) = refl

    go : (p : ℕ) → head_repeated (drop p (c ∷ cs)) (drop p []) ≡ None
    go zero = none (c ∷ cs)
    go (suc p) = none (drop p cs)
repeated_at (c ∷ cs) (k ∷ ks) n = go (is_named c n) (repeated_at cs ks n)
  where
    go : (b : Bool) → head_repeated (drop (place_of cs n) cs) (drop (place_of cs n) ks) ≡ repeated_by cs ks n
        → head_repeated (drop (cond b 0 (1 + place_of cs n)) (c ∷ cs)) (drop (cond b 0 (1 + place_of cs n)) (k ∷ ks)) ≡ cond b (head_repeated (c ∷ cs) (k ∷ ks)) (repeated_by cs ks n)
    go true e = refl
    go false e = ap (λ p. head_repeated (drop p (c ∷ cs)) (drop p (k ∷ ks))) (one_more (place_of cs n)) ∙ e

before_at : (cs : List Column) (ks : List ℕ) (n : Text) → lacking_by (take (place_of cs n) cs) ks ≡ before_by cs ks n
before_at [] ks n = refl
before_at (c ∷ cs) [] n = none (take (place_of (c ∷ cs) n) (c ∷ cs))
  where
    none : (xs : List Column) → lacking_by xs [] ≡ None
    none [] = refl
    none (x ∷ xs) = refl
before_at (c ∷ cs) (k ∷ ks) n = go (is_named c n) (before_at cs ks n)
  where
    go : (b : Bool) → lacking_by (take (place_of cs n) cs) ks ≡ before_by cs ks n
        → lacking_by (take (cond b 0 (1 + place_of cs n)) (c ∷ cs)) (k ∷ ks) ≡ cond b None (cond (nat_lt k (least_count c.often)) (Some (lack_of c.field)) (before_by cs ks n))
    go true e = refl
    go false e = ap (λ p. lacking_by (take p (c ∷ cs)) (k ∷ ks)) (one_more (place_of cs n)) ∙ ap (cond (nat_lt k (least_count c.often)) (Some (lack_of c.field))) e

pub fault_is : (cs : List Column) (ks : List ℕ) (n : Text) → or_else (head_repeated (drop (place_of cs n) cs) (drop (place_of cs n) ks)) (lacking_by (take (place_of cs n) cs) ks) ≡ tag_fault_by cs ks n
fault_is cs ks n = rw (repeated_at cs ks n, before_at cs ks n) refl
