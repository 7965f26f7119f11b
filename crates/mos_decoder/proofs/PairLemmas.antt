-- Bytes in pairs.
use Rattle.std.proofs.Common.{◌≡◌, ℕ, zero, suc, get_or, inl, inr, ◌+◌, ◌*◌, ◌<◌, ◌≤◌, Bool, true, false, List, [], ◌∷◌, ◌++◌, length, take, drop, ◌-◌, refl, sym, ap, ◌∙◌, arith, add-one, length-drop, drop-cons}
use Rattle.std.specs.Prelude.{Option, Some, None, slice_index, ◌==◌}
use Rattle.std.proofs.Math.ListN.{set}
use Rattle.std.proofs.lemmas.List.{take_rest, get_or-set_same, get_or-set_other}
use Rattle.std.proofs.lemmas.Bool.{cases_eq}
use Rattle.mos_fields.specs.Characters.{units_in}
use Rattle.mos_decoder.specs.Inputs.{is_odd}
use Rattle.mos_decoder.specs.Bytes.{AreTurned, behind_odd, odd_in, turned_round}

-- the code units of bytes behind others
pub units_behind : (before more : List ℕ) → units_in (before ++ more) ≡ units_in before ++ units_in (behind_odd (odd_in before) more)
unfolding units_in odd_in
units_behind [] more = refl
units_behind (a ∷ []) more = refl
units_behind (a ∷ b ∷ bs) more = ap (λ z. (a * 256 + b) ∷ z) (units_behind bs more)

pub odd_behind : (before more : List ℕ) → odd_in (before ++ more) ≡ odd_in (behind_odd (odd_in before) more)
unfolding odd_in
odd_behind [] more = refl
odd_behind (a ∷ []) more = refl
odd_behind (a ∷ b ∷ bs) more = odd_behind bs more

-- whether an odd byte is left
pub even_bytes : (bytes : List ℕ) → odd_in bytes ≡ None → is_odd bytes ≡ false
unfolding odd_in is_odd
even_bytes [] e = refl
even_bytes (a ∷ []) e = absurd (cc)
even_bytes (a ∷ b ∷ bs) e = even_bytes bs e

pub odd_bytes : (bytes : List ℕ) (x : ℕ) → odd_in bytes ≡ Some x → is_odd bytes ≡ true
unfolding odd_in is_odd
odd_bytes [] x e = absurd (cc)
odd_bytes (a ∷ []) x e = refl
odd_bytes (a ∷ b ∷ bs) x e = odd_bytes bs x e

-- bytes have no more code units than bytes, behind an odd one either
few_in : (bytes : List ℕ) → length (units_in bytes) ≤ length bytes
unfolding units_in
few_in [] = omega arith
few_in (a ∷ []) = omega arith
few_in (a ∷ b ∷ bs) = let h = few_in bs in omega (arith, h)

pub few_units : (odd : Option ℕ) (bytes : List ℕ) → length (units_in (behind_odd odd bytes)) ≤ length bytes
unfolding units_in
few_units None bytes = few_in bytes
few_units (Some a) [] = omega arith
few_units (Some a) (b ∷ bs) = let h = few_in bs in omega (arith, h)

-- the next pair
next_byte : (bytes : List ℕ) (at : ℕ) → at < length bytes → drop at bytes ≡ slice_index bytes at ∷ drop (at + 1) bytes
next_byte bytes at h = rw (add-one, drop-cons bytes at 0)

pub next_pair : (bytes : List ℕ) (at : ℕ) → at + 1 < length bytes → drop at bytes ≡ slice_index bytes at ∷ slice_index bytes (at + 1) ∷ drop (at + 2) bytes
next_pair bytes at h =
    next_byte bytes at (omega (arith, h)) ∙ ap (λ z. slice_index bytes at ∷ z) (next_byte bytes (at + 1) h ∙ ap (λ k. slice_index bytes (at + 1) ∷ drop k bytes) (let e : at + 1 + 1 ≡ at + 2 = omega arith in e))

pub pair_units : (a b : ℕ) (bytes : List ℕ) → units_in (a ∷ b ∷ bytes) ≡ (a * 256 + b) ∷ units_in bytes
unfolding units_in
pair_units a b bytes = refl

pub pair_odd : (a b : ℕ) (bytes : List ℕ) → odd_in (a ∷ b ∷ bytes) ≡ odd_in bytes
unfolding odd_in
pair_odd a b bytes = refl

pub nothing_from : (xs : List ℕ) (n : ℕ) → length xs ≤ n → drop n xs ≡ []
nothing_from xs n h = empty (drop n xs) (let l = length-drop n xs in omega (arith, l, h))
  where
    empty : (xs : List ℕ) → length xs ≡ 0 → xs ≡ []
    empty [] e = refl
    empty (x ∷ xs) e = absurd (omega (arith, e))

-- no pair is left
pub last_byte : (bytes : List ℕ) (at : ℕ) → at < length bytes → length bytes ≤ at + 1 → drop at bytes ≡ slice_index bytes at ∷ []
last_byte bytes at h l = next_byte bytes at h ∙ ap (λ z. slice_index bytes at ∷ z) (nothing_from bytes (at + 1) l)

pub one_odd : (a : ℕ) → (odd_in (a ∷ []) ≡ Some a) × (units_in (a ∷ []) ≡ [])
unfolding units_in odd_in
one_odd a = (refl, refl)

pub none_odd : (odd_in [] ≡ None) × (units_in [] ≡ [])
unfolding units_in odd_in
none_odd = (refl, refl)

pub append_unit : (us : List ℕ) (u : ℕ) (vs : List ℕ) → (us ++ u ∷ []) ++ vs ≡ us ++ u ∷ vs
append_unit [] u vs = refl
append_unit (w ∷ us) u vs = ap (λ z. w ∷ z) (append_unit us u vs)

pub no_bytes : (bytes : List ℕ) → length bytes < 1 → bytes ≡ []
no_bytes [] h = refl
no_bytes (b ∷ bs) h = absurd (omega (arith, h))

pub first_byte : (bytes : List ℕ) → 1 ≤ length bytes → bytes ≡ slice_index bytes 0 ∷ take (length bytes - 1) (drop 1 bytes)
first_byte bytes h = next_byte bytes 0 (omega (arith, h)) ∙ ap (λ z. slice_index bytes 0 ∷ z) (sym (take_rest bytes 1))

-- as many pairs as a list of units has
abbrev pub AreUnits : List ℕ → ℕ → List ℕ → ℕ → Type 0
AreUnits bytes at us n = (j : ℕ) → j < n → get_or us j 0 ≡ slice_index bytes (at + 2 * j) * 256 + slice_index bytes (at + 2 * j + 1)

pub pairs_units : (bytes us : List ℕ) (at : ℕ) → at + 2 * length us ≤ length bytes → AreUnits bytes at us (length us) → us ++ units_in (drop (at + 2 * length us) bytes) ≡ units_in (drop at bytes)
pairs_units bytes [] at h f = ap (λ k. units_in (drop k bytes)) (let e : at + 2 * 0 ≡ at = omega arith in e)
pairs_units bytes (u ∷ us) at h f =
    let e : at + 2 * length (u ∷ us) ≡ (at + 2) + 2 * length us = omega arith in
    let r = pairs_units bytes us (at + 2) (omega (arith, h)) (λ j l. f (suc j) (omega (arith, l)) ∙ ap (λ k. slice_index bytes k * 256 + slice_index bytes (k + 1)) (let q : at + 2 * suc j ≡ (at + 2) + 2 * j = omega arith in q)) in
    let i : u ≡ slice_index bytes at * 256 + slice_index bytes (at + 1) = f 0 (omega arith) ∙ ap (λ k. slice_index bytes k * 256 + slice_index bytes (k + 1)) (let q : at + 2 * 0 ≡ at = omega arith in q) in
    ap (λ k. u ∷ (us ++ units_in (drop k bytes))) e
    ∙ (ap (λ z. u ∷ z) r
    ∙ (ap (λ z. z ∷ units_in (drop (at + 2) bytes)) i
    ∙ sym (ap units_in (next_pair bytes at (omega (arith, h))) ∙ pair_units (slice_index bytes at) (slice_index bytes (at + 1)) (drop (at + 2) bytes))))

pub pairs_odd : (n : ℕ) (bytes : List ℕ) (at : ℕ) → at + 2 * n ≤ length bytes → odd_in (drop (at + 2 * n) bytes) ≡ odd_in (drop at bytes)
pairs_odd zero bytes at h = ap (λ k. odd_in (drop k bytes)) (let e : at + 2 * 0 ≡ at = omega arith in e)
pairs_odd (suc n) bytes at h =
    let e : at + 2 * suc n ≡ (at + 2) + 2 * n = omega arith in
    ap (λ k. odd_in (drop k bytes)) e
    ∙ (pairs_odd n bytes (at + 2) (omega (arith, h))
    ∙ sym (ap odd_in (next_pair bytes at (omega (arith, h))) ∙ pair_odd (slice_index bytes at) (slice_index bytes (at + 1)) (drop (at + 2) bytes)))

-- one more unit is written
pub units_more : (bytes us : List ℕ) (at k v : ℕ) → k < length us → v ≡ slice_index bytes (at + 2 * k) * 256 + slice_index bytes (at + 2 * k + 1) → AreUnits bytes at us k → AreUnits bytes at (set us k v) (k + 1)
units_more bytes us at k v w e f j l = elim (cases_eq j k) [
  | inl i ↦ ap (λ (z : ℕ). get_or (set us k v) z 0) i ∙ (get_or-set_same us k v 0 w ∙ (e ∙ ap (λ (z : ℕ). slice_index bytes (at + 2 * z) * 256 + slice_index bytes (at + 2 * z + 1)) (sym i)))
  | inr i ↦ get_or-set_other us k j v 0 i ∙ f j (omega (arith, l, i))
]

-- turned round they are as many
abbrev pub WereTurned : List ℕ → ℕ → List ℕ → ℕ → Type 0
WereTurned bytes at us n = (j : ℕ) → j < n → turned_round (get_or us j 0) ≡ slice_index bytes (at + 2 * j) * 256 + slice_index bytes (at + 2 * j + 1)

-- one more is written that has to be turned round
pub turned_more : (bytes us : List ℕ) (at k v : ℕ) → k < length us → turned_round v ≡ slice_index bytes (at + 2 * k) * 256 + slice_index bytes (at + 2 * k + 1) → WereTurned bytes at us k → WereTurned bytes at (set us k v) (k + 1)
turned_more bytes us at k v w e f j l = elim (cases_eq j k) [
  | inl i ↦ ap (λ (z : ℕ). turned_round (get_or (set us k v) z 0)) i ∙ (ap turned_round (get_or-set_same us k v 0 w) ∙ (e ∙ ap (λ (z : ℕ). slice_index bytes (at + 2 * z) * 256 + slice_index bytes (at + 2 * z + 1)) (sym i)))
  | inr i ↦ ap turned_round (get_or-set_other us k j v 0 i) ∙ f j (omega (arith, l, i))
]

pub all_turned : (bytes us : List ℕ) (at n : ℕ) → 32 ≤ n → WereTurned bytes at us n → AreTurned bytes at us 0
all_turned bytes us at n h f j l m = f j (omega (arith, h, m))

-- those behind one that is turned round are as they were
pub turned_behind : (bytes us : List ℕ) (at k v : ℕ) → AreTurned bytes at us k → AreTurned bytes at (set us k v) (k + 1)
turned_behind bytes us at k v f j l m = ap turned_round (get_or-set_other us k j v 0 (λ e. omega (arith, e, l))) ∙ f j (omega (arith, l)) m

-- a block of 32 units
pub block_is : (bytes us : List ℕ) (at : ℕ) → length us ≡ 32 → at + 64 ≤ length bytes → AreUnits bytes at us 32 → us ++ units_in (drop (at + 64) bytes) ≡ units_in (drop at bytes)
block_is bytes us at e h f =
    ap (λ k. us ++ units_in (drop k bytes)) (let q : at + 64 ≡ at + 2 * length us = omega (arith, e) in q) ∙ pairs_units bytes us at (omega (arith, e, h)) (λ j l. f j (omega (arith, e, l)))
