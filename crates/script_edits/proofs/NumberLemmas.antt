-- Numbers of at most nine digits.
use Rattle.std.proofs.Common.{◌≡◌, ℕ, suc, zero, ◌+◌, ◌-◌, ◌*◌, ◌^◌, ◌≤◌, List, [], ◌∷◌, length, take, drop, get_or, true, ap, arith}
use Rattle.std.proofs.Math.Nat.{mul-le-mul_right, mul-le-mul_left, pow-suc, pow-le-pow_right}
use Rattle.std.proofs.lemmas.List.{take_rest}
use Rattle.std.specs.List.{list_all}
use Rattle.script_edits.specs.Words.{is_digit, is_number}

-- the power of a digit more
power : (n k : ℕ) → (n + 1) * 10 ^ suc k ≡ (n + 1) * (10 ^ k * 10)
power n k = ap (λ x. (n + 1) * x) (pow-suc 10 k)

-- a digit more behind `n`, where `k` digits more follow
digit_fits : (n d k : ℕ) → d ≤ 9 → (n + 1) * 10 ^ suc k ≤ 1000000000 → (n * 10 + d + 1) * 10 ^ k ≤ 1000000000
digit_fits n d k small room =
    let m : (n * 10 + d + 1) * 10 ^ k ≤ (n * 10 + 10) * 10 ^ k = mul-le-mul_right (10 ^ k) (omega arith) in
    let e = power n k in omega (arith, e, m)

one_at_least : (k : ℕ) → 1 ≤ 10 ^ k
one_at_least zero = omega arith
one_at_least (suc k) = let e = pow-suc 10 k in let h = one_at_least k in omega (arith, e, h)

-- a number with room for digits is small
room_bounds : (n k : ℕ) → (n + 1) * 10 ^ k ≤ 1000000000 → n + 1 ≤ 1000000000
room_bounds n k room =
    let m : (n + 1) * 1 ≤ (n + 1) * 10 ^ k = mul-le-mul_left (n + 1) (one_at_least k) in omega (arith, m)

-- ---- the digits of a slice

-- what stands behind the first
tail_is : (d : ℕ) (ds : List ℕ) → take (length (d ∷ ds) - 1) (drop 1 (d ∷ ds)) ≡ ds
tail_is d ds = take_rest (d ∷ ds) 1

pub more_digits : (ds : List ℕ) → 1 ≤ length ds → list_all is_digit ds ≡ true → list_all is_digit (take (length ds - 1) (drop 1 ds)) ≡ true
more_digits [] h digits = absurd (omega arith)
more_digits (d ∷ ds) h digits = rw (tail_is d ds) (grind (arith, digits))

pub first_digit : (ds : List ℕ) → 1 ≤ length ds → list_all is_digit ds ≡ true → is_digit (get_or ds 0 0) ≡ true
first_digit [] h digits = absurd (omega arith)
first_digit (d ∷ ds) h digits = grind (arith, digits)

pub more_room : (n d : ℕ) (ds : List ℕ) → 1 ≤ length ds → d ≤ 9 → (n + 1) * 10 ^ length ds ≤ 1000000000 → (n * 10 + d + 1) * 10 ^ length (take (length ds - 1) (drop 1 ds)) ≤ 1000000000
more_room n d [] h small room = absurd (omega arith)
more_room n d (x ∷ ds) h small room = rw (tail_is x ds) (digit_fits n d (length ds) small room)

-- so the next number is small
pub next_small : (n d : ℕ) (ds : List ℕ) → 1 ≤ length ds → d ≤ 9 → (n + 1) * 10 ^ length ds ≤ 1000000000 → n * 10 + d + 1 ≤ 1000000000
next_small n d [] h small room = absurd (omega arith)
next_small n d (x ∷ ds) h small room = room_bounds (n * 10 + d) (length ds) (digit_fits n d (length ds) small room)

-- ---- a word that is a number

pub number_digits : (w : List ℕ) → is_number w ≡ true → list_all is_digit w ≡ true
unfolding is_number
number_digits w h = grind (arith, h)

number_short : (w : List ℕ) → is_number w ≡ true → length w ≤ 9
unfolding is_number
number_short w h = grind (arith, h)

pub number_room : (w : List ℕ) → is_number w ≡ true → 1 * 10 ^ length w ≤ 1000000000
number_room w h =
    let m : 10 ^ length w ≤ 10 ^ 9 = pow-le-pow_right (omega arith) (number_short w h) in omega (arith, m)
