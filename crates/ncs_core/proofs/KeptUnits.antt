-- The code units of the list of all orders, where one order is exchanged for another.
use Rattle.std.proofs.Common.{◌≡◌, ℕ, ◌+◌, ◌-◌, ◌<◌, ◌≤◌, ◌^◌, Bool, true, false, List, [], ◌∷◌, ◌++◌, Option, Some, None, Result, Ok, Err, OnOk, OnErr, refl, sym, ap, ◌∙◌, if◌then◌else◌, arith, inl, inr}
use Rattle.std.proofs.Math.Nat.{min-eq_left, min-eq_right}
use Rattle.std.proofs.lemmas.List.{append-nil}
use Rattle.std.proofs.lemmas.Bool.{ltb-false}
use Rattle.std.proofs.lemmas.Bool.Decides.{leb_tells}
use Rattle.std.specs.Prelude.{nat_lt}
use Rattle.mos_edits.specs.Entries.{over_list}
use Rattle.mos_edits.specs.Orders.{Order, HeaderPatch, bare}
use Rattle.mos_edits.specs.Sizes.{at_most_64_bits, list_limit, list_units, list_all_limit, list_all_units, ros_units}
use Rattle.mos_edits.specs.Texts.{Text, same_id}
use Rattle.mos_edits.specs.Entries.{is_before}
use Rattle.mos_machines.specs.Tables.{look, put_row, row_ids}
use Rattle.order_table.specs.Rows.{IsAscending}
use Rattle.order_table.proofs.AscendingRows.{before-all, find-none}
use Rattle.order_table.proofs.Looked.{put-put}
use Rattle.ncs_core.specs.Accepting.{rows_over}
use Rattle.ncs_core.specs.State.{all_units, one_header, row_headers}
use Rattle.ncs_core.proofs.AcceptedRows.{no-order}

-- what an order adds, and what all rows add
abbrev weigh : Option Order → ℕ
weigh o = ros_units (one_header o)

abbrev sum : List (Text × Option Order) → ℕ
sum rows = ros_units (row_headers rows)

ros-append : (xs ys : List HeaderPatch) → ros_units (xs ++ ys) ≡ ros_units xs + ros_units ys
ros-append [] ys = omega arith
ros-append (x ∷ xs) ys = let e : ros_units (xs ++ ys) ≡ ros_units xs + ros_units ys = ros-append xs ys in omega arith

sum-cons : (o : Option Order) (rows : List (Text × Option Order)) → ros_units (one_header o ++ row_headers rows) ≡ weigh o + sum rows
sum-cons o rows = ros-append (one_header o) (row_headers rows)

-- of an order that is exchanged, with what was there
pub put-sum : (r : Text) (o : Option Order) (rows : List (Text × Option Order)) → IsAscending (row_ids rows) → sum (put_row r o rows) + weigh (look None rows r) ≡ sum rows + weigh o
put-sum r o [] h = let e : ros_units (one_header o ++ []) ≡ weigh o = ap ros_units (append-nil (one_header o)) in omega arith
put-sum r o (x ∷ xs) h = by (same_id r x.0) (is_before r x.0) refl (put-sum r o xs h.1)
  where
    by : (b c : Bool) → is_before r x.0 ≡ c → sum (put_row r o xs) + weigh (look None xs r) ≡ sum xs + weigh o
        → sum (if b then (r, o) ∷ xs else (if c then (r, o) ∷ (x ∷ xs) else x ∷ put_row r o xs)) + weigh (if b then x.1 else look None xs r) ≡ sum (x ∷ xs) + weigh o
    by true c e i = let p = sum-cons o xs in let q = sum-cons x.1 xs in omega (arith, p, q)
    by false true e i =
        let n : weigh (look None xs r) ≡ 0 = ap weigh (no-order xs r (find-none r xs (before-all r x.0 (row_ids xs) e h.0))) in
        let p = sum-cons o (x ∷ xs) in
        omega (arith, p, n)
    by false false e i =
        let p = sum-cons x.1 (put_row r o xs) in
        let q = sum-cons x.1 xs in
        omega (arith, p, q, i)

-- what an order adds is among what all add
looked-within : (r : Text) (rows : List (Text × Option Order)) → IsAscending (row_ids rows) → weigh (look None rows r) ≤ sum rows
looked-within r rows h = let e = put-sum r None rows h in omega (arith, e)

-- an order that is put back
pub back-units : (r : Text) (u o : Option Order) (rows : List (Text × Option Order)) → IsAscending (row_ids rows) → o ≡ look None rows r → all_units (put_row r o (put_row r u rows)) ≡ all_units rows
back-units r u o rows h e =
    let p : sum (put_row r o rows) + weigh (look None rows r) ≡ sum rows + weigh o = put-sum r o rows h in
    let w : weigh o ≡ weigh (look None rows r) = ap weigh e in
    let s : sum (put_row r o rows) ≡ sum rows = omega (arith, p, w) in
    ap (λ (z : List (Text × Option Order)). all_units z) (put-put r u o rows) ∙ ap (λ (n : ℕ). 23 + n) s

-- a row for an order that has none
pub known-units : {X Y : Type 0} (a : Result X Y) (r : Text) (old new : List (Text × Option Order)) → IsAscending (row_ids old) → OnOk a (new ≡ put_row r None old) → OnErr a (new ≡ old) → look None old r ≡ None → all_units new ≡ all_units old
known-units (Ok x) r old new asc e f h =
    let p : sum (put_row r None old) + weigh (look None old r) ≡ sum old + 0 = put-sum r None old asc in
    let w : weigh (look None old r) ≡ 0 = ap weigh h in
    let s : sum (put_row r None old) ≡ sum old = omega (arith, p, w) in
    ap (λ (z : List (Text × Option Order)). all_units z) e ∙ ap (λ (n : ℕ). 23 + n) s
known-units (Err y) r old new asc e f h = ap (λ (z : List (Text × Option Order)). all_units z) f

-- a number that is cut at 64 bits before a sum is
cut-sum : (a b : ℕ) → at_most_64_bits (a + at_most_64_bits b) ≡ at_most_64_bits (a + b)
cut-sum a b = elim (leb_tells b (2 ^ 64 - 1)) [ inl p ↦ ap (λ (n : ℕ). at_most_64_bits (a + n)) (min-eq_left p.1) | inr p ↦ long p.1 ]
  where
    long : (2 ^ 64 - 1) < b → at_most_64_bits (a + at_most_64_bits b) ≡ at_most_64_bits (a + b)
    long l =
        ap (λ (n : ℕ). at_most_64_bits (a + n)) (min-eq_right {n = 2 ^ 64 - 1} {m = b} (omega (arith, l)))
        ∙ (min-eq_right {n = 2 ^ 64 - 1} {m = a + (2 ^ 64 - 1)} (omega arith) ∙ sym (min-eq_right {n = 2 ^ 64 - 1} {m = a + b} (omega (arith, l))))

-- the list of all orders behind an exchange, from the lists of both orders alone
module _ (r : Text) (new : Option Order) (rows : List (Text × Option Order)) (asc : IsAscending (row_ids rows)) (units former fresh : ℕ) where
  is-former : units ≡ all_units rows → units < 2 ^ 64 → former ≡ at_most_64_bits (list_all_units (one_header (look None rows r))) → former ≡ 23 + weigh (look None rows r)
  is-former u l f =
      let w = looked-within r rows asc in
      f ∙ min-eq_left {n = 23 + weigh (look None rows r)} {m = 2 ^ 64 - 1} (omega (arith, w, u, l))

  pub former-within : units ≡ all_units rows → units < 2 ^ 64 → former ≡ at_most_64_bits (list_all_units (one_header (look None rows r))) → former ≤ units
  former-within u l f =
      let w = looked-within r rows asc in
      let e = is-former u l f in
      omega (arith, w, u, e)

  pub units-exchanged : units ≡ all_units rows → units < 2 ^ 64 → former ≡ at_most_64_bits (list_all_units (one_header (look None rows r))) → fresh ≡ at_most_64_bits (list_all_units (one_header new))
      → at_most_64_bits (units - former + fresh) ≡ at_most_64_bits (all_units (put_row r new rows))
  units-exchanged u l f g =
      let w = looked-within r rows asc in
      let e = is-former u l f in
      let s = put-sum r new rows asc in
      let n : units - former + (23 + weigh new) ≡ 23 + sum (put_row r new rows) = omega (arith, w, e, s, u) in
      ap (λ (z : ℕ). at_most_64_bits (units - former + z)) g ∙ (cut-sum (units - former) (23 + weigh new) ∙ ap at_most_64_bits n)

-- where no limit is passed, the other one isn't either
not-over : (o : Option Order) (next : Option ℕ) → over_list o next ≡ None → next ≡ None
not-over None next h = h
not-over (Some o) next h = go (nat_lt list_limit (list_units (bare o))) h
  where
    go : (b : Bool) → (if b then Some (at_most_64_bits (list_units (bare o))) else next) ≡ None → next ≡ None
    go true e = absurd cc
    go false e = e

-- a number that passes no limit wasn't cut
pub within-units : (rows : List (Text × Option Order)) (r : Text) (units : ℕ) (next : Option ℕ) → units ≡ at_most_64_bits (all_units rows) → rows_over rows r next ≡ None → units ≡ all_units rows
within-units rows r units next e h = go (nat_lt list_all_limit (all_units rows)) refl (not-over (look None rows r) _ h)
  where
    go : (b : Bool) → nat_lt list_all_limit (all_units rows) ≡ b → (if b then Some (at_most_64_bits (all_units rows)) else next) ≡ None → units ≡ all_units rows
    go true s n = absurd cc
    go false s n = let k = ltb-false list_all_limit (all_units rows) s in e ∙ min-eq_left {n = all_units rows} {m = 2 ^ 64 - 1} (omega (arith, k))
