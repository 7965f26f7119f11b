-- The code units of objects, and what one taken changes in them.
use Rattle.std.proofs.Common.{◌≡◌, ℕ, zero, suc, ◌+◌, ◌<◌, List, [], ◌∷◌, ◌++◌, length, remove, slice_set, get_or, codes, refl, sym, ap, ◌∙◌, arith}
use Rattle.std.specs.List.{sum_by}
use Rattle.std.proofs.lemmas.List.Sums.{sum_by-append, sum_by-cons}
use Rattle.mos_fields.specs.Fields.{name_of}
use Rattle.mos_fields.specs.declared.field.Field.TheVariants as fields
use Rattle.mos_values.specs.Parts.{element}
use Rattle.mos_values.specs.Units.{units_in}
use Rattle.mos_values.specs.Views.{mos_obj_events, objects_events}
use Rattle.mos_values.specs.declared.mos_obj.MosObj.{MosObj}
use Rattle.mos_values.proofs.Encoding.{units_in-append, units_in-nil, units_in_element}
use Rattle.object_table.specs.Sizes.{object_size, list_size}

pub object_size-is : (o : MosObj) → units_in (element (name_of fields.MosObjTag) (mos_obj_events o)) ≡ object_size o
unfolding object_size
object_size-is o = refl

objects-sum : (xs : List MosObj) → units_in (objects_events xs) ≡ sum_by object_size xs
unfolding objects_events object_size
objects-sum [] = units_in-nil
objects-sum (x ∷ xs) =
    units_in-append (element (name_of fields.MosObjTag) (mos_obj_events x)) (objects_events xs)
    ∙ ap (λ n. units_in (element (name_of fields.MosObjTag) (mos_obj_events x)) + n) (objects-sum xs)
    ∙ sym (sum_by-cons object_size x xs)

-- the list is what stands round the objects, and the objects
pub list-sum : (xs : List MosObj) → list_size xs ≡ 25 + sum_by object_size xs
unfolding list_size
list-sum xs = units_in_element (codes "mosListAll") (objects_events xs) refl ∙ ap (λ n. 25 + n) (objects-sum xs)

pub list-none : list_size [] ≡ 25
list-none = list-sum []

sum-remove : (xs : List MosObj) (i : ℕ) (x : MosObj) → i < length xs → x ≡ get_or xs i x → sum_by object_size (remove xs i) + object_size x ≡ sum_by object_size xs
sum-remove [] i x lt is = absurd (omega (arith, lt))
sum-remove (y ∷ xs) zero x lt is =
    let e = sum_by-cons object_size y xs in
    let f : object_size x ≡ object_size y = ap object_size is in
    omega (arith, e, f)
sum-remove (y ∷ xs) (suc i) x lt is =
    let e = sum_by-cons object_size y xs in
    let f = sum_by-cons object_size y (remove xs i) in
    let r = sum-remove xs i x (omega (arith, lt)) is in
    omega (arith, e, f, r)

sum-set : (xs : List MosObj) (i : ℕ) (x o : MosObj) → i < length xs → x ≡ get_or xs i x → sum_by object_size (slice_set xs i o) + object_size x ≡ sum_by object_size xs + object_size o
sum-set [] i x o lt is = absurd (omega (arith, lt))
sum-set (y ∷ xs) zero x o lt is =
    let e = sum_by-cons object_size y xs in
    let n = sum_by-cons object_size o xs in
    let f : object_size x ≡ object_size y = ap object_size is in
    omega (arith, e, f, n)
sum-set (y ∷ xs) (suc i) x o lt is =
    let e = sum_by-cons object_size y xs in
    let n = sum_by-cons object_size y (slice_set xs i o) in
    let r = sum-set xs i x o (omega (arith, lt)) is in
    omega (arith, e, n, r)

-- one taken out, one exchanged, one more
pub list-remove : (xs : List MosObj) (i : ℕ) (x : MosObj) → i < length xs → x ≡ get_or xs i x → list_size (remove xs i) + object_size x ≡ list_size xs
list-remove xs i x lt is =
    let a = list-sum xs in
    let b = list-sum (remove xs i) in
    let s = sum-remove xs i x lt is in
    omega (arith, a, b, s)

pub list-set : (xs : List MosObj) (i : ℕ) (x o : MosObj) → i < length xs → x ≡ get_or xs i x → list_size (slice_set xs i o) + object_size x ≡ list_size xs + object_size o
list-set xs i x o lt is =
    let a = list-sum xs in
    let b = list-sum (slice_set xs i o) in
    let s = sum-set xs i x o lt is in
    omega (arith, a, b, s)

pub list-push : (xs : List MosObj) (o : MosObj) → list_size (xs ++ o ∷ []) ≡ list_size xs + object_size o
list-push xs o =
    let a = list-sum xs in
    let b = list-sum (xs ++ o ∷ []) in
    let s = sum_by-append object_size xs (o ∷ []) in
    let e = sum_by-cons object_size o [] in
    omega (arith, a, b, s, e)
