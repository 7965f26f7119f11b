-- The code units of the answer that lists the reports of a device and an order, and what one more or another changes in them.
use Rattle.std.proofs.Common.{◌≡◌, ℕ, zero, suc, ◌+◌, ◌<◌, ◌≤◌, List, [], ◌∷◌, ◌++◌, length, map, filter, get_or, slice_set, Bool, true, false, cond, Option, codes, refl, sym, ap, subst, ◌∙◌, if◌then◌else◌, arith}
use Rattle.std.specs.List.{sum_by}
use Rattle.std.proofs.lemmas.List.Sums.{sum_by-append, sum_by-cons}
use Rattle.mos_fields.specs.Characters.{Text}
use Rattle.mos_fields.specs.declared.field.Field.TheVariants as fields
use Rattle.mos_tables.specs.Events.{Event}
use Rattle.mos_values.specs.Parts.{element, maybe, must}
use Rattle.mos_values.specs.Names.{text_or_none}
use Rattle.mos_values.specs.Units.{capped, units_in}
use Rattle.mos_values.specs.Views.{group_events, groups_events, ro_ack_events}
use Rattle.mos_values.proofs.Encoding.{units_in-append, units_in-nil, units_in_element}
use Rattle.mos_values.proofs.Counts.{units_in_must}
use Rattle.status_board.specs.Board.{Report, answer_units, group_of, groups, is_of_order}

-- the code units of what is said of a report
unfoldable pub group_size : Report → ℕ
group_size r = units_in (group_events (group_of r))

group-parts : (r : Report) → units_in (group_events (group_of r))
    ≡ units_in (must fields.StoryID (text_or_none r.1.story)) + (units_in (must fields.ItemID (text_or_none r.1.item)) + (units_in (must fields.ObjID (text_or_none r.1.obj)) + (units_in (maybe fields.ItemChannel r.1.channel) + units_in (must fields.Status r.1.status))))
unfolding group_events
group-parts r =
    let a = must fields.StoryID (text_or_none r.1.story) in
    let b = must fields.ItemID (text_or_none r.1.item) in
    let d = must fields.ObjID (text_or_none r.1.obj) in
    let e = maybe fields.ItemChannel r.1.channel in
    let f = must fields.Status r.1.status in
    let p = units_in-append a (b ++ (d ++ (e ++ (f ++ [])))) in
    let q = units_in-append b (d ++ (e ++ (f ++ []))) in
    let s = units_in-append d (e ++ (f ++ [])) in
    let t = units_in-append e (f ++ []) in
    let u = units_in-append f [] in
    let z = units_in-nil in
    omega (arith, p, q, s, t, u, z)

pub count-group : (r : Report) (ts ti to : Text) (s i o c t a b d e : ℕ) → ts ≡ text_or_none r.1.story → ti ≡ text_or_none r.1.item → to ≡ text_or_none r.1.obj
    → s ≡ capped (units_in (must fields.StoryID ts)) → i ≡ capped (units_in (must fields.ItemID ti)) → o ≡ capped (units_in (must fields.ObjID to)) → c ≡ capped (units_in (maybe fields.ItemChannel r.1.channel)) → t ≡ capped (units_in (must fields.Status r.1.status))
    → a ≡ capped (s + i) → b ≡ capped (a + o) → d ≡ capped (b + c) → e ≡ capped (d + t) → e ≡ capped (units_in (group_events (group_of r)))
count-group r ts ti to s i o c t a b d e x y z p q u v w k l m n =
    let g = group-parts r in
    let x' : units_in (must fields.StoryID ts) ≡ units_in (must fields.StoryID (text_or_none r.1.story)) = ap (λ h. units_in (must fields.StoryID h)) x in
    let y' : units_in (must fields.ItemID ti) ≡ units_in (must fields.ItemID (text_or_none r.1.item)) = ap (λ h. units_in (must fields.ItemID h)) y in
    let z' : units_in (must fields.ObjID to) ≡ units_in (must fields.ObjID (text_or_none r.1.obj)) = ap (λ h. units_in (must fields.ObjID h)) z in
    omega (arith, g, x', y', z', p, q, u, v, w, k, l, m, n)

-- what a report adds to the answer of a device and an order
unfoldable pub weight : ℕ → Text → Report → ℕ
weight d ro r = if is_of_order d ro r then group_size r else 0

sum-groups : (d : ℕ) (ro : Text) (xs : List Report) → units_in (groups_events (groups d ro xs)) ≡ sum_by (weight d ro) xs
unfolding groups_events weight group_size
sum-groups d ro [] = units_in-nil
sum-groups d ro (x ∷ xs) = go (is_of_order d ro x) (sum-groups d ro xs) ∙ sym (sum_by-cons (weight d ro) x xs)
  where
    go : (b : Bool) → units_in (groups_events (groups d ro xs)) ≡ sum_by (weight d ro) xs
        → units_in (groups_events (map group_of (cond b (x ∷ filter (is_of_order d ro) xs) (filter (is_of_order d ro) xs)))) ≡ (if b then group_size x else 0) + sum_by (weight d ro) xs
    go true h = units_in-append (group_events (group_of x)) (groups_events (groups d ro xs)) ∙ ap (λ n. units_in (group_events (group_of x)) + n) h
    go false h = omega (arith, h)

ok-units : units_in (must fields.RoStatus (codes "OK")) ≡ 23
ok-units = units_in_must fields.RoStatus (codes "OK")

-- the answer is what stands round the reports, and the reports
pub answer-sum : (d : ℕ) (ro : Text) (xs : List Report) → answer_units d ro xs ≡ 38 + units_in (must fields.RoID ro) + sum_by (weight d ro) xs
unfolding answer_units ro_ack_events
answer-sum d ro xs =
    let e = units_in_element (codes "roAck") (must fields.RoID ro ++ must fields.RoStatus (codes "OK") ++ groups_events (groups d ro xs)) refl in
    let p = units_in-append (must fields.RoID ro ++ must fields.RoStatus (codes "OK")) (groups_events (groups d ro xs)) in
    let q = units_in-append (must fields.RoID ro) (must fields.RoStatus (codes "OK")) in
    let s = sum-groups d ro xs in
    let o = ok-units in
    omega (arith, e, p, q, s, o)

pub empty-is : (d : ℕ) (ro : Text) → answer_units d ro [] ≡ units_in (must fields.RoID ro) + 38
empty-is d ro = let s = answer-sum d ro [] in omega (arith, s)
