-- What may follow children may follow them also where some of them are left out that need not be there, or others are
-- added that no column takes.
use Rattle.std.proofs.Common.{◌≡◌, ℕ, ◌+◌, ◌≤◌, ◌<◌, Bool, true, false, cond, List, [], ◌∷◌, ◌++◌, Option, Some, None, refl, sym, ap, ◌∙◌, arith, inl, inr}
use Rattle.std.specs.Prelude.{◌&&◌, not, nat_lt, nat_le}
use Rattle.std.specs.List.{AllByRecursion, flat_map}
use Rattle.std.proofs.lemmas.List.{append-nil}
use Rattle.std.proofs.lemmas.Grind.{flat_map-append}
use Rattle.std.proofs.lemmas.Bool.{ltb-true, lt-ltb, lt-leb}
use Rattle.std.proofs.lemmas.Bool.Decides.{leb_tells}
use Rattle.mos_fields.specs.Characters.{Text}
use Rattle.mos_fields.specs.Fields.{name_of, same_field}
use Rattle.mos_fields.specs.declared.field.Field.{Field}
use Rattle.mos_fields.specs.declared.field.Field.TheVariants as fields
use Rattle.mos_tables.specs.declared.aim.Aim.{Aim}
use Rattle.mos_tables.specs.declared.aim.Aim.TheVariants.{Nowhere, AtStory, AtItem}
use Rattle.mos_tables.specs.declared.column.Column.{Column}
use Rattle.mos_tables.specs.declared.column.Often.{Often}
use Rattle.mos_tables.specs.declared.column.Often.TheVariants.{One, Optional, Any, Many, Count}
use Rattle.mos_tables.specs.declared.table.Table.{Table}
use Rattle.mos_tables.specs.declared.table.Table.TheVariants as tables
use Rattle.mos_tables.specs.Tables.{columns, is_ack, has_keys, ack_columns, group_columns}
use Rattle.mos_grammar.specs.declared.fault.Fault.{Fault}
use Rattle.mos_grammar.specs.declared.fault.Fault.TheVariants.{Twice as twice, Order as out_of_order}
use Rattle.mos_grammar.specs.Records.{Child, times, seen_of, least_count, is_single, is_full, is_optional, is_named, column_of, before_column, any_seen, lacks, lacking, repeated, or_else, field_fault, if_field, end_fault, has_leaf, aim_of, key_of, keys}
use Rattle.mos_grammar.proofs.Seen.{or_false, not_true, times_push, not_lacking, lacking_front, seen_push}
use Rattle.mos_cursor.proofs.Roles.{no_or_else}
use Rattle.mos_cursor.proofs.Columns.{column_of-all}
use Rattle.encoding_laws.proofs.Admitted.{HasRoom, Opens}

-- ---- how often fields were seen

-- a field was seen as often, or less often where it may be absent
abbrev pub IsLean : List Field → List Field → Column → Type 0
IsLean s r d = (times d.field r ≤ times d.field s) × (is_optional d.often ≡ false → times d.field r ≡ times d.field s)

lean_self : (s : List Field) (cs : List Column) → AllByRecursion (IsLean s s) cs
lean_self s [] = tt
lean_self s (d ∷ cs) = ((omega arith, λ e. refl), lean_self s cs)

lean_pushed : (s r : List Field) (f : Field) (cs : List Column) → AllByRecursion (IsLean s r) cs → AllByRecursion (IsLean (s ++ f ∷ []) (r ++ f ∷ [])) cs
lean_pushed s r f [] h = tt
lean_pushed s r f (d ∷ cs) h = (rw (times_push d.field f s, times_push d.field f r) (go (same_field d.field f) h.0), lean_pushed s r f cs h.1)
  where
    go : (b : Bool) → IsLean s r d → (cond b (times d.field r + 1) (times d.field r) ≤ cond b (times d.field s + 1) (times d.field s)) × (is_optional d.often ≡ false → cond b (times d.field r + 1) (times d.field r) ≡ cond b (times d.field s + 1) (times d.field s))
    go true k = (omega (arith, k.0), λ e. ap (λ (z : ℕ). z + 1) (k.1 e))
    go false k = k

-- one more field of which columns don't ask
abbrev pub MayLack : Field → Column → Type 0
MayLack f d = same_field d.field f ≡ true → is_optional d.often ≡ true

lean_left_out : (s r : List Field) (f : Field) (cs : List Column) → AllByRecursion (IsLean s r) cs → AllByRecursion (MayLack f) cs → AllByRecursion (IsLean (s ++ f ∷ []) r) cs
lean_left_out s r f [] h m = tt
lean_left_out s r f (d ∷ cs) h m = (rw (times_push d.field f s) (go (same_field d.field f) refl h.0), lean_left_out s r f cs h.1 m.1)
  where
    go : (b : Bool) → same_field d.field f ≡ b → IsLean s r d → (times d.field r ≤ cond b (times d.field s + 1) (times d.field s)) × (is_optional d.often ≡ false → times d.field r ≡ cond b (times d.field s + 1) (times d.field s))
    go true q k = (omega (arith, k.0), λ e. absurd (let p = m.0 q in cc))
    go false q k = k

-- no column takes the field
abbrev pub IsApart : Field → Column → Type 0
IsApart f d = same_field d.field f ≡ false

lean_added : (s r : List Field) (f : Field) (cs : List Column) → AllByRecursion (IsLean s r) cs → AllByRecursion (IsApart f) cs → AllByRecursion (IsLean s (r ++ f ∷ [])) cs
lean_added s r f [] h m = tt
lean_added s r f (d ∷ cs) h m = (rw (times_push d.field f r, m.0) h.0, lean_added s r f cs h.1 m.1)

pub apart_may_lack : (f : Field) (cs : List Column) → AllByRecursion (IsApart f) cs → AllByRecursion (MayLack f) cs
apart_may_lack f [] m = tt
apart_may_lack f (d ∷ cs) m = ((λ e. absurd (let p = m.0 in cc)), apart_may_lack f cs m.1)

-- ---- what children aim at, and their keys

abbrev first_aim : Aim → Aim → Aim
first_aim Nowhere a = a
first_aim AtStory a = AtStory
first_aim AtItem a = AtItem

aim_push : (cs : List Child) (c : Child) → aim_of (cs ++ c ∷ []) ≡ first_aim (aim_of cs) (aim_of (c ∷ []))
aim_push [] c = refl
aim_push (d ∷ cs) c = go (same_field d.0 fields.ElementTarget) (has_leaf (name_of fields.ItemID) d.1) (aim_push cs c)
  where
    go : (b i : Bool) → aim_of (cs ++ c ∷ []) ≡ first_aim (aim_of cs) (aim_of (c ∷ [])) → cond b (cond i AtItem AtStory) (aim_of (cs ++ c ∷ [])) ≡ first_aim (cond b (cond i AtItem AtStory) (aim_of cs)) (aim_of (c ∷ []))
    go true true ih = refl
    go true false ih = refl
    go false i ih = ih

first_nowhere : (a : Aim) → first_aim a Nowhere ≡ a
first_nowhere Nowhere = refl
first_nowhere AtStory = refl
first_nowhere AtItem = refl

aim_other : (cs : List Child) (c : Child) → same_field c.0 fields.ElementTarget ≡ false → aim_of (cs ++ c ∷ []) ≡ aim_of cs
aim_other cs c e =
    let p : aim_of (c ∷ []) ≡ Nowhere = rw e refl in
    aim_push cs c ∙ ap (first_aim (aim_of cs)) p ∙ first_nowhere (aim_of cs)

pub keys_push : (t : Table) (cs : List Child) (c : Child) → keys t (cs ++ c ∷ []) ≡ keys t cs ++ cond (has_keys t) (key_of c.1) []
unfolding keys
keys_push t cs c = go (has_keys t)
  where
    key : Child → List Text
    key d = key_of d.1

    go : (b : Bool) → cond b (flat_map key (cs ++ c ∷ [])) [] ≡ cond b (flat_map key cs) [] ++ cond b (key_of c.1) []
    go true = flat_map-append key cs (c ∷ []) ∙ ap (λ (z : List Text). flat_map key cs ++ z) (append-nil (key_of c.1))
    go false = refl

pub keys_other : (t : Table) (cs : List Child) (c : Child) → key_of c.1 ≡ [] → keys t (cs ++ c ∷ []) ≡ keys t cs
keys_other t cs c e = keys_push t cs c ∙ ap (λ (z : List Text). keys t cs ++ z) (go (has_keys t)) ∙ append-nil (keys t cs)
  where
    go : (b : Bool) → cond b (key_of c.1) [] ≡ []
    go true = e
    go false = refl

-- ---- children

-- The second children are the first ones, with some left out that need not be there, and with others that no column takes.
pub record Lean (t : Table) (p b : List Child) : Type 0 where
  pub counts : AllByRecursion (IsLean (seen_of t p) (seen_of t b)) (columns t)
  pub same_aim : aim_of b ≡ aim_of p
  pub same_keys : keys t b ≡ keys t p

pub lean_none : (t : Table) → Lean t [] []
lean_none t = record { counts = lean_self (seen_of t []) (columns t); same_aim = refl; same_keys = refl }

pub lean_both : (t : Table) (p b : List Child) (c : Child) → Lean t p b → Lean t (p ++ c ∷ []) (b ++ c ∷ [])
lean_both t p b c l = record {
  counts = rw (seen_push t p c, seen_push t b c) (go (is_ack t && same_field c.0 fields.Status));
  same_aim = aim_push b c ∙ ap (λ (z : Aim). first_aim z (aim_of (c ∷ []))) l.same_aim ∙ sym (aim_push p c);
  same_keys = keys_push t b c ∙ ap (λ (z : List Text). z ++ cond (has_keys t) (key_of c.1) []) l.same_keys ∙ sym (keys_push t p c);
}
  where
    go : (b1 : Bool) → AllByRecursion (IsLean (cond b1 (fields.RoID ∷ fields.RoStatus ∷ []) (seen_of t p ++ c.0 ∷ [])) (cond b1 (fields.RoID ∷ fields.RoStatus ∷ []) (seen_of t b ++ c.0 ∷ []))) (columns t)
    go true = lean_self (fields.RoID ∷ fields.RoStatus ∷ []) (columns t)
    go false = lean_pushed (seen_of t p) (seen_of t b) c.0 (columns t) l.counts

-- The child adds no aim and no key, and ends no group.
pub record IsQuiet (t : Table) (c : Child) : Type 0 where
  pub no_group_end : (is_ack t && same_field c.0 fields.Status) ≡ false
  pub no_target : same_field c.0 fields.ElementTarget ≡ false
  pub no_key : key_of c.1 ≡ []

quiet_seen : (t : Table) (p : List Child) (c : Child) → IsQuiet t c → seen_of t (p ++ c ∷ []) ≡ seen_of t p ++ c.0 ∷ []
quiet_seen t p c q = seen_push t p c ∙ rw q.no_group_end refl

pub lean_left : (t : Table) (p b : List Child) (c : Child) → Lean t p b → IsQuiet t c → AllByRecursion (MayLack c.0) (columns t) → Lean t (p ++ c ∷ []) b
lean_left t p b c l q m = record {
  counts = rw (quiet_seen t p c q) (lean_left_out (seen_of t p) (seen_of t b) c.0 (columns t) l.counts m);
  same_aim = l.same_aim ∙ sym (aim_other p c q.no_target);
  same_keys = l.same_keys ∙ sym (keys_other t p c q.no_key);
}

pub lean_right : (t : Table) (p b : List Child) (c : Child) → Lean t p b → IsQuiet t c → AllByRecursion (IsApart c.0) (columns t) → Lean t p (b ++ c ∷ [])
lean_right t p b c l q m = record {
  counts = rw (quiet_seen t b c q) (lean_added (seen_of t p) (seen_of t b) c.0 (columns t) l.counts m);
  same_aim = aim_other b c q.no_target ∙ l.same_aim;
  same_keys = keys_other t b c q.no_key ∙ l.same_keys;
}

-- ---- faults

none_fewer : (x y : ℕ) → x ≤ y → nat_lt 0 y ≡ false → nat_lt 0 x ≡ false
none_fewer x y w e = not_true (nat_lt 0 x) (λ k. (let z : nat_lt 0 y ≡ true = lt-ltb 0 y (omega (arith, w, ltb-true 0 x k)) in absurd (let q : true ≡ false = sym z ∙ e in cc)))

any_lean : (s r : List Field) (cs : List Column) → AllByRecursion (IsLean s r) cs → any_seen cs s ≡ false → any_seen cs r ≡ false
any_lean s r [] l h = refl
any_lean s r (d ∷ cs) l h =
    let p = or_false (nat_lt 0 (times d.field s)) (any_seen cs s) h in
    let q : nat_lt 0 (times d.field r) ≡ false = none_fewer (times d.field r) (times d.field s) l.0.0 p.0 in
    rw q (any_lean s r cs l.1 p.1)

fewer_single : (o : Often) (x y : ℕ) → x ≤ y → (is_single o && nat_lt 0 y) ≡ false → (is_single o && nat_lt 0 x) ≡ false
fewer_single o x y w e = go (is_single o) x y w e
  where
    go : (b : Bool) (x y : ℕ) → x ≤ y → (b && nat_lt 0 y) ≡ false → (b && nat_lt 0 x) ≡ false
    go false x y w e = refl
    go true x y w e = none_fewer x y w e

not_le : (a b : ℕ) → nat_le a b ≡ false → b < a
not_le a b h = elim (leb_tells a b) [ inl p ↦ (let q = p.0 in absurd cc) | inr p ↦ p.1 ]

fewer_full : (o : Often) (x y : ℕ) → x ≤ y → is_full o y ≡ false → is_full o x ≡ false
fewer_full One x y w e = refl
fewer_full Optional x y w e = refl
fewer_full Any x y w e = refl
fewer_full Many x y w e = refl
fewer_full (Count m) x y w e = lt-leb m x (omega (arith, w, not_le m y e))

lacks_lean : (s r : List Field) (d : Column) → IsLean s r d → lacks d s ≡ false → lacks d r ≡ false
lacks_lean s r d l h = go d.often refl
  where
    same : is_optional d.often ≡ false → lacks d r ≡ false
    same e = ap (λ (z : ℕ). nat_lt z (least_count d.often)) (l.1 e) ∙ h

    go : (o : Often) → d.often ≡ o → lacks d r ≡ false
    go Optional e = not_true (lacks d r) (λ k. absurd (omega (arith, ltb-true (times d.field r) 0 (sym (ap (λ (z : Often). nat_lt (times d.field r) (least_count z)) e) ∙ k))))
    go One e = same (ap is_optional e)
    go Any e = same (ap is_optional e)
    go Many e = same (ap is_optional e)
    go (Count m) e = same (ap is_optional e)

lacking_lean : (s r : List Field) (cs : List Column) → AllByRecursion (IsLean s r) cs → lacking cs s ≡ None → lacking cs r ≡ None
lacking_lean s r [] l h = refl
lacking_lean s r (d ∷ cs) l h =
    let p = not_lacking d cs s h in
    rw (lacks_lean s r d l.0 p.0) (lacking_lean s r cs l.1 p.1)

not_either : (b d : Bool) (f g : Fault) → cond b (Some f) (cond d (Some g) None) ≡ None → (b ≡ false) × (d ≡ false)
not_either true d f g h = absurd cc
not_either false true f g h = absurd cc
not_either false false f g h = (refl, refl)

repeated_lean : (s r : List Field) (n : Text) (cs : List Column) → AllByRecursion (IsLean s r) cs → repeated cs s n ≡ None → repeated cs r n ≡ None
repeated_lean s r n [] l h = refl
repeated_lean s r n (d ∷ cs) l h = go (is_named d n) h (λ e. repeated_lean s r n cs l.1 e)
  where
    go : (b : Bool) → cond b (cond (is_single d.often && nat_lt 0 (times d.field s)) (Some (twice d.field)) (cond (any_seen cs s) (Some (out_of_order d.field)) None)) (repeated cs s n) ≡ None
        → (repeated cs s n ≡ None → repeated cs r n ≡ None) → cond b (cond (is_single d.often && nat_lt 0 (times d.field r)) (Some (twice d.field)) (cond (any_seen cs r) (Some (out_of_order d.field)) None)) (repeated cs r n) ≡ None
    go true h ih =
        let p = not_either (is_single d.often && nat_lt 0 (times d.field s)) (any_seen cs s) (twice d.field) (out_of_order d.field) h in
        let q : (is_single d.often && nat_lt 0 (times d.field r)) ≡ false = fewer_single d.often (times d.field r) (times d.field s) l.0.0 p.0 in
        let k : any_seen cs r ≡ false = any_lean s r cs l.1 p.1 in
        rw (q, k) refl
    go false h ih = ih h

before_all : (P : Column → Type 0) (n : Text) (cs : List Column) → AllByRecursion P cs → AllByRecursion P (before_column cs n)
before_all P n [] a = tt
before_all P n (d ∷ cs) a = go (is_named d n) (before_all P n cs a.1)
  where
    go : (b : Bool) → AllByRecursion P (before_column cs n) → AllByRecursion P (cond b [] (d ∷ before_column cs n))
    go true ih = tt
    go false ih = (a.0, ih)

field_lean : (s r : List Field) (n : Text) (cs : List Column) → AllByRecursion (IsLean s r) cs → field_fault cs s n ≡ None → field_fault cs r n ≡ None
field_lean s r n cs l h =
    let p = no_or_else (repeated cs s n) (lacking (before_column cs n) s) h in
    let q : repeated cs r n ≡ None = repeated_lean s r n cs l p.0 in
    let k : lacking (before_column cs n) r ≡ None = lacking_lean s r (before_column cs n) (before_all (IsLean s r) n cs l) p.1 in
    ap (λ (z : Option Fault). or_else z (lacking (before_column cs n) r)) q ∙ k

-- an element that may stand behind the first may stand behind the second
pub lean_opens : (t : Table) (p b : List Child) (n : Text) → Lean t p b → Opens t p n → Opens t b n
lean_opens t p b n l o = record {
  outside = outside (column_of (columns t) n) o.outside;
  room = room (column_of (columns t) n) refl o.room;
}
  where
    outside : (c : Option Column) → if_field c (field_fault (columns t) (seen_of t p) n) ≡ None → if_field c (field_fault (columns t) (seen_of t b) n) ≡ None
    outside None h = refl
    outside (Some c) h = field_lean (seen_of t p) (seen_of t b) n (columns t) l.counts h

    room : (c : Option Column) → column_of (columns t) n ≡ c → HasRoom (seen_of t p) c → HasRoom (seen_of t b) c
    room None e h = tt
    room (Some c) e h =
        let k : IsLean (seen_of t p) (seen_of t b) c = column_of-all (IsLean (seen_of t p) (seen_of t b)) (columns t) n c l.counts e in
        fewer_full c.often (times c.field (seen_of t b)) (times c.field (seen_of t p)) k.0 h

all_cut : (P : Column → Type 0) (xs ys : List Column) → AllByRecursion P (xs ++ ys) → AllByRecursion P xs × AllByRecursion P ys
all_cut P [] ys a = (tt, a)
all_cut P (x ∷ xs) ys a = let k = all_cut P xs ys a.1 in ((a.0, k.0), k.1)

-- by whether a group was begun
ack_ends : (s r : List Field) → AllByRecursion (IsLean s r) (ack_columns ++ group_columns) → (b d : Bool) → any_seen group_columns s ≡ b → any_seen group_columns r ≡ d
    → lacking (cond (not b) ack_columns (ack_columns ++ group_columns)) s ≡ None → lacking (cond (not d) ack_columns (ack_columns ++ group_columns)) r ≡ None
ack_ends s r l true true x y h = lacking_lean s r (ack_columns ++ group_columns) l h
ack_ends s r l true false x y h = lacking_lean s r ack_columns (all_cut (IsLean s r) ack_columns group_columns l).0 (lacking_front ack_columns group_columns s h)
ack_ends s r l false false x y h = lacking_lean s r ack_columns (all_cut (IsLean s r) ack_columns group_columns l).0 h
ack_ends s r l false true x y h = let p = any_lean s r group_columns (all_cut (IsLean s r) ack_columns group_columns l).1 x in absurd (clash (any_seen group_columns r) y p)
  where
    clash : (b : Bool) → b ≡ true → b ≡ false → ⊥
    clash true p q = cc
    clash false p q = cc

-- and where the record may end
pub lean_ends : (t : Table) (p b : List Child) → Lean t p b → end_fault t p ≡ None → end_fault t b ≡ None
unfolding end_fault
lean_ends tables.RoAck p b l h = ack_ends (seen_of tables.RoAck p) (seen_of tables.RoAck b) l.counts (any_seen group_columns (seen_of tables.RoAck p)) (any_seen group_columns (seen_of tables.RoAck b)) refl refl h
lean_ends t p b l h = lacking_lean (seen_of t p) (seen_of t b) (columns t) l.counts h
