-- Keys.
use Rattle.std.proofs.Common.{◌≡◌, Bool, true, false, cond, List, [], ◌∷◌, ◌++◌, refl, sym, ap, ◌∙◌, subst}
use Rattle.std.specs.Prelude.{Some, is_some}
use Rattle.std.specs.Bool.{Decides}
use Rattle.std.specs.BTreeMap.{get, is_at, BTreeMap, IsEmpty}
use Rattle.std.specs.Map.{lookup}
use Rattle.std.specs.Cmp.Lexicographic.{slice_cmp}
use Rattle.std.specs.Ordering.{nat_cmp}
use Rattle.std.specs.Str.{bytes_eq}
use Rattle.std.proofs.lemmas.List.{append-nil}
use Rattle.std.proofs.lemmas.List.Concat.{flat_map-append}
use Rattle.std.proofs.lemmas.Slice.Eq.{bytes_eq-Decides}
use Rattle.std.proofs.lemmas.Map.Text.{is_eq-slice_cmp}
use Rattle.mos_tables.specs.Tables.{has_keys}
use Rattle.mos_tables.specs.declared.table.Table.{Table}
use Rattle.mos_grammar.specs.Records.{key_of, keys}
use Rattle.mos_grammar.specs.Records.{Child as ChildOf}
use Rattle.mos_elements.specs.Keys.{Holds}
use Rattle.mos_elements.specs.Parts.{keys_in}
use Rattle.mos_fields.specs.Characters.{Text}
use Rattle.mos_fields.specs.Fields.{same}
use Rattle.mos_fields.specs.Forms.{among}
use Rattle.mos_fields.proofs.WordLemmas.{same_is, same_self}

pub among_append : (x : Text) (a b : List Text) → among x (a ++ b) ≡ cond (among x a) true (among x b)
among_append x [] b = refl
among_append x (y ∷ a) b = go (same x y) (among_append x a b)
  where
    go : (t : Bool) → among x (a ++ b) ≡ cond (among x a) true (among x b) → cond t true (among x (a ++ b)) ≡ cond (cond t true (among x a)) true (among x b)
    go true e = refl
    go false e = e

-- ---- the keys of a record in a map

pub holds_none : {V : Type 0} (m : BTreeMap Text V) → IsEmpty m → Holds m []
holds_none m e = record { has = λ x. sym (ap (λ es. is_some (lookup (is_at (slice_cmp nat_cmp x)) es)) e) }

same_bytes : (x y : Text) → bytes_eq x y ≡ same x y
same_bytes x y = let d = bytes_eq-Decides x y in go (bytes_eq x y) (same x y) refl refl d
  where
    go : (b c : Bool) → bytes_eq x y ≡ b → same x y ≡ c → Decides (bytes_eq x y) (x ≡ y) → b ≡ c
    go true true e f d = refl
    go false false e f d = refl
    go true false e f d = absurd (let t : same x y ≡ true = subst (λ z. same x z ≡ true) (d.0 e) (same_self x) in cc)
    go false true e f d = absurd (let t : bytes_eq x y ≡ true = d.1 (same_is x y f) in cc)

at_key : (k q : Text) → is_at (slice_cmp nat_cmp k) q ≡ same k q
at_key k q = is_eq-slice_cmp k q ∙ same_bytes k q

same_flip : (x y : Text) → same x y ≡ same y x
same_flip x y = go (same x y) (same y x) refl refl
  where
    go : (b c : Bool) → same x y ≡ b → same y x ≡ c → b ≡ c
    go true true e f = refl
    go false false e f = refl
    go true false e f = absurd (let t : same y x ≡ true = subst (λ z. same z x ≡ true) (same_is x y e) (same_self x) in cc)
    go false true e f = absurd (let t : same x y ≡ true = subst (λ z. same z y ≡ true) (same_is y x f) (same_self y) in cc)

pub holds_more : {V : Type 0} (m n : BTreeMap Text V) (k : Text) (v : V) (ks : List Text) → ((q : Text) → get (slice_cmp nat_cmp) n q ≡ cond (is_at (slice_cmp nat_cmp k) q) (Some v) (get (slice_cmp nat_cmp) m q))
    → Holds m ks → Holds n (ks ++ k ∷ [])
holds_more {V} m n k v ks u h = record { has = λ x. among_append x ks (k ∷ []) ∙ go x (same x k) refl }
  where
    go : (x : Text) (b : Bool) → same x k ≡ b → cond (among x ks) true (cond (same x k) true false) ≡ is_some (get (slice_cmp nat_cmp) n x)
    go x true e =
        let a : is_at (slice_cmp nat_cmp k) x ≡ true = at_key k x ∙ (same_flip k x ∙ e) in
        ap (λ z. cond (among x ks) true (cond z true false)) e ∙ (either (among x ks) ∙ sym (ap is_some (u x ∙ ap (λ z. cond z (Some v) (get (slice_cmp nat_cmp) m x)) a)))
      where
        either : (b : Bool) → cond b true true ≡ true
        either true = refl
        either false = refl
    go x false e =
        let a : is_at (slice_cmp nat_cmp k) x ≡ false = at_key k x ∙ (same_flip k x ∙ e) in
        ap (λ z. cond (among x ks) true (cond z true false)) e ∙ (itself (among x ks) ∙ (h.has x ∙ sym (ap is_some (u x ∙ ap (λ z. cond z (Some v) (get (slice_cmp nat_cmp) m x)) a))))
      where
        itself : (b : Bool) → cond b true false ≡ b
        itself true = refl
        itself false = refl

pub holds_same : {V : Type 0} (m n : BTreeMap Text V) (ks : List Text) → n.entries ≡ m.entries → Holds m ks → Holds n ks
holds_same m n ks e h = record { has = λ x. h.has x ∙ sym (ap (λ es. is_some (lookup (is_at (slice_cmp nat_cmp x)) es)) e) }

-- the keys behind one more child
pub keys_more : (t : Table) (cs : List ChildOf) (c : ChildOf) → has_keys t ≡ true → keys t (cs ++ c ∷ []) ≡ keys t cs ++ key_of c.1
unfolding keys
keys_more t cs c h = rw h (flat_map-append (λ (d : ChildOf). key_of d.1) cs (c ∷ []) ∙ ap (λ z. keys_in cs ++ z) (append-nil (key_of c.1)))

pub keys_none : (t : Table) (cs : List ChildOf) → has_keys t ≡ false → keys t cs ≡ []
unfolding keys
keys_none t cs h = rw h refl

pub holds_start : {V : Type 0} (t : Table) (m : BTreeMap Text V) → Holds m [] → Holds m (keys t [])
unfolding keys
holds_start t m h = go (has_keys t)
  where
    go : (b : Bool) → Holds m (cond b [] [])
    go true = h
    go false = h
