-- Records one after another, with keys or without.
use Rattle.std.proofs.Common.{◌≡◌, suc, Some, Bool, true, false, cond, List, [], ◌∷◌, ◌++◌, map, refl, sym, ap, subst, ◌∙◌, append_assoc, arith}
use Rattle.std.specs.Prelude.{◌≢◌}
use Rattle.std.specs.List.{AllByRecursion}
use Rattle.std.proofs.lemmas.List.{append-nil}
use Rattle.std.proofs.lemmas.List.Elements.{recursion_from_All}
use Rattle.mos_fields.specs.Characters.{Text}
use Rattle.mos_fields.specs.Fields.{name_of, same}
use Rattle.mos_fields.specs.Forms.{among, reads}
use Rattle.mos_fields.specs.declared.field.Field.{Field}
use Rattle.mos_fields.specs.declared.form.Form.TheVariants as forms
use Rattle.mos_tables.specs.declared.table.Table.{Table}
use Rattle.mos_tables.specs.Tables.{has_keys}
use Rattle.mos_tables.specs.Events.{Event}
use Rattle.mos_grammar.specs.Records.{Child, with_aim, key_of, keys}
use Rattle.mos_cursor.proofs.Roles.{same_is}
use Rattle.mos_values.specs.Distinct.{AreDistinct}
use Rattle.mos_values.specs.Parts.{joined, element_with}
use Rattle.encoding_laws.proofs.Pieces.{Canonical}
use Rattle.encoding_laws.proofs.Lean.{keys_push, keys_other}
use Rattle.encoding_laws.proofs.Assembled.{HasNoKey}
use Rattle.encoding_laws.proofs.KindSegments.{record_child, RecordsFollow}

-- ---- keys

-- each of the texts is apart from those before it
abbrev pub Fresh : List Text → List Text → Type 0
Fresh earlier [] = Unit {0}
Fresh earlier (x ∷ xs) = (among x earlier ≡ false) × Fresh (earlier ++ x ∷ []) xs

abbrev IsApartFrom : List Text → Text → Type 0
IsApartFrom earlier y = among y earlier ≡ false

among_push : (y : Text) (xs : List Text) (x : Text) → among y xs ≡ false → same y x ≡ false → among y (xs ++ x ∷ []) ≡ false
among_push y [] x h e = rw e refl
among_push y (z ∷ xs) x h e = go (same y z) h (λ k. among_push y xs x k e)
  where
    go : (b : Bool) → cond b true (among y xs) ≡ false → (among y xs ≡ false → among y (xs ++ x ∷ []) ≡ false) → cond b true (among y (xs ++ x ∷ [])) ≡ false
    go true h ih = absurd cc
    go false h ih = ih h

not_same : (x y : Text) → (x ≡ y → ⊥) → same y x ≡ false
not_same x y d = go (same y x) refl
  where
    go : (b : Bool) → same y x ≡ b → b ≡ false
    go false e = refl
    go true e = absurd (d (sym (same_is y x e)))

abbrev IsOther : Text → Text → Type 0
IsOther x y = x ≢ y

apart_push : (earlier : List Text) (x : Text) (ys : List Text) → AllByRecursion (IsApartFrom earlier) ys → AllByRecursion (IsOther x) ys → AllByRecursion (IsApartFrom (earlier ++ x ∷ [])) ys
apart_push earlier x [] a d = tt
apart_push earlier x (y ∷ ys) a d = (among_push y earlier x a.0 (not_same x y d.0), apart_push earlier x ys a.1 d.1)

fresh_from : (earlier xs : List Text) → AllByRecursion (IsApartFrom earlier) xs → AreDistinct xs → Fresh earlier xs
fresh_from earlier [] a h = tt
fresh_from earlier (x ∷ xs) a h =
    let d : AllByRecursion (IsOther x) xs = recursion_from_All (IsOther x) xs (λ k d l. h 0 (suc k) d (omega arith) (omega (arith, l))) in
    (a.0, fresh_from (earlier ++ x ∷ []) xs (apart_push earlier x xs a.1 d) (λ i j d l m. h (suc i) (suc j) d (omega (arith, l)) (omega (arith, m))))

none_earlier : (xs : List Text) → AllByRecursion (IsApartFrom []) xs
none_earlier [] = tt
none_earlier (x ∷ xs) = (refl, none_earlier xs)

pub fresh : (xs : List Text) → AreDistinct xs → Fresh [] xs
fresh xs h = fresh_from [] xs (none_earlier xs) h

pub reads_key : (taken : List Text) (x : Text) → among x taken ≡ false → reads forms.Key [] x ≡ Some x → reads forms.Key taken x ≡ Some x
unfolding reads
reads_key taken x f h = rw f h

pub keys_keyless : (t : Table) (b xs : List Child) → AllByRecursion HasNoKey xs → keys t (b ++ xs) ≡ keys t b
keys_keyless t b [] a = ap (keys t) (append-nil b)
keys_keyless t b (x ∷ xs) a = ap (keys t) (sym (append_assoc b (x ∷ []) xs)) ∙ keys_keyless t (b ++ x ∷ []) xs a.1 ∙ keys_other t b x a.0

pub no_keys_yet : (t : Table) → keys t [] ≡ []
unfolding keys
no_keys_yet t = go (has_keys t)
  where
    go : (b : Bool) → cond {A = List Text} b [] [] ≡ []
    go true = refl
    go false = refl

pub no_keys : (t : Table) (b : List Child) → has_keys t ≡ false → keys t b ≡ []
unfolding keys
no_keys t b h = rw h refl

-- ---- records

-- records with keys, which are apart
pub keyed_follow : {A : Type 0} (t : Table) (taken : List Text) (f : Field) (u : Table) (inner : A → List Event) (ident : A → Text) → has_keys t ≡ true → ((b : List Child) → with_aim b u ≡ u) → ((x : A) → key_of (element_with (name_of f) [] (inner x)) ≡ ident x ∷ [])
    → (xs : List A) → AllByRecursion (λ (x : A). (ks : List Text) → among (ident x) ks ≡ false → Canonical u ks (inner x)) xs → (b : List Child) (earlier : List Text) → keys t b ≡ earlier → Fresh earlier (map ident xs) → RecordsFollow t taken b f u inner xs
keyed_follow t taken f u inner ident h w k [] g b earlier e d = tt
keyed_follow {A = A} t taken f u inner ident h w k (x ∷ xs) g b earlier e d =
    let c : Canonical u (keys t b) (inner x) = g.0 (keys t b) (ap (among (ident x)) e ∙ d.0) in
    let n : keys t (b ++ record_child f [] (inner x) ∷ []) ≡ earlier ++ ident x ∷ [] =
    keys_push t b (record_child f [] (inner x)) ∙ ap (λ (z : Bool). keys t b ++ cond z (key_of (element_with (name_of f) [] (inner x))) []) h ∙ ap (λ (z : List Text). keys t b ++ z) (k x) ∙ ap (λ (z : List Text). z ++ ident x ∷ []) e in
    (subst (λ (z : Table). Canonical z (keys t b) (inner x)) (sym (w b)) c, keyed_follow t taken f u inner ident h w k xs g.1 (b ++ record_child f [] (inner x) ∷ []) (earlier ++ ident x ∷ []) n d.1)

-- records without keys beside each other
pub unkeyed_follow : {A : Type 0} (t : Table) (taken : List Text) (f : Field) (u : Table) (inner : A → List Event) → has_keys t ≡ false → ((b : List Child) → with_aim b u ≡ u)
    → (xs : List A) → AllByRecursion (λ (x : A). Canonical u [] (inner x)) xs → (b : List Child) → RecordsFollow t taken b f u inner xs
unkeyed_follow t taken f u inner h w [] g b = tt
unkeyed_follow {A = A} t taken f u inner h w (x ∷ xs) g b =
    let c : Canonical u (keys t b) (inner x) = subst (λ (z : List Text). Canonical u z (inner x)) (sym (no_keys t b h)) g.0 in
    (subst (λ (z : Table). Canonical z (keys t b) (inner x)) (sym (w b)) c, unkeyed_follow t taken f u inner h w xs g.1 (b ++ record_child f [] (inner x) ∷ []))

pub joined_append : (xs ys : List (List Event)) → joined (xs ++ ys) ≡ joined xs ++ joined ys
joined_append [] ys = refl
joined_append (x ∷ xs) ys = ap (λ (z : List Event). x ++ z) (joined_append xs ys) ∙ sym (append_assoc x (joined xs) (joined ys))

pub joined_behind : (xs : List (List Event)) (y : List Event) → joined (xs ++ y ∷ []) ≡ joined xs ++ y
joined_behind xs y = joined_append xs (y ∷ []) ∙ ap (λ (z : List Event). joined xs ++ z) (append-nil y)
