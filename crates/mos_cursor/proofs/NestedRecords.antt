-- Records of one table inside another, and the values that they are read as.
use Rattle.std.proofs.Common.{◌≡◌, List, [], ◌∷◌, ◌++◌, map, refl, sym, ap, subst, ◌∙◌}
use Rattle.std.specs.List.{AllByRecursion, flat_map}
use Rattle.mos_fields.specs.Characters.{Text}
use Rattle.mos_tables.specs.declared.table.Table.{Table}
use Rattle.mos_tables.specs.Events.{Attribute, Event, opens, closes}
use Rattle.mos_grammar.specs.Records.{Child, with_aim}
use Rattle.mos_values.specs.Parts.{element}
use Rattle.mos_cursor.specs.Accepted.{IsGivenTo, IsAccepted, RecordsFit, first_text}
use Rattle.mos_cursor.specs.Inner.{inner_events, Holds}
use Rattle.mos_cursor.specs.Parts.{record_events}
use Rattle.mos_cursor.specs.Slots.{record_of}
use Rattle.mos_cursor.specs.declared.slot.Nested.{Nested}

-- the table of a record that no target changes, and whose start has no attributes
pub record IsPlain (u : Table) : Type 0 where
  pub same_table : (before : List Child) → with_aim before u ≡ u
  pub no_attribute : (g : List Attribute) → IsGivenTo u g → g ≡ []

-- each of them is a record of the table
pub all_hold : (t u : Table) (earlier : List Text) (rs : List Nested) → IsPlain u → RecordsFit t u earlier (map record_of rs) → AllByRecursion (Holds u) rs
all_hold t u earlier [] p h = tt
all_hold t u earlier (r ∷ rs) p h =
    let k : IsAccepted u h.0.taken r.inner = subst (λ (z : Table). IsAccepted z h.0.taken r.inner) (p.same_table h.0.before) h.0.accepted in
    ((h.0.taken, k), all_hold t u (earlier ++ first_text r.inner) rs p h.1)

one_element : (n : Text) (r : Nested) (es : List Event) → (record_of r).given ≡ [] → es ≡ r.inner → record_events n (record_of r) ≡ element n es
one_element n r es g e = ap (λ (z : List Attribute). opens n z ∷ (r.inner ++ closes n ∷ [])) g ∙ ap (λ (z : List Event). opens n [] ∷ (z ++ closes n ∷ [])) (sym e)

pub first_same : (x y : List Event) (xs ys : List (List Event)) → x ∷ xs ≡ y ∷ ys → (x ≡ y) × (xs ≡ ys)
first_same x y xs ys h = (cc, cc)

-- their events are those of the values
pub all_elements : {A : Type 0} (read : A → List Event) (n : Text) (t u : Table) (earlier : List Text) (rs : List Nested) (xs : List A) → IsPlain u → RecordsFit t u earlier (map record_of rs)
    → map read xs ≡ map inner_events rs → flat_map (record_events n) (map record_of rs) ≡ flat_map (λ a. element n (read a)) xs
all_elements read n t u earlier [] [] p h e = refl
all_elements read n t u earlier [] (x ∷ xs) p h e = absurd cc
all_elements read n t u earlier (r ∷ rs) [] p h e = absurd cc
all_elements read n t u earlier (r ∷ rs) (x ∷ xs) p h e =
    let k = first_same (read x) r.inner (map read xs) (map inner_events rs) e in
    let more = all_elements read n t u (earlier ++ first_text r.inner) rs xs p h.1 k.1 in
    ap (λ (z : List Event). z ++ flat_map (record_events n) (map record_of rs)) (one_element n r (read x) (p.no_attribute (record_of r).given h.0.given) k.0)
    ∙ ap (λ (z : List Event). element n (read x) ++ z) more
