-- Lists of events are cut where their first element begins or ends.
use Rattle.std.proofs.Common.{◌≡◌, true, false, List, [], ◌∷◌, ◌++◌, refl, sym, ap, subst, ◌∙◌}
use Rattle.std.specs.List.{AllByRecursion, flat_map}
use Rattle.std.proofs.lemmas.List.{append_assoc}
use Rattle.std.proofs.lemmas.List.Concat.{flat_map-cons}
use Rattle.mos_fields.specs.Characters.{Text}
use Rattle.mos_tables.specs.Events.{Attribute, Event, leaf, raw, opens, closes}
use Rattle.mos_values.specs.Parts.{element, element_with}

-- neither the start nor the end of a record
abbrev pub IsFlat : Event → Type 0
IsFlat (leaf n g x) = Unit {0}
IsFlat (raw f x) = Unit {0}
IsFlat (opens n g) = ⊥
IsFlat (closes n) = ⊥

-- there is nothing more, or a record begins or ends
abbrev pub Stops : List Event → Type 0
Stops [] = Unit {0}
Stops (leaf n g x ∷ es) = ⊥
Stops (raw f x ∷ es) = ⊥
Stops (opens n g ∷ es) = Unit {0}
Stops (closes n ∷ es) = Unit {0}

-- there is nothing more, or a record ends
abbrev pub Ends : List Event → Type 0
Ends [] = Unit {0}
Ends (leaf n g x ∷ es) = ⊥
Ends (raw f x ∷ es) = ⊥
Ends (opens n g ∷ es) = ⊥
Ends (closes n ∷ es) = Unit {0}

pub ends_stops : (r : List Event) → Ends r → Stops r
ends_stops [] h = tt
ends_stops (leaf n g x ∷ es) h = h
ends_stops (raw f x ∷ es) h = h
ends_stops (opens n g ∷ es) h = tt
ends_stops (closes n ∷ es) h = tt

-- a test has one result
pub false_true : false ≡ true → ⊥
false_true e = absurd cc

-- both parts are the same
abbrev pub Both : {A : Type 0} → A → A → List Event → List Event → Type 0
Both a b r s = (a ≡ b) × (r ≡ s)

pub tails : (d e : Event) (p q : List Event) → d ∷ p ≡ e ∷ q → (d ≡ e) × (p ≡ q)
tails d e p q h = (cc, cc)

flat_stop : (e : Event) (p s : List Event) → IsFlat e → Stops s → s ≡ e ∷ p → ⊥
flat_stop e p [] f g h = absurd cc
flat_stop e p (leaf n a x ∷ es) f g h = g
flat_stop e p (raw k x ∷ es) f g h = g
flat_stop (leaf n' a' x') p (opens n a ∷ es) f g h = absurd cc
flat_stop (raw k x) p (opens n a ∷ es) f g h = absurd cc
flat_stop (opens n' a') p (opens n a ∷ es) f g h = f
flat_stop (closes n') p (opens n a ∷ es) f g h = f
flat_stop (leaf n' a' x') p (closes n ∷ es) f g h = absurd cc
flat_stop (raw k x) p (closes n ∷ es) f g h = absurd cc
flat_stop (opens n' a') p (closes n ∷ es) f g h = f
flat_stop (closes n') p (closes n ∷ es) f g h = f

-- what stands before the first record, and what follows
pub cut : (p q r s : List Event) → AllByRecursion IsFlat p → AllByRecursion IsFlat q → Stops r → Stops s → p ++ r ≡ q ++ s → Both p q r s
cut [] [] r s f g i j h = (refl, h)
cut [] (e ∷ q) r s f g i j h = absurd (flat_stop e (q ++ s) r g.0 i h)
cut (d ∷ p) [] r s f g i j h = absurd (flat_stop d (p ++ r) s f.0 j (sym h))
cut (d ∷ p) (e ∷ q) r s f g i j h =
    let t = tails d e (p ++ r) (q ++ s) h in
    let u = cut p q r s f.1 g.1 i j t.1 in
    let v : d ≡ e = t.0 in
    let w : p ≡ q = u.0 in
    (cc, u.1)

-- ---- values that are read off their events

-- the events of a value of this kind say what it is, and where they end
abbrev pub Pins : {A : Type 0} → (A → Type 0) → (A → List Event) → Type 0
Pins {A = A} Fine events = (a b : A) (r s : List Event) → Fine a → Fine b → Ends r → Ends s → events a ++ r ≡ events b ++ s → Both a b r s

-- an element with attributes: what stands in it, up to its end, and its attributes
pub opened : (n m : Text) (g k : List Attribute) (es fs r s : List Event) → element_with n g es ++ r ≡ element_with m k fs ++ s → (g ≡ k) × (es ++ closes n ∷ r ≡ fs ++ closes m ∷ s)
opened n m g k es fs r s h =
    let t = tails (opens n g) (opens m k) ((es ++ closes n ∷ []) ++ r) ((fs ++ closes m ∷ []) ++ s) h in
    let e : opens n g ≡ opens m k = t.0 in
    (cc, sym (append_assoc es (closes n ∷ []) r) ∙ (t.1 ∙ append_assoc fs (closes m ∷ []) s))

-- an element without attributes: the value in it, and what follows
pub whole : {A : Type 0} (Fine : A → Type 0) (events : A → List Event) → Pins Fine events
    → (n : Text) (a b : A) (r s : List Event) → Fine a → Fine b → element n (events a) ++ r ≡ element n (events b) ++ s → Both a b r s
whole Fine events pins n a b r s i j h =
    let p = pins a b (closes n ∷ r) (closes n ∷ s) i j tt tt (opened n n [] [] (events a) (events b) r s h).1 in
    (p.0, (tails (closes n) (closes n) r s p.1).1)

-- values, one behind the other, up to the end of the record that they stand in
step : {A : Type 0} (events : A → List Event) (x : A) (xs : List A) (r : List Event) → flat_map events (x ∷ xs) ++ r ≡ events x ++ (flat_map events xs ++ r)
step events x xs r = ap (λ es. es ++ r) (flat_map-cons events x xs) ∙ append_assoc (events x) (flat_map events xs) r

pub listed_pins : {A : Type 0} (Fine : A → Type 0) (events : A → List Event) → ((a : A) (r : List Event) → Ends (events a ++ r) → ⊥)
    → ((a b : A) (r s : List Event) → Fine a → Fine b → events a ++ r ≡ events b ++ s → Both a b r s) → Pins (AllByRecursion Fine) (flat_map events)
listed_pins Fine events some pins [] [] r s f g i j h = (refl, h)
listed_pins Fine events some pins [] (y ∷ ys) r s f g i j h = absurd (some y (flat_map events ys ++ s) (subst Ends (h ∙ step events y ys s) i))
listed_pins Fine events some pins (x ∷ xs) [] r s f g i j h = absurd (some x (flat_map events xs ++ r) (subst Ends (sym h ∙ step events x xs r) j))
listed_pins Fine events some pins (x ∷ xs) (y ∷ ys) r s f g i j h =
    let p = pins x y (flat_map events xs ++ r) (flat_map events ys ++ s) f.0 g.0 (sym (step events x xs r) ∙ (h ∙ step events y ys s)) in
    let q = listed_pins Fine events some pins xs ys r s f.1 g.1 i j p.1 in
    let u : x ≡ y = p.0 in
    let v : xs ≡ ys = q.0 in
    (cc, q.1)

-- elements, one behind the other
pub each : {A : Type 0} (Fine : A → Type 0) (events : A → List Event) → Pins Fine events → (n : Text) → Pins (AllByRecursion Fine) (flat_map (λ (z : A). element n (events z)))
each {A = A} Fine events pins n = listed_pins Fine (λ (z : A). element n (events z)) (λ a r h. h) (whole Fine events pins n)

-- they begin with the start of one, or there is none
pub elements_stop : {A : Type 0} (events : A → List Event) (n : Text) (xs : List A) (r : List Event) → Ends r → Stops (flat_map (λ (z : A). element n (events z)) xs ++ r)
elements_stop events n [] r h = ends_stops r h
elements_stop events n (x ∷ xs) r h = tt

-- of values that are fine whatever they are, all are
pub all_fine : {A : Type 0} (xs : List A) → AllByRecursion (λ (z : A). Unit {0}) xs
all_fine [] = tt
all_fine (x ∷ xs) = (tt, all_fine xs)
