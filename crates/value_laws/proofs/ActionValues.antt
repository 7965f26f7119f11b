-- Actions are read off their events, where the operation is known.
use Rattle.std.proofs.Common.{◌≡◌, ℕ, ◌+◌, true, cond, List, [], ◌∷◌, ◌++◌, refl, sym, ap, subst, ◌∙◌, arith}
use Rattle.std.specs.Prelude.{◌==◌}
use Rattle.std.proofs.lemmas.Bool.Decides.{nat_tests}
use Rattle.mos_fields.specs.Characters.{Text}
use Rattle.mos_fields.specs.Fields.{name_of, same}
use Rattle.mos_fields.specs.declared.field.Field.{Field}
use Rattle.mos_fields.specs.declared.field.Field.TheVariants as fields
use Rattle.mos_fields.specs.declared.operation.Operation.{Operation}
use Rattle.mos_fields.specs.declared.operation.Operation.TheVariants.{Insert, Replace, Move, Delete, Swap}
use Rattle.mos_tables.specs.Events.{Event, leaf, opens, closes}
use Rattle.mos_values.specs.Parts.{must}
use Rattle.mos_values.specs.Views.{items_events, stories_events}
use Rattle.mos_values.specs.MessageViews.{operation_of_action, target_story, target_item, ids_events, source, action_events}
use Rattle.mos_values.specs.declared.action.Action.{Action}
use Rattle.mos_values.specs.declared.action.Action.TheVariants.{InsertStories, ReplaceStory, InsertItems, ReplaceItem, MoveStories, MoveItems, DeleteStories, DeleteItems, SwapStories, SwapItems}
use Rattle.mos_values.specs.declared.item.Item.{Item}
use Rattle.mos_values.specs.StoryValue.{Story}
use Rattle.value_laws.specs.Ranges.{AreItemsInRange, AreStoriesInRange, IsActionInRange}
use Rattle.value_laws.proofs.FlatEvents.{Both, Ends, Pins, whole, false_true}
use Rattle.value_laws.proofs.OrderValues.{items_pins, stories_pins}

-- ---- targets

behind_story : (t u : Text) (es fs r s : List Event) → (target_story t ++ es) ++ r ≡ (target_story u ++ fs) ++ s → Both t u (es ++ r) (fs ++ s)
unfolding target_story must
behind_story t u es fs r s h =
    let n : Text = name_of fields.ElementTarget in
    let i : Text = name_of fields.StoryID in
    let e : opens n [] ∷ leaf i [] t ∷ closes n ∷ (es ++ r) ≡ opens n [] ∷ leaf i [] u ∷ closes n ∷ (fs ++ s) = h in
    (cc, cc)

behind_item : (t u x y : Text) (es fs r s : List Event) → (target_item t x ++ es) ++ r ≡ (target_item u y ++ fs) ++ s → (t ≡ u) × Both x y (es ++ r) (fs ++ s)
unfolding target_item must
behind_item t u x y es fs r s h =
    let n : Text = name_of fields.ElementTarget in
    let i : Text = name_of fields.StoryID in
    let j : Text = name_of fields.ItemID in
    let e : opens n [] ∷ leaf i [] t ∷ leaf j [] x ∷ closes n ∷ (es ++ r) ≡ opens n [] ∷ leaf i [] u ∷ leaf j [] y ∷ closes n ∷ (fs ++ s) = h in
    (cc, (cc, cc))

-- ---- sources

stories_source : (x y : List Story) (r s : List Event) → AreStoriesInRange x → AreStoriesInRange y → source (stories_events x) ++ r ≡ source (stories_events y) ++ s → x ≡ y
unfolding source
stories_source x y r s f g h = (whole AreStoriesInRange stories_events stories_pins (name_of fields.ElementSource) x y r s f g h).0

items_source : (x y : List Item) (r s : List Event) → AreItemsInRange x → AreItemsInRange y → source (items_events x) ++ r ≡ source (items_events y) ++ s → x ≡ y
unfolding source
items_source x y r s f g h = (whole AreItemsInRange items_events items_pins (name_of fields.ElementSource) x y r s f g h).0

leaf_end : (n x : Text) (p r : List Event) → Ends r → r ≡ leaf n [] x ∷ p → ⊥
leaf_end n x p r i e = subst Ends e i

ids_pins : (f : Field) → Pins (λ (ids : List Text). Unit {0}) (ids_events f)
unfolding ids_events
ids_pins f [] [] r s g h i j e = (refl, e)
ids_pins f [] (y ∷ ys) r s g h i j e = absurd (leaf_end (name_of f) y _ r i e)
ids_pins f (x ∷ xs) [] r s g h i j e = absurd (leaf_end (name_of f) x _ s j (sym e))
ids_pins f (x ∷ xs) (y ∷ ys) r s g h i j e =
    let d : leaf (name_of f) [] x ∷ (ids_events f xs ++ r) ≡ leaf (name_of f) [] y ∷ (ids_events f ys ++ s) = e in
    let t : ids_events f xs ++ r ≡ ids_events f ys ++ s = cc in
    let p = ids_pins f xs ys r s tt tt i j t in
    let u : x ≡ y = cc in
    let v : xs ≡ ys = p.0 in
    (cc, p.1)

ids_source : (f : Field) (x y : List Text) (r s : List Event) → source (ids_events f x) ++ r ≡ source (ids_events f y) ++ s → x ≡ y
unfolding source
ids_source f x y r s h = (whole (λ (ids : List Text). Unit {0}) (ids_events f) (ids_pins f) (name_of fields.ElementSource) x y r s tt tt h).0

two_source : (f : Field) (x y u v : Text) (r s : List Event) → source (must f x ++ must f y) ++ r ≡ source (must f u ++ must f v) ++ s → (x ≡ u) × (y ≡ v)
unfolding source must
two_source f x y u v r s h =
    let n : Text = name_of fields.ElementSource in
    let i : Text = name_of f in
    let e : opens n [] ∷ leaf i [] x ∷ leaf i [] y ∷ closes n ∷ r ≡ opens n [] ∷ leaf i [] u ∷ leaf i [] v ∷ closes n ∷ s = h in
    (cc, cc)

-- ---- which action it is

-- what it aims at: nothing, a story, an item
aim_of : Action → ℕ
aim_of (InsertStories target sources) = 1
aim_of (ReplaceStory target sources) = 1
aim_of (InsertItems story target sources) = 2
aim_of (ReplaceItem story target sources) = 2
aim_of (MoveStories target sources) = 1
aim_of (MoveItems story target sources) = 2
aim_of (DeleteStories sources) = 0
aim_of (DeleteItems story sources) = 1
aim_of (SwapStories first second) = 0
aim_of (SwapItems story first second) = 1

leaf_count : List Event → ℕ
leaf_count (leaf n g x ∷ es) = 1 + leaf_count es
leaf_count es = 0

aim_in : List Event → ℕ
aim_in (opens n g ∷ es) = cond (same n (name_of fields.ElementTarget)) (leaf_count es) 0
aim_in es = 0

aim_found : (a : Action) (r : List Event) → aim_in (action_events a ++ r) ≡ aim_of a
unfolding aim_in aim_of leaf_count action_events target_story target_item source must
aim_found (InsertStories target sources) r = refl
aim_found (ReplaceStory target sources) r = refl
aim_found (InsertItems story target sources) r = refl
aim_found (ReplaceItem story target sources) r = refl
aim_found (MoveStories target sources) r = refl
aim_found (MoveItems story target sources) r = refl
aim_found (DeleteStories sources) r = refl
aim_found (DeleteItems story sources) r = refl
aim_found (SwapStories first second) r = refl
aim_found (SwapItems story first second) r = refl

-- a number for each operation and aim
key : Operation → ℕ → ℕ
key Insert k = k
key Replace k = 10 + k
key Move k = 20 + k
key Delete k = 30 + k
key Swap k = 40 + k

key_of : Action → ℕ
key_of a = key (operation_of_action a) (aim_of a)

equal_keys : (m n : ℕ) → m ≡ n → (m == n) ≡ true
equal_keys m n e = let P : ℕ → Type 0 = λ k. (m == k) ≡ true in subst P e (grind (arith, nat_tests))

by_key : (a b : Action) (r s : List Event) → key_of a ≡ key_of b → IsActionInRange a → IsActionInRange b → action_events a ++ r ≡ action_events b ++ s → a ≡ b
unfolding key_of key aim_of action_events
by_key (InsertStories t x) (InsertStories u y) r s k f g h =
    let p = behind_story t u (source (stories_events x)) (source (stories_events y)) r s h in
    let q = stories_source x y r s f g p.1 in
    λ i. InsertStories (p.0 i) (q i)
by_key (ReplaceStory t x) (ReplaceStory u y) r s k f g h =
    let p = behind_story t u (source (stories_events x)) (source (stories_events y)) r s h in
    let q = stories_source x y r s f g p.1 in
    λ i. ReplaceStory (p.0 i) (q i)
by_key (InsertItems t j x) (InsertItems u l y) r s k f g h =
    let p = behind_item t u j l (source (items_events x)) (source (items_events y)) r s h in
    let q = items_source x y r s f g p.1.1 in
    λ i. InsertItems (p.0 i) (p.1.0 i) (q i)
by_key (ReplaceItem t j x) (ReplaceItem u l y) r s k f g h =
    let p = behind_item t u j l (source (items_events x)) (source (items_events y)) r s h in
    let q = items_source x y r s f g p.1.1 in
    λ i. ReplaceItem (p.0 i) (p.1.0 i) (q i)
by_key (MoveStories t x) (MoveStories u y) r s k f g h =
    let p = behind_story t u (source (ids_events fields.StoryID x)) (source (ids_events fields.StoryID y)) r s h in
    let q = ids_source fields.StoryID x y r s p.1 in
    λ i. MoveStories (p.0 i) (q i)
by_key (MoveItems t j x) (MoveItems u l y) r s k f g h =
    let p = behind_item t u j l (source (ids_events fields.ItemID x)) (source (ids_events fields.ItemID y)) r s h in
    let q = ids_source fields.ItemID x y r s p.1.1 in
    λ i. MoveItems (p.0 i) (p.1.0 i) (q i)
by_key (DeleteStories x) (DeleteStories y) r s k f g h =
    let q = ids_source fields.StoryID x y r s h in
    λ i. DeleteStories (q i)
by_key (DeleteItems t x) (DeleteItems u y) r s k f g h =
    let p = behind_story t u (source (ids_events fields.ItemID x)) (source (ids_events fields.ItemID y)) r s h in
    let q = ids_source fields.ItemID x y r s p.1 in
    λ i. DeleteItems (p.0 i) (q i)
by_key (SwapStories x y) (SwapStories v w) r s k f g h =
    let q = two_source fields.StoryID x y v w r s h in
    λ i. SwapStories (q.0 i) (q.1 i)
by_key (SwapItems t x y) (SwapItems u v w) r s k f g h =
    let p = behind_story t u (source (must fields.ItemID x ++ must fields.ItemID y)) (source (must fields.ItemID v ++ must fields.ItemID w)) r s h in
    let q = two_source fields.ItemID x y v w r s p.1 in
    λ i. SwapItems (p.0 i) (q.0 i) (q.1 i)
by_key a b r s k f g h = absurd (false_true (equal_keys (key_of a) (key_of b) k))

pub action_pinned : (a b : Action) (r s : List Event) → operation_of_action a ≡ operation_of_action b → IsActionInRange a → IsActionInRange b → action_events a ++ r ≡ action_events b ++ s → a ≡ b
unfolding key_of
action_pinned a b r s o f g h =
    let m : aim_of a ≡ aim_of b = sym (aim_found a r) ∙ (ap aim_in h ∙ aim_found b s) in
    by_key a b r s (ap (λ p. key p (aim_of a)) o ∙ ap (key (operation_of_action b)) m) f g h
