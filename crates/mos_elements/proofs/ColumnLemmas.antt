-- What children add column by column.
use Rattle.std.proofs.Common.{◌≡◌, ℕ, suc, zero, ◌<◌, Bool, true, false, cond, not, ◌&&◌, ◌||◌, List, [], ◌∷◌, ◌++◌, length, get_or, set, refl, sym, ap, ◌∙◌, subst, arith}
use Rattle.std.specs.Prelude.{◌==◌}
use Rattle.std.proofs.lemmas.Bool.{and_parts, eqb-true}
use Rattle.std.proofs.lemmas.List.{append-nil, append_assoc}
use Rattle.mos_fields.specs.Fields.{same_field, number_of}
use Rattle.mos_fields.specs.declared.field.Field.{Field}
use Rattle.mos_fields.specs.declared.field.Field.TheVariants as fields
use Rattle.mos_fields.specs.declared.operation.Operation.TheVariants.{Insert, Replace, Move, Delete, Swap}
use Rattle.mos_tables.specs.Tables.{columns}
use Rattle.mos_tables.specs.Events.{Event}
use Rattle.mos_tables.specs.declared.aim.Aim.TheVariants.{Nowhere, AtStory, AtItem}
use Rattle.mos_tables.specs.declared.column.Column.{Column}
use Rattle.mos_tables.specs.declared.table.Table.{Table}
use Rattle.mos_tables.specs.declared.table.Table.TheVariants.{Envelope, Body, HeaderPatch, Story, Item, MosObj, Heartbeat, NoFields, ListMachInfo, SupportedProfiles, MosAck, MosReqObj, MosReqAll, MosListAll, OneOrder, RoListAll, ElementStat, Action, Target, Source, ReadyToAir, RoAck, StorySend}
use Rattle.mos_grammar.specs.Records.{found, flat, column_events}
use Rattle.mos_grammar.specs.Records.{Child as ChildOf}
use Rattle.mos_elements.specs.declared.child.Child.{Child}
use Rattle.mos_elements.specs.Parts.{child_of, children_of, part_events, in_columns, has_field, are_apart, behind, in_order}

pub tables_apart : (t : Table) → are_apart (columns t) ≡ true
tables_apart Envelope = refl
tables_apart Body = refl
tables_apart HeaderPatch = refl
tables_apart Story = refl
tables_apart Item = refl
tables_apart MosObj = refl
tables_apart Heartbeat = refl
tables_apart NoFields = refl
tables_apart ListMachInfo = refl
tables_apart SupportedProfiles = refl
tables_apart MosAck = refl
tables_apart MosReqObj = refl
tables_apart MosReqAll = refl
tables_apart MosListAll = refl
tables_apart OneOrder = refl
tables_apart RoListAll = refl
tables_apart ElementStat = refl
tables_apart ReadyToAir = refl
tables_apart RoAck = refl
tables_apart StorySend = refl
tables_apart (Action Insert) = refl
tables_apart (Target Insert) = refl
tables_apart (Source Insert Nowhere) = refl
tables_apart (Source Insert AtStory) = refl
tables_apart (Source Insert AtItem) = refl
tables_apart (Action Replace) = refl
tables_apart (Target Replace) = refl
tables_apart (Source Replace Nowhere) = refl
tables_apart (Source Replace AtStory) = refl
tables_apart (Source Replace AtItem) = refl
tables_apart (Action Move) = refl
tables_apart (Target Move) = refl
tables_apart (Source Move Nowhere) = refl
tables_apart (Source Move AtStory) = refl
tables_apart (Source Move AtItem) = refl
tables_apart (Action Delete) = refl
tables_apart (Target Delete) = refl
tables_apart (Source Delete Nowhere) = refl
tables_apart (Source Delete AtStory) = refl
tables_apart (Source Delete AtItem) = refl
tables_apart (Action Swap) = refl
tables_apart (Target Swap) = refl
tables_apart (Source Swap Nowhere) = refl
tables_apart (Source Swap AtStory) = refl
tables_apart (Source Swap AtItem) = refl

-- what a child adds of a field
abbrev adds : Field → ChildOf → List Event
adds f c = cond (same_field f c.0) c.1 []

-- a child in the place of another that adds as much of a field
found_set : (f : Field) (xs : List Child) (i : ℕ) (v d : Child) → i < length xs → adds f (child_of v) ≡ adds f (child_of (get_or xs i d)) → found f (children_of (set xs i v)) ≡ found f (children_of xs)
found_set f [] i v d h e = absurd (omega arith)
found_set f (x ∷ xs) zero v d h e = ap (λ z. z ++ found f (children_of xs)) e
found_set f (x ∷ xs) (suc i) v d h e = ap (λ z. adds f (child_of x) ++ z) (found_set f xs i v d (omega arith) e)

same_number : (f g : Field) → same_field f g ≡ true → number_of f ≡ number_of g
same_number f g h = eqb-true (number_of f) (number_of g) h

by_field : (f g h : Field) → number_of f ≡ number_of g → same_field h f ≡ same_field h g
by_field f g h e = ap (λ k. number_of h == k) e

-- taking out what a child of one field adds changes nothing of the others
pub others_same : (f : Field) (xs : List Child) (i : ℕ) (d v : Child) → i < length xs → v.field ≡ (get_or xs i d).field
    → (same_field f (get_or xs i d).field ≡ false → part_events v.part ≡ part_events (get_or xs i d).part)
    → (g : Field) → same_field f g ≡ false → found g (children_of (set xs i v)) ≡ found g (children_of xs)
others_same f xs i d v h e p g n = found_set g xs i v d h (go (get_or xs i d) e p (same_field f (get_or xs i d).field) refl)
  where
    go_in : (x : Child) → v.field ≡ x.field → same_field f x.field ≡ true → (c : Bool) → same_field g x.field ≡ c → adds g (child_of v) ≡ adds g (child_of x)
    go_in x e s true t = absurd (let u : same_field f g ≡ true = by_field g x.field f (same_number g x.field t) ∙ s in cc)
    go_in x e s false t = ap (λ k. cond (same_field g k) (part_events v.part) []) e ∙ (ap (λ b. cond b (part_events v.part) []) t ∙ sym (ap (λ b. cond b (part_events x.part) []) t))

    go : (x : Child) → v.field ≡ x.field → (same_field f x.field ≡ false → part_events v.part ≡ part_events x.part) → (b : Bool) → same_field f x.field ≡ b → adds g (child_of v) ≡ adds g (child_of x)
    go x e p true s = go_in x e s (same_field g x.field) refl
    go x e p false s = ap (λ k. cond (same_field g k) (part_events v.part) []) e ∙ ap (λ z. cond (same_field g x.field) z []) (p s)

or_false : (a b : Bool) → (a || b) ≡ false → (a ≡ false) × (b ≡ false)
or_false true b h = absurd (cc)
or_false false b h = (refl, h)

not_true : (b : Bool) → not b ≡ true → b ≡ false
not_true true h = absurd (cc)
not_true false h = refl

eq_back : (a b : ℕ) → (a == b) ≡ (b == a)
eq_back a b = go (a == b) (b == a) refl refl
  where
    go : (s t : Bool) → (a == b) ≡ s → (b == a) ≡ t → s ≡ t
    go true true h k = refl
    go false false h k = refl
    go true false h k = absurd (let u : (b == a) ≡ true = subst (λ z. (z == a) ≡ true) (eqb-true a b h) (subst (λ z. (a == z) ≡ true) (sym (eqb-true a b h)) h) in cc)
    go false true h k = absurd (let u : (a == b) ≡ true = subst (λ z. (z == b) ≡ true) (eqb-true b a k) (subst (λ z. (b == z) ≡ true) (sym (eqb-true b a k)) k) in cc)

same_back : (f g : Field) → same_field f g ≡ same_field g f
same_back f g = eq_back (number_of f) (number_of g)

module _ (f : Field) (old new : List ChildOf)
    (others : (g : Field) → same_field f g ≡ false → same_field fields.Kept g ≡ false → found g new ≡ found g old)
    (kept : same_field f fields.Metadata ≡ false → found fields.Kept new ≡ found fields.Kept old) where
  column_same : (g : Field) → same_field f g ≡ false → same_field g fields.Kept ≡ false → column_events g new ≡ column_events g old
  column_same g n k = ap (λ z. z ++ cond (same_field g fields.Metadata) (found fields.Kept new) []) (others g n (same_back fields.Kept g ∙ k)) ∙ ap (λ z. found g old ++ z) (go (same_field g fields.Metadata) refl)
    where
      go : (b : Bool) → same_field g fields.Metadata ≡ b → cond (same_field g fields.Metadata) (found fields.Kept new) [] ≡ cond (same_field g fields.Metadata) (found fields.Kept old) []
      go true s = ap (λ z. cond (same_field g fields.Metadata) z []) (kept (sym (by_field g fields.Metadata f (same_number g fields.Metadata s)) ∙ n))
      go false s = ap (λ b. cond b (found fields.Kept new) []) s ∙ sym (ap (λ b. cond b (found fields.Kept old) []) s)

  -- the other columns find what they found before
  pub rest_same : (cs : List Column) → has_field cs f ≡ false → are_apart cs ≡ true → in_columns cs new ≡ in_columns cs old
  rest_same [] h a = refl
  rest_same (c ∷ cs) h a =
      let p = or_false (same_field c.field f) (has_field cs f) h in
      let q = and_parts (not (has_field cs c.field) && not (same_field c.field fields.Kept)) (are_apart cs) a in
      let r = and_parts (not (has_field cs c.field)) (not (same_field c.field fields.Kept)) q.0 in
      ap (λ z. z ++ in_columns cs new) (column_same c.field (same_back f c.field ∙ p.0) (not_true (same_field c.field fields.Kept) r.1)) ∙ ap (λ z. column_events c.field old ++ z) (rest_same cs p.1 q.1)

pub first_apart : (c : Column) (cs : List Column) → are_apart (c ∷ cs) ≡ true → (has_field cs c.field ≡ false) × (same_field c.field fields.Kept ≡ false) × (are_apart cs ≡ true)
first_apart c cs a =
    let q = and_parts (not (has_field cs c.field) && not (same_field c.field fields.Kept)) (are_apart cs) a in
    let r = and_parts (not (has_field cs c.field)) (not (same_field c.field fields.Kept)) q.0 in
    (not_true (has_field cs c.field) r.0, not_true (same_field c.field fields.Kept) r.1, q.1)

-- ---- children in the order of the columns

other_field : (f g h : Field) → same_field f h ≡ true → same_field f g ≡ false → same_field g h ≡ false
other_field f g h s n = go (same_field g h) refl
  where
    go : (b : Bool) → same_field g h ≡ b → b ≡ false
    go true t = absurd (let u : same_field f g ≡ true = by_field g h f (same_number g h t) ∙ s in cc)
    go false t = refl

-- what the children in front add that are of a field
abbrev in_front : Field → List ChildOf → List Event
in_front f [] = []
in_front f (x ∷ xs) = cond (same_field f x.0) (x.1 ++ in_front f xs) []

found_behind : (f : Field) (xs : List ChildOf) (g : Field) → same_field f g ≡ false → found g xs ≡ found g (behind f xs)
found_behind f [] g n = refl
found_behind f (x ∷ xs) g n = go (same_field f x.0) refl (found_behind f xs g n)
  where
    go : (b : Bool) → same_field f x.0 ≡ b → found g xs ≡ found g (behind f xs) → found g (x ∷ xs) ≡ found g (cond b (behind f xs) (x ∷ xs))
    go true s r = ap (λ z. cond z x.1 [] ++ found g xs) (other_field f g x.0 s n) ∙ r
    go false s r = refl

found_split : (f : Field) (xs : List ChildOf) → found f xs ≡ in_front f xs ++ found f (behind f xs)
found_split f [] = refl
found_split f (x ∷ xs) = go (same_field f x.0) refl (found_split f xs)
  where
    go : (b : Bool) → same_field f x.0 ≡ b → found f xs ≡ in_front f xs ++ found f (behind f xs) → found f (x ∷ xs) ≡ cond b (x.1 ++ in_front f xs) [] ++ found f (cond b (behind f xs) (x ∷ xs))
    go true s r = ap (λ z. cond z x.1 [] ++ found f xs) s ∙ (ap (λ z. x.1 ++ z) r ∙ sym (append_assoc x.1 (in_front f xs) (found f (behind f xs))))
    go false s r = refl

flat_split : (f : Field) (xs : List ChildOf) → flat xs ≡ in_front f xs ++ flat (behind f xs)
flat_split f [] = refl
flat_split f (x ∷ xs) = go (same_field f x.0) (flat_split f xs)
  where
    go : (b : Bool) → flat xs ≡ in_front f xs ++ flat (behind f xs) → flat (x ∷ xs) ≡ cond b (x.1 ++ in_front f xs) [] ++ flat (cond b (behind f xs) (x ∷ xs))
    go true r = ap (λ z. x.1 ++ z) r ∙ sym (append_assoc x.1 (in_front f xs) (flat (behind f xs)))
    go false r = refl

none_found : (cs : List Column) (xs : List ChildOf) (f : Field) → in_order cs xs ≡ true → has_field cs f ≡ false → found f xs ≡ []
none_found [] [] f o h = refl
none_found [] (x ∷ xs) f o h = absurd (cc)
none_found (c ∷ cs) xs f o h =
    let p = or_false (same_field c.field f) (has_field cs f) h in
    found_behind c.field xs f p.0 ∙ none_found cs (behind c.field xs) f o p.1

kept_apart : (cs : List Column) → are_apart cs ≡ true → has_field cs fields.Kept ≡ false
kept_apart [] a = refl
kept_apart (c ∷ cs) a =
    let q = and_parts (not (has_field cs c.field) && not (same_field c.field fields.Kept)) (are_apart cs) a in
    let r = and_parts (not (has_field cs c.field)) (not (same_field c.field fields.Kept)) q.0 in
    ap (λ z. z || has_field cs fields.Kept) (not_true (same_field c.field fields.Kept) r.1) ∙ kept_apart cs q.1

nothing_either : (b : Bool) → ◌≡◌ {A = List Event} (cond b [] []) []
nothing_either true = refl
nothing_either false = refl

pub in_order_flat : (cs : List Column) (xs : List ChildOf) → are_apart cs ≡ true → in_order cs xs ≡ true → in_columns cs xs ≡ flat xs
in_order_flat [] [] a o = refl
in_order_flat [] (x ∷ xs) a o = absurd (cc)
in_order_flat (c ∷ cs) xs a o =
    let q = and_parts (not (has_field cs c.field) && not (same_field c.field fields.Kept)) (are_apart cs) a in
    let r = and_parts (not (has_field cs c.field)) (not (same_field c.field fields.Kept)) q.0 in
    let n : has_field cs c.field ≡ false = not_true (has_field cs c.field) r.0 in
    let k : same_field c.field fields.Kept ≡ false = not_true (same_field c.field fields.Kept) r.1 in
    let own : found c.field xs ≡ in_front c.field xs = found_split c.field xs ∙ (ap (λ z. in_front c.field xs ++ z) (none_found cs (behind c.field xs) c.field o n) ∙ append-nil (in_front c.field xs)) in
    let others : cond (same_field c.field fields.Metadata) (found fields.Kept xs) [] ≡ [] = ap (λ z. cond (same_field c.field fields.Metadata) z []) (none_found (c ∷ cs) xs fields.Kept o (kept_apart (c ∷ cs) a)) ∙ nothing_either (same_field c.field fields.Metadata) in
    let rest : in_columns cs xs ≡ flat (behind c.field xs) = rest_same c.field (behind c.field xs) xs (λ g s t. found_behind c.field xs g s) (λ s. found_behind c.field xs fields.Kept k) cs n q.1 ∙ in_order_flat cs (behind c.field xs) q.1 o in
    ap (λ z. (z ++ cond (same_field c.field fields.Metadata) (found fields.Kept xs) []) ++ in_columns cs xs) own
    ∙ (ap (λ z. (in_front c.field xs ++ z) ++ in_columns cs xs) others
    ∙ (ap (λ z. z ++ in_columns cs xs) (append-nil (in_front c.field xs))
    ∙ (ap (λ z. in_front c.field xs ++ z) rest ∙ sym (flat_split c.field xs))))
