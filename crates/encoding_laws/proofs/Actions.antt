-- Actions as their canonical encodings write them.
use Rattle.std.proofs.Common.{◌≡◌, ℕ, ◌≤◌, false, cond, List, [], ◌∷◌, ◌++◌, length, Some, refl, sym, ap, subst, ◌∙◌, arith, suc}
use Rattle.std.specs.List.{AllByRecursion, flat_map}
use Rattle.std.proofs.lemmas.List.{append-nil}
use Rattle.mos_fields.specs.Characters.{Text}
use Rattle.mos_fields.specs.Fields.{name_of}
use Rattle.mos_fields.specs.Forms.{reads}
use Rattle.mos_fields.specs.declared.field.Field.{Field}
use Rattle.mos_fields.specs.declared.field.Field.TheVariants as fields
use Rattle.mos_fields.specs.declared.form.Form.TheVariants as forms
use Rattle.mos_fields.specs.declared.operation.Operation.{Operation}
use Rattle.mos_fields.specs.declared.operation.Operation.TheVariants.{Insert, Replace, Move, Delete, Swap}
use Rattle.mos_tables.specs.declared.aim.Aim.{Aim}
use Rattle.mos_tables.specs.declared.aim.Aim.TheVariants.{Nowhere, AtStory, AtItem}
use Rattle.mos_tables.specs.declared.column.Column.{Column}
use Rattle.mos_tables.specs.declared.column.Shape.TheVariants.{Leaf, Record}
use Rattle.mos_tables.specs.declared.column.Often.{Often}
use Rattle.mos_tables.specs.declared.column.Often.TheVariants.{One, Many, Count}
use Rattle.mos_tables.specs.declared.table.Table.{Table}
use Rattle.mos_tables.specs.declared.table.Table.TheVariants as tables
use Rattle.mos_tables.specs.Tables.{column, columns, required, is_ack, has_keys, target_of, item_of_target, attribute_of_table}
use Rattle.mos_tables.specs.Events.{Event, leaf}
use Rattle.mos_grammar.specs.Records.{Child, least_count, column_of, has_leaf, with_aim, keys, flat}
use Rattle.mos_cursor.specs.Accepted.{IsGiven}
use Rattle.mos_cursor.specs.Parts.{places}
use Rattle.mos_cursor.proofs.Counts.{Most}
use Rattle.mos_values.specs.declared.item.Item.{Item}
use Rattle.mos_values.specs.StoryValue.{Story}
use Rattle.mos_values.specs.declared.action.Action.{Action}
use Rattle.mos_values.specs.declared.action.Action.TheVariants.{InsertStories, ReplaceStory, InsertItems, ReplaceItem, MoveStories, MoveItems, DeleteStories, DeleteItems, SwapStories, SwapItems}
use Rattle.mos_values.specs.Parts.{must, joined, element, element_with}
use Rattle.mos_values.specs.Sound.{IsSoundAction, AreSoundItems, AreSoundStories}
use Rattle.mos_values.specs.Views.{item_events, items_events, story_events, stories_events}
use Rattle.mos_values.specs.MessageViews.{operation_of_action, target_story, target_item, ids_events, source, action_events}
use Rattle.encoding_laws.specs.Fitting.{inside_columns, TextsFit}
use Rattle.encoding_laws.specs.Identifiers.{HasDistinctItems, BringsDistinctItems}
use Rattle.encoding_laws.proofs.Pieces.{Canonical}
use Rattle.encoding_laws.proofs.Assembled.{ColumnPieces, HasNoKey, Segment, Segments, assembled}
use Rattle.encoding_laws.proofs.KindSegments.{segment_of, records_hold, reads_beside, IsTextColumn, text_piece, one_text, absent_segment, IsRecordColumn, record_child, record_piece_of, records_segment}
use Rattle.encoding_laws.proofs.LevelTexts.{Level, level_none, level_leaf, level_both, splits, texts_inside, level_must, level_element, text_of_must, must_part}
use Rattle.encoding_laws.proofs.Keys.{no_keys, unkeyed_follow}
use Rattle.encoding_laws.proofs.StoryRecords.{each_inside, level_item, level_items, level_story, level_stories, FreshItem, items_fresh, FreshStory, stories_fresh}

-- ---- IDs one after another

ids_children : Field → List Text → List Child
ids_children f [] = []
ids_children f (x ∷ xs) = (f, leaf (name_of f) [] x ∷ []) ∷ ids_children f xs

abbrev ReadsId : Text → Type 0
ReadsId x = reads forms.OptId [] x ≡ Some x

ids_pieces : (t : Table) (taken : List Text) (b : List Child) (f : Field) (o : Often) (xs : List Text) → IsTextColumn t f forms.OptId o → AllByRecursion ReadsId xs → ColumnPieces t taken b (column f (Leaf forms.OptId) o) (ids_children f xs)
unfolding ids_children
ids_pieces t taken b f o [] i a = tt
ids_pieces t taken b f o (x ∷ xs) i a = (text_piece t taken b f forms.OptId o x i (reads_beside forms.OptId taken x refl a.0), ids_pieces t taken (b ++ (f, leaf (name_of f) [] x ∷ []) ∷ []) f o xs i a.1)

ids_flat : (f : Field) (xs : List Text) → flat (ids_children f xs) ≡ ids_events f xs
unfolding ids_children ids_events
ids_flat f [] = refl
ids_flat f (x ∷ xs) = ap (λ (z : List Event). leaf (name_of f) [] x ∷ z) (ids_flat f xs)

ids_length : (f : Field) (xs : List Text) → length (ids_children f xs) ≡ length xs
unfolding ids_children
ids_length f [] = refl
ids_length f (x ∷ xs) = ap suc (ids_length f xs)

ids_keyless : (f : Field) (xs : List Text) → AllByRecursion HasNoKey (ids_children f xs)
unfolding ids_children
ids_keyless f [] = tt
ids_keyless f (x ∷ xs) = (refl, ids_keyless f xs)

level_ids : (f : Field) (xs : List Text) → Level (ids_events f xs)
unfolding ids_events
level_ids f [] = level_none
level_ids f (x ∷ xs) = level_leaf (name_of f) [] x (level_ids f xs)

ids_read : (t : Table) (ts : List Table) (f : Field) (o : Often) (xs : List Text) → column_of (inside_columns t) (name_of f) ≡ Some (column f (Leaf forms.OptId) o) → TextsFit (t ∷ ts) (ids_events f xs) → AllByRecursion ReadsId xs
unfolding ids_events must
ids_read t ts f o [] i h = tt
ids_read t ts f o (x ∷ xs) i h = (text_of_must t ts f forms.OptId o x i (h.0, tt), ids_read t ts f o xs i h.1)

pub one_column : (t : Table) (taken : List Text) (c : Column) (es : List Event) → is_ack t ≡ false → places (columns t) ≡ c ∷ [] → Segment t taken [] c es → Canonical t taken es
one_column t taken c es a p s =
    let w : Segments t taken [] (places (columns t)) (es ∷ []) = subst (λ (z : List Column). Segments t taken [] z (es ∷ [])) (sym p) (s, tt) in
    subst (Canonical t taken) (append-nil es) (assembled t taken (es ∷ []) a w)

ids_canonical : (t : Table) (taken : List Text) (f : Field) (o : Often) (xs : List Text) → is_ack t ≡ false → places (columns t) ≡ column f (Leaf forms.OptId) o ∷ [] → IsTextColumn t f forms.OptId o → Most o (length xs) → least_count o ≤ length xs → AllByRecursion ReadsId xs
    → Canonical t taken (ids_events f xs)
ids_canonical t taken f o xs a p i m l r =
    let n : length xs ≡ length (ids_children f xs) = sym (ids_length f xs) in
    let c : Column = column f (Leaf forms.OptId) o in
    let s : Segment t taken [] c (flat (ids_children f xs)) = segment_of t taken [] c (ids_children f xs) i.2 (ids_pieces t taken [] f o xs i r) (subst (Most o) n m) (subst (λ (z : ℕ). least_count o ≤ z) n l) (λ e. ids_keyless f xs) in
    one_column t taken c (ids_events f xs) a p (subst (Segment t taken [] c) (ids_flat f xs) s)

-- ---- stories or items

records_canonical : {A : Type 0} (t : Table) (taken : List Text) (f : Field) (u : Table) (inner : A → List Event) (xs : List A) → is_ack t ≡ false → places (columns t) ≡ column f (Record u) Many ∷ [] → IsRecordColumn t f u Many → has_keys t ≡ false → IsGiven (attribute_of_table u) []
    → ((b : List Child) → with_aim b u ≡ u) → AllByRecursion (λ (x : A). Canonical u [] (inner x)) xs → 1 ≤ length xs → Canonical t taken (flat_map (λ (x : A). element_with (name_of f) [] (inner x)) xs)
records_canonical {A = A} t taken f u inner xs a p i k g w c l =
    one_column t taken (column f (Record u) Many) (flat_map (λ (x : A). element_with (name_of f) [] (inner x)) xs) a p (records_segment t taken [] f u Many inner xs i g (unkeyed_follow t taken f u inner k w xs c []) tt l)

items_alone : (xs : List Item) → AllByRecursion FreshItem xs → AllByRecursion (λ (x : Item). Canonical tables.Item [] (item_events x)) xs
items_alone [] a = tt
items_alone (x ∷ xs) a = (a.0 [] refl, items_alone xs a.1)

stories_alone : (xs : List Story) → AllByRecursion FreshStory xs → AllByRecursion (λ (x : Story). Canonical tables.Story [] (story_events x)) xs
stories_alone [] a = tt
stories_alone (x ∷ xs) a = (a.0 [] refl, stories_alone xs a.1)

insert_stories : (ts : List Table) (xs : List Story) → 1 ≤ length xs → AreSoundStories xs → AllByRecursion HasDistinctItems xs → TextsFit (tables.Source Insert AtStory ∷ ts) (stories_events xs) → Canonical (tables.Source Insert AtStory) [] (stories_events xs)
unfolding stories_events
insert_stories ts xs l s d h =
    records_canonical (tables.Source Insert AtStory) [] fields.StoryTag tables.Story story_events xs refl refl (refl, refl, refl) refl refl (λ b. refl)
    (stories_alone xs (stories_fresh (tables.Source Insert AtStory ∷ ts) xs s d (each_inside (tables.Source Insert AtStory) ts (name_of fields.StoryTag) story_events level_story xs h))) l

replace_story : (ts : List Table) (xs : List Story) → 1 ≤ length xs → AreSoundStories xs → AllByRecursion HasDistinctItems xs → TextsFit (tables.Source Replace AtStory ∷ ts) (stories_events xs) → Canonical (tables.Source Replace AtStory) [] (stories_events xs)
unfolding stories_events
replace_story ts xs l s d h =
    records_canonical (tables.Source Replace AtStory) [] fields.StoryTag tables.Story story_events xs refl refl (refl, refl, refl) refl refl (λ b. refl)
    (stories_alone xs (stories_fresh (tables.Source Replace AtStory ∷ ts) xs s d (each_inside (tables.Source Replace AtStory) ts (name_of fields.StoryTag) story_events level_story xs h))) l

insert_items : (ts : List Table) (xs : List Item) → 1 ≤ length xs → AreSoundItems xs → TextsFit (tables.Source Insert AtStory ∷ ts) (items_events xs) → Canonical (tables.Source Insert AtItem) [] (items_events xs)
unfolding items_events
insert_items ts xs l s h =
    records_canonical (tables.Source Insert AtItem) [] fields.ItemTag tables.Item item_events xs refl refl (refl, refl, refl) refl refl (λ b. refl)
    (items_alone xs (items_fresh (tables.Source Insert AtStory ∷ ts) xs s (each_inside (tables.Source Insert AtStory) ts (name_of fields.ItemTag) item_events level_item xs h))) l

replace_item : (ts : List Table) (xs : List Item) → 1 ≤ length xs → AreSoundItems xs → TextsFit (tables.Source Replace AtStory ∷ ts) (items_events xs) → Canonical (tables.Source Replace AtItem) [] (items_events xs)
unfolding items_events
replace_item ts xs l s h =
    records_canonical (tables.Source Replace AtItem) [] fields.ItemTag tables.Item item_events xs refl refl (refl, refl, refl) refl refl (λ b. refl)
    (items_alone xs (items_fresh (tables.Source Replace AtStory ∷ ts) xs s (each_inside (tables.Source Replace AtStory) ts (name_of fields.ItemTag) item_events level_item xs h))) l

-- ---- targets

story_target : (o : Operation) (ts : List Table) (x : Text) → Most (item_of_target o) 0 → least_count (item_of_target o) ≤ 0 → TextsFit (tables.Target o ∷ ts) (must fields.StoryID x) → Canonical (tables.Target o) [] (must fields.StoryID x)
story_target o ts x m l h =
    let z0 : Segment (tables.Target o) [] [] (required fields.StoryID forms.OptId) (must fields.StoryID x) = must_part (tables.Target o) [] [] ts fields.StoryID forms.OptId x ((refl, refl, refl, refl), refl, refl) h in
    let z1 : Segment (tables.Target o) [] ([] ++ z0.children) (column fields.ItemID (Leaf forms.OptId) (item_of_target o)) [] = absent_segment (tables.Target o) [] ([] ++ z0.children) fields.ItemID (Leaf forms.OptId) (item_of_target o) refl m l in
    subst (Canonical (tables.Target o) []) (append-nil (must fields.StoryID x)) (assembled (tables.Target o) [] (must fields.StoryID x ∷ [] ∷ []) refl (z0, (z1, tt)))

item_target : (o : Operation) (ts : List Table) (x y : Text) → Most (item_of_target o) 1 → least_count (item_of_target o) ≤ 1 → TextsFit (tables.Target o ∷ ts) (must fields.StoryID x ++ must fields.ItemID y)
    → Canonical (tables.Target o) [] (must fields.StoryID x ++ must fields.ItemID y)
item_target o ts x y m l h =
    let q = splits (level_must fields.StoryID x) (tables.Target o) ts (must fields.ItemID y) h in
    let r : reads forms.OptId [] y ≡ Some y = text_of_must (tables.Target o) ts fields.ItemID forms.OptId (item_of_target o) y refl q.1 in
    let z0 : Segment (tables.Target o) [] [] (required fields.StoryID forms.OptId) (must fields.StoryID x) = must_part (tables.Target o) [] [] ts fields.StoryID forms.OptId x ((refl, refl, refl, refl), refl, refl) q.0 in
    let z1 : Segment (tables.Target o) [] ([] ++ z0.children) (column fields.ItemID (Leaf forms.OptId) (item_of_target o)) (must fields.ItemID y) = one_text (tables.Target o) [] ([] ++ z0.children) fields.ItemID forms.OptId (item_of_target o) y (refl, refl, refl, refl) r m l in
    subst (Canonical (tables.Target o) []) (ap (λ (z : List Event). must fields.StoryID x ++ z) (append-nil (must fields.ItemID y))) (assembled (tables.Target o) [] (must fields.StoryID x ∷ must fields.ItemID y ∷ []) refl (z0, (z1, tt)))

-- ---- the whole action

abbrev in_target : List Event → List Event
in_target es = element (name_of fields.ElementTarget) es

abbrev in_source : List Event → List Event
in_source es = element (name_of fields.ElementSource) es

with_target : (o : Operation) (taken : List Text) (ro : Text) (tes ses : List Event) (a : Aim) → Most (target_of o) 1 → least_count (target_of o) ≤ 1 → cond (has_leaf (name_of fields.ItemID) (in_target tes)) AtItem AtStory ≡ a → reads forms.Id [] ro ≡ Some ro
    → Canonical (tables.Target o) [] tes → Canonical (tables.Source o a) [] ses → Canonical (tables.Action o) taken (must fields.RoID ro ++ (in_target tes ++ in_source ses))
unfolding must
with_target o taken ro tes ses a m l e r t s =
    let u : Table = tables.Action o in
    let c0 : Child = (fields.RoID, leaf (name_of fields.RoID) [] ro ∷ []) in
    let c1 : Child = record_child fields.ElementTarget [] tes in
    let c2 : Child = record_child fields.ElementSource [] ses in
    let b1 : List Child = c0 ∷ [] in
    let b2 : List Child = c0 ∷ c1 ∷ [] in
    let z0 : Segment u taken [] (required fields.RoID forms.Id) (leaf (name_of fields.RoID) [] ro ∷ []) =
    segment_of u taken [] (required fields.RoID forms.Id) (c0 ∷ []) refl (text_piece u taken [] fields.RoID forms.Id One ro (refl, refl, refl, refl) (reads_beside forms.Id taken ro refl r), tt) (omega arith) (omega arith) (λ e. (refl, tt)) in
    let t2 : Canonical (tables.Target o) (keys u b1) tes = subst (λ (z : List Text). Canonical (tables.Target o) z tes) (sym (no_keys u b1 refl)) t in
    let z1 : Segment u taken b1 (column fields.ElementTarget (Record (tables.Target o)) (target_of o)) (in_target tes ++ []) =
    segment_of u taken b1 (column fields.ElementTarget (Record (tables.Target o)) (target_of o)) (c1 ∷ []) refl (record_piece_of u taken b1 fields.ElementTarget (tables.Target o) (target_of o) [] tes (refl, refl, refl) refl t2, tt) m l (λ e. records_hold e) in
    let s2 : Canonical (tables.Source o a) (keys u b2) ses = subst (λ (z : List Text). Canonical (tables.Source o a) z ses) (sym (no_keys u b2 refl)) s in
    let s3 : Canonical (with_aim b2 (tables.Source o AtStory)) (keys u b2) ses = subst (λ (z : Aim). Canonical (tables.Source o z) (keys u b2) ses) (sym e) s2 in
    let z2 : Segment u taken b2 (column fields.ElementSource (Record (tables.Source o AtStory)) One) (in_source ses ++ []) =
    segment_of u taken b2 (column fields.ElementSource (Record (tables.Source o AtStory)) One) (c2 ∷ []) refl (record_piece_of u taken b2 fields.ElementSource (tables.Source o AtStory) One [] ses (refl, refl, refl) refl s3, tt) (omega arith) (omega arith) (λ e. records_hold e) in
    let whole : Canonical u taken (joined ((leaf (name_of fields.RoID) [] ro ∷ []) ∷ (in_target tes ++ []) ∷ (in_source ses ++ []) ∷ [])) = assembled u taken ((leaf (name_of fields.RoID) [] ro ∷ []) ∷ (in_target tes ++ []) ∷ (in_source ses ++ []) ∷ []) refl (z0, (z1, (z2, tt))) in
    subst (λ (z : List Event). Canonical u taken (leaf (name_of fields.RoID) [] ro ∷ z)) (ap (λ (z : List Event). z ++ ((in_source ses ++ []) ++ [])) (append-nil (in_target tes)) ∙ ap (λ (z : List Event). in_target tes ++ z) (append-nil (in_source ses ++ []) ∙ append-nil (in_source ses))) whole

without_target : (o : Operation) (taken : List Text) (ro : Text) (ses : List Event) → Most (target_of o) 0 → least_count (target_of o) ≤ 0 → reads forms.Id [] ro ≡ Some ro → Canonical (tables.Source o Nowhere) [] ses → Canonical (tables.Action o) taken (must fields.RoID ro ++ in_source ses)
unfolding must
without_target o taken ro ses m l r s =
    let u : Table = tables.Action o in
    let c0 : Child = (fields.RoID, leaf (name_of fields.RoID) [] ro ∷ []) in
    let c2 : Child = record_child fields.ElementSource [] ses in
    let b1 : List Child = c0 ∷ [] in
    let z0 : Segment u taken [] (required fields.RoID forms.Id) (leaf (name_of fields.RoID) [] ro ∷ []) =
    segment_of u taken [] (required fields.RoID forms.Id) (c0 ∷ []) refl (text_piece u taken [] fields.RoID forms.Id One ro (refl, refl, refl, refl) (reads_beside forms.Id taken ro refl r), tt) (omega arith) (omega arith) (λ e. (refl, tt)) in
    let z1 : Segment u taken b1 (column fields.ElementTarget (Record (tables.Target o)) (target_of o)) [] = segment_of u taken b1 (column fields.ElementTarget (Record (tables.Target o)) (target_of o)) [] refl tt m l (λ e. tt) in
    let s2 : Canonical (tables.Source o Nowhere) (keys u b1) ses = subst (λ (z : List Text). Canonical (tables.Source o Nowhere) z ses) (sym (no_keys u b1 refl)) s in
    let z2 : Segment u taken b1 (column fields.ElementSource (Record (tables.Source o AtStory)) One) (in_source ses ++ []) =
    segment_of u taken b1 (column fields.ElementSource (Record (tables.Source o AtStory)) One) (c2 ∷ []) refl (record_piece_of u taken b1 fields.ElementSource (tables.Source o AtStory) One [] ses (refl, refl, refl) refl s2, tt) (omega arith) (omega arith) (λ e. records_hold e) in
    let whole : Canonical u taken (joined ((leaf (name_of fields.RoID) [] ro ∷ []) ∷ [] ∷ (in_source ses ++ []) ∷ [])) = assembled u taken ((leaf (name_of fields.RoID) [] ro ∷ []) ∷ [] ∷ (in_source ses ++ []) ∷ []) refl (z0, (z1, (z2, tt))) in
    subst (λ (z : List Event). Canonical u taken (leaf (name_of fields.RoID) [] ro ∷ z)) (append-nil (in_source ses ++ []) ∙ append-nil (in_source ses)) whole

-- ---- texts

record TargetTexts (o : Operation) (ts : List Table) (ro : Text) (tes ses : List Event) : Type 0 where
  order : reads forms.Id [] ro ≡ Some ro
  target : TextsFit (tables.Target o ∷ (tables.Action o ∷ ts)) tes
  sources : TextsFit (tables.Source o AtStory ∷ (tables.Action o ∷ ts)) ses

target_texts : (o : Operation) (ts : List Table) (ro : Text) (tes ses : List Event) → Level tes → Level ses → TextsFit (tables.Action o ∷ ts) (must fields.RoID ro ++ (in_target tes ++ in_source ses)) → TargetTexts o ts ro tes ses
target_texts o ts ro tes ses lt ls h =
    let q = splits (level_must fields.RoID ro) (tables.Action o) ts (in_target tes ++ in_source ses) h in
    let p = splits (level_element (name_of fields.ElementTarget) [] tes lt) (tables.Action o) ts (in_source ses) q.1 in
    record {
      order = text_of_must (tables.Action o) ts fields.RoID forms.Id One ro refl q.0;
      target = texts_inside (name_of fields.ElementTarget) [] tes (tables.Action o) ts lt p.0;
      sources = texts_inside (name_of fields.ElementSource) [] ses (tables.Action o) ts ls p.1;
    }

record SourceTexts (o : Operation) (ts : List Table) (ro : Text) (ses : List Event) : Type 0 where
  order : reads forms.Id [] ro ≡ Some ro
  sources : TextsFit (tables.Source o AtStory ∷ (tables.Action o ∷ ts)) ses

source_texts : (o : Operation) (ts : List Table) (ro : Text) (ses : List Event) → Level ses → TextsFit (tables.Action o ∷ ts) (must fields.RoID ro ++ in_source ses) → SourceTexts o ts ro ses
source_texts o ts ro ses ls h =
    let q = splits (level_must fields.RoID ro) (tables.Action o) ts (in_source ses) h in
    record {
      order = text_of_must (tables.Action o) ts fields.RoID forms.Id One ro refl q.0;
      sources = texts_inside (name_of fields.ElementSource) [] ses (tables.Action o) ts ls q.1;
    }

level_pair : (x y : Text) → Level (must fields.StoryID x ++ must fields.ItemID y)
level_pair x y = level_both (must fields.ItemID y) (level_must fields.StoryID x) (level_must fields.ItemID y)

level_two : (f : Field) (x y : Text) → Level (must f x ++ must f y)
level_two f x y = level_both (must f y) (level_must f x) (level_must f y)

two_ids : (f : Field) (x y : Text) → ids_events f (x ∷ y ∷ []) ≡ must f x ++ must f y
unfolding ids_events must
two_ids f x y = refl

pub level_action : (a : Action) → Level (action_events a)
unfolding action_events target_story target_item source
level_action (InsertStories target sources) = level_both (in_source (stories_events sources)) (level_element (name_of fields.ElementTarget) [] (must fields.StoryID target) (level_must fields.StoryID target)) (level_element (name_of fields.ElementSource) [] (stories_events sources) (level_stories sources))
level_action (ReplaceStory target sources) = level_both (in_source (stories_events sources)) (level_element (name_of fields.ElementTarget) [] (must fields.StoryID target) (level_must fields.StoryID target)) (level_element (name_of fields.ElementSource) [] (stories_events sources) (level_stories sources))
level_action (InsertItems story target sources) = level_both (in_source (items_events sources)) (level_element (name_of fields.ElementTarget) [] (must fields.StoryID story ++ must fields.ItemID target) (level_pair story target)) (level_element (name_of fields.ElementSource) [] (items_events sources) (level_items sources))
level_action (ReplaceItem story target sources) = level_both (in_source (items_events sources)) (level_element (name_of fields.ElementTarget) [] (must fields.StoryID story ++ must fields.ItemID target) (level_pair story target)) (level_element (name_of fields.ElementSource) [] (items_events sources) (level_items sources))
level_action (MoveStories target sources) = level_both (in_source (ids_events fields.StoryID sources)) (level_element (name_of fields.ElementTarget) [] (must fields.StoryID target) (level_must fields.StoryID target)) (level_element (name_of fields.ElementSource) [] (ids_events fields.StoryID sources) (level_ids fields.StoryID sources))
level_action (MoveItems story target sources) = level_both (in_source (ids_events fields.ItemID sources)) (level_element (name_of fields.ElementTarget) [] (must fields.StoryID story ++ must fields.ItemID target) (level_pair story target)) (level_element (name_of fields.ElementSource) [] (ids_events fields.ItemID sources) (level_ids fields.ItemID sources))
level_action (DeleteStories sources) = level_element (name_of fields.ElementSource) [] (ids_events fields.StoryID sources) (level_ids fields.StoryID sources)
level_action (DeleteItems story sources) = level_both (in_source (ids_events fields.ItemID sources)) (level_element (name_of fields.ElementTarget) [] (must fields.StoryID story) (level_must fields.StoryID story)) (level_element (name_of fields.ElementSource) [] (ids_events fields.ItemID sources) (level_ids fields.ItemID sources))
level_action (SwapStories first second) = level_element (name_of fields.ElementSource) [] (must fields.StoryID first ++ must fields.StoryID second) (level_two fields.StoryID first second)
level_action (SwapItems story first second) = level_both (in_source (must fields.ItemID first ++ must fields.ItemID second)) (level_element (name_of fields.ElementTarget) [] (must fields.StoryID story) (level_must fields.StoryID story)) (level_element (name_of fields.ElementSource) [] (must fields.ItemID first ++ must fields.ItemID second) (level_two fields.ItemID first second))

aim_story : (x : Text) → cond (has_leaf (name_of fields.ItemID) (in_target (must fields.StoryID x))) AtItem AtStory ≡ AtStory
unfolding must
aim_story x = refl

aim_item : (x y : Text) → cond (has_leaf (name_of fields.ItemID) (in_target (must fields.StoryID x ++ must fields.ItemID y))) AtItem AtStory ≡ AtItem
unfolding must
aim_item x y = refl

pub action_canonical : (ro : Text) (a : Action) (taken : List Text) (ts : List Table) → IsSoundAction a → BringsDistinctItems a → TextsFit (tables.Action (operation_of_action a) ∷ ts) (must fields.RoID ro ++ action_events a) → Canonical (tables.Action (operation_of_action a)) taken (must fields.RoID ro ++ action_events a)
unfolding action_events target_story target_item source
action_canonical ro (InsertStories target sources) taken ts s d h =
    let x = target_texts Insert ts ro (must fields.StoryID target) (stories_events sources) (level_must fields.StoryID target) (level_stories sources) h in
    with_target Insert taken ro (must fields.StoryID target) (stories_events sources) AtStory (omega arith) (omega arith) (aim_story target) x.order (story_target Insert (tables.Action Insert ∷ ts) target (omega arith) (omega arith) x.target) (insert_stories (tables.Action Insert ∷ ts) sources s.0 s.1 d x.sources)
action_canonical ro (ReplaceStory target sources) taken ts s d h =
    let x = target_texts Replace ts ro (must fields.StoryID target) (stories_events sources) (level_must fields.StoryID target) (level_stories sources) h in
    with_target Replace taken ro (must fields.StoryID target) (stories_events sources) AtStory (omega arith) (omega arith) (aim_story target) x.order (story_target Replace (tables.Action Replace ∷ ts) target (omega arith) (omega arith) x.target) (replace_story (tables.Action Replace ∷ ts) sources s.0 s.1 d x.sources)
action_canonical ro (InsertItems story target sources) taken ts s d h =
    let x = target_texts Insert ts ro (must fields.StoryID story ++ must fields.ItemID target) (items_events sources) (level_pair story target) (level_items sources) h in
    with_target Insert taken ro (must fields.StoryID story ++ must fields.ItemID target) (items_events sources) AtItem (omega arith) (omega arith) (aim_item story target) x.order (item_target Insert (tables.Action Insert ∷ ts) story target (omega arith) (omega arith) x.target) (insert_items (tables.Action Insert ∷ ts) sources s.0 s.1 x.sources)
action_canonical ro (ReplaceItem story target sources) taken ts s d h =
    let x = target_texts Replace ts ro (must fields.StoryID story ++ must fields.ItemID target) (items_events sources) (level_pair story target) (level_items sources) h in
    with_target Replace taken ro (must fields.StoryID story ++ must fields.ItemID target) (items_events sources) AtItem (omega arith) (omega arith) (aim_item story target) x.order (item_target Replace (tables.Action Replace ∷ ts) story target (omega arith) (omega arith) x.target) (replace_item (tables.Action Replace ∷ ts) sources s.0 s.1 x.sources)
action_canonical ro (MoveStories target sources) taken ts s d h =
    let x = target_texts Move ts ro (must fields.StoryID target) (ids_events fields.StoryID sources) (level_must fields.StoryID target) (level_ids fields.StoryID sources) h in
    let r = ids_read (tables.Source Move AtStory) (tables.Action Move ∷ ts) fields.StoryID Many sources refl x.sources in
    with_target Move taken ro (must fields.StoryID target) (ids_events fields.StoryID sources) AtStory (omega arith) (omega arith) (aim_story target) x.order (story_target Move (tables.Action Move ∷ ts) target (omega arith) (omega arith) x.target) (ids_canonical (tables.Source Move AtStory) [] fields.StoryID Many sources refl refl (refl, refl, refl, refl) tt s r)
action_canonical ro (MoveItems story target sources) taken ts s d h =
    let x = target_texts Move ts ro (must fields.StoryID story ++ must fields.ItemID target) (ids_events fields.ItemID sources) (level_pair story target) (level_ids fields.ItemID sources) h in
    let r = ids_read (tables.Source Move AtStory) (tables.Action Move ∷ ts) fields.ItemID Many sources refl x.sources in
    with_target Move taken ro (must fields.StoryID story ++ must fields.ItemID target) (ids_events fields.ItemID sources) AtItem (omega arith) (omega arith) (aim_item story target) x.order (item_target Move (tables.Action Move ∷ ts) story target (omega arith) (omega arith) x.target) (ids_canonical (tables.Source Move AtItem) [] fields.ItemID Many sources refl refl (refl, refl, refl, refl) tt s r)
action_canonical ro (DeleteStories sources) taken ts s d h =
    let x = source_texts Delete ts ro (ids_events fields.StoryID sources) (level_ids fields.StoryID sources) h in
    let r = ids_read (tables.Source Delete AtStory) (tables.Action Delete ∷ ts) fields.StoryID Many sources refl x.sources in
    without_target Delete taken ro (ids_events fields.StoryID sources) (omega arith) (omega arith) x.order (ids_canonical (tables.Source Delete Nowhere) [] fields.StoryID Many sources refl refl (refl, refl, refl, refl) tt s r)
action_canonical ro (DeleteItems story sources) taken ts s d h =
    let x = target_texts Delete ts ro (must fields.StoryID story) (ids_events fields.ItemID sources) (level_must fields.StoryID story) (level_ids fields.ItemID sources) h in
    let r = ids_read (tables.Source Delete AtStory) (tables.Action Delete ∷ ts) fields.ItemID Many sources refl x.sources in
    with_target Delete taken ro (must fields.StoryID story) (ids_events fields.ItemID sources) AtStory (omega arith) (omega arith) (aim_story story) x.order (story_target Delete (tables.Action Delete ∷ ts) story (omega arith) (omega arith) x.target) (ids_canonical (tables.Source Delete AtStory) [] fields.ItemID Many sources refl refl (refl, refl, refl, refl) tt s r)
action_canonical ro (SwapStories first second) taken ts s d h =
    let ids : List Text = first ∷ second ∷ [] in
    let x = source_texts Swap ts ro (must fields.StoryID first ++ must fields.StoryID second) (level_two fields.StoryID first second) h in
    let r = ids_read (tables.Source Swap AtStory) (tables.Action Swap ∷ ts) fields.StoryID (Count 2) ids refl (subst (TextsFit (tables.Source Swap AtStory ∷ (tables.Action Swap ∷ ts))) (sym (two_ids fields.StoryID first second)) x.sources) in
    let c : Canonical (tables.Source Swap Nowhere) [] (ids_events fields.StoryID ids) = ids_canonical (tables.Source Swap Nowhere) [] fields.StoryID (Count 2) ids refl refl (refl, refl, refl, refl) (omega arith) (omega arith) r in
    without_target Swap taken ro (must fields.StoryID first ++ must fields.StoryID second) (omega arith) (omega arith) x.order (subst (Canonical (tables.Source Swap Nowhere) []) (two_ids fields.StoryID first second) c)
action_canonical ro (SwapItems story first second) taken ts s d h =
    let ids : List Text = first ∷ second ∷ [] in
    let x = target_texts Swap ts ro (must fields.StoryID story) (must fields.ItemID first ++ must fields.ItemID second) (level_must fields.StoryID story) (level_two fields.ItemID first second) h in
    let r = ids_read (tables.Source Swap AtStory) (tables.Action Swap ∷ ts) fields.ItemID (Count 2) ids refl (subst (TextsFit (tables.Source Swap AtStory ∷ (tables.Action Swap ∷ ts))) (sym (two_ids fields.ItemID first second)) x.sources) in
    let c : Canonical (tables.Source Swap AtStory) [] (ids_events fields.ItemID ids) = ids_canonical (tables.Source Swap AtStory) [] fields.ItemID (Count 2) ids refl refl (refl, refl, refl, refl) (omega arith) (omega arith) r in
    with_target Swap taken ro (must fields.StoryID story) (must fields.ItemID first ++ must fields.ItemID second) AtStory (omega arith) (omega arith) (aim_story story) x.order (story_target Swap (tables.Action Swap ∷ ts) story (omega arith) (omega arith) x.target) (subst (Canonical (tables.Source Swap AtStory) []) (two_ids fields.ItemID first second) c)
