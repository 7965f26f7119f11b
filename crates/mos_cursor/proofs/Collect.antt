-- The parts of the columns of an accepted record.
use Rattle.std.proofs.Common.{◌≡◌, ℕ, ◌+◌, ◌≤◌, Bool, true, false, cond, List, [], ◌∷◌, ◌++◌, length, map, Some, None, refl, sym, ap, subst, ◌∙◌, append_assoc, arith, ◌⊎◌, inl, inr}
use Rattle.std.specs.List.{AllByRecursion, flat_map}
use Rattle.std.proofs.lemmas.List.{append-nil}
use Rattle.std.proofs.lemmas.Grind.{flat_map-append}
use Rattle.mos_fields.specs.Characters.{Text}
use Rattle.mos_fields.specs.Fields.{name_of, same_field, same}
use Rattle.mos_fields.specs.Forms.{among, reads}
use Rattle.mos_fields.specs.Raw.{IsRawElement}
use Rattle.mos_fields.specs.declared.field.Field.{Field}
use Rattle.mos_fields.specs.declared.field.Field.TheVariants as fields
use Rattle.mos_fields.specs.declared.form.Form.{Form}
use Rattle.mos_fields.specs.declared.form.Form.TheVariants as forms
use Rattle.mos_tables.specs.declared.column.Column.{Column}
use Rattle.mos_tables.specs.declared.column.Shape.{Shape}
use Rattle.mos_tables.specs.declared.column.Shape.TheVariants.{Leaf, Raw, Record, Message}
use Rattle.mos_tables.specs.declared.column.Often.{Often}
use Rattle.mos_tables.specs.declared.column.Often.TheVariants.{One, Optional, Any, Many, Count}
use Rattle.mos_tables.specs.declared.table.Table.{Table}
use Rattle.mos_tables.specs.declared.table.Table.TheVariants as tables
use Rattle.mos_tables.specs.Events.{Event, leaf, raw, opens, closes}
use Rattle.mos_tables.specs.Tables.{columns, is_ack, has_keys, attribute_of_form, required}
use Rattle.mos_grammar.specs.Records.{Child, times, least_count, is_optional, found, column_events, arranged, key_of, keys, with_aim}
use Rattle.mos_cursor.specs.Parts.{LeafPart, RecordPart, Part, absent, one_leaf, leaves, one_raw, raws, one_record, records, message, leaf_event, record_events, part_events, parts_events, kept_column, places}
use Rattle.mos_cursor.specs.Accepted.{IsAccepted, IsGiven, LeafFits, first_text, is_keyed, IsFresh, FreshIf, RecordsFit, FitsAs, AllFit}
use Rattle.mos_cursor.proofs.Forms.{reads_again, key_is_fresh}
use Rattle.mos_cursor.proofs.Columns.{column_with, column_with-same, table_facts, all_known, distinct_columns, AllKnown, MessageOnce, IsOnce}
use Rattle.mos_cursor.proofs.Children.{LeafItem, leaf_lacks, leaf_some, RawItem, raw_item, RecordItem, record_item, MessageItem, message_raw, message_item, ItemOf, ChildFits, of_column, of_kept, of_dropped, AllChildren, each}
use Rattle.mos_cursor.proofs.Counts.{fields_of, Most, IsBounded, bounded, IsPresent, present}

-- ---- children of one column

-- a child of this column's field is an item of the column
of_this : (t : Table) (before : List Child) (taken : List Text) (f : Field) (es : List Event) (c : Column) → ChildFits t before taken f es → column_with (columns t) c.field ≡ Some c → same_field c.field f ≡ true → ItemOf t before taken c c.shape es
of_this t before taken f xs c (of_column d es k i) kc e =
    let p : Some c ≡ Some d = sym kc ∙ column_with-same (columns t) c.field d.field e ∙ k in
    let q : c ≡ d = cc in
    subst (λ (x : Column). ItemOf t before taken x x.shape es) (sym q) i
of_this t before taken f es c (of_kept x h) kc e =
    let p : Some c ≡ None = sym kc ∙ column_with-same (columns t) c.field fields.Kept e ∙ (table_facts t).no_kept in absurd cc
of_this t before taken f es c of_dropped kc e =
    let p : Some c ≡ None = sym kc ∙ column_with-same (columns t) c.field fields.Dropped e ∙ (table_facts t).no_dropped in absurd cc

-- a text of the form beside the keys taken
record TakenFits (form : Form) (taken : List Text) (p : LeafPart) : Type 0 where
  given : IsGiven (attribute_of_form form) p.given
  read_from : Text
  reads_as : reads form taken read_from ≡ Some p.text

record LeafList (taken : List Text) (c : Column) (form : Form) (es : List Event) (k : ℕ) : Type 0 where
  parts : List LeafPart
  events : es ≡ map (leaf_event (name_of c.field)) parts
  fit : AllByRecursion (TakenFits form taken) parts
  few : length parts ≤ k
  exactly : is_optional c.often ≡ false → length parts ≡ k

leaf_list : (t : Table) (taken : List Text) (before cs : List Child) (c : Column) (form : Form) → column_with (columns t) c.field ≡ Some c → c.shape ≡ Leaf form
    → AllChildren t taken before cs → LeafList taken c form (found c.field cs) (times c.field (fields_of cs))
leaf_list t taken before [] c form kc s a = record { parts = []; events = refl; fit = tt; few = omega arith; exactly = λ e. refl }
leaf_list t taken before (d ∷ cs) c form kc s a = go (same_field c.field d.0) refl (leaf_list t taken (before ++ d ∷ []) cs c form kc s a.1)
  where
    with_item : (es : List Event) → LeafItem taken c form es → LeafList taken c form (found c.field cs) (times c.field (fields_of cs)) → LeafList taken c form (es ++ found c.field cs) (times c.field (fields_of cs) + 1)
    with_item es (leaf_lacks o) l = record { parts = l.parts; events = l.events; fit = l.fit; few = omega (arith, l.few); exactly = λ e. absurd (let p = o in cc) }
    with_item es (leaf_some g x y i r) l =
        let p : LeafPart = record { given = g; text = y } in
        record { parts = p ∷ l.parts; events = ap (λ (z : List Event). leaf (name_of c.field) g y ∷ z) l.events; fit = (record { given = i; read_from = x; reads_as = r }, l.fit); few = omega (arith, l.few); exactly = λ e. omega (arith, l.exactly e) }

    go : (b : Bool) → same_field c.field d.0 ≡ b → LeafList taken c form (found c.field cs) (times c.field (fields_of cs)) → LeafList taken c form (cond b d.1 [] ++ found c.field cs) (cond b (times c.field (fields_of cs) + 1) (times c.field (fields_of cs)))
    go true e l = with_item d.1 (subst (λ (x : Shape). ItemOf t before taken c x d.1) s (of_this t before taken d.0 d.1 c a.0 kc e)) l
    go false e l = l

-- raw elements
record RawList (f : Field) (es : List Event) (k : ℕ) : Type 0 where
  parts : List Text
  events : es ≡ map (raw f) parts
  fit : AllByRecursion IsRawElement parts
  exactly : length parts ≡ k

raw_list : (t : Table) (taken : List Text) (before cs : List Child) (c : Column) → column_with (columns t) c.field ≡ Some c → c.shape ≡ Raw
    → AllChildren t taken before cs → RawList c.field (found c.field cs) (times c.field (fields_of cs))
raw_list t taken before [] c kc s a = record { parts = []; events = refl; fit = tt; exactly = refl }
raw_list t taken before (d ∷ cs) c kc s a = go (same_field c.field d.0) refl (raw_list t taken (before ++ d ∷ []) cs c kc s a.1)
  where
    with_item : (es : List Event) → RawItem c es → RawList c.field (found c.field cs) (times c.field (fields_of cs)) → RawList c.field (es ++ found c.field cs) (times c.field (fields_of cs) + 1)
    with_item es (raw_item x h) l = record { parts = x ∷ l.parts; events = ap (λ (z : List Event). raw c.field x ∷ z) l.events; fit = (h, l.fit); exactly = omega (arith, l.exactly) }

    go : (b : Bool) → same_field c.field d.0 ≡ b → RawList c.field (found c.field cs) (times c.field (fields_of cs)) → RawList c.field (cond b d.1 [] ++ found c.field cs) (cond b (times c.field (fields_of cs) + 1) (times c.field (fields_of cs)))
    go true e l = with_item d.1 (subst (λ (x : Shape). ItemOf t before taken c x d.1) s (of_this t before taken d.0 d.1 c a.0 kc e)) l
    go false e l = l

-- the elements that the table does not name
kept_list : (t : Table) (taken : List Text) (before cs : List Child) → AllChildren t taken before cs → RawList fields.Kept (found fields.Kept cs) (times fields.Kept (fields_of cs))
kept_list t taken before [] a = record { parts = []; events = refl; fit = tt; exactly = refl }
kept_list t taken before (d ∷ cs) a = go d.0 d.1 a.0 (kept_list t taken (before ++ d ∷ []) cs a.1)
  where
    other : (c : Column) (es : List Event) → column_with (columns t) c.field ≡ Some c → (b : Bool) → same_field fields.Kept c.field ≡ b → RawList fields.Kept (found fields.Kept cs) (times fields.Kept (fields_of cs))
        → RawList fields.Kept (cond b es [] ++ found fields.Kept cs) (cond b (times fields.Kept (fields_of cs) + 1) (times fields.Kept (fields_of cs)))
    other c es k true e l = let p : Some c ≡ None = sym k ∙ sym (column_with-same (columns t) fields.Kept c.field e) ∙ (table_facts t).no_kept in absurd cc
    other c es k false e l = l

    go : (f : Field) (es : List Event) → ChildFits t before taken f es → RawList fields.Kept (found fields.Kept cs) (times fields.Kept (fields_of cs))
        → RawList fields.Kept (cond (same_field fields.Kept f) es [] ++ found fields.Kept cs) (cond (same_field fields.Kept f) (times fields.Kept (fields_of cs) + 1) (times fields.Kept (fields_of cs)))
    go f xs (of_column c es k i) l = other c es k (same_field fields.Kept c.field) refl l
    go f xs (of_kept x h) l = record { parts = x ∷ l.parts; events = ap (λ (z : List Event). raw fields.Kept x ∷ z) l.events; fit = (h, l.fit); exactly = omega (arith, l.exactly) }
    go f xs of_dropped l = l

-- ---- records

-- the texts of the first list are among those of the second
abbrev Within : List Text → List Text → Type 0
Within xs ys = (k : Text) → among k xs ≡ true → among k ys ≡ true

among_left : (k : Text) (xs ys : List Text) → among k xs ≡ true → among k (xs ++ ys) ≡ true
among_left k [] ys h = absurd cc
among_left k (x ∷ xs) ys h = go (same k x) h (λ e. among_left k xs ys e)
  where
    go : (b : Bool) → cond b true (among k xs) ≡ true → (among k xs ≡ true → among k (xs ++ ys) ≡ true) → cond b true (among k (xs ++ ys)) ≡ true
    go true h ih = refl
    go false h ih = ih h

among_right : (k : Text) (xs ys : List Text) → among k ys ≡ true → among k (xs ++ ys) ≡ true
among_right k [] ys h = h
among_right k (x ∷ xs) ys h = go (same k x) (among_right k xs ys h)
  where
    go : (b : Bool) → among k (xs ++ ys) ≡ true → cond b true (among k (xs ++ ys)) ≡ true
    go true ih = refl
    go false ih = ih

among_either : (k : Text) (xs ys : List Text) → among k (xs ++ ys) ≡ true → (among k xs ≡ true) ⊎ (among k ys ≡ true)
among_either k [] ys h = inr h
among_either k (x ∷ xs) ys h = go (same k x) h (λ e. among_either k xs ys e)
  where
    go : (b : Bool) → cond b true (among k (xs ++ ys)) ≡ true → (among k (xs ++ ys) ≡ true → (among k xs ≡ true) ⊎ (among k ys ≡ true)) → (cond b true (among k xs) ≡ true) ⊎ (among k ys ≡ true)
    go true h ih = inl refl
    go false h ih = ih h

-- one more child adds its key
keys_push : (t : Table) (before : List Child) (c : Child) → has_keys t ≡ true → keys t (before ++ c ∷ []) ≡ keys t before ++ key_of c.1
unfolding keys
keys_push t before c h = rw h (flat_map-append (λ (c : Child). key_of c.1) before (c ∷ []) ∙ ap (λ (z : List Text). flat_map (λ (c : Child). key_of c.1) before ++ z) (append-nil (key_of c.1)))

key_of_record : (n : Text) (p : RecordPart) → key_of (record_events n p) ≡ first_text p.inner
key_of_record n p = go p.inner
  where
    go : (es : List Event) → key_of (opens n p.given ∷ (es ++ closes n ∷ [])) ≡ first_text es
    go [] = refl
    go (leaf m g x ∷ es) = refl
    go (raw f x ∷ es) = refl
    go (opens m g ∷ es) = refl
    go (closes m ∷ es) = refl

keyed_keys : (t u : Table) → is_keyed t u ≡ true → has_keys t ≡ true
keyed_keys tables.Body u h = refl
keyed_keys tables.Story u h = refl
keyed_keys t u h = absurd cc

-- the first text of a record whose first field is a key is none of the keys taken
key_front : (taken : List Text) (c : Column) (x : List Event) (k : ℕ) (rest : List Event) → LeafList taken c forms.Key x k → 1 ≤ k → is_optional c.often ≡ false → IsFresh taken (first_text ((x ++ []) ++ rest))
key_front taken c x k rest l some o = go l.parts l.events l.fit (l.exactly o)
  where
    go : (ps : List LeafPart) → x ≡ map (leaf_event (name_of c.field)) ps → AllByRecursion (TakenFits forms.Key taken) ps → length ps ≡ k → IsFresh taken (first_text ((x ++ []) ++ rest))
    go [] e a n = absurd (omega (arith, n, some))
    go (p ∷ ps) e a n =
        let f : among p.text taken ≡ false = key_is_fresh taken a.0.read_from p.text a.0.reads_as in
        subst (λ (z : List Event). IsFresh taken (first_text ((z ++ []) ++ rest))) (sym e) f

fresh_first : (t u : Table) (before : List Child) (taken : List Text) (es : List Event) → is_keyed t u ≡ true → IsAccepted (with_aim before u) taken es → IsFresh taken (first_text es)
unfolding arranged
fresh_first tables.Body tables.Story before taken es h a =
    subst (λ (z : List Event). IsFresh taken (first_text z)) (sym a.value)
    (key_front taken _ _ _ _ (leaf_list tables.Story taken [] a.all (required fields.StoryID forms.Key) forms.Key refl refl (each a.content a.written tt)) (present refl a.content).0 refl)
fresh_first tables.Story tables.Item before taken es h a =
    subst (λ (z : List Event). IsFresh taken (first_text z)) (sym a.value)
    (key_front taken _ _ _ _ (leaf_list tables.Item taken [] a.all (required fields.ItemID forms.Key) forms.Key refl refl (each a.content a.written tt)) (present refl a.content).0 refl)
fresh_first t u before taken es h a = absurd cc

fresh_within : (taken earlier xs : List Text) → Within earlier taken → IsFresh taken xs → IsFresh earlier xs
fresh_within taken earlier [] w h = tt
fresh_within taken earlier (x ∷ xs) w h = go (among x earlier) refl
  where
    go : (b : Bool) → among x earlier ≡ b → b ≡ false
    go true e = let p : among x taken ≡ true = w x e in absurd cc
    go false e = refl

-- the keys of earlier records are among those taken, where the records have keys
abbrev EarlierKeys : Table → Table → List Child → List Text → Type 0
EarlierKeys t u before earlier = is_keyed t u ≡ true → Within earlier (keys t before)

record RecordList (t : Table) (c : Column) (u : Table) (earlier : List Text) (es : List Event) (k : ℕ) : Type 0 where
  parts : List RecordPart
  events : es ≡ flat_map (record_events (name_of c.field)) parts
  fit : RecordsFit t u earlier parts
  exactly : length parts ≡ k

record_list : (t : Table) (taken : List Text) (before cs : List Child) (c : Column) (u : Table) (earlier : List Text) → column_with (columns t) c.field ≡ Some c → c.shape ≡ Record u → EarlierKeys t u before earlier
    → AllChildren t taken before cs → RecordList t c u earlier (found c.field cs) (times c.field (fields_of cs))
record_list t taken before [] c u earlier kc s w a = record { parts = []; events = refl; fit = tt; exactly = refl }
record_list t taken before (d ∷ cs) c u earlier kc s w a =
    go (same_field c.field d.0) refl (λ e v. record_list t taken (before ++ d ∷ []) cs c u e kc s v a.1)
  where
    wider : EarlierKeys t u (before ++ d ∷ []) earlier
    wider h k e = rw (keys_push t before d (keyed_keys t u h)) (among_left k (keys t before) (key_of d.1) (w h k e))

    with_item : (es : List Event) → d.1 ≡ es → RecordItem t before c u es → ((e : List Text) → EarlierKeys t u (before ++ d ∷ []) e → RecordList t c u e (found c.field cs) (times c.field (fields_of cs)))
        → RecordList t c u earlier (es ++ found c.field cs) (times c.field (fields_of cs) + 1)
    with_item es q (record_item p g h) ih =
        let v : EarlierKeys t u (before ++ d ∷ []) (earlier ++ first_text p.inner) = (λ i k e. elim (among_either k earlier (first_text p.inner) e) [
          | inl x ↦ wider i k x
          | inr x ↦ rw (keys_push t before d (keyed_keys t u i), q, key_of_record (name_of c.field) p) (among_right k (keys t before) (first_text p.inner) x)
        ]) in
        let l = ih (earlier ++ first_text p.inner) v in
        let f : FreshIf (is_keyed t u) earlier (first_text p.inner) = fresh (is_keyed t u) refl h in
        record {
          parts = p ∷ l.parts;
          events = ap (λ (z : List Event). record_events (name_of c.field) p ++ z) l.events;
          fit = (record { before = before; taken = keys t before; given = g; accepted = h; fresh = f }, l.fit);
          exactly = omega (arith, l.exactly);
        }
      where
        fresh : (b : Bool) → is_keyed t u ≡ b → IsAccepted (with_aim before u) (keys t before) p.inner → FreshIf b earlier (first_text p.inner)
        fresh true e h = fresh_within (keys t before) earlier (first_text p.inner) (w e) (fresh_first t u before (keys t before) p.inner e h)
        fresh false e h = tt

    go : (b : Bool) → same_field c.field d.0 ≡ b → ((e : List Text) → EarlierKeys t u (before ++ d ∷ []) e → RecordList t c u e (found c.field cs) (times c.field (fields_of cs)))
        → RecordList t c u earlier (cond b d.1 [] ++ found c.field cs) (cond b (times c.field (fields_of cs) + 1) (times c.field (fields_of cs)))
    go true e ih = with_item d.1 refl (subst (λ (x : Shape). ItemOf t before taken c x d.1) s (of_this t before taken d.0 d.1 c a.0 kc e)) ih
    go false e ih = ih earlier wider

-- ---- messages

record MessageList (t : Table) (c : Column) (es : List Event) (k : ℕ) : Type 0 where
  parts : List Part
  events : es ≡ flat_map (part_events c.field) parts
  fit : AllByRecursion (FitsAs t Message (Count 1)) parts
  exactly : length parts ≡ k

message_list : (t : Table) (taken : List Text) (before cs : List Child) (c : Column) → column_with (columns t) c.field ≡ Some c → c.shape ≡ Message
    → AllChildren t taken before cs → MessageList t c (found c.field cs) (times c.field (fields_of cs))
message_list t taken before [] c kc s a = record { parts = []; events = refl; fit = tt; exactly = refl }
message_list t taken before (d ∷ cs) c kc s a = go (same_field c.field d.0) refl (message_list t taken (before ++ d ∷ []) cs c kc s a.1)
  where
    with_item : (es : List Event) → MessageItem c es → MessageList t c (found c.field cs) (times c.field (fields_of cs)) → MessageList t c (es ++ found c.field cs) (times c.field (fields_of cs) + 1)
    with_item es (message_raw x h) l = record { parts = one_raw x ∷ l.parts; events = ap (λ (z : List Event). raw c.field x ∷ z) l.events; fit = (h, l.fit); exactly = omega (arith, l.exactly) }
    with_item es (message_item n p h) l = record { parts = message n p ∷ l.parts; events = ap (λ (z : List Event). record_events n p ++ z) l.events; fit = (h, l.fit); exactly = omega (arith, l.exactly) }

    go : (b : Bool) → same_field c.field d.0 ≡ b → MessageList t c (found c.field cs) (times c.field (fields_of cs)) → MessageList t c (cond b d.1 [] ++ found c.field cs) (cond b (times c.field (fields_of cs) + 1) (times c.field (fields_of cs)))
    go true e l = with_item d.1 (subst (λ (x : Shape). ItemOf t before taken c x d.1) s (of_this t before taken d.0 d.1 c a.0 kc e)) l
    go false e l = l

-- ---- the part of a column

leaf_fits : (form : Form) (taken : List Text) (ps : List LeafPart) → AllByRecursion (TakenFits form taken) ps → AllByRecursion (LeafFits form) ps
leaf_fits form taken [] a = tt
leaf_fits form taken (p ∷ ps) a = (record { given = a.0.given; canonical = reads_again form taken a.0.read_from p.text a.0.reads_as }, leaf_fits form taken ps a.1)

record PartOf (t : Table) (f : Field) (s : Shape) (o : Often) (es : List Event) : Type 0 where
  part : Part
  fit : FitsAs t s o part
  events : es ≡ part_events f part

leaf_part : (t : Table) (taken : List Text) (c : Column) (form : Form) (o : Often) (es : List Event) (k : ℕ) → c.often ≡ o → Most o k → least_count o ≤ k → LeafList taken c form es k → PartOf t c.field (Leaf form) o es
leaf_part t taken c form One es k q m n l = go l.parts l.events l.fit (l.exactly (rw q refl))
  where
    go : (ps : List LeafPart) → es ≡ map (leaf_event (name_of c.field)) ps → AllByRecursion (TakenFits form taken) ps → length ps ≡ k → PartOf t c.field (Leaf form) One es
    go [] e a x = absurd (omega (arith, x, n))
    go (p ∷ []) e a x = record { part = one_leaf p; fit = (leaf_fits form taken (p ∷ []) a).0; events = e }
    go (p ∷ r ∷ ps) e a x = absurd (omega (arith, x, m))
leaf_part t taken c form Optional es k q m n l = go l.parts l.events l.fit l.few
  where
    go : (ps : List LeafPart) → es ≡ map (leaf_event (name_of c.field)) ps → AllByRecursion (TakenFits form taken) ps → length ps ≤ k → PartOf t c.field (Leaf form) Optional es
    go [] e a x = record { part = absent; fit = tt; events = e }
    go (p ∷ []) e a x = record { part = one_leaf p; fit = (leaf_fits form taken (p ∷ []) a).0; events = e }
    go (p ∷ r ∷ ps) e a x = absurd (omega (arith, x, m))
leaf_part t taken c form Any es k q m n l = record { part = leaves l.parts; fit = leaf_fits form taken l.parts l.fit; events = l.events }
leaf_part t taken c form Many es k q m n l = record { part = leaves l.parts; fit = (leaf_fits form taken l.parts l.fit, omega (arith, l.exactly (rw q refl), n)); events = l.events }
leaf_part t taken c form (Count j) es k q m n l = record { part = leaves l.parts; fit = (leaf_fits form taken l.parts l.fit, omega (arith, l.exactly (rw q refl), n, m)); events = l.events }

raw_part : (t : Table) (f : Field) (o : Often) (es : List Event) (k : ℕ) → Most o k → least_count o ≤ k → RawList f es k → PartOf t f Raw o es
raw_part t f One es k m n l = go l.parts l.events l.fit l.exactly
  where
    go : (xs : List Text) → es ≡ map (raw f) xs → AllByRecursion IsRawElement xs → length xs ≡ k → PartOf t f Raw One es
    go [] e a x = absurd (omega (arith, x, n))
    go (p ∷ []) e a x = record { part = one_raw p; fit = a.0; events = e }
    go (p ∷ r ∷ ps) e a x = absurd (omega (arith, x, m))
raw_part t f Optional es k m n l = go l.parts l.events l.fit l.exactly
  where
    go : (xs : List Text) → es ≡ map (raw f) xs → AllByRecursion IsRawElement xs → length xs ≡ k → PartOf t f Raw Optional es
    go [] e a x = record { part = absent; fit = tt; events = e }
    go (p ∷ []) e a x = record { part = one_raw p; fit = a.0; events = e }
    go (p ∷ r ∷ ps) e a x = absurd (omega (arith, x, m))
raw_part t f Any es k m n l = record { part = raws l.parts; fit = l.fit; events = l.events }
raw_part t f Many es k m n l = record { part = raws l.parts; fit = (l.fit, omega (arith, l.exactly, n)); events = l.events }
raw_part t f (Count j) es k m n l = record { part = raws l.parts; fit = (l.fit, omega (arith, l.exactly, n, m)); events = l.events }

record_part : (t : Table) (c : Column) (u : Table) (o : Often) (es : List Event) (k : ℕ) → Most o k → least_count o ≤ k → RecordList t c u [] es k → PartOf t c.field (Record u) o es
record_part t c u One es k m n l = go l.parts l.events l.fit l.exactly
  where
    go : (ps : List RecordPart) → es ≡ flat_map (record_events (name_of c.field)) ps → RecordsFit t u [] ps → length ps ≡ k → PartOf t c.field (Record u) One es
    go [] e a x = absurd (omega (arith, x, n))
    go (p ∷ []) e a x = record { part = one_record p; fit = a.0; events = e ∙ append-nil (record_events (name_of c.field) p) }
    go (p ∷ r ∷ ps) e a x = absurd (omega (arith, x, m))
record_part t c u Optional es k m n l = go l.parts l.events l.fit l.exactly
  where
    go : (ps : List RecordPart) → es ≡ flat_map (record_events (name_of c.field)) ps → RecordsFit t u [] ps → length ps ≡ k → PartOf t c.field (Record u) Optional es
    go [] e a x = record { part = absent; fit = tt; events = e }
    go (p ∷ []) e a x = record { part = one_record p; fit = a.0; events = e ∙ append-nil (record_events (name_of c.field) p) }
    go (p ∷ r ∷ ps) e a x = absurd (omega (arith, x, m))
record_part t c u Any es k m n l = record { part = records l.parts; fit = l.fit; events = l.events }
record_part t c u Many es k m n l = record { part = records l.parts; fit = (l.fit, omega (arith, l.exactly, n)); events = l.events }
record_part t c u (Count j) es k m n l = record { part = records l.parts; fit = (l.fit, omega (arith, l.exactly, n, m)); events = l.events }

message_part : (t : Table) (c : Column) (o : Often) (es : List Event) (k : ℕ) → MessageOnce Message o → Most o k → least_count o ≤ k → MessageList t c es k → PartOf t c.field Message o es
message_part t c One es k i m n l = absurd i
message_part t c Optional es k i m n l = absurd i
message_part t c Any es k i m n l = absurd i
message_part t c Many es k i m n l = absurd i
message_part t c (Count j) es k i m n l = go l.parts l.events l.fit l.exactly
  where
    as_one : (p : Part) → FitsAs t Message (Count 1) p → FitsAs t Message (Count j) p
    as_one p h = subst (λ z. FitsAs t Message (Count z) p) (sym i) h

    go : (ps : List Part) → es ≡ flat_map (part_events c.field) ps → AllByRecursion (FitsAs t Message (Count 1)) ps → length ps ≡ k → PartOf t c.field Message (Count j) es
    go [] e a x = absurd (omega (arith, x, n, i))
    go (p ∷ []) e a x = record { part = p; fit = as_one p a.0; events = e ∙ append-nil (part_events c.field p) }
    go (p ∷ r ∷ ps) e a x = absurd (omega (arith, x, m, i))

part_of_column : (t : Table) (taken : List Text) (all : List Child) (c : Column) → column_with (columns t) c.field ≡ Some c → IsOnce c → AllChildren t taken [] all → IsBounded t (fields_of all) → IsPresent (fields_of all) c
    → PartOf t c.field c.shape c.often (found c.field all)
part_of_column t taken all c kc i a b n = go c.shape refl
  where
    m : Most c.often (times c.field (fields_of all))
    m = b c.field c kc

    go : (s : Shape) → c.shape ≡ s → PartOf t c.field s c.often (found c.field all)
    go (Leaf form) e = leaf_part t taken c form c.often (found c.field all) (times c.field (fields_of all)) refl m n (leaf_list t taken [] all c form kc e a)
    go Raw e = raw_part t c.field c.often (found c.field all) (times c.field (fields_of all)) m n (raw_list t taken [] all c kc e a)
    go (Record u) e = record_part t c u c.often (found c.field all) (times c.field (fields_of all)) m n (record_list t taken [] all c u [] kc e (λ h k x. absurd cc) a)
    go Message e = message_part t c c.often (found c.field all) (times c.field (fields_of all)) (subst (λ (s : Shape). MessageOnce s c.often) e i) m n (message_list t taken [] all c kc e a)

-- ---- all columns

pub record PartsOf (t : Table) (cs : List Column) (es : List Event) : Type 0 where
  pub parts : List Part
  pub fit : AllFit t cs parts
  pub events : es ≡ parts_events cs parts

all_parts : (t : Table) (taken : List Text) (all : List Child) (cs : List Column) → AllKnown (columns t) cs → AllByRecursion IsOnce cs → AllByRecursion (IsPresent (fields_of all)) cs → AllChildren t taken [] all → IsBounded t (fields_of all)
    → PartsOf t (places cs) (flat_map (λ (c : Column). column_events c.field all) cs)
all_parts t taken all [] k i n a b = record { parts = []; fit = tt; events = refl }
all_parts t taken all (c ∷ cs) k i n a b = go (same_field c.field fields.Metadata) (all_parts t taken all cs k.1 i.1 n.1 a b)
  where
    p : PartOf t c.field c.shape c.often (found c.field all)
    p = part_of_column t taken all c k.0 i.0 a b n.0

    q : RawList fields.Kept (found fields.Kept all) (times fields.Kept (fields_of all))
    q = kept_list t taken [] all a

    rest : List Event
    rest = flat_map (λ (c : Column). column_events c.field all) cs

    go : (b : Bool) → PartsOf t (places cs) rest → PartsOf t (cond b (c ∷ kept_column ∷ places cs) (c ∷ places cs)) ((found c.field all ++ cond b (found fields.Kept all) []) ++ rest)
    go true r = record {
      parts = p.part ∷ raws q.parts ∷ r.parts;
      fit = (p.fit, (q.fit, r.fit));
      events = append_assoc (found c.field all) (found fields.Kept all) rest ∙ ap (λ (z : List Event). z ++ (found fields.Kept all ++ rest)) p.events
          ∙ ap (λ (z : List Event). part_events c.field p.part ++ (z ++ rest)) q.events ∙ ap (λ (z : List Event). part_events c.field p.part ++ (part_events fields.Kept (raws q.parts) ++ z)) r.events;
    }
    go false r = record {
      parts = p.part ∷ r.parts;
      fit = (p.fit, r.fit);
      events = append_assoc (found c.field all) [] rest ∙ ap (λ (z : List Event). z ++ rest) p.events ∙ ap (λ (z : List Event). part_events c.field p.part ++ z) r.events;
    }

none_yet : (o : Often) → Most o 0
none_yet One = omega arith
none_yet Optional = omega arith
none_yet Any = tt
none_yet Many = tt
none_yet (Count m) = omega arith

nothing_yet : (t : Table) → IsBounded t []
nothing_yet t f c h = none_yet c.often

-- The events of an accepted record, which is no roAck, are those of parts that fit its columns.
pub parts_of_record : (t : Table) (taken : List Text) (es : List Event) → is_ack t ≡ false → IsAccepted t taken es → PartsOf t (places (columns t)) es
unfolding arranged
parts_of_record t taken es k a =
    let e : arranged t a.all ≡ flat_map (λ (c : Column). column_events c.field a.all) (columns t) = rw k refl in
    subst (PartsOf t (places (columns t))) (sym (a.value ∙ e))
    (all_parts t taken a.all (columns t) (all_known (columns t) (distinct_columns t)) (table_facts t).once (present k a.content) (each a.content a.written tt) (bounded k a.content (nothing_yet t)))
