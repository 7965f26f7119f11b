-- Keys of the records beside each other: that a key was taken is that two are the same.
use Rattle.std.proofs.Common.{◌≡◌, ◌+◌, Bool, true, false, cond, List, [], ◌∷◌, ◌++◌, Option, Some, None, refl, sym, ap, subst, ◌∙◌, arith, inl, inr}
use Rattle.std.specs.Prelude.{◌&&◌, not, nat_le, length}
use Rattle.std.specs.List.{flat_map}
use Rattle.std.proofs.lemmas.List.{append-nil}
use Rattle.std.proofs.lemmas.Grind.{flat_map-append}
use Rattle.mos_fields.specs.declared.field.Field.{Field}
use Rattle.mos_fields.specs.declared.field.Field.TheVariants as fields
use Rattle.mos_fields.specs.declared.form.Form.{Form}
use Rattle.mos_fields.specs.declared.form.Form.TheVariants as forms
use Rattle.mos_fields.specs.declared.operation.Operation.{Operation}
use Rattle.mos_fields.specs.declared.operation.Operation.TheVariants.{Insert, Replace, Move, Delete, Swap}
use Rattle.mos_fields.specs.Characters.{Text}
use Rattle.mos_fields.specs.Fields.{same_field, same}
use Rattle.mos_fields.specs.Forms.{among, is_white, is_trimmed, only_if, at_most, reads}
use Rattle.mos_tables.specs.declared.aim.Aim.{Aim}
use Rattle.mos_tables.specs.declared.aim.Aim.TheVariants.{Nowhere, AtStory, AtItem}
use Rattle.mos_tables.specs.declared.column.Column.{Column}
use Rattle.mos_tables.specs.declared.column.Shape.{Shape}
use Rattle.mos_tables.specs.declared.column.Shape.TheVariants.{Leaf, Raw, Record, Message}
use Rattle.mos_tables.specs.declared.others.Others.{Others}
use Rattle.mos_tables.specs.declared.others.Others.TheVariants.{Kept, Dropped, Refused}
use Rattle.mos_tables.specs.declared.table.Table.{Table}
use Rattle.mos_tables.specs.declared.table.Table.TheVariants.{Envelope, Body, HeaderPatch, Story, Item, MosObj, Heartbeat, NoFields, ListMachInfo, SupportedProfiles, MosAck, MosReqObj, MosReqAll, MosListAll, OneOrder, RoListAll, ElementStat, Action, Target, Source, ReadyToAir, RoAck, StorySend}
use Rattle.mos_tables.specs.Events.{Attribute, Event, leaf, raw, opens, closes}
use Rattle.mos_tables.specs.Tables.{columns, others, has_keys}
use Rattle.mos_grammar.specs.Records.{times, Child, is_named, column_of, is_optional, OpenField, Role, out_of_place, leaf_role, raw_role, record_role, with_aim, message_of, message_role, role_at, other_role, leaf_event, field_events, found, arranged, nested, raw_events, key_of, keys}
use Rattle.mos_grammar.proofs.Sound.{same-refl, same-is}
use Rattle.record_laws.specs.Words.{IsFilled, fields_of, Fills, by_column, element_role, is_key, Gives, AreApart}
use Rattle.record_laws.proofs.Filled.{some_column, times_own, Begins, none_in, front_begins}
use Rattle.record_laws.proofs.Following.{times_own_fields}
use Rattle.record_laws.proofs.Children.{IsFieldOf}

-- ---- the key of a table

abbrev pub key_field : Table → Option Field
key_field Story = Some fields.StoryID
key_field Item = Some fields.ItemID
key_field t = None

abbrev pub is_keyed : Table → Bool
is_keyed Story = true
is_keyed Item = true
is_keyed t = false

abbrev pub is_own_key : Option Field → Field → Bool
is_own_key None f = false
is_own_key (Some k) f = same_field k f

-- a key is the table's own, and only its own, and records with keys stand where keys are apart
abbrev pub column_keys : Table → Field → Shape → Bool
column_keys t f (Leaf form) = cond (is_key form) (is_own_key (key_field t) f) (not (is_own_key (key_field t) f))
column_keys t f Raw = not (is_own_key (key_field t) f)
column_keys t f (Record u) = cond (is_own_key (key_field t) f) false (cond (has_keys t) (is_keyed u) true)
column_keys t f Message = cond (is_own_key (key_field t) f) false (not (has_keys t))

abbrev pub keys_right : Table → List Column → Bool
keys_right t [] = true
keys_right t (c ∷ cs) = cond (column_keys t c.field c.shape) (keys_right t cs) false

sources_keyed : (o : Operation) (a : Aim) → keys_right (Source o a) (columns (Source o a)) ≡ true
sources_keyed Insert Nowhere = refl
sources_keyed Insert AtStory = refl
sources_keyed Insert AtItem = refl
sources_keyed Replace Nowhere = refl
sources_keyed Replace AtStory = refl
sources_keyed Replace AtItem = refl
sources_keyed Move Nowhere = refl
sources_keyed Move AtStory = refl
sources_keyed Move AtItem = refl
sources_keyed Delete Nowhere = refl
sources_keyed Delete AtStory = refl
sources_keyed Delete AtItem = refl
sources_keyed Swap Nowhere = refl
sources_keyed Swap AtStory = refl
sources_keyed Swap AtItem = refl

tables_keyed : (t : Table) → keys_right t (columns t) ≡ true
tables_keyed Envelope = refl
tables_keyed Body = refl
tables_keyed HeaderPatch = refl
tables_keyed Story = refl
tables_keyed Item = refl
tables_keyed MosObj = refl
tables_keyed Heartbeat = refl
tables_keyed NoFields = refl
tables_keyed ListMachInfo = refl
tables_keyed SupportedProfiles = refl
tables_keyed MosAck = refl
tables_keyed MosReqObj = refl
tables_keyed MosReqAll = refl
tables_keyed MosListAll = refl
tables_keyed OneOrder = refl
tables_keyed RoListAll = refl
tables_keyed ElementStat = refl
tables_keyed (Action o) = refl
tables_keyed (Target o) = refl
tables_keyed (Source o a) = sources_keyed o a
tables_keyed ReadyToAir = refl
tables_keyed RoAck = refl
tables_keyed StorySend = refl

both_true : (a b : Bool) → cond a b false ≡ true → (a ≡ true) × (b ≡ true)
both_true true b h = (refl, h)
both_true false b h = absurd cc

column_right : (t : Table) (cs : List Column) (n : Text) (d : Column) → keys_right t cs ≡ true → column_of cs n ≡ Some d → column_keys t d.field d.shape ≡ true
column_right t [] n d k is = absurd cc
column_right t (c ∷ cs) n d k is =
    let p = both_true (column_keys t c.field c.shape) (keys_right t cs) k in
    go p.0 (λ e. column_right t cs n d p.1 e) (is_named c n) is
  where
    go : column_keys t c.field c.shape ≡ true → (column_of cs n ≡ Some d → column_keys t d.field d.shape ≡ true) → (x : Bool) → cond x (Some c) (column_of cs n) ≡ Some d → column_keys t d.field d.shape ≡ true
    go p ih true e = subst (λ (z : Column). column_keys t z.field z.shape ≡ true) (some_column c d e) p
    go p ih false e = ih e

-- ---- what an element is

abbrev pub RoleFacts : Table → Option Column → Role → Type 0
RoleFacts t x out_of_place = Unit {0}
RoleFacts t x (leaf_role o) = IsFieldOf x o.field × (is_key o.form ≡ is_own_key (key_field t) o.field) × (is_key o.form ≡ true → o.may_lack ≡ false)
RoleFacts t x (raw_role f) = IsFieldOf x f × (is_own_key (key_field t) f ≡ false)
RoleFacts t x (record_role f u h) = IsFieldOf x f × (is_own_key (key_field t) f ≡ false) × (has_keys t ≡ true → is_keyed u ≡ true)

form_key : (a b : Bool) → cond a b (not b) ≡ true → a ≡ b
form_key true true h = refl
form_key true false h = absurd cc
form_key false true h = absurd cc
form_key false false h = refl

not_own : (b : Bool) → not b ≡ true → b ≡ false
not_own true h = absurd cc
not_own false h = refl

neither : (a b : Bool) → cond a false b ≡ true → (a ≡ false) × (b ≡ true)
neither true b h = absurd cc
neither false b h = (refl, h)

key_not_trimmed : (f : Form) (b : Bool) → is_key f ≡ true → (b && is_trimmed f) ≡ false
key_not_trimmed forms.Key true h = refl
key_not_trimmed forms.Key false h = refl
key_not_trimmed f b h = absurd cc

keyed_aim : (before : List Child) (u : Table) → is_keyed u ≡ true → is_keyed (with_aim before u) ≡ true
keyed_aim before Story h = refl
keyed_aim before Item h = refl
keyed_aim before u h = absurd cc

key_not_kept : (t : Table) → is_own_key (key_field t) fields.Kept ≡ false
key_not_kept Story = refl
key_not_kept Item = refl
key_not_kept t = refl

key_not_dropped : (t : Table) → is_own_key (key_field t) fields.Dropped ≡ false
key_not_dropped Story = refl
key_not_dropped Item = refl
key_not_dropped t = refl

facts_other : (t : Table) (o : Others) → RoleFacts t None (other_role o)
facts_other t Kept = (refl, key_not_kept t)
facts_other t Dropped = (refl, key_not_dropped t)
facts_other t Refused = tt

facts_at : (t : Table) (before : List Child) (n : Text) (g : List Attribute) (d : Column) (s : Shape) → column_keys t d.field s ≡ true → RoleFacts t (Some d) (role_at before n g d s)
facts_at t before n g d (Leaf form) k = (refl, form_key (is_key form) (is_own_key (key_field t) d.field) k, λ e. key_not_trimmed form (is_optional d.often) e)
facts_at t before n g d Raw k = (refl, not_own (is_own_key (key_field t) d.field) k)
facts_at t before n g d (Record u) k =
    let p = neither (is_own_key (key_field t) d.field) (cond (has_keys t) (is_keyed u) true) k in
    (refl, p.0, λ e. keyed_aim before u (keyed (has_keys t) e p.1))
  where
    keyed : (b : Bool) → b ≡ true → cond b (is_keyed u) true ≡ true → is_keyed u ≡ true
    keyed true e h = h
    keyed false e h = absurd cc
facts_at t before n g d Message k =
    let p = neither (is_own_key (key_field t) d.field) (not (has_keys t)) k in
    go p.0 (not_own (has_keys t) p.1) (message_of n g)
  where
    go : is_own_key (key_field t) d.field ≡ false → has_keys t ≡ false → (o : Option Table) → RoleFacts t (Some d) (message_role d.field g o)
    go p q None = (refl, p)
    go p q (Some u) = (refl, p, λ e. absurd (clash (has_keys t) e q))
      where
        clash : (b : Bool) → b ≡ true → b ≡ false → ⊥
        clash b p q = cc

facts_by : (t : Table) (before : List Child) (n : Text) (g : List Attribute) (x : Option Column) → column_of (columns t) n ≡ x → RoleFacts t x (by_column t before n g x)
facts_by t before n g None is = facts_other t (others t n)
facts_by t before n g (Some d) is = facts_at t before n g d d.shape (column_right t (columns t) n d (tables_keyed t) is)

-- What an element is by its name has the field of its column.
pub role_facts : (t : Table) (before : List Child) (n : Text) (g : List Attribute) (w : Role) → element_role t before n g ≡ w → RoleFacts t (column_of (columns t) n) w
role_facts t before n g w e = subst (RoleFacts t (column_of (columns t) n)) e (facts_by t before n g (column_of (columns t) n) refl)

-- ---- keys taken

-- none of these texts is among those
abbrev pub NoneOf : List Text → List Text → Type 0
NoneOf taken [] = Unit {0}
NoneOf taken (k ∷ ks) = (among k taken ≡ false) × NoneOf taken ks

pub none_taken : (ks : List Text) → NoneOf [] ks
none_taken [] = tt
none_taken (k ∷ ks) = (refl, none_taken ks)

-- the text of a field
abbrev pub leaf_key : List Event → List Text
leaf_key [] = []
leaf_key (leaf m h k ∷ es) = k ∷ []
leaf_key (raw f x ∷ es) = []
leaf_key (opens m g ∷ es) = []
leaf_key (closes m ∷ es) = []

-- a table's own keys among children
abbrev pub own_keys : Option Field → List Child → List Text
own_keys K [] = []
own_keys K (c ∷ cs) = cond (is_own_key K c.0) (leaf_key c.1 ++ own_keys K cs) (own_keys K cs)

key_parts : (a b c : Bool) (x y : Text) → only_if (a && b && not c) x ≡ Some y → (c ≡ false) × (only_if (a && b && true) x ≡ Some y) × (x ≡ y)
key_parts true true true x y h = absurd cc
key_parts true true false x y h = (refl, h, cc)
key_parts true false c x y h = absurd cc
key_parts false true c x y h = absurd cc
key_parts false false c x y h = absurd cc

-- a text reads so beside keys where it does alone, and is none of them if it is one itself
reads_apart : (form : Form) (taken : List Text) (x y : Text) → reads form taken x ≡ Some y → (reads form [] x ≡ Some y) × NoneOf taken (cond (is_key form) (y ∷ []) [])
unfolding reads
reads_apart forms.Key taken x y h = parts (nat_le 1 (length x)) (at_most 128 x) h
  where
    parts : (a b : Bool) → only_if (a && b && not (among x taken)) x ≡ Some y → (only_if (a && b && true) x ≡ Some y) × NoneOf taken (y ∷ [])
    parts a b h = let p = key_parts a b (among x taken) x y h in (p.1, (subst (λ (z : Text). among z taken ≡ false) p.2 p.0, tt))
reads_apart form taken x y h = (h, tt)

reads_beside : (form : Form) (taken : List Text) (x y : Text) → reads form [] x ≡ Some y → NoneOf taken (cond (is_key form) (y ∷ []) []) → reads form taken x ≡ Some y
unfolding reads
reads_beside forms.Key taken x y h w = parts (nat_le 1 (length x)) (at_most 128 x) h
  where
    same_text : (a b : Bool) → only_if (a && b && not false) x ≡ Some y → x ≡ y
    same_text a b h = (key_parts a b false x y h).2

    parts : (a b : Bool) → only_if (a && b && not false) x ≡ Some y → only_if (a && b && not (among x taken)) x ≡ Some y
    parts a b h = let f : among x taken ≡ false = subst (λ (z : Text). among z taken ≡ false) (sym (same_text a b h)) w.0 in rw f h
reads_beside form taken x y h w = h

-- what a text gives, and its keys
abbrev pub form_keys : OpenField → List Event → List Text
form_keys o es = cond (is_key o.form) (leaf_key es) []

nothing_given : (b : Bool) → cond b (leaf_key []) [] ≡ []
nothing_given true = refl
nothing_given false = refl

pub field_gives : (n : Text) (o : OpenField) (taken : List Text) (x : Text) (es : List Event) → field_events n o taken x ≡ Some es → Gives n o x es × NoneOf taken (form_keys o es)
unfolding field_events
field_gives n o taken x es h = go (o.may_lack && is_white x) refl h
  where
    read : (z : Option Text) → reads o.form taken x ≡ z → leaf_event n o z ≡ Some es → (y : Text) × (reads o.form taken x ≡ Some y) × (es ≡ leaf n o.given y ∷ [])
    read None e h = absurd cc
    read (Some y) e h = (y, e, (let q : leaf n o.given y ∷ [] ≡ es = cc in sym q))

    go : (b : Bool) → (o.may_lack && is_white x) ≡ b → cond b (Some []) (leaf_event n o (reads o.form taken x)) ≡ Some es → Gives n o x es × NoneOf taken (form_keys o es)
    go true e h = let q : es ≡ [] = cc in (inl (e, q), subst (NoneOf taken) (sym (ap (form_keys o) q ∙ nothing_given (is_key o.form))) tt)
    go false e h =
        let r = read (reads o.form taken x) refl h in
        let p = reads_apart o.form taken x r.0 r.1 in
        (inr (e, (r.0, p.0, r.2)), subst (λ (z : List Event). NoneOf taken (form_keys o z)) (sym r.2) p.1)

pub gives_field : (n : Text) (o : OpenField) (taken : List Text) (x : Text) (es : List Event) → Gives n o x es → NoneOf taken (form_keys o es) → field_events n o taken x ≡ Some es
unfolding field_events
gives_field n o taken x es (inl h) w = rw (h.0, h.1) refl
gives_field n o taken x es (inr h) w =
    let r = reads_beside o.form taken x h.1.0 h.1.1 (subst (λ (z : List Event). NoneOf taken (form_keys o z)) h.1.2 w) in
    rw (h.0, r, h.1.2) refl

-- a key is no field that may be left empty
pub gives_leaf : (n : Text) (o : OpenField) (x : Text) (es : List Event) → o.may_lack ≡ false → Gives n o x es → (k : Text) × (es ≡ leaf n o.given k ∷ [])
gives_leaf n o x es l (inl h) = absurd (go o.may_lack (is_white x) l h.0)
  where
    go : (a b : Bool) → a ≡ false → (a && b) ≡ true → ⊥
    go true b e h = cc
    go false b e h = cc
gives_leaf n o x es l (inr h) = (h.1.0, h.1.2)

-- ---- the key of a record

-- children of a table's key are one text each
abbrev pub KeyLeaves : Option Field → List Child → Type 0
KeyLeaves K [] = Unit {0}
KeyLeaves K (c ∷ cs) = (is_own_key K c.0 ≡ true → (m : Text) × (g : List Attribute) × (k : Text) × (c.1 ≡ leaf m g k ∷ [])) × KeyLeaves K cs

no_key : (f : Field) (cs : List Child) → times f (fields_of cs) ≡ 0 → (found f cs ≡ []) × (own_keys (Some f) cs ≡ [])
no_key f [] z = (refl, refl)
no_key f (c ∷ cs) z = go (same_field f c.0) z (λ e. no_key f cs e)
  where
    go : (b : Bool) → cond b (times f (fields_of cs) + 1) (times f (fields_of cs)) ≡ 0 → (times f (fields_of cs) ≡ 0 → (found f cs ≡ []) × (own_keys (Some f) cs ≡ []))
        → (cond b c.1 [] ++ found f cs ≡ []) × (cond b (leaf_key c.1 ++ own_keys (Some f) cs) (own_keys (Some f) cs) ≡ [])
    go true z ih = absurd (omega arith)
    go false z ih = ih z

one_key : (f : Field) (cs : List Child) → KeyLeaves (Some f) cs → times f (fields_of cs) ≡ 1 → (m : Text) × (g : List Attribute) × (k : Text) × (found f cs ≡ leaf m g k ∷ []) × (own_keys (Some f) cs ≡ k ∷ [])
one_key f [] l z = absurd (omega arith)
one_key f (c ∷ cs) l z = go (same_field f c.0) z l.0 (λ e. one_key f cs l.1 e)
  where
    go : (b : Bool) → cond b (times f (fields_of cs) + 1) (times f (fields_of cs)) ≡ 1 → (b ≡ true → (m : Text) × (g : List Attribute) × (k : Text) × (c.1 ≡ leaf m g k ∷ []))
        → (times f (fields_of cs) ≡ 1 → (m : Text) × (g : List Attribute) × (k : Text) × (found f cs ≡ leaf m g k ∷ []) × (own_keys (Some f) cs ≡ k ∷ []))
        → (m : Text) × (g : List Attribute) × (k : Text) × (cond b c.1 [] ++ found f cs ≡ leaf m g k ∷ []) × (cond b (leaf_key c.1 ++ own_keys (Some f) cs) (own_keys (Some f) cs) ≡ k ∷ [])
    go true z one ih =
        let p = one refl in
        let q = no_key f cs (omega arith) in
        (p.0, p.1, p.2, rw (p.3, q.0) refl, rw (p.3, q.1) refl)
    go false z one ih = ih z

abbrev behind_first : List Column → List Column
behind_first [] = []
behind_first (c ∷ cs) = cs

filled_begins : (cs : List Column) (xs : List Field) → IsFilled cs xs → Begins cs xs
filled_begins cs xs h = front_begins cs xs [] (rw (append-nil xs) h)

story_once : (cs : List Child) → Fills Story (fields_of cs) → times fields.StoryID (fields_of cs) ≡ 1
story_once cs h =
    let none : times fields.StoryID h.1 ≡ 0 = none_in (behind_first (columns Story)) fields.StoryID h.1 refl (filled_begins (behind_first (columns Story)) h.1 h.4) in
    times_own_fields fields.StoryID (fields_of cs) refl refl ∙ ap (times fields.StoryID) h.3 ∙ times_own fields.StoryID h.0 h.1 ∙ omega (arith, h.2, none)

item_once : (cs : List Child) → Fills Item (fields_of cs) → times fields.ItemID (fields_of cs) ≡ 1
item_once cs h =
    let none : times fields.ItemID h.1 ≡ 0 = none_in (behind_first (columns Item)) fields.ItemID h.1 refl (filled_begins (behind_first (columns Item)) h.1 h.4) in
    times_own_fields fields.ItemID (fields_of cs) refl refl ∙ ap (times fields.ItemID) h.3 ∙ times_own fields.ItemID h.0 h.1 ∙ omega (arith, h.2, none)

-- The key of a whole story or item is its one own key.
pub key_is : (u : Table) (inner : List Child) (n : Text) (h : List Attribute) → is_keyed u ≡ true → KeyLeaves (key_field u) inner → Fills u (fields_of inner)
    → (k : Text) × (key_of (nested n h u inner) ≡ k ∷ []) × (own_keys (key_field u) inner ≡ k ∷ [])
unfolding nested arranged
key_is Story inner n h k l w = let p = one_key fields.StoryID inner l (story_once inner w) in (p.2, rw p.3 refl, p.4)
key_is Item inner n h k l w = let p = one_key fields.ItemID inner l (item_once inner w) in (p.2, rw p.3 refl, p.4)
key_is u inner n h k l w = absurd cc

-- ---- keys apart

same_turned : (a b : Text) → same a b ≡ false → same b a ≡ false
same_turned a b h = go (same b a) refl
  where
    go : (x : Bool) → same b a ≡ x → same b a ≡ false
    go false e = e
    go true e = let p : b ≡ a = same-is b a e in let q : same a b ≡ true = rw p (same-refl a) in absurd cc

not_among : (n m : Text) (ms : List Text) → among n (m ∷ ms) ≡ false → (same n m ≡ false) × (among n ms ≡ false)
not_among n m ms h = go (same n m) refl h
  where
    go : (b : Bool) → same n m ≡ b → cond b true (among n ms) ≡ false → (same n m ≡ false) × (among n ms ≡ false)
    go true e h = absurd cc
    go false e h = (e, h)

among_push : (x k : Text) (ks : List Text) → among x ks ≡ false → same x k ≡ false → among x (ks ++ k ∷ []) ≡ false
among_push x k [] h s = rw s refl
among_push x k (m ∷ ks) h s = let p = not_among x m ks h in rw p.0 (among_push x k ks p.1 s)

pub apart_push : (ks : List Text) (k : Text) → AreApart ks → among k ks ≡ false → AreApart (ks ++ k ∷ [])
apart_push [] k a h = (refl, tt)
apart_push (x ∷ ks) k a h = let p = not_among k x ks h in (among_push x k ks a.0 (same_turned k x p.0), apart_push ks k a.1 p.1)

among_front : (x k : Text) (ks more : List Text) → among x (ks ++ k ∷ more) ≡ false → same x k ≡ false
among_front x k [] more h = (not_among x k more h).0
among_front x k (m ∷ ks) more h = among_front x k ks more (not_among x m (ks ++ k ∷ more) h).1

pub apart_at : (ks : List Text) (k : Text) (more : List Text) → AreApart (ks ++ k ∷ more) → among k ks ≡ false
apart_at [] k more a = refl
apart_at (x ∷ ks) k more a = rw (same_turned x k (among_front x k ks more a.0)) (apart_at ks k more a.1)

pub raw_key : (f : Field) (x : Text) → key_of (raw_events f x) ≡ []
raw_key f x = go (same_field f fields.Dropped)
  where
    go : (b : Bool) → key_of (cond b [] (raw f x ∷ [])) ≡ []
    go true = refl
    go false = refl

pub gives_key : (n : Text) (o : OpenField) (x : Text) (es : List Event) → Gives n o x es → key_of es ≡ []
gives_key n o x es (inl h) = rw h.1 refl
gives_key n o x es (inr h) = rw h.1.2 refl

-- the keys, with one more child
pub keys_with : (t : Table) (before : List Child) (c : Child) (later : List Child) → keys t (before ++ c ∷ later) ≡ keys t before ++ (cond (has_keys t) (key_of c.1) [] ++ keys t later)
unfolding keys
keys_with t before c later = go (has_keys t)
  where
    go : (b : Bool) → cond b (flat_map (λ (c : Child). key_of c.1) (before ++ c ∷ later)) [] ≡ cond b (flat_map (λ (c : Child). key_of c.1) before) [] ++ (cond b (key_of c.1) [] ++ cond b (flat_map (λ (c : Child). key_of c.1) later) [])
    go true = flat_map-append (λ (c : Child). key_of c.1) before (c ∷ later)
    go false = refl

pub no_keys : (t : Table) (cs : List Child) → has_keys t ≡ false → keys t cs ≡ []
unfolding keys
no_keys t cs h = rw h refl
