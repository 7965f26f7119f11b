-- What is taken from the front of an accepted record's events are the parts that fit its columns.
use Rattle.std.proofs.Common.{eq-eqb, ◌≡◌, Bool, true, false, cond, List, [], ◌∷◌, ◌++◌, map, refl, sym, ap, subst, ◌∙◌, append_assoc}
use Rattle.std.specs.List.{flat_map}
use Rattle.std.proofs.lemmas.List.{append-nil}
use Rattle.mos_fields.specs.Characters.{Text}
use Rattle.mos_fields.specs.Fields.{name_of, same, same_field}
use Rattle.mos_fields.specs.declared.field.Field.{Field}
use Rattle.mos_fields.specs.declared.form.Form.{Form}
use Rattle.mos_fields.specs.declared.operation.Operation.TheVariants.{Insert, Replace, Move, Delete, Swap}
use Rattle.mos_tables.specs.declared.aim.Aim.TheVariants.{Nowhere, AtStory, AtItem}
use Rattle.mos_tables.specs.declared.column.Column.{Column}
use Rattle.mos_tables.specs.declared.column.Shape.{Shape}
use Rattle.mos_tables.specs.declared.column.Shape.TheVariants.{Leaf, Raw, Record, Message}
use Rattle.mos_tables.specs.declared.column.Often.{Often}
use Rattle.mos_tables.specs.declared.column.Often.TheVariants.{One, Optional, Any, Many, Count}
use Rattle.mos_tables.specs.declared.table.Table.{Table}
use Rattle.mos_tables.specs.declared.table.Table.TheVariants as tables
use Rattle.mos_tables.specs.Events.{Event, leaf, raw, opens, closes}
use Rattle.mos_tables.specs.Tables.{columns, is_ack}
use Rattle.mos_cursor.specs.Parts.{LeafPart, RecordPart, Part, absent, one_leaf, leaves, one_raw, raws, one_record, records, message, leaf_event, record_events, part_events, parts_events, places}
use Rattle.mos_cursor.specs.Accepted.{IsAccepted, first_text, RecordsFit, FitsAs, AllFit}
use Rattle.mos_cursor.specs.Taking.{leaf_taken, leaf_left, leaves_taken, leaves_left, raw_taken, raw_left, raws_taken, raws_left, inner_of, behind_of, record_taken, record_left, TakesRecords, no_more, one_more, is_one_at_most, TakesAs, TakesAll}
use Rattle.mos_cursor.proofs.Columns.{same_field-same}
use Rattle.mos_cursor.proofs.Balanced.{IsBalanced, balanced_arranged, balanced_children}
use Rattle.mos_cursor.proofs.Collect.{PartsOf, parts_of_record}

same_self : (n : Text) → same n n ≡ true
same_self [] = refl
same_self (c ∷ cs) = rw (eq-eqb c c refl) (same_self cs)

-- ---- no other column begins as this one

abbrev clashes : Shape → Field → Event → Bool
clashes (Leaf form) f (leaf m g x) = same m (name_of f)
clashes Raw f (raw h x) = same_field h f
clashes (Record u) f (opens m g) = same m (name_of f)
clashes Message f (raw h x) = true
clashes Message f (opens m g) = true
clashes s f e = false

abbrev head_clashes : Shape → Field → List Event → Bool
head_clashes s f [] = false
head_clashes s f (e ∷ es) = clashes s f e

abbrev meets : Shape → Field → Shape → Field → Bool
meets (Leaf form) f (Leaf other) g = same (name_of g) (name_of f)
meets Raw f Raw g = same_field g f
meets Raw f Message g = same_field g f
meets (Record u) f (Record v) g = same (name_of g) (name_of f)
meets (Record u) f Message g = true
meets Message f s g = true
meets s f z g = false

abbrev apart : Shape → Field → List Column → Bool
apart s f [] = true
apart s f (d ∷ ds) = cond (meets s f d.shape d.field) false (apart s f ds)

abbrev all_apart : List Column → Bool
all_apart [] = true
all_apart (c ∷ cs) = cond (apart c.shape c.field cs) (all_apart cs) false

apart_columns : (t : Table) → all_apart (places (columns t)) ≡ true
apart_columns tables.Envelope = refl
apart_columns tables.Body = refl
apart_columns tables.HeaderPatch = refl
apart_columns tables.Story = refl
apart_columns tables.Item = refl
apart_columns tables.MosObj = refl
apart_columns tables.Heartbeat = refl
apart_columns tables.NoFields = refl
apart_columns tables.ListMachInfo = refl
apart_columns tables.SupportedProfiles = refl
apart_columns tables.MosAck = refl
apart_columns tables.MosReqObj = refl
apart_columns tables.MosReqAll = refl
apart_columns tables.MosListAll = refl
apart_columns tables.OneOrder = refl
apart_columns tables.RoListAll = refl
apart_columns tables.ElementStat = refl
apart_columns tables.ReadyToAir = refl
apart_columns tables.RoAck = refl
apart_columns tables.StorySend = refl
apart_columns (tables.Action o) = refl
apart_columns (tables.Target o) = refl
apart_columns (tables.Source Insert Nowhere) = refl
apart_columns (tables.Source Insert AtStory) = refl
apart_columns (tables.Source Insert AtItem) = refl
apart_columns (tables.Source Replace Nowhere) = refl
apart_columns (tables.Source Replace AtStory) = refl
apart_columns (tables.Source Replace AtItem) = refl
apart_columns (tables.Source Move Nowhere) = refl
apart_columns (tables.Source Move AtStory) = refl
apart_columns (tables.Source Move AtItem) = refl
apart_columns (tables.Source Delete Nowhere) = refl
apart_columns (tables.Source Delete AtStory) = refl
apart_columns (tables.Source Delete AtItem) = refl
apart_columns (tables.Source Swap Nowhere) = refl
apart_columns (tables.Source Swap AtStory) = refl
apart_columns (tables.Source Swap AtItem) = refl

-- how an element of a column begins
abbrev HeadOf : Shape → Field → Event → Type 0
HeadOf (Leaf form) g (leaf m a x) = m ≡ name_of g
HeadOf Raw g (raw h x) = h ≡ g
HeadOf (Record u) g (opens m a) = m ≡ name_of g
HeadOf Message g (raw h x) = h ≡ g
HeadOf Message g (opens m a) = Unit {0}
HeadOf s g e = ⊥

no_clash : (s : Shape) (f : Field) (z : Shape) (g : Field) (e : Event) → HeadOf z g e → meets s f z g ≡ false → clashes s f e ≡ false
no_clash (Leaf form) f (Leaf o) g (leaf m a x) h k = subst (λ (n : Text). same n (name_of f) ≡ false) (sym h) k
no_clash Raw f Raw g (raw i x) h k = subst (λ (n : Field). same_field n f ≡ false) (sym h) k
no_clash Raw f Message g (raw i x) h k = subst (λ (n : Field). same_field n f ≡ false) (sym h) k
no_clash (Record u) f (Record v) g (opens m a) h k = subst (λ (n : Text). same n (name_of f) ≡ false) (sym h) k
no_clash (Leaf form) f Raw g (raw i x) h k = refl
no_clash (Leaf form) f (Record u) g (opens m a) h k = refl
no_clash (Leaf form) f Message g (raw i x) h k = refl
no_clash (Leaf form) f Message g (opens m a) h k = refl
no_clash Raw f (Leaf o) g (leaf m a x) h k = refl
no_clash Raw f (Record u) g (opens m a) h k = refl
no_clash Raw f Message g (opens m a) h k = refl
no_clash (Record u) f (Leaf o) g (leaf m a x) h k = refl
no_clash (Record u) f Raw g (raw i x) h k = refl
no_clash (Record u) f Message g e h k = absurd cc
no_clash Message f z g e h k = absurd cc
no_clash s f z g e h k = absurd h

-- what the events of a part begin with
data PartHead (s : Shape) (g : Field) : List Event → Type 0 where
  no_head : PartHead s g []
  head : (e : Event) (es : List Event) → HeadOf s g e → PartHead s g (e ∷ es)

part_head : (t : Table) (s : Shape) (o : Often) (p : Part) (g : Field) → FitsAs t s o p → PartHead s g (part_events g p)
part_head t (Leaf form) One (one_leaf p) g h = head _ _ refl
part_head t (Leaf form) Optional absent g h = no_head
part_head t (Leaf form) Optional (one_leaf p) g h = head _ _ refl
part_head t (Leaf form) Any (leaves []) g h = no_head
part_head t (Leaf form) Any (leaves (p ∷ ps)) g h = head _ _ refl
part_head t (Leaf form) Many (leaves []) g h = no_head
part_head t (Leaf form) Many (leaves (p ∷ ps)) g h = head _ _ refl
part_head t (Leaf form) (Count k) (leaves []) g h = no_head
part_head t (Leaf form) (Count k) (leaves (p ∷ ps)) g h = head _ _ refl
part_head t Raw One (one_raw x) g h = head _ _ refl
part_head t Raw Optional absent g h = no_head
part_head t Raw Optional (one_raw x) g h = head _ _ refl
part_head t Raw Any (raws []) g h = no_head
part_head t Raw Any (raws (x ∷ xs)) g h = head _ _ refl
part_head t Raw Many (raws []) g h = no_head
part_head t Raw Many (raws (x ∷ xs)) g h = head _ _ refl
part_head t Raw (Count k) (raws []) g h = no_head
part_head t Raw (Count k) (raws (x ∷ xs)) g h = head _ _ refl
part_head t (Record u) One (one_record p) g h = head _ _ refl
part_head t (Record u) Optional absent g h = no_head
part_head t (Record u) Optional (one_record p) g h = head _ _ refl
part_head t (Record u) Any (records []) g h = no_head
part_head t (Record u) Any (records (p ∷ ps)) g h = head _ _ refl
part_head t (Record u) Many (records []) g h = no_head
part_head t (Record u) Many (records (p ∷ ps)) g h = head _ _ refl
part_head t (Record u) (Count k) (records []) g h = no_head
part_head t (Record u) (Count k) (records (p ∷ ps)) g h = head _ _ refl
part_head t Message (Count k) (one_raw x) g h = head _ _ refl
part_head t Message (Count k) (message n p) g h = head _ _ tt
part_head t s o p g h = absurd h

no_head_clash : (t : Table) (s : Shape) (f : Field) (ds : List Column) (ps : List Part) → apart s f ds ≡ true → AllFit t ds ps → head_clashes s f (parts_events ds ps) ≡ false
no_head_clash t s f [] [] a h = refl
no_head_clash t s f [] (p ∷ ps) a h = absurd h
no_head_clash t s f (d ∷ ds) [] a h = absurd h
no_head_clash t s f (d ∷ ds) (p ∷ ps) a h = go (meets s f d.shape d.field) refl a (λ k. no_head_clash t s f ds ps k h.1)
  where
    with_head : (es : List Event) → PartHead d.shape d.field es → meets s f d.shape d.field ≡ false → head_clashes s f (parts_events ds ps) ≡ false → head_clashes s f (es ++ parts_events ds ps) ≡ false
    with_head es no_head m ih = ih
    with_head es (head e xs k) m ih = no_clash s f d.shape d.field e k m

    go : (b : Bool) → meets s f d.shape d.field ≡ b → cond b false (apart s f ds) ≡ true → (apart s f ds ≡ true → head_clashes s f (parts_events ds ps) ≡ false) → head_clashes s f (part_events d.field p ++ parts_events ds ps) ≡ false
    go true e a ih = absurd cc
    go false e a ih = with_head (part_events d.field p) (part_head t d.shape d.often p d.field h.0) e (ih a)

-- ---- what is taken

-- these are taken where they stand in front of the rest
abbrev Both : Part → Part → List Event → List Event → Type 0
Both p q rest r = (q ≡ p) × (r ≡ rest)

no_leaf : (n : Text) (f : Field) (form : Form) (rest : List Event) → n ≡ name_of f → head_clashes (Leaf form) f rest ≡ false → (leaf_taken n rest ≡ absent) × (leaf_left n rest ≡ rest) × (leaves_taken n rest ≡ []) × (leaves_left n rest ≡ rest)
no_leaf n f form [] e h = (refl, refl, refl, refl)
no_leaf n f form (leaf m g x ∷ es) e h = let k : same m n ≡ false = ap (λ (z : Text). same m z) e ∙ h in (rw k refl, rw k refl, rw k refl, rw k refl)
no_leaf n f form (raw i x ∷ es) e h = (refl, refl, refl, refl)
no_leaf n f form (opens m g ∷ es) e h = (refl, refl, refl, refl)
no_leaf n f form (closes m ∷ es) e h = (refl, refl, refl, refl)

all_leaves : (f : Field) (form : Form) (ps : List LeafPart) (rest : List Event) → head_clashes (Leaf form) f rest ≡ false
    → (leaves_taken (name_of f) (map (leaf_event (name_of f)) ps ++ rest) ≡ ps) × (leaves_left (name_of f) (map (leaf_event (name_of f)) ps ++ rest) ≡ rest)
all_leaves f form [] rest h = let k = no_leaf (name_of f) f form rest refl h in (k.2, k.3)
all_leaves f form (p ∷ ps) rest h =
    let k = all_leaves f form ps rest h in
    (rw (same_self (name_of f)) (ap (λ (z : List LeafPart). p ∷ z) k.0), rw (same_self (name_of f)) k.1)

no_raw : (f : Field) (rest : List Event) → head_clashes Raw f rest ≡ false → (raw_taken f rest ≡ absent) × (raw_left f rest ≡ rest) × (raws_taken f rest ≡ []) × (raws_left f rest ≡ rest)
no_raw f [] h = (refl, refl, refl, refl)
no_raw f (leaf m g x ∷ es) h = (refl, refl, refl, refl)
no_raw f (raw i x ∷ es) h = (rw h refl, rw h refl, rw h refl, rw h refl)
no_raw f (opens m g ∷ es) h = (refl, refl, refl, refl)
no_raw f (closes m ∷ es) h = (refl, refl, refl, refl)

all_raws : (f : Field) (xs : List Text) (rest : List Event) → head_clashes Raw f rest ≡ false → (raws_taken f (map (raw f) xs ++ rest) ≡ xs) × (raws_left f (map (raw f) xs ++ rest) ≡ rest)
all_raws f [] rest h = let k = no_raw f rest h in (k.2, k.3)
all_raws f (x ∷ xs) rest h =
    let k = all_raws f xs rest h in
    (rw (same_field-same f) (ap (λ (z : List Text). x ∷ z) k.0), rw (same_field-same f) k.1)

no_record : (u : Table) (f : Field) (rest : List Event) → head_clashes (Record u) f rest ≡ false → (record_taken (name_of f) rest ≡ absent) × (record_left (name_of f) rest ≡ rest)
no_record u f [] h = (refl, refl)
no_record u f (leaf m g x ∷ es) h = (refl, refl)
no_record u f (raw i x ∷ es) h = (refl, refl)
no_record u f (opens m g ∷ es) h = (rw h refl, rw h refl)
no_record u f (closes m ∷ es) h = (refl, refl)

balanced_accepted : (t : Table) (taken : List Text) (es : List Event) → IsAccepted t taken es → IsBalanced es
balanced_accepted t taken es a = subst IsBalanced (sym a.value) (balanced_arranged t a.all (balanced_children a.content tt))

-- a whole record
whole : (n : Text) (x : List Event) (rest : List Event) → IsBalanced x → (inner_of 0 ((x ++ closes n ∷ []) ++ rest) ≡ x) × (behind_of 0 ((x ++ closes n ∷ []) ++ rest) ≡ rest)
whole n x rest b = (
  ap (inner_of 0) (append_assoc x (closes n ∷ []) rest) ∙ b.inner 0 (closes n ∷ rest) ∙ append-nil x,
  ap (behind_of 0) (append_assoc x (closes n ∷ []) rest) ∙ b.behind 0 (closes n ∷ rest),
)

one_whole : (n : Text) (p : RecordPart) (rest : List Event) → IsBalanced p.inner → (record_taken n (record_events n p ++ rest) ≡ one_record p) × (record_left n (record_events n p ++ rest) ≡ rest)
one_whole n p rest b =
    let k = whole n p.inner rest b in
    let F : List Event → Part = λ (z : List Event). one_record (record { given = p.given; inner = z }) in
    (rw (same_self n) (ap F k.0), rw (same_self n) k.1)

same_one : (p q : RecordPart) → one_record p ≡ one_record q → p ≡ q
same_one p q h = cc

all_records : (t u : Table) (earlier : List Text) (f : Field) (ps : List RecordPart) (rest : List Event) (qs : List RecordPart) (r : List Event) → RecordsFit t u earlier ps → head_clashes (Record u) f rest ≡ false
    → TakesRecords (name_of f) (flat_map (record_events (name_of f)) ps ++ rest) qs r → (qs ≡ ps) × (r ≡ rest)
all_records t u earlier f [] rest qs r fit h w = go rest qs r (no_record u f rest h).0 w
  where
    go : (es : List Event) (qs : List RecordPart) (r : List Event) → record_taken (name_of f) es ≡ absent → TakesRecords (name_of f) es qs r → (qs ≡ []) × (r ≡ es)
    go es qs r k (no_more e) = (refl, refl)
    go es qs r k (one_more {p = p} e w) = let z : absent ≡ one_record p = sym k ∙ e in absurd cc
all_records t u earlier f (p ∷ ps) rest qs r fit h w =
    let more : List Event = flat_map (record_events (name_of f)) ps ++ rest in
    let k = one_whole (name_of f) p more (balanced_accepted _ _ p.inner fit.0.accepted) in
    go (record_events (name_of f) p ++ more) qs r k.0 k.1 (subst (λ (z : List Event). TakesRecords (name_of f) z qs r) (append_assoc (record_events (name_of f) p) (flat_map (record_events (name_of f)) ps) rest) w)
    (λ qs r v. all_records t u (earlier ++ first_text p.inner) f ps rest qs r fit.1 h v)
  where
    go : (es : List Event) (qs : List RecordPart) (r : List Event) → record_taken (name_of f) es ≡ one_record p → record_left (name_of f) es ≡ flat_map (record_events (name_of f)) ps ++ rest → TakesRecords (name_of f) es qs r
        → ((qs : List RecordPart) (r : List Event) → TakesRecords (name_of f) (flat_map (record_events (name_of f)) ps ++ rest) qs r → (qs ≡ ps) × (r ≡ rest)) → (qs ≡ p ∷ ps) × (r ≡ rest)
    go es qs r k l (no_more e) ih = let z : absent ≡ one_record p = sym e ∙ k in absurd cc
    go es qs r k l (one_more {p = q} {ps = xs} e w) ih =
        let z : q ≡ p = same_one q p (sym e ∙ k) in
        let v = ih xs r (subst (λ (m : List Event). TakesRecords (name_of f) m xs r) l w) in
        (ap (λ (b : RecordPart). b ∷ xs) z ∙ ap (λ (b : List RecordPart). p ∷ b) v.0, v.1)

taken_part : (t : Table) (s : Shape) (o : Often) (f : Field) (p q : Part) (rest r : List Event) → FitsAs t s o p → head_clashes s f rest ≡ false → TakesAs f s (is_one_at_most o) (part_events f p ++ rest) q r → (q ≡ p) × (r ≡ rest)
taken_part t (Leaf form) One f (one_leaf p) q rest r h k w = (w.0 ∙ rw (same_self (name_of f)) refl, w.1 ∙ rw (same_self (name_of f)) refl)
taken_part t (Leaf form) Optional f absent q rest r h k w = let z = no_leaf (name_of f) f form rest refl k in (w.0 ∙ z.0, w.1 ∙ z.1)
taken_part t (Leaf form) Optional f (one_leaf p) q rest r h k w = (w.0 ∙ rw (same_self (name_of f)) refl, w.1 ∙ rw (same_self (name_of f)) refl)
taken_part t (Leaf form) Any f (leaves ps) q rest r h k w = let z = all_leaves f form ps rest k in (w.0 ∙ ap leaves z.0, w.1 ∙ z.1)
taken_part t (Leaf form) Many f (leaves ps) q rest r h k w = let z = all_leaves f form ps rest k in (w.0 ∙ ap leaves z.0, w.1 ∙ z.1)
taken_part t (Leaf form) (Count m) f (leaves ps) q rest r h k w = let z = all_leaves f form ps rest k in (w.0 ∙ ap leaves z.0, w.1 ∙ z.1)
taken_part t Raw One f (one_raw x) q rest r h k w = (w.0 ∙ rw (same_field-same f) refl, w.1 ∙ rw (same_field-same f) refl)
taken_part t Raw Optional f absent q rest r h k w = let z = no_raw f rest k in (w.0 ∙ z.0, w.1 ∙ z.1)
taken_part t Raw Optional f (one_raw x) q rest r h k w = (w.0 ∙ rw (same_field-same f) refl, w.1 ∙ rw (same_field-same f) refl)
taken_part t Raw Any f (raws xs) q rest r h k w = let z = all_raws f xs rest k in (w.0 ∙ ap raws z.0, w.1 ∙ z.1)
taken_part t Raw Many f (raws xs) q rest r h k w = let z = all_raws f xs rest k in (w.0 ∙ ap raws z.0, w.1 ∙ z.1)
taken_part t Raw (Count m) f (raws xs) q rest r h k w = let z = all_raws f xs rest k in (w.0 ∙ ap raws z.0, w.1 ∙ z.1)
taken_part t (Record u) One f (one_record p) q rest r h k w = let z = one_whole (name_of f) p rest (balanced_accepted _ _ p.inner h.accepted) in (w.0 ∙ z.0, w.1 ∙ z.1)
taken_part t (Record u) Optional f absent q rest r h k w = let z = no_record u f rest k in (w.0 ∙ z.0, w.1 ∙ z.1)
taken_part t (Record u) Optional f (one_record p) q rest r h k w = let z = one_whole (name_of f) p rest (balanced_accepted _ _ p.inner h.accepted) in (w.0 ∙ z.0, w.1 ∙ z.1)
taken_part t (Record u) Any f (records ps) q rest r h k w = let z = all_records t u [] f ps rest w.0 r h k w.2 in (w.1 ∙ ap records z.0, z.1)
taken_part t (Record u) Many f (records ps) q rest r h k w = let z = all_records t u [] f ps rest w.0 r h.0 k w.2 in (w.1 ∙ ap records z.0, z.1)
taken_part t (Record u) (Count m) f (records ps) q rest r h k w = let z = all_records t u [] f ps rest w.0 r h.0 k w.2 in (w.1 ∙ ap records z.0, z.1)
taken_part t Message (Count m) f (one_raw x) q rest r h k w = w
taken_part t Message (Count m) f (message n p) q rest r h k w =
    let z = whole n p.inner rest (balanced_accepted _ _ p.inner h.accepted) in
    let F : List Event → Part = λ (z : List Event). message n (record { given = p.given; inner = z }) in
    (w.0 ∙ ap F z.0, w.1 ∙ z.1)
taken_part t s o f p q rest r h k w = absurd h

apart_cut : (c : Column) (cs : List Column) → all_apart (c ∷ cs) ≡ true → (apart c.shape c.field cs ≡ true) × (all_apart cs ≡ true)
apart_cut c cs h = go (apart c.shape c.field cs) h
  where
    go : (b : Bool) → cond b (all_apart cs) false ≡ true → (b ≡ true) × (all_apart cs ≡ true)
    go true h = (refl, h)
    go false h = absurd cc

taken_parts : (t : Table) (cs : List Column) (ps qs : List Part) (r : List Event) → all_apart cs ≡ true → AllFit t cs ps → TakesAll cs (parts_events cs ps) qs r → (qs ≡ ps) × (r ≡ [])
taken_parts t [] [] [] r a h w = (refl, w)
taken_parts t [] [] (q ∷ qs) r a h w = absurd w
taken_parts t [] (p ∷ ps) qs r a h w = absurd h
taken_parts t (c ∷ cs) [] qs r a h w = absurd h
taken_parts t (c ∷ cs) (p ∷ ps) [] r a h w = absurd w
taken_parts t (c ∷ cs) (p ∷ ps) (q ∷ qs) r a h w =
    let b = apart_cut c cs a in
    let rest : List Event = parts_events cs ps in
    let k = taken_part t c.shape c.often c.field p q rest w.0 h.0 (no_head_clash t c.shape c.field cs ps b.0 h.1) w.1.taken in
    let v = taken_parts t cs ps qs r b.1 h.1 (subst (λ (m : List Event). TakesAll cs m qs r) k.1 w.2) in
    (ap (λ (z : Part). z ∷ qs) k.0 ∙ ap (λ (z : List Part). p ∷ z) v.0, v.1)

-- What is taken from the events of an accepted record, which is no roAck, fits its columns, and nothing is left.
pub taken_fits : (t : Table) (taken : List Text) (es : List Event) (qs : List Part) (r : List Event) → is_ack t ≡ false → IsAccepted t taken es → TakesAll (places (columns t)) es qs r
    → AllFit t (places (columns t)) qs × (es ≡ parts_events (places (columns t)) qs) × (r ≡ [])
taken_fits t taken es qs r k a w =
    let p : PartsOf t (places (columns t)) es = parts_of_record t taken es k a in
    let z = taken_parts t (places (columns t)) p.parts qs r (apart_columns t) p.fit (subst (λ (m : List Event). TakesAll (places (columns t)) m qs r) p.events w) in
    (subst (AllFit t (places (columns t))) (sym z.0) p.fit, p.events ∙ ap (parts_events (places (columns t))) (sym z.0), z.1)
