-- A record from the children of its columns, one column after another.
use Rattle.std.proofs.Common.{◌≡◌, ℕ, ◌≤◌, ◌+◌, Bool, true, false, cond, List, [], ◌∷◌, ◌++◌, length, Option, Some, None, refl, sym, ap, subst, ◌∙◌, append_assoc, arith, inl, inr}
use Rattle.std.specs.Prelude.{◌&&◌, nat_lt}
use Rattle.std.specs.List.{AllByRecursion, flat_map}
use Rattle.std.proofs.lemmas.List.{append-nil}
use Rattle.std.proofs.lemmas.Bool.{ltb-true, lt-ltb, lt-leb}
use Rattle.std.proofs.lemmas.Bool.Decides.{leb_tells}
use Rattle.mos_fields.specs.Characters.{Text}
use Rattle.mos_fields.specs.Fields.{same_field}
use Rattle.mos_fields.specs.declared.field.Field.{Field}
use Rattle.mos_fields.specs.declared.field.Field.TheVariants as fields
use Rattle.mos_fields.specs.declared.operation.Operation.TheVariants.{Insert, Replace, Move, Delete, Swap}
use Rattle.mos_tables.specs.declared.aim.Aim.TheVariants.{Nowhere, AtStory, AtItem}
use Rattle.mos_tables.specs.declared.table.Table.TheVariants as tables
use Rattle.mos_grammar.specs.declared.fault.Fault.{Fault}
use Rattle.mos_tables.specs.declared.column.Column.{Column}
use Rattle.mos_tables.specs.declared.column.Shape.{Shape}
use Rattle.mos_tables.specs.declared.column.Shape.TheVariants.{Record, Message}
use Rattle.mos_tables.specs.declared.column.Often.{Often}
use Rattle.mos_tables.specs.declared.column.Often.TheVariants.{One, Optional, Any, Many, Count}
use Rattle.mos_tables.specs.declared.table.Table.{Table}
use Rattle.mos_tables.specs.Events.{Event}
use Rattle.mos_tables.specs.Canonical.{canonical}
use Rattle.mos_tables.specs.Tables.{columns, is_ack}
use Rattle.mos_grammar.specs.Records.{Child, times, seen_of, least_count, is_single, is_full, is_named, column_of, before_column, any_seen, lacks, lacking, repeated, or_else, field_fault, if_field, wanted, end_fault, flat, found, column_events, arranged, key_of}
use Rattle.mos_grammar.proofs.Seen.{or_false, no_true, not_true, has, distinct, answers, later_apart, columns_before, repeated_at, lacking_more, lacking_last, any_seen_other, times_last}
use Rattle.mos_grammar.proofs.Complete.{table_facts}
use Rattle.mos_cursor.specs.Parts.{kept_column, places}
use Rattle.mos_cursor.proofs.Columns.{column_of-named, same_field-same, same_field-sym, same_field-first, same_field-other}
use Rattle.mos_cursor.proofs.Counts.{fields_of, seen_is, Most}
use Rattle.mos_values.specs.Parts.{joined}
use Rattle.encoding_laws.proofs.Written.{HasNames, WritesFront}
use Rattle.encoding_laws.proofs.Admitted.{HasRoom, Opens}
use Rattle.encoding_laws.proofs.Pieces.{Piece, Canonical}
use Rattle.encoding_laws.proofs.Found.{found_append, flat_append}
use Rattle.encoding_laws.proofs.Ordered.{Builds, builds_end, builds_child, KeptPiece, kept_piece, put_kept, earlier_apart, fields_push}

-- ---- the children of a column

-- a child of the column behind these children, wherever it may stand
pub record ColumnPiece (t : Table) (taken : List Text) (b : List Child) (c : Column) (x : Child) : Type 0 where
  pub name : Text
  pub named : column_of (columns t) name ≡ Some c
  pub place : x.0 ≡ c.field
  pub piece : Piece t taken b name x

abbrev pub ColumnPieces : Table → List Text → List Child → Column → List Child → Type 0
ColumnPieces t taken b c [] = Unit {0}
ColumnPieces t taken b c (x ∷ xs) = ColumnPiece t taken b c x × ColumnPieces t taken (b ++ x ∷ []) c xs

-- those of a column of the table, or of other names
abbrev pub PiecesFor : Bool → Table → List Text → List Child → Column → List Child → Type 0
PiecesFor false t taken b c xs = ColumnPieces t taken b c xs
PiecesFor true t taken b c xs = AllByRecursion (KeptPiece t taken) xs

-- the column holds records
abbrev pub holds_records : Shape → Bool
holds_records (Record u) = true
holds_records Message = true
holds_records s = false

abbrev pub HasNoKey : Child → Type 0
HasNoKey x = key_of x.1 ≡ []

-- The events are those of children of the column, as many as it asks for.
pub record Segment (t : Table) (taken : List Text) (b : List Child) (c : Column) (es : List Event) : Type 0 where
  pub children : List Child
  pub events : flat children ≡ es
  pub pieces : PiecesFor (same_field c.field fields.Kept) t taken b c children
  pub few : Most c.often (length children)
  pub enough : least_count c.often ≤ length children
  pub keyless : holds_records c.shape ≡ false → AllByRecursion HasNoKey children

-- for each column its events
abbrev pub Segments : Table → List Text → List Child → List Column → List (List Event) → Type 0
Segments t taken b [] [] = Unit {0}
Segments t taken b [] (es ∷ ess) = ⊥
Segments t taken b (c ∷ cs) [] = ⊥
Segments t taken b (c ∷ cs) (es ∷ ess) = (s : Segment t taken b c es) × Segments t taken (b ++ s.children) cs ess

-- the columns but for that of other names
abbrev reals : List Column → List Column
reals [] = []
reals (d ∷ ds) = cond (same_field d.field fields.Kept) (reals ds) (d ∷ reals ds)

abbrev PlacesAreRight : Table → Type 0
PlacesAreRight t = (distinct (places (columns t)) ≡ true) × (reals (places (columns t)) ≡ columns t)

places_right : (t : Table) → PlacesAreRight t
places_right tables.Envelope = (refl, refl)
places_right tables.Body = (refl, refl)
places_right tables.HeaderPatch = (refl, refl)
places_right tables.Story = (refl, refl)
places_right tables.Item = (refl, refl)
places_right tables.MosObj = (refl, refl)
places_right tables.Heartbeat = (refl, refl)
places_right tables.NoFields = (refl, refl)
places_right tables.ListMachInfo = (refl, refl)
places_right tables.SupportedProfiles = (refl, refl)
places_right tables.MosAck = (refl, refl)
places_right tables.MosReqObj = (refl, refl)
places_right tables.MosReqAll = (refl, refl)
places_right tables.MosListAll = (refl, refl)
places_right tables.OneOrder = (refl, refl)
places_right tables.RoListAll = (refl, refl)
places_right tables.ElementStat = (refl, refl)
places_right tables.ReadyToAir = (refl, refl)
places_right tables.RoAck = (refl, refl)
places_right tables.StorySend = (refl, refl)
places_right (tables.Action o) = (refl, refl)
places_right (tables.Target o) = (refl, refl)
places_right (tables.Source Insert Nowhere) = (refl, refl)
places_right (tables.Source Insert AtStory) = (refl, refl)
places_right (tables.Source Insert AtItem) = (refl, refl)
places_right (tables.Source Replace Nowhere) = (refl, refl)
places_right (tables.Source Replace AtStory) = (refl, refl)
places_right (tables.Source Replace AtItem) = (refl, refl)
places_right (tables.Source Move Nowhere) = (refl, refl)
places_right (tables.Source Move AtStory) = (refl, refl)
places_right (tables.Source Move AtItem) = (refl, refl)
places_right (tables.Source Delete Nowhere) = (refl, refl)
places_right (tables.Source Delete AtStory) = (refl, refl)
places_right (tables.Source Delete AtItem) = (refl, refl)
places_right (tables.Source Swap Nowhere) = (refl, refl)
places_right (tables.Source Swap AtStory) = (refl, refl)
places_right (tables.Source Swap AtItem) = (refl, refl)

-- ---- where a child may stand

unanswered : (ps : List Column) (c : Column) (cs : List Column) (n : Text) → column_of (ps ++ c ∷ cs) n ≡ Some c → has ps c.field ≡ false → answers ps n ≡ false
unanswered [] c cs n e h = refl
unanswered (p ∷ ps) c cs n e h =
    let q = or_false (same_field p.field c.field) (has ps c.field) h in
    go (is_named p n) e q.0 (λ k. unanswered ps c cs n k q.1)
  where
    go : (b : Bool) → cond b (Some p) (column_of (ps ++ c ∷ cs) n) ≡ Some c → same_field p.field c.field ≡ false → (column_of (ps ++ c ∷ cs) n ≡ Some c → answers ps n ≡ false) → cond b true (answers ps n) ≡ false
    go true e q ih =
        let z : p ≡ c = cc in
        let w : same_field p.field c.field ≡ true = subst (λ (v : Column). same_field p.field v.field ≡ true) z (same_field-same p.field) in
        absurd (let v : true ≡ false = sym w ∙ q in cc)
    go false e q ih = ih e

still_room : (o : Often) (k total : ℕ) → Most o total → k + 1 ≤ total → ((is_single o && nat_lt 0 k) ≡ false) × (is_full o k ≡ false)
still_room One k total m l = (not_true (nat_lt 0 k) (λ e. absurd (omega (arith, m, l, ltb-true 0 k e))), refl)
still_room Optional k total m l = (not_true (nat_lt 0 k) (λ e. absurd (omega (arith, m, l, ltb-true 0 k e))), refl)
still_room Any k total m l = (refl, refl)
still_room Many k total m l = (refl, refl)
still_room (Count n) k total m l = (refl, lt-leb n k (omega (arith, m, l)))

opens_here : (t : Table) (b : List Child) (n : Text) (ps : List Column) (c : Column) (cs : List Column) → is_ack t ≡ false → columns t ≡ ps ++ c ∷ cs → column_of (columns t) n ≡ Some c → lacking ps (fields_of b) ≡ None → any_seen cs (fields_of b) ≡ false
    → (is_single c.often && nat_lt 0 (times c.field (fields_of b))) ≡ false → is_full c.often (times c.field (fields_of b)) ≡ false → Opens t b n
opens_here t b n ps c cs a e k l u s f =
    let d : distinct (ps ++ c ∷ cs) ≡ true = ap distinct (sym e) ∙ (table_facts t).0 in
    let k2 : column_of (ps ++ c ∷ cs) n ≡ Some c = ap (λ (z : List Column). column_of z n) (sym e) ∙ k in
    let w : answers ps n ≡ false = unanswered ps c cs n k2 (earlier_apart ps c cs d) in
    let m : is_named c n ≡ true = column_of-named (ps ++ c ∷ cs) n c k2 in
    let seen : seen_of t b ≡ fields_of b = seen_is t b a in
    let r : repeated (ps ++ c ∷ cs) (fields_of b) n ≡ None = repeated_at ps c cs (fields_of b) n w m s u in
    let y : lacking (before_column (ps ++ c ∷ cs) n) (fields_of b) ≡ None = ap (λ (z : List Column). lacking z (fields_of b)) (columns_before ps c cs n w m) ∙ l in
    let z : field_fault (ps ++ c ∷ cs) (fields_of b) n ≡ None = ap (λ (v : Option Fault). or_else v (lacking (before_column (ps ++ c ∷ cs) n) (fields_of b))) r ∙ y in
    let o : field_fault (columns t) (seen_of t b) n ≡ None = ap (λ (v : List Column). field_fault v (seen_of t b) n) e ∙ ap (λ (v : List Field). field_fault (ps ++ c ∷ cs) v n) seen ∙ z in
    record {
      outside = ap (λ (v : Option Column). if_field v (field_fault (columns t) (seen_of t b) n)) k ∙ o;
      room = subst (HasRoom (seen_of t b)) (sym k) (ap (λ (v : List Field). is_full c.often (times c.field v)) seen ∙ f);
    }

-- ---- column after column

-- what follows behind the children of a column
abbrev Then : Table → List Text → List Column → Column → List Column → ℕ → List Child → List Child → Type 0
Then t taken ps c cs total b new = lacking ps (fields_of b) ≡ None → any_seen cs (fields_of b) ≡ false → times c.field (fields_of b) ≡ total → Builds t taken b new

pushed_field : (P : List Field → Type 0) (b : List Child) (x : Child) (f : Field) → x.0 ≡ f → P (fields_of b ++ f ∷ []) → P (fields_of (b ++ x ∷ []))
pushed_field P b x f e h = subst P (sym (fields_push b x ∙ ap (λ (z : Field). fields_of b ++ z ∷ []) e)) h

column_walk : (t : Table) (taken : List Text) (ps : List Column) (c : Column) (cs : List Column) (total : ℕ) (xs b new : List Child) → is_ack t ≡ false → columns t ≡ ps ++ c ∷ cs → has cs c.field ≡ false → Most c.often total → ColumnPieces t taken b c xs
    → lacking ps (fields_of b) ≡ None → any_seen cs (fields_of b) ≡ false → times c.field (fields_of b) + length xs ≡ total → Then t taken ps c cs total (b ++ xs) new → Builds t taken b (xs ++ new)
column_walk t taken ps c cs total [] b new a e h m w l u k more =
    let z : b ++ [] ≡ b = append-nil b in
    let f : Then t taken ps c cs total b new = subst (λ (v : List Child). Then t taken ps c cs total v new) z more in
    f l u (omega (arith, k))
column_walk t taken ps c cs total (x ∷ xs) b new a e h m w l u k more =
    let i : ColumnPiece t taken b c x = w.0 in
    let r = still_room c.often (times c.field (fields_of b)) total m (omega (arith, k)) in
    let o : Opens t b i.name = opens_here t b i.name ps c cs a e i.named l u r.0 r.1 in
    let l2 : lacking ps (fields_of (b ++ x ∷ [])) ≡ None = pushed_field (λ (z : List Field). lacking ps z ≡ None) b x c.field i.place (lacking_more ps (fields_of b) c.field l) in
    let u2 : any_seen cs (fields_of (b ++ x ∷ [])) ≡ false = pushed_field (λ (z : List Field). any_seen cs z ≡ false) b x c.field i.place (any_seen_other cs (fields_of b) c.field u h) in
    let k2 : times c.field (fields_of (b ++ x ∷ [])) ≡ times c.field (fields_of b) + 1 = pushed_field (λ (z : List Field). times c.field z ≡ times c.field (fields_of b) + 1) b x c.field i.place (times_last c.field (fields_of b)) in
    let more2 : Then t taken ps c cs total ((b ++ x ∷ []) ++ xs) new = subst (λ (z : List Child). Then t taken ps c cs total z new) (sym (append_assoc b (x ∷ []) xs)) more in
    builds_child t taken b b (xs ++ new) i.name x i.piece o refl refl (column_walk t taken ps c cs total xs (b ++ x ∷ []) new a e h m w.1 l2 u2 (omega (arith, k, k2)) more2)

kept_place : (t : Table) (taken : List Text) (x : Child) → KeptPiece t taken x → x.0 ≡ fields.Kept
kept_place t taken d (kept_piece n x e o i) = refl

-- elements of other names change nothing of what was seen of columns
kept_walk : (t : Table) (taken : List Text) (P : List Field → Type 0) (xs b : List Child) → ((s : List Field) → P s → P (s ++ fields.Kept ∷ [])) → AllByRecursion (KeptPiece t taken) xs → P (fields_of b) → P (fields_of (b ++ xs))
kept_walk t taken P [] b step w h = subst (λ (z : List Child). P (fields_of z)) (sym (append-nil b)) h
kept_walk t taken P (x ∷ xs) b step w h = subst (λ (z : List Child). P (fields_of z)) (append_assoc b (x ∷ []) xs) (kept_walk t taken P xs (b ++ x ∷ []) step w.1 (pushed_field P b x fields.Kept (kept_place t taken x w.0) (step (fields_of b) h)))

-- ---- in order

abbrev IsOf : Field → Child → Type 0
IsOf f x = same_field f x.0 ≡ true

abbrev InOrder : List Column → List Child → Type 0
InOrder [] all = all ≡ []
InOrder (d ∷ ds) all = (xs : List Child) × (r : List Child) × (all ≡ xs ++ r) × AllByRecursion (IsOf d.field) xs × InOrder ds r

found_all : (f g : Field) (xs : List Child) → same_field f g ≡ true → AllByRecursion (IsOf g) xs → found f xs ≡ flat xs
found_all f g [] e a = refl
found_all f g (x ∷ xs) e a =
    let k : same_field f x.0 ≡ true = same_field-first f g x.0 e ∙ a.0 in
    rw k (ap (λ (z : List Event). x.1 ++ z) (found_all f g xs e a.1))

found_none : (f g : Field) (xs : List Child) → same_field f g ≡ false → AllByRecursion (IsOf g) xs → found f xs ≡ []
found_none f g [] e a = refl
found_none f g (x ∷ xs) e a =
    let k : same_field f x.0 ≡ false = sym (same_field-other g x.0 f a.0) ∙ e in
    rw k (found_none f g xs e a.1)

false_sym : (f g : Field) → same_field f g ≡ false → same_field g f ≡ false
false_sym f g h = go (same_field g f) refl
  where
    go : (b : Bool) → same_field g f ≡ b → b ≡ false
    go true e = let p = same_field-sym g f e in cc
    go false e = refl

order_absent : (f : Field) (ds : List Column) (all : List Child) → has ds f ≡ false → InOrder ds all → found f all ≡ []
order_absent f [] all h o = ap (found f) o
order_absent f (d ∷ ds) all h o =
    let q = or_false (same_field d.field f) (has ds f) h in
    ap (found f) o.2 ∙ found_append f o.0 o.1 ∙ ap (λ (z : List Event). z ++ found f o.1) (found_none f d.field o.0 (false_sym d.field f q.0) o.3) ∙ order_absent f ds o.1 q.1 o.4

order_front : (g : Field) (xs r : List Child) (ds : List Column) → has ds g ≡ false → AllByRecursion (IsOf g) xs → flat_map (λ (d : Column). found d.field (xs ++ r)) ds ≡ flat_map (λ (d : Column). found d.field r) ds
order_front g xs r [] h a = refl
order_front g xs r (d ∷ ds) h a =
    let q = or_false (same_field d.field g) (has ds g) h in
    ap (λ (z : List Event). z ++ flat_map (λ (d : Column). found d.field (xs ++ r)) ds) (found_append d.field xs r ∙ ap (λ (z : List Event). z ++ found d.field r) (found_none d.field g xs q.0 a))
    ∙ ap (λ (z : List Event). found d.field r ++ z) (order_front g xs r ds q.1 a)

order_value : (ds : List Column) (all : List Child) → distinct ds ≡ true → InOrder ds all → flat_map (λ (d : Column). found d.field all) ds ≡ flat all
order_value [] all u o = sym (ap flat o)
order_value (d ∷ ds) all u o =
    let q = no_true (has ds d.field) (distinct ds) u in
    let xs : List Child = o.0 in
    let r : List Child = o.1 in
    let one : found d.field (xs ++ r) ≡ flat xs =
    found_append d.field xs r ∙ ap (λ (z : List Event). z ++ found d.field r) (found_all d.field d.field xs (same_field-same d.field) o.3) ∙ ap (λ (z : List Event). flat xs ++ z) (order_absent d.field ds r q.0 o.4) ∙ append-nil (flat xs) in
    ap (λ (z : List Child). flat_map (λ (d : Column). found d.field z) (d ∷ ds)) o.2
    ∙ ap (λ (z : List Event). z ++ flat_map (λ (d : Column). found d.field (xs ++ r)) ds) one
    ∙ ap (λ (z : List Event). flat xs ++ z) (order_front d.field xs r ds q.0 o.3 ∙ order_value ds r q.1 o.4)
    ∙ sym (flat_append xs r)
    ∙ sym (ap flat o.2)

places_value : (all : List Child) (cs : List Column) → flat_map (λ (c : Column). column_events c.field all) cs ≡ flat_map (λ (d : Column). found d.field all) (places cs)
places_value all [] = refl
places_value all (c ∷ cs) = go (same_field c.field fields.Metadata) (places_value all cs)
  where
    go : (b : Bool) → flat_map (λ (c : Column). column_events c.field all) cs ≡ flat_map (λ (d : Column). found d.field all) (places cs)
        → (found c.field all ++ cond b (found fields.Kept all) []) ++ flat_map (λ (c : Column). column_events c.field all) cs ≡ flat_map (λ (d : Column). found d.field all) (cond b (c ∷ kept_column ∷ places cs) (c ∷ places cs))
    go true ih = append_assoc (found c.field all) (found fields.Kept all) (flat_map (λ (c : Column). column_events c.field all) cs) ∙ ap (λ (z : List Event). found c.field all ++ (found fields.Kept all ++ z)) ih
    go false ih = ap (λ (z : List Event). z ++ flat_map (λ (c : Column). column_events c.field all) cs) (append-nil (found c.field all)) ∙ ap (λ (z : List Event). found c.field all ++ z) ih

-- ---- the whole record

record Assembly (t : Table) (taken : List Text) (b : List Child) (ds : List Column) (ess : List (List Event)) : Type 0 where
  new : List Child
  built : Builds t taken b new
  events : flat new ≡ joined ess
  order : InOrder ds new

no_kept_real : (ds : List Column) → has (reals ds) fields.Kept ≡ false
no_kept_real [] = refl
no_kept_real (d ∷ ds) = go (same_field d.field fields.Kept) refl (no_kept_real ds)
  where
    go : (b : Bool) → same_field d.field fields.Kept ≡ b → has (reals ds) fields.Kept ≡ false → has (cond b (reals ds) (d ∷ reals ds)) fields.Kept ≡ false
    go true e ih = ih
    go false e ih = rw e ih

column_places : (t : Table) (taken : List Text) (b : List Child) (c : Column) (xs : List Child) → ColumnPieces t taken b c xs → AllByRecursion (IsOf c.field) xs
column_places t taken b c [] w = tt
column_places t taken b c (x ∷ xs) w = (ap (same_field c.field) w.0.place ∙ same_field-same c.field, column_places t taken (b ++ x ∷ []) c xs w.1)

kept_places : (t : Table) (taken : List Text) (f : Field) (xs : List Child) → same_field f fields.Kept ≡ true → AllByRecursion (KeptPiece t taken) xs → AllByRecursion (IsOf f) xs
kept_places t taken f [] e w = tt
kept_places t taken f (x ∷ xs) e w = (ap (same_field f) (kept_place t taken x w.0) ∙ e, kept_places t taken f xs e w.1)

-- what children of one field leave of the fields seen
column_after : (t : Table) (taken : List Text) (P : List Field → Type 0) (c : Column) (xs b : List Child) → ((s : List Field) → P s → P (s ++ c.field ∷ [])) → ColumnPieces t taken b c xs → P (fields_of b) → P (fields_of (b ++ xs))
column_after t taken P c [] b step w h = subst (λ (z : List Child). P (fields_of z)) (sym (append-nil b)) h
column_after t taken P c (x ∷ xs) b step w h = subst (λ (z : List Child). P (fields_of z)) (append_assoc b (x ∷ []) xs) (column_after t taken P c xs (b ++ x ∷ []) step w.1 (pushed_field P b x c.field w.0.place (step (fields_of b) h)))

times_after : (t : Table) (taken : List Text) (c : Column) (xs b : List Child) → ColumnPieces t taken b c xs → times c.field (fields_of (b ++ xs)) ≡ times c.field (fields_of b) + length xs
times_after t taken c [] b w = ap (λ (z : List Child). times c.field (fields_of z)) (append-nil b) ∙ omega arith
times_after t taken c (x ∷ xs) b w =
    let k : times c.field (fields_of (b ++ x ∷ [])) ≡ times c.field (fields_of b) + 1 = pushed_field (λ (z : List Field). times c.field z ≡ times c.field (fields_of b) + 1) b x c.field w.0.place (times_last c.field (fields_of b)) in
    let ih : times c.field (fields_of ((b ++ x ∷ []) ++ xs)) ≡ times c.field (fields_of (b ++ x ∷ [])) + length xs = times_after t taken c xs (b ++ x ∷ []) w.1 in
    ap (λ (z : List Child). times c.field (fields_of z)) (sym (append_assoc b (x ∷ []) xs)) ∙ ih ∙ omega (arith, k)

none_yet : (k : ℕ) → nat_lt 0 k ≡ false → k ≤ 0
none_yet k e = elim (leb_tells 1 k) [ inl p ↦ absurd (let q : nat_lt 0 k ≡ true = lt-ltb 0 k (omega (arith, p.1)) in (let z : true ≡ false = sym q ∙ e in cc)) | inr p ↦ omega (arith, p.1) ]

end_here : (t : Table) (b : List Child) → is_ack t ≡ false → lacking (columns t) (fields_of b) ≡ None → end_fault t b ≡ None
unfolding end_fault
end_here t b a l =
    let w : wanted t (seen_of t b) ≡ columns t = rw a refl in
    ap (λ (z : List Column). lacking z (seen_of t b)) w ∙ ap (lacking (columns t)) (seen_is t b a) ∙ l

joined_events : (xs new : List Child) (es : List Event) (ess : List (List Event)) → flat xs ≡ es → flat new ≡ joined ess → flat (xs ++ new) ≡ es ++ joined ess
joined_events xs new es ess e f = flat_append xs new ∙ ap (λ (z : List Event). z ++ flat new) e ∙ ap (λ (z : List Event). es ++ z) f

-- the rest behind a column, from what was seen
abbrev Further : Table → List Text → List Column → List (List Event) → List Child → Type 0
Further t taken ds ess b = (ps : List Column) → columns t ≡ ps ++ reals ds → lacking ps (fields_of b) ≡ None → any_seen (reals ds) (fields_of b) ≡ false → Assembly t taken b ds ess

behind_kept : (t : Table) (taken : List Text) (d : Column) (ds ps : List Column) (es : List Event) (ess : List (List Event)) (b : List Child) → same_field d.field fields.Kept ≡ true → columns t ≡ ps ++ reals ds → lacking ps (fields_of b) ≡ None → any_seen (reals ds) (fields_of b) ≡ false
    → (xs : List Child) → flat xs ≡ es → AllByRecursion (KeptPiece t taken) xs → Further t taken ds ess (b ++ xs) → Assembly t taken b (d ∷ ds) (es ∷ ess)
behind_kept t taken d ds ps es ess b k e l u xs f w more =
    let l2 : lacking ps (fields_of (b ++ xs)) ≡ None = kept_walk t taken (λ (z : List Field). lacking ps z ≡ None) xs b (λ s h. lacking_more ps s fields.Kept h) w l in
    let u2 : any_seen (reals ds) (fields_of (b ++ xs)) ≡ false = kept_walk t taken (λ (z : List Field). any_seen (reals ds) z ≡ false) xs b (λ s h. any_seen_other (reals ds) s fields.Kept h (no_kept_real ds)) w u in
    let r = more ps e l2 u2 in
    record {
      new = xs ++ r.new;
      built = put_kept t taken xs b r.new w r.built;
      events = joined_events xs r.new es ess f r.events;
      order = (xs, r.new, refl, kept_places t taken d.field xs k w, r.order);
    }

behind_column : (t : Table) (taken : List Text) (d : Column) (ds ps : List Column) (es : List Event) (ess : List (List Event)) (b : List Child) → is_ack t ≡ false → columns t ≡ ps ++ d ∷ reals ds → lacking ps (fields_of b) ≡ None → any_seen (d ∷ reals ds) (fields_of b) ≡ false
    → (xs : List Child) → flat xs ≡ es → ColumnPieces t taken b d xs → Most d.often (length xs) → least_count d.often ≤ length xs → Further t taken ds ess (b ++ xs) → Assembly t taken b (d ∷ ds) (es ∷ ess)
behind_column t taken d ds ps es ess b a e l u xs f w m n more =
    let q = or_false (nat_lt 0 (times d.field (fields_of b))) (any_seen (reals ds) (fields_of b)) u in
    let y : distinct (ps ++ d ∷ reals ds) ≡ true = ap distinct (sym e) ∙ (table_facts t).0 in
    let h : has (reals ds) d.field ≡ false = later_apart ps d (reals ds) y in
    let z : times d.field (fields_of b) ≤ 0 = none_yet (times d.field (fields_of b)) q.0 in
    let l2 : lacking ps (fields_of (b ++ xs)) ≡ None = column_after t taken (λ (z : List Field). lacking ps z ≡ None) d xs b (λ s k. lacking_more ps s d.field k) w l in
    let u2 : any_seen (reals ds) (fields_of (b ++ xs)) ≡ false = column_after t taken (λ (z : List Field). any_seen (reals ds) z ≡ false) d xs b (λ s k. any_seen_other (reals ds) s d.field k h) w q.1 in
    let k : times d.field (fields_of (b ++ xs)) ≡ times d.field (fields_of b) + length xs = times_after t taken d xs b w in
    let o : lacks d (fields_of (b ++ xs)) ≡ false = not_true (lacks d (fields_of (b ++ xs))) (λ v. absurd (omega (arith, n, k, ltb-true (times d.field (fields_of (b ++ xs))) (least_count d.often) v))) in
    let r = more (ps ++ d ∷ []) (e ∙ sym (append_assoc ps (d ∷ []) (reals ds))) (lacking_last ps d (fields_of (b ++ xs)) l2 o) u2 in
    record {
      new = xs ++ r.new;
      built = column_walk t taken ps d (reals ds) (length xs) xs b r.new a e h m w l q.1 (omega (arith, z)) (λ v1 v2 v3. r.built);
      events = joined_events xs r.new es ess f r.events;
      order = (xs, r.new, refl, column_places t taken b d xs w, r.order);
    }

assemble : (t : Table) (taken : List Text) (ds : List Column) (ess : List (List Event)) (ps : List Column) (b : List Child) → is_ack t ≡ false → columns t ≡ ps ++ reals ds → lacking ps (fields_of b) ≡ None → any_seen (reals ds) (fields_of b) ≡ false → Segments t taken b ds ess
    → Assembly t taken b ds ess
assemble t taken [] [] ps b a e l u w = record { new = []; built = builds_end t taken b (end_here t b a (ap (λ (z : List Column). lacking z (fields_of b)) (e ∙ append-nil ps) ∙ l)); events = refl; order = refl }
assemble t taken [] (es ∷ ess) ps b a e l u w = absurd w
assemble t taken (d ∷ ds) [] ps b a e l u w = absurd w
assemble t taken (d ∷ ds) (es ∷ ess) ps b a e l u w =
    go (same_field d.field fields.Kept) refl e u w.0.pieces (λ qs e2 l2 u2. assemble t taken ds ess qs (b ++ w.0.children) a e2 l2 u2 w.1)
  where
    go : (k : Bool) → same_field d.field fields.Kept ≡ k → columns t ≡ ps ++ cond k (reals ds) (d ∷ reals ds) → any_seen (cond k (reals ds) (d ∷ reals ds)) (fields_of b) ≡ false → PiecesFor k t taken b d w.0.children → Further t taken ds ess (b ++ w.0.children)
        → Assembly t taken b (d ∷ ds) (es ∷ ess)
    go true k e u i more = behind_kept t taken d ds ps es ess b k e l u w.0.children w.0.events i more
    go false k e u i more = behind_column t taken d ds ps es ess b a e l u w.0.children w.0.events i w.0.few w.0.enough more

none_seen : (cs : List Column) → any_seen cs [] ≡ false
none_seen [] = refl
none_seen (c ∷ cs) = none_seen cs

arranged_so : (t : Table) (all : List Child) → is_ack t ≡ false → arranged t all ≡ flat_map (λ (c : Column). column_events c.field all) (columns t)
unfolding arranged
arranged_so t all a = rw a refl

pub assembled : (t : Table) (taken : List Text) (ess : List (List Event)) → is_ack t ≡ false → Segments t taken [] (places (columns t)) ess → Canonical t taken (joined ess)
assembled t taken ess a w =
    let f = places_right t in
    let r = assemble t taken (places (columns t)) ess [] [] a (sym f.1) refl (none_seen (reals (places (columns t)))) w in
    record {
      children = r.new;
      tokens = r.built.tokens;
      content = r.built.content;
      written = subst (λ (z : List Event). WritesFront r.built.tokens (canonical z)) r.events r.built.written;
      names = subst (AllByRecursion HasNames) r.events r.built.names;
      value = in_columns r.new ∙ places_value r.new (columns t) ∙ order_value (places (columns t)) r.new f.0 r.order ∙ r.events;
    }
  where
    in_columns : (all : List Child) → arranged t all ≡ flat_map (λ (c : Column). column_events c.field all) (columns t)
    in_columns all = arranged_so t all a
