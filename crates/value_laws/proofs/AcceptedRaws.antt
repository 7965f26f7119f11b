-- The raw elements of accepted records fit the records that they stand in, and no element_source is empty.
use Rattle.std.proofs.Common.{◌≡◌, ◌+◌, Bool, true, false, cond, List, [], ◌∷◌, ◌++◌, Option, Some, None, refl, sym, ap, subst, ◌∙◌}
use Rattle.std.specs.Prelude.{◌&&◌}
use Rattle.std.specs.List.{AllByRecursion, flat_map}
use Rattle.mos_fields.specs.Characters.{Text}
use Rattle.mos_fields.specs.Fields.{name_of, same_field, same}
use Rattle.mos_fields.specs.Forms.{reads, is_white, is_trimmed}
use Rattle.mos_fields.specs.Raw.{IsRaw}
use Rattle.mos_fields.specs.declared.field.Field.{Field}
use Rattle.mos_fields.specs.declared.field.Field.TheVariants as fields
use Rattle.mos_fields.specs.declared.operation.Operation.{Operation}
use Rattle.mos_tables.specs.declared.aim.Aim.{Aim}
use Rattle.mos_tables.specs.declared.column.Column.{Column}
use Rattle.mos_tables.specs.declared.column.Shape.{Shape}
use Rattle.mos_tables.specs.declared.column.Shape.TheVariants.{Leaf, Raw, Record, Message}
use Rattle.mos_tables.specs.declared.others.Others.{Others}
use Rattle.mos_tables.specs.declared.others.Others.TheVariants.{Kept, Dropped, Refused}
use Rattle.mos_tables.specs.declared.table.Table.{Table}
use Rattle.mos_tables.specs.declared.table.Table.TheVariants as tables
use Rattle.mos_tables.specs.Events.{Attribute, Event, leaf, raw, opens, closes}
use Rattle.mos_tables.specs.Tables.{source_column, columns, others, is_ack}
use Rattle.mos_grammar.specs.Tokens.{Token, close_tag}
use Rattle.mos_grammar.specs.Records.{Child, times, seen_from, seen_of, is_optional, is_named, column_of, lacks, lack_of, end_fault, values_of, operation_in, OpenField, Role, out_of_place, leaf_role, raw_role, record_role, message_of, message_role, role_at, other_role, role_by, role, leaf_event, field_events, flat, found, column_events, arranged, nested, raw_events, Content, ends, white_space, field, empty_leaf, empty_leaf_tag, raw_element, raw_tag, record_element, record_tag}
use Rattle.mos_cursor.specs.Accepted.{IsWritten, IsAccepted}
use Rattle.mos_cursor.proofs.Columns.{column_with, column_with-same, known_column, column_of-named, table_facts}
use Rattle.mos_cursor.proofs.Roles.{same_is, IsAdmitted, leaf_is, raw_is, record_is, empty_leaf_is, empty_raw_is, empty_record_is, IsColumn, LeafRole, RawRole, raw_column, raw_message, raw_kept, raw_dropped, RecordRole, record_column, record_message, leaf_says, raw_says, record_says}
use Rattle.mos_values.specs.Sound.{IsNamed}
use Rattle.encoding_laws.specs.Fitting.{or_no_fields}
use Rattle.value_laws.proofs.FittingRaws.{RawFits, settled, inside, begins, begins_more, StartsAs, Passes, passes_none, passes_leaf, passes_raw, passes_both, passes_record}
use Rattle.value_laws.proofs.RawTokens.{raw_with_tail, raw_of_empty}
use Rattle.value_laws.proofs.TableFacts.{is_raw_shape, is_message_shape, source_facts, only_column, IsEnvelope, holds_message, no_raw_column, no_column_name, other_name, inside_of_column, settled_aim, shown}

-- What a child adds fits the record, and something stands in an element_source.
abbrev IsGood : Table → List Event → Type 0
IsGood t es = Passes (settled t) es × StartsAs t es

abbrev AreGood : Table → List Child → Type 0
AreGood t cs = AllByRecursion (λ (c : Child). IsGood t c.1) cs

starts_leaf : (t : Table) (n : Text) (g : List Attribute) (x : Text) → StartsAs t (leaf n g x ∷ [])
starts_leaf (tables.Source o a) n g x = refl
starts_leaf t n g x = tt

starts_record : (t : Table) (n : Text) (g : List Attribute) (es : List Event) → StartsAs t (opens n g ∷ es)
starts_record (tables.Source o a) n g es = refl
starts_record t n g es = tt

starts_settled : (t : Table) (es : List Event) → StartsAs t es → StartsAs (settled t) es
starts_settled (tables.Source o a) es h = h
starts_settled t es h = tt

false_is_true : false ≡ true → ⊥
false_is_true e = cc

-- ---- texts

-- an element_source has no text that may be left out
text_stays : (t : Table) (before : List Child) (n : Text) (g : List Attribute) (o : OpenField) (es : List Event) → LeafRole t before n g o → (o.may_lack ≡ false → StartsAs t es) → StartsAs t es
text_stays (tables.Source p a) before n g o es r stays =
    let e : source_column p a ≡ r.column = only_column (source_column p a) r.column n r.is_column.named in
    let k : is_optional r.column.often ≡ false = subst (λ (c : Column). is_optional c.often ≡ false) e (source_facts p a).not_optional in
    let m : o.may_lack ≡ (is_optional r.column.often && is_trimmed r.form) = ap (λ (q : OpenField). q.may_lack) r.field_is in
    stays (m ∙ (rw k refl))
text_stays t before n g o es r stays = tt

text_good : (t : Table) (before : List Child) (n : Text) (g : List Attribute) (o : OpenField) (taken : List Text) (x : Text) (es : List Event) → IsAdmitted t before n g (leaf_role o) → field_events n o taken x ≡ Some es → IsGood t es
unfolding field_events
text_good t before n g o taken x es a h = (passes (o.may_lack && is_white x) (reads o.form taken x) h, text_stays t before n g o es (leaf_says a) (λ e. starts o.may_lack e (reads o.form taken x) h))
  where
    passes : (b : Bool) (r : Option Text) → cond b (Some []) (leaf_event n o r) ≡ Some es → Passes (settled t) es
    passes true r h = let q : [] ≡ es = cc in subst (Passes (settled t)) q (passes_none (settled t))
    passes false None h = absurd cc
    passes false (Some y) h = let q : leaf n o.given y ∷ [] ≡ es = cc in subst (Passes (settled t)) q (passes_leaf (settled t) n o.given y)

    starts : (b : Bool) → b ≡ false → (r : Option Text) → cond (b && is_white x) (Some []) (leaf_event n o r) ≡ Some es → StartsAs t es
    starts true e r h = absurd cc
    starts false e None h = absurd cc
    starts false e (Some y) h = let q : leaf n o.given y ∷ [] ≡ es = cc in subst (StartsAs t) q (starts_leaf t n o.given y)

-- ---- raw elements

-- an element of no column
outside_role : (t : Table) (before : List Child) (n : Text) (g : List Attribute) (w : Role) → role t before n g ≡ w → column_of (columns t) n ≡ None → other_role (others t n) ≡ w
unfolding role
outside_role t before n g w r e = sym (ap (role_by t before n g) e) ∙ r

-- the message of an envelope
message_kept : (t : Table) (before : List Child) (n : Text) (g : List Attribute) (f : Field) (c : Column) → role t before n g ≡ raw_role f → IsColumn t before n c → c.shape ≡ Message → message_of n g ≡ None
unfolding role
message_kept t before n g f c r i s = go (message_of n g) (at_shape ∙ sym column ∙ r)
  where
    column : role_by t before n g (column_of (columns t) n) ≡ role_at before n g c c.shape
    column = ap (role_by t before n g) i.named ∙ ap (λ (b : Bool). cond b out_of_place (role_at before n g c c.shape)) i.room

    at_shape : message_role c.field g (message_of n g) ≡ role_at before n g c c.shape
    at_shape = sym (ap (role_at before n g c) s)

    go : (o : Option Table) → message_role c.field g o ≡ raw_role f → o ≡ None
    go None h = refl
    go (Some u) h = absurd cc

raw_named : (c : Column) (n : Text) → c.shape ≡ Raw → is_named c n ≡ true → n ≡ name_of c.field
raw_named c n e h = sym (same_is (name_of c.field) n (go c.shape e h))
  where
    go : (s : Shape) → s ≡ Raw → elim s [ Message ↦ true | Leaf f ↦ same (name_of c.field) n | Raw ↦ same (name_of c.field) n | Record t ↦ same (name_of c.field) n ] ≡ true → same (name_of c.field) n ≡ true
    go Raw e h = h
    go (Leaf f) e h = absurd cc
    go (Record u) e h = absurd cc
    go Message e h = absurd cc

-- no column is that of the elements of other names
not_kept : (t : Table) (c : Column) → column_with (columns t) c.field ≡ Some c → same_field c.field fields.Kept ≡ false
not_kept t c k = go (same_field c.field fields.Kept) refl
  where
    go : (b : Bool) → same_field c.field fields.Kept ≡ b → b ≡ false
    go false e = refl
    go true e = let p : column_with (columns t) c.field ≡ None = column_with-same (columns t) c.field fields.Kept e ∙ (table_facts t).no_kept in absurd cc

own_fits : (t : Table) (n : Text) (c : Column) (x : Text) → column_of (columns t) n ≡ Some c → c.shape ≡ Raw → IsRaw n x → RawFits (settled t) c.field x
own_fits t n c x h s r =
    let k : column_with (columns t) c.field ≡ Some c = known_column t n c h in
    let m : IsRaw (name_of c.field) x = subst (λ (z : Text). IsRaw z x) (raw_named c n s (column_of-named (columns t) n c h)) r in
    go t h (λ u. subst (λ (b : Bool). IsNamed b u c.field x) (sym (not_kept t c k)) m)
  where
    go : (t : Table) → column_of (columns t) n ≡ Some c → ((u : Table) → IsNamed (same_field c.field fields.Kept) u c.field x) → RawFits (settled t) c.field x
    go tables.Envelope h f = absurd (no_raw_column n c h s)
    go t h f = f (settled t)

message_fits : (t : Table) (before : List Child) (n : Text) (g : List Attribute) (f : Field) (c : Column) (x : Text) → role t before n g ≡ raw_role f → IsColumn t before n c → c.shape ≡ Message → IsRaw n x → RawFits (settled t) f x
message_fits t before n g f c x r i s k = go t i.named (holds_message t n c i.named s) (message_kept t before n g f c r i s)
  where
    go : (t : Table) → column_of (columns t) n ≡ Some c → IsEnvelope t → message_of n g ≡ None → RawFits (settled t) f x
    go tables.Envelope h e m = (n, k, other_name n c (operation_in (values_of (name_of fields.OperationKind) g)) h s m)
    go t h e m = absurd e

kept_others : (x : Others) → other_role x ≡ raw_role fields.Kept → x ≡ Kept
kept_others Kept h = refl
kept_others Dropped h = absurd cc
kept_others Refused h = absurd cc

kept_fits : (t : Table) (n x : Text) → column_of (columns t) n ≡ None → others t n ≡ Kept → IsRaw n x → RawFits (settled t) fields.Kept x
kept_fits tables.Envelope n x e k r = absurd cc
kept_fits (tables.Source o a) n x e k r = absurd cc
kept_fits t n x e k r = (n, r, no_column_name (columns t) n e, k)

raw_fits : (t : Table) (before : List Child) (n : Text) (g : List Attribute) (f : Field) (x : Text) → IsAdmitted t before n g (raw_role f) → IsRaw n x → same_field f fields.Dropped ≡ false → RawFits (settled t) f x
raw_fits t before n g f x a r d = go (raw_says a)
  where
    go : RawRole t before n g f → RawFits (settled t) f x
    go (raw_column c i s e) = subst (λ (z : Field). RawFits (settled t) z x) (sym e) (own_fits t n c x i.named s r)
    go (raw_message c i s e) = message_fits t before n g f c x a.read_as i s r
    go (raw_kept o e) =
        let k : others t n ≡ Kept = kept_others (others t n) (outside_role t before n g (raw_role f) a.read_as o ∙ ap raw_role e) in
        subst (λ (z : Field). RawFits (settled t) z x) (sym e) (kept_fits t n x o k r)
    go (raw_dropped o e) = let k : same_field fields.Dropped fields.Dropped ≡ false = subst (λ (z : Field). same_field z fields.Dropped ≡ false) e d in absurd cc

-- an element_source has no raw elements
no_raw_source : (t : Table) (before : List Child) (n : Text) (g : List Attribute) (f : Field) (es : List Event) → IsAdmitted t before n g (raw_role f) → StartsAs t es
no_raw_source (tables.Source p b) before n g f es a = absurd (go (raw_says a))
  where
    t : Table
    t = tables.Source p b

    no : (q : Shape → Bool) (c : Column) (s : Shape) → column_of (columns t) n ≡ Some c → c.shape ≡ s → q s ≡ true → q (source_column p b).shape ≡ false → ⊥
    no q c s h e y k =
        let i : source_column p b ≡ c = only_column (source_column p b) c n h in
        let l : q s ≡ false = subst (λ (z : Shape). q z ≡ false) e (subst (λ (z : Column). q z.shape ≡ false) i k) in
        false_is_true (sym l ∙ y)

    refused : column_of (columns t) n ≡ None → ⊥
    refused e = let h : other_role Refused ≡ raw_role f = outside_role t before n g (raw_role f) a.read_as e in cc

    go : RawRole t before n g f → ⊥
    go (raw_column c i s e) = no is_raw_shape c Raw i.named s refl (source_facts p b).no_raw
    go (raw_message c i s e) = no is_message_shape c Message i.named s refl (source_facts p b).no_message
    go (raw_kept o e) = refused o
    go (raw_dropped o e) = refused o
no_raw_source t before n g f es a = tt

raw_good : (t : Table) (before : List Child) (n : Text) (g : List Attribute) (f : Field) (x : Text) → IsAdmitted t before n g (raw_role f) → IsRaw n x → IsGood t (raw_events f x)
raw_good t before n g f x a r = (go (same_field f fields.Dropped) refl, no_raw_source t before n g f (raw_events f x) a)
  where
    go : (b : Bool) → same_field f fields.Dropped ≡ b → Passes (settled t) (cond b [] (raw f x ∷ []))
    go true e = passes_none (settled t)
    go false e = passes_raw (settled t) f x (raw_fits t before n g f x a r e)

-- ---- records

inside_role : (t : Table) (before : List Child) (n : Text) (g h : List Attribute) (f : Field) (u : Table) → IsAdmitted t before n g (record_role f u h) → inside (settled t) n h ≡ settled u
inside_role t before n g h f u a = go (record_says a)
  where
    go : RecordRole t before n g f u h → inside (settled t) n h ≡ settled u
    go (record_column c v i s e x y) = inside_of_column t n h c (Record v) i.named s ∙ settled_aim before v ∙ ap settled (sym x)
    go (record_message c i s e x y) =
        let m : message_of n h ≡ Some u = subst (λ (z : List Attribute). message_of n z ≡ Some u) (sym y) (shown n g u x a.inside) in
        inside_of_column t n h c Message i.named s ∙ ap (λ (z : Option Table). settled (or_no_fields z)) m

-- the events that the children add, by columns
found_passes : (t : Table) (f : Field) (cs : List Child) → AreGood t cs → Passes (settled t) (found f cs)
found_passes t f [] a = passes_none (settled t)
found_passes t f (c ∷ cs) a = go (same_field f c.0) (found_passes t f cs a.1)
  where
    go : (b : Bool) → Passes (settled t) (found f cs) → Passes (settled t) (cond b c.1 [] ++ found f cs)
    go true ih = passes_both (settled t) c.1 (found f cs) a.0.0 ih
    go false ih = ih

flat_passes : (t : Table) (cs : List Child) → AreGood t cs → Passes (settled t) (flat cs)
flat_passes t [] a = passes_none (settled t)
flat_passes t (c ∷ cs) a = passes_both (settled t) c.1 (flat cs) a.0.0 (flat_passes t cs a.1)

columns_pass : (t : Table) (all : List Child) (cs : List Column) → AreGood t all → Passes (settled t) (flat_map (λ (c : Column). column_events c.field all) cs)
columns_pass t all [] a = passes_none (settled t)
columns_pass t all (c ∷ cs) a =
    passes_both (settled t) (column_events c.field all) (flat_map (λ (c : Column). column_events c.field all) cs)
    (passes_both (settled t) (found c.field all) (cond (same_field c.field fields.Metadata) (found fields.Kept all) []) (found_passes t c.field all a) (go (same_field c.field fields.Metadata)))
    (columns_pass t all cs a)
  where
    go : (b : Bool) → Passes (settled t) (cond b (found fields.Kept all) [])
    go true = found_passes t fields.Kept all a
    go false = passes_none (settled t)

arranged_passes : (t : Table) (all : List Child) → AreGood t all → Passes (settled t) (arranged t all)
unfolding arranged
arranged_passes t all a = go (is_ack t)
  where
    go : (b : Bool) → Passes (settled t) (cond b (flat all) (flat_map (λ (c : Column). column_events c.field all) (columns t)))
    go true = flat_passes t all a
    go false = columns_pass t all (columns t) a

-- ---- an element_source isn't empty

times_behind : (f g : Field) (gs : List Field) → same_field f g ≡ false → times f (gs ++ g ∷ []) ≡ times f gs
times_behind f g [] e = rw e refl
times_behind f g (h ∷ gs) e = ap (λ k. cond (same_field f h) (k + 1) k) (times_behind f g gs e)

none_seen : (t : Table) (f : Field) (cs : List Child) (seen : List Field) → is_ack t ≡ false → AllByRecursion (λ (c : Child). begins c.1 ≡ true) cs → begins (found f cs) ≡ false → times f (seen_from t seen cs) ≡ times f seen
none_seen t f [] seen k a h = refl
none_seen t f (c ∷ cs) seen k a h = go (same_field f c.0) refl h (λ e. rw k (none_seen t f cs (seen ++ c.0 ∷ []) k a.1 e))
  where
    go : (b : Bool) → same_field f c.0 ≡ b → begins (cond b c.1 [] ++ found f cs) ≡ false → (begins (found f cs) ≡ false → times f (seen_from t seen (c ∷ cs)) ≡ times f (seen ++ c.0 ∷ [])) → times f (seen_from t seen (c ∷ cs)) ≡ times f seen
    go true e h ih = absurd (false_is_true (sym h ∙ begins_more c.1 (found f cs) a.0))
    go false e h ih = ih h ∙ times_behind f c.0 seen e

source_begins : (o : Operation) (a : Aim) (all : List Child) → AreGood (tables.Source o a) all → end_fault (tables.Source o a) all ≡ None → begins (arranged (tables.Source o a) all) ≡ true
unfolding arranged end_fault seen_of
source_begins o a all g h = go (begins (found f all)) refl
  where
    c : Column
    c = source_column o a

    f : Field
    f = c.field

    each : (cs : List Child) → AreGood (tables.Source o a) cs → AllByRecursion (λ (c : Child). begins c.1 ≡ true) cs
    each [] g = tt
    each (d ∷ cs) g = (g.0.1, each cs g.1)

    go : (b : Bool) → begins (found f all) ≡ b → begins ((found f all ++ cond (same_field f fields.Metadata) (found fields.Kept all) []) ++ []) ≡ true
    go true e = begins_more (found f all ++ cond (same_field f fields.Metadata) (found fields.Kept all) []) [] (begins_more (found f all) (cond (same_field f fields.Metadata) (found fields.Kept all) []) e)
    go false e =
        let k : times f (seen_from (tables.Source o a) [] all) ≡ 0 = none_seen (tables.Source o a) f all [] refl (each all g) e in
        let l : lacks c (seen_from (tables.Source o a) [] all) ≡ true = rw k (source_facts o a).wanted in
        let m : Some (lack_of f) ≡ None = sym (ap (λ (b : Bool). cond b (Some (lack_of f)) None) l) ∙ h in
        absurd cc

arranged_starts : (t : Table) (all : List Child) → AreGood t all → end_fault t all ≡ None → StartsAs t (arranged t all)
arranged_starts (tables.Source o a) all g h = source_begins o a all g h
arranged_starts t all g h = tt

record_good : (t : Table) (before : List Child) (n : Text) (g h : List Attribute) (f : Field) (u : Table) (inner : List Child) → IsAdmitted t before n g (record_role f u h) → AreGood u inner → end_fault u inner ≡ None → IsGood t (nested n h u inner)
unfolding nested
record_good t before n g h f u inner a i e =
    (passes_record (settled t) (settled u) n h (arranged u inner) (inside_role t before n g h f u a) (starts_settled u (arranged u inner) (arranged_starts u inner i e)) (arranged_passes u inner i), starts_record t n h (arranged u inner ++ closes n ∷ []))

-- ---- whole records

push : (t : Table) (cs : List Child) (c : Child) → AreGood t cs → IsGood t c.1 → AreGood t (cs ++ c ∷ [])
push t [] c a h = (h, tt)
push t (d ∷ cs) c a h = (a.0, push t cs c a.1 h)

-- the end of a record shows no fault
ended : {t : Table} {taken : List Text} {before all : List Child} {r : List Token} → Content t taken before all r → end_fault t all ≡ None
ended (ends h) = h
ended (white_space h d) = ended d
ended (field h e d) = ended d
ended (empty_leaf h e d) = ended d
ended (empty_leaf_tag h e d) = ended d
ended (raw_element h e d) = ended d
ended (raw_tag h d) = ended d
ended (record_element h d e) = ended e
ended (record_tag h e d) = ended d

written_parts : (x y : List Token) → AllByRecursion IsWritten (x ++ y) → AllByRecursion IsWritten x × AllByRecursion IsWritten y
written_parts [] y a = (tt, a)
written_parts (t ∷ x) y a = let p = written_parts x y a.1 in ((a.0, p.0), p.1)

children_good : {t : Table} {taken : List Text} {before all : List Child} {r : List Token} → Content t taken before all r → AllByRecursion IsWritten r → AreGood t before → AreGood t all
children_good (ends h) w a = a
children_good (white_space h d) w a = children_good d w.1 a
children_good {t = t} {taken = taken} {before = before} (field {n = n} {y = y} {g = g} {o = o} {es = es} h e d) w a =
    children_good d w.1.1.1 (push t before (o.field, es) a (text_good t before n g o taken y es (leaf_is h) e))
children_good {t = t} {taken = taken} {before = before} (empty_leaf {n = n} {g = g} {o = o} {es = es} h e d) w a =
    children_good d w.1.1 (push t before (o.field, es) a (text_good t before n g o taken [] es (leaf_is h) e))
children_good {t = t} {taken = taken} {before = before} (empty_leaf_tag {n = n} {g = g} {o = o} {es = es} h e d) w a =
    children_good d w.1 (push t before (o.field, es) a (text_good t before n g o taken [] es (empty_leaf_is taken h) e))
children_good {t = t} {before = before} (raw_element {n = n} {tag = tag} {x = x} {g = g} {f = f} h e d) w a =
    children_good d w.1.1 (push t before (f, raw_events f (tag ++ x)) a (raw_good t before n g f (tag ++ x) (raw_is h) (raw_with_tail n x tag g w.0 e)))
children_good {t = t} {taken = taken} {before = before} (raw_tag {n = n} {tag = tag} {g = g} {f = f} h d) w a =
    children_good d w.1 (push t before (f, raw_events f tag) a (raw_good t before n g f tag (empty_raw_is taken h) (raw_of_empty n tag g w.0)))
children_good {t = t} {before = before} (record_element {u = u} {inner = inner} {n = n} {g = g} {h = i} {r = r} {s = s} {f = f} h d e) w a =
    let p = written_parts r (close_tag n ∷ s) w.1 in
    children_good e p.1.1 (push t before (f, nested n i u inner) a (record_good t before n g i f u inner (record_is h) (children_good d p.0 tt) (ended d)))
children_good {t = t} {taken = taken} {before = before} (record_tag {u = u} {n = n} {g = g} {h = i} {f = f} h e d) w a =
    children_good d w.1 (push t before (f, nested n i u []) a (record_good t before n g i f u [] (empty_record_is taken h) tt e))

pub accepted_passes : (t : Table) (taken : List Text) (es : List Event) → IsAccepted t taken es → Passes (settled t) es
accepted_passes t taken es a = subst (Passes (settled t)) (sym a.value) (arranged_passes t a.all (children_good a.content a.written tt))
