-- What the grammar accepts is written again: each child of a record, and so the record.
use Rattle.std.proofs.Common.{◌≡◌, Bool, true, false, cond, List, [], ◌∷◌, ◌++◌, Option, Some, None, refl, sym, ap, subst, ◌∙◌, append_assoc}
use Rattle.std.specs.Prelude.{◌&&◌}
use Rattle.std.specs.List.{AllByRecursion}
use Rattle.std.proofs.lemmas.List.{append-nil}
use Rattle.mos_fields.specs.Characters.{Text}
use Rattle.mos_fields.specs.Fields.{same_field}
use Rattle.mos_fields.specs.Names.{named}
use Rattle.mos_fields.specs.Forms.{is_white, is_trimmed, reads, among}
use Rattle.mos_fields.specs.declared.field.Field.{Field}
use Rattle.mos_fields.specs.declared.field.Field.TheVariants as fields
use Rattle.mos_fields.specs.declared.form.Form.{Form}
use Rattle.mos_fields.specs.declared.form.Form.TheVariants as forms
use Rattle.mos_fields.specs.declared.operation.Operation.TheVariants.{Insert, Replace, Move, Delete, Swap}
use Rattle.mos_tables.specs.declared.aim.Aim.TheVariants.{Nowhere, AtStory, AtItem}
use Rattle.mos_tables.specs.declared.column.Column.{Column}
use Rattle.mos_tables.specs.declared.column.Shape.{Shape}
use Rattle.mos_tables.specs.declared.column.Shape.TheVariants.{Leaf}
use Rattle.mos_tables.specs.declared.others.Others.{Others}
use Rattle.mos_tables.specs.declared.others.Others.TheVariants.{Kept, Dropped, Refused}
use Rattle.mos_tables.specs.declared.table.Table.{Table}
use Rattle.mos_tables.specs.declared.table.Table.TheVariants as tables
use Rattle.mos_tables.specs.Events.{Attribute, Event, leaf, raw, opens, closes}
use Rattle.mos_tables.specs.Tables.{columns, others, is_ack, attribute_of_table, attribute_of_form}
use Rattle.mos_grammar.specs.Tokens.{Token, open_tag, empty_tag, close_tag, tail}
use Rattle.mos_grammar.specs.Records.{Child, seen_of, is_optional, column_of, attribute_fault, given_of, OpenField, Role, leaf_role, raw_role, record_role, message_of, aim_of, message_role, role_at, other_role, role, leaf_event, field_events, keys, arranged, nested, raw_events, end_fault, Content, ends, white_space, field, empty_leaf, empty_leaf_tag, raw_element, raw_tag, record_element, record_tag, admission, admitted_record}
use Rattle.mos_grammar.proofs.Seen.{or_false}
use Rattle.mos_grammar.proofs.Complete.{table_facts}
use Rattle.mos_cursor.specs.Accepted.{IsWritten, IsGiven}
use Rattle.mos_cursor.proofs.Forms.{reads_again, key_is_fresh}
use Rattle.mos_cursor.proofs.Roles.{IsAdmitted, leaf_is, raw_is, record_is, empty_leaf_is, empty_raw_is, empty_record_is, IsColumn, LeafRole, RawRole, raw_column, raw_message, raw_kept, raw_dropped, RecordRole, record_column, record_message, leaf_says, raw_says, record_says, given_is}
use Rattle.mos_cursor.proofs.Columns.{column_with, column_with-same, known_column, column_of-all, all_known, distinct_columns, AllKnown}
use Rattle.mos_cursor.proofs.Children.{written_split}
use Rattle.encoding_laws.proofs.Admitted.{given_again, message_again, no_message, HasRoom, Opens, role_of_column, role_of_other, raw_of_column, raw_of_message, aim_attribute, record_admitted, message_admitted}
use Rattle.encoding_laws.proofs.Pieces.{Piece, leaf_piece, RawTokens, whole_raw, empty_raw, raw_piece, Canonical, record_piece}
use Rattle.encoding_laws.proofs.Lean.{MayLack, IsApart, apart_may_lack, IsQuiet}
use Rattle.encoding_laws.proofs.Found.{apart_of}
use Rattle.encoding_laws.proofs.Ordered.{kept_piece, ChildPiece, unwritten, in_column, in_others, AllPieces, and_false, canonical_of}

opens_of : (t : Table) (p : List Child) (n : Text) (g : List Attribute) (w : Role) (c : Column) → IsAdmitted t p n g w → IsColumn t p n c → Opens t p n
opens_of t p n g w c a i = record { outside = a.outside; room = subst (HasRoom (seen_of t p)) (sym i.named) i.room }

-- ---- fields with a text

-- the canonical text is read as itself, beside the same keys
pub reads_canonical : (form : Form) (taken : List Text) (x y : Text) → reads form taken x ≡ Some y → reads form taken y ≡ Some y
unfolding reads
reads_canonical forms.Key taken x y h =
    let f : among y taken ≡ false = key_is_fresh taken x y h in
    let q = reads_again forms.Key taken x y h in
    rw f q
reads_canonical f taken x y h = reads_again f taken x y h

-- no field with a text is element_target
abbrev is_target_text : Shape → Field → Bool
is_target_text (Leaf form) f = same_field f fields.ElementTarget
is_target_text s f = false

abbrev has_target_text : List Column → Bool
has_target_text [] = false
has_target_text (c ∷ cs) = cond (is_target_text c.shape c.field) true (has_target_text cs)

no_target_text : (t : Table) → has_target_text (columns t) ≡ false
no_target_text tables.Envelope = refl
no_target_text tables.Body = refl
no_target_text tables.HeaderPatch = refl
no_target_text tables.Story = refl
no_target_text tables.Item = refl
no_target_text tables.MosObj = refl
no_target_text tables.Heartbeat = refl
no_target_text tables.NoFields = refl
no_target_text tables.ListMachInfo = refl
no_target_text tables.SupportedProfiles = refl
no_target_text tables.MosAck = refl
no_target_text tables.MosReqObj = refl
no_target_text tables.MosReqAll = refl
no_target_text tables.MosListAll = refl
no_target_text tables.OneOrder = refl
no_target_text tables.RoListAll = refl
no_target_text tables.ElementStat = refl
no_target_text tables.ReadyToAir = refl
no_target_text tables.RoAck = refl
no_target_text tables.StorySend = refl
no_target_text (tables.Action o) = refl
no_target_text (tables.Target o) = refl
no_target_text (tables.Source Insert Nowhere) = refl
no_target_text (tables.Source Insert AtStory) = refl
no_target_text (tables.Source Insert AtItem) = refl
no_target_text (tables.Source Replace Nowhere) = refl
no_target_text (tables.Source Replace AtStory) = refl
no_target_text (tables.Source Replace AtItem) = refl
no_target_text (tables.Source Move Nowhere) = refl
no_target_text (tables.Source Move AtStory) = refl
no_target_text (tables.Source Move AtItem) = refl
no_target_text (tables.Source Delete Nowhere) = refl
no_target_text (tables.Source Delete AtStory) = refl
no_target_text (tables.Source Delete AtItem) = refl
no_target_text (tables.Source Swap Nowhere) = refl
no_target_text (tables.Source Swap AtStory) = refl
no_target_text (tables.Source Swap AtItem) = refl

abbrev NoTargetText : Column → Type 0
NoTargetText c = is_target_text c.shape c.field ≡ false

each_no_target : (cs : List Column) → has_target_text cs ≡ false → AllByRecursion NoTargetText cs
each_no_target [] h = tt
each_no_target (c ∷ cs) h = let q = or_false (is_target_text c.shape c.field) (has_target_text cs) h in (q.0, each_no_target cs q.1)

-- the last field of a group has to be there
ends_no_group : (t : Table) (c : Column) → column_with (columns t) c.field ≡ Some c → is_optional c.often ≡ true → (is_ack t && same_field c.field fields.Status) ≡ false
ends_no_group tables.RoAck c k o = go (same_field c.field fields.Status) refl
  where
    go : (b : Bool) → same_field c.field fields.Status ≡ b → b ≡ false
    go false e = refl
    go true e =
        let p : column_with (columns tables.RoAck) fields.Status ≡ Some c = sym (column_with-same (columns tables.RoAck) c.field fields.Status e) ∙ k in
        let q : is_optional c.often ≡ false = status_needed p in
        absurd (let z : true ≡ false = sym o ∙ q in cc)
      where
        status_needed : column_with (columns tables.RoAck) fields.Status ≡ Some c → is_optional c.often ≡ false
        status_needed p = cc
ends_no_group t c k o = refl

quiet_leaf : (t : Table) (n : Text) (c : Column) (form : Form) → column_of (columns t) n ≡ Some c → c.shape ≡ Leaf form → is_optional c.often ≡ true → IsQuiet t (c.field, [])
quiet_leaf t n c form e s o =
    let k : is_target_text c.shape c.field ≡ false = column_of-all NoTargetText (columns t) n c (each_no_target (columns t) (no_target_text t)) e in
    record {
      no_group_end = ends_no_group t c (known_column t n c e) o;
      no_target = ap (λ (z : Shape). is_target_text z c.field) (sym s) ∙ k;
      no_key = refl;
    }

one_column : (c d : Column) → ◌≡◌ {A = Option Column} (Some c) (Some d) → c ≡ d
one_column c d e = cc

leaf_may_lack : (ks cs : List Column) (c : Column) → AllKnown ks cs → column_with ks c.field ≡ Some c → is_optional c.often ≡ true → AllByRecursion (MayLack c.field) cs
leaf_may_lack ks [] c a k o = tt
leaf_may_lack ks (d ∷ cs) c a k o = (one, leaf_may_lack ks cs c a.1 k o)
  where
    one : same_field d.field c.field ≡ true → is_optional d.often ≡ true
    one e = let q : d ≡ c = one_column d c (sym a.0 ∙ column_with-same ks d.field c.field e ∙ k) in ap (λ (z : Column). is_optional z.often) q ∙ o

both_of : (a b w : Bool) → ((a && b) && w) ≡ true → a ≡ true
both_of true b w h = refl
both_of false b w h = absurd cc

leaf_child : (t : Table) (taken : List Text) (p : List Child) (n : Text) (g : List Attribute) (o : OpenField) (x : Text) (es : List Event) → named [] n ≡ true → IsAdmitted t p n g (leaf_role o) → field_events n o taken x ≡ Some es → ChildPiece t taken p (o.field, es)
unfolding field_events
leaf_child t taken p n g o x es m a h =
    let r : LeafRole t p n g o = leaf_says a in
    let c : Column = r.column in
    let form : Form = r.form in
    let v : OpenField = record { field = c.field; form = form; may_lack = is_optional c.often && is_trimmed form; given = given_of (attribute_of_form form) g } in
    let P : OpenField → Type 0 = λ (q : OpenField). cond (q.may_lack && is_white x) (Some []) (leaf_event n q (reads q.form taken x)) ≡ Some es in
    let Q : OpenField → Type 0 = λ (q : OpenField). attribute_fault (attribute_of_form q.form) g ≡ None in
    let d : IsGiven (attribute_of_form form) v.given = given_is (attribute_of_form form) g (subst Q r.field_is a.inside) in
    let f : ChildPiece t taken p (c.field, es) = go c form v.given r.is_column.named r.shape (opens_of t p n g (leaf_role o) c a r.is_column) d ((is_optional c.often && is_trimmed form) && is_white x) (reads form taken x) refl refl (subst P r.field_is h) in
    subst (λ (q : OpenField). ChildPiece t taken p (q.field, es)) (sym r.field_is) f
  where
    go : (c : Column) (form : Form) (i : List Attribute) → column_of (columns t) n ≡ Some c → c.shape ≡ Leaf form → Opens t p n → IsGiven (attribute_of_form form) i → (b : Bool) (y : Option Text) → ((is_optional c.often && is_trimmed form) && is_white x) ≡ b → reads form taken x ≡ y
        → cond b (Some []) (leaf_event n (record { field = c.field; form = form; may_lack = is_optional c.often && is_trimmed form; given = i }) y) ≡ Some es → ChildPiece t taken p (c.field, es)
    go c form i e s w d true y k l h =
        let q : [] ≡ es = cc in
        let opt : is_optional c.often ≡ true = both_of (is_optional c.often) (is_trimmed form) (is_white x) k in
        subst (λ (z : List Event). ChildPiece t taken p (c.field, z)) q (unwritten c.field (quiet_leaf t n c form e s opt) (leaf_may_lack (columns t) (columns t) c (all_known (columns t) (distinct_columns t)) (known_column t n c e) opt))
    go c form i e s w d false None k l h = absurd cc
    go c form i e s w d false (Some y) k l h =
        let q : leaf n i y ∷ [] ≡ es = cc in
        subst (λ (z : List Event). ChildPiece t taken p (c.field, z)) q (in_column c n (leaf n i y) [] e w (leaf_piece t taken p n c form i y e s d (reads_canonical form taken x y l) m))

-- ---- raw elements

not_dropped : (t : Table) (n : Text) (c : Column) → column_of (columns t) n ≡ Some c → same_field c.field fields.Dropped ≡ false
not_dropped t n c e = column_of-all (IsApart fields.Dropped) (columns t) n c (apart_of fields.Dropped (columns t) (table_facts t).4) e

is_no_message : (f : Field) (g : List Attribute) (o : Option Table) (h : Field) → message_role f g o ≡ raw_role h → o ≡ None
is_no_message f g None h e = refl
is_no_message f g (Some u) h e = absurd cc

is_kept : (x : Others) → other_role x ≡ raw_role fields.Kept → x ≡ Kept
is_kept Kept e = refl
is_kept Dropped e = absurd (let q : fields.Dropped ≡ fields.Kept = cc in cc)
is_kept Refused e = absurd cc

raw_child : (t : Table) (taken : List Text) (p : List Child) (n : Text) (g : List Attribute) (f : Field) (x : Text) (ts : List Token) → IsAdmitted t p n g (raw_role f) → RawTokens n x ts → ChildPiece t taken p (f, raw_events f x)
raw_child t taken p n g f x ts a w = go (raw_says a)
  where
    -- of a column whose elements are raw
    of_column : (c : Column) → column_of (columns t) n ≡ Some c → Opens t p n → ((b : List Child) (i : List Attribute) → Opens t b n → role t b n i ≡ raw_role c.field) → ChildPiece t taken p (c.field, raw_events c.field x)
    of_column c e o r =
        let k : same_field c.field fields.Dropped ≡ false = not_dropped t n c e in
        let q : raw c.field x ∷ [] ≡ raw_events c.field x = rw k refl in
        subst (λ (z : List Event). ChildPiece t taken p (c.field, z)) q (in_column c n (raw c.field x) [] e o (raw_piece t taken p n c.field x ts r k w))

    go : RawRole t p n g f → ChildPiece t taken p (f, raw_events f x)
    go (raw_column c i s e) =
        subst (λ (z : Field). ChildPiece t taken p (z, raw_events z x)) (sym e) (of_column c i.named (opens_of t p n g (raw_role f) c a i) (λ b h o. raw_of_column t b n h c i.named s o))
    go (raw_message c i s e) =
        let o : Opens t p n = opens_of t p n g (raw_role f) c a i in
        let m : message_of n g ≡ None = is_no_message c.field g (message_of n g) f (sym (role_of_column t p n g c i.named o ∙ ap (role_at p n g c) s) ∙ a.read_as) in
        subst (λ (z : Field). ChildPiece t taken p (z, raw_events z x)) (sym e) (of_column c i.named o (λ b h v. raw_of_message t b n h c i.named s (no_message n g h m) v))
    go (raw_kept o e) =
        let k : others t n ≡ Kept = is_kept (others t n) (sym (role_of_other t p n g o) ∙ a.read_as ∙ ap raw_role e) in
        let y : ChildPiece t taken p (fields.Kept, raw fields.Kept x ∷ []) =
        in_others (fields.Kept, raw fields.Kept x ∷ []) (kept_piece n x o k (λ q. raw_piece t taken q n fields.Kept x ts (λ b h v. role_of_other t b n h o ∙ ap other_role k) refl w)) in
        subst (λ (z : Field). ChildPiece t taken p (z, raw_events z x)) (sym e) y
    go (raw_dropped o e) =
        let y : ChildPiece t taken p (fields.Dropped, []) =
        unwritten fields.Dropped (record { no_group_end = and_false (is_ack t); no_target = refl; no_key = refl }) (apart_may_lack fields.Dropped (columns t) (apart_of fields.Dropped (columns t) (table_facts t).4)) in
        subst (λ (z : Field). ChildPiece t taken p (z, raw_events z x)) (sym e) y

-- ---- records

record_child : (t : Table) (taken : List Text) (p : List Child) (n : Text) (g i : List Attribute) (f : Field) (u : Table) (inner : List Child) → named [] n ≡ true → IsAdmitted t p n g (record_role f u i) → Canonical u (keys t p) (arranged u inner)
    → ChildPiece t taken p (f, nested n i u inner)
unfolding nested
record_child t taken p n g i f u inner m a d = go (record_says a)
  where
    made : (c : Column) → column_of (columns t) n ≡ Some c → Opens t p n → Piece t taken p n (c.field, opens n i ∷ (arranged u inner ++ closes n ∷ [])) → f ≡ c.field → ChildPiece t taken p (f, opens n i ∷ (arranged u inner ++ closes n ∷ []))
    made c e o y q = subst (λ (z : Field). ChildPiece t taken p (z, opens n i ∷ (arranged u inner ++ closes n ∷ []))) (sym q) (in_column c n (opens n i) (arranged u inner ++ closes n ∷ []) e o y)

    go : RecordRole t p n g f u i → ChildPiece t taken p (f, opens n i ∷ (arranged u inner ++ closes n ∷ []))
    go (record_column c v j s e x y) =
        let k : attribute_fault (attribute_of_table v) g ≡ None = ap (λ (z : Option Field). attribute_fault z g) (sym (ap attribute_of_table x ∙ aim_attribute p v)) ∙ a.inside in
        let d2 : IsGiven (attribute_of_table v) i = subst (IsGiven (attribute_of_table v)) (sym y) (given_is (attribute_of_table v) g k) in
        let r : (b : List Child) → aim_of b ≡ aim_of p → Opens t b n → admission t b n i ≡ admitted_record c.field u i = λ b q o. (record_admitted t b p n i c v j.named s d2 q o ∙ ap (λ (z : Table). admitted_record c.field z i) (sym x)) in
        made c j.named (opens_of t p n g (record_role f u i) c a j) (record_piece t taken p n c.field u i inner r d m (given_again (attribute_of_table v) i d2).names) e
    go (record_message c j s e x y) =
        let d2 : IsGiven (attribute_of_table u) i = subst (IsGiven (attribute_of_table u)) (sym y) (given_is (attribute_of_table u) g a.inside) in
        let m2 : message_of n i ≡ Some u = ap (message_of n) y ∙ message_again n u g a.inside x in
        made c j.named (opens_of t p n g (record_role f u i) c a j) (record_piece t taken p n c.field u i inner (λ b q o. message_admitted t b n i c u j.named s m2 d2 o) d m (given_again (attribute_of_table u) i d2).names) e

-- ---- all children of a record

push : (t : Table) (taken : List Text) (p cs : List Child) (c : Child) → AllPieces t taken p cs → ChildPiece t taken (p ++ cs) c → AllPieces t taken p (cs ++ c ∷ [])
push t taken p [] c a h = (subst (λ (z : List Child). ChildPiece t taken z c) (append-nil p) h, tt)
push t taken p (d ∷ cs) c a h = (a.0, push t taken (p ++ d ∷ []) cs c a.1 (subst (λ (z : List Child). ChildPiece t taken z c) (sym (append_assoc p (d ∷ []) cs)) h))

pub collect : {t : Table} {taken : List Text} {before all : List Child} {r : List Token} → Content t taken before all r → AllByRecursion IsWritten r → AllPieces t taken [] before → AllPieces t taken [] all × (end_fault t all ≡ None)
collect (ends h) w a = (a, h)
collect (white_space h d) w a = collect d w.1 a
collect {t = t} {taken = taken} {before = before} (field {n = n} {x = x} {y = y} {g = g} {o = o} {es = es} h e d) w a =
    collect d w.1.1.1 (push t taken [] before (o.field, es) a (leaf_child t taken before n g o y es w.0.1 (leaf_is h) e))
collect {t = t} {taken = taken} {before = before} (empty_leaf {n = n} {g = g} {o = o} {es = es} h e d) w a =
    collect d w.1.1 (push t taken [] before (o.field, es) a (leaf_child t taken before n g o [] es w.0.1 (leaf_is h) e))
collect {t = t} {taken = taken} {before = before} (empty_leaf_tag {n = n} {g = g} {o = o} {es = es} h e d) w a =
    collect d w.1 (push t taken [] before (o.field, es) a (leaf_child t taken before n g o [] es w.0.1 (empty_leaf_is taken h) e))
collect {t = t} {taken = taken} {before = before} (raw_element {n = n} {tag = tag} {x = x} {g = g} {f = f} h e d) w a =
    collect d w.1.1 (push t taken [] before (f, raw_events f (tag ++ x)) a (raw_child t taken before n g f (tag ++ x) (open_tag n g tag ∷ tail x ∷ []) (raw_is h) (whole_raw g tag x w.0 e)))
collect {t = t} {taken = taken} {before = before} (raw_tag {n = n} {tag = tag} {g = g} {f = f} h d) w a =
    collect d w.1 (push t taken [] before (f, raw_events f tag) a (raw_child t taken before n g f tag (empty_tag n g tag ∷ []) (empty_raw_is taken h) (empty_raw g tag w.0)))
collect {t = t} {taken = taken} {before = before} (record_element {u = u} {inner = inner} {n = n} {g = g} {h = i} {r = r} {s = s} {f = f} h d e) w a =
    let p = written_split r (close_tag n ∷ s) w.1 in
    let q = collect d p.0 tt in
    collect e p.1.1 (push t taken [] before (f, nested n i u inner) a (record_child t taken before n g i f u inner w.0.1 (record_is h) (canonical_of u (keys t before) inner q.0 q.1)))
collect {t = t} {taken = taken} {before = before} (record_tag {u = u} {n = n} {g = g} {h = i} {f = f} h e d) w a =
    collect d w.1 (push t taken [] before (f, nested n i u []) a (record_child t taken before n g i f u [] w.0.1 (empty_record_is taken h) (canonical_of u (keys t before) [] tt e)))
