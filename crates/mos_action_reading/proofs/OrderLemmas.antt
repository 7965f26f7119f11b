-- Behind which children each child of an accepted record stands.
use Rattle.std.proofs.Common.{◌≡◌, List, [], ◌∷◌, ◌++◌, Some, None, sym, ap, subst, append_assoc}
use Rattle.std.proofs.lemmas.List.{append-nil}
use Rattle.mos_fields.specs.Characters.{Text}
use Rattle.mos_fields.specs.declared.field.Field.{Field}
use Rattle.mos_fields.specs.declared.field.Field.TheVariants as fields
use Rattle.mos_tables.specs.declared.column.Column.{Column}
use Rattle.mos_tables.specs.declared.table.Table.{Table}
use Rattle.mos_tables.specs.Events.{Attribute}
use Rattle.mos_tables.specs.Tables.{columns}
use Rattle.mos_grammar.specs.Tokens.{Token}
use Rattle.mos_grammar.specs.Records.{Child, column_of, outside_fault, OpenField, leaf_role, raw_role, record_role, raw_events, nested, Content, ends, white_space, field, empty_leaf, empty_leaf_tag, raw_element, raw_tag, record_element, record_tag}
use Rattle.mos_cursor.proofs.Roles.{IsAdmitted, leaf_is, raw_is, record_is, empty_leaf_is, empty_raw_is, empty_record_is, IsColumn, RawRole, raw_column, raw_message, raw_kept, raw_dropped, RecordRole, record_column, record_message, leaf_says, raw_says, record_says}

-- A child of this field may stand behind these: its name is that of a column, and shows no fault; or it is another element.
pub data MayFollow (t : Table) (before : List Child) : Field → Type 0 where
  as_column : (n : Text) (c : Column) → column_of (columns t) n ≡ Some c → outside_fault t before n ≡ None → MayFollow t before c.field
  as_kept : MayFollow t before fields.Kept
  as_dropped : MayFollow t before fields.Dropped

abbrev pub InOrder : Table → List Child → List Child → Type 0
InOrder t before [] = Unit {0}
InOrder t before (c ∷ cs) = MayFollow t before c.0 × InOrder t (before ++ c ∷ []) cs

push : (t : Table) (before cs : List Child) (c : Child) → InOrder t before cs → MayFollow t (before ++ cs) c.0 → InOrder t before (cs ++ c ∷ [])
push t before [] c a h = (subst (λ (b : List Child). MayFollow t b c.0) (append-nil before) h, tt)
push t before (d ∷ cs) c a h = (a.0, push t (before ++ d ∷ []) cs c a.1 (subst (λ (b : List Child). MayFollow t b c.0) (sym (append_assoc before (d ∷ []) cs)) h))

follows : (t : Table) (before : List Child) (n : Text) (c : Column) (f : Field) → outside_fault t before n ≡ None → IsColumn t before n c → f ≡ c.field → MayFollow t before f
follows t before n c f o i e = subst (MayFollow t before) (sym e) (as_column n c i.named o)

leaf_follows : (t : Table) (before : List Child) (n : Text) (g : List Attribute) (o : OpenField) → IsAdmitted t before n g (leaf_role o) → MayFollow t before o.field
leaf_follows t before n g o a = let r = leaf_says a in follows t before n r.column o.field a.outside r.is_column (ap (λ (p : OpenField). p.field) r.field_is)

raw_follows : (t : Table) (before : List Child) (n : Text) (g : List Attribute) (f : Field) → IsAdmitted t before n g (raw_role f) → MayFollow t before f
raw_follows t before n g f a = go (raw_says a)
  where
    go : RawRole t before n g f → MayFollow t before f
    go (raw_column c i s e) = follows t before n c f a.outside i e
    go (raw_message c i s e) = follows t before n c f a.outside i e
    go (raw_kept o e) = subst (MayFollow t before) (sym e) as_kept
    go (raw_dropped o e) = subst (MayFollow t before) (sym e) as_dropped

record_follows : (t : Table) (before : List Child) (n : Text) (g i : List Attribute) (f : Field) (u : Table) → IsAdmitted t before n g (record_role f u i) → MayFollow t before f
record_follows t before n g i f u a = go (record_says a)
  where
    go : RecordRole t before n g f u i → MayFollow t before f
    go (record_column c v j s e x y) = follows t before n c f a.outside j e
    go (record_message c j s e x y) = follows t before n c f a.outside j e

pub ordered : {t : Table} {taken : List Text} {before all : List Child} {r : List Token} → Content t taken before all r → InOrder t [] before → InOrder t [] all
ordered (ends h) b = b
ordered (white_space h d) b = ordered d b
ordered {t = t} {before = before} (field {n = n} {g = g} {o = o} {es = es} h e d) b = ordered d (push t [] before (o.field, es) b (leaf_follows t before n g o (leaf_is h)))
ordered {t = t} {before = before} (empty_leaf {n = n} {g = g} {o = o} {es = es} h e d) b = ordered d (push t [] before (o.field, es) b (leaf_follows t before n g o (leaf_is h)))
ordered {t = t} {taken = taken} {before = before} (empty_leaf_tag {n = n} {g = g} {o = o} {es = es} h e d) b = ordered d (push t [] before (o.field, es) b (leaf_follows t before n g o (empty_leaf_is taken h)))
ordered {t = t} {before = before} (raw_element {n = n} {tag = tag} {x = x} {g = g} {f = f} h e d) b = ordered d (push t [] before (f, raw_events f (tag ++ x)) b (raw_follows t before n g f (raw_is h)))
ordered {t = t} {taken = taken} {before = before} (raw_tag {n = n} {tag = tag} {g = g} {f = f} h d) b = ordered d (push t [] before (f, raw_events f tag) b (raw_follows t before n g f (empty_raw_is taken h)))
ordered {t = t} {before = before} (record_element {u = u} {inner = inner} {n = n} {g = g} {h = i} {f = f} h d e) b = ordered e (push t [] before (f, nested n i u inner) b (record_follows t before n g i f u (record_is h)))
ordered {t = t} {taken = taken} {before = before} (record_tag {u = u} {n = n} {g = g} {h = i} {f = f} h e d) b = ordered d (push t [] before (f, nested n i u []) b (record_follows t before n g i f u (empty_record_is taken h)))
