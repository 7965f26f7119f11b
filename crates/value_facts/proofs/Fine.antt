-- Events whose texts fit their fields and are allowed, one part after another.
use Rattle.std.proofs.Common.{◌≡◌, List, [], ◌∷◌, ◌++◌, Option, Some, None, sym, subst, append_assoc}
use Rattle.std.specs.List.{AllByRecursion, flat_map}
use Rattle.mos_fields.specs.Characters.{Text}
use Rattle.mos_fields.specs.Fields.{name_of}
use Rattle.mos_fields.specs.declared.field.Field.{Field}
use Rattle.mos_fields.specs.declared.form.Form.{Form}
use Rattle.mos_fields.specs.declared.form.Form.TheVariants as forms
use Rattle.mos_tables.specs.declared.column.Column.{Column}
use Rattle.mos_tables.specs.declared.column.Often.{Often}
use Rattle.mos_tables.specs.declared.column.Shape.TheVariants.{Leaf}
use Rattle.mos_tables.specs.declared.table.Table.{Table}
use Rattle.mos_tables.specs.Events.{Attribute, Event, leaf, closes}
use Rattle.mos_tables.specs.Tables.{column}
use Rattle.mos_grammar.specs.Records.{column_of}
use Rattle.mos_values.specs.Parts.{must, maybe, maybe_as, must_raw, maybe_raw, raws, joined, element_with}
use Rattle.encoding_laws.specs.Allowed.{HasAllowedTexts}
use Rattle.encoding_laws.specs.Fitting.{inside_columns, TextFits, table_inside, TextsFit}
use Rattle.encoding_laws.proofs.LevelTexts.{Level, level_none, level_leaf, level_raw, level_record, level_both, splits, level_element}
use Rattle.value_facts.specs.FitValues.{IsText, IsTextIfAny, IsWrittenIfAny, AreTexts}

pub texts_joined : {x : List Event} → Level x → (t : Table) (ts : List Table) (y : List Event) → TextsFit (t ∷ ts) x → TextsFit (t ∷ ts) y → TextsFit (t ∷ ts) (x ++ y)
texts_joined level_none t ts y h k = k
texts_joined (level_leaf n g x a) t ts y h k = (h.0, texts_joined a t ts y h.1 k)
texts_joined (level_raw f x a) t ts y h k = texts_joined a t ts y h k
texts_joined (level_record n g inner es a c) t ts y h k =
    let u : Table = table_inside t n g in
    let r = splits a u (t ∷ ts) (closes n ∷ es) h in
    subst (TextsFit (u ∷ (t ∷ ts))) (sym (append_assoc inner (closes n ∷ es) y)) (texts_joined a u (t ∷ ts) (closes n ∷ (es ++ y)) r.0 (texts_joined c t ts y r.1 k))

pub allowed_joined : (x y : List Event) → HasAllowedTexts x → HasAllowedTexts y → HasAllowedTexts (x ++ y)
allowed_joined [] y h k = k
allowed_joined (e ∷ x) y h k = (h.0, allowed_joined x y h.1 k)

-- The records among the events end there. In a record with this table, whatever stands round it, each text is canonical.
pub record Fine (t : Table) (es : List Event) : Type 0 where
  pub level : Level es
  pub texts : (ts : List Table) → TextsFit (t ∷ ts) es
  pub allowed : HasAllowedTexts es

pub none_fine : (t : Table) → Fine t []
none_fine t = record { level = level_none; texts = λ ts. tt; allowed = tt }

pub both_fine : (t : Table) (x y : List Event) → Fine t x → Fine t y → Fine t (x ++ y)
both_fine t x y f g = record { level = level_both y f.level g.level; texts = λ ts. texts_joined f.level t ts y (f.texts ts) (g.texts ts); allowed = allowed_joined x y f.allowed g.allowed }

pub joined_fine : (t : Table) (ess : List (List Event)) → AllByRecursion (Fine t) ess → Fine t (joined ess)
joined_fine t [] h = none_fine t
joined_fine t (es ∷ ess) h = both_fine t es (joined ess) h.0 (joined_fine t ess h.1)

pub element_fine : (t : Table) (n : Text) (g : List Attribute) (es : List Event) → Fine (table_inside t n g) es → Fine t (element_with n g es)
element_fine t n g es f = record {
  level = level_element n g es f.level;
  texts = λ ts. texts_joined f.level (table_inside t n g) (t ∷ ts) (closes n ∷ []) (f.texts (t ∷ ts)) tt;
  allowed = (tt, allowed_joined es (closes n ∷ []) f.allowed (tt, tt));
}

pub listed_fine : {A : Type 0} (t : Table) (P : A → Type 0) (events : A → List Event) (xs : List A) → ((x : A) → P x → Fine t (events x)) → AllByRecursion P xs → Fine t (flat_map events xs)
listed_fine t P events [] f h = none_fine t
listed_fine t P events (x ∷ xs) f h = both_fine t (events x) (flat_map events xs) (f x h.0) (listed_fine t P events xs f h.1)

-- ---- the parts of records

-- the column of a field with a text, in a record with this table
abbrev pub HasColumn : Table → Field → Form → Often → Type 0
HasColumn t f form o = column_of (inside_columns t) (name_of f) ≡ Some (column f (Leaf form) o)

pub leaf_fine : (t : Table) (f : Field) (g : List Attribute) (form : Form) (o : Often) (x : Text) → HasColumn t f form o → IsText form x → Fine t (leaf (name_of f) g x ∷ [])
leaf_fine t f g form o x i h = record { level = level_leaf (name_of f) g x level_none; texts = λ ts. (subst (λ (z : Option Column). TextFits z x) (sym i) h.0, tt); allowed = (h.1, tt) }

pub must_fine : (t : Table) (f : Field) (form : Form) (o : Often) (x : Text) → HasColumn t f form o → IsText form x → Fine t (must f x)
unfolding must
must_fine t f form o x i h = leaf_fine t f [] form o x i h

pub maybe_fine : (t : Table) (f : Field) (form : Form) (o : Often) (x : Option Text) → HasColumn t f form o → IsTextIfAny form x → Fine t (maybe f x)
unfolding maybe
maybe_fine t f form o None i h = none_fine t
maybe_fine t f form o (Some x) i h = must_fine t f form o x i h

pub written_fine : {A : Type 0} (write : A → Text) (t : Table) (f : Field) (form : Form) (o : Often) (x : Option A) → HasColumn t f form o → IsWrittenIfAny write form x → Fine t (maybe_as write f x)
unfolding maybe_as
written_fine write t f form o None i h = none_fine t
written_fine write t f form o (Some x) i h = must_fine t f form o (write x) i h

pub raw_fine : (t : Table) (f : Field) (x : Text) → IsText forms.Text x → Fine t (must_raw f x)
unfolding must_raw
raw_fine t f x h = record { level = level_raw f x level_none; texts = λ ts. tt; allowed = (h.1, tt) }

pub maybe_raw_fine : (t : Table) (f : Field) (x : Option Text) → IsTextIfAny forms.Text x → Fine t (maybe_raw f x)
unfolding maybe_raw
maybe_raw_fine t f None h = none_fine t
maybe_raw_fine t f (Some x) h = raw_fine t f x h

pub raws_fine : (t : Table) (f : Field) (xs : List Text) → AreTexts forms.Text xs → Fine t (raws f xs)
unfolding raws
raws_fine t f [] h = none_fine t
raws_fine t f (x ∷ xs) h = let r = raws_fine t f xs h.1 in record { level = level_raw f x r.level; texts = r.texts; allowed = (h.0.1, r.allowed) }
