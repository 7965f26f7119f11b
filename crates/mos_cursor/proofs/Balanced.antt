-- In the events of a record each start has its end.
use Rattle.std.proofs.Common.{◌≡◌, ℕ, suc, Bool, true, false, cond, List, [], ◌∷◌, ◌++◌, Option, Some, None, refl, sym, ap, subst, ◌∙◌, append_assoc}
use Rattle.std.specs.Prelude.{◌&&◌}
use Rattle.std.specs.List.{AllByRecursion, flat_map}
use Rattle.mos_fields.specs.Characters.{Text}
use Rattle.mos_fields.specs.Fields.{same_field}
use Rattle.mos_fields.specs.Forms.{reads, is_white}
use Rattle.mos_fields.specs.declared.field.Field.{Field}
use Rattle.mos_fields.specs.declared.field.Field.TheVariants as fields
use Rattle.mos_tables.specs.declared.column.Column.{Column}
use Rattle.mos_tables.specs.declared.table.Table.{Table}
use Rattle.mos_tables.specs.Events.{Attribute, Event, leaf, raw, opens, closes}
use Rattle.mos_tables.specs.Tables.{columns, is_ack}
use Rattle.mos_grammar.specs.Tokens.{Token}
use Rattle.mos_grammar.specs.Records.{Child, found, column_events, arranged, flat, nested, raw_events, OpenField, field_events, leaf_event, Content, ends, white_space, field, empty_leaf, empty_leaf_tag, raw_element, raw_tag, record_element, record_tag}
use Rattle.mos_cursor.specs.Taking.{inner_of, behind_of}

-- Passing over the events changes nothing.
pub record IsBalanced (x : List Event) : Type 0 where
  pub inner : (d : ℕ) (r : List Event) → inner_of d (x ++ r) ≡ x ++ inner_of d r
  pub behind : (d : ℕ) (r : List Event) → behind_of d (x ++ r) ≡ behind_of d r

balanced_none : IsBalanced []
balanced_none = record { inner = λ d r. refl; behind = λ d r. refl }

balanced_both : (x y : List Event) → IsBalanced x → IsBalanced y → IsBalanced (x ++ y)
balanced_both x y a b = record {
  inner = λ d r. ap (inner_of d) (append_assoc x y r) ∙ a.inner d (y ++ r) ∙ ap (λ (z : List Event). x ++ z) (b.inner d r) ∙ sym (append_assoc x y (inner_of d r));
  behind = λ d r. ap (behind_of d) (append_assoc x y r) ∙ a.behind d (y ++ r) ∙ b.behind d r;
}

balanced_leaf : (n : Text) (g : List Attribute) (x : Text) → IsBalanced (leaf n g x ∷ [])
balanced_leaf n g x = record { inner = λ d r. refl; behind = λ d r. refl }

balanced_raw : (f : Field) (x : Text) → IsBalanced (raw f x ∷ [])
balanced_raw f x = record { inner = λ d r. refl; behind = λ d r. refl }

balanced_record : (n : Text) (g : List Attribute) (x : List Event) → IsBalanced x → IsBalanced (opens n g ∷ (x ++ closes n ∷ []))
balanced_record n g x a = record {
  inner = λ d r. ap (λ (z : List Event). opens n g ∷ z) (ap (inner_of (suc d)) (append_assoc x (closes n ∷ []) r) ∙ a.inner (suc d) (closes n ∷ r) ∙ sym (append_assoc x (closes n ∷ []) (inner_of d r)));
  behind = λ d r. ap (behind_of (suc d)) (append_assoc x (closes n ∷ []) r) ∙ a.behind (suc d) (closes n ∷ r);
}

-- ---- children

abbrev IsBalancedChild : Child → Type 0
IsBalancedChild c = IsBalanced c.1

push : (cs : List Child) (c : Child) → AllByRecursion IsBalancedChild cs → IsBalanced c.1 → AllByRecursion IsBalancedChild (cs ++ c ∷ [])
push [] c a h = (h, tt)
push (d ∷ cs) c a h = (a.0, push cs c a.1 h)

balanced_found : (f : Field) (cs : List Child) → AllByRecursion IsBalancedChild cs → IsBalanced (found f cs)
balanced_found f [] a = balanced_none
balanced_found f (c ∷ cs) a = go (same_field f c.0) (balanced_found f cs a.1)
  where
    go : (b : Bool) → IsBalanced (found f cs) → IsBalanced (cond b c.1 [] ++ found f cs)
    go true ih = balanced_both c.1 (found f cs) a.0 ih
    go false ih = ih

balanced_flat : (cs : List Child) → AllByRecursion IsBalancedChild cs → IsBalanced (flat cs)
balanced_flat [] a = balanced_none
balanced_flat (c ∷ cs) a = balanced_both c.1 (flat cs) a.0 (balanced_flat cs a.1)

balanced_columns : (all : List Child) (cs : List Column) → AllByRecursion IsBalancedChild all → IsBalanced (flat_map (λ (c : Column). column_events c.field all) cs)
balanced_columns all [] a = balanced_none
balanced_columns all (c ∷ cs) a = balanced_both (column_events c.field all) (flat_map (λ (c : Column). column_events c.field all) cs) (balanced_both (found c.field all) (cond (same_field c.field fields.Metadata) (found fields.Kept all) []) (balanced_found c.field all a) (go (same_field c.field fields.Metadata))) (balanced_columns all cs a)
  where
    go : (b : Bool) → IsBalanced (cond b (found fields.Kept all) [])
    go true = balanced_found fields.Kept all a
    go false = balanced_none

pub balanced_arranged : (t : Table) (all : List Child) → AllByRecursion IsBalancedChild all → IsBalanced (arranged t all)
unfolding arranged
balanced_arranged t all a = go (is_ack t)
  where
    go : (b : Bool) → IsBalanced (cond b (flat all) (flat_map (λ (c : Column). column_events c.field all) (columns t)))
    go true = balanced_flat all a
    go false = balanced_columns all (columns t) a

balanced_nested : (n : Text) (g : List Attribute) (u : Table) (inner : List Child) → AllByRecursion IsBalancedChild inner → IsBalanced (nested n g u inner)
unfolding nested
balanced_nested n g u inner a = balanced_record n g (arranged u inner) (balanced_arranged u inner a)

balanced_field : (n : Text) (o : OpenField) (taken : List Text) (x : Text) (es : List Event) → field_events n o taken x ≡ Some es → IsBalanced es
unfolding field_events
balanced_field n o taken x es h = go (o.may_lack && is_white x) (reads o.form taken x) h
  where
    go : (b : Bool) (r : Option Text) → cond b (Some []) (leaf_event n o r) ≡ Some es → IsBalanced es
    go true r h = let q : [] ≡ es = cc in subst IsBalanced q balanced_none
    go false None h = absurd cc
    go false (Some y) h = let q : leaf n o.given y ∷ [] ≡ es = cc in subst IsBalanced q (balanced_leaf n o.given y)

balanced_raws : (f : Field) (x : Text) → IsBalanced (raw_events f x)
balanced_raws f x = go (same_field f fields.Dropped)
  where
    go : (b : Bool) → IsBalanced (cond b [] (raw f x ∷ []))
    go true = balanced_none
    go false = balanced_raw f x

pub balanced_children : {t : Table} {taken : List Text} {before all : List Child} {r : List Token} → Content t taken before all r → AllByRecursion IsBalancedChild before → AllByRecursion IsBalancedChild all
balanced_children (ends h) a = a
balanced_children (white_space h d) a = balanced_children d a
balanced_children {taken = taken} {before = before} (field {n = n} {y = y} {o = o} {es = es} h e d) a = balanced_children d (push before (o.field, es) a (balanced_field n o taken y es e))
balanced_children {taken = taken} {before = before} (empty_leaf {n = n} {o = o} {es = es} h e d) a = balanced_children d (push before (o.field, es) a (balanced_field n o taken [] es e))
balanced_children {taken = taken} {before = before} (empty_leaf_tag {n = n} {o = o} {es = es} h e d) a = balanced_children d (push before (o.field, es) a (balanced_field n o taken [] es e))
balanced_children {before = before} (raw_element {tag = tag} {x = x} {f = f} h e d) a = balanced_children d (push before (f, raw_events f (tag ++ x)) a (balanced_raws f (tag ++ x)))
balanced_children {before = before} (raw_tag {tag = tag} {f = f} h d) a = balanced_children d (push before (f, raw_events f tag) a (balanced_raws f tag))
balanced_children {before = before} (record_element {u = u} {inner = inner} {n = n} {h = i} {f = f} h d e) a = balanced_children e (push before (f, nested n i u inner) a (balanced_nested n i u inner (balanced_children d tt)))
balanced_children {before = before} (record_tag {u = u} {n = n} {h = i} {f = f} h e d) a = balanced_children d (push before (f, nested n i u []) a (balanced_nested n i u [] tt))
