-- A tag that the machine takes goes on with a record, and one that goes on is taken.
use Rattle.std.specs.Prelude.{◌&&◌, not, cond, ◌⊎◌, ◌↔◌}
use Rattle.std.proofs.Common.{◌≡◌, ℕ, zero, suc, ◌+◌, ◌-◌, Bool, true, false, List, [], ◌∷◌, ◌++◌, None, refl, sym, ap, ◌∙◌, append_assoc, arith, inl, inr}
use Rattle.std.proofs.lemmas.List.{append-nil}
use Rattle.mos_fields.specs.declared.field.Field.{Field}
use Rattle.mos_tables.specs.declared.column.Column.{Column}
use Rattle.mos_tables.specs.declared.column.Often.{Often}
use Rattle.mos_tables.specs.declared.column.Often.TheVariants.{One, Optional, Any, Many, Count}
use Rattle.mos_tables.specs.declared.table.Table.{Table}
use Rattle.mos_tables.specs.declared.table.Table.TheVariants.{RoAck}
use Rattle.mos_tables.specs.Tables.{columns, is_ack, ack_columns, group_columns}
use Rattle.mos_grammar.specs.Records.{times, Child, seen_from, seen_of, is_full, before_column, any_seen, lacking, repeated, field_fault}
use Rattle.mos_grammar.proofs.Seen.{seen_push}
use Rattle.mos_grammar.proofs.Complete.{table_facts}
use Rattle.record_laws.specs.Words.{copies, Allows, IsFilled, IsBegun, fields_of}
use Rattle.record_laws.specs.Laws.{TagsAreByTable, EndsAreFilled, EndsAsk, SeenAreFields}
use Rattle.record_laws.specs.Rows.{SomeStands}
use Rattle.record_laws.proofs.RowLemmas.{no_both, some_is, is_some}
use Rattle.record_laws.proofs.Children.{or_else_parts}
use Rattle.record_laws.proofs.Filled.{May, Begins, tag_begins, begins_tag, nothing_lacks, filled_ends, front_begins}

-- ---- what was begun can be filled

copies_more : (k m : ℕ) (f : Field) (rest : List Field) → copies k f ++ (copies m f ++ rest) ≡ copies (k + m) f ++ rest
copies_more zero m f rest = ap (λ (i : ℕ). copies i f ++ rest) (go m)
  where
    go : (m : ℕ) → m ≡ 0 + m
    go m = omega arith
copies_more (suc k) m f rest = ap (λ (x : List Field). f ∷ x) (copies_more k m f rest) ∙ ap (λ (i : ℕ). copies i f ++ rest) (go k m)
  where
    go : (k m : ℕ) → suc (k + m) ≡ suc k + m
    go k m = omega arith

-- so many more are enough
more_of : (o : Often) (k : ℕ) → May o k → (m : ℕ) × Allows o (k + m)
more_of One k h = (1 - k, omega arith)
more_of Optional k h = (0, omega arith)
more_of Any k h = (0, tt)
more_of Many k h = (1, omega arith)
more_of (Count n) k h = (n - k, omega arith)

none_yet : (o : Often) → May o 0
none_yet One = omega arith
none_yet Optional = omega arith
none_yet Any = tt
none_yet Many = tt
none_yet (Count m) = omega arith

filling : (cs : List Column) → (fs : List Field) × IsFilled cs fs
filling [] = ([], refl)
filling (c ∷ cs) =
    let m = more_of c.often 0 (none_yet c.often) in
    let r = filling cs in
    (copies (0 + m.0) c.field ++ r.0, (0 + m.0, r.0, m.1, refl, r.1))

begun : (cs : List Column) (fs : List Field) → Begins cs fs → IsBegun cs fs
begun [] fs b = ([], append-nil fs ∙ b)
begun (c ∷ cs) fs (inl h) =
    let m = more_of c.often h.0 h.1 in
    let r = filling cs in
    (copies m.0 c.field ++ r.0, (h.0 + m.0, r.0, m.1, ap (λ (x : List Field). x ++ (copies m.0 c.field ++ r.0)) h.2 ∙ copies_more h.0 m.0 c.field r.0, r.1))
begun (c ∷ cs) fs (inr h) =
    let r = begun cs h.1 h.4 in
    (r.0, (h.0, h.1 ++ r.0, h.2, ap (λ (x : List Field). x ++ r.0) h.3 ∙ append_assoc (copies h.0 c.field) h.1 r.0, r.1))

begins : (cs : List Column) (fs : List Field) → IsBegun cs fs → Begins cs fs
begins cs fs b = front_begins cs fs b.0 b.1

-- ---- tags and ends

pub tags_by_table : TagsAreByTable
tags_by_table t seen n c is b = (there, back)
  where
    there : (field_fault (columns t) seen n ≡ None) × (is_full c.often (times c.field seen) ≡ false) → IsBegun (columns t) (seen ++ c.field ∷ [])
    there h =
        let p = or_else_parts (repeated (columns t) seen n) (lacking (before_column (columns t) n) seen) h.0 in
        begun (columns t) (seen ++ c.field ∷ []) (tag_begins (columns t) seen n c (table_facts t).0 is (begins (columns t) seen b) (p.0, p.1, h.1))

    back : IsBegun (columns t) (seen ++ c.field ∷ []) → (field_fault (columns t) seen n ≡ None) × (is_full c.often (times c.field seen) ≡ false)
    back h =
        let f = begins_tag (columns t) seen n c (table_facts t).0 is (begins (columns t) (seen ++ c.field ∷ []) h) in
        (rw (f.0, f.1) refl, f.2)

pub ends_filled : EndsAreFilled
ends_filled t seen b = (λ h. nothing_lacks (columns t) seen (table_facts t).0 (begins (columns t) seen b) h, λ h. filled_ends (columns t) seen (table_facts t).0 h)

-- ---- what stands so far

pub seen_fields : SeenAreFields
unfolding seen_of
seen_fields = ((λ t before e. from t [] before e), (λ before c. seen_push RoAck before c))
  where
    from : (t : Table) (seen : List Field) (cs : List Child) → is_ack t ≡ false → seen_from t seen cs ≡ seen ++ fields_of cs
    from t seen [] e = sym (append-nil seen)
    from t seen (c ∷ cs) e = ap (λ (x : List Field). seen_from t x cs) (rw e refl) ∙ from t (seen ++ c.0 ∷ []) cs e ∙ append_assoc seen (c.0 ∷ []) (fields_of cs)

-- ---- what an end tag asks for

pub ends_ask : EndsAsk
ends_ask t seen cs = go (is_ack t) (any_seen group_columns seen) refl refl
  where
    go : (a b : Bool) → is_ack t ≡ a → any_seen group_columns seen ≡ b
        → (cs ≡ cond (a && not b) ack_columns (columns t)) ↔ (((a ≡ true) × (SomeStands group_columns seen → ⊥) × (cs ≡ ack_columns)) ⊎ ((a ≡ true → SomeStands group_columns seen) × (cs ≡ columns t)))
    go true true p q = ((λ h. inr ((λ e. some_is group_columns seen q), h)), back)
      where
        back : ((true ≡ true) × (SomeStands group_columns seen → ⊥) × (cs ≡ ack_columns)) ⊎ ((true ≡ true → SomeStands group_columns seen) × (cs ≡ columns t)) → cs ≡ columns t
        back (inl h) = absurd (h.1 (some_is group_columns seen q))
        back (inr h) = h.1
    go true false p q = ((λ h. inl (refl, (λ s. no_both (any_seen group_columns seen) (is_some group_columns seen s) q), h)), back)
      where
        back : ((true ≡ true) × (SomeStands group_columns seen → ⊥) × (cs ≡ ack_columns)) ⊎ ((true ≡ true → SomeStands group_columns seen) × (cs ≡ columns t)) → cs ≡ ack_columns
        back (inl h) = h.2
        back (inr h) = absurd (no_both (any_seen group_columns seen) (is_some group_columns seen (h.0 refl)) q)
    go false b p q = ((λ h. inr ((λ e. absurd (no_both false e refl)), h)), back)
      where
        back : ((false ≡ true) × (SomeStands group_columns seen → ⊥) × (cs ≡ ack_columns)) ⊎ ((false ≡ true → SomeStands group_columns seen) × (cs ≡ columns t)) → cs ≡ columns t
        back (inl h) = absurd (no_both false h.0 refl)
        back (inr h) = h.1
