-- Counts of the fields seen, child after child.
use Rattle.std.proofs.Common.{◌≡◌, ◌≤◌, ◌<◌, ◌+◌, ℕ, Bool, true, false, cond, ◌&&◌, List, [], ◌∷◌, ◌++◌, length, refl, ap, ◌∙◌, arith}
use Rattle.std.specs.Prelude.{nat_lt}
use Rattle.std.proofs.lemmas.Bool.{lt-ltb}
use Rattle.std.proofs.lemmas.List.{length-append}
use Rattle.mos_fields.specs.Fields.{same_field}
use Rattle.mos_fields.specs.declared.field.Field.{Field}
use Rattle.mos_fields.specs.declared.field.Field.TheVariants as fields
use Rattle.mos_tables.specs.Tables.{columns, is_ack}
use Rattle.mos_tables.specs.declared.column.Column.{Column}
use Rattle.mos_tables.specs.declared.table.Table.{Table}
use Rattle.mos_tables.specs.declared.table.Table.TheVariants.{NoFields}
use Rattle.mos_grammar.specs.Records.{Child, seen_of, seen_from, seen_behind, times}
use Rattle.mos_grammar.proofs.Seen.{seen_push}
use Rattle.mos_columns.specs.Counts.{counts_of, may_grow}

pub none_seen : (t : Table) → counts_of (columns t) [] ≡ counts_of (columns t) (seen_of t [])
unfolding seen_of
none_seen t = refl

pub one_more_seen : (t : Table) (cs : List Child) (c : Child) → counts_of (columns t) (seen_of t (cs ++ c ∷ [])) ≡ counts_of (columns t) (seen_behind t (seen_of t cs) c.0)
one_more_seen t cs c = ap (counts_of (columns t)) (seen_push t cs c)

pub blank_seen : (cs : List Child) → [] ≡ counts_of (columns NoFields) (seen_of NoFields cs)
blank_seen cs = refl

-- ---- a record with so few children has room in each count

times_within : (f : Field) (gs : List Field) → times f gs ≤ length gs
times_within f [] = omega arith
times_within f (g ∷ gs) = go (same_field f g) (times_within f gs)
  where
    go : (b : Bool) → times f gs ≤ length gs → cond b (times f gs + 1) (times f gs) ≤ length (g ∷ gs)
    go true h = omega arith
    go false h = omega arith

behind_within : (t : Table) (seen : List Field) (f : Field) (m : ℕ) → 2 ≤ m → length seen ≤ m → length (seen_behind t seen f) ≤ m + 1
behind_within t seen f m k h = go (is_ack t && same_field f fields.Status)
  where
    go : (b : Bool) → length (cond b (fields.RoID ∷ fields.RoStatus ∷ []) (seen ++ f ∷ [])) ≤ m + 1
    go true = omega arith
    go false = let e = length-append seen (f ∷ []) in omega arith

seen_within : (t : Table) (seen : List Field) (cs : List Child) (m : ℕ) → 2 ≤ m → length seen ≤ m → length (seen_from t seen cs) ≤ m + length cs
seen_within t seen [] m k h = omega arith
seen_within t seen (c ∷ cs) m k h =
    let p : length (seen_from t (seen_behind t seen c.0) cs) ≤ (m + 1) + length cs = seen_within t (seen_behind t seen c.0) cs (m + 1) (omega arith) (behind_within t seen c.0 m k h) in
    omega arith

counts_grow : (columns : List Column) (seen : List Field) → length seen < 18446744073709551615 → may_grow (counts_of columns seen) ≡ true
counts_grow [] seen h = refl
counts_grow (c ∷ cs) seen h =
    let p = times_within c.field seen in
    let q : nat_lt (times c.field seen) 18446744073709551615 ≡ true = lt-ltb (times c.field seen) 18446744073709551615 (omega arith) in
    rw (q, counts_grow cs seen h) refl

pub few_grow : (t : Table) (ks : List ℕ) (cs : List Child) → ks ≡ counts_of (columns t) (seen_of t cs) → length cs < 18446744073709551613 → may_grow ks ≡ true
unfolding seen_of
few_grow t ks cs e h =
    let p = seen_within t [] cs 2 (omega arith) (omega arith) in
    ap may_grow e ∙ counts_grow (columns t) (seen_of t cs) (omega arith)
