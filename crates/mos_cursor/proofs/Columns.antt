-- The columns of each table: no field stands twice, and none is `Kept` or `Dropped`.
use Rattle.std.proofs.Common.{◌≡◌, Bool, true, false, cond, List, [], ◌∷◌, Option, Some, None, refl, sym, ap, subst, eq-eqb}
use Rattle.std.specs.Prelude.{◌==◌}
use Rattle.std.specs.List.{AllByRecursion}
use Rattle.std.proofs.lemmas.Bool.{eqb-true}
use Rattle.mos_fields.specs.Characters.{Text}
use Rattle.mos_fields.specs.Fields.{number_of, same_field}
use Rattle.mos_fields.specs.declared.field.Field.{Field}
use Rattle.mos_fields.specs.declared.field.Field.TheVariants as fields
use Rattle.mos_fields.specs.declared.operation.Operation.TheVariants.{Insert, Replace, Move, Delete, Swap}
use Rattle.mos_tables.specs.declared.aim.Aim.TheVariants.{Nowhere, AtStory, AtItem}
use Rattle.mos_tables.specs.declared.column.Column.{Column}
use Rattle.mos_tables.specs.declared.column.Shape.{Shape}
use Rattle.mos_tables.specs.declared.column.Shape.TheVariants.{Record, Message}
use Rattle.mos_tables.specs.declared.column.Often.{Often}
use Rattle.mos_tables.specs.declared.column.Often.TheVariants.{Count}
use Rattle.mos_tables.specs.declared.table.Table.{Table}
use Rattle.mos_tables.specs.declared.table.Table.TheVariants as tables
use Rattle.mos_tables.specs.Tables.{columns}
use Rattle.mos_grammar.specs.Records.{is_named, column_of}

-- ---- the column of a field

abbrev pub has : List Column → Field → Bool
has [] f = false
has (c ∷ cs) f = cond (same_field c.field f) true (has cs f)

abbrev pub distinct : List Column → Bool
distinct [] = true
distinct (c ∷ cs) = cond (has cs c.field) false (distinct cs)

abbrev pub column_with : List Column → Field → Option Column
column_with [] f = None
column_with (c ∷ cs) f = cond (same_field c.field f) (Some c) (column_with cs f)

pub same_field-same : (f : Field) → same_field f f ≡ true
same_field-same f = eq-eqb (number_of f) (number_of f) refl

pub same_field-sym : (f g : Field) → same_field f g ≡ true → same_field g f ≡ true
same_field-sym f g h = eq-eqb (number_of g) (number_of f) (sym (eqb-true (number_of f) (number_of g) h))

pub same_field-other : (f g h : Field) → same_field f g ≡ true → same_field h f ≡ same_field h g
same_field-other f g h e = ap (λ k. number_of h == k) (eqb-true (number_of f) (number_of g) e)

pub same_field-first : (f g h : Field) → same_field f g ≡ true → same_field f h ≡ same_field g h
same_field-first f g h e = ap (λ k. k == number_of h) (eqb-true (number_of f) (number_of g) e)

false_sym : (f g : Field) → same_field f g ≡ false → same_field g f ≡ false
false_sym f g h = go (same_field g f) refl
  where
    go : (b : Bool) → same_field g f ≡ b → b ≡ false
    go true e = let p = same_field-sym g f e in cc
    go false e = refl

pub column_with-same : (cs : List Column) (f g : Field) → same_field f g ≡ true → column_with cs f ≡ column_with cs g
column_with-same [] f g e = refl
column_with-same (c ∷ cs) f g e = rw (same_field-other f g c.field e, column_with-same cs f g e) refl

-- each of these columns is that of its field among those
abbrev pub AllKnown : List Column → List Column → Type 0
AllKnown ks [] = Unit {0}
AllKnown ks (c ∷ cs) = (column_with ks c.field ≡ Some c) × AllKnown ks cs

known_more : (d : Column) (ks cs : List Column) → has cs d.field ≡ false → AllKnown ks cs → AllKnown (d ∷ ks) cs
known_more d ks [] h a = tt
known_more d ks (c ∷ cs) h a = go (same_field c.field d.field) refl h (λ e. known_more d ks cs e a.1)
  where
    go : (b : Bool) → same_field c.field d.field ≡ b → cond b true (has cs d.field) ≡ false → (has cs d.field ≡ false → AllKnown (d ∷ ks) cs) → AllKnown (d ∷ ks) (c ∷ cs)
    go true e h ih = absurd cc
    go false e h ih = (rw (false_sym c.field d.field e) a.0, ih h)

pub all_known : (cs : List Column) → distinct cs ≡ true → AllKnown cs cs
all_known [] h = tt
all_known (c ∷ cs) h = go (has cs c.field) refl h (λ e. all_known cs e)
  where
    go : (b : Bool) → has cs c.field ≡ b → cond b false (distinct cs) ≡ true → (distinct cs ≡ true → AllKnown cs cs) → AllKnown (c ∷ cs) (c ∷ cs)
    go true e h ih = absurd cc
    go false e h ih = (rw (same_field-same c.field) refl, known_more c cs cs e (ih h))

-- what holds of each column holds of that of a name
pub column_of-all : (P : Column → Type 0) (cs : List Column) (n : Text) (c : Column) → AllByRecursion P cs → column_of cs n ≡ Some c → P c
column_of-all P [] n c a h = absurd cc
column_of-all P (d ∷ cs) n c a h = go (is_named d n) h (λ e. column_of-all P cs n c a.1 e)
  where
    go : (b : Bool) → cond b (Some d) (column_of cs n) ≡ Some c → (column_of cs n ≡ Some c → P c) → P c
    go true h ih = let e : d ≡ c = cc in subst P e a.0
    go false h ih = ih h

known_of : (ks cs : List Column) (n : Text) (c : Column) → AllKnown ks cs → column_of cs n ≡ Some c → column_with ks c.field ≡ Some c
known_of ks [] n c a h = absurd cc
known_of ks (d ∷ cs) n c a h = go (is_named d n) h (λ e. known_of ks cs n c a.1 e)
  where
    go : (b : Bool) → cond b (Some d) (column_of cs n) ≡ Some c → (column_of cs n ≡ Some c → column_with ks c.field ≡ Some c) → column_with ks c.field ≡ Some c
    go true h ih = let e : d ≡ c = cc in subst (λ (x : Column). column_with ks x.field ≡ Some x) e a.0
    go false h ih = ih h

pub column_of-named : (cs : List Column) (n : Text) (c : Column) → column_of cs n ≡ Some c → is_named c n ≡ true
column_of-named [] n c h = absurd cc
column_of-named (d ∷ cs) n c h = go (is_named d n) refl h (λ e. column_of-named cs n c e)
  where
    go : (b : Bool) → is_named d n ≡ b → cond b (Some d) (column_of cs n) ≡ Some c → (column_of cs n ≡ Some c → is_named c n ≡ true) → is_named c n ≡ true
    go true e h ih = let q : d ≡ c = cc in subst (λ (x : Column). is_named x n ≡ true) q e
    go false e h ih = ih h

-- ---- the tables

pub distinct_columns : (t : Table) → distinct (columns t) ≡ true
distinct_columns tables.Envelope = refl
distinct_columns tables.Body = refl
distinct_columns tables.HeaderPatch = refl
distinct_columns tables.Story = refl
distinct_columns tables.Item = refl
distinct_columns tables.MosObj = refl
distinct_columns tables.Heartbeat = refl
distinct_columns tables.NoFields = refl
distinct_columns tables.ListMachInfo = refl
distinct_columns tables.SupportedProfiles = refl
distinct_columns tables.MosAck = refl
distinct_columns tables.MosReqObj = refl
distinct_columns tables.MosReqAll = refl
distinct_columns tables.MosListAll = refl
distinct_columns tables.OneOrder = refl
distinct_columns tables.RoListAll = refl
distinct_columns tables.ElementStat = refl
distinct_columns (tables.Action o) = refl
distinct_columns (tables.Target o) = refl
distinct_columns (tables.Source o a) = refl
distinct_columns tables.ReadyToAir = refl
distinct_columns tables.RoAck = refl
distinct_columns tables.StorySend = refl

pub known_column : (t : Table) (n : Text) (c : Column) → column_of (columns t) n ≡ Some c → column_with (columns t) c.field ≡ Some c
known_column t n c h = known_of (columns t) (columns t) n c (all_known (columns t) (distinct_columns t)) h

-- no record of an action stands in a record
abbrev pub NoAction : Shape → Type 0
NoAction (Record (tables.Action o)) = ⊥
NoAction s = Unit {0}

abbrev pub IsInner : Column → Type 0
IsInner c = NoAction c.shape

-- a message's element stands once
abbrev pub MessageOnce : Shape → Often → Type 0
MessageOnce Message (Count k) = k ≡ 1
MessageOnce Message o = ⊥
MessageOnce s o = Unit {0}

abbrev pub IsOnce : Column → Type 0
IsOnce c = MessageOnce c.shape c.often

-- No column is that of other elements, none holds an action, and a message's element stands once.
pub record TableFacts (cs : List Column) : Type 0 where
  pub no_kept : column_with cs fields.Kept ≡ None
  pub no_dropped : column_with cs fields.Dropped ≡ None
  pub inner : AllByRecursion IsInner cs
  pub once : AllByRecursion IsOnce cs

pub table_facts : (t : Table) → TableFacts (columns t)
table_facts tables.Envelope = record { no_kept = refl; no_dropped = refl; inner = (tt, (tt, (tt, (tt, tt)))); once = (tt, (tt, (tt, (refl, tt)))) }
table_facts tables.Body = record { no_kept = refl; no_dropped = refl; inner = (tt, (tt, (tt, (tt, (tt, (tt, (tt, (tt, (tt, (tt, tt)))))))))); once = (tt, (tt, (tt, (tt, (tt, (tt, (tt, (tt, (tt, (tt, tt)))))))))) }
table_facts tables.HeaderPatch = record { no_kept = refl; no_dropped = refl; inner = (tt, (tt, (tt, (tt, (tt, (tt, (tt, (tt, (tt, tt))))))))); once = (tt, (tt, (tt, (tt, (tt, (tt, (tt, (tt, (tt, tt))))))))) }
table_facts tables.Story = record { no_kept = refl; no_dropped = refl; inner = (tt, (tt, (tt, (tt, (tt, tt))))); once = (tt, (tt, (tt, (tt, (tt, tt))))) }
table_facts tables.Item = record { no_kept = refl; no_dropped = refl; inner = (tt, (tt, (tt, (tt, (tt, (tt, (tt, (tt, (tt, (tt, (tt, (tt, (tt, (tt, tt)))))))))))))); once = (tt, (tt, (tt, (tt, (tt, (tt, (tt, (tt, (tt, (tt, (tt, (tt, (tt, (tt, tt)))))))))))))) }
table_facts tables.MosObj = record { no_kept = refl; no_dropped = refl; inner = (tt, (tt, (tt, (tt, (tt, (tt, (tt, (tt, (tt, (tt, (tt, (tt, (tt, (tt, (tt, (tt, (tt, tt))))))))))))))))); once = (tt, (tt, (tt, (tt, (tt, (tt, (tt, (tt, (tt, (tt, (tt, (tt, (tt, (tt, (tt, (tt, (tt, tt))))))))))))))))) }
table_facts tables.Heartbeat = record { no_kept = refl; no_dropped = refl; inner = (tt, tt); once = (tt, tt) }
table_facts tables.NoFields = record { no_kept = refl; no_dropped = refl; inner = tt; once = tt }
table_facts tables.ListMachInfo = record { no_kept = refl; no_dropped = refl; inner = (tt, (tt, (tt, (tt, (tt, (tt, (tt, (tt, (tt, (tt, (tt, (tt, (tt, tt))))))))))))); once = (tt, (tt, (tt, (tt, (tt, (tt, (tt, (tt, (tt, (tt, (tt, (tt, (tt, tt))))))))))))) }
table_facts tables.SupportedProfiles = record { no_kept = refl; no_dropped = refl; inner = (tt, tt); once = (tt, tt) }
table_facts tables.MosAck = record { no_kept = refl; no_dropped = refl; inner = (tt, (tt, (tt, (tt, tt)))); once = (tt, (tt, (tt, (tt, tt)))) }
table_facts tables.MosReqObj = record { no_kept = refl; no_dropped = refl; inner = (tt, tt); once = (tt, tt) }
table_facts tables.MosReqAll = record { no_kept = refl; no_dropped = refl; inner = (tt, tt); once = (tt, tt) }
table_facts tables.MosListAll = record { no_kept = refl; no_dropped = refl; inner = (tt, tt); once = (tt, tt) }
table_facts tables.OneOrder = record { no_kept = refl; no_dropped = refl; inner = (tt, tt); once = (tt, tt) }
table_facts tables.RoListAll = record { no_kept = refl; no_dropped = refl; inner = (tt, tt); once = (tt, tt) }
table_facts tables.ElementStat = record { no_kept = refl; no_dropped = refl; inner = (tt, (tt, (tt, (tt, (tt, (tt, (tt, tt))))))); once = (tt, (tt, (tt, (tt, (tt, (tt, (tt, tt))))))) }
table_facts tables.ReadyToAir = record { no_kept = refl; no_dropped = refl; inner = (tt, (tt, tt)); once = (tt, (tt, tt)) }
table_facts tables.RoAck = record { no_kept = refl; no_dropped = refl; inner = (tt, (tt, (tt, (tt, (tt, (tt, (tt, tt))))))); once = (tt, (tt, (tt, (tt, (tt, (tt, (tt, tt))))))) }
table_facts tables.StorySend = record { no_kept = refl; no_dropped = refl; inner = (tt, (tt, (tt, (tt, (tt, (tt, tt)))))); once = (tt, (tt, (tt, (tt, (tt, (tt, tt)))))) }
table_facts (tables.Action o) = record { no_kept = refl; no_dropped = refl; inner = (tt, (tt, (tt, tt))); once = (tt, (tt, (tt, tt))) }
table_facts (tables.Target o) = record { no_kept = refl; no_dropped = refl; inner = (tt, (tt, tt)); once = (tt, (tt, tt)) }
table_facts (tables.Source Insert Nowhere) = record { no_kept = refl; no_dropped = refl; inner = (tt, tt); once = (tt, tt) }
table_facts (tables.Source Insert AtStory) = record { no_kept = refl; no_dropped = refl; inner = (tt, tt); once = (tt, tt) }
table_facts (tables.Source Insert AtItem) = record { no_kept = refl; no_dropped = refl; inner = (tt, tt); once = (tt, tt) }
table_facts (tables.Source Replace Nowhere) = record { no_kept = refl; no_dropped = refl; inner = (tt, tt); once = (tt, tt) }
table_facts (tables.Source Replace AtStory) = record { no_kept = refl; no_dropped = refl; inner = (tt, tt); once = (tt, tt) }
table_facts (tables.Source Replace AtItem) = record { no_kept = refl; no_dropped = refl; inner = (tt, tt); once = (tt, tt) }
table_facts (tables.Source Move Nowhere) = record { no_kept = refl; no_dropped = refl; inner = (tt, tt); once = (tt, tt) }
table_facts (tables.Source Move AtStory) = record { no_kept = refl; no_dropped = refl; inner = (tt, tt); once = (tt, tt) }
table_facts (tables.Source Move AtItem) = record { no_kept = refl; no_dropped = refl; inner = (tt, tt); once = (tt, tt) }
table_facts (tables.Source Delete Nowhere) = record { no_kept = refl; no_dropped = refl; inner = (tt, tt); once = (tt, tt) }
table_facts (tables.Source Delete AtStory) = record { no_kept = refl; no_dropped = refl; inner = (tt, tt); once = (tt, tt) }
table_facts (tables.Source Delete AtItem) = record { no_kept = refl; no_dropped = refl; inner = (tt, tt); once = (tt, tt) }
table_facts (tables.Source Swap Nowhere) = record { no_kept = refl; no_dropped = refl; inner = (tt, tt); once = (tt, tt) }
table_facts (tables.Source Swap AtStory) = record { no_kept = refl; no_dropped = refl; inner = (tt, tt); once = (tt, tt) }
table_facts (tables.Source Swap AtItem) = record { no_kept = refl; no_dropped = refl; inner = (tt, tt); once = (tt, tt) }
