-- Fields seen, and columns of a table by their places.
use Rattle.std.proofs.Common.{◌≡◌, ℕ, ◌+◌, ◌≤◌, Bool, true, false, cond, eq-eqb, List, [], ◌∷◌, ◌++◌, Option, Some, None, refl, subst, ◌∙◌, append_assoc, arith}
use Rattle.std.specs.Prelude.{◌&&◌, nat_lt, codes}
use Rattle.std.proofs.lemmas.List.{append-nil}
use Rattle.std.proofs.lemmas.Bool.{ltb-true, lt-ltb, lt-leb}
use Rattle.mos_fields.specs.declared.field.Field.{Field}
use Rattle.mos_tables.specs.declared.column.Column.{Column}
use Rattle.mos_tables.specs.declared.column.Shape.{Shape}
use Rattle.mos_tables.specs.declared.column.Shape.TheVariants.{Leaf, Raw, Record, Message}
use Rattle.mos_tables.specs.declared.column.Often.{Often}
use Rattle.mos_tables.specs.declared.column.Often.TheVariants.{One, Optional, Any, Many, Count}
use Rattle.mos_tables.specs.declared.table.Table.{Table}
use Rattle.mos_fields.specs.Characters.{Text}
use Rattle.mos_fields.specs.Fields.{name_of, number_of, same_field}
use Rattle.mos_grammar.specs.Records.{times, Child, seen_behind, seen_from, seen_of, least_count, is_single, is_full, is_named, column_of, before_column, any_seen, lacks, lack_of, lacking, repeated}
use Rattle.mos_grammar.proofs.Sound.{same-refl}

-- ---- tests

pub or_false : (a b : Bool) → cond a true b ≡ false → (a ≡ false) × (b ≡ false)
or_false true b h = absurd cc
or_false false b h = (refl, h)

pub no_true : (a b : Bool) → cond a false b ≡ true → (a ≡ false) × (b ≡ true)
no_true true b h = absurd cc
no_true false b h = (refl, h)

pub cond_true : (a b : Bool) → cond a b false ≡ true → (a ≡ true) × (b ≡ true)
cond_true true b h = (refl, h)
cond_true false b h = absurd cc

pub not_true : (b : Bool) → (b ≡ true → ⊥) → b ≡ false
not_true false f = refl
not_true true f = absurd (f refl)

-- ---- how often a field was seen

four_ways : (b d : Bool) (k : ℕ) → cond b (cond d (k + 1) k + 1) (cond d (k + 1) k) ≡ cond d (cond b (k + 1) k + 1) (cond b (k + 1) k)
four_ways true true k = refl
four_ways true false k = refl
four_ways false true k = refl
four_ways false false k = refl

pub times_push : (f g : Field) (seen : List Field) → times f (seen ++ g ∷ []) ≡ cond (same_field f g) (times f seen + 1) (times f seen)
times_push f g [] = refl
times_push f g (m ∷ seen) = rw (times_push f g seen) (four_ways (same_field f m) (same_field f g) (times f seen))

pub times_more : (f g : Field) (seen : List Field) → times f seen ≤ times f (seen ++ g ∷ [])
times_more f g seen = rw (times_push f g seen) (go (same_field f g))
  where
    go : (b : Bool) → times f seen ≤ cond b (times f seen + 1) (times f seen)
    go true = omega arith
    go false = omega arith

pub times_last : (f : Field) (seen : List Field) → times f (seen ++ f ∷ []) ≡ times f seen + 1
times_last f seen = times_push f f seen ∙ rw (eq-eqb (number_of f) (number_of f) refl) refl

pub times_other : (f g : Field) (seen : List Field) → same_field f g ≡ false → times f (seen ++ g ∷ []) ≡ times f seen
times_other f g seen h = times_push f g seen ∙ rw h refl

pub lacks_fewer : (c : Column) (g : Field) (seen : List Field) → lacks c (seen ++ g ∷ []) ≡ true → lacks c seen ≡ true
lacks_fewer c g seen h = lt-ltb (times c.field seen) (least_count c.often) (omega (arith, times_more c.field g seen, ltb-true (times c.field (seen ++ g ∷ [])) (least_count c.often) h))

pub lacks_more : (c : Column) (g : Field) (seen : List Field) → lacks c seen ≡ false → lacks c (seen ++ g ∷ []) ≡ false
lacks_more c g seen h = not_true (lacks c (seen ++ g ∷ [])) (λ e. (let p = lacks_fewer c g seen e in cc))

-- a field that lacks is no second one, and the record isn't full of it
pub lacks_single : (o : Often) (k : ℕ) → nat_lt k (least_count o) ≡ true → (is_single o && nat_lt 0 k) ≡ false
lacks_single One k h = not_true (nat_lt 0 k) (λ e. absurd (omega (arith, ltb-true k 1 h, ltb-true 0 k e)))
lacks_single Optional k h = absurd (omega (arith, ltb-true k 0 h))
lacks_single Any k h = refl
lacks_single Many k h = refl
lacks_single (Count m) k h = refl

pub lacks_room : (o : Often) (k : ℕ) → nat_lt k (least_count o) ≡ true → is_full o k ≡ false
lacks_room One k h = refl
lacks_room Optional k h = refl
lacks_room Any k h = refl
lacks_room Many k h = refl
lacks_room (Count m) k h = lt-leb m k (ltb-true k m h)

-- ---- columns with fields apart

abbrev pub has : List Column → Field → Bool
has [] f = false
has (c ∷ cs) f = cond (same_field c.field f) true (has cs f)

abbrev pub distinct : List Column → Bool
distinct [] = true
distinct (c ∷ cs) = cond (has cs c.field) false (distinct cs)

pub any_seen_other : (cs : List Column) (seen : List Field) (f : Field) → any_seen cs seen ≡ false → has cs f ≡ false → any_seen cs (seen ++ f ∷ []) ≡ false
any_seen_other [] seen f h d = refl
any_seen_other (c ∷ cs) seen f h d =
    let p = or_false (nat_lt 0 (times c.field seen)) (any_seen cs seen) h in
    let q = or_false (same_field c.field f) (has cs f) d in
    rw (times_other c.field f seen q.0, p.0) (any_seen_other cs seen f p.1 q.1)

-- no field was seen while an earlier required one lacked
abbrev pub Viable : List Column → List Field → Type 0
Viable [] seen = Unit {0}
Viable (c ∷ cs) seen = (lacks c seen ≡ true → any_seen cs seen ≡ false) × Viable cs seen

pub viable_other : (cs : List Column) (seen : List Field) (f : Field) → Viable cs seen → has cs f ≡ false → Viable cs (seen ++ f ∷ [])
viable_other [] seen f h d = tt
viable_other (c ∷ cs) seen f h d =
    let q = or_false (same_field c.field f) (has cs f) d in
    (λ m. any_seen_other cs seen f (h.0 (lacks_fewer c f seen m)) q.1, viable_other cs seen f h.1 q.1)

-- one more of the first column's field
pub viable_same : (c : Column) (cs : List Column) (seen : List Field) → has cs c.field ≡ false → Viable (c ∷ cs) seen → Viable (c ∷ cs) (seen ++ c.field ∷ [])
viable_same c cs seen d h = (λ m. any_seen_other cs seen c.field (h.0 (lacks_fewer c c.field seen m)) d, viable_other cs seen c.field h.1 d)

pub not_lacking : (c : Column) (cs : List Column) (seen : List Field) → lacking (c ∷ cs) seen ≡ None → (lacks c seen ≡ false) × (lacking cs seen ≡ None)
not_lacking c cs seen h = go (lacks c seen) h
  where
    go : (b : Bool) → cond b (Some (lack_of c.field)) (lacking cs seen) ≡ None → (b ≡ false) × (lacking cs seen ≡ None)
    go true h = absurd cc
    go false h = (refl, h)

some_is : (c d : Column) → ◌≡◌ {A = Option Column} (Some c) (Some d) → c ≡ d
some_is c d e = cc

pub viable_tag : (cs : List Column) (seen : List Field) (n : Text) (d : Column) → distinct cs ≡ true → column_of cs n ≡ Some d → lacking (before_column cs n) seen ≡ None → Viable cs seen → Viable cs (seen ++ d.field ∷ [])
viable_tag [] seen n d u is l h = tt
viable_tag (c ∷ cs) seen n d u is l h = go (λ e w. viable_tag cs seen n d (no_true (has cs c.field) (distinct cs) u).1 e w h.1) (is_named c n) is l
  where
    go : (column_of cs n ≡ Some d → lacking (before_column cs n) seen ≡ None → Viable cs (seen ++ d.field ∷ [])) → (b : Bool) → cond b (Some c) (column_of cs n) ≡ Some d
        → lacking (cond b [] (c ∷ before_column cs n)) seen ≡ None → Viable (c ∷ cs) (seen ++ d.field ∷ [])
    go ih true e l = subst (λ (x : Column). Viable (c ∷ cs) (seen ++ x.field ∷ [])) (some_is c d e) (viable_same c cs seen (no_true (has cs c.field) (distinct cs) u).0 h)
    go ih false e l =
        let p = not_lacking c (before_column cs n) seen l in
        (λ m. (let q = lacks_fewer c d.field seen m in absurd (clash (lacks c seen) q p.0)), ih e p.1)
      where
        clash : (b : Bool) → b ≡ true → b ≡ false → ⊥
        clash true p q = cc
        clash false p q = cc

-- ---- the column behind others

-- one of these columns takes elements of this name
abbrev pub answers : List Column → Text → Bool
answers [] n = false
answers (c ∷ cs) n = cond (is_named c n) true (answers cs n)

-- a name of an element that a column takes
abbrev pub name_for : Field → Shape → Text
name_for f (Leaf x) = name_of f
name_for f Raw = name_of f
name_for f (Record t) = name_of f
name_for f Message = codes "reqMachInfo"

abbrev pub sample_name : Column → Text
sample_name c = name_for c.field c.shape

pub sample_named : (c : Column) → is_named c (sample_name c) ≡ true
sample_named c = go c.field c.shape c.often
  where
    go : (f : Field) (s : Shape) (o : Often) → is_named (record { field = f; shape = s; often = o }) (name_for f s) ≡ true
    go f (Leaf x) o = same-refl (name_of f)
    go f Raw o = same-refl (name_of f)
    go f (Record t) o = same-refl (name_of f)
    go f Message o = refl

-- each column's name is that of no column before it
abbrev pub apart_from : List Column → List Column → Bool
apart_from ps [] = true
apart_from ps (c ∷ cs) = cond (answers ps (sample_name c)) false (apart_from (ps ++ c ∷ []) cs)

apart_behind : (qs ps : List Column) (c : Column) (cs : List Column) → apart_from qs (ps ++ c ∷ cs) ≡ true → answers (qs ++ ps) (sample_name c) ≡ false
apart_behind qs [] c cs h = rw (append-nil qs) (no_true (answers qs (sample_name c)) (apart_from (qs ++ c ∷ []) cs) h).0
apart_behind qs (p ∷ ps) c cs h =
    let q = no_true (answers qs (sample_name p)) (apart_from (qs ++ p ∷ []) (ps ++ c ∷ cs)) h in
    rw (← append_assoc qs (p ∷ []) ps) (apart_behind (qs ++ p ∷ []) ps c cs q.1)

pub name_apart : (ps : List Column) (c : Column) (cs : List Column) → apart_from [] (ps ++ c ∷ cs) ≡ true → answers ps (sample_name c) ≡ false
name_apart ps c cs h = apart_behind [] ps c cs h

pub later_apart : (ps : List Column) (c : Column) (cs : List Column) → distinct (ps ++ c ∷ cs) ≡ true → has cs c.field ≡ false
later_apart [] c cs u = (no_true (has cs c.field) (distinct cs) u).0
later_apart (p ∷ ps) c cs u = later_apart ps c cs (no_true (has (ps ++ c ∷ cs) p.field) (distinct (ps ++ c ∷ cs)) u).1

pub column_at : (ps : List Column) (c : Column) (cs : List Column) (n : Text) → answers ps n ≡ false → is_named c n ≡ true → column_of (ps ++ c ∷ cs) n ≡ Some c
column_at [] c cs n h w = rw w refl
column_at (p ∷ ps) c cs n h w =
    let q = or_false (is_named p n) (answers ps n) h in
    rw q.0 (column_at ps c cs n q.1 w)

pub columns_before : (ps : List Column) (c : Column) (cs : List Column) (n : Text) → answers ps n ≡ false → is_named c n ≡ true → before_column (ps ++ c ∷ cs) n ≡ ps
columns_before [] c cs n h w = rw w refl
columns_before (p ∷ ps) c cs n h w =
    let q = or_false (is_named p n) (answers ps n) h in
    rw (q.0, columns_before ps c cs n q.1 w) refl

pub repeated_at : (ps : List Column) (c : Column) (cs : List Column) (seen : List Field) (n : Text) → answers ps n ≡ false → is_named c n ≡ true
    → (is_single c.often && nat_lt 0 (times c.field seen)) ≡ false → any_seen cs seen ≡ false → repeated (ps ++ c ∷ cs) seen n ≡ None
repeated_at [] c cs seen n h w m a = rw (w, m, a) refl
repeated_at (p ∷ ps) c cs seen n h w m a =
    let q = or_false (is_named p n) (answers ps n) h in
    rw q.0 (repeated_at ps c cs seen n q.1 w m a)

pub lacking_more : (ps : List Column) (seen : List Field) (f : Field) → lacking ps seen ≡ None → lacking ps (seen ++ f ∷ []) ≡ None
lacking_more [] seen f h = refl
lacking_more (p ∷ ps) seen f h =
    let q = not_lacking p ps seen h in
    rw (lacks_more p f seen q.0) (lacking_more ps seen f q.1)

pub lacking_last : (ps : List Column) (c : Column) (seen : List Field) → lacking ps seen ≡ None → lacks c seen ≡ false → lacking (ps ++ c ∷ []) seen ≡ None
lacking_last [] c seen h w = rw w refl
lacking_last (p ∷ ps) c seen h w =
    let q = not_lacking p ps seen h in
    rw q.0 (lacking_last ps c seen q.1 w)

pub lacking_front : (ps qs : List Column) (seen : List Field) → lacking (ps ++ qs) seen ≡ None → lacking ps seen ≡ None
lacking_front [] qs seen h = refl
lacking_front (p ∷ ps) qs seen h =
    let q = not_lacking p (ps ++ qs) seen h in
    rw q.0 (lacking_front ps qs seen q.1)

-- ---- one more child

pub seen_push : (t : Table) (cs : List Child) (c : Child) → seen_of t (cs ++ c ∷ []) ≡ seen_behind t (seen_of t cs) c.0
unfolding seen_of
seen_push t cs c = from t [] cs c
  where
    from : (t : Table) (seen : List Field) (cs : List Child) (c : Child) → seen_from t seen (cs ++ c ∷ []) ≡ seen_behind t (seen_from t seen cs) c.0
    from t seen [] c = refl
    from t seen (d ∷ cs) c = from t (seen_behind t seen d.0) cs c
