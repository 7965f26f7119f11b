-- One more child: that the machine takes it, and that it goes on with a record.
use Rattle.std.proofs.Common.{◌≡◌, ℕ, zero, suc, ◌+◌, Bool, true, false, cond, List, [], ◌∷◌, ◌++◌, Option, Some, None, refl, sym, ap, subst, ◌∙◌, append_assoc, arith, ◌⊎◌, inl, inr}
use Rattle.std.specs.Prelude.{◌&&◌, not, nat_lt}
use Rattle.std.proofs.lemmas.List.{append-nil}
use Rattle.std.proofs.lemmas.Bool.Decides.{nat_tests}
use Rattle.mos_fields.specs.declared.field.Field.{Field}
use Rattle.mos_fields.specs.declared.field.Field.TheVariants as fields
use Rattle.mos_fields.specs.Characters.{Text}
use Rattle.mos_fields.specs.Fields.{same_field}
use Rattle.mos_tables.specs.declared.column.Column.{Column}
use Rattle.mos_tables.specs.declared.table.Table.{Table}
use Rattle.mos_tables.specs.declared.table.Table.TheVariants.{RoAck}
use Rattle.mos_tables.specs.Events.{Event}
use Rattle.mos_tables.specs.Tables.{columns, is_ack, ack_columns, group_columns}
use Rattle.mos_grammar.specs.declared.fault.Fault.{Fault}
use Rattle.mos_grammar.specs.Records.{times, Child, seen_of, is_full, column_of, before_column, any_seen, lacking, repeated, or_else, field_fault, end_fault}
use Rattle.mos_grammar.proofs.Seen.{times_other}
use Rattle.mos_grammar.proofs.Complete.{table_facts}
use Rattle.record_laws.specs.Words.{copies, IsFilled, AreGroups, IsAck, FillsAs, is_other, own_fields, fields_of, Fills}
use Rattle.record_laws.proofs.Filled.{same_turned, column_other, Agree, any_agree, lacking_agree, before_agree, repeated_agree, Begins, begins_nothing, Fitting, tag_begins, begins_tag, nothing_lacks, filled_ends, front_begins, begins_more}
use Rattle.record_laws.proofs.Following.{times_own_fields, status_column, own_more, own_same, seen_own, seen_other, status_is, last_filled, last_ends, lacks_last, ack_is, two_fill, two_begin, BehindGroups, group_ends, one_more, ack_whole, front_only, before_status, table_agree, column_own, fields_push}

pub or_else_parts : (a b : Option Fault) → or_else a b ≡ None → (a ≡ None) × (b ≡ None)
or_else_parts (Some f) b h = absurd cc
or_else_parts None b h = (refl, h)

-- ---- what the machine asks of a tag, of the fields that are the table's own

-- the machine finds nothing wrong with a tag of this column; other elements may stand anywhere
abbrev pub MayStand : Table → List Child → Text → Option Column → Type 0
MayStand t before n None = Unit {0}
MayStand t before n (Some c) = (field_fault (columns t) (seen_of t before) n ≡ None) × (is_full c.often (times c.field (seen_of t before)) ≡ false)

-- the field of an element: that of its column, or of other elements
abbrev pub IsFieldOf : Option Column → Field → Type 0
IsFieldOf None p = is_other p ≡ true
IsFieldOf (Some c) p = p ≡ c.field

abbrev pub own_seen : Table → List Child → List Field
own_seen t before = own_fields (seen_of t before)

stands_fits : (t : Table) (before : List Child) (n : Text) (c : Column) → column_of (columns t) n ≡ Some c → MayStand t before n (Some c) → Fitting (columns t) (own_seen t before) n c
stands_fits t before n c is h =
    let a = table_agree t (seen_of t before) in
    let p = or_else_parts (repeated (columns t) (seen_of t before) n) (lacking (before_column (columns t) n) (seen_of t before)) h.0 in
    let o : times c.field (seen_of t before) ≡ times c.field (own_seen t before) = own_times t before n c is in
    (sym (repeated_agree (columns t) (seen_of t before) (own_seen t before) n a) ∙ p.0, sym (before_agree (columns t) (seen_of t before) (own_seen t before) n a) ∙ p.1, rw o at h.1)
  where
    own_times : (t : Table) (before : List Child) (n : Text) (c : Column) → column_of (columns t) n ≡ Some c → times c.field (seen_of t before) ≡ times c.field (own_seen t before)
    own_times t before n c is =
        times_own_fields c.field (seen_of t before) (column_other (columns t) n c fields.Kept is (table_facts t).3)
        (column_other (columns t) n c fields.Dropped is (table_facts t).4)

fits_stands : (t : Table) (before : List Child) (n : Text) (c : Column) → column_of (columns t) n ≡ Some c → Fitting (columns t) (own_seen t before) n c → MayStand t before n (Some c)
fits_stands t before n c is h =
    let a = table_agree t (seen_of t before) in
    let r : repeated (columns t) (seen_of t before) n ≡ None = repeated_agree (columns t) (seen_of t before) (own_seen t before) n a ∙ h.0 in
    let l : lacking (before_column (columns t) n) (seen_of t before) ≡ None = before_agree (columns t) (seen_of t before) (own_seen t before) n a ∙ h.1 in
    let o : times c.field (seen_of t before) ≡ times c.field (own_seen t before) =
    times_own_fields c.field (seen_of t before) (column_other (columns t) n c fields.Kept is (table_facts t).3)
    (column_other (columns t) n c fields.Dropped is (table_facts t).4) in
    (rw r l, rw o h.2)

-- ---- what stood so far

abbrev pub StoodAs : Bool → List Column → List Field → List Field → Type 0
StoodAs false cs fs seen = (fs ≡ seen) × Begins cs seen
StoodAs true cs fs seen = BehindGroups fs seen × Begins (columns RoAck) seen

abbrev pub Stood : Table → List Child → Type 0
Stood t before = StoodAs (is_ack t) (columns t) (own_fields (fields_of before)) (own_seen t before)

ack_table : (t : Table) → is_ack t ≡ true → t ≡ RoAck
ack_table RoAck h = refl
ack_table t h = absurd cc

-- by whether the table is that of roAck
abbrev pub ByAck : Table → (Bool → Type 0) → Type 0
ByAck t P = ((is_ack t ≡ false) → P false) × ((t ≡ RoAck) → (is_ack t ≡ true) → P true)

by_ack : (t : Table) (P : Bool → Type 0) → ByAck t P → P (is_ack t)
by_ack t P h = go (is_ack t) refl
  where
    go : (b : Bool) → is_ack t ≡ b → P b
    go false e = h.0 e
    go true e = h.1 (ack_table t e) e

pub stood_start : (t : Table) → Stood t []
unfolding seen_of
stood_start t = by_ack t (λ b. StoodAs b (columns t) [] []) ((λ e. (refl, begins_nothing (columns t))), (λ e f. (inl refl, begins_nothing (columns RoAck))))

-- the own fields, one more
abbrev pub seen_next : Bool → List Field → Field → List Field
seen_next a seen f = cond (a && same_field f fields.Status) (fields.RoID ∷ fields.RoStatus ∷ []) (seen ++ f ∷ [])

ack_step : (fs seen : List Field) (n : Text) (d : Column) → column_of (columns RoAck) n ≡ Some d → BehindGroups fs seen → Begins (columns RoAck) seen → Fitting (columns RoAck) seen n d
    → (b : Bool) → same_field d.field fields.Status ≡ b → StoodAs true [] (fs ++ d.field ∷ []) (cond b (fields.RoID ∷ fields.RoStatus ∷ []) (seen ++ d.field ∷ []))
ack_step fs seen n d is behind b fit false e = (one_more fs seen d.field behind, tag_begins (columns RoAck) seen n d refl is b fit)
ack_step fs seen n d is behind b fit true e =
    let s : d ≡ status_column = status_is n d is e in
    let next : Begins (columns RoAck) (seen ++ d.field ∷ []) = tag_begins (columns RoAck) seen n d refl is b fit in
    let f : d.field ≡ fields.Status = ap (λ (c : Column). c.field) s in
    let filled : IsFilled (columns RoAck) (seen ++ fields.Status ∷ []) = last_filled before_status seen refl (subst (λ (x : Field). Begins (columns RoAck) (seen ++ x ∷ [])) f next) in
    let g = group_ends (fs ++ d.field ∷ []) (seen ++ d.field ∷ []) (one_more fs seen d.field behind) (subst (λ (x : Field). IsFilled (columns RoAck) (seen ++ x ∷ [])) (sym f) filled) in
    (inr (g.0, g.1, [], g.2, g.3 ∙ ap (λ (x : List Field). fields.RoID ∷ fields.RoStatus ∷ x) (sym (append-nil g.1)), refl), two_begin)

step_as : (a : Bool) (t : Table) (fs seen : List Field) (n : Text) (d : Column) → ((a ≡ true) → t ≡ RoAck) → column_of (columns t) n ≡ Some d → StoodAs a (columns t) fs seen → Fitting (columns t) seen n d
    → StoodAs a (columns t) (fs ++ d.field ∷ []) (seen_next a seen d.field)
step_as false t fs seen n d w is h fit = (ap (λ (x : List Field). x ++ d.field ∷ []) h.0, tag_begins (columns t) seen n d (table_facts t).0 is h.1 fit)
step_as true t fs seen n d w is h fit =
    let e = w refl in
    ack_step fs seen n d (subst (λ (u : Table). column_of (columns u) n ≡ Some d) e is) h.0 h.1 (subst (λ (u : Table). Fitting (columns u) seen n d) e fit) (same_field d.field fields.Status) refl

stood_own : (t : Table) (before : List Child) (n : Text) (d : Column) (es : List Event) → column_of (columns t) n ≡ Some d → Stood t before → MayStand t before n (Some d) → Stood t (before ++ (d.field, es) ∷ [])
stood_own t before n d es is h m =
    let o = column_own t n d is in
    let f : own_fields (fields_of (before ++ (d.field, es) ∷ [])) ≡ own_fields (fields_of before) ++ d.field ∷ [] = ap own_fields (fields_push before (d.field, es)) ∙ own_more (fields_of before) d.field o in
    rw (f, seen_own t before d.field es o) (step_as (is_ack t) t (own_fields (fields_of before)) (own_seen t before) n d (ack_table t) is h (stands_fits t before n d is m))

stood_other : (t : Table) (before : List Child) (p : Field) (es : List Event) → is_other p ≡ true → Stood t before → Stood t (before ++ (p, es) ∷ [])
stood_other t before p es o h =
    let f : own_fields (fields_of (before ++ (p, es) ∷ [])) ≡ own_fields (fields_of before) = ap own_fields (fields_push before (p, es)) ∙ own_same (fields_of before) p o in
    rw (f, seen_other t before p es o) h

-- One more child that the machine takes.
pub stood_step : (t : Table) (before : List Child) (n : Text) (x : Option Column) (p : Field) (es : List Event) → column_of (columns t) n ≡ x → IsFieldOf x p → MayStand t before n x → Stood t before → Stood t (before ++ (p, es) ∷ [])
stood_step t before n None p es is f m h = stood_other t before p es f h
stood_step t before n (Some d) p es is f m h = subst (λ (x : Field). Stood t (before ++ (x, es) ∷ [])) (sym f) (stood_own t before n d es is h m)

-- At an end that the machine takes, the record is filled.
ack_end : (fs seen : List Field) → BehindGroups fs seen → Begins (columns RoAck) seen → (b : Bool) → any_seen group_columns seen ≡ b → lacking (cond (not b) ack_columns (columns RoAck)) seen ≡ None → IsAck fs
ack_end fs seen behind b true e l =
    let g = group_ends fs seen behind (nothing_lacks (columns RoAck) seen refl b l) in
    ack_whole fs g.0 g.1 g.2 g.3
ack_end fs seen behind b false e l =
    let w : seen ≡ fields.RoID ∷ fields.RoStatus ∷ [] = ack_is seen (nothing_lacks ack_columns seen refl (front_only ack_columns group_columns seen refl b e) l) in
    go w behind
  where
    go : seen ≡ fields.RoID ∷ fields.RoStatus ∷ [] → BehindGroups fs seen → IsAck fs
    go w (inl e) = ack_whole fs 0 [] refl (e ∙ w)
    go w (inr h) =
        let p : h.2 ≡ [] = (let x = h.5 in cc) in
        ack_whole fs h.0 h.1 h.3 (h.4 ∙ ap (λ (x : List Field). fields.RoID ∷ fields.RoStatus ∷ (h.1 ++ x)) p ∙ ap (λ (x : List Field). fields.RoID ∷ fields.RoStatus ∷ x) (append-nil h.1))

end_as : (a : Bool) (t : Table) (fs seen : List Field) → ((a ≡ true) → t ≡ RoAck) → StoodAs a (columns t) fs seen → lacking (cond (a && not (any_seen group_columns seen)) ack_columns (columns t)) seen ≡ None → FillsAs a (columns t) fs
end_as false t fs seen w h l = rw h.0 (nothing_lacks (columns t) seen (table_facts t).0 h.1 l)
end_as true t fs seen w h l = ack_end fs seen h.0 h.1 (any_seen group_columns seen) refl (subst (λ (u : Table). lacking (cond (not (any_seen group_columns seen)) ack_columns (columns u)) seen ≡ None) (w refl) l)

-- what the end tag asks of the fields seen is asked of the own ones
wanted_as : (a : Bool) (t : Table) (seen own : List Field) → ((a ≡ true) → t ≡ RoAck) → Agree (columns t) seen own
    → lacking (cond (a && not (any_seen group_columns seen)) ack_columns (columns t)) seen ≡ lacking (cond (a && not (any_seen group_columns own)) ack_columns (columns t)) own
wanted_as false t seen own w a = lacking_agree (columns t) seen own a
wanted_as true t seen own w a =
    let b : Agree (columns RoAck) seen own = subst (λ (u : Table). Agree (columns u) seen own) (w refl) a in
    let e : any_seen group_columns seen ≡ any_seen group_columns own = any_agree group_columns seen own (b.1).1 in
    rw e (go (any_seen group_columns own) b)
  where
    go : (x : Bool) → Agree (columns RoAck) seen own → lacking (cond (not x) ack_columns (columns t)) seen ≡ lacking (cond (not x) ack_columns (columns t)) own
    go true b = lacking_agree (columns t) seen own a
    go false b = lacking_agree ack_columns seen own (b.0, (b.1.0, tt))

pub stood_end : (t : Table) (before : List Child) → Stood t before → end_fault t before ≡ None → Fills t (fields_of before)
unfolding end_fault
stood_end t before h l =
    end_as (is_ack t) t (own_fields (fields_of before)) (own_seen t before) (ack_table t) h
    (sym (wanted_as (is_ack t) t (seen_of t before) (own_seen t before) (ack_table t) (table_agree t (seen_of t before))) ∙ l)

-- ---- what is still to come

-- with what is still to come of its fields, or of a group
abbrev pub WholeAck : List Field → Type 0
WholeAck fs = IsFilled ack_columns fs ⊎ IsFilled (columns RoAck) fs

abbrev pub DueAck : List Field → List Field → Type 0
DueAck seen rest = (times fields.Status seen ≡ 0) × ((k : ℕ) × (now : List Field) × (later : List Field) × AreGroups k later × (rest ≡ now ++ later) × WholeAck (seen ++ now))

abbrev pub DueAs : Bool → List Column → List Field → List Field → Type 0
DueAs false cs seen rest = IsFilled cs (seen ++ rest)
DueAs true cs seen rest = DueAck seen rest

abbrev pub Due : Table → List Child → List Child → Type 0
Due t before later = DueAs (is_ack t) (columns t) (own_seen t before) (own_fields (fields_of later))

due_start_as : (a : Bool) (cs : List Column) (fs : List Field) → FillsAs a cs fs → DueAs a cs [] fs
due_start_as false cs fs h = h
due_start_as true cs fs h = (refl, (h.0, h.1, h.2, h.4, h.5, inl h.3))

pub due_start : (t : Table) (all : List Child) → Fills t (fields_of all) → Due t [] all
unfolding seen_of
due_start t all h = due_start_as (is_ack t) (columns t) (own_fields (fields_of all)) h

some_status : (seen : List Field) → IsFilled (columns RoAck) seen → times fields.Status seen ≡ 0 → ⊥
some_status seen h z =
    let l = lacks_last before_status status_column seen (filled_ends (columns RoAck) seen refl h) in
    absurd (zero_lacks (times fields.Status seen) l z)
  where
    zero_lacks : (k : ℕ) → nat_lt k 1 ≡ false → k ≡ 0 → ⊥
    zero_lacks k l z = grind (arith, nat_tests, l)

filled_append : (cs ds : List Column) (xs ys : List Field) → IsFilled cs xs → IsFilled ds ys → IsFilled (cs ++ ds) (xs ++ ys)
filled_append [] ds xs ys h w = rw h w
filled_append (c ∷ cs) ds xs ys h w = (h.0, h.1 ++ ys, h.2, rw h.3 (append_assoc (copies h.0 c.field) h.1 ys), filled_append cs ds h.1 ys h.4 w)

some_more : (seen now : List Field) → times fields.Status (seen ++ fields.Status ∷ now) ≡ 0 → ⊥
some_more [] now z = absurd (omega arith)
some_more (x ∷ seen) now z = go (λ e. some_more seen now e) (same_field fields.Status x) z
  where
    go : (times fields.Status (seen ++ fields.Status ∷ now) ≡ 0 → ⊥) → (b : Bool) → cond b (times fields.Status (seen ++ fields.Status ∷ now) + 1) (times fields.Status (seen ++ fields.Status ∷ now)) ≡ 0 → ⊥
    go ih true z = absurd (omega arith)
    go ih false z = ih z

-- one more of what is now
ack_now : (seen : List Field) (n : Text) (d : Column) (now : List Field) (k : ℕ) (later rest : List Field) → column_of (columns RoAck) n ≡ Some d → times fields.Status seen ≡ 0 → AreGroups k later → rest ≡ now ++ later
    → WholeAck (seen ++ d.field ∷ now) → Begins (columns RoAck) (seen ++ d.field ∷ []) × ((b : Bool) → same_field d.field fields.Status ≡ b → DueAck (cond b (fields.RoID ∷ fields.RoStatus ∷ []) (seen ++ d.field ∷ [])) rest)
ack_now seen n d now k later rest is z g e h = (front h, next)
  where
    front : WholeAck (seen ++ d.field ∷ now) → Begins (columns RoAck) (seen ++ d.field ∷ [])
    front (inl w) = begins_more ack_columns group_columns (seen ++ d.field ∷ []) (front_begins ack_columns (seen ++ d.field ∷ []) now (rw (append_assoc seen (d.field ∷ []) now) w))
    front (inr w) = front_begins (columns RoAck) (seen ++ d.field ∷ []) now (rw (append_assoc seen (d.field ∷ []) now) w)

    turned : same_field d.field fields.Status ≡ false → same_field fields.Status d.field ≡ false
    turned s = same_turned d.field fields.Status s

    status : d.field ≡ fields.Status → WholeAck (seen ++ d.field ∷ now) → now ≡ []
    status f (inl w) =
        let a : seen ++ fields.Status ∷ now ≡ fields.RoID ∷ fields.RoStatus ∷ [] = ack_is (seen ++ fields.Status ∷ now) (subst (λ (x : Field). IsFilled ack_columns (seen ++ x ∷ now)) f w) in
        absurd (some_more seen now (ap (times fields.Status) a))
    status f (inr w) = last_ends before_status seen now refl (subst (λ (x : Field). IsFilled (columns RoAck) (seen ++ x ∷ now)) f w)

    again : WholeAck (seen ++ d.field ∷ now) → WholeAck ((seen ++ d.field ∷ []) ++ now)
    again w = rw (append_assoc seen (d.field ∷ []) now) w

    next : (b : Bool) → same_field d.field fields.Status ≡ b → DueAck (cond b (fields.RoID ∷ fields.RoStatus ∷ []) (seen ++ d.field ∷ [])) rest
    next false s = (times_other fields.Status d.field seen (turned s) ∙ z, (k, now, later, g, e, again h))
    next true s =
        let f : d.field ≡ fields.Status = ap (λ (c : Column). c.field) (status_is n d is s) in
        (refl, (k, [], later, g, e ∙ ap (λ (x : List Field). x ++ later) (status f h), inl two_fill))

abbrev AckStep : List Field → Column → List Field → Type 0
AckStep seen d rest = Begins (columns RoAck) (seen ++ d.field ∷ []) × ((b : Bool) → same_field d.field fields.Status ≡ b → DueAck (cond b (fields.RoID ∷ fields.RoStatus ∷ []) (seen ++ d.field ∷ [])) rest)

ack_due : (seen : List Field) (n : Text) (d : Column) (rest : List Field) → column_of (columns RoAck) n ≡ Some d → DueAck seen (d.field ∷ rest)
    → AckStep seen d rest
ack_due seen n d rest is h = go h.1.1 h.1.0 h.1.2 h.1.3 h.1.4 h.1.5
  where
    with_first : (f : Field) (now : List Field) (k : ℕ) (later : List Field) → AreGroups k later → d.field ∷ rest ≡ (f ∷ now) ++ later → WholeAck (seen ++ f ∷ now) → AckStep seen d rest
    with_first f now k later g e w =
        let a : d.field ≡ f = cc in
        let b : rest ≡ now ++ later = cc in
        ack_now seen n d now k later rest is h.0 g b (subst (λ (x : Field). WholeAck (seen ++ x ∷ now)) (sym a) w)

    nothing : ◌≡◌ {A = List Field} (d.field ∷ rest) [] → ⊥
    nothing e = cc

    no_group : IsFilled group_columns [] → ⊥
    no_group w = (let e : [] ≡ fields.StoryID ∷ w.1 = w.3 ∙ ap (λ (k : ℕ). copies k fields.StoryID ++ w.1) w.2 in cc)

    in_group : (group : List Field) (k : ℕ) (later : List Field) → IsFilled ack_columns seen → IsFilled group_columns group → AreGroups k later → d.field ∷ rest ≡ group ++ later → AckStep seen d rest
    in_group [] k later a w g e = absurd (no_group w)
    in_group (f ∷ group) k later a w g e = with_first f group k later g e (inr (filled_append ack_columns group_columns seen (f ∷ group) a w))

    between : (k : ℕ) (later : List Field) → AreGroups k later → d.field ∷ rest ≡ later → WholeAck seen → AckStep seen d rest
    between k later g e (inr w) = absurd (some_status seen w h.0)
    between zero later g e (inl w) = absurd (nothing (e ∙ g))
    between (suc k) later g e (inl w) = in_group g.0 k g.1 w g.2 g.4 (e ∙ g.3)

    go : (now : List Field) (k : ℕ) (later : List Field) → AreGroups k later → d.field ∷ rest ≡ now ++ later → WholeAck (seen ++ now) → AckStep seen d rest
    go [] k later g e w = between k later g e (subst WholeAck (append-nil seen) w)
    go (f ∷ now) k later g e w = with_first f now k later g e w

due_as : (a : Bool) (t : Table) (seen : List Field) (n : Text) (d : Column) (rest : List Field) → ((a ≡ true) → t ≡ RoAck) → column_of (columns t) n ≡ Some d → DueAs a (columns t) seen (d.field ∷ rest)
    → Fitting (columns t) seen n d × DueAs a (columns t) (seen_next a seen d.field) rest
due_as false t seen n d rest w is h =
    let more : IsFilled (columns t) ((seen ++ d.field ∷ []) ++ rest) = rw (append_assoc seen (d.field ∷ []) rest) h in
    (begins_tag (columns t) seen n d (table_facts t).0 is (front_begins (columns t) (seen ++ d.field ∷ []) rest more), more)
due_as true t seen n d rest w is h =
    let e = w refl in
    let i : column_of (columns RoAck) n ≡ Some d = subst (λ (u : Table). column_of (columns u) n ≡ Some d) e is in
    let r = ack_due seen n d rest i h in
    (subst (λ (u : Table). Fitting (columns u) seen n d) (sym e) (begins_tag (columns RoAck) seen n d refl i r.0), r.1 (same_field d.field fields.Status) refl)

-- One more child that is due: the machine takes it, and the others are due behind it.
pub due_step : (t : Table) (before : List Child) (n : Text) (x : Option Column) (p : Field) (es : List Event) (later : List Child) → column_of (columns t) n ≡ x → IsFieldOf x p → Due t before ((p, es) ∷ later)
    → MayStand t before n x × Due t (before ++ (p, es) ∷ []) later
due_step t before n None p es later is f h = (tt, rw (seen_other t before p es f) (go (is_other p) f h))
  where
    go : (b : Bool) → b ≡ true → DueAs (is_ack t) (columns t) (own_seen t before) (cond b (own_fields (fields_of later)) (p ∷ own_fields (fields_of later))) → DueAs (is_ack t) (columns t) (own_seen t before) (own_fields (fields_of later))
    go true e h = h
    go false e h = absurd cc
due_step t before n (Some d) p es later is f h =
    let o = column_own t n d is in
    let w : DueAs (is_ack t) (columns t) (own_seen t before) (d.field ∷ own_fields (fields_of later)) = go (is_other d.field) o (subst (λ (x : Field). Due t before ((x, es) ∷ later)) f h) in
    let r = due_as (is_ack t) t (own_seen t before) n d (own_fields (fields_of later)) (ack_table t) is w in
    (fits_stands t before n d is r.0, subst (λ (x : Field). Due t (before ++ (x, es) ∷ []) later) (sym f) (rw (seen_own t before d.field es o) r.1))
  where
    go : (b : Bool) → b ≡ false → DueAs (is_ack t) (columns t) (own_seen t before) (cond b (own_fields (fields_of later)) (d.field ∷ own_fields (fields_of later))) → DueAs (is_ack t) (columns t) (own_seen t before) (d.field ∷ own_fields (fields_of later))
    go true e h = absurd cc
    go false e h = h

-- Where nothing is due any more, the machine takes the end.
due_end_as : (a : Bool) (t : Table) (seen : List Field) → ((a ≡ true) → t ≡ RoAck) → DueAs a (columns t) seen [] → lacking (cond (a && not (any_seen group_columns seen)) ack_columns (columns t)) seen ≡ None
due_end_as false t seen w h = filled_ends (columns t) seen (table_facts t).0 (subst (IsFilled (columns t)) (append-nil seen) h)
due_end_as true t seen w h = whole (subst WholeAck (ap (λ (x : List Field). seen ++ x) (no_now h.1.1 h.1.2 h.1.4) ∙ append-nil seen) h.1.5)
  where
    no_now : (now later : List Field) → [] ≡ now ++ later → now ≡ []
    no_now [] later e = refl
    no_now (x ∷ now) later e = absurd cc

    whole : WholeAck seen → lacking (cond (not (any_seen group_columns seen)) ack_columns (columns t)) seen ≡ None
    whole (inr i) = absurd (some_status seen i h.0)
    whole (inl i) = rw (ack_is seen i) refl

pub due_end : (t : Table) (before : List Child) → Due t before [] → end_fault t before ≡ None
unfolding end_fault
due_end t before h =
    wanted_as (is_ack t) t (seen_of t before) (own_seen t before) (ack_table t) (table_agree t (seen_of t before))
    ∙ due_end_as (is_ack t) t (own_seen t before) (ack_table t) h
