-- From child to child: what stood so far is the beginning of a record, and what is still to come fills it up.
use Rattle.std.proofs.Common.{◌≡◌, ℕ, zero, suc, ◌<◌, ◌≤◌, Bool, true, false, cond, eq-eqb, List, [], ◌∷◌, ◌++◌, Some, None, refl, sym, ap, subst, ◌∙◌, append_assoc, arith, ◌⊎◌, inl, inr}
use Rattle.std.specs.Prelude.{◌&&◌, ◌||◌}
use Rattle.std.proofs.lemmas.List.{append-nil}
use Rattle.std.proofs.lemmas.Bool.{eqb-true}
use Rattle.mos_fields.specs.declared.field.Field.{Field}
use Rattle.mos_fields.specs.declared.field.Field.TheVariants as fields
use Rattle.mos_fields.specs.declared.form.Form.TheVariants as forms
use Rattle.mos_fields.specs.Characters.{Text}
use Rattle.mos_fields.specs.Fields.{number_of, same_field}
use Rattle.mos_tables.specs.declared.column.Column.{Column}
use Rattle.mos_tables.specs.declared.table.Table.{Table}
use Rattle.mos_tables.specs.declared.table.Table.TheVariants.{RoAck}
use Rattle.mos_tables.specs.Events.{Event}
use Rattle.mos_tables.specs.Tables.{columns, is_ack, ack_columns, group_columns, required, optional}
use Rattle.mos_grammar.specs.Records.{times, Child, seen_behind, seen_of, is_named, column_of, any_seen, lacks, lacking}
use Rattle.mos_grammar.proofs.Seen.{or_false, no_true, not_true, has, distinct, not_lacking, seen_push}
use Rattle.mos_grammar.proofs.Complete.{table_facts}
use Rattle.record_laws.specs.Words.{copies, IsFilled, AreGroups, IsAck, is_other, own_fields, fields_of}
use Rattle.record_laws.proofs.Filled.{same_self, some_column, split, Agree, any_agree, shift_agree, column_other, Begins, front_begins, begins_more, nothing_begun}

pub clash : (b : Bool) → b ≡ true → b ≡ false → ⊥
clash b p q = cc

-- ---- elements of other names

-- a field that no other element has
either : (a b : Bool) → (a || b) ≡ true → (a ≡ true) ⊎ (b ≡ true)
either true b h = inl refl
either false b h = inr h

neither : (a b : Bool) → a ≡ false → b ≡ false → (a || b) ≡ false
neither a b p q = rw (p, q) refl

same_as : (f g h : Field) → same_field g h ≡ true → same_field f g ≡ same_field f h
same_as f g h e = rw (eqb-true (number_of g) (number_of h) e) refl

pub other_than : (f g : Field) → same_field f fields.Kept ≡ false → same_field f fields.Dropped ≡ false → is_other g ≡ true → same_field f g ≡ false
other_than f g k d o = go (either (same_field g fields.Kept) (same_field g fields.Dropped) o)
  where
    go : (same_field g fields.Kept ≡ true) ⊎ (same_field g fields.Dropped ≡ true) → same_field f g ≡ false
    go (inl e) = same_as f g fields.Kept e ∙ k
    go (inr e) = same_as f g fields.Dropped e ∙ d

pub times_own_fields : (f : Field) (fs : List Field) → same_field f fields.Kept ≡ false → same_field f fields.Dropped ≡ false → times f fs ≡ times f (own_fields fs)
times_own_fields f [] k d = refl
times_own_fields f (g ∷ fs) k d = go (is_other g) refl (times_own_fields f fs k d)
  where
    go : (x : Bool) → is_other g ≡ x → times f fs ≡ times f (own_fields fs) → times f (g ∷ fs) ≡ times f (cond x (own_fields fs) (g ∷ own_fields fs))
    go true e ih = rw (other_than f g k d e) ih
    go false e ih = rw ih refl

own_agree : (cs : List Column) (fs : List Field) → has cs fields.Kept ≡ false → has cs fields.Dropped ≡ false → Agree cs fs (own_fields fs)
own_agree [] fs k d = tt
own_agree (c ∷ cs) fs k d =
    let p = or_false (same_field c.field fields.Kept) (has cs fields.Kept) k in
    let q = or_false (same_field c.field fields.Dropped) (has cs fields.Dropped) d in
    (times_own_fields c.field fs p.0 q.0, own_agree cs fs p.1 q.1)

pub table_agree : (t : Table) (fs : List Field) → Agree (columns t) fs (own_fields fs)
table_agree t fs = own_agree (columns t) fs (table_facts t).3 (table_facts t).4

pub column_own : (t : Table) (n : Text) (d : Column) → column_of (columns t) n ≡ Some d → is_other d.field ≡ false
column_own t n d is =
    neither (same_field d.field fields.Kept) (same_field d.field fields.Dropped) (column_other (columns t) n d fields.Kept is (table_facts t).3) (column_other (columns t) n d fields.Dropped is (table_facts t).4)

own_push : (fs : List Field) (f : Field) → own_fields (fs ++ f ∷ []) ≡ own_fields fs ++ own_fields (f ∷ [])
own_push [] f = refl
own_push (g ∷ fs) f = go (is_other g) (own_push fs f)
  where
    go : (x : Bool) → own_fields (fs ++ f ∷ []) ≡ own_fields fs ++ own_fields (f ∷ [])
        → cond x (own_fields (fs ++ f ∷ [])) (g ∷ own_fields (fs ++ f ∷ [])) ≡ cond x (own_fields fs) (g ∷ own_fields fs) ++ own_fields (f ∷ [])
    go true ih = ih
    go false ih = ap (λ (x : List Field). g ∷ x) ih

pub own_more : (fs : List Field) (f : Field) → is_other f ≡ false → own_fields (fs ++ f ∷ []) ≡ own_fields fs ++ f ∷ []
own_more fs f o = own_push fs f ∙ rw o refl

pub own_same : (fs : List Field) (f : Field) → is_other f ≡ true → own_fields (fs ++ f ∷ []) ≡ own_fields fs
own_same fs f o = own_push fs f ∙ rw o (append-nil (own_fields fs))

pub fields_push : (cs : List Child) (c : Child) → fields_of (cs ++ c ∷ []) ≡ fields_of cs ++ c.0 ∷ []
fields_push [] c = refl
fields_push (d ∷ cs) c = ap (λ (x : List Field). d.0 ∷ x) (fields_push cs c)

-- the own fields seen, behind one more child
pub seen_own : (t : Table) (before : List Child) (f : Field) (es : List Event) → is_other f ≡ false → own_fields (seen_of t (before ++ (f, es) ∷ [])) ≡ seen_behind t (own_fields (seen_of t before)) f
seen_own t before f es o = ap own_fields (seen_push t before (f, es)) ∙ go (is_ack t && same_field f fields.Status)
  where
    go : (b : Bool) → own_fields (cond b (fields.RoID ∷ fields.RoStatus ∷ []) (seen_of t before ++ f ∷ [])) ≡ cond b (fields.RoID ∷ fields.RoStatus ∷ []) (own_fields (seen_of t before) ++ f ∷ [])
    go true = refl
    go false = own_more (seen_of t before) f o

pub seen_other : (t : Table) (before : List Child) (f : Field) (es : List Event) → is_other f ≡ true → own_fields (seen_of t (before ++ (f, es) ∷ [])) ≡ own_fields (seen_of t before)
seen_other t before f es o = ap own_fields (seen_push t before (f, es)) ∙ rw status (own_same (seen_of t before) f o)
  where
    both_false : (a b : Bool) → b ≡ false → (a && b) ≡ false
    both_false true b h = h
    both_false false b h = refl

    turned : same_field f fields.Status ≡ false
    turned = not_true (same_field f fields.Status) (λ e. (let p : same_field fields.Status f ≡ false = other_than fields.Status f refl refl o in let q : same_field fields.Status f ≡ true = eq-eqb (number_of fields.Status) (number_of f) (sym (eqb-true (number_of f) (number_of fields.Status) e)) in absurd (clash (same_field fields.Status f) q p)))

    status : (is_ack t && same_field f fields.Status) ≡ false
    status = both_false (is_ack t) (same_field f fields.Status) turned

-- ---- roAck

abbrev pub status_column : Column
status_column = required fields.Status forms.Text

abbrev AllColumns : (Column → Type 0) → List Column → Type 0
AllColumns P [] = Unit {0}
AllColumns P (c ∷ cs) = P c × AllColumns P cs

named_is : (P : Column → Type 0) (cs : List Column) (n : Text) (d : Column) → AllColumns P cs → column_of cs n ≡ Some d → P d
named_is P [] n d a is = absurd cc
named_is P (c ∷ cs) n d a is = go (is_named c n) is (λ e. named_is P cs n d a.1 e)
  where
    go : (x : Bool) → cond x (Some c) (column_of cs n) ≡ Some d → (column_of cs n ≡ Some d → P d) → P d
    go true e ih = subst P (some_column c d e) a.0
    go false e ih = ih e

-- of roAck's columns only the last is the status
pub status_is : (n : Text) (d : Column) → column_of (columns RoAck) n ≡ Some d → same_field d.field fields.Status ≡ true → d ≡ status_column
status_is n d is = named_is (λ (c : Column). same_field c.field fields.Status ≡ true → c ≡ status_column) (columns RoAck) n d (never, (never, (never, (never, (never, (never, ((λ e. refl), tt))))))) is
  where
    never : {c : Column} → false ≡ true → c ≡ status_column
    never e = absurd cc

has_last : (ps : List Column) (c : Column) (f : Field) → has (ps ++ c ∷ []) f ≡ false → same_field c.field f ≡ false
has_last [] c f h = (or_false (same_field c.field f) false h).0
has_last (p ∷ ps) c f h = has_last ps c f (or_false (same_field p.field f) (has (ps ++ c ∷ []) f) h).1

pub no_front : (front : List Field) (y : Field) (more : List Field) → ◌≡◌ {A = List Field} [] (front ++ y ∷ more) → ⊥
no_front [] y more e = cc
no_front (x ∷ front) y more e = cc

apart_last : (ps : List Column) (c p : Column) → has (ps ++ c ∷ []) p.field ≡ false → c.field ≡ p.field → ⊥
apart_last ps c p h e =
    let a : same_field c.field p.field ≡ false = has_last ps c p.field h in
    let b : same_field c.field p.field ≡ true = rw e (same_self p.field) in
    clash (same_field c.field p.field) b a

-- where the last column's field has come, all is filled
pub last_filled : (ps : List Column) (xs : List Field) → distinct (ps ++ status_column ∷ []) ≡ true → Begins (ps ++ status_column ∷ []) (xs ++ fields.Status ∷ []) → IsFilled (ps ++ status_column ∷ []) (xs ++ fields.Status ∷ [])
last_filled [] xs u (inr h) = h
last_filled [] xs u (inl h) = go h.0 h.1 h.2
  where
    nothing : (xs : List Field) → xs ++ fields.Status ∷ [] ≡ [] → ⊥
    nothing [] e = cc
    nothing (x ∷ xs) e = cc

    go : (k : ℕ) → k ≤ 1 → xs ++ fields.Status ∷ [] ≡ copies k fields.Status → IsFilled (status_column ∷ []) (xs ++ fields.Status ∷ [])
    go zero m e = absurd (nothing xs e)
    go (suc k) m e = (suc k, [], omega arith, e ∙ sym (append-nil (copies (suc k) fields.Status)), refl)
last_filled (p ∷ ps) xs u b =
    let apart = no_true (has (ps ++ status_column ∷ []) p.field) (distinct (ps ++ status_column ∷ [])) u in
    go apart.0 (λ front e. last_filled ps front apart.1 e) b
  where
    go : has (ps ++ status_column ∷ []) p.field ≡ false → ((front : List Field) → Begins (ps ++ status_column ∷ []) (front ++ fields.Status ∷ []) → IsFilled (ps ++ status_column ∷ []) (front ++ fields.Status ∷ []))
        → Begins (p ∷ (ps ++ status_column ∷ [])) (xs ++ fields.Status ∷ []) → IsFilled (p ∷ (ps ++ status_column ∷ [])) (xs ++ fields.Status ∷ [])
    go apart ih (inl h) = absurd (in_copies (split h.0 p.field xs fields.Status [] [] (h.2 ∙ sym (append-nil (copies h.0 p.field)))))
      where
        in_copies : ((j : ℕ) × (xs ≡ copies j p.field) × (j < h.0) × (fields.Status ≡ p.field)) ⊎ ((front : List Field) × (xs ≡ copies h.0 p.field ++ front) × ([] ≡ front ++ fields.Status ∷ [])) → ⊥
        in_copies (inl x) = apart_last ps status_column p apart x.3
        in_copies (inr x) = no_front x.0 fields.Status [] x.2
    go apart ih (inr h) = behind (split h.0 p.field xs fields.Status [] h.1 h.3)
      where
        behind : ((j : ℕ) × (xs ≡ copies j p.field) × (j < h.0) × (fields.Status ≡ p.field)) ⊎ ((front : List Field) × (xs ≡ copies h.0 p.field ++ front) × (h.1 ≡ front ++ fields.Status ∷ [])) → IsFilled (p ∷ (ps ++ status_column ∷ [])) (xs ++ fields.Status ∷ [])
        behind (inl x) = absurd (apart_last ps status_column p apart x.3)
        behind (inr x) = (h.0, h.1, h.2, h.3, subst (IsFilled (ps ++ status_column ∷ [])) (sym x.2) (ih x.0 (subst (Begins (ps ++ status_column ∷ [])) x.2 h.4)))

-- behind the last column's field nothing follows
pub last_ends : (ps : List Column) (xs ys : List Field) → distinct (ps ++ status_column ∷ []) ≡ true → IsFilled (ps ++ status_column ∷ []) (xs ++ fields.Status ∷ ys) → ys ≡ []
last_ends [] xs ys u h =
    let e : xs ++ fields.Status ∷ ys ≡ fields.Status ∷ [] = h.3 ∙ ap (λ (k : ℕ). copies k fields.Status ++ h.1) h.2 ∙ ap (λ (x : List Field). fields.Status ∷ x) h.4 in
    go xs e
  where
    nothing : (xs : List Field) → xs ++ fields.Status ∷ ys ≡ [] → ⊥
    nothing [] e = cc
    nothing (x ∷ xs) e = cc

    go : (xs : List Field) → xs ++ fields.Status ∷ ys ≡ fields.Status ∷ [] → ys ≡ []
    go [] e = cc
    go (x ∷ xs) e = let r : xs ++ fields.Status ∷ ys ≡ [] = cc in absurd (nothing xs r)
last_ends (p ∷ ps) xs ys u h =
    let apart = no_true (has (ps ++ status_column ∷ []) p.field) (distinct (ps ++ status_column ∷ [])) u in
    go apart.0 (λ front e. last_ends ps front ys apart.1 e) (split h.0 p.field xs fields.Status ys h.1 h.3)
  where
    go : has (ps ++ status_column ∷ []) p.field ≡ false → ((front : List Field) → IsFilled (ps ++ status_column ∷ []) (front ++ fields.Status ∷ ys) → ys ≡ [])
        → ((j : ℕ) × (xs ≡ copies j p.field) × (j < h.0) × (fields.Status ≡ p.field)) ⊎ ((front : List Field) × (xs ≡ copies h.0 p.field ++ front) × (h.1 ≡ front ++ fields.Status ∷ ys)) → ys ≡ []
    go apart ih (inl x) = absurd (apart_last ps status_column p apart x.3)
    go apart ih (inr x) = ih x.0 (subst (IsFilled (ps ++ status_column ∷ [])) x.2 h.4)

pub lacks_last : (ps : List Column) (c : Column) (seen : List Field) → lacking (ps ++ c ∷ []) seen ≡ None → lacks c seen ≡ false
lacks_last [] c seen h = (not_lacking c [] seen h).0
lacks_last (p ∷ ps) c seen h = lacks_last ps c seen (not_lacking p (ps ++ c ∷ []) seen h).1

-- the columns of roAck without the last
abbrev pub before_status : List Column
before_status = ack_columns ++ (required fields.StoryID forms.OptId ∷ required fields.ItemID forms.OptId ∷ required fields.ObjID forms.OptId ∷ optional fields.ItemChannel forms.Text ∷ [])

-- roAck's own fields are two
pub ack_is : (fs : List Field) → IsFilled ack_columns fs → fs ≡ fields.RoID ∷ fields.RoStatus ∷ []
ack_is fs h =
    let a : fs ≡ fields.RoID ∷ h.1 = h.3 ∙ ap (λ (k : ℕ). copies k fields.RoID ++ h.1) h.2 in
    let i = h.4 in
    let b : h.1 ≡ fields.RoStatus ∷ [] = i.3 ∙ ap (λ (k : ℕ). copies k fields.RoStatus ++ i.1) i.2 ∙ ap (λ (x : List Field). fields.RoStatus ∷ x) i.4 in
    a ∙ ap (λ (x : List Field). fields.RoID ∷ x) b

pub ack_front : (fs : List Field) → IsFilled (columns RoAck) fs → (part : List Field) × (fs ≡ fields.RoID ∷ fields.RoStatus ∷ part) × IsFilled group_columns part
ack_front fs h =
    let a : fs ≡ fields.RoID ∷ h.1 = h.3 ∙ ap (λ (k : ℕ). copies k fields.RoID ++ h.1) h.2 in
    let i = h.4 in
    let b : h.1 ≡ fields.RoStatus ∷ i.1 = i.3 ∙ ap (λ (k : ℕ). copies k fields.RoStatus ++ i.1) i.2 in
    (i.1, a ∙ ap (λ (x : List Field). fields.RoID ∷ x) b, i.4)

pub two_fill : IsFilled ack_columns (fields.RoID ∷ fields.RoStatus ∷ [])
two_fill = (1, fields.RoStatus ∷ [], refl, refl, (1, [], refl, refl, refl))

pub two_begin : Begins (columns RoAck) (fields.RoID ∷ fields.RoStatus ∷ [])
two_begin = begins_more ack_columns group_columns (fields.RoID ∷ fields.RoStatus ∷ []) (front_begins ack_columns (fields.RoID ∷ fields.RoStatus ∷ []) [] two_fill)

-- one more group at the end
one_group : (k : ℕ) (groups group : List Field) → AreGroups k groups → IsFilled group_columns group → AreGroups (suc k) (groups ++ group)
one_group zero groups group h w = (group, [], w, rw h (sym (append-nil group)), refl)
one_group (suc k) groups group h w =
    (h.0, h.1 ++ group, h.2, rw h.3 (append_assoc h.0 h.1 group), one_group k h.1 group h.4 w)

-- what stood so far: groups, and a part of one more
abbrev pub BehindGroups : List Field → List Field → Type 0
BehindGroups fs seen = (fs ≡ seen) ⊎ ((k : ℕ) × (groups : List Field) × (part : List Field) × AreGroups k groups × (fs ≡ fields.RoID ∷ fields.RoStatus ∷ (groups ++ part)) × (seen ≡ fields.RoID ∷ fields.RoStatus ∷ part))

-- the part is a whole group
pub group_ends : (fs seen : List Field) → BehindGroups fs seen → IsFilled (columns RoAck) seen → (k : ℕ) × (groups : List Field) × AreGroups k groups × (fs ≡ fields.RoID ∷ fields.RoStatus ∷ groups)
group_ends fs seen (inl e) h =
    let a = ack_front seen h in
    (1, a.0, (a.0, [], a.2, sym (append-nil a.0), refl), e ∙ a.1)
group_ends fs seen (inr b) h =
    let a = ack_front seen h in
    let p : b.2 ≡ a.0 = (let x = b.5 in let y = a.1 in cc) in
    (suc b.0, b.1 ++ b.2, one_group b.0 b.1 b.2 b.3 (subst (IsFilled group_columns) (sym p) a.2), b.4)

pub one_more : (fs seen : List Field) (f : Field) → BehindGroups fs seen → BehindGroups (fs ++ f ∷ []) (seen ++ f ∷ [])
one_more fs seen f (inl e) = inl (rw e refl)
one_more fs seen f (inr b) =
    inr (
      b.0,
      b.1,
      b.2 ++ f ∷ [],
      b.3,
      ap (λ (x : List Field). x ++ f ∷ []) b.4 ∙ ap (λ (x : List Field). fields.RoID ∷ fields.RoStatus ∷ x) (append_assoc b.1 b.2 (f ∷ [])),
      ap (λ (x : List Field). x ++ f ∷ []) b.5,
    )

pub ack_whole : (fs : List Field) (k : ℕ) (groups : List Field) → AreGroups k groups → fs ≡ fields.RoID ∷ fields.RoStatus ∷ groups → IsAck fs
ack_whole fs k groups g e = (k, fields.RoID ∷ fields.RoStatus ∷ [], groups, two_fill, g, e)

-- columns that weren't begun
pub front_only : (cs ds : List Column) (fs : List Field) → distinct (cs ++ ds) ≡ true → Begins (cs ++ ds) fs → any_seen ds fs ≡ false → Begins cs fs
front_only [] ds fs u b h = nothing_begun ds fs b h
front_only (c ∷ cs) ds fs u (inl b) h = inl b
front_only (c ∷ cs) ds fs u (inr b) h =
    let apart = no_true (has (cs ++ ds) c.field) (distinct (cs ++ ds)) u in
    let a : any_seen ds fs ≡ any_seen ds b.1 = ap (any_seen ds) b.3 ∙ any_agree ds (copies b.0 c.field ++ b.1) b.1 (shift_agree ds c.field b.0 b.1 (has_behind cs c.field apart.0)) in
    inr (b.0, b.1, b.2, b.3, front_only cs ds b.1 apart.1 b.4 (sym a ∙ h))
  where
    has_behind : (cs : List Column) (f : Field) → has (cs ++ ds) f ≡ false → has ds f ≡ false
    has_behind [] f h = h
    has_behind (c ∷ cs) f h = has_behind cs f (or_false (same_field c.field f) (has (cs ++ ds) f) h).1
