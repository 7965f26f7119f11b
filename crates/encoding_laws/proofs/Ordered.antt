-- From children that are written one by one to the canonical encoding of their record.
use Rattle.std.proofs.Common.{◌≡◌, Bool, true, false, cond, List, [], ◌∷◌, ◌++◌, Option, Some, None, refl, sym, ap, subst, ◌∙◌, append_assoc, arith}
use Rattle.std.specs.Prelude.{◌&&◌, nat_lt}
use Rattle.std.specs.List.{AllByRecursion}
use Rattle.std.proofs.lemmas.List.{append-nil}
use Rattle.std.proofs.lemmas.Bool.{ltb-true, lt-ltb}
use Rattle.mos_fields.specs.Characters.{Text}
use Rattle.mos_fields.specs.Fields.{same_field}
use Rattle.mos_fields.specs.declared.field.Field.{Field}
use Rattle.mos_fields.specs.declared.field.Field.TheVariants as fields
use Rattle.mos_tables.specs.declared.column.Column.{Column}
use Rattle.mos_tables.specs.declared.others.Others.TheVariants.{Kept}
use Rattle.mos_tables.specs.declared.table.Table.{Table}
use Rattle.mos_tables.specs.declared.table.Table.TheVariants as tables
use Rattle.mos_tables.specs.Events.{Event, raw}
use Rattle.mos_tables.specs.Canonical.{canonical}
use Rattle.mos_tables.specs.Tables.{columns, others, is_ack}
use Rattle.mos_grammar.specs.Tokens.{Token}
use Rattle.mos_grammar.specs.declared.fault.Fault.TheVariants.{Twice as twice, Order as out_of_order}
use Rattle.mos_grammar.specs.Records.{Child, times, seen_of, is_single, is_named, column_of, before_column, any_seen, lacking, repeated, field_fault, if_field, end_fault, flat, aim_of, keys, arranged, Content, ends}
use Rattle.mos_grammar.proofs.Seen.{or_false, no_true, has, distinct, answers, later_apart, times_last, times_more}
use Rattle.mos_grammar.proofs.Complete.{table_facts}
use Rattle.mos_cursor.proofs.Roles.{no_or_else}
use Rattle.mos_cursor.proofs.Columns.{column_of-all, column_of-named, same_field-same, same_field-sym}
use Rattle.mos_cursor.proofs.Counts.{fields_of, seen_is}
use Rattle.encoding_laws.proofs.Written.{HasNames, names_both, WritesFront, no_front, both_fronts}
use Rattle.encoding_laws.proofs.Admitted.{HasRoom, Opens}
use Rattle.encoding_laws.proofs.Pieces.{canonical_append, Piece, Canonical}
use Rattle.encoding_laws.proofs.Lean.{MayLack, IsApart, apart_may_lack, Lean, lean_none, lean_both, IsQuiet, lean_left, lean_right, lean_opens, lean_ends}
use Rattle.encoding_laws.proofs.Arranged.{put, select, written_children, by_columns, same_has, columns_other, columns_push, behind_metadata, columns_put, columns_nothing, columns_none}
use Rattle.encoding_laws.proofs.Found.{in_order, order_flat, order_again, apart_of}

-- ---- what is built behind children

-- Behind the children the new ones can be written, to the end of the record.
pub record Builds (t : Table) (taken : List Text) (b new : List Child) : Type 0 where
  pub tokens : List Token
  pub written : WritesFront tokens (canonical (flat new))
  pub names : AllByRecursion HasNames (flat new)
  pub content : Content t taken b (b ++ new) tokens

pub builds_end : (t : Table) (taken : List Text) (b : List Child) → end_fault t b ≡ None → Builds t taken b []
unfolding canonical
builds_end t taken b e = record { tokens = []; written = no_front; names = tt; content = subst (λ (z : List Child). Content t taken b z []) (sym (append-nil b)) (ends e) }

pub builds_child : (t : Table) (taken : List Text) (p b new : List Child) (n : Text) (x : Child) → Piece t taken p n x → Opens t b n → aim_of b ≡ aim_of p → keys t b ≡ keys t p → Builds t taken (b ++ x ∷ []) new → Builds t taken b (x ∷ new)
builds_child t taken p b new n x i o a k w = record {
  tokens = i.tokens ++ w.tokens;
  written = subst (WritesFront (i.tokens ++ w.tokens)) (sym (canonical_append x.1 (flat new))) (both_fronts i.tokens w.tokens (canonical x.1) (canonical (flat new)) i.written w.written);
  names = names_both x.1 (flat new) i.names w.names;
  content = i.enters b (b ++ x ∷ new) w.tokens o a k (subst (λ (z : List Child). Content t taken (b ++ x ∷ []) z w.tokens) (append_assoc b (x ∷ []) new) w.content);
}

-- ---- children

-- an element of another name that is kept
pub data KeptPiece (t : Table) (taken : List Text) : Child → Type 0 where
  kept_piece : (n x : Text) → column_of (columns t) n ≡ None → others t n ≡ Kept → ((q : List Child) → Piece t taken q n (fields.Kept, raw fields.Kept x ∷ [])) → KeptPiece t taken (fields.Kept, raw fields.Kept x ∷ [])

-- A child behind these: it adds nothing, or it is of a column, or of another name and kept.
pub data ChildPiece (t : Table) (taken : List Text) (p : List Child) : Child → Type 0 where
  unwritten : (f : Field) → IsQuiet t (f, []) → AllByRecursion (MayLack f) (columns t) → ChildPiece t taken p (f, [])
  in_column : (c : Column) (n : Text) (e : Event) (es : List Event) → column_of (columns t) n ≡ Some c → Opens t p n → Piece t taken p n (c.field, e ∷ es) → ChildPiece t taken p (c.field, e ∷ es)
  in_others : (c : Child) → KeptPiece t taken c → ChildPiece t taken p c

abbrev pub AllPieces : Table → List Text → List Child → List Child → Type 0
AllPieces t taken p [] = Unit {0}
AllPieces t taken p (c ∷ cs) = ChildPiece t taken p c × AllPieces t taken (p ++ c ∷ []) cs

pub and_false : (b : Bool) → (b && false) ≡ false
and_false true = refl
and_false false = refl

kept_quiet : (t : Table) (x : Text) → IsQuiet t (fields.Kept, raw fields.Kept x ∷ [])
kept_quiet t x = record { no_group_end = and_false (is_ack t); no_target = refl; no_key = refl }

pub no_kept : (t : Table) → AllByRecursion (IsApart fields.Kept) (columns t)
no_kept t = apart_of fields.Kept (columns t) (table_facts t).3

pub other_opens : (t : Table) (b : List Child) (n : Text) → column_of (columns t) n ≡ None → Opens t b n
other_opens t b n e = record {
  outside = ap (λ (z : Option Column). if_field z (field_fault (columns t) (seen_of t b) n)) e;
  room = subst (HasRoom (seen_of t b)) (sym e) tt;
}

-- ---- roAck: its children as they came

ack_keeps_none : (t : Table) (n : Text) → is_ack t ≡ true → others t n ≡ Kept → ⊥
ack_keeps_none tables.RoAck n a e = cc
ack_keeps_none t n a e = cc

further : (t : Table) (p cs : List Child) (c : Child) → end_fault t (p ++ c ∷ cs) ≡ None → end_fault t ((p ++ c ∷ []) ++ cs) ≡ None
further t p cs c e = ap (end_fault t) (append_assoc p (c ∷ []) cs) ∙ e

as_they_came : (t : Table) (taken : List Text) (p b post : List Child) → is_ack t ≡ true → AllPieces t taken p post → Lean t p b → end_fault t (p ++ post) ≡ None → Builds t taken b (written_children post)
as_they_came t taken p b [] a w l e = builds_end t taken b (lean_ends t p b l (ap (end_fault t) (sym (append-nil p)) ∙ e))
as_they_came t taken p b (c ∷ cs) a w l e = go c w.0 (λ q k. as_they_came t taken (p ++ c ∷ []) q cs a w.1 k (further t p cs c e))
  where
    go : (c : Child) → ChildPiece t taken p c → ((q : List Child) → Lean t (p ++ c ∷ []) q → Builds t taken q (written_children cs)) → Builds t taken b (put c (written_children cs))
    go d (unwritten f q m) more = more b (lean_left t p b (f, []) l q m)
    go d (in_column c n x xs k o i) more =
        builds_child t taken p b (written_children cs) n (c.field, x ∷ xs) i (lean_opens t p b n l o) l.same_aim l.same_keys (more (b ++ (c.field, x ∷ xs) ∷ []) (lean_both t p b (c.field, x ∷ xs) l))
    go d (in_others c (kept_piece n x k o i)) more = absurd (ack_keeps_none t n a o)

-- ---- other records: by columns

-- the children of other names
kept_children : (t : Table) (taken : List Text) (p post : List Child) → AllPieces t taken p post → AllByRecursion (KeptPiece t taken) (select fields.Kept post)
kept_children t taken p [] w = tt
kept_children t taken p (c ∷ cs) w = go c w.0 (kept_children t taken (p ++ c ∷ []) cs w.1)
  where
    go : (c : Child) → ChildPiece t taken p c → AllByRecursion (KeptPiece t taken) (select fields.Kept cs) → AllByRecursion (KeptPiece t taken) (cond (same_field fields.Kept c.0) (put c (select fields.Kept cs)) (select fields.Kept cs))
    go d (unwritten f q m) ih = two (same_field fields.Kept f)
      where
        two : (b : Bool) → AllByRecursion (KeptPiece t taken) (cond b (select fields.Kept cs) (select fields.Kept cs))
        two true = ih
        two false = ih
    go d (in_column c n x xs k o i) ih = two (same_field fields.Kept c.field) refl
      where
        two : (b : Bool) → same_field fields.Kept c.field ≡ b → AllByRecursion (KeptPiece t taken) (cond b ((c.field, x ∷ xs) ∷ select fields.Kept cs) (select fields.Kept cs))
        two true e =
            let y : same_field c.field fields.Kept ≡ false = column_of-all (IsApart fields.Kept) (columns t) n c (no_kept t) k in
            let z = same_field-sym fields.Kept c.field e in absurd (let q : true ≡ false = sym z ∙ y in cc)
        two false e = ih
    go d (in_others c (kept_piece n x k o i)) ih = (kept_piece n x k o i, ih)

pub put_kept : (t : Table) (taken : List Text) (ks b new : List Child) → AllByRecursion (KeptPiece t taken) ks → Builds t taken (b ++ ks) new → Builds t taken b (ks ++ new)
put_kept t taken [] b new a w = subst (λ (z : List Child). Builds t taken z new) (append-nil b) w
put_kept t taken (k ∷ ks) b new a w = go k a.0 (put_kept t taken ks (b ++ k ∷ []) new a.1 (subst (λ (z : List Child). Builds t taken z new) (sym (append_assoc b (k ∷ []) ks)) w))
  where
    go : (k : Child) → KeptPiece t taken k → Builds t taken (b ++ k ∷ []) (ks ++ new) → Builds t taken b (k ∷ (ks ++ new))
    go k (kept_piece n x e o i) ih = builds_child t taken b b (ks ++ new) n (fields.Kept, raw fields.Kept x ∷ []) (i b) (other_opens t b n e) refl refl ih

lean_kept : (t : Table) (taken : List Text) (ks p b : List Child) → AllByRecursion (KeptPiece t taken) ks → Lean t p b → Lean t p (b ++ ks)
lean_kept t taken [] p b a l = subst (Lean t p) (sym (append-nil b)) l
lean_kept t taken (k ∷ ks) p b a l = subst (Lean t p) (append_assoc b (k ∷ []) ks) (lean_kept t taken ks p (b ++ k ∷ []) a.1 (go k a.0))
  where
    go : (k : Child) → KeptPiece t taken k → Lean t p (b ++ k ∷ [])
    go k (kept_piece n x e o i) = lean_right t p b (fields.Kept, raw fields.Kept x ∷ []) l (kept_quiet t x) (no_kept t)

-- ---- places of columns

record Place (ks : List Column) (n : Text) (c : Column) : Type 0 where
  ps : List Column
  cs : List Column
  columns_are : ks ≡ ps ++ c ∷ cs
  no_answer : answers ps n ≡ false

place_of : (ks : List Column) (n : Text) (c : Column) → column_of ks n ≡ Some c → Place ks n c
place_of [] n c e = absurd cc
place_of (k ∷ ks) n c e = go (is_named k n) refl e (λ h. place_of ks n c h)
  where
    go : (b : Bool) → is_named k n ≡ b → cond b (Some k) (column_of ks n) ≡ Some c → (column_of ks n ≡ Some c → Place ks n c) → Place (k ∷ ks) n c
    go true q e ih = let s : k ≡ c = cc in record { ps = []; cs = ks; columns_are = ap (λ (z : Column). z ∷ ks) s; no_answer = refl }
    go false q e ih = let r = ih e in record { ps = k ∷ r.ps; cs = r.cs; columns_are = ap (λ (z : List Column). k ∷ z) r.columns_are; no_answer = rw q r.no_answer }

none_later : (ps : List Column) (c : Column) (cs : List Column) (seen : List Field) (n : Text) → answers ps n ≡ false → is_named c n ≡ true → repeated (ps ++ c ∷ cs) seen n ≡ None → any_seen cs seen ≡ false
none_later [] c cs seen n a m h = go (is_single c.often && nat_lt 0 (times c.field seen)) (any_seen cs seen) (sym (rw m refl) ∙ h)
  where
    go : (b d : Bool) → cond b (Some (twice c.field)) (cond d (Some (out_of_order c.field)) None) ≡ None → d ≡ false
    go true d h = absurd cc
    go false true h = absurd cc
    go false false h = refl
none_later (p ∷ ps) c cs seen n a m h =
    let q = or_false (is_named p n) (answers ps n) a in
    none_later ps c cs seen n q.1 m (sym (rw q.0 refl) ∙ h)

-- where an element of a column opens, no later column was seen
opens_last : (t : Table) (p : List Child) (n : Text) (c : Column) (x : Place (columns t) n c) → is_ack t ≡ false → column_of (columns t) n ≡ Some c → Opens t p n → any_seen x.cs (fields_of p) ≡ false
opens_last t p n c x a k o =
    let f : field_fault (columns t) (seen_of t p) n ≡ None = subst (λ (z : Option Column). if_field z (field_fault (columns t) (seen_of t p) n) ≡ None) k o.outside in
    let r : repeated (columns t) (seen_of t p) n ≡ None = (no_or_else (repeated (columns t) (seen_of t p) n) (lacking (before_column (columns t) n) (seen_of t p)) f).0 in
    let s : repeated (x.ps ++ c ∷ x.cs) (seen_of t p) n ≡ None = subst (λ (z : List Column). repeated z (seen_of t p) n ≡ None) x.columns_are r in
    subst (λ (z : List Field). any_seen x.cs z ≡ false) (seen_is t p a) (none_later x.ps c x.cs (seen_of t p) n x.no_answer (column_of-named (columns t) n c k) s)

has_more : (ps : List Column) (c : Column) (cs : List Column) (f : Field) → has (ps ++ c ∷ cs) f ≡ false → same_field c.field f ≡ false
has_more [] c cs f h = (or_false (same_field c.field f) (has cs f) h).0
has_more (p ∷ ps) c cs f h = has_more ps c cs f (or_false (same_field p.field f) (has (ps ++ c ∷ cs) f) h).1

false_sym : (f g : Field) → same_field f g ≡ false → same_field g f ≡ false
false_sym f g h = go (same_field g f) refl
  where
    go : (b : Bool) → same_field g f ≡ b → b ≡ false
    go true e = let p = same_field-sym g f e in cc
    go false e = refl

pub earlier_apart : (ps : List Column) (c : Column) (cs : List Column) → distinct (ps ++ c ∷ cs) ≡ true → has ps c.field ≡ false
earlier_apart [] c cs d = refl
earlier_apart (p ∷ ps) c cs d =
    let u = no_true (has (ps ++ c ∷ cs) p.field) (distinct (ps ++ c ∷ cs)) d in
    rw (false_sym c.field p.field (has_more ps c cs p.field u.0)) (earlier_apart ps c cs u.1)

-- a column behind that of mosExternalMetadata, or not
has_behind : (cs : List Column) (f : Field) → has cs f ≡ false → has (behind_metadata cs) f ≡ false
has_behind [] f h = refl
has_behind (c ∷ cs) f h =
    let q = or_false (same_field c.field f) (has cs f) h in
    go (same_field c.field fields.Metadata) q.1 (has_behind cs f q.1)
  where
    go : (b : Bool) → has cs f ≡ false → has (behind_metadata cs) f ≡ false → has (cond b cs (behind_metadata cs)) f ≡ false
    go true h ih = h
    go false h ih = ih

any_behind : (cs : List Column) (s : List Field) → any_seen cs s ≡ false → any_seen (behind_metadata cs) s ≡ false
any_behind [] s h = refl
any_behind (c ∷ cs) s h =
    let q = or_false (nat_lt 0 (times c.field s)) (any_seen cs s) h in
    go (same_field c.field fields.Metadata) q.1 (any_behind cs s q.1)
  where
    go : (b : Bool) → any_seen cs s ≡ false → any_seen (behind_metadata cs) s ≡ false → any_seen (cond b cs (behind_metadata cs)) s ≡ false
    go true h ih = h
    go false h ih = ih

behind_early : (ps : List Column) (c : Column) (cs : List Column) → has ps fields.Metadata ≡ false → behind_metadata (ps ++ c ∷ cs) ≡ cond (same_field c.field fields.Metadata) cs (behind_metadata cs)
behind_early [] c cs h = refl
behind_early (p ∷ ps) c cs h = let q = or_false (same_field p.field fields.Metadata) (has ps fields.Metadata) h in rw q.0 (behind_early ps c cs q.1)

-- the columns behind it take no field of a column that isn't behind it
early_apart : (ps : List Column) (c : Column) (cs : List Column) → has ps fields.Metadata ≡ false → has cs c.field ≡ false → has (behind_metadata (ps ++ c ∷ cs)) c.field ≡ false
early_apart ps c cs h l = subst (λ (z : List Column). has z c.field ≡ false) (sym (behind_early ps c cs h)) (go (same_field c.field fields.Metadata))
  where
    go : (b : Bool) → has (cond b cs (behind_metadata cs)) c.field ≡ false
    go true = l
    go false = has_behind cs c.field l

early_unseen : (ps : List Column) (c : Column) (cs : List Column) (s : List Field) → has ps fields.Metadata ≡ false → any_seen cs s ≡ false → any_seen (behind_metadata (ps ++ c ∷ cs)) s ≡ false
early_unseen ps c cs s h l = subst (λ (z : List Column). any_seen z s ≡ false) (sym (behind_early ps c cs h)) (go (same_field c.field fields.Metadata))
  where
    go : (b : Bool) → any_seen (cond b cs (behind_metadata cs)) s ≡ false
    go true = l
    go false = any_behind cs s l

seen_here : (ps : List Column) (c : Column) (cs : List Column) (s : List Field) → any_seen (ps ++ c ∷ cs) (s ++ c.field ∷ []) ≡ true
seen_here [] c cs s =
    let k : nat_lt 0 (times c.field (s ++ c.field ∷ [])) ≡ true = lt-ltb 0 (times c.field (s ++ c.field ∷ [])) (omega (arith, times_last c.field s)) in
    rw k refl
seen_here (p ∷ ps) c cs s = go (nat_lt 0 (times p.field (s ++ c.field ∷ []))) (seen_here ps c cs s)
  where
    go : (b : Bool) → any_seen (ps ++ c ∷ cs) (s ++ c.field ∷ []) ≡ true → cond b true (any_seen (ps ++ c ∷ cs) (s ++ c.field ∷ [])) ≡ true
    go true ih = refl
    go false ih = ih

late_seen : (ps : List Column) (c : Column) (cs : List Column) (s : List Field) → has ps fields.Metadata ≡ true → any_seen (behind_metadata (ps ++ c ∷ cs)) (s ++ c.field ∷ []) ≡ true
late_seen [] c cs s h = absurd cc
late_seen (p ∷ ps) c cs s h = go (same_field p.field fields.Metadata) h (λ e. late_seen ps c cs s e)
  where
    go : (b : Bool) → cond b true (has ps fields.Metadata) ≡ true → (has ps fields.Metadata ≡ true → any_seen (behind_metadata (ps ++ c ∷ cs)) (s ++ c.field ∷ []) ≡ true) → any_seen (cond b (ps ++ c ∷ cs) (behind_metadata (ps ++ c ∷ cs))) (s ++ c.field ∷ []) ≡ true
    go true h ih = seen_here ps c cs s
    go false h ih = ih h

-- behind it there is no second one
late_apart : (ps : List Column) (c : Column) (cs : List Column) → distinct (ps ++ c ∷ cs) ≡ true → has ps fields.Metadata ≡ true → has (c ∷ cs) fields.Metadata ≡ false
late_apart [] c cs d h = absurd cc
late_apart (p ∷ ps) c cs d h =
    let u = no_true (has (ps ++ c ∷ cs) p.field) (distinct (ps ++ c ∷ cs)) d in
    go (same_field p.field fields.Metadata) refl h (λ e. late_apart ps c cs u.1 e) u.0
  where
    rest : (qs : List Column) (f : Field) → has (qs ++ c ∷ cs) f ≡ false → has (c ∷ cs) f ≡ false
    rest [] f h = h
    rest (q ∷ qs) f h = rest qs f (or_false (same_field q.field f) (has (qs ++ c ∷ cs) f) h).1

    go : (b : Bool) → same_field p.field fields.Metadata ≡ b → cond b true (has ps fields.Metadata) ≡ true → (has ps fields.Metadata ≡ true → has (c ∷ cs) fields.Metadata ≡ false) → has (ps ++ c ∷ cs) p.field ≡ false → has (c ∷ cs) fields.Metadata ≡ false
    go true q h ih n = rest ps fields.Metadata (same_has (ps ++ c ∷ cs) p.field fields.Metadata q ∙ n)
    go false q h ih n = ih h

has_in : (ps : List Column) (qs : List Column) (f : Field) → has ps f ≡ true → has (ps ++ qs) f ≡ true
has_in [] qs f h = absurd cc
has_in (p ∷ ps) qs f h = go (same_field p.field f) h (λ e. has_in ps qs f e)
  where
    go : (b : Bool) → cond b true (has ps f) ≡ true → (has ps f ≡ true → has (ps ++ qs) f ≡ true) → cond b true (has (ps ++ qs) f) ≡ true
    go true h ih = refl
    go false h ih = ih h

still_seen : (cs : List Column) (s : List Field) (f : Field) → any_seen cs s ≡ true → any_seen cs (s ++ f ∷ []) ≡ true
still_seen [] s f h = absurd cc
still_seen (c ∷ cs) s f h = go (nat_lt 0 (times c.field s)) refl h (λ e. still_seen cs s f e)
  where
    two : (b : Bool) → any_seen cs (s ++ f ∷ []) ≡ true → cond b true (any_seen cs (s ++ f ∷ [])) ≡ true
    two true e = refl
    two false e = e

    go : (b : Bool) → nat_lt 0 (times c.field s) ≡ b → cond b true (any_seen cs s) ≡ true → (any_seen cs s ≡ true → any_seen cs (s ++ f ∷ []) ≡ true) → cond (nat_lt 0 (times c.field (s ++ f ∷ []))) true (any_seen cs (s ++ f ∷ [])) ≡ true
    go true q h ih =
        let k : nat_lt 0 (times c.field (s ++ f ∷ [])) ≡ true = lt-ltb 0 (times c.field (s ++ f ∷ [])) (omega (arith, ltb-true 0 (times c.field s) q, times_more c.field f s)) in
        rw k refl
    go false q h ih = two (nat_lt 0 (times c.field (s ++ f ∷ []))) (ih h)

-- ---- child after child

pub fields_push : (cs : List Child) (c : Child) → fields_of (cs ++ c ∷ []) ≡ fields_of cs ++ c.0 ∷ []
fields_push [] c = refl
fields_push (d ∷ cs) c = ap (λ (z : List Field). d.0 ∷ z) (fields_push cs c)

-- the children up to here in the order of the columns, with those of other names already put in or not
abbrev so_far : Table → List Child → Bool → List Child → List Child
so_far t k late p = by_columns (cond late k []) (columns t) p

-- they are put in as soon as a column behind them was seen
abbrev LateIs : Table → Bool → List Child → Type 0
LateIs t false p = by_columns [] (behind_metadata (columns t)) p ≡ []
LateIs t true p = any_seen (behind_metadata (columns t)) (fields_of p) ≡ true

-- what follows up to the end, where all children come to these
record Rest (t : Table) (taken : List Text) (k all b : List Child) : Type 0 where
  rest : List Child
  whole : b ++ rest ≡ by_columns k (columns t) all
  built : Builds t taken b rest

rest_child : (t : Table) (taken : List Text) (k all p b : List Child) (n : Text) (x : Child) → Piece t taken p n x → Lean t p b → Opens t p n → Rest t taken k all (b ++ x ∷ []) → Rest t taken k all b
rest_child t taken k all p b n x i l o r = record {
  rest = x ∷ r.rest;
  whole = sym (append_assoc b (x ∷ []) r.rest) ∙ r.whole;
  built = builds_child t taken p b r.rest n x i (lean_opens t p b n l o) l.same_aim l.same_keys r.built;
}

rest_kept : (t : Table) (taken : List Text) (k all b ks : List Child) → AllByRecursion (KeptPiece t taken) ks → Rest t taken k all (b ++ ks) → Rest t taken k all b
rest_kept t taken k all b ks a r = record {
  rest = ks ++ r.rest;
  whole = sym (append_assoc b ks r.rest) ∙ r.whole;
  built = put_kept t taken ks b r.rest a r.built;
}

rest_ended : (t : Table) (taken : List Text) (k p b : List Child) → Lean t p b → b ≡ by_columns k (columns t) p → end_fault t (p ++ []) ≡ None → Rest t taken k (p ++ []) b
rest_ended t taken k p b l w e = record {
  rest = [];
  whole = append-nil b ∙ w ∙ ap (by_columns k (columns t)) (sym (append-nil p));
  built = builds_end t taken b (lean_ends t p b l (ap (end_fault t) (sym (append-nil p)) ∙ e));
}

cond_kept : (t : Table) (taken : List Text) (b : Bool) (k : List Child) → AllByRecursion (KeptPiece t taken) k → AllByRecursion (KeptPiece t taken) (cond b k [])
cond_kept t taken true k a = a
cond_kept t taken false k a = tt

at_end : (t : Table) (taken : List Text) (k p : List Child) → AllByRecursion (KeptPiece t taken) k → (late : Bool) → LateIs t late p → Lean t p (so_far t k late p) → end_fault t (p ++ []) ≡ None → Rest t taken k (p ++ []) (so_far t k late p)
at_end t taken k p a true f l e = rest_ended t taken k p (by_columns k (columns t) p) l refl e
at_end t taken k p a false f l e =
    let m : List Child = cond (has (columns t) fields.Metadata) k [] in
    let b : List Child = by_columns [] (columns t) p in
    let am : AllByRecursion (KeptPiece t taken) m = cond_kept t taken (has (columns t) fields.Metadata) k a in
    rest_kept t taken k (p ++ []) b m am (rest_ended t taken k p (b ++ m) (lean_kept t taken m p b am l) (sym (columns_put k (columns t) p (table_facts t).0 f)) e)

-- one more child of a column stands behind the others
pushed : (t : Table) (k p : List Child) (x : Child) (n : Text) (c : Column) (pl : Place (columns t) n c) → x.0 ≡ c.field → put x [] ≡ x ∷ [] → is_ack t ≡ false → column_of (columns t) n ≡ Some c → Opens t p n → (has (c ∷ pl.cs) fields.Metadata ≡ true → k ≡ [])
    → by_columns k (columns t) (p ++ x ∷ []) ≡ by_columns k (columns t) p ++ x ∷ []
pushed t k p x n c pl xf xp a kc o m =
    let d : distinct (pl.ps ++ c ∷ pl.cs) ≡ true = ap distinct (sym pl.columns_are) ∙ (table_facts t).0 in
    let e : same_field c.field x.0 ≡ true = ap (same_field c.field) xf ∙ same_field-same c.field in
    let h : has pl.ps x.0 ≡ false = ap (has pl.ps) xf ∙ earlier_apart pl.ps c pl.cs d in
    let l : has pl.cs x.0 ≡ false = ap (has pl.cs) xf ∙ later_apart pl.ps c pl.cs d in
    let w = columns_push k pl.ps c pl.cs p x e h l (opens_last t p n c pl a kc o) m in
    let v = w ∙ ap (λ (z : List Child). by_columns k (pl.ps ++ c ∷ pl.cs) p ++ z) xp in
    subst (λ (z : List Column). by_columns k z (p ++ x ∷ []) ≡ by_columns k z p ++ x ∷ []) (sym pl.columns_are) v

-- a child of a column
late_child : (t : Table) (taken : List Text) (k all p : List Child) (x : Child) (n : Text) (c : Column) (pl : Place (columns t) n c) → x.0 ≡ c.field → put x [] ≡ x ∷ [] → is_ack t ≡ false → column_of (columns t) n ≡ Some c → Opens t p n → Piece t taken p n x
    → has pl.ps fields.Metadata ≡ true → Lean t p (so_far t k true p) → ((late : Bool) → LateIs t late (p ++ x ∷ []) → Lean t (p ++ x ∷ []) (so_far t k late (p ++ x ∷ [])) → Rest t taken k all (so_far t k late (p ++ x ∷ []))) → Rest t taken k all (so_far t k true p)
late_child t taken k all p x n c pl xf xp a kc o i h l more =
    let d : distinct (pl.ps ++ c ∷ pl.cs) ≡ true = ap distinct (sym pl.columns_are) ∙ (table_facts t).0 in
    let push = pushed t k p x n c pl xf xp a kc o (λ (w : has (c ∷ pl.cs) fields.Metadata ≡ true). absurd (let q : true ≡ false = sym w ∙ late_apart pl.ps c pl.cs d h in cc)) in
    let f : any_seen (behind_metadata (columns t)) (fields_of (p ++ x ∷ [])) ≡ true =
    ap (λ (z : List Field). any_seen (behind_metadata (columns t)) z) (fields_push p x ∙ ap (λ (z : Field). fields_of p ++ z ∷ []) xf) ∙ ap (λ (z : List Column). any_seen (behind_metadata z) (fields_of p ++ c.field ∷ [])) pl.columns_are ∙ late_seen pl.ps c pl.cs (fields_of p) h in
    let b : List Child = by_columns k (columns t) p in
    let m : Lean t (p ++ x ∷ []) (by_columns k (columns t) (p ++ x ∷ [])) = subst (Lean t (p ++ x ∷ [])) (sym push) (lean_both t p b x l) in
    rest_child t taken k all p b n x i l o (subst (Rest t taken k all) push (more true f m))

early_child : (t : Table) (taken : List Text) (k all p : List Child) (x : Child) (n : Text) (c : Column) (pl : Place (columns t) n c) → x.0 ≡ c.field → put x [] ≡ x ∷ [] → is_ack t ≡ false → column_of (columns t) n ≡ Some c → Opens t p n → Piece t taken p n x
    → has pl.ps fields.Metadata ≡ false → LateIs t false p → Lean t p (so_far t k false p) → ((late : Bool) → LateIs t late (p ++ x ∷ []) → Lean t (p ++ x ∷ []) (so_far t k late (p ++ x ∷ [])) → Rest t taken k all (so_far t k late (p ++ x ∷ []))) → Rest t taken k all (so_far t k false p)
early_child t taken k all p x n c pl xf xp a kc o i h f l more =
    let d : distinct (pl.ps ++ c ∷ pl.cs) ≡ true = ap distinct (sym pl.columns_are) ∙ (table_facts t).0 in
    let push = pushed t [] p x n c pl xf xp a kc o (λ w. refl) in
    let g : has (behind_metadata (columns t)) x.0 ≡ false = ap (λ (z : List Column). has (behind_metadata z) x.0) pl.columns_are ∙ ap (has (behind_metadata (pl.ps ++ c ∷ pl.cs))) xf ∙ early_apart pl.ps c pl.cs h (later_apart pl.ps c pl.cs d) in
    let e : by_columns [] (behind_metadata (columns t)) (p ++ x ∷ []) ≡ [] = columns_other [] (behind_metadata (columns t)) p x g ∙ f in
    let b : List Child = by_columns [] (columns t) p in
    let m : Lean t (p ++ x ∷ []) (by_columns [] (columns t) (p ++ x ∷ [])) = subst (Lean t (p ++ x ∷ [])) (sym push) (lean_both t p b x l) in
    rest_child t taken k all p b n x i l o (subst (Rest t taken k all) push (more false e m))

column_child : (t : Table) (taken : List Text) (k all p : List Child) (x : Child) (n : Text) (c : Column) (pl : Place (columns t) n c) → x.0 ≡ c.field → put x [] ≡ x ∷ [] → is_ack t ≡ false → column_of (columns t) n ≡ Some c → Opens t p n → Piece t taken p n x
    → AllByRecursion (KeptPiece t taken) k → (late : Bool) → LateIs t late p → Lean t p (so_far t k late p) → ((late : Bool) → LateIs t late (p ++ x ∷ []) → Lean t (p ++ x ∷ []) (so_far t k late (p ++ x ∷ [])) → Rest t taken k all (so_far t k late (p ++ x ∷ [])))
    → (behind : Bool) → has pl.ps fields.Metadata ≡ behind → Rest t taken k all (so_far t k late p)
column_child t taken k all p x n c pl xf xp a kc o i ak false f l more false h = early_child t taken k all p x n c pl xf xp a kc o i h f l more
column_child t taken k all p x n c pl xf xp a kc o i ak true f l more true h = late_child t taken k all p x n c pl xf xp a kc o i h l more
column_child t taken k all p x n c pl xf xp a kc o i ak true f l more false h =
    let e : any_seen (behind_metadata (columns t)) (fields_of p) ≡ false = ap (λ (z : List Column). any_seen (behind_metadata z) (fields_of p)) pl.columns_are ∙ early_unseen pl.ps c pl.cs (fields_of p) h (opens_last t p n c pl a kc o) in
    absurd (let q : true ≡ false = sym f ∙ e in cc)
column_child t taken k all p x n c pl xf xp a kc o i ak false f l more true h =
    let b : List Child = by_columns [] (columns t) p in
    let m : has (columns t) fields.Metadata ≡ true = ap (λ (z : List Column). has z fields.Metadata) pl.columns_are ∙ has_in pl.ps (c ∷ pl.cs) fields.Metadata h in
    let e : by_columns k (columns t) p ≡ b ++ k = columns_put k (columns t) p (table_facts t).0 f ∙ ap (λ (z : Bool). b ++ cond z k []) m in
    let l2 : Lean t p (by_columns k (columns t) p) = subst (Lean t p) (sym e) (lean_kept t taken k p b ak l) in
    rest_kept t taken k all b k ak (subst (Rest t taken k all) e (late_child t taken k all p x n c pl xf xp a kc o i h l2 more))

-- children that change nothing of what was written so far
late_same : (t : Table) (p : List Child) (x : Child) (late : Bool) → (by_columns [] (behind_metadata (columns t)) (p ++ x ∷ []) ≡ by_columns [] (behind_metadata (columns t)) p) → LateIs t late p → LateIs t late (p ++ x ∷ [])
late_same t p x false e f = e ∙ f
late_same t p x true e f = ap (any_seen (behind_metadata (columns t))) (fields_push p x) ∙ still_seen (behind_metadata (columns t)) (fields_of p) x.0 f

passed_over : (t : Table) (taken : List Text) (k all p : List Child) (x : Child) (late : Bool) → IsQuiet t x → AllByRecursion (MayLack x.0) (columns t) → ((j : List Child) → by_columns j (columns t) (p ++ x ∷ []) ≡ by_columns j (columns t) p)
    → (by_columns [] (behind_metadata (columns t)) (p ++ x ∷ []) ≡ by_columns [] (behind_metadata (columns t)) p) → LateIs t late p → Lean t p (so_far t k late p)
    → ((late : Bool) → LateIs t late (p ++ x ∷ []) → Lean t (p ++ x ∷ []) (so_far t k late (p ++ x ∷ [])) → Rest t taken k all (so_far t k late (p ++ x ∷ []))) → Rest t taken k all (so_far t k late p)
passed_over t taken k all p x late q m e b f l more =
    let s : so_far t k late (p ++ x ∷ []) ≡ so_far t k late p = e (cond late k []) in
    subst (Rest t taken k all) s (more late (late_same t p x late b f) (subst (Lean t (p ++ x ∷ [])) (sym s) (lean_left t p (so_far t k late p) x l q m)))

child_after_child : (t : Table) (taken : List Text) (k p post : List Child) → is_ack t ≡ false → AllByRecursion (KeptPiece t taken) k → AllPieces t taken p post → (late : Bool) → LateIs t late p → Lean t p (so_far t k late p) → end_fault t (p ++ post) ≡ None
    → Rest t taken k (p ++ post) (so_far t k late p)
child_after_child t taken k p [] a ak w late f l e = at_end t taken k p ak late f l e
child_after_child t taken k p (c ∷ cs) a ak w late f l e =
    go c w.0 (λ z g m. subst (λ (v : List Child). Rest t taken k v (so_far t k z (p ++ c ∷ []))) (append_assoc p (c ∷ []) cs) (child_after_child t taken k (p ++ c ∷ []) cs a ak w.1 z g m (further t p cs c e)))
  where
    go : (c : Child) → ChildPiece t taken p c → ((z : Bool) → LateIs t z (p ++ c ∷ []) → Lean t (p ++ c ∷ []) (so_far t k z (p ++ c ∷ [])) → Rest t taken k (p ++ c ∷ cs) (so_far t k z (p ++ c ∷ []))) → Rest t taken k (p ++ c ∷ cs) (so_far t k late p)
    go d (unwritten g q m) more = passed_over t taken k (p ++ (g, []) ∷ cs) p (g, []) late q m (λ j. columns_nothing j (columns t) p g) (columns_nothing [] (behind_metadata (columns t)) p g) f l more
    go d (in_column c n x xs kc o i) more =
        let pl = place_of (columns t) n c kc in
        column_child t taken k (p ++ (c.field, x ∷ xs) ∷ cs) p (c.field, x ∷ xs) n c pl refl refl a kc o i ak late f l more (has pl.ps fields.Metadata) refl
    go d (in_others c (kept_piece n x kc o i)) more =
        let h : has (columns t) fields.Kept ≡ false = (table_facts t).3 in
        let y : Child = (fields.Kept, raw fields.Kept x ∷ []) in
        passed_over t taken k (p ++ y ∷ cs) p y late (kept_quiet t x) (apart_may_lack fields.Kept (columns t) (no_kept t)) (λ j. columns_other j (columns t) p y h) (columns_other [] (behind_metadata (columns t)) p y (has_behind (columns t) fields.Kept h)) f l more

-- ---- the whole record

pub canonical_of : (t : Table) (taken : List Text) (all : List Child) → AllPieces t taken [] all → end_fault t all ≡ None → Canonical t taken (arranged t all)
canonical_of t taken all w e = go (is_ack t) refl
  where
    made : Builds t taken [] (in_order t all) → Canonical t taken (arranged t all)
    made b = record {
      children = in_order t all;
      tokens = b.tokens;
      content = b.content;
      written = subst (λ (z : List Event). WritesFront b.tokens (canonical z)) (order_flat t all) b.written;
      names = subst (AllByRecursion HasNames) (order_flat t all) b.names;
      value = order_again t all;
    }

    go : (b : Bool) → is_ack t ≡ b → Canonical t taken (arranged t all)
    go true a = made (subst (Builds t taken []) (sym (rw a refl)) (as_they_came t taken [] [] all a w (lean_none t) e))
    go false a =
        let k : List Child = select fields.Kept all in
        let none : by_columns [] (columns t) [] ≡ [] = columns_none (columns t) in
        let r : Rest t taken k all (by_columns [] (columns t) []) = child_after_child t taken k [] all a (kept_children t taken [] all w) w false (columns_none (behind_metadata (columns t))) (subst (Lean t []) (sym none) (lean_none t)) e in
        let q : Rest t taken k all [] = subst (Rest t taken k all) none r in
        made (subst (Builds t taken []) (q.whole ∙ sym (rw a refl)) q.built)
