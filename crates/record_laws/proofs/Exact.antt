-- The fault of a token is the one that its rows tell.
use Rattle.std.proofs.Common.{◌≡◌, ◌≤◌, ◌<◌, Bool, true, false, cond, List, [], ◌∷◌, ◌++◌, Option, Some, None, Result, Ok, Err, refl, sym, ap, subst, ◌∙◌, arith, ◌⊎◌, inl, inr}
use Rattle.std.specs.Prelude.{nat_lt, ◌↔◌}
use Rattle.std.proofs.lemmas.Bool.{ltb-true, ltb-false}
use Rattle.mos_fields.specs.declared.field.Field.{Field}
use Rattle.mos_fields.specs.Characters.{Text}
use Rattle.mos_fields.specs.Fields.{same, name_of}
use Rattle.mos_fields.specs.Forms.{among, is_white}
use Rattle.mos_fields.specs.Raw.{is_tail}
use Rattle.mos_tables.specs.declared.column.Column.{Column}
use Rattle.mos_tables.specs.declared.table.Table.{Table}
use Rattle.mos_tables.specs.declared.table.Table.TheVariants.{Envelope}
use Rattle.mos_tables.specs.Events.{Attribute, Event}
use Rattle.mos_tables.specs.Tables.{columns, attribute_of_table, attribute_of_form, words_of}
use Rattle.mos_grammar.specs.declared.fault.Fault.{Fault}
use Rattle.mos_grammar.specs.declared.fault.Fault.TheVariants.{Twice as twice, Order as out_of_order, Missing as missing, Value as wrong_value, Tag as misplaced}
use Rattle.mos_grammar.specs.Tokens.{Token, open_tag, empty_tag, close_tag, text, tail, mark, declaration}
use Rattle.mos_grammar.specs.Records.{Child, seen_of, column_of, field_fault, wanted, end_fault, values_of, value_fault, attribute_fault, OpenField, Role, out_of_place, leaf_role, raw_role, record_role, role, field_events, text_fault, order_of, earlier, role_fault, inside_fault, if_field, outside_fault, Admission, not_admitted, admitted_leaf, admitted_raw, admitted_record, admitted, admission, empty_admission, raw_events}
use Rattle.mos_grammar.specs.RecordMachine.{Frame, State, at, complete, between, in_field, behind_text, in_raw, after_start_tag, with_child, after_field, after_empty_tag, after_end_tag, after_text, empty_text_fault, step, opening}
use Rattle.mos_grammar.specs.Streams.{behind_mark, behind_declaration, mos_name, may_mark, may_declare, Position, before_message, inside, inside_of, bare_fault, message_step}
use Rattle.mos_grammar.specs.Kinds.{fault_of}
use Rattle.record_laws.specs.Rows.{EndRow, IsWrong}
use Rattle.record_laws.specs.Told.{Sooner, FieldTold, ValuesTold, AttributeTold, ElementTold, RoomTold, TagTold, BetweenTold, InFieldTold, StateTold, TokenTold}
use Rattle.record_laws.specs.Laws.{FaultsAreExact}
use Rattle.record_laws.proofs.RowLemmas.{end_row, row_end, is_column}
use Rattle.record_laws.proofs.RowsTold.{wrong_is, is_wrong, by_room, room_by}
use Rattle.record_laws.proofs.FieldFaults.{twice_by_table, order_by_table, lack_told, never_value}
use Rattle.record_laws.proofs.Elements.{empty_leaf_reads, empty_record_ends}

-- ---- one fault, or none

abbrev pub Exactly : (Fault → Type 0) → Option Fault → Type 0
Exactly P a = (k : Fault) → (a ≡ Some k) ↔ P k

no_fault : (k : Fault) → ◌≡◌ {A = Option Fault} None (Some k) → ⊥
no_fault k e = cc

some_is : (a b : Fault) → ◌≡◌ {A = Option Fault} (Some a) (Some b) → a ≡ b
some_is a b e = cc

as_some : (a b : Fault) → a ≡ b → ◌≡◌ {A = Option Fault} (Some a) (Some b)
as_some a b e = rw e refl

exact_none : Exactly (λ k. ⊥) None
exact_none k = ((λ h. no_fault k h), λ h. absurd h)

exact_one : (f : Fault) → Exactly (λ k. k ≡ f) (Some f)
exact_one f k = ((λ h. sym (some_is f k h)), λ h. as_some f k (sym h))

-- under a test
exact_if : (b : Bool) (f : Fault) → Exactly (λ k. (b ≡ false) × (k ≡ f)) (cond b None (Some f))
exact_if true f k = ((λ h. absurd (no_fault k h)), λ h. (let e = h.0 in absurd cc))
exact_if false f k = ((λ h. (refl, sym (some_is f k h))), λ h. as_some f k (sym h.1))

exact_as : (P Q : Fault → Type 0) (a : Option Fault) → ((k : Fault) → P k → Q k) → ((k : Fault) → Q k → P k) → Exactly P a → Exactly Q a
exact_as P Q a to from e k = ((λ h. to k ((e k).0 h)), λ h. (e k).1 (from k h))

sooner_exact : (P Q : Fault → Type 0) (a b : Option Fault) → Exactly P a → Exactly Q b → Exactly (Sooner P Q) (earlier a b)
sooner_exact P Q None None p q k = ((λ h. absurd (no_fault k h)), back)
  where
    back : Sooner P Q k → None ≡ Some k
    back (inl h) = (p k).1 h.0
    back (inr h) = (q k).1 h.0
sooner_exact P Q None (Some g) p q k = ((λ h. inr ((q k).0 h, λ j w. absurd (no_fault j ((p j).1 w)))), back)
  where
    back : Sooner P Q k → Some g ≡ Some k
    back (inl h) = absurd (no_fault k ((p k).1 h.0))
    back (inr h) = (q k).1 h.0
sooner_exact P Q (Some f) None p q k = ((λ h. inl ((p k).0 h, λ j w. absurd (no_fault j ((q j).1 w)))), back)
  where
    back : Sooner P Q k → Some f ≡ Some k
    back (inl h) = (p k).1 h.0
    back (inr h) = absurd (no_fault k ((q k).1 h.0))
sooner_exact P Q (Some f) (Some g) p q k = go (nat_lt (order_of g) (order_of f)) refl
  where
    is_f : (j : Fault) → P j → order_of j ≡ order_of f
    is_f j w = ap order_of (sym (some_is f j ((p j).1 w)))

    is_g : (j : Fault) → Q j → order_of j ≡ order_of g
    is_g j w = ap order_of (sym (some_is g j ((q j).1 w)))

    later : order_of g < order_of f → Sooner P Q k → Some g ≡ Some k
    later l (inl h) = (let m = h.1 g ((q g).0 refl) in let e = is_f k h.0 in absurd (omega arith))
    later l (inr h) = (q k).1 h.0

    sooner : order_of f ≤ order_of g → Sooner P Q k → Some f ≡ Some k
    sooner l (inl h) = (p k).1 h.0
    sooner l (inr h) = (let m = h.1 f ((p f).0 refl) in let e = is_g k h.0 in absurd (omega arith))

    go : (b : Bool) → nat_lt (order_of g) (order_of f) ≡ b → (cond b (Some g) (Some f) ≡ Some k) ↔ Sooner P Q k
    go true e = (
      (λ h. inr ((q k).0 h, λ j w. (let l = ltb-true (order_of g) (order_of f) e in let m = is_f j w in let o = ap order_of (some_is g k h) in omega arith))),
      λ h. later (ltb-true (order_of g) (order_of f) e) h,
    )
    go false e = (
      (λ h. inl ((p k).0 h, λ j w. (let l = ltb-false (order_of g) (order_of f) e in let m = is_g j w in let o = ap order_of (some_is f k h) in omega arith))),
      λ h. sooner (ltb-false (order_of g) (order_of f) e) h,
    )

-- ---- the parts of a tag

field_exact : (t : Table) (before : List Child) (n : Text) → Exactly (FieldTold (columns t) (seen_of t before) n) (outside_fault t before n)
field_exact t before n = go (column_of (columns t) n) refl
  where
    no_column : (c : Column) → ◌≡◌ {A = Option Column} None (Some c) → ⊥
    no_column c e = cc

    some : (c : Column) → column_of (columns t) n ≡ Some c → (k : Fault) → (field_fault (columns t) (seen_of t before) n ≡ Some k) ↔ FieldTold (columns t) (seen_of t before) n k
    some c is (twice f) = twice_by_table (columns t) (seen_of t before) n f
    some c is (out_of_order f) = order_by_table (columns t) (seen_of t before) n f
    some c is (missing f) = lack_told (columns t) (seen_of t before) n c (missing f) is tt
    some c is (wrong_value f) = ((λ h. never_value (columns t) (seen_of t before) n c f is h), λ h. absurd h)
    some c is misplaced = lack_told (columns t) (seen_of t before) n c misplaced is tt

    none : column_of (columns t) n ≡ None → (k : Fault) → FieldTold (columns t) (seen_of t before) n k → ⊥
    none is (twice f) h = no_column h.column (sym is ∙ (is_column h.is).0)
    none is (out_of_order f) h = no_column h.column (sym is ∙ (is_column h.is).0)
    none is (missing f) h = (let m = h.1.0 in no_column m.column (sym is ∙ (is_column m.is).0))
    none is (wrong_value f) h = h
    none is misplaced h = (let m = h.1.1 in no_column m.column (sym is ∙ (is_column m.is).0))

    go : (x : Option Column) → column_of (columns t) n ≡ x → Exactly (FieldTold (columns t) (seen_of t before) n) (if_field x (field_fault (columns t) (seen_of t before) n))
    go (Some c) is = some c is
    go None is = λ k. ((λ h. absurd (no_fault k h)), λ h. absurd (none is k h))

values_exact : (a : Field) (vs : List Text) → Exactly (ValuesTold a vs) (value_fault a vs)
values_exact a [] = exact_one (missing a)
values_exact a (v ∷ []) = exact_if (among v (words_of a)) (wrong_value a)
values_exact a (v ∷ w ∷ vs) = exact_one (twice a)

attribute_exact : (a : Option Field) (g : List Attribute) → Exactly (AttributeTold a g) (attribute_fault a g)
attribute_exact None g = exact_none
attribute_exact (Some a) g = values_exact a (values_of (name_of a) g)

no_events : (es : List Event) → ◌≡◌ {A = Option (List Event)} (Some es) None → ⊥
no_events es e = cc

text_exact : (n : Text) (o : OpenField) (taken : List Text) (y : Text) → Exactly (λ k. IsWrong o taken y × (k ≡ wrong_value o.field)) (text_fault o (field_events n o taken y))
text_exact n o taken y = go (field_events n o taken y) refl
  where
    go : (x : Option (List Event)) → field_events n o taken y ≡ x → Exactly (λ k. IsWrong o taken y × (k ≡ wrong_value o.field)) (text_fault o x)
    go None e k = ((λ h. (wrong_is n o taken y e, sym (some_is (wrong_value o.field) k h))), λ h. as_some (wrong_value o.field) k (sym h.1))
    go (Some es) e k = ((λ h. absurd (no_fault k h)), λ h. absurd (no_events es (sym e ∙ is_wrong n o taken y h.0)))

end_exact : (u : Table) (before : List Child) → Exactly (EndRow (wanted u (seen_of u before)) (seen_of u before)) (end_fault u before)
unfolding end_fault
end_exact u before k = (end_row (wanted u (seen_of u before)) (seen_of u before) k, row_end (wanted u (seen_of u before)) (seen_of u before) k)

empty_end_exact : (u : Table) → Exactly (EndRow (wanted u []) []) (end_fault u [])
unfolding end_fault seen_of
empty_end_exact u k = (end_row (wanted u []) [] k, row_end (wanted u []) [] k)

-- where the tag is an empty one
when : (P : Fault → Type 0) (a : Option Fault) (empty : Bool) → Exactly P a → Exactly (λ k. (empty ≡ true) × P k) (cond empty a None)
when P a true e k = ((λ h. (refl, (e k).0 h)), λ h. (e k).1 h.1)
when P a false e k = ((λ h. absurd (no_fault k h)), λ h. (let w = h.0 in absurd cc))

-- ---- tags

leaf_kept : (o : OpenField) (x : Option Fault) → x ≡ fault_of (admitted (leaf_role o) x)
leaf_kept o None = refl
leaf_kept o (Some k) = refl

raw_kept : (p : Field) (x : Option Fault) → x ≡ fault_of (admitted (raw_role p) x)
raw_kept p None = refl
raw_kept p (Some k) = refl

record_kept : (p : Field) (u : Table) (i : List Attribute) (x : Option Fault) → x ≡ fault_of (admitted (record_role p u i) x)
record_kept p u i None = refl
record_kept p u i (Some k) = refl

refused_kept : (x : Option Fault) → earlier x (Some misplaced) ≡ fault_of (admitted out_of_place x)
refused_kept None = refl
refused_kept (Some (twice f)) = refl
refused_kept (Some (out_of_order f)) = refl
refused_kept (Some (missing f)) = refl
refused_kept (Some (wrong_value f)) = refl
refused_kept (Some misplaced) = refl

earlier_right : (a : Option Fault) → earlier a None ≡ a
earlier_right None = refl
earlier_right (Some f) = refl

if_none : (b : Bool) → ◌≡◌ {A = Option Fault} (cond b None None) None
if_none true = refl
if_none false = refl

role_exact : (n : Text) (w : Role) (taken : List Text) (g : List Attribute) (empty : Bool) (P : Fault → Type 0) (a : Option Fault) → Exactly P a
    → Exactly (Sooner P (ElementTold w taken g empty)) (fault_of (admitted w (earlier a (earlier (role_fault w g) (cond empty (inside_fault n w taken) None)))))
role_exact n out_of_place taken g empty P a p =
    subst (Exactly (Sooner P (λ k. k ≡ misplaced))) (refused_kept a ∙ ap (λ (x : Option Fault). fault_of (admitted out_of_place x)) (sym (ap (earlier a) (if_none empty) ∙ earlier_right a))) (sooner_exact P (λ k. k ≡ misplaced) a (Some misplaced) p (exact_one misplaced))
role_exact n (leaf_role o) taken g empty P a p =
    let inner = sooner_exact (AttributeTold (attribute_of_form o.form) g) (λ j. (empty ≡ true) × (IsWrong o taken [] × (j ≡ wrong_value o.field))) (attribute_fault (attribute_of_form o.form) g) (cond empty (text_fault o (field_events n o taken [])) None)
    (attribute_exact (attribute_of_form o.form) g) (when (λ j. IsWrong o taken [] × (j ≡ wrong_value o.field)) (text_fault o (field_events n o taken [])) empty (text_exact n o taken [])) in
    subst (Exactly (Sooner P (ElementTold (leaf_role o) taken g empty))) (leaf_kept o (earlier a (earlier (attribute_fault (attribute_of_form o.form) g) (cond empty (text_fault o (field_events n o taken [])) None))))
    (sooner_exact P (ElementTold (leaf_role o) taken g empty) a (earlier (attribute_fault (attribute_of_form o.form) g) (cond empty (text_fault o (field_events n o taken [])) None)) p
    (exact_as (Sooner (AttributeTold (attribute_of_form o.form) g) (λ j. (empty ≡ true) × (IsWrong o taken [] × (j ≡ wrong_value o.field)))) (ElementTold (leaf_role o) taken g empty) (earlier (attribute_fault (attribute_of_form o.form) g) (cond empty (text_fault o (field_events n o taken [])) None)) to from inner))
  where
    to : (k : Fault) → Sooner (AttributeTold (attribute_of_form o.form) g) (λ j. (empty ≡ true) × (IsWrong o taken [] × (j ≡ wrong_value o.field))) k → ElementTold (leaf_role o) taken g empty k
    to k (inl h) = inl (h.0, λ j q. h.1 j (q.0, (q.1, q.2)))
    to k (inr h) = inr ((h.0.0, h.0.1.0, h.0.1.1), h.1)

    from : (k : Fault) → ElementTold (leaf_role o) taken g empty k → Sooner (AttributeTold (attribute_of_form o.form) g) (λ j. (empty ≡ true) × (IsWrong o taken [] × (j ≡ wrong_value o.field))) k
    from k (inl h) = inl (h.0, λ j q. h.1 j (q.0, q.1.0, q.1.1))
    from k (inr h) = inr ((h.0.0, (h.0.1, h.0.2)), h.1)
role_exact n (raw_role f) taken g empty P a p =
    subst (Exactly (Sooner P (λ k. ⊥))) (ap (earlier a) (sym (if_none empty)) ∙ raw_kept f (earlier a (cond empty None None))) (sooner_exact P (λ k. ⊥) a None p exact_none)
role_exact n (record_role f u i) taken g empty P a p =
    let inner = sooner_exact (AttributeTold (attribute_of_table u) g) (λ j. (empty ≡ true) × EndRow (wanted u []) [] j) (attribute_fault (attribute_of_table u) g) (cond empty (end_fault u []) None)
    (attribute_exact (attribute_of_table u) g) (when (EndRow (wanted u []) []) (end_fault u []) empty (empty_end_exact u)) in
    subst (Exactly (Sooner P (ElementTold (record_role f u i) taken g empty))) (record_kept f u i (earlier a (earlier (attribute_fault (attribute_of_table u) g) (cond empty (end_fault u []) None))))
    (sooner_exact P (ElementTold (record_role f u i) taken g empty) a (earlier (attribute_fault (attribute_of_table u) g) (cond empty (end_fault u []) None)) p inner)

-- the element that there is room for, or none
sooner_as : (P Q R : Fault → Type 0) → ((k : Fault) → Q k → R k) → ((k : Fault) → R k → Q k) → (k : Fault) → Sooner P Q k → Sooner P R k
sooner_as P Q R to from k (inl h) = inl (h.0, λ j w. h.1 j (from j w))
sooner_as P Q R to from k (inr h) = inr (to k h.0, h.1)

tag_exact : (t : Table) (taken : List Text) (before : List Child) (n : Text) (g : List Attribute) (empty : Bool)
    → Exactly (TagTold t taken before n g empty) (fault_of (admitted (role t before n g) (earlier (outside_fault t before n) (earlier (role_fault (role t before n g) g) (cond empty (inside_fault n (role t before n g) taken) None)))))
tag_exact t taken before n g empty =
    let P = FieldTold (columns t) (seen_of t before) n in
    let Q = ElementTold (role t before n g) taken g empty in
    let R = RoomTold t taken before n g empty in
    let to = λ (k : Fault) (h : ElementTold (role t before n g) taken g empty k). by_room t before n g (λ w. ElementTold w taken g empty k) h in
    let from = λ (k : Fault) (h : RoomTold t taken before n g empty k). room_by t before n g (λ w. ElementTold w taken g empty k) h in
    exact_as (Sooner P Q) (Sooner P R) (fault_of (admitted (role t before n g) (earlier (outside_fault t before n) (earlier (role_fault (role t before n g) g) (cond empty (inside_fault n (role t before n g) taken) None)))))
    (sooner_as P Q R to from) (sooner_as P R Q from to) (role_exact n (role t before n g) taken g empty P (outside_fault t before n) (field_exact t before n))

start_tag_exact : (t : Table) (taken : List Text) (before : List Child) (n : Text) (g : List Attribute) → Exactly (TagTold t taken before n g false) (fault_of (admission t before n g))
unfolding admission
start_tag_exact t taken before n g =
    subst (λ (x : Option Fault). Exactly (TagTold t taken before n g false) (fault_of (admitted (role t before n g) (earlier (outside_fault t before n) x)))) (earlier_right (role_fault (role t before n g) g)) (tag_exact t taken before n g false)

empty_tag_exact : (t : Table) (taken : List Text) (before : List Child) (n : Text) (g : List Attribute) → Exactly (TagTold t taken before n g true) (fault_of (empty_admission t taken before n g))
unfolding empty_admission
empty_tag_exact t taken before n g = tag_exact t taken before n g true

-- ---- steps

abbrev pub step_fault : Result State Fault → Option Fault
step_fault (Ok s) = None
step_fault (Err k) = Some k

after_start : (f : Frame) (fs : List Frame) (n tag : Text) (e : Admission) → fault_of e ≡ step_fault (after_start_tag f fs n tag e)
after_start f fs n tag (not_admitted k) = refl
after_start f fs n tag (admitted_leaf o) = refl
after_start f fs n tag (admitted_raw p) = refl
after_start f fs n tag (admitted_record p u h) = refl

after_empty : (f : Frame) (fs : List Frame) (n tag : Text) (g : List Attribute) (e : Admission) → empty_admission f.table f.taken f.before n g ≡ e → fault_of e ≡ step_fault (after_empty_tag f fs n tag e)
after_empty f fs n tag g (not_admitted k) is = refl
after_empty f fs n tag g (admitted_leaf o) is = go (field_events n o f.taken []) (empty_leaf_reads f.table f.taken f.before n g o is)
  where
    go : (x : Option (List Event)) → text_fault o x ≡ None → None ≡ step_fault (after_field f fs o x)
    go None e = absurd cc
    go (Some es) e = refl
after_empty f fs n tag g (admitted_raw p) is = refl
after_empty f fs n tag g (admitted_record p u h) is = rw (empty_record_ends f.table f.taken f.before n g p u h is) refl

after_end : (f : Frame) (fs : List Frame) (o : Option Fault) → step_fault (after_end_tag f fs o) ≡ o
after_end f fs (Some k) = refl
after_end f [] None = refl
after_end f (g ∷ gs) None = refl

exact_at : (P : Fault → Type 0) (a : Option Fault) (r : Result State Fault) → a ≡ step_fault r → Exactly P a → Exactly P (step_fault r)
exact_at P a r e p = subst (Exactly P) e p

-- a test that is passed, or Tag
tested : (b : Bool) (s : State) → Exactly (λ k. (b ≡ false) × (k ≡ misplaced)) (step_fault (cond b (Ok s) (Err misplaced)))
tested true s = exact_if true misplaced
tested false s = exact_if false misplaced

end_tag_exact : (f : Frame) (fs : List Frame) (n : Text) → Exactly (BetweenTold f (close_tag n)) (step_fault (cond (same f.name n) (after_end_tag f fs (end_fault f.table f.before)) (Err misplaced)))
end_tag_exact f fs n = go (same f.name n)
  where
    go : (b : Bool) → Exactly (λ k. ((b ≡ false) × (k ≡ misplaced)) ⊎ ((b ≡ true) × EndRow (wanted f.table (seen_of f.table f.before)) (seen_of f.table f.before) k)) (step_fault (cond b (after_end_tag f fs (end_fault f.table f.before)) (Err misplaced)))
    go true k = ((λ h. inr (refl, (end_exact f.table f.before k).0 (sym (after_end f fs (end_fault f.table f.before)) ∙ h))), back)
      where
        back : ((true ≡ false) × (k ≡ misplaced)) ⊎ ((true ≡ true) × EndRow (wanted f.table (seen_of f.table f.before)) (seen_of f.table f.before) k) → step_fault (after_end_tag f fs (end_fault f.table f.before)) ≡ Some k
        back (inl h) = (let e = h.0 in absurd cc)
        back (inr h) = after_end f fs (end_fault f.table f.before) ∙ (end_exact f.table f.before k).1 h.1
    go false k = ((λ h. inl (refl, sym (some_is misplaced k h))), back)
      where
        back : ((false ≡ false) × (k ≡ misplaced)) ⊎ ((false ≡ true) × EndRow (wanted f.table (seen_of f.table f.before)) (seen_of f.table f.before) k) → Some misplaced ≡ Some k
        back (inl h) = as_some misplaced k (sym h.1)
        back (inr h) = (let e = h.0 in absurd cc)

-- a tag behind the start tag of a field
unfit_is : (o : OpenField) (x : Option (List Event)) → earlier (text_fault o x) (Some misplaced) ≡ Some (empty_text_fault o x)
unfit_is o None = refl
unfit_is o (Some es) = refl

unfit_exact : (n : Text) (o : OpenField) (taken : List Text) → Exactly (Sooner (λ j. IsWrong o taken [] × (j ≡ wrong_value o.field)) (λ j. j ≡ misplaced)) (Some (empty_text_fault o (field_events n o taken [])))
unfit_exact n o taken =
    subst (Exactly (Sooner (λ j. IsWrong o taken [] × (j ≡ wrong_value o.field)) (λ j. j ≡ misplaced))) (unfit_is o (field_events n o taken []))
    (sooner_exact (λ j. IsWrong o taken [] × (j ≡ wrong_value o.field)) (λ j. j ≡ misplaced) (text_fault o (field_events n o taken [])) (Some misplaced) (text_exact n o taken []) (exact_one misplaced))

close_is : (f : Frame) (fs : List Frame) (o : OpenField) (b : Bool) (x : Option (List Event)) → earlier (text_fault o x) (cond b None (Some misplaced)) ≡ step_fault (cond b (after_field f fs o x) (Err (empty_text_fault o x)))
close_is f fs o true None = refl
close_is f fs o true (Some es) = refl
close_is f fs o false None = refl
close_is f fs o false (Some es) = refl

close_exact : (f : Frame) (fs : List Frame) (n m : Text) (o : OpenField) → Exactly (InFieldTold f n o (close_tag m)) (step_fault (cond (same n m) (after_field f fs o (field_events n o f.taken [])) (Err (empty_text_fault o (field_events n o f.taken [])))))
close_exact f fs n m o =
    subst (Exactly (InFieldTold f n o (close_tag m))) (close_is f fs o (same n m) (field_events n o f.taken []))
    (sooner_exact (λ j. IsWrong o f.taken [] × (j ≡ wrong_value o.field)) (λ j. (same n m ≡ false) × (j ≡ misplaced)) (text_fault o (field_events n o f.taken [])) (cond (same n m) None (Some misplaced)) (text_exact n o f.taken []) (exact_if (same n m) misplaced))

text_is : (f : Frame) (fs : List Frame) (n : Text) (o : OpenField) (x : Option (List Event)) → text_fault o x ≡ step_fault (after_text f fs n o x)
text_is f fs n o None = refl
text_is f fs n o (Some es) = refl

state_exact : (s : State) (t : Token) → Exactly (StateTold s t) (step_fault (step s t))
unfolding step
state_exact (complete v) t = exact_one misplaced
state_exact (at between f fs) (open_tag n g tag) = subst (Exactly (TagTold f.table f.taken f.before n g false)) (after_start f fs n tag (admission f.table f.before n g)) (start_tag_exact f.table f.taken f.before n g)
state_exact (at between f fs) (empty_tag n g tag) = subst (Exactly (TagTold f.table f.taken f.before n g true)) (after_empty f fs n tag g (empty_admission f.table f.taken f.before n g) refl) (empty_tag_exact f.table f.taken f.before n g)
state_exact (at between f fs) (close_tag n) = end_tag_exact f fs n
state_exact (at between f fs) (text x y) = tested (is_white x) (at between f fs)
state_exact (at between f fs) (tail x) = exact_one misplaced
state_exact (at between f fs) mark = exact_one misplaced
state_exact (at between f fs) declaration = exact_one misplaced
state_exact (at (in_field n o) f fs) (text x y) = subst (Exactly (λ k. IsWrong o f.taken y × (k ≡ wrong_value o.field))) (text_is f fs n o (field_events n o f.taken y)) (text_exact n o f.taken y)
state_exact (at (in_field n o) f fs) (close_tag m) = close_exact f fs n m o
state_exact (at (in_field n o) f fs) (open_tag m g tag) = unfit_exact n o f.taken
state_exact (at (in_field n o) f fs) (empty_tag m g tag) = unfit_exact n o f.taken
state_exact (at (in_field n o) f fs) (tail x) = exact_one misplaced
state_exact (at (in_field n o) f fs) mark = exact_one misplaced
state_exact (at (in_field n o) f fs) declaration = exact_one misplaced
state_exact (at (behind_text n o es) f fs) (close_tag m) = tested (same n m) (with_child f fs (o.field, es))
state_exact (at (behind_text n o es) f fs) (open_tag m g tag) = exact_one misplaced
state_exact (at (behind_text n o es) f fs) (empty_tag m g tag) = exact_one misplaced
state_exact (at (behind_text n o es) f fs) (text x y) = exact_one misplaced
state_exact (at (behind_text n o es) f fs) (tail x) = exact_one misplaced
state_exact (at (behind_text n o es) f fs) mark = exact_one misplaced
state_exact (at (behind_text n o es) f fs) declaration = exact_one misplaced
state_exact (at (in_raw n p tag) f fs) (tail x) = tested (is_tail n x) (with_child f fs (p, raw_events p (tag ++ x)))
state_exact (at (in_raw n p tag) f fs) (close_tag m) = exact_one misplaced
state_exact (at (in_raw n p tag) f fs) (open_tag m g a) = exact_one misplaced
state_exact (at (in_raw n p tag) f fs) (empty_tag m g a) = exact_one misplaced
state_exact (at (in_raw n p tag) f fs) (text x y) = exact_one misplaced
state_exact (at (in_raw n p tag) f fs) mark = exact_one misplaced
state_exact (at (in_raw n p tag) f fs) declaration = exact_one misplaced

-- ---- positions

abbrev pub position_fault : Result Position Fault → Option Fault
position_fault (Ok p) = None
position_fault (Err k) = Some k

inside_is : (r : Result State Fault) → step_fault r ≡ position_fault (inside_of r)
inside_is (Ok s) = refl
inside_is (Err k) = refl

tested_position : (b : Bool) (p : Position) → Exactly (λ k. (b ≡ false) × (k ≡ misplaced)) (position_fault (cond b (Ok p) (Err misplaced)))
tested_position true p = exact_if true misplaced
tested_position false p = exact_if false misplaced

-- an empty tag of a message's name lacks the first field of an envelope
bare_is : (b : Bool) → earlier (cond b (end_fault Envelope []) None) (Some misplaced) ≡ Some (cond b (bare_fault (end_fault Envelope [])) misplaced)
unfolding end_fault seen_of
bare_is true = refl
bare_is false = refl

bare_exact : (n : Text) → Exactly (Sooner (λ j. (same mos_name n ≡ true) × EndRow (columns Envelope) [] j) (λ j. j ≡ misplaced)) (Some (cond (same mos_name n) (bare_fault (end_fault Envelope [])) misplaced))
bare_exact n =
    subst (Exactly (Sooner (λ j. (same mos_name n ≡ true) × EndRow (columns Envelope) [] j) (λ j. j ≡ misplaced))) (bare_is (same mos_name n))
    (sooner_exact (λ j. (same mos_name n ≡ true) × EndRow (columns Envelope) [] j) (λ j. j ≡ misplaced) (cond (same mos_name n) (end_fault Envelope []) None) (Some misplaced)
    (when (EndRow (columns Envelope) []) (end_fault Envelope []) (same mos_name n) (empty_end_exact Envelope)) (exact_one misplaced))

position_exact : (p : Position) (t : Token) → Exactly (TokenTold p t) (position_fault (message_step p t))
unfolding message_step
position_exact (inside s) t = subst (Exactly (StateTold s t)) (inside_is (step s t)) (state_exact s t)
position_exact (before_message g) (open_tag n a tag) = tested_position (same mos_name n) (inside (opening Envelope mos_name))
position_exact (before_message g) (empty_tag n a tag) = bare_exact n
position_exact (before_message g) (close_tag n) = exact_one misplaced
position_exact (before_message g) (text x y) = tested_position (is_white x) (before_message g)
position_exact (before_message g) (tail x) = exact_one misplaced
position_exact (before_message g) mark = tested_position (may_mark g) (before_message behind_mark)
position_exact (before_message g) declaration = tested_position (may_declare g) (before_message behind_declaration)

pub faults_exact : FaultsAreExact
faults_exact p t k = ((λ h. (position_exact p t k).0 (ap position_fault h)), λ h. back (message_step p t) ((position_exact p t k).1 h))
  where
    back : (r : Result Position Fault) → position_fault r ≡ Some k → r ≡ Err k
    back (Ok q) e = absurd (no_fault k e)
    back (Err j) e = ap Err (some_is j k e)
