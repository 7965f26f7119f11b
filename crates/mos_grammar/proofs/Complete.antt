-- Whatever a state was reached by, some tokens end its record.
use Rattle.std.proofs.Common.{◌≡◌, ℕ, zero, suc, ◌+◌, ◌<◌, ◌≤◌, Bool, true, false, cond, List, [], ◌∷◌, ◌++◌, length, Option, Some, None, Result, Ok, Err, refl, sym, ap, subst, ◌∙◌, append_assoc, arith, inl}
use Rattle.std.specs.Prelude.{◌&&◌, not, nat_lt, codes}
use Rattle.std.proofs.lemmas.List.{append-nil, length-append}
use Rattle.std.proofs.lemmas.Bool.{ltb-true}
use Rattle.mos_fields.specs.declared.field.Field.TheVariants as fields
use Rattle.mos_fields.specs.declared.form.Form.TheVariants as forms
use Rattle.mos_fields.specs.declared.field.Field.{Field}
use Rattle.mos_tables.specs.declared.column.Column.{Column}
use Rattle.mos_fields.specs.declared.operation.Operation.{Operation}
use Rattle.mos_fields.specs.declared.operation.Operation.TheVariants.{Insert, Replace, Move, Delete, Swap}
use Rattle.mos_tables.specs.declared.aim.Aim.{Aim}
use Rattle.mos_tables.specs.declared.aim.Aim.TheVariants.{Nowhere, AtStory, AtItem}
use Rattle.mos_tables.specs.declared.table.Table.{Table}
use Rattle.mos_tables.specs.declared.table.Table.TheVariants.{Envelope, Body, HeaderPatch, Story, Item, MosObj, Heartbeat, NoFields, ListMachInfo, SupportedProfiles, MosAck, MosReqObj, MosReqAll, MosListAll, OneOrder, RoListAll, ElementStat, Action, Target, Source, ReadyToAir, RoAck, StorySend}
use Rattle.mos_fields.specs.declared.form.Form.{Form}
use Rattle.mos_tables.specs.declared.column.Shape.{Shape}
use Rattle.mos_tables.specs.declared.column.Shape.TheVariants.{Leaf, Raw, Record, Message}
use Rattle.mos_tables.specs.declared.others.Others.{Others}
use Rattle.mos_tables.specs.declared.others.Others.TheVariants.{Kept, Dropped, Refused}
use Rattle.mos_fields.specs.Characters.{Text}
use Rattle.mos_fields.specs.Fields.{name_of, same_field, same}
use Rattle.mos_fields.specs.Raw.{end_text, ends_with, tail_from, is_tail}
use Rattle.mos_fields.specs.Forms.{is_white, is_trimmed, reads}
use Rattle.mos_grammar.specs.Records.{times, Child, seen_behind, seen_of, least_count, is_single, is_full, is_optional, is_named, column_of, before_column, any_seen, lacks, lack_of, lacking, repeated, or_else, field_fault, wanted, end_fault, value_fault, values_of, attribute_fault, first_value, given_of, OpenField, Role, out_of_place, leaf_role, raw_role, record_role, message_of, aim_of, with_aim, message_role, role_at, other_role, role_by, role, leaf_event, field_events, text_fault, earlier, role_fault, inside_fault, if_field, outside_fault, Admission, not_admitted, admitted_leaf, admitted_raw, admitted_record, admitted, admission, empty_admission, keys, arranged, nested, raw_events, Content, ends, white_space, field, empty_leaf, empty_leaf_tag, raw_element, raw_tag, record_element, record_tag, IsRecord, BeginsRecord}
use Rattle.mos_tables.specs.Tables.{columns, others, is_ack, ack_columns, group_columns, attribute_of_table, attribute_of_form, words_of}
use Rattle.mos_tables.specs.Events.{Attribute, Event, leaf}
use Rattle.mos_grammar.specs.Tokens.{Token, open_tag, empty_tag, close_tag, text, tail, mark, declaration}
use Rattle.mos_grammar.specs.declared.fault.Fault.{Fault}
use Rattle.mos_grammar.specs.declared.fault.Fault.TheVariants.{Tag as misplaced}
use Rattle.mos_grammar.specs.RecordMachine.{Frame, add, between, in_field, behind_text, in_raw, State, at, complete, after_start_tag, with_child, after_record_tag, after_empty_tag, after_end_tag, after_text, after_field, empty_text_fault, step, opening, and_then, run}
use Rattle.mos_grammar.proofs.Sound.{same-refl, same-is, After, Rest, Reads, Takes, run_forward, run_back}
use Rattle.mos_grammar.proofs.Fresh.{fresh}
use Rattle.mos_grammar.proofs.Seen.{cond_true, times_last, lacks_single, lacks_room, has, distinct, Viable, viable_other, viable_same, viable_tag, name_for, sample_name, sample_named, apart_from, name_apart, later_apart, column_at, columns_before, repeated_at, lacking_more, lacking_last, lacking_front, seen_push}

-- ---- the tables: fields apart, names apart, and a record holds only records of smaller tables

abbrev pub rank : Table → ℕ
rank Envelope = 4
rank Body = 2
rank HeaderPatch = 0
rank Story = 1
rank Item = 0
rank MosObj = 0
rank Heartbeat = 0
rank NoFields = 0
rank ListMachInfo = 1
rank SupportedProfiles = 0
rank MosAck = 0
rank MosReqObj = 0
rank MosReqAll = 0
rank MosListAll = 1
rank OneOrder = 0
rank RoListAll = 1
rank ElementStat = 0
rank (Action o) = 3
rank (Target o) = 0
rank (Source o a) = 2
rank ReadyToAir = 0
rank RoAck = 0
rank StorySend = 0

abbrev pub is_within : ℕ → Shape → Bool
is_within r (Record t) = nat_lt (rank t) r
is_within r (Leaf f) = true
is_within r Raw = true
is_within r Message = true

abbrev pub all_within : ℕ → List Column → Bool
all_within r [] = true
all_within r (c ∷ cs) = cond (is_within r c.shape) (all_within r cs) false

-- what is checked of each table
abbrev pub is_right : Table → Bool
is_right t = cond (distinct (columns t)) (cond (apart_from [] (columns t)) (cond (all_within (rank t) (columns t)) (cond (has (columns t) fields.Kept) false (not (has (columns t) fields.Dropped))) false) false) false

sources_right : (o : Operation) (a : Aim) → is_right (Source o a) ≡ true
sources_right Insert Nowhere = refl
sources_right Insert AtStory = refl
sources_right Insert AtItem = refl
sources_right Replace Nowhere = refl
sources_right Replace AtStory = refl
sources_right Replace AtItem = refl
sources_right Move Nowhere = refl
sources_right Move AtStory = refl
sources_right Move AtItem = refl
sources_right Delete Nowhere = refl
sources_right Delete AtStory = refl
sources_right Delete AtItem = refl
sources_right Swap Nowhere = refl
sources_right Swap AtStory = refl
sources_right Swap AtItem = refl

pub tables_right : (t : Table) → is_right t ≡ true
tables_right Envelope = refl
tables_right Body = refl
tables_right HeaderPatch = refl
tables_right Story = refl
tables_right Item = refl
tables_right MosObj = refl
tables_right Heartbeat = refl
tables_right NoFields = refl
tables_right ListMachInfo = refl
tables_right SupportedProfiles = refl
tables_right MosAck = refl
tables_right MosReqObj = refl
tables_right MosReqAll = refl
tables_right MosListAll = refl
tables_right OneOrder = refl
tables_right RoListAll = refl
tables_right ElementStat = refl
tables_right (Action o) = refl
tables_right (Target o) = refl
tables_right (Source o a) = sources_right o a
tables_right ReadyToAir = refl
tables_right RoAck = refl
tables_right StorySend = refl

no_true : (a b : Bool) → cond a false (not b) ≡ true → (a ≡ false) × (b ≡ false)
no_true false false h = (refl, refl)
no_true false true h = absurd cc
no_true true b h = absurd cc

-- the facts of a table
pub table_facts : (t : Table) → (distinct (columns t) ≡ true) × (apart_from [] (columns t) ≡ true) × (all_within (rank t) (columns t) ≡ true) × (has (columns t) fields.Kept ≡ false) × (has (columns t) fields.Dropped ≡ false)
table_facts t =
    let a = cond_true (distinct (columns t)) (cond (apart_from [] (columns t)) (cond (all_within (rank t) (columns t)) (cond (has (columns t) fields.Kept) false (not (has (columns t) fields.Dropped))) false) false) (tables_right t) in
    let b = cond_true (apart_from [] (columns t)) (cond (all_within (rank t) (columns t)) (cond (has (columns t) fields.Kept) false (not (has (columns t) fields.Dropped))) false) a.1 in
    let c = cond_true (all_within (rank t) (columns t)) (cond (has (columns t) fields.Kept) false (not (has (columns t) fields.Dropped))) b.1 in
    let d = no_true (has (columns t) fields.Kept) (has (columns t) fields.Dropped) c.1 in
    (a.0, b.0, c.0, d.0, d.1)

within_at : (r : ℕ) (ps : List Column) (c : Column) (cs : List Column) → all_within r (ps ++ c ∷ cs) ≡ true → is_within r c.shape ≡ true
within_at r [] c cs h = (cond_true (is_within r c.shape) (all_within r cs) h).0
within_at r (p ∷ ps) c cs h = within_at r ps c cs (cond_true (is_within r p.shape) (all_within r (ps ++ c ∷ cs)) h).1

with_aim_rank : (before : List Child) (t : Table) → rank (with_aim before t) ≡ rank t
with_aim_rank before (Source o a) = refl
with_aim_rank before t = refl

-- ---- roAck: behind a group

ack_columns_are : (t : Table) → is_ack t ≡ true → columns t ≡ ack_columns ++ group_columns
ack_columns_are RoAck h = refl
ack_columns_are t h = absurd cc

ack_ends : (t : Table) → is_ack t ≡ true → lacking (wanted t (fields.RoID ∷ fields.RoStatus ∷ [])) (fields.RoID ∷ fields.RoStatus ∷ []) ≡ None
ack_ends RoAck h = refl
ack_ends t h = absurd cc

ack_viable : (t : Table) → is_ack t ≡ true → Viable (columns t) (fields.RoID ∷ fields.RoStatus ∷ [])
ack_viable RoAck h = ((λ m. absurd (never m)), ((λ m. refl), ((λ m. refl), ((λ m. refl), ((λ m. refl), ((λ m. refl), ((λ m. refl), tt)))))))
  where
    never : false ≡ true → ⊥
    never m = cc
ack_viable t h = absurd cc

first_of : (a b : Bool) → (a && b) ≡ true → a ≡ true
first_of true b h = refl
first_of false b h = absurd cc

-- a record without lacking fields may end
wanted_none : (t : Table) (seen : List Field) → lacking (columns t) seen ≡ None → lacking (wanted t seen) seen ≡ None
wanted_none t seen h = go (is_ack t && not (any_seen group_columns seen)) refl
  where
    go : (b : Bool) → (is_ack t && not (any_seen group_columns seen)) ≡ b → lacking (cond b ack_columns (columns t)) seen ≡ None
    go false e = h
    go true e = lacking_front ack_columns group_columns seen (subst (λ (x : List Column). lacking x seen ≡ None) (ack_columns_are t (first_of (is_ack t) (not (any_seen group_columns seen)) e)) h)

-- ---- samples

-- some text is of the form
some_read : (form : Form) (taken : List Text) → (x : Text) × (y : Text) × (reads form taken x ≡ Some y)
unfolding reads
some_read forms.Id taken = (codes "a", codes "a", refl)
some_read forms.Key taken =
    let f = fresh taken in
    (f.0, f.0, rw (f.1, f.2) refl)
some_read forms.OptId taken = ([], [], refl)
some_read forms.Slug taken = ([], [], refl)
some_read forms.Text taken = ([], [], refl)
some_read forms.Samples taken = (codes "0", codes "0", refl)
some_read forms.Rev taken = (codes "0", codes "0", refl)
some_read forms.Time taken = (codes "2000-01-01T00:00:00", codes "2000-01-01T00:00:00", refl)
some_read forms.Air taken = (codes "READY", codes "READY", refl)
some_read forms.ObjType taken = (codes "STILL", codes "STILL", refl)
some_read forms.AckWord taken = (codes "ACK", codes "ACK", refl)
some_read forms.Profile taken = (codes "YES", codes "YES", refl)

pub some_text : (n : Text) (o : OpenField) (taken : List Text) → (x : Text) × (es : List Event) × (field_events n o taken x ≡ Some es)
unfolding field_events
some_text n o taken =
    let s = some_read o.form taken in
    go s.0 s.1 s.2 (o.may_lack && is_white s.0) refl
  where
    go : (x y : Text) → reads o.form taken x ≡ Some y → (b : Bool) → (o.may_lack && is_white x) ≡ b → (x : Text) × (es : List Event) × (field_events n o taken x ≡ Some es)
    go x y e true w = (x, [], rw w refl)
    go x y e false w = (x, leaf n o.given y ∷ [], rw (w, e) refl)

-- the attribute that a table names, with its first word
abbrev pub first_word : Text → List Text → List Attribute
first_word a [] = []
first_word a (w ∷ ws) = record { name = a; value = w } ∷ []

abbrev pub sample : Option Field → List Attribute
sample None = []
sample (Some a) = first_word (name_of a) (words_of a)

form_given : (form : Form) → attribute_fault (attribute_of_form form) (sample (attribute_of_form form)) ≡ None
form_given forms.Profile = refl
form_given f = refl

table_given : (before : List Child) (t : Table) → attribute_fault (attribute_of_table (with_aim before t)) (sample (attribute_of_table t)) ≡ None
table_given before SupportedProfiles = refl
table_given before ElementStat = refl
table_given before (Action o) = refl
table_given before (Source o a) = refl
table_given before t = refl

-- ---- the tail of a raw element

too_short : (e y : Text) → length y < length e → ends_with e y ≡ false
too_short e [] lt = go (same e []) refl
  where
    go : (b : Bool) → same e [] ≡ b → same e [] ≡ false
    go false k = k
    go true k = let p : length e ≡ length {A = ℕ} [] = ap length (same-is e [] k) in absurd (omega (arith, p))
too_short e (c ∷ cs) lt = go (too_short e cs (omega arith)) (same e (c ∷ cs)) refl
  where
    go : ends_with e cs ≡ false → (b : Bool) → same e (c ∷ cs) ≡ b → cond b true (ends_with e cs) ≡ false
    go ih false k = ih
    go ih true k = let p : length e ≡ length (c ∷ cs) = ap length (same-is e (c ∷ cs) k) in absurd (omega (arith, p))

pub ends_itself : (e : Text) → ends_with e e ≡ true
ends_itself [] = refl
ends_itself (c ∷ cs) = rw (same-refl (c ∷ cs)) refl

tail_ends : (n x : Text) (c : ℕ) (cs : Text) → x ++ c ∷ cs ≡ end_text n → tail_from n x (c ∷ cs) ≡ true
tail_ends n x c [] e = go (ends_with (end_text n) (x ++ c ∷ [])) (ap (ends_with (end_text n)) e ∙ ends_itself (end_text n))
  where
    go : (b : Bool) → b ≡ true → cond b true false ≡ true
    go true h = refl
    go false h = absurd cc
tail_ends n x c (d ∷ cs) e =
    let l : length (x ++ c ∷ []) < length (end_text n) = omega (arith, ap length e, length-append x (c ∷ d ∷ cs), length-append x (c ∷ [])) in
    rw (too_short (end_text n) (x ++ c ∷ []) l) (tail_ends n (x ++ c ∷ []) d cs (append_assoc x (c ∷ []) (d ∷ cs) ∙ e))

pub end_is_tail : (n : Text) → is_tail n (end_text n) ≡ true
unfolding is_tail
end_is_tail n = tail_ends n [] 60 (47 ∷ (n ++ 62 ∷ [])) refl

-- ---- one more field

-- some tokens end the record
abbrev pub Ending : Table → List Text → List Child → Type 0
Ending t taken before = (all : List Child) × (r : List Token) × Content t taken before all r

-- an element of a field that lacks
admission_at : (t : Table) (before : List Child) (ps : List Column) (c : Column) (cs : List Column) (g : List Attribute) → columns t ≡ ps ++ c ∷ cs → lacking ps (seen_of t before) ≡ None → Viable (c ∷ cs) (seen_of t before)
    → lacks c (seen_of t before) ≡ true → role_fault (role_at before (sample_name c) g c c.shape) g ≡ None → admission t before (sample_name c) g ≡ admitted (role_at before (sample_name c) g c c.shape) None
unfolding admission role
admission_at t before ps c cs g e l h m w =
    let u : apart_from [] (ps ++ c ∷ cs) ≡ true = rw (← e) (table_facts t).1 in
    let d = name_apart ps c cs u in
    let i = sample_named c in
    rw (
      e,
      column_at ps c cs (sample_name c) d i,
      lacks_room c.often (times c.field (seen_of t before)) m,
      repeated_at ps c cs (seen_of t before) (sample_name c) d i (lacks_single c.often (times c.field (seen_of t before)) m) (h.0 m),
      columns_before ps c cs (sample_name c) d i,
      l,
      w,
    ) refl

nothing_ends : (k : List Text) → Content NoFields k [] [] []
unfolding end_fault seen_of
nothing_ends k = ends refl

fill_one : (t : Table) (taken : List Text) (before : List Child) (c : Column) (s : Shape)
    → ((g : List Attribute) → role_fault (role_at before (name_for c.field s) g c s) g ≡ None → admission t before (name_for c.field s) g ≡ admitted (role_at before (name_for c.field s) g c s) None)
    → is_within (rank t) s ≡ true → ((u : Table) (k : List Text) → rank u < rank t → Ending u k []) → ((es : List Event) → Ending t taken (before ++ (c.field, es) ∷ [])) → Ending t taken before
fill_one t taken before c (Leaf form) e w smaller more =
    let g = sample (attribute_of_form form) in
    let o : OpenField = record { field = c.field; form = form; may_lack = is_optional c.often && is_trimmed form; given = given_of (attribute_of_form form) g } in
    let x = some_text (name_of c.field) o taken in
    let m = more x.1 in
    (m.0, open_tag (name_of c.field) g [] ∷ text x.0 x.0 ∷ close_tag (name_of c.field) ∷ m.1, field (e g (form_given form)) x.2 m.2)
fill_one t taken before c Raw e w smaller more =
    let n = name_of c.field in
    let m = more (raw_events c.field (end_text n)) in
    (m.0, open_tag n [] [] ∷ tail (end_text n) ∷ m.1, raw_element (e [] refl) (end_is_tail n) m.2)
fill_one t taken before c (Record u) e w smaller more =
    let g = sample (attribute_of_table u) in
    let n = name_of c.field in
    let less : rank (with_aim before u) < rank t = omega (arith, with_aim_rank before u, ltb-true (rank u) (rank t) w) in
    let i = smaller (with_aim before u) (keys t before) less in
    let m = more (nested n (given_of (attribute_of_table u) g) (with_aim before u) i.0) in
    (m.0, open_tag n g [] ∷ (i.1 ++ close_tag n ∷ m.1), record_element (e g (table_given before u)) i.2 m.2)
fill_one t taken before c Message e w smaller more =
    let n = codes "reqMachInfo" in
    let m = more (nested n [] NoFields []) in
    (m.0, open_tag n [] [] ∷ close_tag n ∷ m.1, record_element (e [] refl) (nothing_ends (keys t before)) m.2)

-- one more child of a field that isn't the status of a group
next_seen : (t : Table) (b : List Child) (f : Field) (es : List Event) → (is_ack t && same_field f fields.Status) ≡ false → seen_of t (b ++ (f, es) ∷ []) ≡ seen_of t b ++ f ∷ []
next_seen t b f es h = seen_push t b (f, es) ∙ rw h refl

group_seen : (t : Table) (b : List Child) (f : Field) (es : List Event) → (is_ack t && same_field f fields.Status) ≡ true → seen_of t (b ++ (f, es) ∷ []) ≡ fields.RoID ∷ fields.RoStatus ∷ []
group_seen t b f es h = seen_push t b (f, es) ∙ rw h refl

group_ends : (t : Table) (b : List Child) (f : Field) (es : List Event) → (is_ack t && same_field f fields.Status) ≡ true → end_fault t (b ++ (f, es) ∷ []) ≡ None
unfolding end_fault
group_ends t b f es h = rw (group_seen t b f es h) (ack_ends t (first_of (is_ack t) (same_field f fields.Status) h))

fill_up : (t : Table) (taken : List Text) (smaller : (u : Table) (k : List Text) → rank u < rank t → Ending u k []) (ps : List Column) (c : Column) (cs : List Column) → columns t ≡ ps ++ c ∷ cs
    → ((b : List Child) → lacking (ps ++ c ∷ []) (seen_of t b) ≡ None → Viable cs (seen_of t b) → Ending t taken b)
    → (k : ℕ) (b : List Child) → least_count c.often ≤ times c.field (seen_of t b) + k → lacking ps (seen_of t b) ≡ None → Viable (c ∷ cs) (seen_of t b) → Ending t taken b
fill_up t taken smaller ps c cs e more zero b lt l h = go (lacks c (seen_of t b)) refl
  where
    go : (x : Bool) → lacks c (seen_of t b) ≡ x → Ending t taken b
    go false w = more b (lacking_last ps c (seen_of t b) l w) h.1
    go true w = absurd (omega (arith, ltb-true (times c.field (seen_of t b)) (least_count c.often) w))
fill_up t taken smaller ps c cs e more (suc k) b lt l h = go (λ b2 lt2 l2 h2. fill_up t taken smaller ps c cs e more k b2 lt2 l2 h2) (lacks c (seen_of t b)) refl
  where
    go : ((b2 : List Child) → least_count c.often ≤ times c.field (seen_of t b2) + k → lacking ps (seen_of t b2) ≡ None → Viable (c ∷ cs) (seen_of t b2) → Ending t taken b2)
        → (x : Bool) → lacks c (seen_of t b) ≡ x → Ending t taken b
    go ih false w = more b (lacking_last ps c (seen_of t b) l w) h.1
    go ih true w =
        let v : all_within (rank t) (ps ++ c ∷ cs) ≡ true = rw (← e) (table_facts t).2 in
        let u : distinct (ps ++ c ∷ cs) ≡ true = rw (← e) (table_facts t).0 in
        fill_one t taken b c c.shape (λ g i. admission_at t b ps c cs g e l h w i) (within_at (rank t) ps c cs v) smaller
        (λ es. added_one es (later_apart ps c cs u) (is_ack t && same_field c.field fields.Status) refl)
      where
        added_one : (es : List Event) → has cs c.field ≡ false → (x : Bool) → (is_ack t && same_field c.field fields.Status) ≡ x → Ending t taken (b ++ (c.field, es) ∷ [])
        added_one es d true s = (b ++ (c.field, es) ∷ [], [], ends (group_ends t b c.field es s))
        added_one es d false s =
            let n = next_seen t b c.field es s in
            ih (b ++ (c.field, es) ∷ [])
            (rw n (omega (arith, lt, times_last c.field (seen_of t b))))
            (rw n (lacking_more ps (seen_of t b) c.field l))
            (rw n (viable_same c cs (seen_of t b) d h))

fill : (t : Table) (taken : List Text) (smaller : (u : Table) (k : List Text) → rank u < rank t → Ending u k []) (cs : List Column) (ps : List Column) (before : List Child)
    → columns t ≡ ps ++ cs → lacking ps (seen_of t before) ≡ None → Viable cs (seen_of t before) → Ending t taken before
unfolding end_fault
fill t taken smaller [] ps before e l h = (before, [], ends (wanted_none t (seen_of t before) (rw (e, append-nil ps) l)))
fill t taken smaller (c ∷ cs) ps before e l h =
    fill_up t taken smaller ps c cs e (λ b l2 h2. fill t taken smaller cs (ps ++ c ∷ []) b (e ∙ sym (append_assoc ps (c ∷ []) cs)) l2 h2) (least_count c.often) before (omega arith) l h

none_seen : (cs : List Column) → Viable cs []
none_seen [] = tt
none_seen (c ∷ cs) = ((λ m. nothing_seen cs), none_seen cs)
  where
    nothing_seen : (cs : List Column) → any_seen cs [] ≡ false
    nothing_seen [] = refl
    nothing_seen (c ∷ cs) = nothing_seen cs

fresh_viable : (t : Table) → Viable (columns t) (seen_of t [])
unfolding seen_of
fresh_viable t = none_seen (columns t)

-- from any children that aren't out of order, by the ranks of the tables
ending_below : (k : ℕ) (t : Table) (taken : List Text) (before : List Child) → rank t < k → Viable (columns t) (seen_of t before) → Ending t taken before
ending_below zero t taken before lt h = absurd (omega arith)
ending_below (suc k) t taken before lt h = fill t taken (λ u ks less. ending_below k u ks [] (omega (arith, lt, less)) (fresh_viable u)) (columns t) [] before refl refl h

ending : (t : Table) (taken : List Text) (before : List Child) → Viable (columns t) (seen_of t before) → Ending t taken before
ending t taken before h = ending_below (suc (rank t)) t taken before (omega arith) h

-- ---- states

-- the record with one more child of this field
abbrev pub NextViable : Table → List Child → Field → Type 0
NextViable t before f = Viable (columns t) (seen_behind t (seen_of t before) f)

-- the records around one that is this field of its own
abbrev pub Around : Field → List Frame → Type 0
Around p [] = Unit {0}
Around p (g ∷ gs) = NextViable g.table g.before p × Around g.place gs

abbrev pub Sane : State → Type 0
Sane (complete v) = Unit {0}
Sane (at between f fs) = Viable (columns f.table) (seen_of f.table f.before) × Around f.place fs
Sane (at (in_field n o) f fs) = NextViable f.table f.before o.field × Around f.place fs
Sane (at (behind_text n o es) f fs) = NextViable f.table f.before o.field × Around f.place fs
Sane (at (in_raw n p tag) f fs) = NextViable f.table f.before p × Around f.place fs

pushed : (t : Table) (before : List Child) (f : Field) (es : List Event) → NextViable t before f → Viable (columns t) (seen_of t (before ++ (f, es) ∷ []))
pushed t before f es h = rw (seen_push t before (f, es)) h

after_ends : (fs : List Frame) (t : Table) (n : Text) (p : Field) (i : List Attribute) (all : List Child) → Around p fs → (r : List Token) × (v : List Event) × After fs t n p i all r v
after_ends [] t n p i all h = ([], nested n i t all, (refl, refl))
after_ends (g ∷ gs) t n p i all h =
    let e = ending g.table g.taken (g.before ++ (p, nested n i t all) ∷ []) (pushed g.table g.before p (nested n i t all) h.0) in
    let a = after_ends gs g.table g.name g.place g.given e.0 h.1 in
    (e.1 ++ close_tag g.name ∷ a.0, a.1, (e.0, e.1, a.0, e.2, refl, a.2))

rest_ends : (f : Frame) (fs : List Frame) → Viable (columns f.table) (seen_of f.table f.before) → Around f.place fs → (r : List Token) × (v : List Event) × Rest f fs r v
rest_ends f fs h a =
    let e = ending f.table f.taken f.before h in
    let b = after_ends fs f.table f.name f.place f.given e.0 a in
    (e.1 ++ close_tag f.name ∷ b.0, b.1, (e.0, e.1, b.0, e.2, refl, b.2))

pub reads_some : (s : State) → Sane s → (r : List Token) × (v : List Event) × Reads s r v
reads_some (complete v) h = ([], v, (refl, refl))
reads_some (at between f fs) h = rest_ends f fs h.0 h.1
reads_some (at (in_field n o) f fs) h =
    let x = some_text n o f.taken in
    let b = rest_ends (add f (o.field, x.1)) fs (pushed f.table f.before o.field x.1 h.0) h.1 in
    (text x.0 x.0 ∷ close_tag n ∷ b.0, b.1, (x.1, b.0, inl (x.0, x.0, x.2, refl), b.2))
reads_some (at (behind_text n o es) f fs) h =
    let b = rest_ends (add f (o.field, es)) fs (pushed f.table f.before o.field es h.0) h.1 in
    (close_tag n ∷ b.0, b.1, (b.0, refl, b.2))
reads_some (at (in_raw n p tag) f fs) h =
    let es = raw_events p (tag ++ end_text n) in
    let b = rest_ends (add f (p, es)) fs (pushed f.table f.before p es h.0) h.1 in
    (tail (end_text n) ∷ b.0, b.1, (es, b.0, (end_text n, refl, refl, end_is_tail n), b.2))

-- ---- a step from a sane state

abbrev pub SaneOk : Result State Fault → Type 0
SaneOk (Ok s) = Sane s
SaneOk (Err k) = Unit {0}

-- an element that is read so keeps the fields in order
abbrev pub Fits : Table → List Child → Role → Type 0
Fits t before out_of_place = Unit {0}
Fits t before (leaf_role o) = NextViable t before o.field
Fits t before (raw_role f) = NextViable t before f
Fits t before (record_role f u g) = NextViable t before f

abbrev pub AdmissionFits : Table → List Child → Admission → Type 0
AdmissionFits t before (not_admitted k) = Unit {0}
AdmissionFits t before (admitted_leaf o) = NextViable t before o.field
AdmissionFits t before (admitted_raw f) = NextViable t before f
AdmissionFits t before (admitted_record f u g) = NextViable t before f

admitted_fits : (t : Table) (before : List Child) (w : Role) (k : Option Fault) → (k ≡ None → Fits t before w) → AdmissionFits t before (admitted w k)
admitted_fits t before w (Some k) f = tt
admitted_fits t before out_of_place None f = tt
admitted_fits t before (leaf_role o) None f = f refl
admitted_fits t before (raw_role p) None f = f refl
admitted_fits t before (record_role p u g) None f = f refl

or_else_none : (a b : Option Fault) → or_else a b ≡ None → b ≡ None
or_else_none (Some f) b h = absurd cc
or_else_none None b h = h

earlier_none : (a b : Option Fault) → earlier a b ≡ None → a ≡ None
earlier_none None b h = refl
earlier_none (Some f) None h = absurd cc
earlier_none (Some f) (Some g) h = absurd (go (nat_lt (Rattle.mos_grammar.specs.Records.order_of g) (Rattle.mos_grammar.specs.Records.order_of f)) h)
  where
    go : (b : Bool) → cond b (Some g) (Some f) ≡ None → ⊥
    go true h = cc
    go false h = cc

-- the fields seen with one more
next_viable : (t : Table) (seen : List Field) (f : Field) → Viable (columns t) (seen ++ f ∷ []) → Viable (columns t) (seen_behind t seen f)
next_viable t seen f h = go (is_ack t && same_field f fields.Status) refl
  where
    go : (b : Bool) → (is_ack t && same_field f fields.Status) ≡ b → Viable (columns t) (cond b (fields.RoID ∷ fields.RoStatus ∷ []) (seen ++ f ∷ []))
    go true e = ack_viable t (first_of (is_ack t) (same_field f fields.Status) e)
    go false e = h

other_fits : (t : Table) (before : List Child) (o : Others) → Viable (columns t) (seen_of t before) → Fits t before (other_role o)
other_fits t before Kept h = next_viable t (seen_of t before) fields.Kept (viable_other (columns t) (seen_of t before) fields.Kept h (table_facts t).3)
other_fits t before Dropped h = next_viable t (seen_of t before) fields.Dropped (viable_other (columns t) (seen_of t before) fields.Dropped h (table_facts t).4)
other_fits t before Refused h = tt

role_at_fits : (t : Table) (before : List Child) (n : Text) (g : List Attribute) (c : Column) (s : Shape) → NextViable t before c.field → Fits t before (role_at before n g c s)
role_at_fits t before n g c (Leaf form) h = h
role_at_fits t before n g c Raw h = h
role_at_fits t before n g c (Record u) h = h
role_at_fits t before n g c Message h = go (message_of n g)
  where
    go : (o : Option Table) → Fits t before (message_role c.field g o)
    go (Some u) = h
    go None = h

role_fits : (t : Table) (before : List Child) (n : Text) (g : List Attribute) → Viable (columns t) (seen_of t before) → outside_fault t before n ≡ None → Fits t before (role t before n g)
unfolding role
role_fits t before n g h e = go (column_of (columns t) n) refl e
  where
    full : (b : Bool) (w : Role) → Fits t before w → Fits t before (cond b out_of_place w)
    full true w f = tt
    full false w f = f

    go : (x : Option Column) → column_of (columns t) n ≡ x → if_field x (field_fault (columns t) (seen_of t before) n) ≡ None → Fits t before (role_by t before n g x)
    go None is k = other_fits t before (others t n) h
    go (Some c) is k =
        full (is_full c.often (times c.field (seen_of t before))) (role_at before n g c c.shape) (role_at_fits t before n g c c.shape
        (next_viable t (seen_of t before) c.field (viable_tag (columns t) (seen_of t before) n c (table_facts t).0 is
        (or_else_none (repeated (columns t) (seen_of t before) n) (lacking (before_column (columns t) n) (seen_of t before)) k) h)))

admission_fits : (t : Table) (before : List Child) (n : Text) (g : List Attribute) → Viable (columns t) (seen_of t before) → AdmissionFits t before (admission t before n g)
unfolding admission
admission_fits t before n g h = admitted_fits t before (role t before n g) (earlier (outside_fault t before n) (role_fault (role t before n g) g)) (λ e. role_fits t before n g h (earlier_none (outside_fault t before n) (role_fault (role t before n g) g) e))

empty_admission_fits : (t : Table) (taken : List Text) (before : List Child) (n : Text) (g : List Attribute) → Viable (columns t) (seen_of t before) → AdmissionFits t before (empty_admission t taken before n g)
unfolding empty_admission
empty_admission_fits t taken before n g h =
    admitted_fits t before (role t before n g) (earlier (outside_fault t before n) (earlier (role_fault (role t before n g) g) (inside_fault n (role t before n g) taken)))
    (λ e. role_fits t before n g h (earlier_none (outside_fault t before n) (earlier (role_fault (role t before n g) g) (inside_fault n (role t before n g) taken)) e))

after_start_tag_sane : (f : Frame) (fs : List Frame) (n tag : Text) (e : Admission) → AdmissionFits f.table f.before e → Around f.place fs → SaneOk (after_start_tag f fs n tag e)
after_start_tag_sane f fs n tag (not_admitted k) h a = tt
after_start_tag_sane f fs n tag (admitted_leaf o) h a = (h, a)
after_start_tag_sane f fs n tag (admitted_raw p) h a = (h, a)
after_start_tag_sane f fs n tag (admitted_record p u i) h a = (fresh_viable u, (h, a))

with_child_sane : (f : Frame) (fs : List Frame) (p : Field) (es : List Event) → NextViable f.table f.before p → Around f.place fs → Sane (with_child f fs (p, es))
with_child_sane f fs p es h a = (pushed f.table f.before p es h, a)

after_field_sane : (f : Frame) (fs : List Frame) (p : OpenField) (o : Option (List Event)) → NextViable f.table f.before p.field → Around f.place fs → SaneOk (after_field f fs p o)
after_field_sane f fs p (Some es) h a = with_child_sane f fs p.field es h a
after_field_sane f fs p None h a = tt

after_empty_tag_sane : (f : Frame) (fs : List Frame) (n tag : Text) (e : Admission) → AdmissionFits f.table f.before e → Around f.place fs → SaneOk (after_empty_tag f fs n tag e)
after_empty_tag_sane f fs n tag (not_admitted k) h a = tt
after_empty_tag_sane f fs n tag (admitted_leaf o) h a = after_field_sane f fs o (field_events n o f.taken []) h a
after_empty_tag_sane f fs n tag (admitted_raw p) h a = with_child_sane f fs p (raw_events p tag) h a
after_empty_tag_sane f fs n tag (admitted_record p u i) h a = go (end_fault u [])
  where
    go : (o : Option Fault) → SaneOk (after_record_tag f fs n p u i o)
    go (Some k) = tt
    go None = with_child_sane f fs p (nested n i u []) h a

sane_cond : (b : Bool) (x : Result State Fault) (k : Fault) → SaneOk x → SaneOk (cond b x (Err k))
sane_cond true x k h = h
sane_cond false x k h = tt

after_end_tag_sane : (f : Frame) (fs : List Frame) (o : Option Fault) → Around f.place fs → SaneOk (after_end_tag f fs o)
after_end_tag_sane f fs (Some k) a = tt
after_end_tag_sane f [] None a = tt
after_end_tag_sane f (g ∷ gs) None a = with_child_sane g gs f.place (nested f.name f.given f.table f.before) a.0 a.1

after_text_sane : (f : Frame) (fs : List Frame) (n : Text) (p : OpenField) (o : Option (List Event)) → NextViable f.table f.before p.field × Around f.place fs → SaneOk (after_text f fs n p o)
after_text_sane f fs n p (Some es) h = h
after_text_sane f fs n p None h = tt

pub sane_step : (s : State) (k : Token) → Sane s → SaneOk (step s k)
unfolding step
sane_step (complete v) k h = tt
sane_step (at between f fs) (open_tag n g tag) h = after_start_tag_sane f fs n tag (admission f.table f.before n g) (admission_fits f.table f.before n g h.0) h.1
sane_step (at between f fs) (empty_tag n g tag) h = after_empty_tag_sane f fs n tag (empty_admission f.table f.taken f.before n g) (empty_admission_fits f.table f.taken f.before n g h.0) h.1
sane_step (at between f fs) (close_tag n) h = sane_cond (same f.name n) (after_end_tag f fs (end_fault f.table f.before)) misplaced (after_end_tag_sane f fs (end_fault f.table f.before) h.1)
sane_step (at between f fs) (text x y) h = sane_cond (is_white x) (Ok (at between f fs)) misplaced h
sane_step (at between f fs) (tail x) h = tt
sane_step (at between f fs) mark h = tt
sane_step (at between f fs) declaration h = tt
sane_step (at (in_field n o) f fs) (text x y) h = after_text_sane f fs n o (field_events n o f.taken y) h
sane_step (at (in_field n o) f fs) (close_tag m) h = sane_cond (same n m) (after_field f fs o (field_events n o f.taken [])) (empty_text_fault o (field_events n o f.taken [])) (after_field_sane f fs o (field_events n o f.taken []) h.0 h.1)
sane_step (at (in_field n o) f fs) (open_tag m g tag) h = tt
sane_step (at (in_field n o) f fs) (empty_tag m g tag) h = tt
sane_step (at (in_field n o) f fs) (tail x) h = tt
sane_step (at (in_field n o) f fs) mark h = tt
sane_step (at (in_field n o) f fs) declaration h = tt
sane_step (at (behind_text n o es) f fs) (close_tag m) h = sane_cond (same n m) (Ok (with_child f fs (o.field, es))) misplaced (with_child_sane f fs o.field es h.0 h.1)
sane_step (at (behind_text n o es) f fs) (open_tag m g tag) h = tt
sane_step (at (behind_text n o es) f fs) (empty_tag m g tag) h = tt
sane_step (at (behind_text n o es) f fs) (text x y) h = tt
sane_step (at (behind_text n o es) f fs) (tail x) h = tt
sane_step (at (behind_text n o es) f fs) mark h = tt
sane_step (at (behind_text n o es) f fs) declaration h = tt
sane_step (at (in_raw n p tag) f fs) (tail x) h = sane_cond (is_tail n x) (Ok (with_child f fs (p, raw_events p (tag ++ x)))) misplaced (with_child_sane f fs p (raw_events p (tag ++ x)) h.0 h.1)
sane_step (at (in_raw n p tag) f fs) (close_tag m) h = tt
sane_step (at (in_raw n p tag) f fs) (open_tag m g a) h = tt
sane_step (at (in_raw n p tag) f fs) (empty_tag m g a) h = tt
sane_step (at (in_raw n p tag) f fs) (text x y) h = tt
sane_step (at (in_raw n p tag) f fs) mark h = tt
sane_step (at (in_raw n p tag) f fs) declaration h = tt

pub sane_run : (ts : List Token) (s : State) → Sane s → SaneOk (run s ts)
unfolding run
sane_run [] s h = h
sane_run (t ∷ ts) s h = go (λ u. sane_run ts u) (step s t) (sane_step s t h)
  where
    go : ((u : State) → Sane u → SaneOk (run u ts)) → (o : Result State Fault) → SaneOk o → SaneOk (and_then o (λ w. run w ts))
    go f (Ok u) g = f u g
    go f (Err k) g = tt

pub sane_opening : (t : Table) (n : Text) → Sane (opening t n)
sane_opening t n = (fresh_viable t, tt)

pub run_append : (ts us : List Token) (s u : State) → run s ts ≡ Ok u → run s (ts ++ us) ≡ run u us
unfolding run
run_append [] us s u e = ap (λ (x : State). run x us) (ok_is s u e)
  where
    ok_is : (s u : State) → ◌≡◌ {A = Result State Fault} (Ok s) (Ok u) → s ≡ u
    ok_is s u e = cc
run_append (t ∷ ts) us s u e = go (λ x h. run_append ts us x u h) (step s t) e
  where
    go : ((x : State) → run x ts ≡ Ok u → run x (ts ++ us) ≡ run u us) → (o : Result State Fault) → and_then o (λ w. run w ts) ≡ Ok u → and_then o (λ w. run w (ts ++ us)) ≡ run u us
    go f (Ok x) h = f x h
    go f (Err k) h = absurd cc

-- Tokens that are read begin a record.
pub runs_begin : (t : Table) (n : Text) (ts : List Token) (s : State) → run (opening t n) ts ≡ Ok s → BeginsRecord t n ts
runs_begin t n ts s e =
    let sane : SaneOk (run (opening t n) ts) = sane_run ts (opening t n) (sane_opening t n) in
    let m = reads_some s (rw e at sane) in
    let takes : Takes (run (opening t n) ts) m.0 m.1 = rw e m.2 in
    let h : Reads (opening t n) (ts ++ m.0) m.1 = run_back ts m.0 (opening t n) m.1 takes in
    (m.0, m.1, (h.0, h.1, h.3, h.4 ∙ ap (λ (w : List Token). h.1 ++ close_tag n ∷ w) h.5.0, h.5.1))

-- Tokens that begin a record are read.
pub begins_run : (t : Table) (n : Text) (ts : List Token) → BeginsRecord t n ts → (s : State) × (run (opening t n) ts ≡ Ok s)
begins_run t n ts b =
    let h = b.2 in
    go (run (opening t n) ts) refl (run_forward ts b.0 (opening t n) b.1 (h.0, h.1, [], h.2, h.3, (refl, h.4)))
  where
    go : (o : Result State Fault) → run (opening t n) ts ≡ o → Takes o b.0 b.1 → (s : State) × (run (opening t n) ts ≡ Ok s)
    go (Ok s) e h = (s, e)
    go (Err k) e h = absurd h

-- A token is refused exactly where the tokens before it begin a record, and don't with it.
pub rejected_not : (t : Table) (n : Text) (ts : List Token) (k : Token) (s : State) (x : Fault) → run (opening t n) ts ≡ Ok s → step s k ≡ Err x → BeginsRecord t n (ts ++ k ∷ []) → ⊥
unfolding run
rejected_not t n ts k s x e r b =
    let m = begins_run t n (ts ++ k ∷ []) b in
    let p : run (opening t n) (ts ++ k ∷ []) ≡ Err x = run_append ts (k ∷ []) (opening t n) s e ∙ one (step s k) r in
    let q = m.1 in absurd cc
  where
    one : (o : Result State Fault) → o ≡ Err x → and_then o (λ w. run w []) ≡ Err x
    one (Ok u) h = absurd cc
    one (Err y) h = h
