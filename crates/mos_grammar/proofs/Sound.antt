-- What a state still reads is what the grammar says of it, token by token.
use Rattle.std.proofs.Common.{◌≡◌, Bool, true, false, cond, eqb, eq-eqb, List, [], ◌∷◌, ◌++◌, Option, Some, None, Result, Ok, Err, refl, sym, ap, subst, ◌∙◌, append_assoc, ◌⊎◌, inl, inr}
use Rattle.std.specs.Prelude.{◌&&◌}
use Rattle.std.proofs.lemmas.Bool.{eqb-true}
use Rattle.std.proofs.lemmas.List.{append-nil}
use Rattle.mos_fields.specs.declared.field.Field.{Field}
use Rattle.mos_tables.specs.declared.table.Table.{Table}
use Rattle.mos_fields.specs.Characters.{Text}
use Rattle.mos_fields.specs.Fields.{same}
use Rattle.mos_fields.specs.Raw.{is_tail}
use Rattle.mos_fields.specs.Forms.{is_white}
use Rattle.mos_tables.specs.Events.{Attribute, Event}
use Rattle.mos_grammar.specs.Tokens.{Token, open_tag, empty_tag, close_tag, text, tail, mark, declaration}
use Rattle.mos_grammar.specs.declared.fault.Fault.{Fault}
use Rattle.mos_grammar.specs.declared.fault.Fault.TheVariants.{Tag as misplaced}
use Rattle.mos_grammar.specs.Records.{Child, end_fault, Admission, not_admitted, admitted_leaf, admitted_raw, admitted_record, admission, empty_admission, OpenField, field_events, nested, raw_events, Content, ends, white_space, field, empty_leaf, empty_leaf_tag, raw_element, raw_tag, record_element, record_tag, IsRecord}
use Rattle.mos_grammar.specs.RecordMachine.{Frame, add, between, in_field, behind_text, in_raw, State, at, complete, after_start_tag, with_child, after_record_tag, after_empty_tag, after_end_tag, after_text, after_field, empty_text_fault, step, opening, and_then, run}

-- behind the end tag of a record whose children are these
abbrev pub After : List Frame → Table → Text → Field → List Attribute → List Child → List Token → List Event → Type 0
After [] t n p h all r v = (r ≡ []) × (v ≡ nested n h t all)
After (g ∷ gs) t n p h all r v =
    (whole_of : List Child) × (front : List Token) × (rest : List Token)
    × Content g.table g.taken (g.before ++ (p, nested n h t all) ∷ []) whole_of front × (r ≡ front ++ close_tag g.name ∷ rest)
    × After gs g.table g.name g.place g.given whole_of rest v

-- from between the elements of a record
abbrev pub Rest : Frame → List Frame → List Token → List Event → Type 0
Rest f fs r v =
    (all : List Child) × (front : List Token) × (rest : List Token)
    × Content f.table f.taken f.before all front × (r ≡ front ++ close_tag f.name ∷ rest)
    × After fs f.table f.name f.place f.given all rest v

-- what stands behind the start tag of a field
abbrev pub FieldRest : Text → OpenField → List Text → List Event → List Token → List Token → Type 0
FieldRest n o taken es r rest = ((x : Text) × (y : Text) × (field_events n o taken y ≡ Some es) × (r ≡ text x y ∷ close_tag n ∷ rest)) ⊎ ((field_events n o taken [] ≡ Some es) × (r ≡ close_tag n ∷ rest))

abbrev pub RawRest : Text → Field → Text → List Event → List Token → List Token → Type 0
RawRest n p tag es r rest = (x : Text) × (es ≡ raw_events p (tag ++ x)) × (r ≡ tail x ∷ rest) × (is_tail n x ≡ true)

-- the tokens that a state still reads, and the value that then is whole
abbrev pub Reads : State → List Token → List Event → Type 0
Reads (complete w) r v = (r ≡ []) × (v ≡ w)
Reads (at between f fs) r v = Rest f fs r v
Reads (at (in_field n o) f fs) r v = (es : List Event) × (rest : List Token) × FieldRest n o f.taken es r rest × Rest (add f (o.field, es)) fs rest v
Reads (at (behind_text n o es) f fs) r v = (rest : List Token) × (r ≡ close_tag n ∷ rest) × Rest (add f (o.field, es)) fs rest v
Reads (at (in_raw n p tag) f fs) r v = (es : List Event) × (rest : List Token) × RawRest n p tag es r rest × Rest (add f (p, es)) fs rest v

-- a step that was taken, and what it leaves to read
abbrev pub Takes : Result State Fault → List Token → List Event → Type 0
Takes (Ok s) r v = Reads s r v
Takes (Err k) r v = ⊥

and_true : (a b : Bool) → a ≡ true → b ≡ true → (a && b) ≡ true
and_true a b p q = rw (p, q) refl

and_parts : (a b : Bool) → (a && b) ≡ true → (a ≡ true) × (b ≡ true)
and_parts true b h = (refl, h)
and_parts false b h = absurd cc

pub same-refl : (n : Text) → same n n ≡ true
same-refl [] = refl
same-refl (c ∷ cs) = and_true (eqb c c) (same cs cs) (eq-eqb c c refl) (same-refl cs)

pub same-is : (a b : Text) → same a b ≡ true → a ≡ b
same-is [] [] h = refl
same-is [] (y ∷ ys) h = absurd cc
same-is (x ∷ xs) [] h = absurd cc
same-is (x ∷ xs) (y ∷ ys) h =
    let p = and_parts (eqb x y) (same xs ys) h in
    let q : x ≡ y = eqb-true x y p.0 in
    let s : xs ≡ ys = same-is xs ys p.1 in
    cc

head_is : (a b : Token) (x y : List Token) → (a ∷ x) ≡ (b ∷ y) → (a ≡ b) × (x ≡ y)
head_is a b x y e = (cc, cc)

-- the end tag of a record
closing : (t : Table) (n : Text) (p : Field) (h : List Attribute) (taken : List Text) (all : List Child) (fs : List Frame) (r rest : List Token) (v : List Event)
    → r ≡ rest → After fs t n p h all rest v
    → Takes (after_end_tag (record { table = t; name = n; place = p; given = h; taken = taken; before = all }) fs None) r v
closing t n p h taken all [] r rest v e after = (e ∙ after.0, after.1)
closing t n p h taken all (g ∷ gs) r rest v e after = rw e after

-- the record's content is read
content_forward : {t : Table} {taken : List Text} {before all : List Child} {front : List Token} → Content t taken before all front
    → (n : Text) (p : Field) (h : List Attribute) (fs : List Frame) (k : Token) (r rest : List Token) (v : List Event)
    → (k ∷ r) ≡ front ++ close_tag n ∷ rest → After fs t n p h all rest v
    → Takes (step (at between (record { table = t; name = n; place = p; given = h; taken = taken; before = before }) fs) k) r v
unfolding step
content_forward (ends {t = t} {taken = taken} {all = all} w) n p h fs k r rest v e after =
    let q = head_is k (close_tag n) r rest e in
    rw (q.0, same-refl n, w) (closing t n p h taken all fs r rest v q.1 after)
content_forward (white_space {all = all} {x = x} {y = y} {r = front} w d) n p h fs k r rest v e after =
    let q = head_is k (text x y) r (front ++ close_tag n ∷ rest) e in
    rw (q.0, w) (all, front, rest, d, q.1, after)
content_forward (field {all = all} {n = m} {tag = tag} {x = x} {y = y} {g = g} {r = front} {es = es} i w d) n p h fs k r rest v e after =
    let q = head_is k (open_tag m g tag) r (text x y ∷ close_tag m ∷ (front ++ close_tag n ∷ rest)) e in
    rw (q.0, i) (es, front ++ close_tag n ∷ rest, inl (x, y, w, q.1), (all, front, rest, d, refl, after))
content_forward (empty_leaf {all = all} {n = m} {tag = tag} {g = g} {r = front} {es = es} i w d) n p h fs k r rest v e after =
    let q = head_is k (open_tag m g tag) r (close_tag m ∷ (front ++ close_tag n ∷ rest)) e in
    rw (q.0, i) (es, front ++ close_tag n ∷ rest, inr (w, q.1), (all, front, rest, d, refl, after))
content_forward (empty_leaf_tag {all = all} {n = m} {tag = tag} {g = g} {r = front} {es = es} i w d) n p h fs k r rest v e after =
    let q = head_is k (empty_tag m g tag) r (front ++ close_tag n ∷ rest) e in
    rw (q.0, i, w) (all, front, rest, d, q.1, after)
content_forward (raw_element {all = all} {n = m} {tag = tag} {x = x} {g = g} {r = front} {f = f} i w d) n p h fs k r rest v e after =
    let q = head_is k (open_tag m g tag) r (tail x ∷ (front ++ close_tag n ∷ rest)) e in
    rw (q.0, i) (raw_events f (tag ++ x), front ++ close_tag n ∷ rest, (x, refl, q.1, w), (all, front, rest, d, refl, after))
content_forward (raw_tag {all = all} {n = m} {tag = tag} {g = g} {r = front} i d) n p h fs k r rest v e after =
    let q = head_is k (empty_tag m g tag) r (front ++ close_tag n ∷ rest) e in
    rw (q.0, i) (all, front, rest, d, q.1, after)
content_forward (record_element {u = u} {all = all} {inner = inner} {n = m} {tag = tag} {g = g} {r = front} {s = back} i d d2) n p h fs k r rest v e after =
    let q = head_is k (open_tag m g tag) r ((front ++ close_tag m ∷ back) ++ close_tag n ∷ rest) e in
    rw (q.0, i) (inner, front, back ++ close_tag n ∷ rest, d, q.1 ∙ append_assoc front (close_tag m ∷ back) (close_tag n ∷ rest), (all, back, rest, d2, refl, after))
content_forward (record_tag {all = all} {n = m} {tag = tag} {g = g} {r = front} i w d) n p h fs k r rest v e after =
    let q = head_is k (empty_tag m g tag) r (front ++ close_tag n ∷ rest) e in
    rw (q.0, i, w) (all, front, rest, d, q.1, after)

field_forward : (n : Text) (o : OpenField) (f : Frame) (fs : List Frame) (es : List Event) (rest : List Token) (k : Token) (r : List Token) (v : List Event)
    → FieldRest n o f.taken es (k ∷ r) rest → Rest (add f (o.field, es)) fs rest v → Takes (step (at (in_field n o) f fs) k) r v
unfolding step
field_forward n o f fs es rest k r v (inl h) after =
    let p = head_is k (text h.0 h.1) r (close_tag n ∷ rest) h.3 in
    rw (p.0, h.2) (rest, p.1, after)
field_forward n o f fs es rest k r v (inr h) after =
    let p = head_is k (close_tag n) r rest h.1 in
    rw (p.0, same-refl n, h.0, p.1) after

raw_forward : (n : Text) (p : Field) (tag : Text) (f : Frame) (fs : List Frame) (es : List Event) (rest : List Token) (k : Token) (r : List Token) (v : List Event)
    → RawRest n p tag es (k ∷ r) rest → Rest (add f (p, es)) fs rest v → Takes (step (at (in_raw n p tag) f fs) k) r v
unfolding step
raw_forward n p tag f fs es rest k r v h after =
    let q = head_is k (tail h.0) r rest h.2 in
    rw (q.0, q.1, h.3, ← h.1) after

-- What a state reads, one token shorter, is read by the state that the token leads to.
pub forward : (s : State) (k : Token) (r : List Token) (v : List Event) → Reads s (k ∷ r) v → Takes (step s k) r v
unfolding step
forward (complete w) k r v h = absurd (nothing k r h.0)
  where
    nothing : (k : Token) (r : List Token) → ◌≡◌ {A = List Token} (k ∷ r) [] → ⊥
    nothing k r e = cc
forward (at between f fs) k r v h = content_forward h.3 f.name f.place f.given fs k r h.2 v h.4 h.5
forward (at (in_field n o) f fs) k r v h = field_forward n o f fs h.0 h.1 k r v h.2 h.3
forward (at (behind_text n o es) f fs) k r v h =
    let p = head_is k (close_tag n) r h.0 h.1 in
    rw (p.0, same-refl n, p.1) h.2
forward (at (in_raw n p tag) f fs) k r v h = raw_forward n p tag f fs h.0 h.1 k r v h.2 h.3

-- ---- back: a step that is taken

after_start_tag_back : (f : Frame) (fs : List Frame) (n : Text) (g : List Attribute) (tag : Text) (e : Admission) → admission f.table f.before n g ≡ e → (r : List Token) (v : List Event)
    → Takes (after_start_tag f fs n tag e) r v → Rest f fs (open_tag n g tag ∷ r) v
after_start_tag_back f fs n g tag (not_admitted k) is r v h = absurd h
after_start_tag_back f fs n g tag (admitted_leaf o) is r v h = field_back h.2 h.3
  where
    field_back : FieldRest n o f.taken h.0 r h.1 → Rest (add f (o.field, h.0)) fs h.1 v → Rest f fs (open_tag n g tag ∷ r) v
    field_back (inl a) b = (b.0, open_tag n g tag ∷ text a.0 a.1 ∷ close_tag n ∷ b.1, b.2, field is a.2 b.3, (let e = b.4 in let e2 = a.3 in cc), b.5)
    field_back (inr a) b = (b.0, open_tag n g tag ∷ close_tag n ∷ b.1, b.2, empty_leaf is a.0 b.3, (let e = b.4 in let e2 = a.1 in cc), b.5)
after_start_tag_back f fs n g tag (admitted_raw p) is r v h =
    let a = h.2 in
    let b = h.3 in
    (b.0, open_tag n g tag ∷ tail a.0 ∷ b.1, b.2, raw_element is a.3 (rw (← a.1) b.3), (let e = b.4 in let e2 = a.2 in cc), b.5)
after_start_tag_back f fs n g tag (admitted_record p u i) is r v h =
    let after = h.5 in (
      after.0,
      open_tag n g tag ∷ (h.1 ++ close_tag n ∷ after.1),
      after.2,
      record_element is h.3 after.3,
      (let e = h.4 in let e2 = after.4 in let e3 = append_assoc h.1 (close_tag n ∷ after.1) (close_tag f.name ∷ after.2) in cc),
      after.5,
    )

after_empty_tag_back : (f : Frame) (fs : List Frame) (n : Text) (g : List Attribute) (tag : Text) (e : Admission) → empty_admission f.table f.taken f.before n g ≡ e → (r : List Token) (v : List Event)
    → Takes (after_empty_tag f fs n tag e) r v → Rest f fs (empty_tag n g tag ∷ r) v
after_empty_tag_back f fs n g tag (not_admitted k) is r v h = absurd h
after_empty_tag_back f fs n g tag (admitted_leaf o) is r v h = go (field_events n o f.taken []) refl h
  where
    go : (x : Option (List Event)) → field_events n o f.taken [] ≡ x → Takes (after_field f fs o x) r v → Rest f fs (empty_tag n g tag ∷ r) v
    go None w h = absurd h
    go (Some es) w b = (b.0, empty_tag n g tag ∷ b.1, b.2, empty_leaf_tag is w b.3, ap (λ (x : List Token). empty_tag n g tag ∷ x) b.4, b.5)
after_empty_tag_back f fs n g tag (admitted_raw p) is r v b = (b.0, empty_tag n g tag ∷ b.1, b.2, raw_tag is b.3, ap (λ (x : List Token). empty_tag n g tag ∷ x) b.4, b.5)
after_empty_tag_back f fs n g tag (admitted_record p u i) is r v h = go (end_fault u []) refl h
  where
    go : (x : Option Fault) → end_fault u [] ≡ x → Takes (after_record_tag f fs n p u i x) r v → Rest f fs (empty_tag n g tag ∷ r) v
    go (Some k) w h = absurd h
    go None w b = (b.0, empty_tag n g tag ∷ b.1, b.2, record_tag is w b.3, ap (λ (x : List Token). empty_tag n g tag ∷ x) b.4, b.5)

-- a step behind a test was taken where the test holds
tested : (b : Bool) (x : Result State Fault) (k : Fault) (r : List Token) (v : List Event) → Takes (cond b x (Err k)) r v → (b ≡ true) × Takes x r v
tested true x k r v h = (refl, h)
tested false x k r v h = absurd h

after_end_tag_back : (f : Frame) (fs : List Frame) (o : Option Fault) → end_fault f.table f.before ≡ o → (r : List Token) (v : List Event)
    → Takes (after_end_tag f fs o) r v → Rest f fs (close_tag f.name ∷ r) v
after_end_tag_back f fs (Some k) is r v h = absurd h
after_end_tag_back f [] None is r v h = (f.before, [], r, ends is, refl, (h.0, h.1))
after_end_tag_back f (g ∷ gs) None is r v h = (f.before, [], r, ends is, refl, h)

after_text_back : (n : Text) (p : OpenField) (f : Frame) (fs : List Frame) (x y : Text) (o : Option (List Event)) → field_events n p f.taken y ≡ o → (r : List Token) (v : List Event)
    → Takes (after_text f fs n p o) r v → Reads (at (in_field n p) f fs) (text x y ∷ r) v
after_text_back n p f fs x y (Some es) is r v h = (es, h.0, inl (x, y, is, ap (λ (w : List Token). text x y ∷ w) h.1), h.2)
after_text_back n p f fs x y None is r v h = absurd h

after_field_back : (n : Text) (p : OpenField) (f : Frame) (fs : List Frame) (o : Option (List Event)) → field_events n p f.taken [] ≡ o → (r : List Token) (v : List Event)
    → Takes (after_field f fs p o) r v → Reads (at (in_field n p) f fs) (close_tag n ∷ r) v
after_field_back n p f fs (Some es) is r v h = (es, r, inr (is, refl), h)
after_field_back n p f fs None is r v h = absurd h

named : (s : State) (n m : Text) (r : List Token) (v : List Event) → same n m ≡ true → Reads s (close_tag n ∷ r) v → Reads s (close_tag m ∷ r) v
named s n m r v e h = subst (λ (x : Text). Reads s (close_tag x ∷ r) v) (same-is n m e) h

-- What the state that a token leads to reads, is read by the state before, one token longer.
pub back : (s : State) (k : Token) (r : List Token) (v : List Event) → Takes (step s k) r v → Reads s (k ∷ r) v
unfolding step
back (complete w) k r v h = absurd h
back (at between f fs) (open_tag n g tag) r v h = after_start_tag_back f fs n g tag (admission f.table f.before n g) refl r v h
back (at between f fs) (empty_tag n g tag) r v h = after_empty_tag_back f fs n g tag (empty_admission f.table f.taken f.before n g) refl r v h
back (at between f fs) (close_tag n) r v h =
    let t = tested (same f.name n) (after_end_tag f fs (end_fault f.table f.before)) misplaced r v h in
    named (at between f fs) f.name n r v t.0 (after_end_tag_back f fs (end_fault f.table f.before) refl r v t.1)
back (at between f fs) (text x y) r v h =
    let t = tested (is_white x) (Ok (at between f fs)) misplaced r v h in
    let b = t.1 in
    (b.0, text x y ∷ b.1, b.2, white_space t.0 b.3, ap (λ (w : List Token). text x y ∷ w) b.4, b.5)
back (at between f fs) (tail x) r v h = absurd h
back (at between f fs) mark r v h = absurd h
back (at between f fs) declaration r v h = absurd h
back (at (in_field n o) f fs) (text x y) r v h = after_text_back n o f fs x y (field_events n o f.taken y) refl r v h
back (at (in_field n o) f fs) (close_tag m) r v h =
    let t = tested (same n m) (after_field f fs o (field_events n o f.taken [])) (empty_text_fault o (field_events n o f.taken [])) r v h in
    named (at (in_field n o) f fs) n m r v t.0 (after_field_back n o f fs (field_events n o f.taken []) refl r v t.1)
back (at (in_field n o) f fs) (open_tag m g tag) r v h = absurd h
back (at (in_field n o) f fs) (empty_tag m g tag) r v h = absurd h
back (at (in_field n o) f fs) (tail x) r v h = absurd h
back (at (in_field n o) f fs) mark r v h = absurd h
back (at (in_field n o) f fs) declaration r v h = absurd h
back (at (behind_text n o es) f fs) (close_tag m) r v h =
    let t = tested (same n m) (Ok (with_child f fs (o.field, es))) misplaced r v h in
    named (at (behind_text n o es) f fs) n m r v t.0 (r, refl, t.1)
back (at (behind_text n o es) f fs) (open_tag m g tag) r v h = absurd h
back (at (behind_text n o es) f fs) (empty_tag m g tag) r v h = absurd h
back (at (behind_text n o es) f fs) (text x y) r v h = absurd h
back (at (behind_text n o es) f fs) (tail x) r v h = absurd h
back (at (behind_text n o es) f fs) mark r v h = absurd h
back (at (behind_text n o es) f fs) declaration r v h = absurd h
back (at (in_raw n p tag) f fs) (tail x) r v h =
    let t = tested (is_tail n x) (Ok (with_child f fs (p, raw_events p (tag ++ x)))) misplaced r v h in
    (raw_events p (tag ++ x), r, (x, refl, refl, t.0), t.1)
back (at (in_raw n p tag) f fs) (close_tag m) r v h = absurd h
back (at (in_raw n p tag) f fs) (open_tag m g a) r v h = absurd h
back (at (in_raw n p tag) f fs) (empty_tag m g a) r v h = absurd h
back (at (in_raw n p tag) f fs) (text x y) r v h = absurd h
back (at (in_raw n p tag) f fs) mark r v h = absurd h
back (at (in_raw n p tag) f fs) declaration r v h = absurd h

-- ---- runs

-- the state after tokens, and what it reads
pub run_forward : (ts r : List Token) (s : State) (v : List Event) → Reads s (ts ++ r) v → Takes (run s ts) r v
unfolding run
run_forward [] r s v h = h
run_forward (t ∷ ts) r s v h = go (λ u. run_forward ts r u v) (step s t) (forward s t (ts ++ r) v h)
  where
    go : ((u : State) → Reads u (ts ++ r) v → Takes (run u ts) r v) → (o : Result State Fault) → Takes o (ts ++ r) v → Takes (and_then o (λ w. run w ts)) r v
    go f (Ok u) g = f u g
    go f (Err k) g = absurd g

pub run_back : (ts r : List Token) (s : State) (v : List Event) → Takes (run s ts) r v → Reads s (ts ++ r) v
unfolding run
run_back [] r s v h = h
run_back (t ∷ ts) r s v h = back s t (ts ++ r) v (go (λ u. run_back ts r u v) (step s t) h)
  where
    go : ((u : State) → Takes (run u ts) r v → Reads u (ts ++ r) v) → (o : Result State Fault) → Takes (and_then o (λ w. run w ts)) r v → Takes o (ts ++ r) v
    go f (Ok u) g = f u g
    go f (Err k) g = absurd g

no_end : (front : List Token) (k : Token) (rest : List Token) → ◌≡◌ {A = List Token} [] (front ++ k ∷ rest) → ⊥
no_end [] k rest e = cc
no_end (x ∷ front) k rest e = cc

no_token : (k : Token) (rest : List Token) → ◌≡◌ {A = List Token} [] (k ∷ rest) → ⊥
no_token k rest e = cc

-- nothing is left to read exactly in the state of a whole record
pub done_is : (o : Result State Fault) (v : List Event) → Takes o [] v → o ≡ Ok (complete v)
done_is (Err k) v h = absurd h
done_is (Ok (complete w)) v h = rw h.1 refl
done_is (Ok (at between f fs)) v h = absurd (no_end h.1 (close_tag f.name) h.2 h.4)
done_is (Ok (at (in_field n o) f fs)) v h = absurd (go h.2)
  where
    go : FieldRest n o f.taken h.0 [] h.1 → ⊥
    go (inl a) = no_token (text a.0 a.1) (close_tag n ∷ h.1) a.3
    go (inr a) = no_token (close_tag n) h.1 a.1
done_is (Ok (at (behind_text n o es) f fs)) v h = absurd (no_token (close_tag n) h.0 h.1)
done_is (Ok (at (in_raw n p tag) f fs)) v h = let a = h.2 in absurd (no_token (tail a.0) h.1 a.2)

-- Exactly the tokens of a record with a value lead to that value.
pub record_runs : (t : Table) (n : Text) (v : List Event) (ts : List Token) → IsRecord t n v ts → run (opening t n) ts ≡ Ok (complete v)
record_runs t n v ts h =
    done_is (run (opening t n) ts) v (run_forward ts [] (opening t n) v (h.0, h.1, [], h.2, append-nil ts ∙ h.3, (refl, h.4)))

pub runs_record : (t : Table) (n : Text) (v : List Event) (ts : List Token) → run (opening t n) ts ≡ Ok (complete v) → IsRecord t n v ts
runs_record t n v ts e =
    let whole_takes : Takes (run (opening t n) ts) [] v = rw e (refl, refl) in
    let h : Reads (opening t n) (ts ++ []) v = run_back ts [] (opening t n) v whole_takes in
    (h.0, h.1, h.3, sym (append-nil ts) ∙ h.4 ∙ ap (λ (w : List Token). h.1 ++ close_tag n ∷ w) h.5.0, h.5.1)
