-- The machine's content of a record is that of its table, and back.
use Rattle.std.proofs.Common.{◌≡◌, Bool, true, false, cond, List, [], ◌∷◌, ◌++◌, Option, refl, sym, ap, subst, ◌∙◌, append_assoc}
use Rattle.std.proofs.lemmas.List.{append-nil}
use Rattle.mos_fields.specs.declared.field.Field.{Field}
use Rattle.mos_fields.specs.Characters.{Text}
use Rattle.mos_tables.specs.declared.table.Table.{Table}
use Rattle.mos_tables.specs.Events.{Attribute, Event, leaf}
use Rattle.mos_tables.specs.Tables.{columns, has_keys}
use Rattle.mos_grammar.specs.Tokens.{Token, open_tag, empty_tag, close_tag, text, tail}
use Rattle.mos_grammar.specs.Records.{Child, column_of, OpenField, Role, leaf_role, raw_role, record_role, end_fault, nested, raw_events, key_of, keys, Content, ends, white_space, field, empty_leaf, empty_leaf_tag, raw_element, raw_tag, record_element}
use Rattle.mos_grammar.specs.Records as grammar
use Rattle.record_laws.specs.Words.{fields_of, Fills, is_key, Gives, AreApart, AreElements, nothing_more, space_between, field_with_text, field_without_text, field_tag, unread, unread_tag, record_inside, record_tag, IsContent}
use Rattle.record_laws.specs.Laws.{RecordsAreByTable}
use Rattle.record_laws.proofs.Children.{MayStand, IsFieldOf, Stood, stood_start, stood_step, stood_end, Due, due_start, due_step, due_end}
use Rattle.record_laws.proofs.Elements.{admits_leaf, leaf_admitted, admits_raw, raw_admitted, admits_record, record_admitted, admits_empty_leaf, empty_leaf_admitted, admits_empty_raw, empty_raw_admitted, admits_empty_record, empty_record_admitted}
use Rattle.record_laws.proofs.Keys.{key_field, is_keyed, is_own_key, role_facts, NoneOf, none_taken, leaf_key, own_keys, form_keys, field_gives, gives_field, gives_leaf, KeyLeaves, key_is, apart_push, apart_at, raw_key, gives_key, keys_with, no_keys}

-- ---- the own keys of elements

leaf_is_key : (n : Text) (o : OpenField) (x : Text) (es : List Event) (b : Bool) → is_key o.form ≡ b → (is_key o.form ≡ true → o.may_lack ≡ false) → Gives n o x es
    → b ≡ true → (m : Text) × (g : List Attribute) × (k : Text) × (es ≡ leaf m g k ∷ [])
leaf_is_key n o x es b e l w t = let p = gives_leaf n o x es (l (e ∙ t)) w in (n, o.given, p.0, p.1)

never_key : (K : Option Field) (f : Field) (es : List Event) → is_own_key K f ≡ false → is_own_key K f ≡ true → (m : Text) × (g : List Attribute) × (k : Text) × (es ≡ leaf m g k ∷ [])
never_key K f es p q = absurd (clash (is_own_key K f) q p)
  where
    clash : (b : Bool) → b ≡ true → b ≡ false → ⊥
    clash b p q = cc

key_leaves : {t : Table} {before later : List Child} {r : List Token} → AreElements t before later r → KeyLeaves (key_field t) later
key_leaves nothing_more = tt
key_leaves (space_between w d) = key_leaves d
key_leaves (field_with_text {t = t} {before = before} {n = n} {y = y} {g = g} {o = o} {es = es} e a w d) =
    let f = role_facts t before n g (leaf_role o) e in
    (leaf_is_key n o y es (is_own_key (key_field t) o.field) f.1 f.2 w, key_leaves d)
key_leaves (field_without_text {t = t} {before = before} {n = n} {g = g} {o = o} {es = es} e a w d) =
    let f = role_facts t before n g (leaf_role o) e in
    (leaf_is_key n o [] es (is_own_key (key_field t) o.field) f.1 f.2 w, key_leaves d)
key_leaves (field_tag {t = t} {before = before} {n = n} {g = g} {o = o} {es = es} e a w d) =
    let f = role_facts t before n g (leaf_role o) e in
    (leaf_is_key n o [] es (is_own_key (key_field t) o.field) f.1 f.2 w, key_leaves d)
key_leaves (unread {t = t} {before = before} {n = n} {tag = tag} {x = x} {g = g} {f = f} e w d) =
    (never_key (key_field t) f (raw_events f (tag ++ x)) (role_facts t before n g (raw_role f) e).1, key_leaves d)
key_leaves (unread_tag {t = t} {before = before} {n = n} {tag = tag} {g = g} {f = f} e d) =
    (never_key (key_field t) f (raw_events f tag) (role_facts t before n g (raw_role f) e).1, key_leaves d)
key_leaves (record_inside {t = t} {u = u} {before = before} {inner = inner} {n = n} {g = g} {h = h} {f = f} e a d w d2) =
    (never_key (key_field t) f (nested n h u inner) (role_facts t before n g (record_role f u h) e).1, key_leaves d2)
key_leaves (record_tag {t = t} {u = u} {before = before} {n = n} {g = g} {h = h} {f = f} e a w d) =
    (never_key (key_field t) f (nested n h u []) (role_facts t before n g (record_role f u h) e).1, key_leaves d)

-- a key more among the own ones
free_more : (taken ks : List Text) (o : OpenField) (es : List Event) (b : Bool) → is_key o.form ≡ b → NoneOf taken (form_keys o es) → NoneOf taken ks → NoneOf taken (cond b (leaf_key es ++ ks) ks)
free_more taken ks o es b e h w = go b (rw e at h)
  where
    both : (js : List Text) → NoneOf taken js → NoneOf taken (js ++ ks)
    both [] h = w
    both (j ∷ js) h = (h.0, both js h.1)

    go : (b : Bool) → NoneOf taken (cond b (leaf_key es) []) → NoneOf taken (cond b (leaf_key es ++ ks) ks)
    go true h = both (leaf_key es) h
    go false h = w

free_less : (taken ks : List Text) (o : OpenField) (es : List Event) (b : Bool) → is_key o.form ≡ b → NoneOf taken (cond b (leaf_key es ++ ks) ks) → NoneOf taken (form_keys o es) × NoneOf taken ks
free_less taken ks o es b e h =
    let p = go b h in
    (rw e p.0, p.1)
  where
    both : (js : List Text) → NoneOf taken (js ++ ks) → NoneOf taken js × NoneOf taken ks
    both [] h = (tt, h)
    both (j ∷ js) h = let p = both js h.1 in ((h.0, p.0), p.1)

    go : (b : Bool) → NoneOf taken (cond b (leaf_key es ++ ks) ks) → NoneOf taken (cond b (leaf_key es) []) × NoneOf taken ks
    go true h = both (leaf_key es) h
    go false h = (tt, h)

free_same : (taken ks : List Text) (es : List Event) (b : Bool) → b ≡ false → NoneOf taken ks → NoneOf taken (cond b (leaf_key es ++ ks) ks)
free_same taken ks es true e h = absurd cc
free_same taken ks es false e h = h

free_rest : (taken ks : List Text) (es : List Event) (b : Bool) → b ≡ false → NoneOf taken (cond b (leaf_key es ++ ks) ks) → NoneOf taken ks
free_rest taken ks es true e h = absurd cc
free_rest taken ks es false e h = h

-- ---- keys beside each other

apart_same : (t : Table) (before : List Child) (p : Field) (es : List Event) → key_of es ≡ [] → AreApart (keys t before) → AreApart (keys t (before ++ (p, es) ∷ []))
unfolding keys
apart_same t before p es e a = subst AreApart (sym (keys_with t before (p, es) [] ∙ ap (λ (x : List Text). keys t before ++ x) (go (has_keys t)) ∙ append-nil (keys t before))) a
  where
    go : (b : Bool) → cond b (key_of es) [] ++ cond b [] [] ≡ []
    go true = rw e refl
    go false = refl

no_child : (t : Table) → keys t [] ≡ []
unfolding keys
no_child t = go (has_keys t)
  where
    go : (b : Bool) → ◌≡◌ {A = List Text} (cond b [] []) []
    go true = refl
    go false = refl

-- the key of a whole record inside was free
inner_free : (t u : Table) (before inner : List Child) (p : Field) (n : Text) (h : List Attribute) → (has_keys t ≡ true → is_keyed u ≡ true) → KeyLeaves (key_field u) inner → Fills u (fields_of inner)
    → NoneOf (keys t before) (own_keys (key_field u) inner) → AreApart (keys t before) → AreApart (keys t (before ++ (p, nested n h u inner) ∷ []))
unfolding keys
inner_free t u before inner p n h keyed l w free a = go (has_keys t) refl
  where
    go : (b : Bool) → has_keys t ≡ b → AreApart (keys t (before ++ (p, nested n h u inner) ∷ []))
    go false e = subst AreApart (sym (no_keys t (before ++ (p, nested n h u inner) ∷ []) e)) tt
    go true e =
        let k = key_is u inner n h (keyed e) l w in
        let f : NoneOf (keys t before) (k.0 ∷ []) = subst (NoneOf (keys t before)) k.2 free in
        let key : cond (has_keys t) (key_of (nested n h u inner)) [] ≡ k.0 ∷ [] = rw (e, k.1) refl in
        let none : keys t [] ≡ [] = no_child t in
        let s : keys t (before ++ (p, nested n h u inner) ∷ []) ≡ keys t before ++ k.0 ∷ [] = keys_with t before (p, nested n h u inner) [] ∙ rw (key, none) refl in
        subst AreApart (sym s) (apart_push (keys t before) k.0 a f.0)

-- and where keys are apart, it is free
apart_free : (t u : Table) (before inner later : List Child) (p : Field) (n : Text) (h : List Attribute) → (has_keys t ≡ true → is_keyed u ≡ true) → KeyLeaves (key_field u) inner → Fills u (fields_of inner)
    → AreApart (keys t (before ++ (p, nested n h u inner) ∷ later)) → NoneOf (keys t before) (own_keys (key_field u) inner)
apart_free t u before inner later p n h keyed l w a = go (has_keys t) refl
  where
    go : (b : Bool) → has_keys t ≡ b → NoneOf (keys t before) (own_keys (key_field u) inner)
    go false e = subst (λ (x : List Text). NoneOf x (own_keys (key_field u) inner)) (sym (no_keys t before e)) (none_taken (own_keys (key_field u) inner))
    go true e =
        let k = key_is u inner n h (keyed e) l w in
        let key : cond (has_keys t) (key_of (nested n h u inner)) [] ≡ k.0 ∷ [] = rw (e, k.1) refl in
        let s : keys t (before ++ (p, nested n h u inner) ∷ later) ≡ keys t before ++ k.0 ∷ keys t later = keys_with t before (p, nested n h u inner) later ∙ ap (λ (x : List Text). keys t before ++ (x ++ keys t later)) key in
        subst (NoneOf (keys t before)) (sym k.2) (apart_at (keys t before) k.0 (keys t later) (subst AreApart s a), tt)

-- no children have no keys
none_apart : (t : Table) → AreApart (keys t [])
none_apart t = subst AreApart (sym (no_child t)) tt

-- ---- from the machine to the table

abbrev Walked : Table → List Text → List Child → List Child → List Token → Type 0
Walked t taken before all r =
    (later : List Child) × (all ≡ before ++ later) × AreElements t before later r × (Stood t before → Fills t (fields_of all)) × NoneOf taken (own_keys (key_field t) later) × (AreApart (keys t before) → AreApart (keys t all))

walk_on : (t : Table) (taken : List Text) (before all : List Child) (r more : List Token) (p : Field) (es : List Event)
    → ((later : List Child) → AreElements t (before ++ (p, es) ∷ []) later r → AreElements t before ((p, es) ∷ later) more)
    → (Stood t before → Stood t (before ++ (p, es) ∷ []))
    → ((ks : List Text) → NoneOf taken ks → NoneOf taken (cond (is_own_key (key_field t) p) (leaf_key es ++ ks) ks))
    → (AreApart (keys t before) → AreApart (keys t (before ++ (p, es) ∷ [])))
    → Walked t taken (before ++ (p, es) ∷ []) all r → Walked t taken before all more
walk_on t taken before all r more p es element stood free apart w =
    ((p, es) ∷ w.0, w.1 ∙ append_assoc before ((p, es) ∷ []) w.0, element w.0 w.2, λ s. w.3 (stood s), free (own_keys (key_field t) w.0) w.4, λ a. w.5 (apart a))

stands : (t : Table) (before : List Child) (n : Text) (p : Field) (es : List Event) → IsFieldOf (column_of (columns t) n) p → MayStand t before n (column_of (columns t) n) → Stood t before → Stood t (before ++ (p, es) ∷ [])
stands t before n p es f m s = stood_step t before n (column_of (columns t) n) p es refl f m s

walked : {t : Table} {taken : List Text} {before all : List Child} {r : List Token} → Content t taken before all r → Walked t taken before all r
walked (ends {t = t} {all = all} e) = ([], sym (append-nil all), nothing_more, λ s. stood_end t all s e, tt, λ a. a)
walked (white_space {x = x} {y = y} w d) = let i = walked d in (i.0, i.1, space_between w i.2, i.3, i.4, i.5)
walked (field {t = t} {taken = taken} {before = before} {all = all} {n = n} {tag = tag} {x = x} {y = y} {g = g} {r = r} {o = o} {es = es} e w d) =
    let p = admits_leaf t before n g o e in
    let f = role_facts t before n g (leaf_role o) p.0.0 in
    let v = field_gives n o taken y es w in
    walk_on t taken before all r (open_tag n g tag ∷ text x y ∷ close_tag n ∷ r) o.field es (λ later d. field_with_text p.0.0 p.1 v.0 d) (stands t before n o.field es f.0 p.0.1)
    (λ ks h. free_more taken ks o es (is_own_key (key_field t) o.field) f.1 v.1 h) (apart_same t before o.field es (gives_key n o y es v.0)) (walked d)
walked (empty_leaf {t = t} {taken = taken} {before = before} {all = all} {n = n} {tag = tag} {g = g} {r = r} {o = o} {es = es} e w d) =
    let p = admits_leaf t before n g o e in
    let f = role_facts t before n g (leaf_role o) p.0.0 in
    let v = field_gives n o taken [] es w in
    walk_on t taken before all r (open_tag n g tag ∷ close_tag n ∷ r) o.field es (λ later d. field_without_text p.0.0 p.1 v.0 d) (stands t before n o.field es f.0 p.0.1)
    (λ ks h. free_more taken ks o es (is_own_key (key_field t) o.field) f.1 v.1 h) (apart_same t before o.field es (gives_key n o [] es v.0)) (walked d)
walked (empty_leaf_tag {t = t} {taken = taken} {before = before} {all = all} {n = n} {tag = tag} {g = g} {r = r} {o = o} {es = es} e w d) =
    let p = admits_empty_leaf t taken before n g o e in
    let f = role_facts t before n g (leaf_role o) p.0.0 in
    let v = field_gives n o taken [] es w in
    walk_on t taken before all r (empty_tag n g tag ∷ r) o.field es (λ later d. field_tag p.0.0 p.1 v.0 d) (stands t before n o.field es f.0 p.0.1)
    (λ ks h. free_more taken ks o es (is_own_key (key_field t) o.field) f.1 v.1 h) (apart_same t before o.field es (gives_key n o [] es v.0)) (walked d)
walked (raw_element {t = t} {taken = taken} {before = before} {all = all} {n = n} {tag = tag} {x = x} {g = g} {r = r} {f = k} e w d) =
    let p = admits_raw t before n g k e in
    let f = role_facts t before n g (raw_role k) p.0 in
    let es = raw_events k (tag ++ x) in
    walk_on t taken before all r (open_tag n g tag ∷ tail x ∷ r) k es (λ later d. unread p.0 w d) (stands t before n k es f.0 p.1)
    (λ ks h. free_same taken ks es (is_own_key (key_field t) k) f.1 h) (apart_same t before k es (raw_key k (tag ++ x))) (walked d)
walked (raw_tag {t = t} {taken = taken} {before = before} {all = all} {n = n} {tag = tag} {g = g} {r = r} {f = k} e d) =
    let p = admits_empty_raw t taken before n g k e in
    let f = role_facts t before n g (raw_role k) p.0 in
    let es = raw_events k tag in
    walk_on t taken before all r (empty_tag n g tag ∷ r) k es (λ later d. unread_tag p.0 d) (stands t before n k es f.0 p.1)
    (λ ks h. free_same taken ks es (is_own_key (key_field t) k) f.1 h) (apart_same t before k es (raw_key k tag)) (walked d)
walked (record_element {t = t} {u = u} {taken = taken} {before = before} {all = all} {inner = inner} {n = n} {tag = tag} {g = g} {h = h} {r = r} {s = s} {f = k} e d d2) =
    let p = admits_record t before n g k u h e in
    let f = role_facts t before n g (record_role k u h) p.0.0 in
    let i = walked d in
    let same : inner ≡ i.0 = i.1 in
    let elements : AreElements u [] inner r = subst (λ (x : List Child). AreElements u [] x r) (sym same) i.2 in
    let fills : Fills u (fields_of inner) = i.3 (stood_start u) in
    let free : NoneOf (keys t before) (own_keys (key_field u) inner) = subst (λ (x : List Child). NoneOf (keys t before) (own_keys (key_field u) x)) (sym same) i.4 in
    let es = nested n h u inner in
    walk_on t taken before all s (open_tag n g tag ∷ (r ++ close_tag n ∷ s)) k es (λ later d. record_inside p.0.0 p.1 elements (fills, i.5 (none_apart u)) d) (stands t before n k es f.0 p.0.1)
    (λ ks h. free_same taken ks es (is_own_key (key_field t) k) f.1 h) (inner_free t u before inner k n h f.2 (key_leaves elements) fills free) (walked d2)
walked (grammar.record_tag {t = t} {u = u} {taken = taken} {before = before} {all = all} {n = n} {tag = tag} {g = g} {h = h} {r = r} {f = k} e w d) =
    let p = admits_empty_record t taken before n g k u h e in
    let f = role_facts t before n g (record_role k u h) p.0.0 in
    let fills : Fills u [] = stood_end u [] (stood_start u) w in
    let es = nested n h u [] in
    walk_on t taken before all r (empty_tag n g tag ∷ r) k es (λ later d. record_tag p.0.0 p.1 (fills, none_apart u) d) (stands t before n k es f.0 p.0.1)
    (λ ks h. free_same taken ks es (is_own_key (key_field t) k) f.1 h) (inner_free t u before [] k n h f.2 tt fills tt) (walked d)

-- ---- from the table to the machine

due_on : (t : Table) (before : List Child) (n : Text) (p : Field) (es : List Event) (later : List Child) → IsFieldOf (column_of (columns t) n) p → Due t before ((p, es) ∷ later)
    → MayStand t before n (column_of (columns t) n) × Due t (before ++ (p, es) ∷ []) later
due_on t before n p es later f h = due_step t before n (column_of (columns t) n) p es later refl f h

-- the children, joined anew
joined : (t : Table) (taken : List Text) (before : List Child) (c : Child) (later : List Child) (r : List Token) → Content t taken before ((before ++ c ∷ []) ++ later) r → Content t taken before (before ++ c ∷ later) r
joined t taken before c later r d = subst (λ (x : List Child). Content t taken before x r) (append_assoc before (c ∷ []) later) d

parted : (t : Table) (before : List Child) (c : Child) (later : List Child) → AreApart (keys t (before ++ c ∷ later)) → AreApart (keys t ((before ++ c ∷ []) ++ later))
parted t before c later a = subst (λ (x : List Child). AreApart (keys t x)) (sym (append_assoc before (c ∷ []) later)) a

content : {t : Table} {before later : List Child} {r : List Token} → AreElements t before later r → (taken : List Text) → Due t before later → NoneOf taken (own_keys (key_field t) later) → AreApart (keys t (before ++ later))
    → Content t taken before (before ++ later) r
content (nothing_more {t = t} {before = before}) taken due free apart = subst (λ (x : List Child). Content t taken before x []) (sym (append-nil before)) (ends (due_end t before due))
content (space_between w d) taken due free apart = white_space w (content d taken due free apart)
content (field_with_text {t = t} {before = before} {later = later} {n = n} {tag = tag} {x = x} {y = y} {g = g} {r = r} {o = o} {es = es} e a w d) taken due free apart =
    let f = role_facts t before n g (leaf_role o) e in
    let s = due_on t before n o.field es later f.0 due in
    let k = free_less taken (own_keys (key_field t) later) o es (is_own_key (key_field t) o.field) f.1 free in
    joined t taken before (o.field, es) later (open_tag n g tag ∷ text x y ∷ close_tag n ∷ r)
    (field (leaf_admitted t before n g o (e, s.0) a) (gives_field n o taken y es w k.0) (content d taken s.1 k.1 (parted t before (o.field, es) later apart)))
content (field_without_text {t = t} {before = before} {later = later} {n = n} {tag = tag} {g = g} {r = r} {o = o} {es = es} e a w d) taken due free apart =
    let f = role_facts t before n g (leaf_role o) e in
    let s = due_on t before n o.field es later f.0 due in
    let k = free_less taken (own_keys (key_field t) later) o es (is_own_key (key_field t) o.field) f.1 free in
    joined t taken before (o.field, es) later (open_tag n g tag ∷ close_tag n ∷ r)
    (empty_leaf (leaf_admitted t before n g o (e, s.0) a) (gives_field n o taken [] es w k.0) (content d taken s.1 k.1 (parted t before (o.field, es) later apart)))
content (field_tag {t = t} {before = before} {later = later} {n = n} {tag = tag} {g = g} {r = r} {o = o} {es = es} e a w d) taken due free apart =
    let f = role_facts t before n g (leaf_role o) e in
    let s = due_on t before n o.field es later f.0 due in
    let k = free_less taken (own_keys (key_field t) later) o es (is_own_key (key_field t) o.field) f.1 free in
    let v = gives_field n o taken [] es w k.0 in
    joined t taken before (o.field, es) later (empty_tag n g tag ∷ r)
    (empty_leaf_tag (empty_leaf_admitted t taken before n g o es (e, s.0) a v) v (content d taken s.1 k.1 (parted t before (o.field, es) later apart)))
content (unread {t = t} {before = before} {later = later} {n = n} {tag = tag} {x = x} {g = g} {r = r} {f = k} e w d) taken due free apart =
    let f = role_facts t before n g (raw_role k) e in
    let es = raw_events k (tag ++ x) in
    let s = due_on t before n k es later f.0 due in
    joined t taken before (k, es) later (open_tag n g tag ∷ tail x ∷ r)
    (raw_element (raw_admitted t before n g k (e, s.0)) w (content d taken s.1 (free_rest taken (own_keys (key_field t) later) es (is_own_key (key_field t) k) f.1 free) (parted t before (k, es) later apart)))
content (unread_tag {t = t} {before = before} {later = later} {n = n} {tag = tag} {g = g} {r = r} {f = k} e d) taken due free apart =
    let f = role_facts t before n g (raw_role k) e in
    let es = raw_events k tag in
    let s = due_on t before n k es later f.0 due in
    joined t taken before (k, es) later (empty_tag n g tag ∷ r)
    (raw_tag (empty_raw_admitted t taken before n g k (e, s.0)) (content d taken s.1 (free_rest taken (own_keys (key_field t) later) es (is_own_key (key_field t) k) f.1 free) (parted t before (k, es) later apart)))
content (record_inside {t = t} {u = u} {before = before} {later = later} {inner = inner} {n = n} {tag = tag} {g = g} {h = h} {r = r} {s = more} {f = k} e a d w d2) taken due free apart =
    let f = role_facts t before n g (record_role k u h) e in
    let es = nested n h u inner in
    let s = due_on t before n k es later f.0 due in
    let i = content d (keys t before) (due_start u inner w.0) (apart_free t u before inner later k n h f.2 (key_leaves d) w.0 apart) w.1 in
    joined t taken before (k, es) later (open_tag n g tag ∷ (r ++ close_tag n ∷ more))
    (record_element (record_admitted t before n g k u h (e, s.0) a) i
    (content d2 taken s.1 (free_rest taken (own_keys (key_field t) later) es (is_own_key (key_field t) k) f.1 free) (parted t before (k, es) later apart)))
content (record_tag {t = t} {u = u} {before = before} {later = later} {n = n} {tag = tag} {g = g} {h = h} {r = r} {f = k} e a w d) taken due free apart =
    let f = role_facts t before n g (record_role k u h) e in
    let es = nested n h u [] in
    let s = due_on t before n k es later f.0 due in
    let v = due_end u [] (due_start u [] w.0) in
    joined t taken before (k, es) later (empty_tag n g tag ∷ r)
    (grammar.record_tag (empty_record_admitted t taken before n g k u h (e, s.0) a v) v
    (content d taken s.1 (free_rest taken (own_keys (key_field t) later) es (is_own_key (key_field t) k) f.1 free) (parted t before (k, es) later apart)))

pub records_by_table : RecordsAreByTable
records_by_table t all r = (λ c. there (walked c), λ c. content c.0 [] (due_start t all c.1.0) (none_taken (own_keys (key_field t) all)) c.1.1)
  where
    there : Walked t [] [] all r → IsContent t all r
    there w = (subst (λ (x : List Child). AreElements t [] x r) (sym w.1) w.2, (w.3 (stood_start t), w.5 (none_apart t)))
