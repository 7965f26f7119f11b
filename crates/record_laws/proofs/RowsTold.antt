-- What a token shows is what the rows say of it.
use Rattle.std.proofs.Common.{◌≡◌, Bool, true, false, cond, List, [], ◌∷◌, Option, Some, None, refl, sym, subst, ◌∙◌, ◌⊎◌, inl, inr}
use Rattle.std.specs.Prelude.{◌&&◌, not, nat_le, length}
use Rattle.mos_fields.specs.declared.form.Form.{Form}
use Rattle.mos_fields.specs.declared.form.Form.TheVariants as forms
use Rattle.mos_fields.specs.Characters.{Text}
use Rattle.mos_fields.specs.Forms.{among, is_white, only_if, at_most, reads}
use Rattle.mos_tables.specs.declared.column.Column.{Column}
use Rattle.mos_tables.specs.declared.table.Table.{Table}
use Rattle.mos_tables.specs.declared.table.Table.TheVariants.{Envelope}
use Rattle.mos_tables.specs.Events.{Attribute, Event, leaf}
use Rattle.mos_tables.specs.Tables.{columns}
use Rattle.mos_grammar.specs.declared.fault.Fault.{Fault}
use Rattle.mos_grammar.specs.Tokens.{Token, open_tag, empty_tag, close_tag, text, tail, mark, declaration}
use Rattle.mos_grammar.specs.Records.{Child, times, seen_of, is_full, column_of, wanted, end_fault, OpenField, Role, out_of_place, leaf_role, raw_role, record_role, role_at, role_by, role, leaf_event, field_events}
use Rattle.mos_grammar.specs.RecordMachine.{Frame, State, at, complete, between, in_field, behind_text, in_raw}
use Rattle.mos_grammar.specs.Streams.{Position, before_message, inside, message_step}
use Rattle.mos_grammar.specs.Kinds.{RoleShows, TagShows}
use Rattle.mos_grammar.specs.TokenKinds.{BetweenShows, FieldTokenShows, StateShows, PositionShows, fault_in, FaultsAreFirst}
use Rattle.mos_grammar.proofs.FirstFault.{first_as}
use Rattle.record_laws.specs.Words.{by_column, is_key, element_role}
use Rattle.record_laws.specs.Rows.{IsWrong, HasAll, ElementRow, RoomRow, TagRow, BetweenRow, InFieldRow, StateRow, TokenRow}
use Rattle.record_laws.specs.Laws.{RowsAreTold}
use Rattle.record_laws.proofs.Filled.{some_column}
use Rattle.record_laws.proofs.RowLemmas.{all_is, is_all, end_row, row_end, field_row, row_field}

-- ---- texts

no_text : (y : Text) → ◌≡◌ {A = Option Text} (Some y) None → ⊥
no_text y e = cc

no_events : (es : List Event) → ◌≡◌ {A = Option (List Event)} (Some es) None → ⊥
no_events es e = cc

-- a text that doesn't read beside the keys taken doesn't read alone, or is one of them
unread_is : (form : Form) (taken : List Text) (x : Text) → reads form taken x ≡ None → (reads form [] x ≡ None) ⊎ ((is_key form ≡ true) × ((k : Text) × (reads form [] x ≡ Some k) × (among k taken ≡ true)))
unfolding reads
unread_is forms.Key taken x h = go (nat_le 1 (length x)) (at_most 128 x) (among x taken) refl h
  where
    go : (a b c : Bool) → among x taken ≡ c → only_if (a && b && not c) x ≡ None → (only_if (a && b && true) x ≡ None) ⊎ ((true ≡ true) × ((k : Text) × (only_if (a && b && true) x ≡ Some k) × (among k taken ≡ true)))
    go true true true e h = inr (refl, (x, refl, e))
    go true true false e h = absurd (no_text x h)
    go true false c e h = inl refl
    go false true c e h = inl refl
    go false false c e h = inl refl
unread_is form taken x h = inl h

is_unread : (form : Form) (taken : List Text) (x : Text) → (reads form [] x ≡ None) ⊎ ((is_key form ≡ true) × ((k : Text) × (reads form [] x ≡ Some k) × (among k taken ≡ true))) → reads form taken x ≡ None
unfolding reads
is_unread forms.Key taken x h = go (nat_le 1 (length x)) (at_most 128 x) h
  where
    same_text : (a b : Bool) (k : Text) → only_if (a && b && true) x ≡ Some k → x ≡ k
    same_text true true k e = cc
    same_text true false k e = absurd cc
    same_text false true k e = absurd cc
    same_text false false k e = absurd cc

    none : (a b c : Bool) → only_if (a && b && true) x ≡ None → only_if (a && b && not c) x ≡ None
    none true true c e = absurd (no_text x e)
    none true false c e = refl
    none false true c e = refl
    none false false c e = refl

    full : (a b : Bool) → only_if (a && b && false) x ≡ None
    full true true = refl
    full true false = refl
    full false true = refl
    full false false = refl

    go : (a b : Bool) → (only_if (a && b && true) x ≡ None) ⊎ ((true ≡ true) × ((k : Text) × (only_if (a && b && true) x ≡ Some k) × (among k taken ≡ true))) → only_if (a && b && not (among x taken)) x ≡ None
    go a b (inl e) = none a b (among x taken) e
    go a b (inr h) =
        let q : x ≡ h.1.0 = same_text a b h.1.0 h.1.1 in
        let t : among x taken ≡ true = subst (λ (z : Text). among z taken ≡ true) (sym q) h.1.2 in
        rw t (full a b)
is_unread form taken x (inl h) = h
is_unread form taken x (inr h) = absurd cc

pub wrong_is : (n : Text) (o : OpenField) (taken : List Text) (x : Text) → field_events n o taken x ≡ None → IsWrong o taken x
unfolding field_events
wrong_is n o taken x h = go (o.may_lack && is_white x) h
  where
    read : (z : Option Text) → leaf_event n o z ≡ None → z ≡ None
    read None e = refl
    read (Some y) e = absurd (no_events (leaf n o.given y ∷ []) e)

    go : (b : Bool) → cond b (Some []) (leaf_event n o (reads o.form taken x)) ≡ None → (b ≡ false) × ((reads o.form [] x ≡ None) ⊎ ((is_key o.form ≡ true) × ((k : Text) × (reads o.form [] x ≡ Some k) × (among k taken ≡ true))))
    go true h = absurd (no_events [] h)
    go false h = (refl, unread_is o.form taken x (read (reads o.form taken x) h))

pub is_wrong : (n : Text) (o : OpenField) (taken : List Text) (x : Text) → IsWrong o taken x → field_events n o taken x ≡ None
unfolding field_events
is_wrong n o taken x h = rw (h.0, is_unread o.form taken x h.1) refl

-- ---- elements

element_row : (n : Text) (w : Role) (taken : List Text) (g : List Attribute) (empty : Bool) (k : Fault) → RoleShows n w taken g empty k → ElementRow w taken g empty k
unfolding end_fault seen_of
element_row n out_of_place taken g empty k h = h
element_row n (leaf_role o) taken g empty k (inl h) = inl h
element_row n (leaf_role o) taken g empty k (inr h) = inr (h.0, wrong_is n o taken [] h.1, h.2)
element_row n (raw_role f) taken g empty k h = h
element_row n (record_role f u i) taken g empty k (inl h) = inl h
element_row n (record_role f u i) taken g empty k (inr h) = inr (h.0, end_row (wanted u []) [] k h.1)

row_element : (n : Text) (w : Role) (taken : List Text) (g : List Attribute) (empty : Bool) (k : Fault) → ElementRow w taken g empty k → RoleShows n w taken g empty k
unfolding end_fault seen_of
row_element n out_of_place taken g empty k h = h
row_element n (leaf_role o) taken g empty k (inl h) = inl h
row_element n (leaf_role o) taken g empty k (inr h) = inr (h.0, is_wrong n o taken [] h.1, h.2)
row_element n (raw_role f) taken g empty k h = h
row_element n (record_role f u i) taken g empty k (inl h) = inl h
row_element n (record_role f u i) taken g empty k (inr h) = inr (h.0, row_end (wanted u []) [] k h.1)

no_column : (c : Column) → ◌≡◌ {A = Option Column} None (Some c) → ⊥
no_column c e = cc

clash : (b : Bool) → b ≡ true → b ≡ false → ⊥
clash b p q = cc

-- whatever is said of what the element is: there is no room for it, or it is what its column says
pub by_room : (t : Table) (before : List Child) (n : Text) (g : List Attribute) (R : Role → Type 0) → R (role t before n g) → (HasAll t before n × R out_of_place) ⊎ ((HasAll t before n → ⊥) × R (element_role t before n g))
unfolding role
by_room t before n g R h = go (column_of (columns t) n) refl h
  where
    at_column : (c : Column) (b : Bool) → column_of (columns t) n ≡ Some c → is_full c.often (times c.field (seen_of t before)) ≡ b → R (cond b out_of_place (role_at before n g c c.shape))
        → (HasAll t before n × R out_of_place) ⊎ ((HasAll t before n → ⊥) × R (role_at before n g c c.shape))
    at_column c true is e h = inl ((c, is, all_is c.often (times c.field (seen_of t before)) e), h)
    at_column c false is e h = inr ((λ a. not_all a), h)
      where
        not_all : HasAll t before n → ⊥
        not_all a =
            let q : a.0 ≡ c = some_column a.0 c (sym a.1 ∙ is) in
            clash (is_full c.often (times c.field (seen_of t before))) (subst (λ (z : Column). is_full z.often (times z.field (seen_of t before)) ≡ true) q (is_all a.0.often (times a.0.field (seen_of t before)) a.2)) e

    go : (x : Option Column) → column_of (columns t) n ≡ x → R (role_by t before n g x) → (HasAll t before n × R out_of_place) ⊎ ((HasAll t before n → ⊥) × R (by_column t before n g x))
    go None is h = inr ((λ a. no_column a.0 (sym is ∙ a.1)), h)
    go (Some c) is h = at_column c (is_full c.often (times c.field (seen_of t before))) is refl h

pub room_by : (t : Table) (before : List Child) (n : Text) (g : List Attribute) (R : Role → Type 0) → (HasAll t before n × R out_of_place) ⊎ ((HasAll t before n → ⊥) × R (element_role t before n g)) → R (role t before n g)
unfolding role
room_by t before n g R h = go (column_of (columns t) n) refl h
  where
    at_column : (c : Column) (b : Bool) → column_of (columns t) n ≡ Some c → is_full c.often (times c.field (seen_of t before)) ≡ b
        → (HasAll t before n × R out_of_place) ⊎ ((HasAll t before n → ⊥) × R (role_at before n g c c.shape)) → R (cond b out_of_place (role_at before n g c c.shape))
    at_column c true is e (inl h) = h.1
    at_column c true is e (inr h) = absurd (h.0 (c, is, all_is c.often (times c.field (seen_of t before)) e))
    at_column c false is e (inl h) =
        let a = h.0 in
        let q : a.0 ≡ c = some_column a.0 c (sym a.1 ∙ is) in
        absurd (clash (is_full c.often (times c.field (seen_of t before))) (subst (λ (z : Column). is_full z.often (times z.field (seen_of t before)) ≡ true) q (is_all a.0.often (times a.0.field (seen_of t before)) a.2)) e)
    at_column c false is e (inr h) = h.1

    go : (x : Option Column) → column_of (columns t) n ≡ x → (HasAll t before n × R out_of_place) ⊎ ((HasAll t before n → ⊥) × R (by_column t before n g x)) → R (role_by t before n g x)
    go None is (inl h) = absurd (no_column h.0.0 (sym is ∙ h.0.1))
    go None is (inr h) = h.1
    go (Some c) is h = at_column c (is_full c.often (times c.field (seen_of t before))) is refl h

room_row : (t : Table) (taken : List Text) (before : List Child) (n : Text) (g : List Attribute) (empty : Bool) (k : Fault) → RoleShows n (role t before n g) taken g empty k → RoomRow t taken before n g empty k
room_row t taken before n g empty k h = by_room t before n g (λ w. ElementRow w taken g empty k) (element_row n (role t before n g) taken g empty k h)

row_room : (t : Table) (taken : List Text) (before : List Child) (n : Text) (g : List Attribute) (empty : Bool) (k : Fault) → RoomRow t taken before n g empty k → RoleShows n (role t before n g) taken g empty k
row_room t taken before n g empty k h = row_element n (role t before n g) taken g empty k (room_by t before n g (λ w. ElementRow w taken g empty k) h)

tag_row : (t : Table) (taken : List Text) (before : List Child) (n : Text) (g : List Attribute) (empty : Bool) (k : Fault) → TagShows t taken before n g empty k → TagRow t taken before n g empty k
tag_row t taken before n g empty k (inl h) = inl (field_row (columns t) (seen_of t before) n k h)
tag_row t taken before n g empty k (inr h) = inr (room_row t taken before n g empty k h)

row_tag : (t : Table) (taken : List Text) (before : List Child) (n : Text) (g : List Attribute) (empty : Bool) (k : Fault) → TagRow t taken before n g empty k → TagShows t taken before n g empty k
row_tag t taken before n g empty k (inl h) = inl (row_field (columns t) (seen_of t before) n k h)
row_tag t taken before n g empty k (inr h) = inr (row_room t taken before n g empty k h)

-- ---- tokens

between_row : (f : Frame) (t : Token) (k : Fault) → BetweenShows f t k → BetweenRow f t k
unfolding end_fault
between_row f (open_tag n g tag) k h = tag_row f.table f.taken f.before n g false k h
between_row f (empty_tag n g tag) k h = tag_row f.table f.taken f.before n g true k h
between_row f (close_tag n) k (inl h) = inl h
between_row f (close_tag n) k (inr h) = inr (h.0, end_row (wanted f.table (seen_of f.table f.before)) (seen_of f.table f.before) k h.1)
between_row f (text x y) k h = h
between_row f (tail x) k h = h
between_row f mark k h = h
between_row f declaration k h = h

row_between : (f : Frame) (t : Token) (k : Fault) → BetweenRow f t k → BetweenShows f t k
unfolding end_fault
row_between f (open_tag n g tag) k h = row_tag f.table f.taken f.before n g false k h
row_between f (empty_tag n g tag) k h = row_tag f.table f.taken f.before n g true k h
row_between f (close_tag n) k (inl h) = inl h
row_between f (close_tag n) k (inr h) = inr (h.0, row_end (wanted f.table (seen_of f.table f.before)) (seen_of f.table f.before) k h.1)
row_between f (text x y) k h = h
row_between f (tail x) k h = h
row_between f mark k h = h
row_between f declaration k h = h

in_field_row : (f : Frame) (n : Text) (o : OpenField) (t : Token) (k : Fault) → FieldTokenShows f n o t k → InFieldRow f n o t k
in_field_row f n o (text x y) k h = (wrong_is n o f.taken y h.0, h.1)
in_field_row f n o (close_tag m) k (inl h) = inl (wrong_is n o f.taken [] h.0, h.1)
in_field_row f n o (close_tag m) k (inr h) = inr h
in_field_row f n o (open_tag m g tag) k (inl h) = inl (wrong_is n o f.taken [] h.0, h.1)
in_field_row f n o (open_tag m g tag) k (inr h) = inr h
in_field_row f n o (empty_tag m g tag) k (inl h) = inl (wrong_is n o f.taken [] h.0, h.1)
in_field_row f n o (empty_tag m g tag) k (inr h) = inr h
in_field_row f n o (tail x) k h = h
in_field_row f n o mark k h = h
in_field_row f n o declaration k h = h

row_in_field : (f : Frame) (n : Text) (o : OpenField) (t : Token) (k : Fault) → InFieldRow f n o t k → FieldTokenShows f n o t k
row_in_field f n o (text x y) k h = (is_wrong n o f.taken y h.0, h.1)
row_in_field f n o (close_tag m) k (inl h) = inl (is_wrong n o f.taken [] h.0, h.1)
row_in_field f n o (close_tag m) k (inr h) = inr h
row_in_field f n o (open_tag m g tag) k (inl h) = inl (is_wrong n o f.taken [] h.0, h.1)
row_in_field f n o (open_tag m g tag) k (inr h) = inr h
row_in_field f n o (empty_tag m g tag) k (inl h) = inl (is_wrong n o f.taken [] h.0, h.1)
row_in_field f n o (empty_tag m g tag) k (inr h) = inr h
row_in_field f n o (tail x) k h = h
row_in_field f n o mark k h = h
row_in_field f n o declaration k h = h

state_row : (s : State) (t : Token) (k : Fault) → StateShows s t k → StateRow s t k
state_row (complete v) t k h = h
state_row (at between f fs) t k h = between_row f t k h
state_row (at (in_field n o) f fs) t k h = in_field_row f n o t k h
state_row (at (behind_text n o es) f fs) (close_tag m) k h = h
state_row (at (behind_text n o es) f fs) (open_tag m g tag) k h = h
state_row (at (behind_text n o es) f fs) (empty_tag m g tag) k h = h
state_row (at (behind_text n o es) f fs) (text x y) k h = h
state_row (at (behind_text n o es) f fs) (tail x) k h = h
state_row (at (behind_text n o es) f fs) mark k h = h
state_row (at (behind_text n o es) f fs) declaration k h = h
state_row (at (in_raw n p tag) f fs) (close_tag m) k h = h
state_row (at (in_raw n p tag) f fs) (open_tag m g a) k h = h
state_row (at (in_raw n p tag) f fs) (empty_tag m g a) k h = h
state_row (at (in_raw n p tag) f fs) (text x y) k h = h
state_row (at (in_raw n p tag) f fs) (tail x) k h = h
state_row (at (in_raw n p tag) f fs) mark k h = h
state_row (at (in_raw n p tag) f fs) declaration k h = h

row_state : (s : State) (t : Token) (k : Fault) → StateRow s t k → StateShows s t k
row_state (complete v) t k h = h
row_state (at between f fs) t k h = row_between f t k h
row_state (at (in_field n o) f fs) t k h = row_in_field f n o t k h
row_state (at (behind_text n o es) f fs) (close_tag m) k h = h
row_state (at (behind_text n o es) f fs) (open_tag m g tag) k h = h
row_state (at (behind_text n o es) f fs) (empty_tag m g tag) k h = h
row_state (at (behind_text n o es) f fs) (text x y) k h = h
row_state (at (behind_text n o es) f fs) (tail x) k h = h
row_state (at (behind_text n o es) f fs) mark k h = h
row_state (at (behind_text n o es) f fs) declaration k h = h
row_state (at (in_raw n p tag) f fs) (close_tag m) k h = h
row_state (at (in_raw n p tag) f fs) (open_tag m g a) k h = h
row_state (at (in_raw n p tag) f fs) (empty_tag m g a) k h = h
row_state (at (in_raw n p tag) f fs) (text x y) k h = h
row_state (at (in_raw n p tag) f fs) (tail x) k h = h
row_state (at (in_raw n p tag) f fs) mark k h = h
row_state (at (in_raw n p tag) f fs) declaration k h = h

token_row : (p : Position) (t : Token) (k : Fault) → PositionShows p t k → TokenRow p t k
unfolding end_fault seen_of
token_row (inside s) t k h = state_row s t k h
token_row (before_message g) (open_tag n a tag) k h = h
token_row (before_message g) (empty_tag n a tag) k (inl h) = inl h
token_row (before_message g) (empty_tag n a tag) k (inr h) = inr (h.0, end_row (columns Envelope) [] k h.1)
token_row (before_message g) (close_tag n) k h = h
token_row (before_message g) (text x y) k h = h
token_row (before_message g) (tail x) k h = h
token_row (before_message g) mark k h = h
token_row (before_message g) declaration k h = h

row_token : (p : Position) (t : Token) (k : Fault) → TokenRow p t k → PositionShows p t k
unfolding end_fault seen_of
row_token (inside s) t k h = row_state s t k h
row_token (before_message g) (open_tag n a tag) k h = h
row_token (before_message g) (empty_tag n a tag) k (inl h) = inl h
row_token (before_message g) (empty_tag n a tag) k (inr h) = inr (h.0, row_end (columns Envelope) [] k h.1)
row_token (before_message g) (close_tag n) k h = h
row_token (before_message g) (text x y) k h = h
row_token (before_message g) (tail x) k h = h
row_token (before_message g) mark k h = h
row_token (before_message g) declaration k h = h

pub rows_told : FaultsAreFirst → RowsAreTold
rows_told law p t = first_as (PositionShows p t) (TokenRow p t) (token_row p t) (row_token p t) (fault_in (message_step p t)) (law p t)
