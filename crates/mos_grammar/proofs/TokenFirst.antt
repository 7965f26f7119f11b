-- The fault of a token is the first of what it shows.
use Rattle.std.proofs.Common.{◌≡◌, Bool, true, false, cond, List, [], ◌∷◌, Option, Some, None, Result, Ok, Err, ◌++◌, refl, sym, subst, ◌∙◌, arith, ◌≤◌, ◌⊎◌, inl, inr}
use Rattle.std.specs.Prelude.{nat_lt}
use Rattle.mos_fields.specs.Characters.{Text}
use Rattle.mos_fields.specs.Fields.{same}
use Rattle.mos_fields.specs.Raw.{is_tail}
use Rattle.mos_fields.specs.Forms.{is_white}
use Rattle.mos_tables.specs.declared.table.Table.TheVariants.{Envelope}
use Rattle.mos_tables.specs.Events.{Attribute, Event}
use Rattle.mos_grammar.specs.Tokens.{Token, open_tag, empty_tag, close_tag, text, tail, mark, declaration}
use Rattle.mos_grammar.specs.declared.fault.Fault.{Fault}
use Rattle.mos_grammar.specs.declared.fault.Fault.TheVariants.{Value as wrong_value, Tag as misplaced}
use Rattle.mos_grammar.specs.Records.{OpenField, Role, out_of_place, leaf_role, raw_role, record_role, role, role_fault, inside_fault, outside_fault, earlier, admitted, raw_events, field_events, end_fault, order_of, Admission, not_admitted, admitted_leaf, admitted_raw, admitted_record, admission, empty_admission, text_fault}
use Rattle.mos_grammar.specs.RecordMachine.{Frame, State, at, complete, between, in_field, behind_text, in_raw, after_start_tag, after_empty_tag, after_field, after_record_tag, after_end_tag, after_text, empty_text_fault, with_child, step, opening}
use Rattle.mos_grammar.specs.Streams.{mos_name, may_mark, may_declare, Position, before_message, inside, inside_of, bare_fault, message_step, behind_mark, behind_declaration}
use Rattle.mos_grammar.specs.Kinds.{TagShows, First, fault_of}
use Rattle.mos_grammar.specs.TokenKinds.{TextShows, EndShows, StateShows, fault_in, FaultsAreFirst}
use Rattle.mos_grammar.proofs.FirstFault.{order_most, first_as, admission_first, empty_admission_first}

-- the fault of a step
abbrev pub state_fault : Result State Fault → Option Fault
state_fault (Ok s) = None
state_fault (Err k) = Some k

no_fault : (k : Fault) → ◌≡◌ {A = Option Fault} None (Some k) → ⊥
no_fault k e = cc

some_is : (a b : Fault) → ◌≡◌ {A = Option Fault} (Some a) (Some b) → a ≡ b
some_is a b e = cc

no_events : (es : List Event) → ◌≡◌ {A = Option (List Event)} (Some es) None → ⊥
no_events es e = cc

at_most : (f k : Fault) → k ≡ f → order_of f ≤ order_of k
at_most f k e = subst (λ (z : Fault). order_of f ≤ order_of z) (sym e) (omega arith)

alone : First (λ k. k ≡ misplaced) (Some misplaced)
alone = (refl, λ k h. at_most misplaced k h)

-- a test that fails shows Tag
tested : (b : Bool) (s : State) → First (λ k. (b ≡ false) × (k ≡ misplaced)) (state_fault (cond b (Ok s) (Err misplaced)))
tested true s = λ k h. absurd cc
tested false s = ((refl, refl), λ k h. at_most misplaced k h.1)

start_first : (f : Frame) (fs : List Frame) (n tag : Text) (e : Admission) → state_fault (after_start_tag f fs n tag e) ≡ fault_of e
start_first f fs n tag (not_admitted k) = refl
start_first f fs n tag (admitted_leaf o) = refl
start_first f fs n tag (admitted_raw p) = refl
start_first f fs n tag (admitted_record p u h) = refl

inside_none : (a b c : Option Fault) → earlier a (earlier b c) ≡ None → c ≡ None
inside_none a b c h = second b c (second a (earlier b c) h)
  where
    second : (a b : Option Fault) → earlier a b ≡ None → b ≡ None
    second None b h = h
    second (Some f) None h = refl
    second (Some f) (Some g) h = absurd (go (nat_lt (order_of g) (order_of f)) h)
      where
        go : (b : Bool) → cond b (Some g) (Some f) ≡ None → ⊥
        go true h = cc
        go false h = cc

-- an empty tag that is admitted shows nothing more at its end
empty_first : (f : Frame) (fs : List Frame) (n tag : Text) (w : Role) (a b : Option Fault)
    → state_fault (after_empty_tag f fs n tag (admitted w (earlier a (earlier b (inside_fault n w f.taken))))) ≡ fault_of (admitted w (earlier a (earlier b (inside_fault n w f.taken))))
empty_first f fs n tag out_of_place a b = go (earlier a (earlier b None))
  where
    go : (x : Option Fault) → state_fault (after_empty_tag f fs n tag (admitted out_of_place x)) ≡ fault_of (admitted out_of_place x)
    go None = refl
    go (Some k) = refl
empty_first f fs n tag (raw_role p) a b = go (earlier a (earlier b None))
  where
    go : (x : Option Fault) → state_fault (after_empty_tag f fs n tag (admitted (raw_role p) x)) ≡ fault_of (admitted (raw_role p) x)
    go None = refl
    go (Some k) = refl
empty_first f fs n tag (leaf_role o) a b = go (earlier a (earlier b (inside_fault n (leaf_role o) f.taken))) (inside_none a b (inside_fault n (leaf_role o) f.taken))
  where
    text_is : (x : Option (List Event)) → text_fault o x ≡ None → state_fault (after_field f fs o x) ≡ None
    text_is (Some es) h = refl
    text_is None h = absurd cc

    go : (x : Option Fault) → (x ≡ None → inside_fault n (leaf_role o) f.taken ≡ None) → state_fault (after_empty_tag f fs n tag (admitted (leaf_role o) x)) ≡ fault_of (admitted (leaf_role o) x)
    go None h = text_is (field_events n o f.taken []) (h refl)
    go (Some k) h = refl
empty_first f fs n tag (record_role p u i) a b = go (earlier a (earlier b (inside_fault n (record_role p u i) f.taken))) (inside_none a b (inside_fault n (record_role p u i) f.taken))
  where
    end_is : (x : Option Fault) → x ≡ None → state_fault (after_record_tag f fs n p u i x) ≡ None
    end_is None h = refl
    end_is (Some k) h = absurd cc

    go : (x : Option Fault) → (x ≡ None → inside_fault n (record_role p u i) f.taken ≡ None) → state_fault (after_empty_tag f fs n tag (admitted (record_role p u i) x)) ≡ fault_of (admitted (record_role p u i) x)
    go None h = end_is (end_fault u []) (h refl)
    go (Some k) h = refl

empty_is_first : (f : Frame) (fs : List Frame) (n tag : Text) (g : List Attribute) → state_fault (after_empty_tag f fs n tag (empty_admission f.table f.taken f.before n g)) ≡ fault_of (empty_admission f.table f.taken f.before n g)
unfolding empty_admission
empty_is_first f fs n tag g = empty_first f fs n tag (role f.table f.before n g) (outside_fault f.table f.before n) (role_fault (role f.table f.before n g) g)

end_first : (f : Frame) (fs : List Frame) (n : Text) → First (EndShows f n) (state_fault (cond (same f.name n) (after_end_tag f fs (end_fault f.table f.before)) (Err misplaced)))
end_first f fs n = go (same f.name n) refl
  where
    close : (fs : List Frame) (o : Option Fault) → state_fault (after_end_tag f fs o) ≡ o
    close fs (Some k) = refl
    close [] None = refl
    close (g ∷ gs) None = refl

    ends : same f.name n ≡ true → (o : Option Fault) → end_fault f.table f.before ≡ o → First (EndShows f n) o
    ends e None h = none
      where
        none : (k : Fault) → EndShows f n k → ⊥
        none k (inl a) = both (same f.name n) e a.0
          where
            both : (b : Bool) → b ≡ true → b ≡ false → ⊥
            both true p q = cc
            both false p q = cc
        none k (inr a) = no_fault k (sym h ∙ a.1)
    ends e (Some k) h = (inr (e, h), least)
      where
        least : (j : Fault) → EndShows f n j → order_of k ≤ order_of j
        least j (inl a) = subst (λ (z : Fault). order_of k ≤ order_of z) (sym a.1) (order_most k)
        least j (inr a) = at_most k j (some_is j k (sym a.1 ∙ h))

    go : (b : Bool) → same f.name n ≡ b → First (EndShows f n) (state_fault (cond b (after_end_tag f fs (end_fault f.table f.before)) (Err misplaced)))
    go true e = subst (First (EndShows f n)) (sym (close fs (end_fault f.table f.before))) (ends e (end_fault f.table f.before) refl)
    go false e = (inl (e, refl), least)
      where
        least : (k : Fault) → EndShows f n k → order_of misplaced ≤ order_of k
        least k (inl a) = at_most misplaced k a.1
        least k (inr a) = absurd (both (same f.name n) a.0 e)
          where
            both : (b : Bool) → b ≡ true → b ≡ false → ⊥
            both true p q = cc
            both false p q = cc

-- a text of a field
text_first : (f : Frame) (fs : List Frame) (n : Text) (o : OpenField) (y : Text) (s : Option (List Event) → Result State Fault) → ((es : List Event) → state_fault (s (Some es)) ≡ None) → state_fault (s None) ≡ Some (wrong_value o.field)
    → First (TextShows n o f.taken y) (state_fault (s (field_events n o f.taken y)))
text_first f fs n o y s good bad = go (field_events n o f.taken y) refl
  where
    go : (x : Option (List Event)) → field_events n o f.taken y ≡ x → First (TextShows n o f.taken y) (state_fault (s x))
    go (Some es) e = subst (First (TextShows n o f.taken y)) (sym (good es)) (λ k h. no_events es (sym e ∙ h.0))
    go None e = subst (First (TextShows n o f.taken y)) (sym bad) ((e, refl), λ k h. at_most (wrong_value o.field) k h.1)

-- a tag behind the start tag of a field that is not its end tag
unfit_first : (n : Text) (o : OpenField) (taken : List Text) → First (λ k. TextShows n o taken [] k ⊎ (k ≡ misplaced)) (Some (empty_text_fault o (field_events n o taken [])))
unfit_first n o taken = go (field_events n o taken []) refl
  where
    go : (x : Option (List Event)) → field_events n o taken [] ≡ x → First (λ k. TextShows n o taken [] k ⊎ (k ≡ misplaced)) (Some (empty_text_fault o x))
    go (Some es) e = (inr refl, least)
      where
        least : (k : Fault) → TextShows n o taken [] k ⊎ (k ≡ misplaced) → order_of misplaced ≤ order_of k
        least k (inl a) = absurd (no_events es (sym e ∙ a.0))
        least k (inr a) = at_most misplaced k a
    go None e = (inl (e, refl), least)
      where
        least : (k : Fault) → TextShows n o taken [] k ⊎ (k ≡ misplaced) → order_of (wrong_value o.field) ≤ order_of k
        least k (inl a) = at_most (wrong_value o.field) k a.1
        least k (inr a) = subst (λ (z : Fault). order_of (wrong_value o.field) ≤ order_of z) (sym a) (omega arith)

close_first : (f : Frame) (fs : List Frame) (n m : Text) (o : OpenField) → First (λ k. TextShows n o f.taken [] k ⊎ ((same n m ≡ false) × (k ≡ misplaced))) (state_fault (cond (same n m) (after_field f fs o (field_events n o f.taken [])) (Err (empty_text_fault o (field_events n o f.taken [])))))
close_first f fs n m o = go (same n m) refl
  where
    Shows : Fault → Type 0
    Shows k = TextShows n o f.taken [] k ⊎ ((same n m ≡ false) × (k ≡ misplaced))

    both : (b : Bool) → b ≡ true → b ≡ false → ⊥
    both true p q = cc
    both false p q = cc

    go : (b : Bool) → same n m ≡ b → First (λ k. TextShows n o f.taken [] k ⊎ ((same n m ≡ false) × (k ≡ misplaced))) (state_fault (cond b (after_field f fs o (field_events n o f.taken [])) (Err (empty_text_fault o (field_events n o f.taken [])))))
    go true e = first_as (TextShows n o f.taken []) (λ k. TextShows n o f.taken [] k ⊎ ((same n m ≡ false) × (k ≡ misplaced))) (λ k a. inl a) from (state_fault (after_field f fs o (field_events n o f.taken [])))
        (text_first f fs n o [] (after_field f fs o) (λ es. refl) refl)
      where
        from : (k : Fault) → TextShows n o f.taken [] k ⊎ ((same n m ≡ false) × (k ≡ misplaced)) → TextShows n o f.taken [] k
        from k (inl a) = a
        from k (inr a) = absurd (both (same n m) e a.0)
    go false e = first_as (λ k. TextShows n o f.taken [] k ⊎ (k ≡ misplaced)) (λ k. TextShows n o f.taken [] k ⊎ ((same n m ≡ false) × (k ≡ misplaced))) to from (Some (empty_text_fault o (field_events n o f.taken []))) (unfit_first n o f.taken)
      where
        to : (k : Fault) → TextShows n o f.taken [] k ⊎ (k ≡ misplaced) → TextShows n o f.taken [] k ⊎ ((same n m ≡ false) × (k ≡ misplaced))
        to k (inl a) = inl a
        to k (inr a) = inr (e, a)

        from : (k : Fault) → TextShows n o f.taken [] k ⊎ ((same n m ≡ false) × (k ≡ misplaced)) → TextShows n o f.taken [] k ⊎ (k ≡ misplaced)
        from k (inl a) = inl a
        from k (inr a) = inr a.1

state_first : (s : State) (t : Token) → First (StateShows s t) (state_fault (step s t))
unfolding step
state_first (complete v) (open_tag n g tag) = alone
state_first (complete v) (empty_tag n g tag) = alone
state_first (complete v) (close_tag n) = alone
state_first (complete v) (text x y) = alone
state_first (complete v) (tail x) = alone
state_first (complete v) mark = alone
state_first (complete v) declaration = alone
state_first (at between f fs) (open_tag n g tag) = subst (First (TagShows f.table f.taken f.before n g false)) (sym (start_first f fs n tag (admission f.table f.before n g))) (admission_first f.table f.taken f.before n g)
state_first (at between f fs) (empty_tag n g tag) = subst (First (TagShows f.table f.taken f.before n g true)) (sym (empty_is_first f fs n tag g)) (empty_admission_first f.table f.taken f.before n g)
state_first (at between f fs) (close_tag n) = end_first f fs n
state_first (at between f fs) (text x y) = tested (is_white x) (at between f fs)
state_first (at between f fs) (tail x) = alone
state_first (at between f fs) mark = alone
state_first (at between f fs) declaration = alone
state_first (at (in_field n o) f fs) (text x y) = text_first f fs n o y (after_text f fs n o) (λ es. refl) refl
state_first (at (in_field n o) f fs) (close_tag m) = close_first f fs n m o
state_first (at (in_field n o) f fs) (open_tag m g tag) = unfit_first n o f.taken
state_first (at (in_field n o) f fs) (empty_tag m g tag) = unfit_first n o f.taken
state_first (at (in_field n o) f fs) (tail x) = alone
state_first (at (in_field n o) f fs) mark = alone
state_first (at (in_field n o) f fs) declaration = alone
state_first (at (behind_text n o es) f fs) (close_tag m) = tested (same n m) (with_child f fs (o.field, es))
state_first (at (behind_text n o es) f fs) (open_tag m g tag) = alone
state_first (at (behind_text n o es) f fs) (empty_tag m g tag) = alone
state_first (at (behind_text n o es) f fs) (text x y) = alone
state_first (at (behind_text n o es) f fs) (tail x) = alone
state_first (at (behind_text n o es) f fs) mark = alone
state_first (at (behind_text n o es) f fs) declaration = alone
state_first (at (in_raw n p tag) f fs) (tail x) = tested (is_tail n x) (with_child f fs (p, raw_events p (tag ++ x)))
state_first (at (in_raw n p tag) f fs) (close_tag m) = alone
state_first (at (in_raw n p tag) f fs) (open_tag m g a) = alone
state_first (at (in_raw n p tag) f fs) (empty_tag m g a) = alone
state_first (at (in_raw n p tag) f fs) (text x y) = alone
state_first (at (in_raw n p tag) f fs) mark = alone
state_first (at (in_raw n p tag) f fs) declaration = alone

inside_fault_is : (o : Result State Fault) → fault_in (inside_of o) ≡ state_fault o
inside_fault_is (Ok s) = refl
inside_fault_is (Err k) = refl

tested_position : (b : Bool) (p : Position) → First (λ k. (b ≡ false) × (k ≡ misplaced)) (fault_in (cond b (Ok p) (Err misplaced)))
tested_position true p = λ k h. absurd cc
tested_position false p = ((refl, refl), λ k h. at_most misplaced k h.1)

bare_first : (n : Text) → First (λ k. (k ≡ misplaced) ⊎ ((same mos_name n ≡ true) × (end_fault Envelope [] ≡ Some k))) (Some (cond (same mos_name n) (bare_fault (end_fault Envelope [])) misplaced))
bare_first n = go (same mos_name n) refl (end_fault Envelope []) refl
  where
    both : (b : Bool) → b ≡ true → b ≡ false → ⊥
    both true p q = cc
    both false p q = cc

    go : (b : Bool) → same mos_name n ≡ b → (o : Option Fault) → end_fault Envelope [] ≡ o → First (λ k. (k ≡ misplaced) ⊎ ((same mos_name n ≡ true) × (end_fault Envelope [] ≡ Some k))) (Some (cond b (bare_fault o) misplaced))
    go false e o h = (inl refl, least)
      where
        least : (k : Fault) → (k ≡ misplaced) ⊎ ((same mos_name n ≡ true) × (end_fault Envelope [] ≡ Some k)) → order_of misplaced ≤ order_of k
        least k (inl a) = at_most misplaced k a
        least k (inr a) = absurd (both (same mos_name n) a.0 e)
    go true e None h = (inl refl, least)
      where
        least : (k : Fault) → (k ≡ misplaced) ⊎ ((same mos_name n ≡ true) × (end_fault Envelope [] ≡ Some k)) → order_of misplaced ≤ order_of k
        least k (inl a) = at_most misplaced k a
        least k (inr a) = absurd (no_fault k (sym h ∙ a.1))
    go true e (Some j) h = (inr (e, h), least)
      where
        least : (k : Fault) → (k ≡ misplaced) ⊎ ((same mos_name n ≡ true) × (end_fault Envelope [] ≡ Some k)) → order_of j ≤ order_of k
        least k (inl a) = subst (λ (z : Fault). order_of j ≤ order_of z) (sym a) (order_most j)
        least k (inr a) = at_most j k (some_is k j (sym a.1 ∙ h))

pub faults_first : FaultsAreFirst
unfolding message_step
faults_first (inside s) t = subst (First (StateShows s t)) (sym (inside_fault_is (step s t))) (state_first s t)
faults_first (before_message g) (open_tag n a tag) = tested_position (same mos_name n) (inside (opening Envelope mos_name))
faults_first (before_message g) (empty_tag n a tag) = bare_first n
faults_first (before_message g) (close_tag n) = alone
faults_first (before_message g) (text x y) = tested_position (is_white x) (before_message g)
faults_first (before_message g) (tail x) = alone
faults_first (before_message g) mark = tested_position (may_mark g) (before_message behind_mark)
faults_first (before_message g) declaration = tested_position (may_declare g) (before_message behind_declaration)
