-- Only a start tag begins a raw element, which has its name; and no text completes a message.
use Rattle.std.proofs.Common.{◌≡◌, Bool, true, false, cond, List, [], ◌∷◌, ◌++◌, Option, Some, None, Result, Ok, Err, refl, sym, ap, ◌∙◌, ◌⊎◌, inl, inr}
use Rattle.mos_fields.specs.declared.field.Field.{Field}
use Rattle.mos_fields.specs.Characters.{Text}
use Rattle.mos_fields.specs.Fields.{same}
use Rattle.mos_fields.specs.Forms.{is_white}
use Rattle.mos_fields.specs.Raw.{is_tail}
use Rattle.mos_tables.specs.Events.{Attribute, Event}
use Rattle.mos_tables.specs.declared.table.Table.{Table}
use Rattle.mos_tables.specs.declared.table.Table.TheVariants.{Envelope}
use Rattle.mos_grammar.specs.Tokens.{Token, open_tag, empty_tag, close_tag, text, tail, mark, declaration}
use Rattle.mos_grammar.specs.declared.fault.Fault.{Fault}
use Rattle.mos_grammar.specs.declared.fault.Fault.TheVariants.{Tag as misplaced}
use Rattle.mos_grammar.specs.Records.{end_fault, Admission, not_admitted, admitted_leaf, admitted_raw, admitted_record, admission, empty_admission, OpenField, field_events, raw_events}
use Rattle.mos_grammar.specs.RecordMachine.{Frame, State, at, complete, between, in_field, behind_text, in_raw, after_start_tag, with_child, after_record_tag, after_field, after_empty_tag, after_end_tag, after_text, empty_text_fault, opening, step}
use Rattle.mos_grammar.specs.Streams.{Position, before_message, inside, behind_mark, behind_declaration, message_step, inside_of, may_mark, may_declare, mos_name}

-- the name of the raw element in which reading is
abbrev raw_in : Result Position Fault → Option Text
raw_in (Ok (before_message g)) = None
raw_in (Ok (inside (complete v))) = None
raw_in (Ok (inside (at between f fs))) = None
raw_in (Ok (inside (at (in_field n o) f fs))) = None
raw_in (Ok (inside (at (behind_text n o es) f fs))) = None
raw_in (Ok (inside (at (in_raw n p tag) f fs))) = Some n
raw_in (Err k) = None

abbrev pub opened_name : Token → Option Text
opened_name (open_tag n g tag) = Some n
opened_name (empty_tag n g tag) = None
opened_name (close_tag n) = None
opened_name (text x y) = None
opened_name (tail x) = None
opened_name mark = None
opened_name declaration = None

-- no raw element begins
if_none : (b : Bool) (x y : Result Position Fault) → raw_in x ≡ None → raw_in y ≡ None → raw_in (cond b x y) ≡ None
if_none true x y h k = h
if_none false x y h k = k

-- inside a message
of_state : (b : Bool) (x y : Result State Fault) → raw_in (inside_of x) ≡ None → raw_in (inside_of y) ≡ None → raw_in (inside_of (cond b x y)) ≡ None
of_state true x y h k = h
of_state false x y h k = k

field_none : (f : Frame) (fs : List Frame) (o : OpenField) (es : Option (List Event)) → raw_in (inside_of (after_field f fs o es)) ≡ None
field_none f fs o (Some es) = refl
field_none f fs o None = refl

text_none : (f : Frame) (fs : List Frame) (n : Text) (o : OpenField) (es : Option (List Event)) → raw_in (inside_of (after_text f fs n o es)) ≡ None
text_none f fs n o (Some es) = refl
text_none f fs n o None = refl

record_none : (f : Frame) (fs : List Frame) (n : Text) (p : Field) (u : Table) (h : List Attribute) (k : Option Fault) → raw_in (inside_of (after_record_tag f fs n p u h k)) ≡ None
record_none f fs n p u h (Some k) = refl
record_none f fs n p u h None = refl

end_none : (f : Frame) (fs : List Frame) (k : Option Fault) → raw_in (inside_of (after_end_tag f fs k)) ≡ None
end_none f fs (Some k) = refl
end_none f [] None = refl
end_none f (g ∷ gs) None = refl

empty_none : (f : Frame) (fs : List Frame) (n tag : Text) (a : Admission) → raw_in (inside_of (after_empty_tag f fs n tag a)) ≡ None
empty_none f fs n tag (not_admitted k) = refl
empty_none f fs n tag (admitted_leaf o) = field_none f fs o (field_events n o f.taken [])
empty_none f fs n tag (admitted_raw p) = refl
empty_none f fs n tag (admitted_record p u h) = record_none f fs n p u h (end_fault u [])

start_raw : (f : Frame) (fs : List Frame) (n tag : Text) (a : Admission) → (raw_in (inside_of (after_start_tag f fs n tag a)) ≡ None) ⊎ (raw_in (inside_of (after_start_tag f fs n tag a)) ≡ Some n)
start_raw f fs n tag (not_admitted k) = inl refl
start_raw f fs n tag (admitted_leaf o) = inl refl
start_raw f fs n tag (admitted_raw p) = inr refl
start_raw f fs n tag (admitted_record p u h) = inl refl

-- Behind a token reading is in no raw element, or in that which the token opens.
raw_step : (p : Position) (t : Token) → (raw_in (message_step p t) ≡ None) ⊎ (raw_in (message_step p t) ≡ opened_name t)
unfolding message_step step
raw_step (inside (complete v)) t = inl refl
raw_step (inside (at between f fs)) (open_tag n g tag) = start_raw f fs n tag (admission f.table f.before n g)
raw_step (inside (at between f fs)) (empty_tag n g tag) = inl (empty_none f fs n tag (empty_admission f.table f.taken f.before n g))
raw_step (inside (at between f fs)) (close_tag n) = inl (of_state (same f.name n) (after_end_tag f fs (end_fault f.table f.before)) (Err misplaced) (end_none f fs (end_fault f.table f.before)) refl)
raw_step (inside (at between f fs)) (text x y) = inl (of_state (is_white x) (Ok (at between f fs)) (Err misplaced) refl refl)
raw_step (inside (at between f fs)) (tail x) = inl refl
raw_step (inside (at between f fs)) mark = inl refl
raw_step (inside (at between f fs)) declaration = inl refl
raw_step (inside (at (in_field n o) f fs)) (text x y) = inl (text_none f fs n o (field_events n o f.taken y))
raw_step (inside (at (in_field n o) f fs)) (close_tag m) =
    inl (of_state (same n m) (after_field f fs o (field_events n o f.taken [])) (Err (empty_text_fault o (field_events n o f.taken []))) (field_none f fs o (field_events n o f.taken [])) refl)
raw_step (inside (at (in_field n o) f fs)) (open_tag m g tag) = inl refl
raw_step (inside (at (in_field n o) f fs)) (empty_tag m g tag) = inl refl
raw_step (inside (at (in_field n o) f fs)) (tail x) = inl refl
raw_step (inside (at (in_field n o) f fs)) mark = inl refl
raw_step (inside (at (in_field n o) f fs)) declaration = inl refl
raw_step (inside (at (behind_text n o es) f fs)) (close_tag m) = inl (of_state (same n m) (Ok (with_child f fs (o.field, es))) (Err misplaced) refl refl)
raw_step (inside (at (behind_text n o es) f fs)) (open_tag m g tag) = inl refl
raw_step (inside (at (behind_text n o es) f fs)) (empty_tag m g tag) = inl refl
raw_step (inside (at (behind_text n o es) f fs)) (text x y) = inl refl
raw_step (inside (at (behind_text n o es) f fs)) (tail x) = inl refl
raw_step (inside (at (behind_text n o es) f fs)) mark = inl refl
raw_step (inside (at (behind_text n o es) f fs)) declaration = inl refl
raw_step (inside (at (in_raw n p tag) f fs)) (tail x) = inl (of_state (is_tail n x) (Ok (with_child f fs (p, raw_events p (tag ++ x)))) (Err misplaced) refl refl)
raw_step (inside (at (in_raw n p tag) f fs)) (close_tag m) = inl refl
raw_step (inside (at (in_raw n p tag) f fs)) (open_tag m g a) = inl refl
raw_step (inside (at (in_raw n p tag) f fs)) (empty_tag m g a) = inl refl
raw_step (inside (at (in_raw n p tag) f fs)) (text x y) = inl refl
raw_step (inside (at (in_raw n p tag) f fs)) mark = inl refl
raw_step (inside (at (in_raw n p tag) f fs)) declaration = inl refl
raw_step (before_message g) (open_tag n a tag) = inl (if_none (same mos_name n) (Ok (inside (opening Envelope mos_name))) (Err misplaced) refl refl)
raw_step (before_message g) (empty_tag n a tag) = inl refl
raw_step (before_message g) (close_tag n) = inl refl
raw_step (before_message g) (text x y) = inl (if_none (is_white x) (Ok (before_message g)) (Err misplaced) refl refl)
raw_step (before_message g) (tail x) = inl refl
raw_step (before_message g) mark = inl (if_none (may_mark g) (Ok (before_message behind_mark)) (Err misplaced) refl refl)
raw_step (before_message g) declaration = inl (if_none (may_declare g) (Ok (before_message behind_declaration)) (Err misplaced) refl refl)

-- In a raw element behind a token, that token is the start tag of its name.
pub raw_is_opened : (p : Position) (t : Token) (n : Text) (q : Field) (tag : Text) (f : Frame) (fs : List Frame) → message_step p t ≡ Ok (inside (at (in_raw n q tag) f fs)) → opened_name t ≡ Some n
raw_is_opened p t n q tag f fs e = go (raw_step p t)
  where
    go : (raw_in (message_step p t) ≡ None) ⊎ (raw_in (message_step p t) ≡ opened_name t) → opened_name t ≡ Some n
    go (inl h) = absurd (let k : None ≡ Some n = sym h ∙ ap raw_in e in cc)
    go (inr h) = sym h ∙ ap raw_in e

-- ---- texts

abbrev is_complete : Result Position Fault → Bool
is_complete (Ok (before_message g)) = false
is_complete (Ok (inside (complete v))) = true
is_complete (Ok (inside (at m f fs))) = false
is_complete (Err k) = false

goes_on : (b : Bool) (x y : Result State Fault) → is_complete (inside_of x) ≡ false → is_complete (inside_of y) ≡ false → is_complete (inside_of (cond b x y)) ≡ false
goes_on true x y h k = h
goes_on false x y h k = k

before_on : (b : Bool) (x y : Result Position Fault) → is_complete x ≡ false → is_complete y ≡ false → is_complete (cond b x y) ≡ false
before_on true x y h k = h
before_on false x y h k = k

text_on : (f : Frame) (fs : List Frame) (n : Text) (o : OpenField) (es : Option (List Event)) → is_complete (inside_of (after_text f fs n o es)) ≡ false
text_on f fs n o (Some es) = refl
text_on f fs n o None = refl

text_step : (p : Position) (x y : Text) → is_complete (message_step p (text x y)) ≡ false
unfolding message_step step
text_step (inside (complete v)) x y = refl
text_step (inside (at between f fs)) x y = goes_on (is_white x) (Ok (at between f fs)) (Err misplaced) refl refl
text_step (inside (at (in_field n o) f fs)) x y = text_on f fs n o (field_events n o f.taken y)
text_step (inside (at (behind_text n o es) f fs)) x y = refl
text_step (inside (at (in_raw n p tag) f fs)) x y = refl
text_step (before_message g) x y = before_on (is_white x) (Ok (before_message g)) (Err misplaced) refl refl

pub no_text_completes : (p : Position) (x y : Text) (v : List Event) → message_step p (text x y) ≡ Ok (inside (complete v)) → ⊥
no_text_completes p x y v e = let h : false ≡ true = sym (text_step p x y) ∙ ap is_complete e in cc
