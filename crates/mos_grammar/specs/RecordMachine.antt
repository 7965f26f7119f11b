-- Reading token after token, with a stack of open records.
use Rattle.std.specs.Prelude.{cond, List, [], ◌∷◌, ◌++◌, Option, Some, None, Result, Ok, Err}
use Rattle.mos_fields.specs.declared.field.Field.TheVariants as fields
use Rattle.mos_fields.specs.declared.field.Field.{Field}
use Rattle.mos_tables.specs.declared.table.Table.{Table}
use Rattle.mos_fields.specs.Characters.{Text}
use Rattle.mos_fields.specs.Fields.{same}
use Rattle.mos_fields.specs.Raw.{is_tail}
use Rattle.mos_fields.specs.Forms.{is_white}
use Rattle.mos_tables.specs.Events.{Attribute, Event}
use Rattle.mos_grammar.specs.Tokens.{Token, open_tag, empty_tag, close_tag, text, tail, mark, declaration}
use Rattle.mos_grammar.specs.declared.fault.Fault.{Fault}
use Rattle.mos_grammar.specs.declared.fault.Fault.TheVariants.{Value as wrong_value, Tag as misplaced}
use Rattle.mos_grammar.specs.Records.{Child, end_fault, Admission, not_admitted, admitted_leaf, admitted_raw, admitted_record, admission, empty_admission, OpenField, keys, field_events, nested, raw_events}

-- an open record: the field that it is and what its start tag gave, its children so far, and the keys that its own key may not be
pub record Frame : Type 0 where
  pub table : Table
  pub name : Text
  pub place : Field
  pub given : List Attribute
  pub taken : List Text
  pub before : List Child

abbrev pub add : Frame → Child → Frame
add f c = record { table = f.table; name = f.name; place = f.place; given = f.given; taken = f.taken; before = f.before ++ c ∷ [] }

-- what the innermost record is in: between its elements, in a field whose text may still come, in a field
-- whose text came, in a raw element
pub data Mode : Type 0 where
  between : Mode
  in_field : Text → OpenField → Mode
  behind_text : Text → OpenField → List Event → Mode
  in_raw : Text → Field → Text → Mode

pub data State : Type 0 where
  at : Mode → Frame → List Frame → State
  complete : List Event → State

-- behind a start tag
abbrev pub after_start_tag : Frame → List Frame → Text → Text → Admission → Result State Fault
after_start_tag f fs n tag (not_admitted k) = Err k
after_start_tag f fs n tag (admitted_leaf o) = Ok (at (in_field n o) f fs)
after_start_tag f fs n tag (admitted_raw p) = Ok (at (in_raw n p tag) f fs)
after_start_tag f fs n tag (admitted_record p u h) = Ok (at between (record { table = u; name = n; place = p; given = h; taken = keys f.table f.before; before = [] }) (f ∷ fs))

abbrev pub with_child : Frame → List Frame → Child → State
with_child f fs c = at between (add f c) fs

abbrev pub after_record_tag : Frame → List Frame → Text → Field → Table → List Attribute → Option Fault → Result State Fault
after_record_tag f fs n p u h (Some k) = Err k
after_record_tag f fs n p u h None = Ok (with_child f fs (p, nested n h u []))

-- behind the end tag of a field
abbrev pub after_field : Frame → List Frame → OpenField → Option (List Event) → Result State Fault
after_field f fs o (Some es) = Ok (with_child f fs (o.field, es))
after_field f fs o None = Err (wrong_value o.field)

-- behind an empty tag
abbrev pub after_empty_tag : Frame → List Frame → Text → Text → Admission → Result State Fault
after_empty_tag f fs n tag (not_admitted k) = Err k
after_empty_tag f fs n tag (admitted_leaf o) = after_field f fs o (field_events n o f.taken [])
after_empty_tag f fs n tag (admitted_raw p) = Ok (with_child f fs (p, raw_events p tag))
after_empty_tag f fs n tag (admitted_record p u h) = after_record_tag f fs n p u h (end_fault u [])

-- behind the end tag of a record
abbrev pub after_end_tag : Frame → List Frame → Option Fault → Result State Fault
after_end_tag f fs (Some k) = Err k
after_end_tag f [] None = Ok (complete (nested f.name f.given f.table f.before))
after_end_tag f (g ∷ gs) None = Ok (with_child g gs (f.place, nested f.name f.given f.table f.before))

-- behind the text of a field
abbrev pub after_text : Frame → List Frame → Text → OpenField → Option (List Event) → Result State Fault
after_text f fs n o (Some es) = Ok (at (behind_text n o es) f fs)
after_text f fs n o None = Err (wrong_value o.field)

-- a tag directly behind a field's start tag that doesn't fit: the text is empty, and that may be the fault
abbrev pub empty_text_fault : OpenField → Option (List Event) → Fault
empty_text_fault o (Some es) = misplaced
empty_text_fault o None = wrong_value o.field

unfoldable pub step : State → Token → Result State Fault
step (complete v) t = Err misplaced
step (at between f fs) (open_tag n g tag) = after_start_tag f fs n tag (admission f.table f.before n g)
step (at between f fs) (empty_tag n g tag) = after_empty_tag f fs n tag (empty_admission f.table f.taken f.before n g)
step (at between f fs) (close_tag n) = cond (same f.name n) (after_end_tag f fs (end_fault f.table f.before)) (Err misplaced)
step (at between f fs) (text x y) = cond (is_white x) (Ok (at between f fs)) (Err misplaced)
step (at between f fs) (tail x) = Err misplaced
step (at between f fs) mark = Err misplaced
step (at between f fs) declaration = Err misplaced
step (at (in_field n o) f fs) (text x y) = after_text f fs n o (field_events n o f.taken y)
step (at (in_field n o) f fs) (close_tag m) = cond (same n m) (after_field f fs o (field_events n o f.taken [])) (Err (empty_text_fault o (field_events n o f.taken [])))
step (at (in_field n o) f fs) (open_tag m g tag) = Err (empty_text_fault o (field_events n o f.taken []))
step (at (in_field n o) f fs) (empty_tag m g tag) = Err (empty_text_fault o (field_events n o f.taken []))
step (at (in_field n o) f fs) (tail x) = Err misplaced
step (at (in_field n o) f fs) mark = Err misplaced
step (at (in_field n o) f fs) declaration = Err misplaced
step (at (behind_text n o es) f fs) (close_tag m) = cond (same n m) (Ok (with_child f fs (o.field, es))) (Err misplaced)
step (at (behind_text n o es) f fs) (open_tag m g tag) = Err misplaced
step (at (behind_text n o es) f fs) (empty_tag m g tag) = Err misplaced
step (at (behind_text n o es) f fs) (text x y) = Err misplaced
step (at (behind_text n o es) f fs) (tail x) = Err misplaced
step (at (behind_text n o es) f fs) mark = Err misplaced
step (at (behind_text n o es) f fs) declaration = Err misplaced
step (at (in_raw n p tag) f fs) (tail x) = cond (is_tail n x) (Ok (with_child f fs (p, raw_events p (tag ++ x)))) (Err misplaced)
step (at (in_raw n p tag) f fs) (close_tag m) = Err misplaced
step (at (in_raw n p tag) f fs) (open_tag m g a) = Err misplaced
step (at (in_raw n p tag) f fs) (empty_tag m g a) = Err misplaced
step (at (in_raw n p tag) f fs) (text x y) = Err misplaced
step (at (in_raw n p tag) f fs) mark = Err misplaced
step (at (in_raw n p tag) f fs) declaration = Err misplaced

abbrev pub opening : Table → Text → State
opening t n = at between (record { table = t; name = n; place = fields.Message; given = []; taken = []; before = [] }) []

abbrev pub and_then : Result State Fault → (State → Result State Fault) → Result State Fault
and_then (Ok s) f = f s
and_then (Err k) f = Err k

unfoldable pub run : State → List Token → Result State Fault
run s [] = Ok s
run s (t ∷ ts) = and_then (step s t) (λ u. run u ts)
