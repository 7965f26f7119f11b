-- How far a roAck was read, by the fields seen, and which field may be next.
use Rattle.std.proofs.Common.{◌≡◌, ℕ, ◌+◌, Bool, true, false, cond, List, [], ◌∷◌, ◌++◌, refl, ap, ◌∙◌}
use Rattle.std.specs.Prelude.{◌&&◌, not}
use Rattle.std.specs.List.{AllByRecursion}
use Rattle.mos_fields.specs.Characters.{Text}
use Rattle.mos_fields.specs.Fields.{same_field}
use Rattle.mos_fields.specs.declared.field.Field.{Field}
use Rattle.mos_fields.specs.declared.field.Field.TheVariants as fields
use Rattle.mos_fields.specs.declared.form.Form.TheVariants as forms
use Rattle.mos_tables.specs.declared.column.Column.{Column}
use Rattle.mos_tables.specs.declared.table.Table.TheVariants as tables
use Rattle.mos_tables.specs.Tables.{columns, ack_columns, group_columns, required, optional}
use Rattle.mos_grammar.specs.Records.{Child, times, seen_behind, seen_from, is_named, before_column, any_seen, lacking, repeated, field_fault, wanted}
use Rattle.mos_cursor.proofs.Columns.{same_field-other}

-- ---- the fields seen, without those of elements that the table does not name

abbrev pub shown : List Field → List Field
shown [] = []
shown (f ∷ fs) = cond (same_field f fields.Dropped) (shown fs) (f ∷ shown fs)

pub shown_append : (fs gs : List Field) → shown (fs ++ gs) ≡ shown fs ++ shown gs
shown_append [] gs = refl
shown_append (f ∷ fs) gs = go (same_field f fields.Dropped) (shown_append fs gs)
  where
    go : (b : Bool) → shown (fs ++ gs) ≡ shown fs ++ shown gs → cond b (shown (fs ++ gs)) (f ∷ shown (fs ++ gs)) ≡ cond b (shown fs) (f ∷ shown fs) ++ shown gs
    go true e = e
    go false e = ap (λ (z : List Field). f ∷ z) e

times_shown : (f : Field) (seen : List Field) → same_field f fields.Dropped ≡ false → times f (shown seen) ≡ times f seen
times_shown f [] h = refl
times_shown f (g ∷ seen) h = go (same_field g fields.Dropped) refl (times_shown f seen h)
  where
    go : (b : Bool) → same_field g fields.Dropped ≡ b → times f (shown seen) ≡ times f seen → times f (cond b (shown seen) (g ∷ shown seen)) ≡ cond (same_field f g) (times f seen + 1) (times f seen)
    go true e ih = let q : same_field f g ≡ false = same_field-other g fields.Dropped f e ∙ h in ih ∙ rw q refl
    go false e ih = ap (λ (k : ℕ). cond (same_field f g) (k + 1) k) ih

-- no column is that of such elements
abbrev IsShown : Column → Type 0
IsShown c = same_field c.field fields.Dropped ≡ false

abbrev AllShown : List Column → Type 0
AllShown cs = AllByRecursion IsShown cs

any_shown : (cs : List Column) (seen : List Field) → AllShown cs → any_seen cs (shown seen) ≡ any_seen cs seen
any_shown [] seen a = refl
any_shown (c ∷ cs) seen a = rw (times_shown c.field seen a.0, any_shown cs seen a.1) refl

lacking_shown : (cs : List Column) (seen : List Field) → AllShown cs → lacking cs (shown seen) ≡ lacking cs seen
lacking_shown [] seen a = refl
lacking_shown (c ∷ cs) seen a = rw (times_shown c.field seen a.0, lacking_shown cs seen a.1) refl

repeated_shown : (cs : List Column) (seen : List Field) (n : Text) → AllShown cs → repeated cs (shown seen) n ≡ repeated cs seen n
repeated_shown [] seen n a = refl
repeated_shown (c ∷ cs) seen n a = rw (times_shown c.field seen a.0, any_shown cs seen a.1, repeated_shown cs seen n a.1) refl

before_shown : (cs : List Column) (n : Text) → AllShown cs → AllShown (before_column cs n)
before_shown [] n a = tt
before_shown (c ∷ cs) n a = go (is_named c n) (before_shown cs n a.1)
  where
    go : (b : Bool) → AllShown (before_column cs n) → AllShown (cond b [] (c ∷ before_column cs n))
    go true ih = tt
    go false ih = (a.0, ih)

all_shown : AllShown (columns tables.RoAck)
all_shown = (refl, (refl, (refl, (refl, (refl, (refl, (refl, tt)))))))

-- the faults of a tag and of the end are those that these fields show
pub fault_shown : (seen : List Field) (n : Text) → field_fault (columns tables.RoAck) (shown seen) n ≡ field_fault (columns tables.RoAck) seen n
fault_shown seen n =
    rw (repeated_shown (columns tables.RoAck) seen n all_shown, lacking_shown (before_column (columns tables.RoAck) n) seen (before_shown (columns tables.RoAck) n all_shown)) refl

wanted_shown : (seen : List Field) → wanted tables.RoAck (shown seen) ≡ wanted tables.RoAck seen
wanted_shown seen = rw (any_shown group_columns seen (refl, (refl, (refl, (refl, (refl, tt)))))) refl

all_wanted : (seen : List Field) → AllShown (wanted tables.RoAck seen)
all_wanted seen = go (any_seen group_columns seen)
  where
    go : (b : Bool) → AllShown (cond (true && not b) ack_columns (columns tables.RoAck))
    go true = all_shown
    go false = (refl, (refl, tt))

pub end_shown : (seen : List Field) → lacking (wanted tables.RoAck (shown seen)) (shown seen) ≡ lacking (wanted tables.RoAck seen) seen
end_shown seen = ap (λ (cs : List Column). lacking cs (shown seen)) (wanted_shown seen) ∙ lacking_shown (wanted tables.RoAck seen) seen (all_wanted seen)

-- ---- stages

pub data Stage : Type 0 where
  at_start : Stage
  behind_order : Stage
  between : Stage
  behind_story : Stage
  behind_item : Stage
  behind_object : Stage
  behind_channel : Stage

-- the fields seen there, since the last group began
abbrev pub seen_at : Stage → List Field
seen_at at_start = []
seen_at behind_order = fields.RoID ∷ []
seen_at between = fields.RoID ∷ fields.RoStatus ∷ []
seen_at behind_story = fields.RoID ∷ fields.RoStatus ∷ fields.StoryID ∷ []
seen_at behind_item = fields.RoID ∷ fields.RoStatus ∷ fields.StoryID ∷ fields.ItemID ∷ []
seen_at behind_object = fields.RoID ∷ fields.RoStatus ∷ fields.StoryID ∷ fields.ItemID ∷ fields.ObjID ∷ []
seen_at behind_channel = fields.RoID ∷ fields.RoStatus ∷ fields.StoryID ∷ fields.ItemID ∷ fields.ObjID ∷ fields.ItemChannel ∷ []

-- the columns that are still to come, before the next group
abbrev pub to_come : Stage → List Column
to_come at_start = ack_columns
to_come behind_order = required fields.RoStatus forms.Slug ∷ []
to_come between = []
to_come behind_story = required fields.ItemID forms.OptId ∷ required fields.ObjID forms.OptId ∷ optional fields.ItemChannel forms.Text ∷ required fields.Status forms.Text ∷ []
to_come behind_item = required fields.ObjID forms.OptId ∷ optional fields.ItemChannel forms.Text ∷ required fields.Status forms.Text ∷ []
to_come behind_object = optional fields.ItemChannel forms.Text ∷ required fields.Status forms.Text ∷ []
to_come behind_channel = required fields.Status forms.Text ∷ []

-- these fields were seen
abbrev pub IsAt : Stage → List Field → Type 0
IsAt s seen = shown seen ≡ seen_at s

-- one more field
pub seen_push : (seen : List Field) (before : List Child) (c : Child) → seen_from tables.RoAck seen (before ++ c ∷ []) ≡ seen_behind tables.RoAck (seen_from tables.RoAck seen before) c.0
seen_push seen [] c = refl
seen_push seen (d ∷ before) c = seen_push (seen_behind tables.RoAck seen d.0) before c

pub shown_push : (seen : List Field) (s : Stage) (fs : List Field) → IsAt s seen → shown (seen ++ fs) ≡ seen_at s ++ shown fs
shown_push seen s fs h = shown_append seen fs ∙ ap (λ (z : List Field). z ++ shown fs) h
