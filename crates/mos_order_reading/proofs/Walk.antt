-- The events of an accepted roAck are its fields, and those of its groups.
use Rattle.std.proofs.Common.{◌≡◌, List, [], ◌∷◌, ◌++◌, None, refl, sym, ap, subst, ◌∙◌, append_assoc}
use Rattle.std.specs.List.{AllByRecursion}
use Rattle.std.proofs.lemmas.List.{append-nil}
use Rattle.std.proofs.lemmas.Grind.{flat_map-append}
use Rattle.mos_fields.specs.Characters.{Text}
use Rattle.mos_fields.specs.Fields.{name_of}
use Rattle.mos_fields.specs.declared.field.Field.{Field}
use Rattle.mos_fields.specs.declared.field.Field.TheVariants as fields
use Rattle.mos_fields.specs.declared.form.Form.{Form}
use Rattle.mos_fields.specs.declared.form.Form.TheVariants as forms
use Rattle.mos_tables.specs.declared.column.Column.{Column}
use Rattle.mos_tables.specs.declared.table.Table.TheVariants as tables
use Rattle.mos_tables.specs.Events.{Event, leaf}
use Rattle.mos_tables.specs.Tables.{columns, required, optional, ack_columns, group_columns}
use Rattle.mos_grammar.specs.Tokens.{Token}
use Rattle.mos_grammar.specs.Records.{Child, seen_behind, seen_of, field_fault, end_fault, wanted, lacking, flat, arranged, raw_events, Content, ends, white_space, field, empty_leaf, empty_leaf_tag, raw_element, raw_tag, record_element, record_tag}
use Rattle.mos_cursor.specs.Parts.{absent, one_leaf}
use Rattle.mos_cursor.specs.Accepted.{IsAccepted}
use Rattle.mos_cursor.proofs.Forms.{reads_again}
use Rattle.mos_cursor.proofs.Roles.{leaf_is, raw_is, record_is, empty_leaf_is, empty_raw_is, empty_record_is}
use Rattle.mos_cursor.proofs.Columns.{column_of-all}
use Rattle.mos_cursor.proofs.Children.{LeafItem, leaf_lacks, leaf_some}
use Rattle.mos_order_reading.specs.Groups.{AreGroups, no_group, one_group, IsAhead}
use Rattle.mos_order_reading.proofs.Stages.{Stage, at_start, behind_order, between, behind_story, behind_item, behind_object, behind_channel, seen_at, to_come, IsAt, seen_push, shown_push, fault_shown, end_shown}
use Rattle.mos_order_reading.proofs.Children.{TextOf, AckChild, of_column, of_dropped, leaf_child, raw_child, no_record}

-- ---- one more part in front

required_more : (taken : List Text) (f : Field) (form : Form) (cs : List Column) (es more : List Event) → LeafItem taken (required f form) form es → IsAhead cs more → IsAhead (required f form ∷ cs) (es ++ more)
required_more taken f form cs xs more (leaf_lacks h) a = absurd cc
required_more taken f form cs xs more (leaf_some g x y given read) a = record {
  parts = one_leaf (record { given = g; text = y }) ∷ a.parts;
  rest = a.rest;
  fit = (record { given = given; canonical = reads_again form taken x y read }, a.fit);
  groups = a.groups;
  events = ap (λ (z : List Event). leaf (name_of f) g y ∷ z) a.events;
}

optional_none : (f : Field) (form : Form) (cs : List Column) (more : List Event) → IsAhead cs more → IsAhead (optional f form ∷ cs) more
optional_none f form cs more a = record { parts = absent ∷ a.parts; rest = a.rest; fit = (tt, a.fit); groups = a.groups; events = a.events }

optional_more : (taken : List Text) (f : Field) (form : Form) (cs : List Column) (es more : List Event) → LeafItem taken (optional f form) form es → IsAhead cs more → IsAhead (optional f form ∷ cs) (es ++ more)
optional_more taken f form cs xs more (leaf_lacks h) a = optional_none f form cs more a
optional_more taken f form cs xs more (leaf_some g x y given read) a = record {
  parts = one_leaf (record { given = g; text = y }) ∷ a.parts;
  rest = a.rest;
  fit = (record { given = given; canonical = reads_again form taken x y read }, a.fit);
  groups = a.groups;
  events = ap (λ (z : List Event). leaf (name_of f) g y ∷ z) a.events;
}

group_more : (more : List Event) → IsAhead group_columns more → IsAhead [] more
group_more more a = record { parts = []; rest = more; fit = tt; groups = subst AreGroups (sym a.events) (one_group a.parts a.fit a.groups); events = refl }

-- ---- one more child

-- behind a further field of these events
record Step (s : Stage) (f : Field) (es : List Event) : Type 0 where
  next : Stage
  seen : (before : List Field) → IsAt s before → IsAt next (seen_behind tables.RoAck before f)
  more : (rest : List Event) → IsAhead (to_come next) rest → IsAhead (to_come s) (es ++ rest)

-- of a column
abbrev StepOf : List Text → Column → Type 0
StepOf taken c = (s : Stage) (es : List Event) → field_fault (columns tables.RoAck) (seen_at s) (name_of c.field) ≡ None → TextOf taken c c.shape es → Step s c.field es

order_step : (taken : List Text) → StepOf taken (required fields.RoID forms.OptId)
order_step taken at_start es h i = record { next = behind_order; seen = λ before e. shown_push before at_start (fields.RoID ∷ []) e; more = λ rest a. required_more taken fields.RoID forms.OptId (to_come behind_order) es rest i a }
order_step taken s es h i = absurd cc

answer_step : (taken : List Text) → StepOf taken (required fields.RoStatus forms.Slug)
answer_step taken behind_order es h i = record { next = between; seen = λ before e. shown_push before behind_order (fields.RoStatus ∷ []) e; more = λ rest a. required_more taken fields.RoStatus forms.Slug [] es rest i a }
answer_step taken s es h i = absurd cc

story_step : (taken : List Text) → StepOf taken (required fields.StoryID forms.OptId)
story_step taken between es h i = record {
  next = behind_story;
  seen = λ before e. shown_push before between (fields.StoryID ∷ []) e;
  more = λ rest a. group_more (es ++ rest) (required_more taken fields.StoryID forms.OptId (to_come behind_story) es rest i a);
}
story_step taken s es h i = absurd cc

item_step : (taken : List Text) → StepOf taken (required fields.ItemID forms.OptId)
item_step taken behind_story es h i = record { next = behind_item; seen = λ before e. shown_push before behind_story (fields.ItemID ∷ []) e; more = λ rest a. required_more taken fields.ItemID forms.OptId (to_come behind_item) es rest i a }
item_step taken s es h i = absurd cc

object_step : (taken : List Text) → StepOf taken (required fields.ObjID forms.OptId)
object_step taken behind_item es h i = record { next = behind_object; seen = λ before e. shown_push before behind_item (fields.ObjID ∷ []) e; more = λ rest a. required_more taken fields.ObjID forms.OptId (to_come behind_object) es rest i a }
object_step taken s es h i = absurd cc

channel_step : (taken : List Text) → StepOf taken (optional fields.ItemChannel forms.Text)
channel_step taken behind_object es h i = record { next = behind_channel; seen = λ before e. shown_push before behind_object (fields.ItemChannel ∷ []) e; more = λ rest a. optional_more taken fields.ItemChannel forms.Text (to_come behind_channel) es rest i a }
channel_step taken s es h i = absurd cc

status_step : (taken : List Text) → StepOf taken (required fields.Status forms.Text)
status_step taken behind_object es h i = record {
  next = between;
  seen = λ before e. refl;
  more = λ rest a. optional_none fields.ItemChannel forms.Text (to_come behind_channel) (es ++ rest) (required_more taken fields.Status forms.Text [] es rest i a);
}
status_step taken behind_channel es h i = record { next = between; seen = λ before e. refl; more = λ rest a. required_more taken fields.Status forms.Text [] es rest i a }
status_step taken s es h i = absurd cc

all_steps : (taken : List Text) → AllByRecursion (StepOf taken) (columns tables.RoAck)
all_steps taken = (order_step taken, (answer_step taken, (story_step taken, (item_step taken, (object_step taken, (channel_step taken, (status_step taken, tt)))))))

step : (taken : List Text) (before : List Child) (s : Stage) (f : Field) (es : List Event) → IsAt s (seen_of tables.RoAck before) → AckChild taken before f es → Step s f es
step taken before s f xs at (of_column n c es named fault i) =
    let k : field_fault (columns tables.RoAck) (seen_at s) (name_of c.field) ≡ None
    = ap (λ (z : List Field). field_fault (columns tables.RoAck) z (name_of c.field)) (sym at) ∙ fault_shown (seen_of tables.RoAck before) (name_of c.field) ∙ fault in
    column_of-all (StepOf taken) (columns tables.RoAck) n c (all_steps taken) named s es k i
step taken before s f xs at of_dropped = record { next = s; seen = λ seen e. shown_push seen s (fields.Dropped ∷ []) e ∙ append-nil (seen_at s); more = λ rest a. a }

-- ---- all children

-- what the children behind these add
pub record Behind (s : Stage) (before all : List Child) : Type 0 where
  pub more : List Event
  pub events : flat all ≡ flat before ++ more
  pub ahead : IsAhead (to_come s) more

at_end : (s : Stage) (all : List Child) → IsAt s (seen_of tables.RoAck all) → end_fault tables.RoAck all ≡ None → Behind s all all
unfolding end_fault
at_end s all at h = go s (ap (λ (z : List Field). lacking (wanted tables.RoAck z) z) (sym at) ∙ end_shown (seen_of tables.RoAck all) ∙ h)
  where
    go : (s : Stage) → lacking (wanted tables.RoAck (seen_at s)) (seen_at s) ≡ None → Behind s all all
    go between e = record { more = []; events = sym (append-nil (flat all)); ahead = record { parts = []; rest = []; fit = tt; groups = no_group; events = refl } }
    go s e = absurd cc

flat_push : (before : List Child) (c : Child) → flat (before ++ c ∷ []) ≡ flat before ++ c.1
flat_push before c = flat_map-append (λ (d : Child). d.1) before (c ∷ []) ∙ ap (λ (z : List Event). flat before ++ z) (append-nil c.1)

further : (taken : List Text) (before all : List Child) (s : Stage) (f : Field) (es : List Event) → IsAt s (seen_of tables.RoAck before) → AckChild taken before f es
    → ((t : Stage) → IsAt t (seen_of tables.RoAck (before ++ (f, es) ∷ [])) → Behind t (before ++ (f, es) ∷ []) all) → Behind s before all
unfolding seen_of
further taken before all s f es at c ih =
    let w : Step s f es = step taken before s f es at c in
    let k : IsAt w.next (seen_of tables.RoAck (before ++ (f, es) ∷ [])) = subst (IsAt w.next) (sym (seen_push [] before (f, es))) (w.seen (seen_of tables.RoAck before) at) in
    let b : Behind w.next (before ++ (f, es) ∷ []) all = ih w.next k in
    record {
      more = es ++ b.more;
      events = b.events ∙ ap (λ (z : List Event). z ++ b.more) (flat_push before (f, es)) ∙ append_assoc (flat before) es b.more;
      ahead = w.more b.more b.ahead;
    }

walk : {taken : List Text} {before all : List Child} {r : List Token} → Content tables.RoAck taken before all r → (s : Stage) → IsAt s (seen_of tables.RoAck before) → Behind s before all
walk {before = before} (ends h) s at = at_end s before at h
walk (white_space h d) s at = walk d s at
walk {taken = taken} {before = before} {all = all} (field {n = n} {y = y} {g = g} {o = o} {es = es} h e d) s at =
    further taken before all s o.field es at (leaf_child before taken n g o y es (leaf_is h) e) (λ t k. walk d t k)
walk {taken = taken} {before = before} {all = all} (empty_leaf {n = n} {g = g} {o = o} {es = es} h e d) s at =
    further taken before all s o.field es at (leaf_child before taken n g o [] es (leaf_is h) e) (λ t k. walk d t k)
walk {taken = taken} {before = before} {all = all} (empty_leaf_tag {n = n} {g = g} {o = o} {es = es} h e d) s at =
    further taken before all s o.field es at (leaf_child before taken n g o [] es (empty_leaf_is taken h) e) (λ t k. walk d t k)
walk {taken = taken} {before = before} {all = all} (raw_element {n = n} {tag = tag} {x = x} {g = g} {f = f} h e d) s at =
    further taken before all s f (raw_events f (tag ++ x)) at (raw_child before taken n g f (tag ++ x) (raw_is h)) (λ t k. walk d t k)
walk {taken = taken} {before = before} {all = all} (raw_tag {n = n} {tag = tag} {g = g} {f = f} h d) s at =
    further taken before all s f (raw_events f tag) at (raw_child before taken n g f tag (empty_raw_is taken h)) (λ t k. walk d t k)
walk {before = before} (record_element {u = u} {n = n} {g = g} {h = i} {f = f} h d e) s at = absurd (no_record before n g i f u (record_is h))
walk {taken = taken} {before = before} (record_tag {u = u} {n = n} {g = g} {h = i} {f = f} h e d) s at = absurd (no_record before n g i f u (empty_record_is taken h))

pub accepted_ahead : (taken : List Text) (es : List Event) → IsAccepted tables.RoAck taken es → IsAhead ack_columns es
unfolding arranged seen_of
accepted_ahead taken es a =
    let b : Behind at_start [] a.all = walk a.content at_start refl in
    subst (IsAhead ack_columns) (sym (a.value ∙ b.events)) b.ahead
