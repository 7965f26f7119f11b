-- roAck as its canonical encoding writes it: its fields, and then those of each group.
use Rattle.std.proofs.Common.{◌≡◌, false, List, [], ◌∷◌, ◌++◌, Option, Some, None, refl, sym, ap, subst, ◌∙◌}
use Rattle.std.specs.List.{AllByRecursion, flat_map}
use Rattle.mos_fields.specs.Characters.{Text}
use Rattle.mos_fields.specs.Fields.{name_of}
use Rattle.mos_fields.specs.Forms.{reads}
use Rattle.mos_fields.specs.Names.{is_empty}
use Rattle.mos_fields.specs.declared.field.Field.{Field}
use Rattle.mos_fields.specs.declared.field.Field.TheVariants as fields
use Rattle.mos_fields.specs.declared.form.Form.{Form}
use Rattle.mos_fields.specs.declared.form.Form.TheVariants as forms
use Rattle.mos_tables.specs.declared.column.Column.{Column}
use Rattle.mos_tables.specs.declared.column.Shape.TheVariants.{Leaf}
use Rattle.mos_tables.specs.declared.column.Often.{Often}
use Rattle.mos_tables.specs.declared.column.Often.TheVariants.{One, Optional}
use Rattle.mos_tables.specs.declared.table.Table.{Table}
use Rattle.mos_tables.specs.declared.table.Table.TheVariants as tables
use Rattle.mos_tables.specs.Tables.{column, columns, attribute_of_form}
use Rattle.mos_tables.specs.Events.{Event, leaf}
use Rattle.mos_grammar.specs.Records.{Child, times, seen_of, seen_behind, is_full, column_of, field_fault, if_field, wanted, lacking, end_fault, flat, arranged}
use Rattle.mos_grammar.proofs.Seen.{seen_push}
use Rattle.mos_cursor.specs.Accepted.{IsGiven}
use Rattle.mos_values.specs.declared.ack_group.AckGroup.{AckGroup}
use Rattle.mos_values.specs.declared.ro_ack.RoAck.{RoAck}
use Rattle.mos_values.specs.Parts.{must, maybe, joined}
use Rattle.mos_values.specs.Views.{group_events, groups_events, ro_ack_events}
use Rattle.encoding_laws.specs.Fitting.{TextsFit}
use Rattle.mos_tables.specs.Canonical.{canonical}
use Rattle.encoding_laws.proofs.Written.{HasNames, WritesFront}
use Rattle.encoding_laws.proofs.Admitted.{HasRoom, Opens}
use Rattle.encoding_laws.proofs.Pieces.{Canonical, leaf_piece}
use Rattle.encoding_laws.proofs.Ordered.{Builds, builds_end, builds_child}
use Rattle.encoding_laws.proofs.KindSegments.{is_key, reads_beside, field_named}
use Rattle.encoding_laws.proofs.LevelTexts.{Level, level_none, level_both, splits, level_must, level_maybe, level_joined, texts_of_parts, text_of_must}

abbrev Seen : List Child → List Field → Type 0
Seen b s = seen_of tables.RoAck b ≡ s

abbrev text_child : Field → Text → Child
text_child f x = (f, leaf (name_of f) [] x ∷ [])

-- what is checked of a field behind fields seen
abbrev Follows : List Field → Field → Form → Often → Type 0
Follows s f form o = (column_of (columns tables.RoAck) (name_of f) ≡ Some (column f (Leaf form) o)) × (field_fault (columns tables.RoAck) s (name_of f) ≡ None) × (is_full o (times f s) ≡ false) × (attribute_of_form form ≡ None) × (is_empty (name_of f) ≡ false) × (is_key form ≡ false)

ack_opens : (b : List Child) (s : List Field) (f : Field) (form : Form) (o : Often) → Seen b s → Follows s f form o → Opens tables.RoAck b (name_of f)
ack_opens b s f form o e w = record {
  outside = ap (λ (z : Option Column). if_field z (field_fault (columns tables.RoAck) (seen_of tables.RoAck b) (name_of f))) w.0 ∙ ap (λ (z : List Field). field_fault (columns tables.RoAck) z (name_of f)) e ∙ w.1;
  room = subst (HasRoom (seen_of tables.RoAck b)) (sym w.0) (ap (λ (z : List Field). is_full o (times f z)) e ∙ w.2);
}

ack_step : (taken : List Text) (b new : List Child) (s : List Field) (f : Field) (form : Form) (o : Often) (x : Text) → Seen b s → Follows s f form o → reads form [] x ≡ Some x → Builds tables.RoAck taken (b ++ text_child f x ∷ []) new → Builds tables.RoAck taken b (text_child f x ∷ new)
ack_step taken b new s f form o x e w r more =
    let c : Column = column f (Leaf form) o in
    let i : IsGiven (attribute_of_form form) [] = subst (λ (z : Option Field). IsGiven z []) (sym w.3) refl in
    builds_child tables.RoAck taken b b new (name_of f) (text_child f x) (leaf_piece tables.RoAck taken b (name_of f) c form [] x w.0 refl i (reads_beside form taken x w.5 r) (field_named f w.4)) (ack_opens b s f form o e w) refl refl more

seen_next : (b : List Child) (s : List Field) (f : Field) (x : Text) → Seen b s → Seen (b ++ text_child f x ∷ []) (seen_behind tables.RoAck s f)
seen_next b s f x e = seen_push tables.RoAck b (text_child f x) ∙ ap (λ (z : List Field). seen_behind tables.RoAck z f) e

-- behind the fields of the whole, and behind each group
abbrev at_group : List Field
at_group = fields.RoID ∷ fields.RoStatus ∷ []

group_end : (b : List Child) → Seen b at_group → end_fault tables.RoAck b ≡ None
unfolding end_fault
group_end b e = ap (λ (z : List Field). lacking (wanted tables.RoAck z) z) e

channel_children : Option Text → List Child
channel_children None = []
channel_children (Some x) = text_child fields.ItemChannel x ∷ []

group_children : AckGroup → List Child → List Child
group_children g new = text_child fields.StoryID g.story ∷ text_child fields.ItemID g.item ∷ text_child fields.ObjID g.obj ∷ (channel_children g.channel ++ text_child fields.Status g.status ∷ new)

groups_children : List AckGroup → List Child
groups_children [] = []
groups_children (g ∷ gs) = group_children g (groups_children gs)

abbrev group_parts : AckGroup → List (List Event)
group_parts g = must fields.StoryID g.story ∷ must fields.ItemID g.item ∷ must fields.ObjID g.obj ∷ maybe fields.ItemChannel g.channel ∷ must fields.Status g.status ∷ []

group_levels : (g : AckGroup) → AllByRecursion Level (group_parts g)
group_levels g = (level_must fields.StoryID g.story, (level_must fields.ItemID g.item, (level_must fields.ObjID g.obj, (level_maybe fields.ItemChannel g.channel, (level_must fields.Status g.status, tt)))))

level_group : (g : AckGroup) → Level (group_events g)
unfolding group_events
level_group g = level_joined (group_parts g) (group_levels g)

level_groups : (gs : List AckGroup) → Level (groups_events gs)
unfolding groups_events
level_groups [] = level_none
level_groups (g ∷ gs) = level_both (flat_map group_events gs) (level_group g) (level_groups gs)

pub level_ro_ack : (a : RoAck) → Level (ro_ack_events a)
unfolding ro_ack_events
level_ro_ack a = level_both (groups_events a.groups) (level_both (must fields.RoStatus a.status) (level_must fields.RoID a.ro) (level_must fields.RoStatus a.status)) (level_groups a.groups)

status_step : (taken : List Text) (b new : List Child) (s : List Field) (x : Text) → Seen b s → Follows s fields.Status forms.Text One → (seen_behind tables.RoAck s fields.Status ≡ at_group) → reads forms.Text [] x ≡ Some x
    → ((c : List Child) → Seen c at_group → Builds tables.RoAck taken c new) → Builds tables.RoAck taken b (text_child fields.Status x ∷ new)
status_step taken b new s x e w k r more = ack_step taken b new s fields.Status forms.Text One x e w r (more (b ++ text_child fields.Status x ∷ []) (seen_next b s fields.Status x e ∙ k))

abbrev at_channel : List Field
at_channel = fields.RoID ∷ fields.RoStatus ∷ fields.StoryID ∷ fields.ItemID ∷ fields.ObjID ∷ []

channel_step : (ts : List Table) (taken : List Text) (b new : List Child) (o : Option Text) (x : Text) → Seen b at_channel → TextsFit (tables.RoAck ∷ ts) (maybe fields.ItemChannel o) → reads forms.Text [] x ≡ Some x
    → ((c : List Child) → Seen c at_group → Builds tables.RoAck taken c new) → Builds tables.RoAck taken b (channel_children o ++ text_child fields.Status x ∷ new)
unfolding channel_children maybe
channel_step ts taken b new None x e h r more = status_step taken b new at_channel x e (refl, refl, refl, refl, refl, refl) refl r more
channel_step ts taken b new (Some y) x e h r more =
    ack_step taken b (text_child fields.Status x ∷ new) at_channel fields.ItemChannel forms.Text Optional y e (refl, refl, refl, refl, refl, refl) (text_of_must tables.RoAck ts fields.ItemChannel forms.Text Optional y refl h)
    (status_step taken (b ++ text_child fields.ItemChannel y ∷ []) new (at_channel ++ fields.ItemChannel ∷ []) x (seen_next b at_channel fields.ItemChannel y e) (refl, refl, refl, refl, refl, refl) refl r more)

group_step : (ts : List Table) (taken : List Text) (b new : List Child) (g : AckGroup) → Seen b at_group → TextsFit (tables.RoAck ∷ ts) (group_events g) → ((c : List Child) → Seen c at_group → Builds tables.RoAck taken c new) → Builds tables.RoAck taken b (group_children g new)
unfolding group_children group_events
group_step ts taken b new g e h more =
    let p = texts_of_parts (group_parts g) (group_levels g) tables.RoAck ts h in
    let c1 : Child = text_child fields.StoryID g.story in
    let c2 : Child = text_child fields.ItemID g.item in
    let c3 : Child = text_child fields.ObjID g.obj in
    let e1 = seen_next b at_group fields.StoryID g.story e in
    let e2 = seen_next (b ++ c1 ∷ []) (at_group ++ fields.StoryID ∷ []) fields.ItemID g.item e1 in
    let e3 = seen_next ((b ++ c1 ∷ []) ++ c2 ∷ []) (at_group ++ fields.StoryID ∷ fields.ItemID ∷ []) fields.ObjID g.obj e2 in
    ack_step taken b _ at_group fields.StoryID forms.OptId One g.story e (refl, refl, refl, refl, refl, refl) (text_of_must tables.RoAck ts fields.StoryID forms.OptId One g.story refl p.0)
    (ack_step taken (b ++ c1 ∷ []) _ (at_group ++ fields.StoryID ∷ []) fields.ItemID forms.OptId One g.item e1 (refl, refl, refl, refl, refl, refl) (text_of_must tables.RoAck ts fields.ItemID forms.OptId One g.item refl p.1.0)
    (ack_step taken ((b ++ c1 ∷ []) ++ c2 ∷ []) _ (at_group ++ fields.StoryID ∷ fields.ItemID ∷ []) fields.ObjID forms.OptId One g.obj e2 (refl, refl, refl, refl, refl, refl) (text_of_must tables.RoAck ts fields.ObjID forms.OptId One g.obj refl p.1.1.0)
    (channel_step ts taken (((b ++ c1 ∷ []) ++ c2 ∷ []) ++ c3 ∷ []) new g.channel g.status e3 p.1.1.1.0 (text_of_must tables.RoAck ts fields.Status forms.Text One g.status refl p.1.1.1.1.0) more)))

groups_built : (ts : List Table) (taken : List Text) (b : List Child) (gs : List AckGroup) → Seen b at_group → TextsFit (tables.RoAck ∷ ts) (groups_events gs) → Builds tables.RoAck taken b (groups_children gs)
unfolding groups_children groups_events
groups_built ts taken b [] e h = builds_end tables.RoAck taken b (group_end b e)
groups_built ts taken b (g ∷ gs) e h =
    let q = splits (level_group g) tables.RoAck ts (flat_map group_events gs) h in
    group_step ts taken b (groups_children gs) g e q.0 (λ c k. groups_built ts taken c gs k q.1)

group_flat : (g : AckGroup) (new : List Child) → flat (group_children g new) ≡ group_events g ++ flat new
unfolding group_children group_events channel_children must maybe
group_flat g new = go g.channel
  where
    go : (o : Option Text) → flat (text_child fields.StoryID g.story ∷ text_child fields.ItemID g.item ∷ text_child fields.ObjID g.obj ∷ (channel_children o ++ text_child fields.Status g.status ∷ new))
        ≡ joined (must fields.StoryID g.story ∷ must fields.ItemID g.item ∷ must fields.ObjID g.obj ∷ maybe fields.ItemChannel o ∷ must fields.Status g.status ∷ []) ++ flat new
    go None = refl
    go (Some x) = refl

groups_flat : (gs : List AckGroup) → flat (groups_children gs) ≡ groups_events gs
unfolding groups_children groups_events
groups_flat [] = refl
groups_flat (g ∷ gs) = group_flat g (groups_children gs) ∙ ap (λ (z : List Event). group_events g ++ z) (groups_flat gs)

ack_value : (all : List Child) → arranged tables.RoAck all ≡ flat all
unfolding arranged
ack_value all = refl

no_child_seen : Seen [] []
unfolding seen_of
no_child_seen = refl

pub ro_ack_canonical : (a : RoAck) (taken : List Text) (ts : List Table) → TextsFit (tables.RoAck ∷ ts) (ro_ack_events a) → Canonical tables.RoAck taken (ro_ack_events a)
unfolding ro_ack_events must
ro_ack_canonical a taken ts h =
    let q = splits (level_both (must fields.RoStatus a.status) (level_must fields.RoID a.ro) (level_must fields.RoStatus a.status)) tables.RoAck ts (groups_events a.groups) h in
    let p = splits (level_must fields.RoID a.ro) tables.RoAck ts (must fields.RoStatus a.status) q.0 in
    let c1 : Child = text_child fields.RoID a.ro in
    let c2 : Child = text_child fields.RoStatus a.status in
    let new : List Child = groups_children a.groups in
    let e1 : Seen ([] ++ c1 ∷ []) (fields.RoID ∷ []) = seen_next [] [] fields.RoID a.ro no_child_seen in
    let e2 : Seen (([] ++ c1 ∷ []) ++ c2 ∷ []) at_group = seen_next ([] ++ c1 ∷ []) (fields.RoID ∷ []) fields.RoStatus a.status e1 in
    let w : Builds tables.RoAck taken [] (c1 ∷ c2 ∷ new) =
    ack_step taken [] (c2 ∷ new) [] fields.RoID forms.OptId One a.ro no_child_seen (refl, refl, refl, refl, refl, refl) (text_of_must tables.RoAck ts fields.RoID forms.OptId One a.ro refl p.0)
    (ack_step taken ([] ++ c1 ∷ []) new (fields.RoID ∷ []) fields.RoStatus forms.Slug One a.status e1 (refl, refl, refl, refl, refl, refl) (text_of_must tables.RoAck ts fields.RoStatus forms.Slug One a.status refl p.1) (groups_built ts taken (([] ++ c1 ∷ []) ++ c2 ∷ []) a.groups e2 q.1)) in
    let f : flat (c1 ∷ c2 ∷ new) ≡ must fields.RoID a.ro ++ must fields.RoStatus a.status ++ groups_events a.groups = ap (λ (z : List Event). leaf (name_of fields.RoID) [] a.ro ∷ leaf (name_of fields.RoStatus) [] a.status ∷ z) (groups_flat a.groups) in
    record {
      children = c1 ∷ c2 ∷ new;
      tokens = w.tokens;
      content = w.content;
      written = subst (λ (z : List Event). WritesFront w.tokens (canonical z)) f w.written;
      names = subst (AllByRecursion HasNames) f w.names;
      value = ack_value (c1 ∷ c2 ∷ new) ∙ f;
    }
