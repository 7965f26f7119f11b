-- Texts taken one after another from the front of what is ahead.
use Rattle.std.proofs.Common.{◌≡◌, List, [], ◌∷◌, ◌++◌, refl, sym, ap, subst, ◌∙◌, append_assoc}
use Rattle.mos_fields.specs.Fields.{name_of}
use Rattle.mos_fields.specs.declared.field.Field.{Field}
use Rattle.mos_fields.specs.declared.field.Field.TheVariants as fields
use Rattle.mos_fields.specs.declared.form.Form.{Form}
use Rattle.mos_fields.specs.declared.form.Form.TheVariants as forms
use Rattle.mos_tables.specs.declared.column.Column.{Column}
use Rattle.mos_tables.specs.declared.table.Table.TheVariants as tables
use Rattle.mos_tables.specs.Events.{Event}
use Rattle.mos_tables.specs.Tables.{required, optional, ack_columns, group_columns}
use Rattle.mos_grammar.proofs.Sound.{same-refl}
use Rattle.mos_cursor.specs.Parts.{LeafPart, Part, absent, one_leaf, leaf_event, part_events, parts_events}
use Rattle.mos_cursor.specs.Accepted.{OneLeaf, OptionalLeaf, AllFit}
use Rattle.mos_cursor.specs.Taking.{leaf_taken, leaf_left}
use Rattle.mos_order_reading.specs.Groups.{AreGroups, IsAhead}

-- this part stood in front, and these events are ahead now
pub record Front (f : Field) (cs : List Column) (es : List Event) (p : Part) (r : List Event) : Type 0 where
  pub ahead : IsAhead cs r
  pub events : es ≡ part_events f p ++ r

-- a text is taken whole
leaf_front : (f : Field) (l : LeafPart) (rest : List Event) → (leaf_taken (name_of f) (leaf_event (name_of f) l ∷ rest) ≡ one_leaf l) × (leaf_left (name_of f) (leaf_event (name_of f) l ∷ rest) ≡ rest)
leaf_front f l rest = (rw (same-refl (name_of f)) refl, rw (same-refl (name_of f)) refl)

-- a text that has to be there
pub record RequiredFront (f : Field) (form : Form) (cs : List Column) (es : List Event) (p : Part) (r : List Event) : Type 0 where
  pub fit : OneLeaf form p
  pub front : Front f cs es p r

pub required_taken : (f : Field) (form : Form) (cs : List Column) (es : List Event) (p : Part) (r : List Event) → IsAhead (required f form ∷ cs) es → p ≡ leaf_taken (name_of f) es → r ≡ leaf_left (name_of f) es
    → RequiredFront f form cs es p r
required_taken f form cs es p r a pe re = go a.parts a.fit a.events
  where
    go : (ps : List Part) → AllFit tables.RoAck (required f form ∷ cs) ps → es ≡ parts_events (required f form ∷ cs) ps ++ a.rest → RequiredFront f form cs es p r
    go [] h e = absurd h
    go (one_leaf l ∷ ps) h e =
        let k = leaf_front f l (parts_events cs ps ++ a.rest) in
        let q : p ≡ one_leaf l = pe ∙ ap (leaf_taken (name_of f)) e ∙ k.0 in
        let z : r ≡ parts_events cs ps ++ a.rest = re ∙ ap (leaf_left (name_of f)) e ∙ k.1 in
        record {
          fit = subst (OneLeaf form) (sym q) h.0;
          front = record {
            ahead = record { parts = ps; rest = a.rest; fit = h.1; groups = a.groups; events = z };
            events = e ∙ ap (λ (y : List Event). leaf_event (name_of f) l ∷ y) (sym z) ∙ ap (λ (y : Part). part_events f y ++ r) (sym q);
          };
        }
    go (p ∷ ps) h e = absurd h.0

-- the channel, before a status
pub record ChannelFront (es : List Event) (p : Part) (r : List Event) : Type 0 where
  pub fit : OptionalLeaf forms.Text p
  pub front : Front fields.ItemChannel (required fields.Status forms.Text ∷ []) es p r

abbrev channel_columns : List Column
channel_columns = optional fields.ItemChannel forms.Text ∷ required fields.Status forms.Text ∷ []

pub channel_taken : (es : List Event) (p : Part) (r : List Event) → IsAhead channel_columns es → p ≡ leaf_taken (name_of fields.ItemChannel) es → r ≡ leaf_left (name_of fields.ItemChannel) es → ChannelFront es p r
channel_taken es p r a pe re = go a.parts a.fit a.events
  where
    -- without one, the status is next
    none : (ps : List Part) → AllFit tables.RoAck (required fields.Status forms.Text ∷ []) ps → es ≡ parts_events (required fields.Status forms.Text ∷ []) ps ++ a.rest → ChannelFront es p r
    none [] h e = absurd h
    none (one_leaf l ∷ ps) h e =
        let q : p ≡ absent = pe ∙ ap (leaf_taken (name_of fields.ItemChannel)) e in
        let z : r ≡ parts_events (required fields.Status forms.Text ∷ []) (one_leaf l ∷ ps) ++ a.rest = re ∙ ap (leaf_left (name_of fields.ItemChannel)) e in
        record {
          fit = subst (OptionalLeaf forms.Text) (sym q) tt;
          front = record {
            ahead = record { parts = one_leaf l ∷ ps; rest = a.rest; fit = h; groups = a.groups; events = z };
            events = e ∙ sym z ∙ ap (λ (y : Part). part_events fields.ItemChannel y ++ r) (sym q);
          };
        }
    none (p ∷ ps) h e = absurd h.0

    go : (ps : List Part) → AllFit tables.RoAck channel_columns ps → es ≡ parts_events channel_columns ps ++ a.rest → ChannelFront es p r
    go [] h e = absurd h
    go (absent ∷ ps) h e = none ps h.1 e
    go (one_leaf l ∷ ps) h e =
        let k = leaf_front fields.ItemChannel l (parts_events (required fields.Status forms.Text ∷ []) ps ++ a.rest) in
        let q : p ≡ one_leaf l = pe ∙ ap (leaf_taken (name_of fields.ItemChannel)) e ∙ k.0 in
        let z : r ≡ parts_events (required fields.Status forms.Text ∷ []) ps ++ a.rest = re ∙ ap (leaf_left (name_of fields.ItemChannel)) e ∙ k.1 in
        record {
          fit = subst (OptionalLeaf forms.Text) (sym q) h.0;
          front = record {
            ahead = record { parts = ps; rest = a.rest; fit = h.1; groups = a.groups; events = z };
            events = e ∙ ap (λ (y : List Event). leaf_event (name_of fields.ItemChannel) l ∷ y) (sym z) ∙ ap (λ (y : Part). part_events fields.ItemChannel y ++ r) (sym q);
          };
        }
    go (p ∷ ps) h e = absurd h.0

-- nothing of the columns is ahead: groups are
pub none_ahead : (es : List Event) → IsAhead [] es → AreGroups es
none_ahead es a = go a.parts a.fit a.events
  where
    go : (ps : List Part) → AllFit tables.RoAck [] ps → es ≡ parts_events [] ps ++ a.rest → AreGroups es
    go ps h e = subst AreGroups (sym e) a.groups

-- ---- the texts of a group

pub record GroupFront (es : List Event) (ps : List Part) (r : List Event) : Type 0 where
  pub fit : AllFit tables.RoAck group_columns ps
  pub events : es ≡ parts_events group_columns ps ++ r
  pub groups : AreGroups r

five_joined : (x y z u v r : List Event) → x ++ (y ++ (z ++ (u ++ (v ++ r)))) ≡ (x ++ (y ++ (z ++ (u ++ (v ++ []))))) ++ r
five_joined x y z u v r = sym (append_assoc x (y ++ (z ++ (u ++ (v ++ [])))) r
    ∙ ap (λ (w : List Event). x ++ w) (append_assoc y (z ++ (u ++ (v ++ []))) r
    ∙ ap (λ (w : List Event). y ++ w) (append_assoc z (u ++ (v ++ [])) r
    ∙ ap (λ (w : List Event). z ++ w) (append_assoc u (v ++ []) r
    ∙ ap (λ (w : List Event). u ++ w) (append_assoc v [] r)))))

pub group_taken : (e0 e1 e2 e3 e4 e5 : List Event) (p1 p2 p3 p4 p5 : Part) → IsAhead group_columns e0
    → p1 ≡ leaf_taken (name_of fields.StoryID) e0 → e1 ≡ leaf_left (name_of fields.StoryID) e0
    → p2 ≡ leaf_taken (name_of fields.ItemID) e1 → e2 ≡ leaf_left (name_of fields.ItemID) e1
    → p3 ≡ leaf_taken (name_of fields.ObjID) e2 → e3 ≡ leaf_left (name_of fields.ObjID) e2
    → p4 ≡ leaf_taken (name_of fields.ItemChannel) e3 → e4 ≡ leaf_left (name_of fields.ItemChannel) e3
    → p5 ≡ leaf_taken (name_of fields.Status) e4 → e5 ≡ leaf_left (name_of fields.Status) e4
    → GroupFront e0 (p1 ∷ p2 ∷ p3 ∷ p4 ∷ p5 ∷ []) e5
group_taken e0 e1 e2 e3 e4 e5 p1 p2 p3 p4 p5 h q1 r1 q2 r2 q3 r3 q4 r4 q5 r5 =
    let a = required_taken fields.StoryID forms.OptId (required fields.ItemID forms.OptId ∷ required fields.ObjID forms.OptId ∷ channel_columns) e0 p1 e1 h q1 r1 in
    let b = required_taken fields.ItemID forms.OptId (required fields.ObjID forms.OptId ∷ channel_columns) e1 p2 e2 a.front.ahead q2 r2 in
    let c = required_taken fields.ObjID forms.OptId channel_columns e2 p3 e3 b.front.ahead q3 r3 in
    let d = channel_taken e3 p4 e4 c.front.ahead q4 r4 in
    let f = required_taken fields.Status forms.Text [] e4 p5 e5 d.front.ahead q5 r5 in
    let x : List Event = part_events fields.StoryID p1 in
    let y : List Event = part_events fields.ItemID p2 in
    let z : List Event = part_events fields.ObjID p3 in
    let u : List Event = part_events fields.ItemChannel p4 in
    let v : List Event = part_events fields.Status p5 in
    record {
      fit = (a.fit, (b.fit, (c.fit, (d.fit, (f.fit, tt)))));
      events = a.front.events ∙ ap (λ (w : List Event). x ++ w) (b.front.events ∙ ap (λ (w : List Event). y ++ w) (c.front.events ∙ ap (λ (w : List Event). z ++ w) (d.front.events ∙ ap (λ (w : List Event). u ++ w) f.front.events)))
          ∙ five_joined x y z u v e5;
      groups = none_ahead e5 f.front.ahead;
    }

-- ---- the order and the status in front

pub record HeadFront (es : List Event) (p q : Part) (r : List Event) : Type 0 where
  pub order : OneLeaf forms.OptId p
  pub status : OneLeaf forms.Slug q
  pub events : es ≡ part_events fields.RoID p ++ (part_events fields.RoStatus q ++ r)
  pub groups : AreGroups r

pub head_taken : (e0 e1 e2 : List Event) (p1 p2 : Part) → IsAhead ack_columns e0
    → p1 ≡ leaf_taken (name_of fields.RoID) e0 → e1 ≡ leaf_left (name_of fields.RoID) e0
    → p2 ≡ leaf_taken (name_of fields.RoStatus) e1 → e2 ≡ leaf_left (name_of fields.RoStatus) e1
    → HeadFront e0 p1 p2 e2
head_taken e0 e1 e2 p1 p2 h q1 r1 q2 r2 =
    let a = required_taken fields.RoID forms.OptId (required fields.RoStatus forms.Slug ∷ []) e0 p1 e1 h q1 r1 in
    let b = required_taken fields.RoStatus forms.Slug [] e1 p2 e2 a.front.ahead q2 r2 in
    record {
      order = a.fit;
      status = b.fit;
      events = a.front.events ∙ ap (λ (w : List Event). part_events fields.RoID p1 ++ w) b.front.events;
      groups = none_ahead e2 b.front.ahead;
    }
