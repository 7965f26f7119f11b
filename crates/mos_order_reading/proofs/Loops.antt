-- Groups that are read one after another.
use Rattle.std.proofs.Common.{◌≡◌, ◌<◌, true, false, List, [], ◌∷◌, ◌++◌, length, refl, sym, ap, ◌∙◌, append_assoc, arith}
use Rattle.std.proofs.lemmas.List.{append-nil, length-append}
use Rattle.std.proofs.lemmas.Grind.{flat_map-append}
use Rattle.mos_fields.specs.Fields.{name_of}
use Rattle.mos_fields.specs.declared.field.Field.TheVariants as fields
use Rattle.mos_tables.specs.declared.table.Table.TheVariants as tables
use Rattle.mos_tables.specs.Events.{Event}
use Rattle.mos_tables.specs.Tables.{group_columns}
use Rattle.mos_values.specs.Parts.{must}
use Rattle.mos_values.specs.Views.{group_events, groups_events}
use Rattle.mos_values.specs.declared.ack_group.AckGroup.{AckGroup}
use Rattle.mos_cursor.specs.Accepted.{AllFit}
use Rattle.mos_cursor.specs.Parts.{Part, one_leaf, parts_events}
use Rattle.mos_cursor.specs.Taking.{begins_leaf}
use Rattle.mos_order_reading.specs.Groups.{AreGroups, no_group, one_group, IsAhead}

-- what was read are the first groups, and the rest are groups
pub record GroupsSoFar (all : List Event) (done : List AckGroup) (left : List Event) : Type 0 where
  pub all_is : all ≡ groups_events done ++ left
  pub groups : AreGroups left

pub groups_start : (all : List Event) → AreGroups all → GroupsSoFar all [] all
unfolding groups_events
groups_start all a = record { all_is = refl; groups = a }

-- events that are groups begin with one, or there are none
ahead_of : (es : List Event) → AreGroups es → begins_leaf (name_of fields.StoryID) es ≡ true → IsAhead group_columns es
ahead_of es no_group h = absurd cc
ahead_of es (one_group {es = rest} ps f a) h = record { parts = ps; rest = rest; fit = f; groups = a; events = refl }

begins : (ps : List Part) (rest : List Event) → AllFit tables.RoAck group_columns ps → begins_leaf (name_of fields.StoryID) (parts_events group_columns ps ++ rest) ≡ true
begins [] rest f = absurd f
begins (one_leaf l ∷ ps) rest f = refl
begins (p ∷ ps) rest f = absurd f.0

none_of : (es : List Event) → AreGroups es → begins_leaf (name_of fields.StoryID) es ≡ false → es ≡ []
none_of es no_group h = refl
none_of es (one_group {es = rest} ps f a) h = let q = begins ps rest f in absurd cc

pub group_ahead : (all : List Event) (done : List AckGroup) (left : List Event) → GroupsSoFar all done left → begins_leaf (name_of fields.StoryID) left ≡ true → IsAhead group_columns left
group_ahead all done left s h = ahead_of left s.groups h

pub groups_more : (all : List Event) (done : List AckGroup) (left more : List Event) (g : AckGroup) → GroupsSoFar all done left → left ≡ group_events g ++ more → AreGroups more → GroupsSoFar all (done ++ g ∷ []) more
unfolding groups_events
groups_more all done left more g s e a = record {
  all_is = s.all_is ∙ ap (λ (z : List Event). groups_events done ++ z) e ∙ sym (append_assoc (groups_events done) (group_events g) more)
      ∙ ap (λ (z : List Event). z ++ more) (sym (flat_map-append group_events done (g ∷ []) ∙ ap (λ (z : List Event). groups_events done ++ z) (append-nil (group_events g))));
  groups = a;
}

pub groups_end : (all : List Event) (done : List AckGroup) (left : List Event) → GroupsSoFar all done left → begins_leaf (name_of fields.StoryID) left ≡ false → groups_events done ≡ all
groups_end all done left s h = sym (s.all_is ∙ ap (λ (z : List Event). groups_events done ++ z) (none_of left s.groups h) ∙ append-nil (groups_events done))

-- a group is no empty list of events
pub group_shorter : (g : AckGroup) (left more : List Event) → left ≡ group_events g ++ more → length more < length left
unfolding group_events must
group_shorter g left more e = let q = ap length e ∙ length-append (group_events g) more in omega (arith, q)
