-- The order, the target and the source of an action, taken out of its parts.
use Rattle.std.proofs.Common.{◌≡◌, List, [], ◌++◌, Option, Some, None, refl, sym, ap, subst, ◌∙◌}
use Rattle.std.proofs.lemmas.List.{append-nil}
use Rattle.mos_fields.specs.Characters.{Text}
use Rattle.mos_fields.specs.Fields.{name_of}
use Rattle.mos_fields.specs.declared.field.Field.TheVariants as fields
use Rattle.mos_fields.specs.declared.operation.Operation.{Operation}
use Rattle.mos_fields.specs.declared.operation.Operation.TheVariants.{Insert, Replace, Move, Delete, Swap}
use Rattle.mos_tables.specs.declared.aim.Aim.TheVariants.{AtStory}
use Rattle.mos_tables.specs.declared.column.Shape.TheVariants.{Record}
use Rattle.mos_tables.specs.declared.table.Table.TheVariants as tables
use Rattle.mos_tables.specs.Events.{Event}
use Rattle.mos_tables.specs.Tables.{target_of}
use Rattle.mos_values.specs.Parts.{element, must}
use Rattle.mos_cursor.specs.Accepted.{OneRecord, FitsAs}
use Rattle.mos_cursor.specs.Parts.{Part, absent, one_record, part_events}
use Rattle.mos_action_reading.specs.Aims.{aim_of_part, HeldBy}
use Rattle.mos_action_reading.specs.Parts.{plain_record, maybe_record, IsPlainRecord, IsOptionalRecord, target_events, IsTargetOf, IsSourceOf}

-- their starts have no attributes
pub target_plain : (o : Operation) (p : Part) → FitsAs (tables.Action o) (Record (tables.Target o)) (target_of o) p → IsOptionalRecord p
target_plain Insert (one_record p) h = h.given
target_plain Replace (one_record p) h = h.given
target_plain Move (one_record p) h = h.given
target_plain Delete absent h = tt
target_plain Delete (one_record p) h = h.given
target_plain Swap absent h = tt
target_plain Swap (one_record p) h = h.given
target_plain o p h = absurd h

pub source_plain : (o : Operation) (p : Part) → OneRecord (tables.Action o) (tables.Source o AtStory) p → IsPlainRecord p
source_plain o (one_record p) h = h.given
source_plain o p h = absurd h

-- the target fits the operation
pub target_fits : (o : Operation) (p : Part) (t : Option (List Event)) → FitsAs (tables.Action o) (Record (tables.Target o)) (target_of o) p → p ≡ maybe_record t → IsTargetOf o t
target_fits o p t h e = go o t (subst (FitsAs (tables.Action o) (Record (tables.Target o)) (target_of o)) e h)
  where
    go : (o : Operation) (t : Option (List Event)) → FitsAs (tables.Action o) (Record (tables.Target o)) (target_of o) (maybe_record t) → IsTargetOf o t
    go Insert None h = absurd h
    go Insert (Some es) h = (h.taken, h.accepted)
    go Replace None h = absurd h
    go Replace (Some es) h = (h.taken, h.accepted)
    go Move None h = absurd h
    go Move (Some es) h = (h.taken, h.accepted)
    go Delete None h = tt
    go Delete (Some es) h = (h.taken, h.accepted)
    go Swap None h = tt
    go Swap (Some es) h = (h.taken, h.accepted)

-- the source fits the operation and the target
pub source_fits : (o : Operation) (p s : Part) (t : Option (List Event)) (es : List Event) → HeldBy o (aim_of_part p) s → p ≡ maybe_record t → s ≡ plain_record es → IsSourceOf o t es
source_fits o p s t es h e f = go t (subst (HeldBy o (aim_of_part (maybe_record t))) f (subst (λ (z : Part). HeldBy o (aim_of_part z) s) e h))
  where
    go : (t : Option (List Event)) → HeldBy o (aim_of_part (maybe_record t)) (plain_record es) → IsSourceOf o t es
    go None h = (h.keys, h.accepted)
    go (Some xs) h = (h.keys, h.accepted)

target_part : (t : Option (List Event)) → target_events t ≡ part_events fields.ElementTarget (maybe_record t)
target_part None = refl
target_part (Some es) = refl

-- the parts one behind another
pub action_joined : (r p s : Part) (id : Text) (t : Option (List Event)) (es : List Event) → part_events fields.RoID r ≡ must fields.RoID id → p ≡ maybe_record t → s ≡ plain_record es
    → must fields.RoID id ++ (target_events t ++ element (name_of fields.ElementSource) es)
    ≡ part_events fields.RoID r ++ (part_events fields.ElementTarget p ++ (part_events fields.ElementSource s ++ []))
action_joined r p s id t es x e f =
    let y : target_events t ≡ part_events fields.ElementTarget p = target_part t ∙ ap (part_events fields.ElementTarget) (sym e) in
    let z : element (name_of fields.ElementSource) es ≡ part_events fields.ElementSource s ++ [] = ap (part_events fields.ElementSource) (sym f) ∙ sym (append-nil (part_events fields.ElementSource s)) in
    ap (λ (u : List Event). u ++ (target_events t ++ element (name_of fields.ElementSource) es)) (sym x)
    ∙ ap (λ (u : List Event). part_events fields.RoID r ++ (u ++ element (name_of fields.ElementSource) es)) y
    ∙ ap (λ (u : List Event). part_events fields.RoID r ++ (part_events fields.ElementTarget p ++ u)) z
