use Rattle.std.proofs.Common.{◌≡◌, ◌++◌, drop, false}
use Rattle.mos_fields.specs.Fields.{same_field}
use Rattle.mos_fields.specs.declared.field.Field.{Field}
use Rattle.mos_grammar.specs.Records.{found}
use Rattle.mos_events.specs.EventView.{events_of}
use Rattle.mos_elements.specs.Parts.{children_of}
use Rattle.mos_elements.proofs.arranging.take_found.Given as goal

abbrev pub invariant-loop-i : goal.invariant-loop-i
invariant-loop-i l = (events_of l.out.items ++ found l.field (children_of (drop l.i l.children)) ≡ events_of l.initial.out.items ++ found l.field (children_of l.initial.children))
    × ((g : Field) → same_field l.field g ≡ false → found g (children_of l.children) ≡ found g (children_of l.initial.children))
