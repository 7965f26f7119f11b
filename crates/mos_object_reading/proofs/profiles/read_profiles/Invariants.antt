use Rattle.std.proofs.Common.{length, [], ◌∷◌}
use Rattle.mos_fields.specs.Fields.{name_of}
use Rattle.mos_fields.specs.declared.field.Field.TheVariants as fields
use Rattle.mos_fields.specs.declared.form.Form.TheVariants as forms
use Rattle.mos_values.specs.Views.{profile_events}
use Rattle.mos_cursor.specs.Accepted.{LeafFits}
use Rattle.mos_cursor.specs.Parts.{leaf_event}
use Rattle.mos_cursor.specs.Slots.{leaf_of}
use Rattle.mos_cursor.proofs.Read.{ReadSoFar}
use Rattle.mos_object_reading.proofs.profiles.read_profiles.Given as goal

abbrev pub invariant-next : goal.invariant-next
invariant-next l = ReadSoFar profile_events (λ x. leaf_event (name_of fields.MosProfile) (leaf_of x) ∷ []) (λ x. LeafFits forms.Profile (leaf_of x)) l.fn.leaves l.profiles l.rest.items

abbrev pub decreases-next : goal.decreases-next
decreases-next l = length l.rest.items
