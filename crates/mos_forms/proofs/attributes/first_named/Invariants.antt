use Rattle.std.proofs.Common.{◌≡◌, length}
use Rattle.mos_fields.specs.Fields.{name_of}
use Rattle.mos_grammar.specs.Records.{values_of}
use Rattle.mos_forms.proofs.attributes.first_named.Given as goal

abbrev pub invariant-loop-rest : goal.invariant-loop-rest
invariant-loop-rest l = values_of (name_of l.field) l.rest ≡ values_of (name_of l.field) l.attributes

abbrev pub decreases-loop-rest : goal.decreases-loop-rest
decreases-loop-rest l = length l.rest
