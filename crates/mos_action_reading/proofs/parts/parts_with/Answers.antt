use Rattle.mos_fields.specs.declared.field.Field.TheVariants as fields
use Rattle.mos_action_reading.proofs.PartLemmas.{target_plain, source_plain, target_fits, source_fits, action_joined}
use Rattle.mos_action_reading.proofs.parts.parts_with.Goals as goal

pub optional_inside-target-requires : goal.optional_inside-target-requires
optional_inside-target-requires c = target_plain c.args.operation _ c.requires.fit.1.0

pub record_inside-source-requires : goal.record_inside-source-requires
record_inside-source-requires c = source_plain c.args.operation _ c.requires.fit.1.1.0

pub returns-clause-target : goal.returns-clause-target
returns-clause-target c = target_fits c.args.operation _ _ c.requires.fit.1.0 c.optional_inside-target.ensures

pub returns-clause-source : goal.returns-clause-source
returns-clause-source c = source_fits c.args.operation _ _ _ _ c.requires.aimed c.optional_inside-target.ensures c.record_inside-source.ensures

pub returns-clause-events : goal.returns-clause-events
returns-clause-events c = action_joined _ _ _ _ _ _ (c.id.ensures fields.RoID) c.optional_inside-target.ensures c.record_inside-source.ensures
