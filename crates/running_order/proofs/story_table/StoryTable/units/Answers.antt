use Rattle.std.proofs.Common.{ap, ◌∙◌}
use Rattle.std.proofs.lemmas.Option.{slice_get_within}
use Rattle.indexmap.specs.IndexMap.{values}
use Rattle.mos_fields.specs.Fields.{name_of}
use Rattle.mos_fields.specs.declared.field.Field.TheVariants as fields
use Rattle.mos_values.specs.Parts.{element}
use Rattle.mos_values.specs.Units.{capped, units_in}
use Rattle.mos_values.specs.Views.{story_events}
use Rattle.mos_values.proofs.Counts.{no_stories, stories_step}
use Rattle.running_order.proofs.Lists.{got}
use Rattle.running_order.proofs.story_table.StoryTable.units.Goals as goal

pub loop-i-init : goal.loop-i-init
loop-i-init c = no_stories

pub loop-i-preserved : goal.loop-i-preserved
loop-i-preserved c =
    let all = values c.self.inside.table in
    let x = c.index.result.now in
    let one = c.story_units.ensures ∙ ap (λ s. capped (units_in (element (name_of fields.StoryTag) (story_events s)))) c.story.ensures in
    stories_step all c.loop-i.i x c.loop-i.count c.story_units.result c.plus-count.result (slice_get_within all c.loop-i.i x c.index.ensures) (got all c.loop-i.i x c.index.ensures) c.loop-i.invariant one c.plus-count.ensures
