use Rattle.std.proofs.Common.{sym, ap, ◌∙◌}
use Rattle.indexmap.specs.IndexMap.{values}
use Rattle.mos_fields.specs.Fields.{name_of}
use Rattle.mos_fields.specs.declared.field.Field.TheVariants as fields
use Rattle.mos_values.specs.Parts.{element}
use Rattle.mos_values.specs.Units.{capped, units_in}
use Rattle.mos_values.specs.Views.{story_events}
use Rattle.running_order.specs.Sizes.{story_size, size_at}
use Rattle.running_order.proofs.SizeLemmas.{size_at-got, story_size-is}
use Rattle.running_order.proofs.story_table.StoryTable.story_units.Goals as goal

pub returns : goal.returns
returns c =
    let all = values c.self.inside.table in
    let x = c.index.result.now in
    c.story_units.ensures
    ∙ ap (λ s. capped (units_in (element (name_of fields.StoryTag) (story_events s)))) c.story.ensures
    ∙ ap capped (story_size-is x ∙ sym (size_at-got story_size all c.args.at x c.index.ensures))
    ∙ ap (λ l. capped (size_at story_size l c.args.at)) c.self.view_is
