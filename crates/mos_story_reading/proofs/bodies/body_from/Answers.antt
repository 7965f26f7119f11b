use Rattle.std.proofs.Common.{List, [], ◌∷◌, ◌++◌, refl, ap, ◌∙◌}
use Rattle.mos_fields.specs.declared.field.Field.TheVariants as fields
use Rattle.mos_tables.specs.Events.{Event}
use Rattle.mos_cursor.specs.Parts.{part_events}
use Rattle.mos_cursor.specs.Slots.{part_of, parts_of}
use Rattle.mos_story_reading.proofs.Lists.{body_parts}
use Rattle.mos_story_reading.proofs.bodies.body_from.Goals as goal

pub returns : goal.returns
returns c =
    c.in_ok-order.ensures ∙ ap (λ (z : List Event). z ++ part_events fields.StoryTag (part_of c.args.stories)) c.in_ok-header.ensures
    ∙ body_parts
    (parts_of (c.args.ro ∷ c.args.slug ∷ c.args.channel ∷ c.args.ed_start ∷ c.args.ed_dur ∷ c.args.trigger ∷ c.args.macro_in ∷ c.args.macro_out ∷ c.args.metadata ∷ c.args.others ∷ []))
    (part_of c.args.stories) refl
