use Rattle.std.proofs.Common.{◌∙◌, ap}
use Rattle.mos_events.specs.EventView.{element_text}
use Rattle.mos_fields.specs.Fields.{same}
use Rattle.mos_cursor.proofs.Names.{pointwise_same}
use Rattle.mos_cursor.proofs.cursor.have_one_text.Goals as goal

pub returns : goal.returns
returns c = c.eq.ensures ∙ pointwise_same c.name.result.now c.name-2.result.now ∙ ap (λ x. same x c.name-2.result.now) c.name.ensures ∙ ap (λ x. same (element_text c.args.name) x) c.name-2.ensures
