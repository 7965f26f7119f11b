use Rattle.std.proofs.Common.{◌∙◌, ap}
use Rattle.mos_fields.specs.Fields.{name_of, same}
use Rattle.mos_soundness.proofs.RawNames.{is_named}
use Rattle.mos_soundness.proofs.names.has_name.Goals as goal

pub returns : goal.returns
returns c = is_named c.is_word.result (name_of c.args.field) c.element_name.result.now c.args.raw.now (c.is_word.ensures ∙ ap (λ w. same c.element_name.result.now w) c.name.ensures) c.element_name.ensures.named c.element_name.ensures.only
