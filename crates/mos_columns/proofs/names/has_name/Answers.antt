use Rattle.std.proofs.Common.{nat_eq, length, ap, ◌∙◌}
use Rattle.mos_fields.specs.Fields.{name_of}
use Rattle.mos_columns.proofs.Lengths.{long_is}
use Rattle.mos_columns.proofs.names.has_name.Goals as goal

pub returns-else-name_length-name : goal.returns-else-name_length-name
returns-else-name_length-name c = ap (λ k. nat_eq k (length c.args.name.now)) c.name_length.ensures
    ∙ long_is (name_of c.args.field) c.args.name.now (λ e. c.if-name_length-name.false (c.name_length.ensures ∙ e))
