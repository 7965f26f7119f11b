use Rattle.std.proofs.Common.{◌∙◌}
use Rattle.std.specs.Str.{bytes_eq}
use Rattle.object_table.proofs.Places.{deleted-text}
use Rattle.object_table.proofs.table.is_deleted_word.Goals as goal

pub returns : goal.returns
returns c =
    c.eq.ensures
    ∙ ((λ i. bytes_eq (c.units.ensures.value i) (c.as_slice.ensures i))
    ∙ deleted-text c.args.status.now c.units.ensures.allowed)
