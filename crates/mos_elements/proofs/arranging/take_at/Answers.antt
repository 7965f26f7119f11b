use Rattle.mos_elements.proofs.ColumnLemmas.{others_same}
use Rattle.mos_elements.proofs.arranging.take_at.Goals as goal

pub returns-clause-others : goal.returns-clause-others
returns-clause-others c = others_same c.args.field c.args.children.now c.args.place c.index-children-place.result c.take_part.new.child c.requires c.take_part.ensures.field c.take_part.ensures.left
