use Rattle.mos_elements.specs.Parts.{children_of}
use Rattle.mos_elements.proofs.ColumnLemmas.{first_apart, rest_same}
use Rattle.mos_elements.proofs.arranging.take_first.Goals as goal

pub take_column-requires : goal.take_column-requires
take_column-requires c = (first_apart c.args.column.now c.args.rest.now c.requires).1

pub returns-clause-others : goal.returns-clause-others
returns-clause-others c =
    let p = first_apart c.args.column.now c.args.rest.now c.requires in
    rest_same c.args.column.now.field (children_of c.args.children.now) (children_of c.take_column.new.children) c.in_ok-take_column.ensures.others c.in_ok-take_column.ensures.kept c.args.rest.now p.0 p.2
