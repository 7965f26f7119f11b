use Rattle.std.proofs.Common.{◌∙◌, arith}
use Rattle.std.proofs.lemmas.List.{length-map}
use Rattle.mos_elements.specs.Parts.{child_of, children_of}
use Rattle.mos_elements.proofs.FrameLemmas.{few_grow}
use Rattle.mos_elements.proofs.frame.Frame.add.Goals as goal

pub note-requires-2 : goal.note-requires-2
note-requires-2 c =
    let same = length-map c.self.inside.before.items child_of in
    few_grow c.self.inside.table c.deref_mut.result.now (children_of c.self.inside.before.items) (c.deref_mut.ensures.value ∙ c.self.invariant.0) (omega (arith, same))
