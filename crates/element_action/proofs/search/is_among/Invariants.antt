use Rattle.std.proofs.Common.{◌≡◌, drop}
use Rattle.mos_edits.specs.Texts.{has_id}
use Rattle.element_action.proofs.search.is_among.Given as goal

abbrev pub invariant-loop-other : goal.invariant-loop-other
invariant-loop-other l = has_id l.id l.ids ≡ has_id l.id (drop l.other-index l.ids)
