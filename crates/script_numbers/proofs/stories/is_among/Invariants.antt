use Rattle.std.proofs.Common.{◌≡◌, drop}
use Rattle.mos_edits.specs.Texts.{has_id}
use Rattle.script_numbers.proofs.stories.is_among.Given as goal

abbrev pub invariant-loop-id : goal.invariant-loop-id
invariant-loop-id l = has_id l.story l.ids ≡ has_id l.story (drop l.id-index l.ids)
