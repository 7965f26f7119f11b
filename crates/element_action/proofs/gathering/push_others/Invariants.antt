use Rattle.std.proofs.Common.{◌≡◌, ◌++◌, drop}
use Rattle.mos_edits.specs.KeyedLists.{without}
use Rattle.element_action.proofs.gathering.push_others.Given as goal

abbrev pub invariant-loop-id : goal.invariant-loop-id
invariant-loop-id l = l.list ++ without (λ x. x) l.out (drop l.id-index l.ids) ≡ l.initial.list ++ without (λ x. x) l.out l.ids
