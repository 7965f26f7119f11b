use Rattle.std.proofs.Common.{◌≡◌, [], take, drop}
use Rattle.mos_edits.specs.KeyedLists.{first_missing}
use Rattle.element_action.specs.Levels.{level_ids}
use Rattle.element_action.proofs.search.find_missing_by_table.Given as goal

abbrev pub invariant-loop-k : goal.invariant-loop-k
invariant-loop-k l = record {
  seen : l.seen ≡ take l.k l.sources;
  rest : first_missing (level_ids l.level l.order.stories) [] l.sources ≡ first_missing (level_ids l.level l.order.stories) (take l.k l.sources) (drop l.k l.sources);
}
