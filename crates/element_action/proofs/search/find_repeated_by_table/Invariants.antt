use Rattle.std.proofs.Common.{◌≡◌, [], take, drop}
use Rattle.std.specs.Option.{option_copied}
use Rattle.mos_edits.specs.KeyedLists.{first_repeated}
use Rattle.element_action.specs.Levels.{level_ids, beside}
use Rattle.element_action.proofs.search.find_repeated_by_table.Given as goal

abbrev pub invariant-loop-k : goal.invariant-loop-k
invariant-loop-k l = record {
  seen : l.seen ≡ take l.k l.sources;
  rest : first_repeated (beside (option_copied l.out) (level_ids l.level l.order.stories)) [] l.sources ≡ first_repeated (beside (option_copied l.out) (level_ids l.level l.order.stories)) (take l.k l.sources) (drop l.k l.sources);
}
