use Rattle.object_table.proofs.After.{after-more}
use Rattle.object_table.proofs.laws.one_object_more_is_taken.Goals as goal

pub returns : goal.returns
returns c = λ os o. after-more os o
