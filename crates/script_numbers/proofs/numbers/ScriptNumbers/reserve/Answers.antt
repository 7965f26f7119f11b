use Rattle.std.proofs.Common.{subst}
use Rattle.script_numbers.specs.Numbers.{IsSame}
use Rattle.script_numbers.proofs.JournalNumbers.{numbers-same}
use Rattle.script_numbers.proofs.numbers.ScriptNumbers.reserve.Goals as goal

pub returns-clause-numbers : goal.returns-clause-numbers
returns-clause-numbers c = numbers-same c.args.self.now c.reserve_in.new.table (subst (λ rows. IsSame rows c.reserve_in.new.table) c.self.view_is c.reserve_in.ensures.same)
