use Rattle.std.proofs.Common.{ap, ◌∙◌}
use Rattle.script_numbers.specs.Numbers.{number_in}
use Rattle.script_numbers.proofs.RowLemmas.{changed-without}
use Rattle.script_numbers.proofs.orders.clear.Goals as goal

pub returns : goal.returns
returns c = λ q story. ap (λ rows. number_in rows q story) c.remove.ensures ∙ changed-without c.args.ro.now c.args.orders.now q story
