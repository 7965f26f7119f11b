use Rattle.std.proofs.Common.{None, sym}
use Rattle.script_numbers.proofs.RowLemmas.{look-some, look-none}
use Rattle.script_numbers.proofs.stories.number_on.Goals as goal

pub returns-in-Some : goal.returns-in-Some
returns-in-Some c = sym (look-some None c.args.story.now c.args.stories.now c.in-Some.number.now (sym c.in-Some.ensures))

pub returns-in-None : goal.returns-in-None
returns-in-None c = sym (look-none None c.args.story.now c.args.stories.now (sym c.in-None.ensures))
