use Rattle.std.proofs.Common.{None, refl, sym}
use Rattle.script_numbers.proofs.RowLemmas.{same-after, there-after}
use Rattle.script_numbers.proofs.stories.know_story.Goals as goal

pub returns-in-None-clause-there : goal.returns-in-None-clause-there
returns-in-None-clause-there c = there-after c.put.result c.args.story.now None c.args.stories.now c.put.new.self c.put.ensures.ok

pub returns-in-None-clause-same : goal.returns-in-None-clause-same
returns-in-None-clause-same c = same-after c.put.result None c.args.story.now None c.args.stories.now c.put.new.self refl c.put.ensures.ok c.put.ensures.err (sym c.in-None.ensures)
