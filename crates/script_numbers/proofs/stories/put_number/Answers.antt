use Rattle.std.proofs.Common.{ap, ◌∙◌, Some, None}
use Rattle.mos_edits.specs.Rows.{look}
use Rattle.mos_machines.proofs.RowTables.{look-put}
use Rattle.script_numbers.proofs.stories.put_number.Goals as goal

pub returns : goal.returns
returns c = λ q. ap (λ l. l q) (ap (look None) c.exchange.ensures.table ∙ look-put None c.args.stories.now c.args.story.now (Some c.args.number))
