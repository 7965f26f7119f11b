use Rattle.std.proofs.Common.{subst}
use Rattle.mos_edits.specs.Orders.{edit_ro}
use Rattle.script_numbers.specs.Numbers.{number_next, IsChanged}
use Rattle.script_numbers.proofs.JournalNumbers.{numbers-accepted}
use Rattle.script_numbers.proofs.numbers.ScriptNumbers.accept.Goals as goal

pub returns-clause-numbers : goal.returns-clause-numbers
returns-clause-numbers c =
    let e = c.args.edit.now in
    numbers-accepted e c.args.number c.args.self.now c.accept_in.new.table
    (subst (λ rows. IsChanged (edit_ro e) (number_next e c.args.number) rows c.accept_in.new.table) c.self.view_is c.accept_in.ensures)
