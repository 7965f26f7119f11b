use Rattle.std.proofs.Common.{Some, None, sym, ◌∙◌}
use Rattle.mos_soundness.proofs.Taken.{taken_is}
use Rattle.mos_soundness.proofs.messages.is_taken.Goals as goal

pub returns-in-Some : goal.returns-in-Some
returns-in-Some c = sym (taken_is c.args.name.now (Some _) c.in-Some.ensures)

pub returns-in-None : goal.returns-in-None
returns-in-None c = c.is_envelope_name.ensures ∙ sym (taken_is c.args.name.now None c.in-None.ensures)
