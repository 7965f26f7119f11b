use Rattle.std.proofs.Common.{rules, arith, sym}
use Rattle.std.specs.Prelude.{None}
use Rattle.std.proofs.lemmas.Grind.{common_steps}
use Rattle.shared_machine.proofs.RuleSteps.{opens_as}
use Rattle.shared_machine.proofs.table.open_table.Goals as goal

pub new-requires : goal.new-requires
new-requires g c = opens_as _ _ _ c.of-about.result.value (λ x. g.met.M.Machine.refusal_reflexive x.0) c.push.new.self.items (record { machine = c.args.machine; last_call = None }) (first_of (search rules, grind (arith, common_steps))) (sym c.of-about.ensures)
