use Rattle.std.proofs.Common.{ap, ◌∙◌}
use Rattle.mos_machines.specs.Tables.{look}
use Rattle.world_parts.specs.Applying.{applied_where}
use Rattle.world_parts.proofs.Queues.{on-ok}
use Rattle.world_parts.proofs.ReadSteps.{packet-where}
use Rattle.world_parts.proofs.applying.apply_read.Goals as goal

pub returns : goal.returns
returns c =
    on-ok c.apply_where.result c.apply_where.ensures
    (λ e g q a s k w x.
    e
    ∙ (ap (applied_where (look 0 c.args.applied.now) c.args.packet.now.tag) c.applies-is_applied.ensures
    ∙ packet-where g (look 0 c.args.applied.now) c.args.in_step c.args.packet.now c.args.answer.now q a s k w x))
