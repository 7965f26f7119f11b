use Rattle.std.proofs.Common.{sym, ap, ◌∙◌}
use Rattle.mos_machines.specs.Tables.{look}
use Rattle.mos_machines.proofs.RowTables.{look-put}
use Rattle.mos_machines.specs.Messages.Step.{Taken}
use Rattle.world_laws.specs.World.{applied_got}
use Rattle.world_parts.specs.declared.packet.PacketTag.{PacketTag}
use Rattle.world_parts.specs.Told.{tag_of}
use Rattle.world_parts.proofs.Queues.{on-ok}
use Rattle.world_parts.proofs.applying.apply_list.Goals as goal

pub returns-in-List : goal.returns-in-List
returns-in-List c =
    on-ok c.put.result c.put.ensures.ok
    (λ e. ap (look 0) e ∙ (look-put 0 c.args.applied.now c.in-List.ro c.in-List.m ∙ ap (λ (t : PacketTag). applied_got (look 0 c.args.applied.now) (tag_of t) Taken) (sym c.in-List.is)))
