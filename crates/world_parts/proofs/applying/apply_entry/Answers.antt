use Rattle.std.proofs.Common.{◌≡◌, ◌+◌, ap, ◌∙◌, arith}
use Rattle.mos_edits.specs.Texts.{set_order}
use Rattle.mos_machines.specs.Tables.{look}
use Rattle.mos_machines.proofs.RowTables.{look-put}
use Rattle.world_parts.proofs.Queues.{on-ok}
use Rattle.world_parts.proofs.applying.apply_entry.Goals as goal

pub returns-in-Some : goal.returns-in-Some
returns-in-Some c =
    let n : c.in-Some.count ≡ c.args.k + 1 = omega (arith, c.in-Some.ensures) in
    on-ok c.put.result c.put.ensures.ok
    (λ e. ap (look 0) e ∙ (look-put 0 c.args.applied.now c.args.ro.now c.in-Some.count ∙ ap (set_order (look 0 c.args.applied.now) c.args.ro.now) n))
