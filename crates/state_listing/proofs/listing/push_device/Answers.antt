use Rattle.std.proofs.Common.{◌+◌, ◌∙◌, subst, sym}
use Rattle.mos_machines.specs.Tables.{look, gate_of}
use Rattle.ncs_core.specs.Listed.{is_viewed, IsListOf}
use Rattle.ncs_core.specs.State.{ncs_of}
use Rattle.state_listing.proofs.DeviceLines.{device-told}
use Rattle.state_listing.proofs.listing.push_device.Goals as goal

pub returns : goal.returns
returns g c =
    let n = c.args.ncs.now in
    let peer = (ncs_of n).peers c.args.d in
    let gate = gate_of c.args.gate.now in
    let viewed = c.deref.result.now in
    let known = c.deref-2.result.now in
    device-told c.push_held_lines.result n.server.journal (c.args.d + 1) peer gate (look 0 c.args.applied.now) viewed known
    c.args.out.now.items c.push_server_line.new.out.items c.push_view_lines.new.out.items c.push_device_line.new.out.items c.push_held_lines.new.out.items
    (subst (IsListOf (is_viewed n.server.journal peer)) (sym c.deref.ensures.value) c.in_ok-viewed.ensures)
    (c.deref-2.ensures.value ∙ c.in_ok-known.ensures)
    c.in_ok-push_server_line.ensures c.in_ok-push_view_lines.ensures c.in_ok-push_device_line.ensures c.push_held_lines.ensures
