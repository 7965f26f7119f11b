-- Whether a device is in step for the order whose entry a packet is, and what is applied then.
use Rattle.std.specs.Prelude.{ℕ, ◌+◌, Bool, true, false}
use Rattle.mos_edits.specs.Texts.{Text, set_order}
use Rattle.mos_machines.specs.Device.{GateState, is_in}
use Rattle.world_parts.specs.declared.packet.PacketTag.{PacketTag}
use Rattle.world_parts.specs.declared.packet.PacketTag.TheVariants.{Entry}

abbrev pub in_step_for : GateState → PacketTag → Bool
in_step_for g (Entry ro k) = is_in (g.phase ro)
in_step_for g tag = false

-- what is applied once the packet was applied or wasn't
abbrev pub applied_where : (Text → ℕ) → PacketTag → Bool → Text → ℕ
applied_where applied (Entry ro k) true = set_order applied ro (k + 1)
applied_where applied tag b = applied
