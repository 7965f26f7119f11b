use Rattle.std.proofs.Common.{◌≡◌, ◌+◌, drop}
use Rattle.mos_fields.specs.Elements.{name_count}
use Rattle.mos_soundness.proofs.names.name_count.Given as goal

abbrev pub invariant-loop-place : goal.invariant-loop-place
invariant-loop-place l = l.place + name_count (drop l.place l.units) ≡ name_count l.units
