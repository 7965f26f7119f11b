use Rattle.std.proofs.Common.{◌≡◌, ◌++◌, take}
use Rattle.mos_values.specs.Parts.{raws}
use Rattle.mos_writer.specs.Encoded.{encoded}
use Rattle.mos_writer.proofs.fields.write_raws.Given as goal

abbrev pub invariant-loop-raw : goal.invariant-loop-raw
invariant-loop-raw l = l.out.items ≡ l.initial.out.items ++ encoded (raws l.fn.field (take l.raw-index l.list))
