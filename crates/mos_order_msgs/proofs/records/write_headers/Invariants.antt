use Rattle.std.proofs.Common.{◌≡◌, ◌++◌, take}
use Rattle.mos_values.specs.Views.{headers_events}
use Rattle.mos_writer.specs.Encoded.{encoded}
use Rattle.mos_order_msgs.proofs.records.write_headers.Given as goal

abbrev pub invariant-loop-header : goal.invariant-loop-header
invariant-loop-header l = l.out.items ≡ l.initial.out.items ++ encoded (headers_events (take l.header-index l.headers))
