use Rattle.world_parts.specs.Matching.{HasEncoding}
use Rattle.world_parts.proofs.ReadableLines.{front-has, read-carries}
use Rattle.world_parts.proofs.connections.take_to_server.Goals as goal

pub returns-in_ok-decode_packet-in-Some-clause-some : goal.returns-in_ok-decode_packet-in-Some-clause-some
returns-in_ok-decode_packet-in-Some-clause-some c = λ lines m a.
    let some = c.in-Some.ensures.some lines m in (
      some.0,
      some.1,
      read-carries c.args.d c.in-Some.packet c.in_ok-decode_packet-in-Some.field-0 some.0 some.2 (front-has HasEncoding (lines c.args.c).to_server some.0 (a c.args.c).1 some.1) c.in_ok-decode_packet-in-Some.ensures,
      some.3,
    )
