use Rattle.mos_writer.proofs.EncodedLemmas.{four_as_they_are}
use Rattle.mos_writer.proofs.bytes.push_four_escaped.Goals as goal

pub returns-then-are_plain : goal.returns-then-are_plain
returns-then-are_plain c =
    four_as_they_are c.push_four.result c.args.out.now.items c.push_four.new.out.items c.args.a c.args.b c.args.c c.args.d (c.are_plain.ensures c.if-are_plain.true) c.push_four.ensures
