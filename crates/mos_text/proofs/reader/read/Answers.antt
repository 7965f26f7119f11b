use Rattle.std.proofs.Common.{refl, arith}
use Rattle.mos_text.proofs.ReadingLemmas.{place_within, loop_step, loop_end}
use Rattle.mos_text.proofs.reader.read.Goals as goal

pub take_byte-requires-clause-place : goal.take_byte-requires-clause-place
take_byte-requires-clause-place c = place_within c.args.reading c.args.piece.now c.loop-byte.byte-index c.loop-byte.state _ c.args.out.now.items c.loop-byte.out.items (omega arith) refl c.requires.place c.loop-byte.invariant

pub loop-byte-preserved : goal.loop-byte-preserved
loop-byte-preserved c = loop_step c.args.reading c.args.piece.now c.loop-byte.byte-index c.loop-byte.state c.take_byte.new.state _ c.args.out.now.items c.loop-byte.out.items c.take_byte.new.out.items (omega arith) refl c.take_byte.ensures.after c.in_ok-take_byte.ensures.chars c.loop-byte.invariant

pub returns-clause-after : goal.returns-clause-after
returns-clause-after c = (loop_end c.args.reading c.args.piece.now c.loop-byte.byte-index c.loop-byte.state c.args.out.now.items c.loop-byte.out.items (omega arith) c.loop-byte.invariant).0

pub returns-clause-chars : goal.returns-clause-chars
returns-clause-chars c = (loop_end c.args.reading c.args.piece.now c.loop-byte.byte-index c.loop-byte.state c.args.out.now.items c.loop-byte.out.items (omega arith) c.loop-byte.invariant).1
