use Rattle.std.proofs.Common.{◌++◌, take, arith}
use Rattle.script_reader.proofs.SourceLemmas.{falls_bounded, piece_fault, reads_more}
use Rattle.script_reader.proofs.read.read_all.Goals as goal

pub piece-preserved : goal.piece-preserved
piece-preserved g c =
    let i = c.piece.invariant in
    let x = c.in-Ok.ensures in
    let s = i.rises in
    let t = x.rises in
    let f = i.full in
    let n = c.read.auto.buf in
    let more = take c.in-Ok.count c.read.new.buf in
    record {
      full = omega (arith, f, n);
      bounded = (falls_bounded _ _ c.in-Ok.count i.bounded x.bounded).0;
      rises = omega (arith, s, t);
      bytes = i.bytes ++ more;
      reads = reads_more _ _ _ i.bytes more i.reads x.taken;
      read = c.in-Ok-feed.ensures i.bytes i.read;
    }

pub returns-in-Err-feed-clause-fault : goal.returns-in-Err-feed-clause-fault
returns-in-Err-feed-clause-fault g c =
    let i = c.piece.invariant in
    let more = take c.in-Ok.count c.read.new.buf in
    piece_fault _ _ _ _ (i.bytes ++ more) c.feed.new.self c.in-Err-feed.fault (reads_more _ _ _ i.bytes more i.reads c.in-Ok.ensures.taken) (c.in-Err-feed.ensures i.bytes i.read)
