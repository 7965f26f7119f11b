use Rattle.std.proofs.Common.{◌++◌, take, [], arith, subst, sym}
use Rattle.std.proofs.lemmas.List.{length-take-le}
use Rattle.stream_commands.proofs.RunLemmas.{begun_nothing, falls_bounded, reads_all, reads_more, reads_none, room_left, rose_after, spent_more}
use Rattle.stream_commands.specs.Running.{Reads}
use Rattle.object_reading.proofs.TakingLemmas.{ends_fault, ends_read, stops_by}
use Rattle.object_reading.proofs.reading.take_all.Goals as goal

pub piece-init : goal.piece-init
piece-init g c = record {
  full = c.requires.full;
  bounded = c.requires.bounded;
  rises = omega arith;
  bytes = [];
  reads = reads_none (g.S.Source.left c.args.source.now);
  here = record { found = []; handed = c.requires.nothing; took = record { objects = []; are = tt; fit = tt; after = c.requires.empty } };
  begun = begun_nothing;
  spent = omega arith;
}

pub returns-in-Err-clause-fault : goal.returns-in-Err-clause-fault
returns-in-Err-clause-fault g c =
    let i = c.piece.invariant in (
      rose_after _ _ _ i.rises c.in-Err.ensures.failed,
      (i.bytes, subst (λ o. Reads (g.S.Source.left c.args.source.now) o i.bytes) (sym c.in-Err.ensures.kept.0) i.reads, record { found = i.here.found; table = c.piece.table; took = i.here.took; begun = i.begun }),
    )

pub returns-in-Ok-eq0-clause-read : goal.returns-in-Ok-eq0-clause-read
returns-in-Ok-eq0-clause-read g c =
    let i = c.piece.invariant in
    let z = c.in-Ok-eq0.field-0-test in
    let x = c.in-Ok-eq0.ensures in
    ends_read _ _ i.bytes c.take_whole.new.decoder c.take_whole.new.table c.take_whole.result (reads_all _ _ _ i.bytes c.read.new.buf c.in-Ok-eq0.field-0 z i.reads (x.ended z) x.taken) (c.take_whole.ensures i.bytes i.here)

pub returns-in-Ok-eq0-clause-fault : goal.returns-in-Ok-eq0-clause-fault
returns-in-Ok-eq0-clause-fault g c =
    let i = c.piece.invariant in
    let z = c.in-Ok-eq0.field-0-test in
    let x = c.in-Ok-eq0.ensures in
    ends_fault _ _ i.bytes c.take_whole.new.decoder c.take_whole.new.table _ _ c.take_whole.result (reads_all _ _ _ i.bytes c.read.new.buf c.in-Ok-eq0.field-0 z i.reads (x.ended z) x.taken) (c.take_whole.ensures i.bytes i.here)

pub take_piece-requires : goal.take_piece-requires
take_piece-requires g c =
    let i = c.piece.invariant in
    let x = c.in-Ok.ensures in
    let w = x.within in
    let n = c.read.auto.buf in
    let l = length-take-le c.in-Ok.count c.read.new.buf (omega (arith, w, n)) in
    let r = room_left c.piece.decoder i.bytes i.here.found _ _ _ c.in-Ok.count i.here.handed c.requires.bounded i.bounded i.spent x.bounded in
    record { room = omega (arith, l, r) }

pub piece-preserved : goal.piece-preserved
piece-preserved g c =
    let i = c.piece.invariant in
    let x = c.in-Ok.ensures in
    let s = i.rises in
    let t = x.rises in
    let f = i.full in
    let n = c.read.auto.buf in
    let w = x.within in
    let a = c.in-Ok-take_piece.ensures.taken i.bytes i.here in
    record {
      full = omega (arith, f, n);
      bounded = (falls_bounded _ _ c.in-Ok.count i.bounded x.bounded).0;
      rises = omega (arith, s, t);
      bytes = i.bytes ++ take c.in-Ok.count c.read.new.buf;
      reads = reads_more _ _ _ i.bytes (take c.in-Ok.count c.read.new.buf) i.reads x.taken;
      here = a.here;
      begun = a.all;
      spent = spent_more (g.S.Source.bound c.args.source.now) (g.S.Source.bound c.piece.source) (g.S.Source.bound c.read.new.self) c.in-Ok.count i.bytes (take c.in-Ok.count c.read.new.buf) i.bounded i.spent x.bounded (length-take-le c.in-Ok.count c.read.new.buf (omega (arith, w, n)));
    }

pub returns-in-Err-take_piece-clause-fault : goal.returns-in-Err-take_piece-clause-fault
returns-in-Err-take_piece-clause-fault g c =
    let i = c.piece.invariant in
    stops_by _ _ (i.bytes ++ take c.in-Ok.count c.read.new.buf) c.take_piece.new.decoder c.take_piece.new.table _ _ c.in-Err-take_piece.fault (reads_more _ _ _ i.bytes (take c.in-Ok.count c.read.new.buf) i.reads c.in-Ok.ensures.taken)
    (c.in-Err-take_piece.ensures.taken i.bytes i.here)
