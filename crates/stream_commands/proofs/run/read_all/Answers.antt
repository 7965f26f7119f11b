use Rattle.std.proofs.Common.{◌≡◌, ◌+◌, ◌++◌, ◌≤◌, length, take, [], Err, ap, arith, refl, subst, sym}
use Rattle.std.proofs.lemmas.List.{length-take-le}
use Rattle.mos_io.specs.Bytes.{Falls, IsAtEnd, Takes}
use Rattle.stream_commands.proofs.RunLemmas.{ended_done, ended_refused, ended_usage, ended_read_fault, ended_write_fault, heard_done, heard_refused, heard_usage, heard_read_fault, heard_write_fault, reads_all, reads_whole, reads_more, cut_off, falls_bounded, room_left, spent_more, reads_none, appends_nothing, begun_nothing}
use Rattle.stream_commands.proofs.run.read_all.Goals as goal

pub piece-init : goal.piece-init
piece-init g c = record {
  full = c.requires.full;
  bounded = c.requires.bounded;
  source_rises = omega arith;
  sink_rises = omega arith;
  bytes = [];
  reads = reads_none (g.S.Source.left c.args.source.now);
  heard = record { found = []; text = []; handed = c.requires.nothing; tells = c.requires.told; writes = appends_nothing (g.K.Sink.written c.args.sink.now) (g.K.Sink.written c.args.sink.now) refl };
  whole = begun_nothing;
  spent = omega arith;
}

pub returns-in-Ok-eq0-clause-done : goal.returns-in-Ok-eq0-clause-done
returns-in-Ok-eq0-clause-done g c = λ e.
    let i = c.piece.invariant in
    let z = c.in-Ok-eq0.field-0-test in
    let x = c.in-Ok-eq0.ensures in
    ended_done (g.T.Teller.told c.end.new.teller) (g.T.Teller.last c.end.new.teller) (g.T.Teller.refusal c.end.new.teller) i.bytes _ _ _ _ c.end.result (c.end.ensures.ended i.bytes _ i.heard) _ _ (reads_all _ _ _ i.bytes c.read.new.buf c.in-Ok-eq0.field-0 z i.reads (x.ended z) x.taken) e

pub returns-in-Ok-eq0-clause-refused : goal.returns-in-Ok-eq0-clause-refused
returns-in-Ok-eq0-clause-refused g c = λ e.
    let i = c.piece.invariant in
    let z = c.in-Ok-eq0.field-0-test in
    let x = c.in-Ok-eq0.ensures in
    ended_refused (g.T.Teller.told c.end.new.teller) (g.T.Teller.last c.end.new.teller) (g.T.Teller.refusal c.end.new.teller) i.bytes _ _ _ _ c.end.result (c.end.ensures.ended i.bytes _ i.heard) _ _ (reads_all _ _ _ i.bytes c.read.new.buf c.in-Ok-eq0.field-0 z i.reads (x.ended z) x.taken) e

pub returns-in-Ok-eq0-clause-usage : goal.returns-in-Ok-eq0-clause-usage
returns-in-Ok-eq0-clause-usage g c = λ e. let i = c.piece.invariant in ended_usage (g.T.Teller.told c.end.new.teller) (g.T.Teller.last c.end.new.teller) (g.T.Teller.refusal c.end.new.teller) i.bytes _ _ _ _ c.end.result (c.end.ensures.ended i.bytes _ i.heard) e

pub returns-in-Ok-eq0-clause-read_fault : goal.returns-in-Ok-eq0-clause-read_fault
returns-in-Ok-eq0-clause-read_fault g c = λ e. let i = c.piece.invariant in absurd (ended_read_fault (g.T.Teller.told c.end.new.teller) (g.T.Teller.last c.end.new.teller) (g.T.Teller.refusal c.end.new.teller) i.bytes _ _ _ _ c.end.result (c.end.ensures.ended i.bytes _ i.heard) e)

pub returns-in-Ok-eq0-clause-write_fault : goal.returns-in-Ok-eq0-clause-write_fault
returns-in-Ok-eq0-clause-write_fault g c = λ e. let i = c.piece.invariant in ended_write_fault (g.T.Teller.told c.end.new.teller) (g.T.Teller.last c.end.new.teller) (g.T.Teller.refusal c.end.new.teller) i.bytes _ _ _ _ c.end.result (c.end.ensures.ended i.bytes _ i.heard) _ i.sink_rises e

pub hear_piece-requires : goal.hear_piece-requires
hear_piece-requires g c =
    let i = c.piece.invariant in
    let x = c.in-Ok.ensures in
    let w = x.within in
    let n = c.read.auto.buf in
    let l = length-take-le c.in-Ok.count c.read.new.buf (omega (arith, w, n)) in
    let r = room_left c.piece.decoder i.bytes i.heard.found _ _ _ c.in-Ok.count i.heard.handed c.requires.bounded i.bounded i.spent x.bounded in
    record { room = omega (arith, l, r) }

pub piece-preserved : goal.piece-preserved
piece-preserved g c =
    let i = c.piece.invariant in
    let x = c.in-Ok.ensures in
    let s = i.source_rises in
    let t = x.rises in
    let u = i.sink_rises in
    let v = c.hear_piece.ensures.rises in
    let f = i.full in
    let n = c.read.auto.buf in
    let w = x.within in
    record {
      full = omega (arith, f, n);
      bounded = (falls_bounded _ _ c.in-Ok.count i.bounded x.bounded).0;
      source_rises = omega (arith, s, t);
      sink_rises = omega (arith, u, v);
      bytes = i.bytes ++ take c.in-Ok.count c.read.new.buf;
      reads = reads_more _ _ _ i.bytes (take c.in-Ok.count c.read.new.buf) i.reads x.taken;
      heard = (c.in-Ok-hear_piece.ensures.heard i.bytes _ i.heard).heard;
      whole = (c.in-Ok-hear_piece.ensures.heard i.bytes _ i.heard).whole;
      spent = spent_more (g.S.Source.bound c.args.source.now) (g.S.Source.bound c.piece.source) (g.S.Source.bound c.read.new.self) c.in-Ok.count i.bytes (take c.in-Ok.count c.read.new.buf) i.bounded i.spent x.bounded (length-take-le c.in-Ok.count c.read.new.buf (omega (arith, w, n)));
    }

pub returns-in-Err-hear_piece-clause-done : goal.returns-in-Err-hear_piece-clause-done
returns-in-Err-hear_piece-clause-done g c = λ e. let i = c.piece.invariant in absurd (heard_done (g.T.Teller.told c.hear_piece.new.teller) (g.T.Teller.refusal c.hear_piece.new.teller) (i.bytes ++ take c.in-Ok.count c.read.new.buf) _ _ _ _ _ c.in-Err-hear_piece.status (c.in-Err-hear_piece.ensures.heard i.bytes _ i.heard) e)

pub returns-in-Err-hear_piece-clause-refused : goal.returns-in-Err-hear_piece-clause-refused
returns-in-Err-hear_piece-clause-refused g c = λ e.
    let i = c.piece.invariant in
    heard_refused (g.T.Teller.told c.hear_piece.new.teller) (g.T.Teller.refusal c.hear_piece.new.teller) (i.bytes ++ take c.in-Ok.count c.read.new.buf) _ _ _ _ _ c.in-Err-hear_piece.status (c.in-Err-hear_piece.ensures.heard i.bytes _ i.heard) _ _
    (reads_more _ _ _ i.bytes (take c.in-Ok.count c.read.new.buf) i.reads c.in-Ok.ensures.taken) e

pub returns-in-Err-hear_piece-clause-usage : goal.returns-in-Err-hear_piece-clause-usage
returns-in-Err-hear_piece-clause-usage g c = λ e. let i = c.piece.invariant in heard_usage (g.T.Teller.told c.hear_piece.new.teller) (g.T.Teller.refusal c.hear_piece.new.teller) (i.bytes ++ take c.in-Ok.count c.read.new.buf) _ _ _ _ _ c.in-Err-hear_piece.status (c.in-Err-hear_piece.ensures.heard i.bytes _ i.heard) e

pub returns-in-Err-hear_piece-clause-read_fault : goal.returns-in-Err-hear_piece-clause-read_fault
returns-in-Err-hear_piece-clause-read_fault g c = λ e. let i = c.piece.invariant in absurd (heard_read_fault (g.T.Teller.told c.hear_piece.new.teller) (g.T.Teller.refusal c.hear_piece.new.teller) (i.bytes ++ take c.in-Ok.count c.read.new.buf) _ _ _ _ _ c.in-Err-hear_piece.status (c.in-Err-hear_piece.ensures.heard i.bytes _ i.heard) e)

pub returns-in-Err-hear_piece-clause-write_fault : goal.returns-in-Err-hear_piece-clause-write_fault
returns-in-Err-hear_piece-clause-write_fault g c = λ e. let i = c.piece.invariant in heard_write_fault (g.T.Teller.told c.hear_piece.new.teller) (g.T.Teller.refusal c.hear_piece.new.teller) (i.bytes ++ take c.in-Ok.count c.read.new.buf) _ _ _ _ _ c.in-Err-hear_piece.status (c.in-Err-hear_piece.ensures.heard i.bytes _ i.heard) _ i.sink_rises e

pub returns-in-Ok-eq0-clause-broken_off : goal.returns-in-Ok-eq0-clause-broken_off
returns-in-Ok-eq0-clause-broken_off g c = λ e.
    let i = c.piece.invariant in
    let z = c.in-Ok-eq0.field-0-test in
    let x = c.in-Ok-eq0.ensures in
    record { bytes = i.bytes; reads = reads_whole _ _ i.bytes (reads_all _ _ _ i.bytes c.read.new.buf c.in-Ok-eq0.field-0 z i.reads (x.ended z) x.taken); written = c.end.ensures.part i.bytes _ i.heard e }

pub returns-in-Ok-eq0-clause-cut_off : goal.returns-in-Ok-eq0-clause-cut_off
returns-in-Ok-eq0-clause-cut_off g c = λ e. let i = c.piece.invariant in absurd (ended_read_fault (g.T.Teller.told c.end.new.teller) (g.T.Teller.last c.end.new.teller) (g.T.Teller.refusal c.end.new.teller) i.bytes _ _ _ _ c.end.result (c.end.ensures.ended i.bytes _ i.heard) e)

pub returns-in-Err-hear_piece-clause-broken_off : goal.returns-in-Err-hear_piece-clause-broken_off
returns-in-Err-hear_piece-clause-broken_off g c = λ e.
    let i = c.piece.invariant in
    record { bytes = i.bytes ++ take c.in-Ok.count c.read.new.buf; reads = reads_more _ _ _ i.bytes (take c.in-Ok.count c.read.new.buf) i.reads c.in-Ok.ensures.taken; written = c.in-Err-hear_piece.ensures.part i.bytes _ i.heard (ap Err e) }

pub returns-in-Err-hear_piece-clause-cut_off : goal.returns-in-Err-hear_piece-clause-cut_off
returns-in-Err-hear_piece-clause-cut_off g c = λ e. let i = c.piece.invariant in absurd (heard_read_fault (g.T.Teller.told c.hear_piece.new.teller) (g.T.Teller.refusal c.hear_piece.new.teller) (i.bytes ++ take c.in-Ok.count c.read.new.buf) _ _ _ _ _ c.in-Err-hear_piece.status (c.in-Err-hear_piece.ensures.heard i.bytes _ i.heard) e)

pub returns-in-Err-clause-cut_off : goal.returns-in-Err-clause-cut_off
returns-in-Err-clause-cut_off g c = λ e. let i = c.piece.invariant in cut_off (g.T.Teller.told c.piece.teller) i.bytes c.piece.decoder _ _ _ _ _ i.reads c.in-Err.ensures.kept.0 i.heard i.whole
