use Rattle.std.proofs.Common.{◌++◌, inr}
use Rattle.journal_bytes.proofs.JournalLemmas.{is_refused, read_on}
use Rattle.journal_bytes.proofs.reading.feed_entries.Goals as goal

pub returns-in-Ok-clause-read : goal.returns-in-Ok-clause-read
returns-in-Ok-clause-read c = λ bytes w.
    c.take_entries.ensures.read (bytes ++ c.args.piece.now) (read_on bytes (bytes ++ c.args.piece.now) c.args.decoder.now c.feed.new.self c.args.entries.now.items w (c.in-Ok.ensures.tells bytes))

pub returns-in-Ok-clause-damaged : goal.returns-in-Ok-clause-damaged
returns-in-Ok-clause-damaged c = λ bytes w q.
    inr (c.take_entries.ensures.damaged (bytes ++ c.args.piece.now) (read_on bytes (bytes ++ c.args.piece.now) c.args.decoder.now c.feed.new.self c.args.entries.now.items w (c.in-Ok.ensures.tells bytes)) q)

pub returns-in-Err-clause-damaged : goal.returns-in-Err-clause-damaged
returns-in-Err-clause-damaged c = λ bytes w q.
    is_refused bytes (bytes ++ c.args.piece.now) c.args.decoder.now c.feed.new.self c.args.entries.now.items c.in-Err.fault c.journal_fault.result w (c.in-Err.ensures.tells bytes) c.journal_fault.ensures cc
