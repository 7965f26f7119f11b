-- What the reader of a stream answers, and what it holds then.
use Rattle.std.proofs.Common.{◌≡◌, ℕ, ◌+◌, ◌-◌, List, length, sym, ap}
use Rattle.std.specs.Prelude.{Some, None, Ok, Err}
use Rattle.mos_tables.specs.Events.{Event}
use Rattle.mos_lexer.specs.declared.kind.Kind.{Kind}
use Rattle.mos_lexer.specs.Units.{UnitRun, still_reads, completed, rejected_at}
use Rattle.mos_lexer.specs.Units.{Reader as ReaderOf}
use Rattle.mos_reader.specs.declared.found.ReadFault.TheVariants.{Rejected}
use Rattle.mos_reader.specs.Answers.{Stream, answer_of, stream_behind}

pub reads_still : (s : Stream) (run : UnitRun) → ((t : ReaderOf) × (run ≡ still_reads t)) → (answer_of s.base run ≡ Ok None) × (s ≡ stream_behind s run)
reads_still s run p = (ap (answer_of s.base) p.1, sym (ap (stream_behind s) p.1))

pub reads_whole : (s : Stream) (run : UnitRun) (began : ℕ) (v : List Event) (rest : List ℕ) → run ≡ completed began v rest
    → (answer_of s.base run ≡ Ok (Some (record { began = s.base + began; value = v }))) × (stream_behind s run ≡ record { base = s.base + (length s.held - length rest); held = rest; fault = None })
reads_whole s run began v rest e = (ap (answer_of s.base) e, ap (stream_behind s) e)

pub reads_rejected : (s : Stream) (run : UnitRun) (place : ℕ) (k : Kind) → run ≡ rejected_at place k
    → (answer_of s.base run ≡ Err (Rejected (s.base + place) k)) × (stream_behind s run ≡ record { base = s.base; held = s.held; fault = Some (Rejected (s.base + place) k) })
reads_rejected s run place k e = (ap (answer_of s.base) e, ap (stream_behind s) e)
