-- What the reader of a stream answers.
use Rattle.std.specs.Prelude.{◌≡◌, ◌+◌, ◌-◌, ◌++◌, ℕ, Bool, cond, List, [], length, Option, Some, None, Result, Ok, Err}
use Rattle.mos_lexer.specs.Units.{start_reader, UnitRun, still_reads, completed, rejected_at, unit_run, is_resting}
use Rattle.mos_lexer.specs.declared.kind.Kind.TheVariants as kinds
use Rattle.mos_reader.specs.declared.found.Found.{Found}
use Rattle.mos_reader.specs.declared.found.ReadFault.{ReadFault}
use Rattle.mos_reader.specs.declared.found.ReadFault.TheVariants.{Rejected, NoMemory}

-- A stream: how many code units the messages have that were handed out, the units fed behind them, and why it is read
-- no further.
pub record Stream : Type 0 where
  pub base : ℕ
  pub held : List ℕ
  pub fault : Option ReadFault

abbrev pub start_stream : Stream
start_stream = record { base = 0; held = []; fault = None }

-- how many code units were fed
abbrev pub fed : Stream → ℕ
fed s = s.base + length s.held

-- what is answered where the units behind the messages before come to this
abbrev pub answer_of : ℕ → UnitRun → Result (Option Found) ReadFault
answer_of base (still_reads t) = Ok None
answer_of base (completed began v rest) = Ok (Some (record { began = base + began; value = v }))
answer_of base (rejected_at place k) = Err (Rejected (base + place) k)

-- the stream behind that answer
abbrev pub stream_behind : Stream → UnitRun → Stream
stream_behind s (still_reads t) = s
stream_behind s (completed began v rest) = record { base = s.base + (length s.held - length rest); held = rest; fault = None }
stream_behind s (rejected_at place k) = record { base = s.base; held = s.held; fault = Some (Rejected (s.base + place) k) }

abbrev pub failed_with : ReadFault → Stream → Stream
failed_with k s = record { base = s.base; held = s.held; fault = Some k }

-- Where the input ends behind so many units of a message that is not complete, the stream is rejected there; white space
-- and U+FEFF may stand behind the last message.
abbrev pub ended_run : ℕ → UnitRun → UnitRun
ended_run count (still_reads t) = cond (is_resting t) (still_reads t) (rejected_at count kinds.End)
ended_run count (completed began v rest) = completed began v rest
ended_run count (rejected_at place k) = rejected_at place k

-- what the units held come to, where the input ends behind them or not
abbrev pub run_of : Bool → Stream → UnitRun
run_of at_end s = cond at_end (ended_run (length s.held) (unit_run start_reader s.held)) (unit_run start_reader s.held)

-- The next answer of a stream whose units come to this: there is no memory, or it is what that says.
abbrev pub ComesTo : UnitRun → Stream → Result (Option Found) ReadFault → Stream → Type 0
ComesTo run s (Err NoMemory) t = t ≡ failed_with NoMemory s
ComesTo run s (Err (Rejected place k)) t = (answer_of s.base run ≡ Err (Rejected place k)) × (t ≡ stream_behind s run)
ComesTo run s (Ok o) t = (answer_of s.base run ≡ Ok o) × (t ≡ stream_behind s run)

-- A stream that is read no further is answered with the fault that it has.
abbrev pub Answers : Bool → Option ReadFault → Stream → Result (Option Found) ReadFault → Stream → Type 0
Answers at_end (Some k) s r t = (r ≡ Err k) × (t ≡ s)
Answers at_end None s r t = ComesTo (run_of at_end s) s r t

-- units that are fed stand behind those that are held, where the stream is still read
abbrev pub fed_on : Option ReadFault → Stream → List ℕ → Stream
fed_on None s us = record { base = s.base; held = s.held ++ us; fault = None }
fed_on (Some k) s us = s
