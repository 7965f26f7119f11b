use Rattle.script_reader.proofs.SourceLemmas.{end_faults, end_reads}
use Rattle.script_reader.proofs.read.read_script.Goals as goal

pub returns-clause-read : goal.returns-clause-read
returns-clause-read g c = end_reads _ _ c.read_all.new.reader c.in-Ok-read_all.ensures.read c.end.result c.end.ensures.read

pub returns-clause-fault : goal.returns-clause-fault
returns-clause-fault g c = end_faults _ _ c.read_all.new.reader c.in-Ok-read_all.ensures.read _ _ c.end.result c.end.ensures.read
