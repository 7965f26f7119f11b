use Rattle.std.proofs.Common.{[], ◌∷◌}
use Rattle.script_reader.proofs.ReaderLemmas.{fault_behind}
use Rattle.script_reader.proofs.reader.ScriptReader.read_line.Goals as goal

pub returns-in-Err : goal.returns-in-Err
returns-in-Err c = λ before h. fault_behind before c.args.bytes.now (10 ∷ []) c.hold.new.self c.hold.new.self c.in-Err.fault (c.in-Err.ensures before h)
