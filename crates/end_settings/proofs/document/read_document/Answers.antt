use Rattle.std.proofs.Common.{refl}
use Rattle.std.proofs.lemmas.Bool.{false≢true}
use Rattle.end_settings.proofs.TableLemmas.{table_is, table_refused}
use Rattle.end_settings.proofs.document.read_document.Goals as goal

pub returns-in-Ok-clause-table : goal.returns-in-Ok-clause-table
returns-in-Ok-clause-table c = table_is _ _ c.in-Ok.ensures.ok.0 c.in-Ok.ensures.ok.1

pub returns-else-is_memory-clause-fault : goal.returns-else-is_memory-clause-fault
returns-else-is_memory-clause-fault c = λ n. (refl, table_refused _ (λ u. c.in-Err.ensures.refused (λ m. false≢true (c.if-is_memory.ensures.1 m)) u))
