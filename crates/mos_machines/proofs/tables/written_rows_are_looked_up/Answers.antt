use Rattle.mos_machines.specs.Server.View.{Out}
use Rattle.mos_machines.proofs.RowTables.{look-put, ids-put, gate-put, peer-put}
use Rattle.mos_machines.proofs.tables.written_rows_are_looked_up.Goals as goal

pub returns : goal.returns
returns c = record { views = look-put Out; ids = ids-put; gate = gate-put; peer = peer-put }
