use Rattle.mos_cursor.proofs.WholeRecords.{whole_record_law}
use Rattle.mos_cursor.proofs.laws.whole_record.Goals as goal

pub returns : goal.returns
returns c = whole_record_law
