use Rattle.mos_cursor.proofs.WholeRecords.{written_tags_law}
use Rattle.mos_cursor.proofs.laws.written_tags.Goals as goal

pub returns : goal.returns
returns c = written_tags_law
