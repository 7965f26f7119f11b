use Rattle.std.proofs.Common.{length}
use Rattle.mos_elements.proofs.field_name.+same_name.Given as goal

abbrev pub decreases-same_name : goal.decreases-same_name
decreases-same_name l = length l.a.now
