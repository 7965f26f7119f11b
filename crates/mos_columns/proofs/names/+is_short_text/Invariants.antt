use Rattle.std.proofs.Common.{length}
use Rattle.mos_columns.proofs.names.+is_short_text.Given as goal

abbrev pub decreases-is_short_text : goal.decreases-is_short_text
decreases-is_short_text l = length l.name.now
