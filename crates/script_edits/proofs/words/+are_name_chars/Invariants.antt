use Rattle.std.proofs.Common.{length}
use Rattle.script_edits.proofs.words.+are_name_chars.Given as goal

abbrev pub decreases-are_name_chars : goal.decreases-are_name_chars
decreases-are_name_chars l = length l.word.now
