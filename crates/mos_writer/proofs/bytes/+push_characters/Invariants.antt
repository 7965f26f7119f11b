use Rattle.std.proofs.Common.{length}
use Rattle.mos_writer.proofs.bytes.+push_characters.Given as goal

abbrev pub decreases-push_characters : goal.decreases-push_characters
decreases-push_characters l = length l.text.now
