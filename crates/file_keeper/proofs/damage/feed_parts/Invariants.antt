use Rattle.std.proofs.Common.{◌≡◌, []}
use Rattle.file_keeper.proofs.damage.feed_parts.Given as goal

abbrev pub invariant-part : goal.invariant-part
invariant-part l = l.reader.decoder.ready ≡ []
