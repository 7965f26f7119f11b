use Rattle.std.proofs.Common.{[]}
use Rattle.journal_check.proofs.checking.entries_in.Goals as goal

pub returns-else-holds_end : goal.returns-else-holds_end
returns-else-holds_end c = (c.feed.new.self, c.in-Ok.ensures.read [] c.new-reader.ensures.nothing, c.into_entries.ensures)
