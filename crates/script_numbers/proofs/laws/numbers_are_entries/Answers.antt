use Rattle.script_numbers.proofs.JournalNumbers.{force-are-below}
use Rattle.script_numbers.proofs.laws.numbers_are_entries.Goals as goal

pub returns : goal.returns
returns c = force-are-below
