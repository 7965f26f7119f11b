use Rattle.replay_commands.proofs.InWords.{rejected_in_words, stream_in_words}
use Rattle.replay_commands.proofs.run.mos_run.Goals as goal

pub returns-clause-whole : goal.returns-clause-whole
returns-clause-whole g c = λ done command asks input left w. stream_in_words command _ _ input (c.run_words.ensures.whole done command asks input left w)

pub returns-clause-rejected : goal.returns-clause-rejected
returns-clause-rejected g c = λ refused command asks input left w. rejected_in_words command _ _ input (c.run_words.ensures.rejected refused command asks input left w)
