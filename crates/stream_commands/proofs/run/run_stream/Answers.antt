use Rattle.stream_commands.proofs.WordLemmas.{done_of, refused_of}
use Rattle.stream_commands.proofs.run.run_stream.Goals as goal

pub returns-clause-whole : goal.returns-clause-whole
returns-clause-whole g c = λ done input left w. done_of c.inputs_are_exact.ensures c.refusals_are_shown.ensures c.rejections_stay.ensures _ _ _ _ _ _ (c.run_pieces.ensures.done done) input left w

pub returns-clause-rejected : goal.returns-clause-rejected
returns-clause-rejected g c = λ refused input left w. refused_of c.inputs_are_exact.ensures c.refusals_are_shown.ensures c.rejections_stay.ensures _ _ _ _ _ _ (c.run_pieces.ensures.refused refused) input left w
