use Rattle.std.proofs.Common.{◌≡◌, drop}
use Rattle.mos_fields.specs.Values.{word_of}
use Rattle.script_edits.specs.Edits.{edit_word}
use Rattle.script_edits.proofs.edit_verb.find_in.Given as goal

abbrev pub invariant-loop-verb : goal.invariant-loop-verb
invariant-loop-verb l = word_of edit_word (drop l.verb-index l.verbs) l.word ≡ word_of edit_word l.verbs l.word
