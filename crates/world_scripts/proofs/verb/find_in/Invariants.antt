use Rattle.std.proofs.Common.{◌≡◌, drop}
use Rattle.mos_fields.specs.Values.{word_of}
use Rattle.world_scripts.specs.Events.{verb_word}
use Rattle.world_scripts.proofs.verb.find_in.Given as goal

abbrev pub invariant-loop-verb : goal.invariant-loop-verb
invariant-loop-verb l = word_of verb_word (drop l.verb-index l.verbs) l.word ≡ word_of verb_word l.verbs l.word
