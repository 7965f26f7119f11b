use Rattle.std.proofs.Common.{◌≡◌, drop}
use Rattle.mos_fields.specs.Values.{word_of}
use Rattle.line_mistakes.specs.Forms.{verb_word}
use Rattle.line_mistakes.proofs.line_verb.find_in.Given as goal

abbrev pub invariant-loop-verb : goal.invariant-loop-verb
invariant-loop-verb l = word_of verb_word (drop l.verb-index l.verbs) l.word ≡ word_of verb_word l.verbs l.word
