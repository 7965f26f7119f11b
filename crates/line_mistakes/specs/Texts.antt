-- The texts of mistakes.
use Rattle.std.specs.Prelude.{ℕ, List, ◌++◌, codes}
use Rattle.script_edits.specs.Words.{Word}
use Rattle.line_mistakes.specs.declared.line_verb.LineVerb.{LineVerb}
use Rattle.line_mistakes.specs.Forms.{verb_wants, verb_word}
use Rattle.line_mistakes.specs.Mistakes.{Mistake}
use Rattle.line_mistakes.specs.Mistakes.Mistake.{TooLong, Return, Spaces, NoVerb, Wants, NoName, NoStory, Twice}

-- a word in quotes, and what is said of it
abbrev pub quoted_text : Word → List ℕ → List ℕ
quoted_text w said = codes "'" ++ w ++ codes "'" ++ said

-- a first word, and what it wants
abbrev pub wants_text : LineVerb → List ℕ
wants_text verb = verb_word verb ++ codes " wants " ++ verb_wants verb

abbrev pub twice_text : Word → List ℕ
twice_text name = codes "story " ++ name ++ codes " twice"

-- what a mistake is, for a person
unfoldable pub mistake_text : Mistake → List ℕ
mistake_text TooLong = codes "more than 1000 bytes"
mistake_text Return = codes "it ends with a carriage return"
mistake_text Spaces = codes "two spaces, or one at the start or the end"
mistake_text (NoVerb w) = quoted_text w (codes " begins no edit; edit_orders --help lists them")
mistake_text (Wants verb) = wants_text verb
mistake_text (NoName w) = quoted_text w (codes " is no name; one is 1 to 32 of A-Z a-z 0-9 _")
mistake_text (NoStory w) = quoted_text w (codes " is no story; one is NAME or NAME:ITEM,ITEM, names of 1 to 32 of A-Z a-z 0-9 _, no item twice")
mistake_text (Twice name) = twice_text name
