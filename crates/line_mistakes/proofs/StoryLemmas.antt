-- An order can be created of a word exactly where the word is a story.
use Rattle.std.proofs.Common.{◌≡◌, ℕ, List, [], ◌∷◌, Option, Some, None, refl, codes, is_some}
use Rattle.std.specs.Option.{option_map}
use Rattle.mos_values.specs.StoryValue.{Story}
use Rattle.mos_edits.specs.declared.edit.Edit.{Edit}
use Rattle.script_edits.specs.Edits.{edit_of, edit_verb_of}
use Rattle.script_edits.specs.Stories.{if_distinct, story_of}
use Rattle.script_edits.specs.Words.{Word, both, is_name}

of_one : (f : List Story → Edit) (o : Option Story) → is_some (option_map f (if_distinct (both (λ s ss. s ∷ ss) o (Some [])))) ≡ is_some o
of_one f None = refl
of_one f (Some s) = refl

pub created_is_story : (w : Word) → is_some (edit_of (codes "create" ∷ codes "R" ∷ w ∷ [])) ≡ is_some (story_of w)
unfolding edit_of edit_verb_of is_name
created_is_story w = of_one _ (story_of w)
