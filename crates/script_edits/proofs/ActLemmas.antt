-- The edit that an action is.
use Rattle.std.proofs.Common.{◌≡◌, Option, Result, Ok, Err, IfOk, MatchResult, ap, ◌∙◌}
use Rattle.mos_fields.specs.Characters.{Text}
use Rattle.mos_values.specs.declared.action.Action.{Action}
use Rattle.mos_edits.specs.declared.edit.Edit.{Edit}
use Rattle.script_edits.specs.Edits.{acts}

pub acted : {E F : Type 0} (r : Text) (x : Option Action) (a : Result (Option Action) E) (e : Result (Option Edit) F) → IfOk a (λ o. o ≡ x) → IfOk e (λ o. MatchResult a (λ y. o ≡ acts r y) (λ f. ⊥)) → IfOk e (λ o. o ≡ acts r x)
acted r x (Ok y) (Ok o) h i = i ∙ ap (acts r) h
acted r x (Err f) (Ok o) h i = absurd i
acted r x a (Err f) h i = tt
