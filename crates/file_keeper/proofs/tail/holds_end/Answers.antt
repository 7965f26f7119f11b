use Rattle.std.proofs.Common.{◌∙◌, refl, sym, true≢false}
use Rattle.file_keeper.specs.Tails.{BeginsWithEnd}
use Rattle.file_keeper.proofs.TailLemmas.{holds_behind, holds_front, holds_later}
use Rattle.file_keeper.proofs.tail.holds_end.Goals as goal

pub returns-then-begins_with_end : goal.returns-then-begins_with_end
returns-then-begins_with_end c = ((λ _. c.byte.invariant.0 (holds_front _ (c.begins_with_end.ensures.0 c.if-begins_with_end.true))), (λ _. refl))

pub byte-preserved : goal.byte-preserved
byte-preserved c =
    let none : BeginsWithEnd c.byte.rest.now → ⊥ = λ b. true≢false (sym (c.begins_with_end.ensures.1 b) ∙ c.if-begins_with_end.false) in
    ((λ h. c.byte.invariant.0 (holds_behind c.byte.rest.now h)), (λ h. holds_later c.byte.rest.now none (c.byte.invariant.1 h)))
