-- The definitions of histories, tried on a counter: event n adds n, the answer is the sum, and a refused step changes nothing.
use Rattle.std.proofs.Common.{◌≡◌, ℕ, ◌+◌, List, [], ◌∷◌, refl, arith}
use Rattle.shared_machine.specs.declared.entry.Entry.{Entry}
use Rattle.shared_machine.specs.History.{entry, calls_by, StartsWith, IsLegalFrom}

abbrev adds : ℕ → ℕ → ℕ → ℕ → Type 0
adds before event answer after = (answer ≡ before + event) × (after ≡ before + event)

abbrev same : ℕ → ℕ → Type 0
same before after = after ≡ before

-- caller 0 adds 2, caller 1 adds 3, caller 0 adds 4
abbrev three_calls : List (Entry ℕ ℕ)
three_calls = entry 0 2 2 0 ∷ entry 1 3 5 0 ∷ entry 0 4 9 0 ∷ []

first_caller : calls_by 0 three_calls ≡ entry 0 2 2 0 ∷ entry 0 4 9 0 ∷ []
first_caller = refl

second_caller : calls_by 1 three_calls ≡ entry 1 3 5 0 ∷ []
second_caller = refl

no_such_caller : calls_by 2 three_calls ≡ []
no_such_caller = refl

begins_with_the_first : StartsWith three_calls (entry 0 2 2 0 ∷ [])
begins_with_the_first = (entry 1 3 5 0 ∷ entry 0 4 9 0 ∷ [], refl)

legal_from_zero : IsLegalFrom adds same (λ _. 0) 0 three_calls
legal_from_zero = (9, (0, 2, refl, (refl, refl), refl, (2, 5, refl, (refl, refl), refl, (5, 9, refl, (refl, refl), refl, refl))))

-- An answer from the opening state, where the call before had added 2, is in no legal history.
stale_answer : IsLegalFrom adds same (λ _. 0) 0 (entry 0 2 2 0 ∷ entry 1 3 3 0 ∷ []) → ⊥
stale_answer h = let first = h.1.2 in let added = h.1.3.1 in let kept = h.1.5.2 in let answered = h.1.5.3.0 in absurd (omega arith)
