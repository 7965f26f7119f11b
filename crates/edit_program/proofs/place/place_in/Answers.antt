use Rattle.std.proofs.Common.{◌≡◌, ℕ, List, Option, Some, subst, arith, rules}
use Rattle.std.specs.Prelude.{IfOk, IfErr}
use Rattle.std.specs.Path.{rsplit_once}
use Rattle.edit_program.proofs.ColonLemmas.{split_at}
use Rattle.edit_program.specs.Ends.{AreNoPlace}
use Rattle.edit_program.specs.Words.{ArePlace}
use Rattle.edit_program.proofs.WordLemmas.{no_halves}
use Rattle.edit_program.proofs.place.place_in.Goals as goal

pub returns-in-Some-clause-ok : goal.returns-in-Some-clause-ok
returns-in-Some-clause-ok c =
    let split = split_at 58 c.args.word.now _ c.rsplit_once.ensures.cases (omega arith) in
    let halves : Some (c.in-Some.host.now, c.as_bytes.result.now) ≡ rsplit_once 58 c.args.word.now = rw (← split) (grind rules) in
    subst (λ (h : Option (List ℕ × List ℕ)). IfOk c.place_at.result (ArePlace h)) halves c.place_at.ensures.ok

pub returns-in-Some-clause-fault : goal.returns-in-Some-clause-fault
returns-in-Some-clause-fault c =
    let split = split_at 58 c.args.word.now _ c.rsplit_once.ensures.cases (omega arith) in
    let halves : Some (c.in-Some.host.now, c.as_bytes.result.now) ≡ rsplit_once 58 c.args.word.now = rw (← split) (grind rules) in
    subst (λ (h : Option (List ℕ × List ℕ)). IfErr c.place_at.result (AreNoPlace h)) halves c.place_at.ensures.fault

pub returns-in-None-clause-fault : goal.returns-in-None-clause-fault
returns-in-None-clause-fault c =
    let split = split_at 58 c.args.word.now _ c.rsplit_once.ensures.cases (omega arith) in
    no_halves (rsplit_once 58 c.args.word.now) (rw (← split) (grind rules))
