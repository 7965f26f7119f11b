use Rattle.std.proofs.Common.{◌≡◌, ◌-◌, ◌++◌, length, take, drop, ap, ◌∙◌, append_assoc, length-drop, arith}
use Rattle.std.proofs.lemmas.List.{take_all}
use Rattle.mos_edits.specs.KeyedLists.{without}
use Rattle.element_action.proofs.gathering.gather.Goals as goal

pub returns : goal.returns
returns c =
    let out = c.in_ok-out.ensures in
    let sources = c.args.sources.now in
    let ids = c.args.ids.now in
    let b = without (λ x. x) sources (drop c.args.at ids) in
    let one = c.in_ok-push_others.ensures ∙ ap (λ l. l ++ without (λ x. x) c.in_ok-out.out (take c.args.at ids)) c.new-list.ensures in
    let rest : take (length ids - c.args.at) (drop c.args.at ids) ≡ drop c.args.at ids = take_all (length ids - c.args.at) (drop c.args.at ids) (let n = length-drop c.args.at ids in omega (arith, n)) in
    c.in_ok-push_others-2.ensures ∙ ap (λ l. c.push_all.new.list ++ without (λ x. x) c.in_ok-out.out l) rest ∙ (λ j. (c.in_ok-push_all.ensures ∙ ap (λ l. l ++ sources) one) j ++ without (λ x. x) (out j) (drop c.args.at ids))
    ∙ append_assoc (without (λ x. x) c.in_ok-out.out (take c.args.at ids)) sources b ∙ ap (λ l. without (λ x. x) l (take c.args.at ids) ++ (sources ++ b)) out
