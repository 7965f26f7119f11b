use Rattle.std.proofs.Common.{◌≡◌, ◌+◌, ◌-◌, length, take, drop, ap, sym, ◌∙◌, arith, length-take-le, length-drop}
use Rattle.std.proofs.lemmas.List.{take-append-drop}
use Rattle.indexmap.specs.IndexMap.{move_index}
use Rattle.running_order.proofs.Lists.{placed, placed_none, placed_next}
use Rattle.running_order.proofs.story_table.move_each.Goals as goal

pub loop-k-init : goal.loop-k-init
loop-k-init c = sym (placed_none (take c.args.was c.args.map.now.entries) (drop c.args.was c.args.map.now.entries) c.args.at ∙ take-append-drop c.args.was c.args.map.now.entries)

pub loop-k-preserved : goal.loop-k-preserved
loop-k-preserved c =
    let all = c.args.map.now.entries in
    let k = c.loop-k.k in
    let was : length (take c.args.was all) ≡ c.args.was = length-take-le c.args.was all c.requires.end in
    let left : length (drop c.args.was all) ≡ length all - c.args.was = length-drop c.args.was all in
    c.move_index.ensures.entries
    ∙ ap (λ l. move_index l (c.args.was + k) (c.args.at + k)) c.loop-k.invariant
    ∙ ap (λ n. move_index (placed (take c.args.was all) (drop c.args.was all) c.args.at k) (n + k) (c.args.at + k)) (sym was)
    ∙ placed_next (take c.args.was all) (drop c.args.was all) c.args.at k (omega arith) (omega arith)
