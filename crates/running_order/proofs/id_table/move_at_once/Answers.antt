use Rattle.std.proofs.Common.{◌≡◌, ◌-◌, ◌≤◌, length, take, drop, sym, ap, subst, ◌∙◌, arith}
use Rattle.std.specs.Cmp.Lexicographic.{on_texts_equal}
use Rattle.indexmap.specs.IndexSet.{spare}
use Rattle.running_order.specs.Places.{put_in}
use Rattle.running_order.proofs.Lists.{on_ok}
use Rattle.running_order.proofs.Turns.{set_is_turned, set_is_back, long_behind, long_between}
use Rattle.running_order.proofs.id_table.move_at_once.Goals as goal

pub unwrap-requires-in-Ok : goal.unwrap-requires-in-Ok
unwrap-requires-in-Ok c =
    let all = c.reserve.new.self.keys in
    let same : all ≡ c.args.set.now.keys = c.in_ok-reserve.ensures.keys in
    let le : c.args.was ≤ length all = subst (λ l. c.args.was ≤ length l) (sym same) c.requires.end in
    let first : length c.in_ok-last.last.keys ≡ length all - c.args.was = long_behind all c.in_ok-last.last.keys c.args.was c.in_ok-last.ensures.tail in
    let long = ap length same in
    let second : length c.in-Ok.middle.keys ≡ c.args.was - c.args.at = long_between all c.split_off.new.self.keys c.in-Ok.middle.keys c.args.was c.args.at le c.in_ok-last.ensures.kept c.in-Ok.ensures.tail in
    let fits : length c.in_ok-last.last.keys ≤ spare c.split_off-2.new.self = omega (arith, c.in_ok-reserve.ensures.ok, c.in_ok-last.ensures.room.0, c.in-Ok.ensures.room.0, c.len.ensures.len, first, long, le, c.requires.within) in
    let fits_too : length c.in-Ok.middle.keys ≤ spare c.append.new.self = omega (arith, c.in_ok-reserve.ensures.ok, c.in_ok-last.ensures.room.0, c.in-Ok.ensures.room.0, c.append.ensures.room.0, c.len.ensures.len, first, second, long, le, c.requires.within) in
    c.append-in-Ok.ensures.succeeds fits_too

pub returns-in-Ok-clause-ok : goal.returns-in-Ok-clause-ok
returns-in-Ok-clause-ok c =
    let all = c.reserve.new.self.keys in
    let same : all ≡ c.args.set.now.keys = c.in_ok-reserve.ensures.keys in
    let le : c.args.was ≤ length all = subst (λ l. c.args.was ≤ length l) (sym same) c.requires.end in
    let first : length c.in_ok-last.last.keys ≡ length all - c.args.was = long_behind all c.in_ok-last.last.keys c.args.was c.in_ok-last.ensures.tail in
    let long = ap length same in
    let second : length c.in-Ok.middle.keys ≡ c.args.was - c.args.at = long_between all c.split_off.new.self.keys c.in-Ok.middle.keys c.args.was c.args.at le c.in_ok-last.ensures.kept c.in-Ok.ensures.tail in
    let fits : length c.in_ok-last.last.keys ≤ spare c.split_off-2.new.self = omega (arith, c.in_ok-reserve.ensures.ok, c.in_ok-last.ensures.room.0, c.in-Ok.ensures.room.0, c.len.ensures.len, first, long, le, c.requires.within) in
    let fits_too : length c.in-Ok.middle.keys ≤ spare c.append.new.self = omega (arith, c.in_ok-reserve.ensures.ok, c.in_ok-last.ensures.room.0, c.in-Ok.ensures.room.0, c.append.ensures.room.0, c.len.ensures.len, first, second, long, le, c.requires.within) in
    let one = on_ok c.append.result (c.append.ensures.succeeds fits) c.append.ensures.keys in
    let next = on_ok c.append-in-Ok.result (c.append-in-Ok.ensures.succeeds fits_too) c.append-in-Ok.ensures.keys in
    set_is_turned (on_texts_equal (λ k. k.items)) all c.split_off.new.self.keys c.in_ok-last.last.keys c.args.was c.args.at c.in_ok-reserve.ensures.unique c.in_ok-last.ensures.kept c.in_ok-last.ensures.tail
    c.split_off-2.new.self.keys c.append.new.self.keys c.append-in-Ok.new.self.keys c.in-Ok.middle.keys c.in-Ok.ensures.kept c.in-Ok.ensures.tail one next
    ∙ (λ j. put_in (take c.args.was (same j)) c.args.at (drop c.args.was (same j)))

pub returns-clause-err : goal.returns-clause-err
returns-clause-err c =
    let all = c.reserve.new.self.keys in
    let same : all ≡ c.args.set.now.keys = c.in_ok-reserve.ensures.keys in
    let le : c.args.was ≤ length all = subst (λ l. c.args.was ≤ length l) (sym same) c.requires.end in
    let first : length c.in_ok-last.last.keys ≡ length all - c.args.was = long_behind all c.in_ok-last.last.keys c.args.was c.in_ok-last.ensures.tail in
    let long = ap length same in
    let fits : length c.in_ok-last.last.keys ≤ spare c.split_off-2.new.self = omega (arith, c.in_ok-reserve.ensures.ok, c.in_ok-last.ensures.room.0, c.in-Err.ensures.room.0, c.len.ensures.len, first, long, le, c.requires.within) in
    let one = on_ok c.append-in-Err.result (c.append-in-Err.ensures.succeeds fits) c.append-in-Err.ensures.keys in
    set_is_back (on_texts_equal (λ k. k.items)) all c.split_off.new.self.keys c.in_ok-last.last.keys c.args.was c.args.at c.in_ok-reserve.ensures.unique c.in_ok-last.ensures.kept c.in_ok-last.ensures.tail
    c.split_off-2.new.self.keys c.append-in-Err.new.self.keys c.in-Err.ensures.err one
    ∙ same
