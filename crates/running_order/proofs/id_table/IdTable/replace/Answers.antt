use Rattle.std.proofs.Common.{◌≡◌, ◌<◌, ◌≤◌, ◌++◌, map, ap, sym, subst, ◌∙◌, length, remove, arith, length-append}
use Rattle.std.proofs.lemmas.List.{length-map}
use Rattle.indexmap.specs.IndexSet.{spare}
use Rattle.indexmap.proofs.SetLemmas.{map-remove}
use Rattle.mos_fields.specs.Characters.{chars_of}
use Rattle.mos_values.specs.Distinct.{AreDistinct}
use Rattle.running_order.specs.Places.{AreKeys, put_over}
use Rattle.running_order.proofs.Lists.{on_ok, map-put_over}
use Rattle.running_order.proofs.Keys.{replaced_keys, appended_less, AreKeys-put_over}
use Rattle.running_order.proofs.id_table.IdTable.replace.Goals as goal

pub move_last-requires-clause-end : goal.move_last-requires-clause-end
move_last-requires-clause-end c =
    let keys = c.self.inside.set.keys in
    let ks = c.shift_remove_index.new.self.keys in
    let xs = c.new.inside.set.keys in
    let less : ks ≡ remove keys c.args.at = c.shift_remove_index.ensures.keys ∙ ap (λ l. remove l c.args.at) c.in_ok-reserve.ensures.keys in
    let seen : map (λ k. chars_of k.items) ks ++ map (λ k. chars_of k.items) xs ≡ remove c.args.self.now c.args.at ++ c.args.new = λ j. (ap (map (λ k. chars_of k.items)) less ∙ map-remove (λ k. chars_of k.items) keys c.args.at ∙ ap (λ l. remove l c.args.at) c.self.view_is) j ++ c.new.view_is j in
    let d = subst AreDistinct (sym seen) c.requires.distinct in
    let within : c.args.at < length keys = subst (λ n. c.args.at < n) (sym (ap length c.self.view_is) ∙ length-map keys (λ k. chars_of k.items)) c.requires.within in
    let fits : length xs ≤ spare c.shift_remove_index.new.self = omega (arith, c.in_ok-reserve.ensures.ok, c.shift_remove_index.ensures.room.0, c.len.ensures.len) in
    let all_is = on_ok c.append.result (c.append.ensures.succeeds fits) c.append.ensures.keys in
    let e = appended_less (λ k. k.items) keys ks xs c.append.new.self.keys c.append.new.self.keys c.len-was.result c.args.at c.self.invariant c.new.invariant less within d all_is in
    omega (arith, ap length e, length-append ks xs, c.len-was.ensures.len)

pub invariant_of-self-2 : goal.invariant_of-self-2
invariant_of-self-2 c =
    let keys = c.self.inside.set.keys in
    let ks = c.shift_remove_index.new.self.keys in
    let xs = c.new.inside.set.keys in
    let less : ks ≡ remove keys c.args.at = c.shift_remove_index.ensures.keys ∙ ap (λ l. remove l c.args.at) c.in_ok-reserve.ensures.keys in
    let seen : map (λ k. chars_of k.items) ks ++ map (λ k. chars_of k.items) xs ≡ remove c.args.self.now c.args.at ++ c.args.new = λ j. (ap (map (λ k. chars_of k.items)) less ∙ map-remove (λ k. chars_of k.items) keys c.args.at ∙ ap (λ l. remove l c.args.at) c.self.view_is) j ++ c.new.view_is j in
    let d = subst AreDistinct (sym seen) c.requires.distinct in
    let within : c.args.at < length keys = subst (λ n. c.args.at < n) (sym (ap length c.self.view_is) ∙ length-map keys (λ k. chars_of k.items)) c.requires.within in
    let fits : length xs ≤ spare c.shift_remove_index.new.self = omega (arith, c.in_ok-reserve.ensures.ok, c.shift_remove_index.ensures.room.0, c.len.ensures.len) in
    let all_is = on_ok c.append.result (c.append.ensures.succeeds fits) c.append.ensures.keys in
    let is = replaced_keys (λ k. k.items) keys ks xs c.append.new.self.keys c.move_last.new.set.keys c.len-was.result c.args.at c.self.invariant c.new.invariant less within d (sym c.len-was.ensures.len) all_is c.move_last.ensures in
    subst (λ l. AreKeys (map (λ k. k.items) l)) (sym is) (AreKeys-put_over (λ k. k.items) keys xs c.args.at c.self.invariant c.new.invariant)

pub returns-clause-ok : goal.returns-clause-ok
returns-clause-ok c =
    let keys = c.self.inside.set.keys in
    let ks = c.shift_remove_index.new.self.keys in
    let xs = c.new.inside.set.keys in
    let less : ks ≡ remove keys c.args.at = c.shift_remove_index.ensures.keys ∙ ap (λ l. remove l c.args.at) c.in_ok-reserve.ensures.keys in
    let seen : map (λ k. chars_of k.items) ks ++ map (λ k. chars_of k.items) xs ≡ remove c.args.self.now c.args.at ++ c.args.new = λ j. (ap (map (λ k. chars_of k.items)) less ∙ map-remove (λ k. chars_of k.items) keys c.args.at ∙ ap (λ l. remove l c.args.at) c.self.view_is) j ++ c.new.view_is j in
    let d = subst AreDistinct (sym seen) c.requires.distinct in
    let within : c.args.at < length keys = subst (λ n. c.args.at < n) (sym (ap length c.self.view_is) ∙ length-map keys (λ k. chars_of k.items)) c.requires.within in
    let fits : length xs ≤ spare c.shift_remove_index.new.self = omega (arith, c.in_ok-reserve.ensures.ok, c.shift_remove_index.ensures.room.0, c.len.ensures.len) in
    let all_is = on_ok c.append.result (c.append.ensures.succeeds fits) c.append.ensures.keys in
    let is = replaced_keys (λ k. k.items) keys ks xs c.append.new.self.keys c.move_last.new.set.keys c.len-was.result c.args.at c.self.invariant c.new.invariant less within d (sym c.len-was.ensures.len) all_is c.move_last.ensures in
    ap (map (λ k. chars_of k.items)) is ∙ map-put_over (λ k. chars_of k.items) keys c.args.at xs ∙ (λ j. put_over (c.self.view_is j) c.args.at (c.new.view_is j))
