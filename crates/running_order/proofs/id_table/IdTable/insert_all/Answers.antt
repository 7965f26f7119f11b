use Rattle.std.proofs.Common.{◌≡◌, ◌++◌, map, ap, sym, subst, ◌∙◌, length, arith, length-append}
use Rattle.mos_fields.specs.Characters.{chars_of}
use Rattle.mos_values.specs.Distinct.{AreDistinct}
use Rattle.running_order.specs.Places.{AreKeys, put_in}
use Rattle.running_order.proofs.Lists.{map-put_in}
use Rattle.running_order.proofs.Keys.{appended_keys, inserted_keys, AreKeys-put_in}
use Rattle.running_order.proofs.id_table.IdTable.insert_all.Goals as goal

pub move_last-requires-clause-end : goal.move_last-requires-clause-end
move_last-requires-clause-end c =
    let seen : map (λ k. chars_of k.items) c.self.inside.set.keys ++ map (λ k. chars_of k.items) c.new.inside.set.keys ≡ c.args.self.now ++ c.args.new = λ j. c.self.view_is j ++ c.new.view_is j in
    let e = c.in_ok-append.ensures.keys ∙ appended_keys (λ k. k.items) c.self.inside.set.keys c.new.inside.set.keys c.self.invariant c.new.invariant (subst AreDistinct (sym seen) c.requires.distinct) in
    omega (arith, ap length e, length-append c.self.inside.set.keys c.new.inside.set.keys, c.len-was.ensures.len)

pub invariant_of-self-2 : goal.invariant_of-self-2
invariant_of-self-2 c =
    let seen : map (λ k. chars_of k.items) c.self.inside.set.keys ++ map (λ k. chars_of k.items) c.new.inside.set.keys ≡ c.args.self.now ++ c.args.new = λ j. c.self.view_is j ++ c.new.view_is j in
    let is = inserted_keys (λ k. k.items) c.self.inside.set.keys c.new.inside.set.keys c.self.invariant c.new.invariant c.append.new.self.keys c.move_last.new.set.keys c.len-was.result c.args.at
    (subst AreDistinct (sym seen) c.requires.distinct) (sym c.len-was.ensures.len) c.in_ok-append.ensures.keys c.move_last.ensures in
    subst (λ l. AreKeys (map (λ k. k.items) l)) (sym is) (AreKeys-put_in (λ k. k.items) c.self.inside.set.keys c.new.inside.set.keys c.self.invariant c.new.invariant c.args.at)

pub returns-clause-ok : goal.returns-clause-ok
returns-clause-ok c =
    let seen : map (λ k. chars_of k.items) c.self.inside.set.keys ++ map (λ k. chars_of k.items) c.new.inside.set.keys ≡ c.args.self.now ++ c.args.new = λ j. c.self.view_is j ++ c.new.view_is j in
    let is = inserted_keys (λ k. k.items) c.self.inside.set.keys c.new.inside.set.keys c.self.invariant c.new.invariant c.append.new.self.keys c.move_last.new.set.keys c.len-was.result c.args.at
    (subst AreDistinct (sym seen) c.requires.distinct) (sym c.len-was.ensures.len) c.in_ok-append.ensures.keys c.move_last.ensures in
    ap (map (λ k. chars_of k.items)) is ∙ map-put_in (λ k. chars_of k.items) c.self.inside.set.keys c.args.at c.new.inside.set.keys ∙ (λ j. put_in (c.self.view_is j) c.args.at (c.new.view_is j))
