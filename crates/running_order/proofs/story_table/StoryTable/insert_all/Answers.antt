use Rattle.std.proofs.Common.{◌≡◌, ◌++◌, map, ap, sym, subst, ◌∙◌, length, arith, length-append}
use Rattle.mos_values.specs.Distinct.{AreDistinct}
use Rattle.running_order.specs.Places.{put_in}
use Rattle.mos_values.specs.Distinct.{story_ids}
use Rattle.running_order.specs.Entries.{AreEntries}
use Rattle.running_order.proofs.Lists.{map-put_in}
use Rattle.running_order.proofs.Entries.{appended_entries, inserted_entries, keyed_put_in}
use Rattle.running_order.proofs.story_table.StoryTable.insert_all.Goals as goal

pub move_last-requires-clause-end : goal.move_last-requires-clause-end
move_last-requires-clause-end c =
    let es = c.self.inside.table.entries in
    let xs = c.new.inside.table.entries in
    let seen : story_ids (map (λ e. e.1) es) ++ story_ids (map (λ e. e.1) xs) ≡ story_ids c.args.self.now ++ story_ids c.args.new = λ j. story_ids (c.self.view_is j) ++ story_ids (c.new.view_is j) in
    let d = subst AreDistinct (sym seen) c.requires.distinct in
    let e = c.in_ok-append.ensures.entries ∙ appended_entries (λ k. k.items) (λ s. s.id) es xs c.self.invariant c.new.invariant d in
    omega (arith, ap length e, length-append es xs, c.len-was.ensures.len)

pub invariant_of-self-2 : goal.invariant_of-self-2
invariant_of-self-2 c =
    let es = c.self.inside.table.entries in
    let xs = c.new.inside.table.entries in
    let seen : story_ids (map (λ e. e.1) es) ++ story_ids (map (λ e. e.1) xs) ≡ story_ids c.args.self.now ++ story_ids c.args.new = λ j. story_ids (c.self.view_is j) ++ story_ids (c.new.view_is j) in
    let d = subst AreDistinct (sym seen) c.requires.distinct in
    let is = inserted_entries (λ k. k.items) (λ s. s.id) es xs c.append.new.self.entries c.move_last.new.map.entries c.len-was.result c.args.at c.self.invariant c.new.invariant d (sym c.len-was.ensures.len) c.in_ok-append.ensures.entries c.move_last.ensures in
    subst AreEntries (sym is) (keyed_put_in (λ k. k.items) (λ s. s.id) es c.args.at xs c.self.invariant c.new.invariant)

pub returns-clause-ok : goal.returns-clause-ok
returns-clause-ok c =
    let es = c.self.inside.table.entries in
    let xs = c.new.inside.table.entries in
    let seen : story_ids (map (λ e. e.1) es) ++ story_ids (map (λ e. e.1) xs) ≡ story_ids c.args.self.now ++ story_ids c.args.new = λ j. story_ids (c.self.view_is j) ++ story_ids (c.new.view_is j) in
    let d = subst AreDistinct (sym seen) c.requires.distinct in
    let is = inserted_entries (λ k. k.items) (λ s. s.id) es xs c.append.new.self.entries c.move_last.new.map.entries c.len-was.result c.args.at c.self.invariant c.new.invariant d (sym c.len-was.ensures.len) c.in_ok-append.ensures.entries c.move_last.ensures in
    ap (map (λ e. e.1)) is ∙ map-put_in (λ e. e.1) es c.args.at xs ∙ (λ j. put_in (c.self.view_is j) c.args.at (c.new.view_is j))
