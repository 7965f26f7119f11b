use Rattle.std.proofs.Common.{◌≡◌, ◌<◌, ◌≤◌, ◌++◌, map, ap, sym, subst, ◌∙◌, length, remove, arith, length-append}
use Rattle.std.proofs.lemmas.List.{length-map}
use Rattle.indexmap.specs.IndexMap.{spare}
use Rattle.indexmap.proofs.SetLemmas.{map-remove}
use Rattle.mos_values.specs.Distinct.{AreDistinct}
use Rattle.running_order.specs.Places.{put_in, put_over}
use Rattle.mos_values.specs.Distinct.{story_ids}
use Rattle.running_order.specs.Entries.{AreEntries}
use Rattle.running_order.proofs.Lists.{on_ok, map-put_over, put_in-remove}
use Rattle.running_order.proofs.Entries.{appended_entries, inserted_entries, keyed_put_over, keyed_remove}
use Rattle.running_order.proofs.story_table.StoryTable.replace.Goals as goal

pub move_last-requires-clause-end : goal.move_last-requires-clause-end
move_last-requires-clause-end c =
    let es = c.self.inside.table.entries in
    let ks = c.shift_remove_index.new.self.entries in
    let xs = c.new.inside.table.entries in
    let less : ks ≡ remove es c.args.at = c.shift_remove_index.ensures.entries ∙ ap (λ l. remove l c.args.at) c.in_ok-reserve.ensures.entries in
    let keyed = subst AreEntries (sym less) (keyed_remove (λ k. k.items) (λ s. s.id) es c.args.at c.self.invariant) in
    let stories : map (λ e. e.1) ks ≡ remove c.args.self.now c.args.at = ap (map (λ e. e.1)) less ∙ map-remove (λ e. e.1) es c.args.at ∙ ap (λ l. remove l c.args.at) c.self.view_is in
    let seen : story_ids (map (λ e. e.1) ks) ++ story_ids (map (λ e. e.1) xs) ≡ story_ids (remove c.args.self.now c.args.at) ++ story_ids c.args.new = λ j. story_ids (stories j) ++ story_ids (c.new.view_is j) in
    let d = subst AreDistinct (sym seen) c.requires.distinct in
    let within : c.args.at < length es = subst (λ n. c.args.at < n) (sym (ap length c.self.view_is) ∙ length-map es (λ e. e.1)) c.requires.within in
    let fits : length xs ≤ spare c.shift_remove_index.new.self = omega (arith, c.in_ok-reserve.ensures.ok, c.shift_remove_index.ensures.room.0, c.len.ensures.len) in
    let all_is = on_ok c.append.result (c.append.ensures.succeeds fits) c.append.ensures.entries in
    let e = all_is ∙ appended_entries (λ k. k.items) (λ s. s.id) ks xs keyed c.new.invariant d in
    omega (arith, ap length e, length-append ks xs, c.len-was.ensures.len)

pub invariant_of-self-2 : goal.invariant_of-self-2
invariant_of-self-2 c =
    let es = c.self.inside.table.entries in
    let ks = c.shift_remove_index.new.self.entries in
    let xs = c.new.inside.table.entries in
    let less : ks ≡ remove es c.args.at = c.shift_remove_index.ensures.entries ∙ ap (λ l. remove l c.args.at) c.in_ok-reserve.ensures.entries in
    let keyed = subst AreEntries (sym less) (keyed_remove (λ k. k.items) (λ s. s.id) es c.args.at c.self.invariant) in
    let stories : map (λ e. e.1) ks ≡ remove c.args.self.now c.args.at = ap (map (λ e. e.1)) less ∙ map-remove (λ e. e.1) es c.args.at ∙ ap (λ l. remove l c.args.at) c.self.view_is in
    let seen : story_ids (map (λ e. e.1) ks) ++ story_ids (map (λ e. e.1) xs) ≡ story_ids (remove c.args.self.now c.args.at) ++ story_ids c.args.new = λ j. story_ids (stories j) ++ story_ids (c.new.view_is j) in
    let d = subst AreDistinct (sym seen) c.requires.distinct in
    let within : c.args.at < length es = subst (λ n. c.args.at < n) (sym (ap length c.self.view_is) ∙ length-map es (λ e. e.1)) c.requires.within in
    let fits : length xs ≤ spare c.shift_remove_index.new.self = omega (arith, c.in_ok-reserve.ensures.ok, c.shift_remove_index.ensures.room.0, c.len.ensures.len) in
    let all_is = on_ok c.append.result (c.append.ensures.succeeds fits) c.append.ensures.entries in
    let put = inserted_entries (λ k. k.items) (λ s. s.id) ks xs c.append.new.self.entries c.move_last.new.map.entries c.len-was.result c.args.at keyed c.new.invariant d (sym c.len-was.ensures.len) all_is c.move_last.ensures in
    let is = put ∙ ap (λ l. put_in l c.args.at xs) less ∙ put_in-remove es c.args.at xs within in
    subst AreEntries (sym is) (keyed_put_over (λ k. k.items) (λ s. s.id) es c.args.at xs c.self.invariant c.new.invariant)

pub returns-clause-ok : goal.returns-clause-ok
returns-clause-ok c =
    let es = c.self.inside.table.entries in
    let ks = c.shift_remove_index.new.self.entries in
    let xs = c.new.inside.table.entries in
    let less : ks ≡ remove es c.args.at = c.shift_remove_index.ensures.entries ∙ ap (λ l. remove l c.args.at) c.in_ok-reserve.ensures.entries in
    let keyed = subst AreEntries (sym less) (keyed_remove (λ k. k.items) (λ s. s.id) es c.args.at c.self.invariant) in
    let stories : map (λ e. e.1) ks ≡ remove c.args.self.now c.args.at = ap (map (λ e. e.1)) less ∙ map-remove (λ e. e.1) es c.args.at ∙ ap (λ l. remove l c.args.at) c.self.view_is in
    let seen : story_ids (map (λ e. e.1) ks) ++ story_ids (map (λ e. e.1) xs) ≡ story_ids (remove c.args.self.now c.args.at) ++ story_ids c.args.new = λ j. story_ids (stories j) ++ story_ids (c.new.view_is j) in
    let d = subst AreDistinct (sym seen) c.requires.distinct in
    let within : c.args.at < length es = subst (λ n. c.args.at < n) (sym (ap length c.self.view_is) ∙ length-map es (λ e. e.1)) c.requires.within in
    let fits : length xs ≤ spare c.shift_remove_index.new.self = omega (arith, c.in_ok-reserve.ensures.ok, c.shift_remove_index.ensures.room.0, c.len.ensures.len) in
    let all_is = on_ok c.append.result (c.append.ensures.succeeds fits) c.append.ensures.entries in
    let put = inserted_entries (λ k. k.items) (λ s. s.id) ks xs c.append.new.self.entries c.move_last.new.map.entries c.len-was.result c.args.at keyed c.new.invariant d (sym c.len-was.ensures.len) all_is c.move_last.ensures in
    let is = put ∙ ap (λ l. put_in l c.args.at xs) less ∙ put_in-remove es c.args.at xs within in
    ap (map (λ e. e.1)) is ∙ map-put_over (λ e. e.1) es c.args.at xs ∙ (λ j. put_over (c.self.view_is j) c.args.at (c.new.view_is j))
