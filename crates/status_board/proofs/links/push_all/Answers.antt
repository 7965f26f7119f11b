use Rattle.std.proofs.Common.{rules, ◌≡◌, ◌+◌, ◌∷◌, [], ◌++◌, length, nat_eq, ap, ◌∙◌, arith, length-append}
use Rattle.indexmap.specs.IndexMap.{get}
use Rattle.status_board.proofs.Places.{linked-push}
use Rattle.status_board.proofs.links.push_all.Goals as goal

pub returns-clause-linked : goal.returns-clause-linked
returns-clause-linked c =
    let ns : c.push.new.self.items ≡ c.args.numbers.now.items ++ c.args.n ∷ [] = search rules in
    let os : c.push-2.new.self.items ≡ c.args.older.now.items ++ c.args.before ∷ [] = search rules in
    let n : length (c.push.new.self.items) ≡ length (c.args.numbers.now.items) + 1 = ap length ns ∙ length-append c.args.numbers.now.items (c.args.n ∷ []) in
    let l = c.len.ensures in
    let ok = c.push.new.self.ok in
    let v : c.len.result ≡ length (c.args.numbers.now.items) + 1 = omega (arith, n, l, ok) in
    linked-push (λ q. get nat_eq c.args.newest.now q) (λ q. get nat_eq c.note_place.new.newest q) c.args.older.now.items c.push-2.new.self.items c.args.numbers.now.items c.push.new.self.items c.args.n c.args.before c.len.result c.requires.linked c.requires.before ns os v c.note_place.ensures.places
