use Rattle.std.proofs.Common.{◌++◌, ◌∷◌, [], sym, ◌∙◌}
use Rattle.object_table.specs.Objects.{taken}
use Rattle.object_table.proofs.Kept.{fault-is, gone-none, ok-is, taken-last}
use Rattle.object_table.proofs.table.ObjectTable.take_new.Goals as goal

pub returns-then-is_deleted-clause-ok : goal.returns-then-is_deleted-clause-ok
returns-then-is_deleted-clause-ok c = gone-none c.args.o.now c.args.self.now c.requires (sym c.is_deleted.ensures ∙ c.if-is_deleted.true)

pub returns-else-is_deleted-clause-ok : goal.returns-else-is_deleted-clause-ok
returns-else-is_deleted-clause-ok c =
    ok-is c.push.result c.push.new.self (c.args.self.now ++ c.args.o.now ∷ []) (taken c.args.o.now c.args.self.now) (taken-last c.args.o.now c.args.self.now c.requires (sym c.is_deleted.ensures ∙ c.if-is_deleted.false)) c.push.ensures.ok

pub returns-else-is_deleted-clause-fault : goal.returns-else-is_deleted-clause-fault
returns-else-is_deleted-clause-fault c =
    fault-is c.push.result (c.args.self.now ++ c.args.o.now ∷ []) (taken c.args.o.now c.args.self.now) (taken-last c.args.o.now c.args.self.now c.requires (sym c.is_deleted.ensures ∙ c.if-is_deleted.false)) c.push.ensures.fault
