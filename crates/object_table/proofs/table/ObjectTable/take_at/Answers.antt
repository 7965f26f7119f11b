use Rattle.std.proofs.Common.{slice_set, sym, ◌∙◌}
use Rattle.object_table.specs.Objects.{taken}
use Rattle.object_table.proofs.Kept.{fault-is, gone-at, ok-is, taken-at}
use Rattle.object_table.proofs.Places.{stands-within}
use Rattle.object_table.proofs.table.ObjectTable.take_at.Goals as goal

pub remove-requires : goal.remove-requires
remove-requires c = stands-within c.args.o.now.id c.args.self.now c.args.at c.requires

pub returns-then-is_deleted-clause-ok : goal.returns-then-is_deleted-clause-ok
returns-then-is_deleted-clause-ok c = c.remove.ensures.value ∙ gone-at c.args.o.now c.args.self.now c.args.at c.requires (sym c.is_deleted.ensures ∙ c.if-is_deleted.true)

pub returns-else-is_deleted-clause-ok : goal.returns-else-is_deleted-clause-ok
returns-else-is_deleted-clause-ok c =
    ok-is c.exchange.result c.exchange.new.self (slice_set c.args.self.now c.args.at c.args.o.now) (taken c.args.o.now c.args.self.now) (taken-at c.args.o.now c.args.self.now c.args.at c.requires (sym c.is_deleted.ensures ∙ c.if-is_deleted.false)) c.exchange.ensures.ok

pub returns-else-is_deleted-clause-fault : goal.returns-else-is_deleted-clause-fault
returns-else-is_deleted-clause-fault c =
    fault-is c.exchange.result (slice_set c.args.self.now c.args.at c.args.o.now) (taken c.args.o.now c.args.self.now) (taken-at c.args.o.now c.args.self.now c.args.at c.requires (sym c.is_deleted.ensures ∙ c.if-is_deleted.false)) c.exchange.ensures.fault
