use Rattle.std.proofs.Common.{◌<◌, ◌++◌, length, sym, subst, arith}
use Rattle.ncs_core.specs.Starting.{IsEntryCause}
use Rattle.ncs_core.proofs.AddedEntries.{none-added, none-accepted, one-added, one-accepted, first-refused}
use Rattle.ncs_core.proofs.starting.add_all.Goals as goal

pub entries-init : goal.entries-init
entries-init c = (c.requires.orders, none-added c.args.journal.now c.args.entries.now, none-accepted c.args.journal.now c.args.entries.now c.requires.accepted, omega arith, c.requires.scripts)

pub entries-preserved : goal.entries-preserved
entries-preserved c =
    let es = c.args.entries.now in
    let x = c.index-entries-at.result in
    let within : c.entries.at < length c.args.entries.now = omega arith in (
      c.in-Ok.ensures.orders,
      one-added c.args.journal.now c.entries.journal es c.entries.at c.add.new.journal x within c.index-entries-at.is c.entries.invariant.1 c.in-Ok.ensures.journal,
      one-accepted c.args.journal.now c.entries.journal es c.entries.at x within c.index-entries-at.is c.entries.invariant.1 c.entries.invariant.2 c.in-Ok.ensures.accepted,
      omega arith,
      c.in-Ok.ensures.scripts,
    )

pub returns-in-Err-clause-fault : goal.returns-in-Err-clause-fault
returns-in-Err-clause-fault c =
    let within : c.entries.at < length c.args.entries.now = omega arith in
    subst (IsEntryCause (c.args.journal.now ++ c.args.entries.now)) (sym c.entry_cause.ensures)
    (first-refused c.args.journal.now c.entries.journal c.args.entries.now c.entries.at c.len-number.result c.index-entries-at.result c.in-Err.fault within c.index-entries-at.is c.entries.invariant.1 c.len-number.ensures c.entries.invariant.2 c.in-Err.ensures.fault)
