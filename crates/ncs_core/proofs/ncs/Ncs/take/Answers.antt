use Rattle.std.proofs.Common.{◌≡◌, ◌≤◌, false, ℕ, length, Option, Err, refl, sym, ap, ◌∙◌, subst}
use Rattle.std.proofs.lemmas.List.{with_items_is}
use Rattle.std.specs.Vec.{with_items}
use Rattle.mos_edits.specs.Entries.{Refusal, entry_of, entry_count, acceptance}
use Rattle.mos_machines.specs.Server.{peer_given}
use Rattle.ncs_core.specs.Accepting.{IsRefusal}
use Rattle.ncs_core.specs.Commands.{LeavesKeeper}
use Rattle.ncs_core.specs.State.{NcsTables, states}
use Rattle.ncs_core.proofs.AcceptedRows.{orders-same, acceptance-here, orders-added, edited-there}
use Rattle.ncs_core.proofs.CommandSteps.{refused-keeper, refused-tables, taken-tables, unkept-keeper, unkept-tables}
use Rattle.ncs_core.proofs.KnownFronts.{known-kept, known-unkept}
use Rattle.ncs_core.proofs.LookedRows.{looked-pushed, looked-same}
use Rattle.ncs_core.proofs.RestoredRows.{orders-undone, undone-units}
use Rattle.ncs_core.proofs.ncs.Ncs.take.Goals as goal

pub invariant_of-self : goal.invariant_of-self
invariant_of-self g c = (orders-same c.self.inside.journal c.self.inside.orders c.accept_edit.new.orders c.self.invariant.0 c.in-Err.ensures.err, c.self.invariant.1, c.self.invariant.2, c.self.invariant.3, c.self.invariant.4, c.self.invariant.5)

pub invariant_of-self-in-Ok-keep_and_give : goal.invariant_of-self-in-Ok-keep_and_give
invariant_of-self-in-Ok-keep_and_give g c =
    let whole : (with_items c.self.inside.peers c.keep_and_give.new.peers).items ≡ c.keep_and_give.new.peers = with_items_is c.self.inside.peers c.keep_and_give.new.peers (c.keep_and_give.auto.peers ∙ c.deref_mut.ensures.len) in
    let count : length (with_items c.self.inside.peers c.keep_and_give.new.peers).items ≡ length c.self.inside.peers.items = ap length whole ∙ (c.keep_and_give.auto.peers ∙ ap length c.deref_mut.ensures.value) in
    let few : length (with_items c.self.inside.peers c.keep_and_give.new.peers).items ≤ 64 = subst (λ (n : ℕ). n ≤ 64) (sym count) c.self.invariant.1 in
    let one : 1 ≤ length (with_items c.self.inside.peers c.keep_and_give.new.peers).items = subst (λ (n : ℕ). 1 ≤ n) (sym count) c.self.invariant.2 in
    let begun : states c.deref_mut.result.now ≡ states c.self.inside.peers.items = ap states c.deref_mut.ensures.value in
    let running : c.self.inside.stopped ≡ false = ap (λ (n : NcsTables _). n.server.stopped) c.self.view_is ∙ c.requires.running in (
      orders-added c.self.inside.journal c.keep_and_give.new.journal (entry_of c.args.edit.now) (entry_of c.args.edit.now) c.self.inside.orders c.accept_edit.new.orders c.self.invariant.0 refl c.in-Ok.ensures.rows c.in-Ok-keep_and_give.ensures.journal,
      few,
      one,
      known-kept c.self.inside.stopped (g.K.Keeper.kept c.self.inside.keeper) (g.K.Keeper.kept c.keep_and_give.new.keeper) (g.K.Keeper.faults c.self.inside.keeper) (g.K.Keeper.faults c.keep_and_give.new.keeper) (g.K.Keeper.certainty c.self.inside.keeper) (g.K.Keeper.certainty c.keep_and_give.new.keeper) c.self.inside.journal c.keep_and_give.new.journal (entry_of c.args.edit.now) running c.self.invariant.3
          (sym (acceptance-here c.self.inside.journal c.self.inside.journal (entry_of c.args.edit.now) (entry_of c.args.edit.now) c.self.inside.orders c.self.invariant.0 c.has_ascending_ids.ensures refl refl) ∙ c.in-Ok.ensures.accepted)
          c.in-Ok-keep_and_give.ensures.appends c.in-Ok-keep_and_give.ensures.certainty c.in-Ok-keep_and_give.ensures.journal,
      looked-pushed c.self.inside.journal c.keep_and_give.new.journal (entry_of c.args.edit.now) (states c.self.inside.peers.items) (states (with_items c.self.inside.peers c.keep_and_give.new.peers).items) c.self.inside.looks c.in-Ok-keep_and_give.ensures.journal (ap states whole ∙ (c.in-Ok-keep_and_give.ensures.peers ∙ (λ i. λ d. peer_given (entry_of c.args.edit.now) (entry_count c.self.inside.journal (entry_of c.args.edit.now).ro) (begun i d)))) c.self.invariant.4,
      c.keep_and_give.ensures.scripts,
    )

pub undo-requires-clause-there : goal.undo-requires-clause-there
undo-requires-clause-there g c = edited-there c.self.inside.orders c.accept_edit.new.orders (entry_of c.args.edit.now) c.edit_ro.result.now c.in-Ok.ensures.rows c.edit_ro.ensures

pub undo-requires-clause-units : goal.undo-requires-clause-units
undo-requires-clause-units g c =
    c.units-units.ensures
    ∙ sym (undone-units c.self.inside.orders c.args.edit.now c.has_ascending_ids.ensures c.accept_edit.new.orders c.edit_ro.result.now c.in-Ok.former c.in-Ok.ensures.former c.in-Ok.ensures.rows c.edit_ro.ensures)

pub invariant_of-self-in-Err-keep_and_give : goal.invariant_of-self-in-Err-keep_and_give
invariant_of-self-in-Err-keep_and_give g c =
    let whole : (with_items c.self.inside.peers c.keep_and_give.new.peers).items ≡ c.keep_and_give.new.peers = with_items_is c.self.inside.peers c.keep_and_give.new.peers (c.keep_and_give.auto.peers ∙ c.deref_mut.ensures.len) in
    let count : length (with_items c.self.inside.peers c.keep_and_give.new.peers).items ≡ length c.self.inside.peers.items = ap length whole ∙ (c.keep_and_give.auto.peers ∙ ap length c.deref_mut.ensures.value) in
    let few : length (with_items c.self.inside.peers c.keep_and_give.new.peers).items ≤ 64 = subst (λ (n : ℕ). n ≤ 64) (sym count) c.self.invariant.1 in
    let one : 1 ≤ length (with_items c.self.inside.peers c.keep_and_give.new.peers).items = subst (λ (n : ℕ). 1 ≤ n) (sym count) c.self.invariant.2 in
    let begun : states c.deref_mut.result.now ≡ states c.self.inside.peers.items = ap states c.deref_mut.ensures.value in
    let running : c.self.inside.stopped ≡ false = ap (λ (n : NcsTables _). n.server.stopped) c.self.view_is ∙ c.requires.running in (
      orders-undone c.self.inside.orders c.args.edit.now c.has_ascending_ids.ensures c.self.inside.journal c.keep_and_give.new.journal c.accept_edit.new.orders c.undo.new.orders c.edit_ro.result.now c.in-Ok.former c.self.invariant.0 c.in-Ok.ensures.former c.in-Ok.ensures.rows c.edit_ro.ensures
          c.undo.ensures c.in-Err-keep_and_give.ensures.journal_err,
      few,
      one,
      known-unkept c.self.inside.stopped c.is_failed-self-inside.result (g.K.Keeper.kept c.self.inside.keeper) (g.K.Keeper.kept c.keep_and_give.new.keeper) (g.K.Keeper.faults c.self.inside.keeper) (g.K.Keeper.faults c.keep_and_give.new.keeper) (g.K.Keeper.certainty c.self.inside.keeper) (g.K.Keeper.certainty c.keep_and_give.new.keeper) c.self.inside.journal c.keep_and_give.new.journal (entry_of c.args.edit.now)
          c.in-Err-keep_and_give.fault running c.is_failed-self-inside.ensures c.self.invariant.3 c.in-Err-keep_and_give.ensures.appends c.in-Err-keep_and_give.ensures.certainty c.in-Err-keep_and_give.ensures.journal_err,
      looked-same c.self.inside.journal c.keep_and_give.new.journal (states c.self.inside.peers.items) (states (with_items c.self.inside.peers c.keep_and_give.new.peers).items) c.self.inside.looks c.in-Err-keep_and_give.ensures.journal_err (ap states whole ∙ (c.in-Err-keep_and_give.ensures.peers_err ∙ begun)) c.self.invariant.4,
      c.keep_and_give.ensures.scripts,
    )

pub returns-in-Err-clause-step : goal.returns-in-Err-clause-step
returns-in-Err-clause-step g c =
    let e = entry_of c.args.edit.now in
    let journal : c.self.inside.journal ≡ c.args.self.now.server.journal = ap (λ (n : NcsTables _). n.server.journal) c.self.view_is in
    let same = acceptance-here c.self.inside.journal c.args.self.now.server.journal e e c.self.inside.orders c.self.invariant.0 c.has_ascending_ids.ensures refl journal in
    let refused : IsRefusal (acceptance c.args.self.now.server.journal e) c.in-Err.fault = subst (λ (why : Option Refusal). IsRefusal why c.in-Err.fault) same c.in-Err.ensures.fault in
    (refused-tables c.args.self.now _ e c.in-Err.fault c.self.view_is c.requires.running refused).step

pub returns-in-Err-clause-cause : goal.returns-in-Err-clause-cause
returns-in-Err-clause-cause g c =
    let e = entry_of c.args.edit.now in
    let journal : c.self.inside.journal ≡ c.args.self.now.server.journal = ap (λ (n : NcsTables _). n.server.journal) c.self.view_is in
    let same = acceptance-here c.self.inside.journal c.args.self.now.server.journal e e c.self.inside.orders c.self.invariant.0 c.has_ascending_ids.ensures refl journal in
    let refused : IsRefusal (acceptance c.args.self.now.server.journal e) c.in-Err.fault = subst (λ (why : Option Refusal). IsRefusal why c.in-Err.fault) same c.in-Err.ensures.fault in
    (refused-tables c.args.self.now _ e c.in-Err.fault c.self.view_is c.requires.running refused).cause

pub returns-in-Ok-keep_and_give-clause-step : goal.returns-in-Ok-keep_and_give-clause-step
returns-in-Ok-keep_and_give-clause-step g c =
    let e = entry_of c.args.edit.now in
    let journal : c.self.inside.journal ≡ c.args.self.now.server.journal = ap (λ (n : NcsTables _). n.server.journal) c.self.view_is in
    let same = acceptance-here c.self.inside.journal c.args.self.now.server.journal e e c.self.inside.orders c.self.invariant.0 c.has_ascending_ids.ensures refl journal in
    let peers : (with_items c.self.inside.peers c.keep_and_give.new.peers).items ≡ c.keep_and_give.new.peers = with_items_is c.self.inside.peers c.keep_and_give.new.peers (c.keep_and_give.auto.peers ∙ c.deref_mut.ensures.len) in
    let begun : states c.deref_mut.result.now ≡ states c.self.inside.peers.items = ap states c.deref_mut.ensures.value in
    let u : NcsTables _ = record { server = record { journal = c.keep_and_give.new.journal; stopped = c.self.inside.stopped; faults = g.K.Keeper.faults c.keep_and_give.new.keeper; peers = (with_items c.self.inside.peers c.keep_and_give.new.peers).items }; keeper = c.keep_and_give.new.keeper; kept = g.K.Keeper.kept c.keep_and_give.new.keeper } in
    (taken-tables c.args.self.now _ e u c.self.view_is c.requires.running (sym same ∙ c.in-Ok.ensures.accepted) c.in-Ok-keep_and_give.ensures.journal refl
    (ap states peers ∙ (c.in-Ok-keep_and_give.ensures.peers ∙ (λ i. λ d. peer_given e (entry_count c.self.inside.journal e.ro) (begun i d)))) c.keep_and_give.ensures.rises c.in-Ok-keep_and_give.ensures.appends).step

pub returns-in-Ok-keep_and_give-clause-cause : goal.returns-in-Ok-keep_and_give-clause-cause
returns-in-Ok-keep_and_give-clause-cause g c =
    let e = entry_of c.args.edit.now in
    let journal : c.self.inside.journal ≡ c.args.self.now.server.journal = ap (λ (n : NcsTables _). n.server.journal) c.self.view_is in
    let same = acceptance-here c.self.inside.journal c.args.self.now.server.journal e e c.self.inside.orders c.self.invariant.0 c.has_ascending_ids.ensures refl journal in
    let peers : (with_items c.self.inside.peers c.keep_and_give.new.peers).items ≡ c.keep_and_give.new.peers = with_items_is c.self.inside.peers c.keep_and_give.new.peers (c.keep_and_give.auto.peers ∙ c.deref_mut.ensures.len) in
    let begun : states c.deref_mut.result.now ≡ states c.self.inside.peers.items = ap states c.deref_mut.ensures.value in
    let u : NcsTables _ = record { server = record { journal = c.keep_and_give.new.journal; stopped = c.self.inside.stopped; faults = g.K.Keeper.faults c.keep_and_give.new.keeper; peers = (with_items c.self.inside.peers c.keep_and_give.new.peers).items }; keeper = c.keep_and_give.new.keeper; kept = g.K.Keeper.kept c.keep_and_give.new.keeper } in
    (taken-tables c.args.self.now _ e u c.self.view_is c.requires.running (sym same ∙ c.in-Ok.ensures.accepted) c.in-Ok-keep_and_give.ensures.journal refl
    (ap states peers ∙ (c.in-Ok-keep_and_give.ensures.peers ∙ (λ i. λ d. peer_given e (entry_count c.self.inside.journal e.ro) (begun i d)))) c.keep_and_give.ensures.rises c.in-Ok-keep_and_give.ensures.appends).cause

pub returns-in-Err-keep_and_give-clause-step : goal.returns-in-Err-keep_and_give-clause-step
returns-in-Err-keep_and_give-clause-step g c =
    let e = entry_of c.args.edit.now in
    let journal : c.self.inside.journal ≡ c.args.self.now.server.journal = ap (λ (n : NcsTables _). n.server.journal) c.self.view_is in
    let same = acceptance-here c.self.inside.journal c.args.self.now.server.journal e e c.self.inside.orders c.self.invariant.0 c.has_ascending_ids.ensures refl journal in
    let peers : (with_items c.self.inside.peers c.keep_and_give.new.peers).items ≡ c.keep_and_give.new.peers = with_items_is c.self.inside.peers c.keep_and_give.new.peers (c.keep_and_give.auto.peers ∙ c.deref_mut.ensures.len) in
    let begun : states c.deref_mut.result.now ≡ states c.self.inside.peers.items = ap states c.deref_mut.ensures.value in
    let u : NcsTables _ = record { server = record { journal = c.keep_and_give.new.journal; stopped = c.is_failed-self-inside.result; faults = g.K.Keeper.faults c.keep_and_give.new.keeper; peers = (with_items c.self.inside.peers c.keep_and_give.new.peers).items }; keeper = c.keep_and_give.new.keeper; kept = g.K.Keeper.kept c.keep_and_give.new.keeper } in
    (unkept-tables c.args.self.now _ e u c.in-Err-keep_and_give.fault c.command_fault.result c.command_fault.ensures c.self.view_is c.requires.running (sym same ∙ c.in-Ok.ensures.accepted) c.in-Err-keep_and_give.ensures.journal_err c.is_failed-self-inside.ensures
    (ap states peers ∙ (c.in-Err-keep_and_give.ensures.peers_err ∙ begun)) c.keep_and_give.ensures.rises c.in-Err-keep_and_give.ensures.appends).step

pub returns-in-Err-keep_and_give-clause-cause : goal.returns-in-Err-keep_and_give-clause-cause
returns-in-Err-keep_and_give-clause-cause g c =
    let e = entry_of c.args.edit.now in
    let journal : c.self.inside.journal ≡ c.args.self.now.server.journal = ap (λ (n : NcsTables _). n.server.journal) c.self.view_is in
    let same = acceptance-here c.self.inside.journal c.args.self.now.server.journal e e c.self.inside.orders c.self.invariant.0 c.has_ascending_ids.ensures refl journal in
    let peers : (with_items c.self.inside.peers c.keep_and_give.new.peers).items ≡ c.keep_and_give.new.peers = with_items_is c.self.inside.peers c.keep_and_give.new.peers (c.keep_and_give.auto.peers ∙ c.deref_mut.ensures.len) in
    let begun : states c.deref_mut.result.now ≡ states c.self.inside.peers.items = ap states c.deref_mut.ensures.value in
    let u : NcsTables _ = record { server = record { journal = c.keep_and_give.new.journal; stopped = c.is_failed-self-inside.result; faults = g.K.Keeper.faults c.keep_and_give.new.keeper; peers = (with_items c.self.inside.peers c.keep_and_give.new.peers).items }; keeper = c.keep_and_give.new.keeper; kept = g.K.Keeper.kept c.keep_and_give.new.keeper } in
    (unkept-tables c.args.self.now _ e u c.in-Err-keep_and_give.fault c.command_fault.result c.command_fault.ensures c.self.view_is c.requires.running (sym same ∙ c.in-Ok.ensures.accepted) c.in-Err-keep_and_give.ensures.journal_err c.is_failed-self-inside.ensures
    (ap states peers ∙ (c.in-Err-keep_and_give.ensures.peers_err ∙ begun)) c.keep_and_give.ensures.rises c.in-Err-keep_and_give.ensures.appends).cause

pub returns-in-Err-keep_and_give-clause-leaves : goal.returns-in-Err-keep_and_give-clause-leaves
returns-in-Err-keep_and_give-clause-leaves g c =
    let e = entry_of c.args.edit.now in
    let journal : c.self.inside.journal ≡ c.args.self.now.server.journal = ap (λ (n : NcsTables _). n.server.journal) c.self.view_is in
    let same = acceptance-here c.self.inside.journal c.args.self.now.server.journal e e c.self.inside.orders c.self.invariant.0 c.has_ascending_ids.ensures refl journal in
    let peers : (with_items c.self.inside.peers c.keep_and_give.new.peers).items ≡ c.keep_and_give.new.peers = with_items_is c.self.inside.peers c.keep_and_give.new.peers (c.keep_and_give.auto.peers ∙ c.deref_mut.ensures.len) in
    let begun : states c.deref_mut.result.now ≡ states c.self.inside.peers.items = ap states c.deref_mut.ensures.value in
    let u : NcsTables _ = record { server = record { journal = c.keep_and_give.new.journal; stopped = c.is_failed-self-inside.result; faults = g.K.Keeper.faults c.keep_and_give.new.keeper; peers = (with_items c.self.inside.peers c.keep_and_give.new.peers).items }; keeper = c.keep_and_give.new.keeper; kept = g.K.Keeper.kept c.keep_and_give.new.keeper } in
    (unkept-tables c.args.self.now _ e u c.in-Err-keep_and_give.fault c.command_fault.result c.command_fault.ensures c.self.view_is c.requires.running (sym same ∙ c.in-Ok.ensures.accepted) c.in-Err-keep_and_give.ensures.journal_err c.is_failed-self-inside.ensures
    (ap states peers ∙ (c.in-Err-keep_and_give.ensures.peers_err ∙ begun)) c.keep_and_give.ensures.rises c.in-Err-keep_and_give.ensures.appends).leaves

pub returns-in-Err-clause-keeper : goal.returns-in-Err-clause-keeper
returns-in-Err-clause-keeper g c = refused-keeper g.K.Keeper.appended c.args.self.now.keeper c.self.inside.keeper (entry_of c.args.edit.now) _ c.in-Err.fault c.in-Err.ensures.fault (ap (λ (n : NcsTables _). n.keeper) c.self.view_is)

pub returns-in-Err-keep_and_give-clause-keeper : goal.returns-in-Err-keep_and_give-clause-keeper
returns-in-Err-keep_and_give-clause-keeper g c =
    subst (λ (k : _). LeavesKeeper g.K.Keeper.appended k c.keep_and_give.new.keeper (entry_of c.args.edit.now) (Err c.command_fault.result)) (ap (λ (n : NcsTables _). n.keeper) c.self.view_is)
    (unkept-keeper g.K.Keeper.appended c.self.inside.keeper c.keep_and_give.new.keeper (entry_of c.args.edit.now) c.in-Err-keep_and_give.fault c.command_fault.result c.command_fault.ensures c.in-Err-keep_and_give.ensures.leaves)

pub keep_and_give-requires-clause-scripts : goal.keep_and_give-requires-clause-scripts
keep_and_give-requires-clause-scripts g c = c.self.invariant.5

pub keep_and_give-requires-clause-accepted : goal.keep_and_give-requires-clause-accepted
keep_and_give-requires-clause-accepted g c =
    sym (acceptance-here c.self.inside.journal c.self.inside.journal (entry_of c.args.edit.now) (entry_of c.args.edit.now) c.self.inside.orders c.self.invariant.0 c.has_ascending_ids.ensures refl refl) ∙ c.in-Ok.ensures.accepted
