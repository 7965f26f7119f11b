use Rattle.std.proofs.Common.{◌≡◌, Bool, Some, sym, ap, ◌∙◌, if◌then◌else◌}
use Rattle.mos_edits.specs.Texts.{Text}
use Rattle.mos_machines.specs.Device.GateOut.{AsksFor}
use Rattle.mos_machines.specs.Values.{seen}
use Rattle.deck_nodes.specs.DeckCalls.{answer_call}
use Rattle.deck_nodes.specs.DeckCalls.DeckCall.{NoCall, Load}
use Rattle.deck_nodes.specs.Telling.{is_list_of}
use Rattle.deck_nodes.proofs.UpperSteps.{listed-if, listed-is}
use Rattle.deck_nodes.proofs.lists.listed.Goals as goal

pub returns-in_ok-try_clone : goal.returns-in_ok-try_clone
returns-in_ok-try_clone c =
    let r = c.args.asked.now in
    listed-if (is_list_of r c.args.m.now) r _ (answer_call (AsksFor r) (seen c.args.m.now)) (sym (listed-is r c.args.m.now)) (sym c.is_list_of.ensures ∙ c.if-is_list_of.true) (ap (λ (x : Text). Some x) c.in_ok-try_clone.ensures)

pub returns-else-is_list_of : goal.returns-else-is_list_of
returns-else-is_list_of c =
    let r = c.args.asked.now in
    ap (λ (b : Bool). if b then Load r else NoCall) (sym c.if-is_list_of.false ∙ c.is_list_of.ensures) ∙ sym (listed-is r c.args.m.now)
