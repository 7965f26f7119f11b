use Rattle.std.proofs.Common.{◌≡◌, true, sym, ap, ◌∙◌}
use Rattle.mos_machines.specs.Messages.{is_link}
use Rattle.mos_machines.specs.Tables.{gate_of}
use Rattle.mos_machines.specs.Values.{seen}
use Rattle.machine_answers.specs.declared.answers.Heard.TheVariants as heard
use Rattle.gateway_core.specs.Parts.{decks_of}
use Rattle.gateway_core.proofs.TableSteps.{on-ok, if-ok-is}
use Rattle.gateway_core.proofs.UpperSteps.{read-tables, read-says, read-current, not-heartbeat}
use Rattle.gateway_core.proofs.gate.Gate.read_upper.Goals as goal

pub returns-in_default : goal.returns-in_default
returns-in_default c =
    let t = c.args.self.now in
    let m = c.args.m.now in
    let decks = decks_of c.args.decks in
    let link : is_link t.upper c.args.link ≡ true = ap (λ x. is_link x.upper c.args.link) (sym c.self.view_is) ∙ (sym c.is_link.ensures ∙ c.if-not-is_link.false) in
    let step = read-current (gate_of t) c.args.link (seen m) decks link in
    record {
      answer = if-ok-is c.read_other.result _ _ (sym (step.0 ∙ ap (λ a. heard.Say a) (read-says t decks m c.in_default.not-Heartbeat))) c.read_other.ensures.answer;
      step = on-ok c.read_other.result c.read_other.ensures.step (λ e. ap gate_of e ∙ (read-tables t decks (seen m) ∙ sym step.1));
      err = c.read_other.ensures.err;
      heartbeat = λ h. not-heartbeat m c.in_default.not-Heartbeat h;
    }
