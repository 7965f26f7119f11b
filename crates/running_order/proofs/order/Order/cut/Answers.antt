use Rattle.std.proofs.Common.{◌≡◌, ◌+◌, ◌-◌, ◌<◌, ◌≤◌, suc, length, take, remove, refl, sym, ap, ◌∙◌, arith, length-take-le}
use Rattle.std.proofs.lemmas.List.{take_all}
use Rattle.mos_edits.specs.Orders.{Order}
use Rattle.running_order.proofs.Lists.{taken_less}
use Rattle.running_order.proofs.order.Order.cut.Goals as goal

pub loop-k-init : goal.loop-k-init
loop-k-init c =
    let all = c.args.self.now.stories in
    record {
      header = refl;
      scripts = refl;
      bound = omega arith;
      rest = sym (take_all (c.len-end.result - 0) all (omega (arith, c.len-end.ensures)));
    }

pub take_out-requires : goal.take_out-requires
take_out-requires c =
    let all = c.args.self.now.stories in
    let end = c.len-end.result in
    let k = c.loop-k.k in
    let le : end - k ≤ length all = omega (arith, c.len-end.ensures) in
    let long = ap length c.loop-k.invariant.rest ∙ length-take-le (end - k) all le in
    omega (arith, long, c.loop-k-test.true, c.len-end.ensures, c.requires)

pub loop-k-preserved : goal.loop-k-preserved
loop-k-preserved c =
    let all = c.args.self.now.stories in
    let end = c.len-end.result in
    let k = c.loop-k.k in
    let at = end - 1 - k in
    let more : end - k ≡ suc at = omega (arith, c.loop-k-test.true, c.len-end.ensures, c.requires) in
    let less : at ≡ end - (k + 1) = omega (arith, c.loop-k-test.true, c.len-end.ensures, c.requires) in
    let within : at < length all = omega (arith, c.loop-k-test.true, c.len-end.ensures, c.requires) in
    record {
      header = ap (λ (o : Order). o.header) c.take_out.ensures ∙ c.loop-k.invariant.header;
      scripts = ap (λ (o : Order). o.scripts) c.take_out.ensures ∙ c.loop-k.invariant.scripts;
      bound = omega (arith, c.loop-k-test.true);
      rest = ap (λ (o : Order). o.stories) c.take_out.ensures ∙ ap (λ l. remove l at) (c.loop-k.invariant.rest ∙ ap (λ n. take n all) more) ∙ taken_less all at within ∙ ap (λ n. take n all) less;
    }

pub returns : goal.returns
returns c =
    let all = c.args.self.now.stories in
    let same : c.len-end.result - c.loop-k.k ≡ c.args.left = omega (arith, c.loop-k-test.false, c.loop-k.invariant.bound, c.len-end.ensures, c.requires) in
    λ j. record { header = c.loop-k.invariant.header j; stories = (c.loop-k.invariant.rest ∙ ap (λ n. take n all) same) j; scripts = c.loop-k.invariant.scripts j }
