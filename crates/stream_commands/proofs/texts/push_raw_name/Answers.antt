use Rattle.std.proofs.Common.{◌≡◌, ◌++◌, ◌<◌, ◌≤◌, [], length, take, drop, ◌-◌, sym, ap, ◌∙◌, subst}
use Rattle.std.specs.Prelude.{string_bytes}
use Rattle.std.proofs.lemmas.List.{append-nil}
use Rattle.stream_commands.specs.Lines.{name_in_front, raw_name}
use Rattle.stream_commands.proofs.TextLemmas.{no_raw_name, some_raw_name}
use Rattle.stream_commands.proofs.texts.push_raw_name.Goals as goal

pub returns-in-empty : goal.returns-in-empty
returns-in-empty c =
    let e = c.as_slice.ensures.value ∙ c.in_ok-chars.ensures in
    sym (append-nil (string_bytes c.args.out.now)) ∙ ap (λ z. string_bytes c.args.out.now ++ z) (sym (no_raw_name c.args.text.now (subst (λ z. length z < 1) e c.in-empty.len_below)))

pub returns : goal.returns
returns c =
    let e = c.as_slice.ensures.value ∙ c.in_ok-chars.ensures in
    c.in_ok-push_name-in-len1-up.ensures
    ∙ ap (λ z. string_bytes c.args.out.now ++ z)
    (ap (λ z. name_in_front (take (length z - 1) (drop 1 z))) e ∙ sym (some_raw_name c.args.text.now (subst (λ z. 1 ≤ length z) e c.in-len1-up.len_at_least)))
