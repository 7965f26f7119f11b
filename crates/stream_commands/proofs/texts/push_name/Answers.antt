use Rattle.std.proofs.Common.{◌≡◌, ◌++◌, ◌∷◌, [], length, take, drop, ◌-◌, sym, ap, ◌∙◌}
use Rattle.std.specs.Prelude.{string_bytes}
use Rattle.std.proofs.lemmas.List.{append_assoc, append-nil}
use Rattle.stream_commands.specs.Lines.{name_in_front}
use Rattle.stream_commands.proofs.TextLemmas.{further_ascii, no_name, further_name, ended_name}
use Rattle.stream_commands.proofs.texts.push_name.Goals as goal

pub returns : goal.returns
returns c =
    sym (append-nil (string_bytes c.loop-rest.out)) ∙ ap (λ z. string_bytes c.loop-rest.out ++ z) (sym (no_name c.loop-rest.rest.now c.in_default.len_below)) ∙ c.loop-rest.invariant

pub loop-rest-preserved : goal.loop-rest-preserved
loop-rest-preserved c =
    let f = sym c.if-not-is_further.ensures in
    let more = take (length c.loop-rest.rest.now - 1) (drop 1 c.loop-rest.rest.now) in
    ap (λ z. z ++ name_in_front more) (c.in_ok-push.ensures.bytes ∙ ap (λ z. string_bytes c.loop-rest.out ++ z) (c.push.ensures.ascii (further_ascii c.c-item.result f)))
    ∙ append_assoc (string_bytes c.loop-rest.out) (c.c-item.result ∷ []) (name_in_front more)
    ∙ ap (λ z. string_bytes c.loop-rest.out ++ z) (sym (further_name c.loop-rest.rest.now c.c-item.result c.in-len1-up.len_at_least c.c-item.is f))
    ∙ c.loop-rest.invariant

pub returns-then-not-is_further : goal.returns-then-not-is_further
returns-then-not-is_further c =
    sym (append-nil (string_bytes c.loop-rest.out))
    ∙ ap (λ z. string_bytes c.loop-rest.out ++ z) (sym (ended_name c.loop-rest.rest.now c.c-item.result c.in-len1-up.len_at_least c.c-item.is (sym c.if-not-is_further.ensures)))
    ∙ c.loop-rest.invariant
