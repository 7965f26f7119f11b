use Rattle.std.proofs.Common.{sym, ◌∙◌, inl, inr, ◌≡◌, false}
use Rattle.mos_fields.specs.References.{may_end}
use Rattle.mos_scanner.proofs.ReferenceLemmas.{may_end-past, may_end-none}
use Rattle.mos_scanner.proofs.number.+may_end.Goals as goal

pub returns-then-low-gt1114111 : goal.returns-then-low-gt1114111
returns-then-low-gt1114111 t c = elim c.if-low-gt1114111.either as (λ _. false ≡ may_end c.args.radix c.args.low c.args.high c.args.more) [
  | inl h ↦ sym (may_end-none c.args.radix c.args.low c.args.high c.args.more (sym c.has_allowed.ensures ∙ c.if-has_allowed.false) h)
  | inr h ↦ sym (may_end-past c.args.radix c.args.low c.args.high c.args.more c.requires.some h.1)
]
