use Rattle.std.proofs.Common.{sym, ◌∙◌, subst, eq-eqb, ne_eqb}
use Rattle.mos_scanner.specs.Parts.{IsCharacter}
use Rattle.mos_scanner.specs.ScannerView.{raw_of, resolved}
use Rattle.mos_scanner.proofs.TextLemmas.{text_reference_step, text_step}
use Rattle.mos_scanner.proofs.LexSteps.{text_tag, text_mark}
use Rattle.mos_scanner.proofs.scanner.Scanner.in_text.Goals as goal

pub returns-then-c-eq60 : goal.returns-then-c-eq60
returns-then-c-eq60 c = record {
  same = text_tag c.args.outside c.args.c (raw_of c.args.self.now c.args.held.now c.args.here) (resolved c.args.self.now c.args.held.now c.args.self.now.start c.args.here) (eq-eqb c.args.c 60 c.if-c-eq60.true);
  sound = record { whole = c.requires.sound; tag = subst (IsCharacter c.args.held.now c.args.here c.args.next) c.if-c-eq60.true c.requires.character };
}

pub returns-then-is_mark_behind_white : goal.returns-then-is_mark_behind_white
returns-then-is_mark_behind_white c = record {
  same = text_mark c.args.outside c.args.c (raw_of c.args.self.now c.args.held.now c.args.here) (resolved c.args.self.now c.args.held.now c.args.self.now.start c.args.here) (ne_eqb c.args.c 60 c.if-c-eq60.false) (sym c.is_mark_behind_white.ensures ∙ c.if-is_mark_behind_white.true);
  sound = c.requires.sound;
}

pub returns-in_ok-resolve : goal.returns-in_ok-resolve
returns-in_ok-resolve c = text_reference_step c.args.self.now c.resolve.new.self c.args.outside c.args.held.now c.args.here c.args.next c.args.c c.requires.sound c.requires.character (ne_eqb c.args.c 60 c.if-c-eq60.false) (sym c.is_mark_behind_white.ensures ∙ c.if-is_mark_behind_white.false) (eq-eqb c.args.c 38 c.if-c-eq38.true) c.in_ok-resolve.ensures.same c.in_ok-resolve.ensures.text

pub returns-in_ok-grow_resolved : goal.returns-in_ok-grow_resolved
returns-in_ok-grow_resolved c = text_step c.args.self.now c.grow_resolved.new.self c.args.outside c.args.held.now c.args.here c.args.next c.args.c c.requires.mode c.requires.sound c.requires.character (ne_eqb c.args.c 60 c.if-c-eq60.false) (sym c.is_mark_behind_white.ensures ∙ c.if-is_mark_behind_white.false) (ne_eqb c.args.c 38 c.if-c-eq38.false) c.in_ok-grow_resolved.ensures.same c.in_ok-grow_resolved.ensures.grown
