use Rattle.std.proofs.Common.{[], ◌∷◌, ◌++◌, ap, ◌∙◌, eq-eqb, ne_eqb}
use Rattle.mos_scanner.specs.ScannerView.{raw_of, resolved, tag_of, given_name}
use Rattle.mos_scanner.proofs.PartLemmas.{chars_more}
use Rattle.mos_scanner.proofs.TagLemmas.{open_more}
use Rattle.mos_scanner.proofs.TextLemmas.{value_reference_step, value_step}
use Rattle.mos_scanner.proofs.LexSteps.{value_ends, value_less}
use Rattle.mos_scanner.proofs.scanner.Scanner.in_value.Goals as goal

pub returns-in_ok-push : goal.returns-in_ok-push
returns-in_ok-push c = record {
  same = value_ends c.args.outside c.args.c (tag_of c.args.self.now c.args.held.now) (given_name c.args.self.now c.args.held.now) c.args.self.now.quote (resolved c.args.self.now c.args.held.now c.args.self.now.value_start c.args.here) (raw_of c.args.self.now c.args.held.now c.args.here) (c.in_ok-push.ensures.items ∙ ap (λ a. c.args.self.now.attributes.items ++ a ∷ []) c.in_ok-attribute.ensures) (chars_more c.args.held.now c.args.self.now.start c.args.here c.args.next c.args.c c.requires.sound.valued.given.tag.whole c.requires.character) (eq-eqb c.args.c c.args.self.now.quote c.if-c-self.true) c.requires.sound.valued.quoted;
  sound = open_more c.args.held.now c.args.self.now.start c.args.self.now.name_end c.args.here c.args.next c.args.c c.requires.sound.valued.given.tag c.requires.character;
}

pub returns-in_ok-resolve : goal.returns-in_ok-resolve
returns-in_ok-resolve c = value_reference_step c.args.self.now c.resolve.new.self c.args.outside c.args.held.now c.args.here c.args.next c.args.c c.requires.sound c.requires.character (ne_eqb c.args.c c.args.self.now.quote c.if-c-self.false) (eq-eqb c.args.c 38 c.if-c-eq38.true) c.in_ok-resolve.ensures.same c.in_ok-resolve.ensures.text

pub returns-then-c-eq60 : goal.returns-then-c-eq60
returns-then-c-eq60 c = record {
  same = value_less c.args.outside c.args.c (tag_of c.args.self.now c.args.held.now) (given_name c.args.self.now c.args.held.now) c.args.self.now.quote (resolved c.args.self.now c.args.held.now c.args.self.now.value_start c.args.here) (raw_of c.args.self.now c.args.held.now c.args.here) (ne_eqb c.args.c c.args.self.now.quote c.if-c-self.false) (ne_eqb c.args.c 38 c.if-c-eq38.false) (eq-eqb c.args.c 60 c.if-c-eq60.true);
  sound = tt;
}

pub returns-in_ok-grow_resolved : goal.returns-in_ok-grow_resolved
returns-in_ok-grow_resolved c = value_step c.args.self.now c.grow_resolved.new.self c.args.outside c.args.held.now c.args.here c.args.next c.args.c c.requires.mode c.requires.sound c.requires.character (ne_eqb c.args.c c.args.self.now.quote c.if-c-self.false) (ne_eqb c.args.c 38 c.if-c-eq38.false) (ne_eqb c.args.c 60 c.if-c-eq60.false) c.in_ok-grow_resolved.ensures.same c.in_ok-grow_resolved.ensures.grown
