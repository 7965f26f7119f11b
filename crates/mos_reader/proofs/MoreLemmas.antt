-- A token was taken and the message goes on: the next token begins.
use Rattle.std.proofs.Common.{◌≡◌, ℕ, true, cond, List, [], Ok, sym, ap, ◌∙◌, subst}
use Rattle.std.specs.Prelude.{None}
use Rattle.mos_grammar.specs.Tokens.{Token}
use Rattle.mos_grammar.specs.Streams.{Position, message_step}
use Rattle.mos_lexer.specs.LexMachine.{LexState, begin, in_tail}
use Rattle.mos_lexer.specs.Units.{reads_on, lex_at, at_token, rests}
use Rattle.mos_lexer.specs.Units.{Reader as ReaderOf}
use Rattle.mos_elements.specs.Standing.{Standing, reads, TakesStep, Takes}
use Rattle.mos_elements.specs.Ahead.{stands_in_raw}
use Rattle.mos_elements.specs.declared.progress.Progress.{Progress}
use Rattle.mos_elements.specs.declared.progress.Progress.TheVariants.{More}
use Rattle.mos_scanner.specs.ScannerView.{kind_token, tag_name, lex_of, IsWhole}
use Rattle.mos_scanner.specs.declared.scanner.Scanner.{Scanner}
use Rattle.mos_scanner.specs.declared.scanned.Kind.{Kind as TokenKind}
use Rattle.mos_scanner.specs.declared.scanned.Kind.TheVariants.{OpenTag}
use Rattle.mos_reader.specs.declared.reading.Reading.{Reading}
use Rattle.mos_reader.specs.Places.{position_of, reader_of}
use Rattle.mos_reader.proofs.TokenLemmas.{takes_step, took, behind_more, next_lex, next_open}

-- the step that the token takes
pub step_more : (st new : Standing) (t u : Token) (g : Progress) → st ≡ reads (position_of st) → Takes st t (Ok g) new → g ≡ More → t ≡ u → TakesStep (message_step (position_of st) u) (Ok More) new
step_more st new t u g e h i j = takes_step st new u (Ok More) e (subst (λ z. Takes st z (Ok More) new) j (subst (λ z. Takes st t (Ok z) new) i h))

-- In a raw element, its start tag is whole.
pub raw_more : (p : Position) (mid : Standing) (k : TokenKind) (s : Scanner) (held : List ℕ) (next : ℕ) → TakesStep (message_step p (kind_token k s held next)) (Ok More) mid → IsWhole k s held next
    → stands_in_raw mid ≡ true → IsWhole OpenTag s held next
raw_more p mid k s held next t w r =
    let q = took (message_step p (kind_token k s held next)) mid t.0 t.1 in
    next_open p (position_of mid) k s held next q.step (ap stands_in_raw (sym q.stands) ∙ r) w

abbrev made : Position → LexState → ℕ → ℕ → ℕ → ReaderOf
made p l a b c = record { position = p; lex = l; start = a; opened = b; count = c; high = None }

-- how the next token begins
pub record Rests (mid : Standing) (s : Scanner) (held : List ℕ) (next place : ℕ) (new : Reading) : Type 0 where
  pub frames : new.frames ≡ mid
  pub state : lex_of new.scanner held next ≡ cond (stands_in_raw mid) (in_tail (tag_name s held) []) begin
  pub start : new.start ≡ next
  pub opened : new.opened ≡ place
  pub here : new.here ≡ next

-- It is what the definition says.
pub rest_same : (p : Position) (mid : Standing) (k : TokenKind) (s : Scanner) (held : List ℕ) (next place opened : ℕ) (new : Reading) → TakesStep (message_step p (kind_token k s held next)) (Ok More) mid → Rests mid s held next opened new
    → reads_on (reader_of new held) ≡ at_token place (message_step p (kind_token k s held next)) (rests opened next)
rest_same p mid k s held next place opened new t r =
    let q = took (message_step p (kind_token k s held next)) mid t.0 t.1 in
    let l : lex_of new.scanner held next ≡ lex_at (position_of mid) =
    r.state ∙ (ap (λ z. cond (stands_in_raw z) (in_tail (tag_name s held) []) begin) q.stands ∙ next_lex p (position_of mid) k s held next q.step) in
    ap reads_on
    (ap (λ z. made (position_of z) (lex_of new.scanner held new.here) new.start new.opened new.here) r.frames
    ∙ (ap (λ z. made (position_of mid) (lex_of new.scanner held z) new.start new.opened z) r.here
    ∙ (ap (λ z. made (position_of mid) z new.start new.opened next) l
    ∙ (ap (λ z. made (position_of mid) (lex_at (position_of mid)) z new.opened next) r.start
    ∙ ap (λ z. made (position_of mid) (lex_at (position_of mid)) next z next) r.opened))))
    ∙ sym (behind_more (message_step p (kind_token k s held next)) mid lex_at place opened next next t.0 t.1)
