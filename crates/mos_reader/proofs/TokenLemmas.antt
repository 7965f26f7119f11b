-- What taking a token comes to in the definition's terms.
use Rattle.std.proofs.Common.{◌≡◌, ℕ, true, cond, List, [], Some, None, Result, Ok, Err, refl, sym, ap, ◌∙◌, subst}
use Rattle.mos_fields.specs.Characters.{Text}
use Rattle.mos_grammar.specs.Tokens.{Token, text}
use Rattle.mos_grammar.specs.declared.fault.Fault.{Fault}
use Rattle.mos_grammar.specs.RecordMachine.{at, complete, between, in_field, behind_text, in_raw}
use Rattle.mos_grammar.specs.Streams.{Position, before_message, inside, before_prolog, message_step}
use Rattle.mos_lexer.specs.LexMachine.{LexState, begin, in_tail}
use Rattle.mos_lexer.specs.Units.{UnitStep, reads_on, completes, rejects, lex_at, behind, at_token, kind_of, is_outside}
use Rattle.mos_elements.specs.Standing.{Standing, reads, failed, progress_of, standing_of, value_of, taken_of, TakesStep, Takes}
use Rattle.mos_elements.specs.Ahead.{stands_outside, stands_in_raw}
use Rattle.mos_elements.specs.declared.fault.FrameFault.{FrameFault}
use Rattle.mos_elements.specs.declared.progress.Progress.{Progress}
use Rattle.mos_elements.specs.declared.progress.Progress.TheVariants.{More, Whole}
use Rattle.mos_scanner.specs.ScannerView.{kind_token, tag_name, IsWhole}
use Rattle.mos_scanner.specs.declared.scanner.Scanner.{Scanner}
use Rattle.mos_scanner.specs.declared.scanned.Kind.{Kind as TokenKind}
use Rattle.mos_scanner.specs.declared.scanned.Kind.TheVariants.{OpenTag, EmptyTag, CloseTag, Tail, Mark, Declaration}
use Rattle.mos_reader.specs.Places.{IsComplete, position_of, value_at}
use Rattle.mos_reader.proofs.RawNames.{opened_name, raw_is_opened, no_text_completes}

-- where reading stands as long as it hasn't failed, a token takes a step from there
pub takes_step : (st new : Standing) (t : Token) (r : Result Progress FrameFault) → st ≡ reads (position_of st) → Takes st t r new → TakesStep (message_step (position_of st) t) r new
takes_step st new t r e h = subst (λ z. Takes z t r new) e h

pub outside_is : (st : Standing) → st ≡ reads (position_of st) → stands_outside st ≡ is_outside (position_of st)
outside_is (reads (before_message g)) e = refl
outside_is (reads (inside s)) e = refl
outside_is (failed k) e = absurd cc

pub outside_cond : (st : Standing) (a b : ℕ) → st ≡ reads (position_of st) → cond (stands_outside st) a b ≡ cond (is_outside (position_of st)) a b
outside_cond st a b e = ap (λ z. cond z a b) (outside_is st e)

-- ---- the message goes on

-- the next position
pub record Took (w : Result Position Fault) (new : Standing) : Type 0 where
  pub step : w ≡ Ok (position_of new)
  pub stands : new ≡ reads (position_of new)

pub took : (w : Result Position Fault) (new : Standing) → progress_of w ≡ Ok More → new ≡ standing_of w → Took w new
took (Ok (before_message g)) new h e = record { step = ap (λ z. Ok (position_of z)) (sym e); stands = e ∙ ap (λ z. reads (position_of z)) (sym e) }
took (Ok (inside (at m f fs))) new h e = record { step = ap (λ z. Ok (position_of z)) (sym e); stands = e ∙ ap (λ z. reads (position_of z)) (sym e) }
took (Ok (inside (complete v))) new h e = absurd (cc)
took (Err k) new h e = absurd (cc)

-- behind a token that fits and completes no message
pub behind_more : (w : Result Position Fault) (new : Standing) (f : Position → LexState) (place opened start count : ℕ) → progress_of w ≡ Ok More → new ≡ standing_of w
    → at_token place w (λ p. behind opened start count (f p) p) ≡ reads_on (record { position = position_of new; lex = f (position_of new); start = start; opened = opened; count = count; high = None })
behind_more (Ok (before_message g)) new f place opened start count h e = ap (λ z. reads_on (record { position = position_of z; lex = f (position_of z); start = start; opened = opened; count = count; high = None })) (sym e)
behind_more (Ok (inside (at m k ks))) new f place opened start count h e = ap (λ z. reads_on (record { position = position_of z; lex = f (position_of z); start = start; opened = opened; count = count; high = None })) (sym e)
behind_more (Ok (inside (complete v))) new f place opened start count h e = absurd (cc)
behind_more (Err k) new f place opened start count h e = absurd (cc)

-- behind a token that completes a message
pub behind_whole : (w : Result Position Fault) (new : Standing) (f : Position → LexState) (place opened start count : ℕ) → progress_of w ≡ Ok Whole → new ≡ standing_of w
    → at_token place w (λ p. behind opened start count (f p) p) ≡ completes opened (value_at new)
behind_whole (Ok (before_message g)) new f place opened start count h e = absurd (cc)
behind_whole (Ok (inside (at m k ks))) new f place opened start count h e = absurd (cc)
behind_whole (Ok (inside (complete u))) new f place opened start count h e = ap (λ z. completes opened (value_at z)) (sym e)
behind_whole (Err k) new f place opened start count h e = absurd (cc)

pub whole_stands : (w : Result Position Fault) (new : Standing) → progress_of w ≡ Ok Whole → new ≡ standing_of w → IsComplete new
whole_stands (Ok (before_message g)) new h e = absurd (cc)
whole_stands (Ok (inside (at m k ks))) new h e = absurd (cc)
whole_stands (Ok (inside (complete u))) new h e = e ∙ ap (λ z. reads (inside (complete (value_at z)))) (sym e)
whole_stands (Err k) new h e = absurd (cc)

-- a text completes none
pub text_not_whole : (p : Position) (x y : Text) → progress_of (message_step p (text x y)) ≡ Ok Whole → ⊥
text_not_whole p x y h = go (message_step p (text x y)) refl h
  where
    go : (w : Result Position Fault) → message_step p (text x y) ≡ w → progress_of w ≡ Ok Whole → ⊥
    go (Ok (before_message g)) e h = absurd (cc)
    go (Ok (inside (at m k ks))) e h = absurd (cc)
    go (Ok (inside (complete u))) e h = no_text_completes p x y u e
    go (Err k) e h = absurd (cc)

pub text_stops : (st new : Standing) (t : Token) (x y : Text) (g : Progress) → st ≡ reads (position_of st) → Takes st t (Ok g) new → t ≡ text x y → g ≡ Whole → ⊥
text_stops st new t x y g e h i j =
    text_not_whole (position_of st) x y (takes_step st new (text x y) (Ok Whole) e (subst (λ z. Takes st z (Ok Whole) new) i (subst (λ z. Takes st t (Ok z) new) j h))).0

-- a token that doesn't fit
pub behind_fault : (w : Result Position Fault) (k : Fault) (place : ℕ) (f : Position → UnitStep) → w ≡ Err k → at_token place w f ≡ rejects place (kind_of k)
behind_fault w k place f e = ap (λ z. at_token place z f) e

-- ---- how the next token begins

some_same : (n m : Text) → Some n ≡ Some m → n ≡ m
some_same n m e = cc

opened_is : (k : TokenKind) (s : Scanner) (held : List ℕ) (next : ℕ) (n : Text) → opened_name (kind_token k s held next) ≡ Some n → (k ≡ OpenTag) × (n ≡ tag_name s held)
opened_is OpenTag s held next n e = (refl, some_same n (tag_name s held) (sym e))
opened_is EmptyTag s held next n e = absurd (cc)
opened_is CloseTag s held next n e = absurd (cc)
opened_is Tail s held next n e = absurd (cc)
opened_is Mark s held next n e = absurd (cc)
opened_is Declaration s held next n e = absurd (cc)

-- behind a token of the scanner, in a raw element where that was its start tag
pub next_lex : (p q : Position) (k : TokenKind) (s : Scanner) (held : List ℕ) (next : ℕ) → message_step p (kind_token k s held next) ≡ Ok q → cond (stands_in_raw (reads q)) (in_tail (tag_name s held) []) begin ≡ lex_at q
next_lex p (before_message g) k s held next e = refl
next_lex p (inside (complete v)) k s held next e = refl
next_lex p (inside (at between f fs)) k s held next e = refl
next_lex p (inside (at (in_field n o) f fs)) k s held next e = refl
next_lex p (inside (at (behind_text n o es) f fs)) k s held next e = refl
next_lex p (inside (at (in_raw n c x) f fs)) k s held next e = ap (λ z. in_tail z []) (sym (opened_is k s held next n (raw_is_opened p (kind_token k s held next) n c x f fs e)).1)

pub next_open : (p q : Position) (k : TokenKind) (s : Scanner) (held : List ℕ) (next : ℕ) → message_step p (kind_token k s held next) ≡ Ok q → stands_in_raw (reads q) ≡ true → IsWhole k s held next → IsWhole OpenTag s held next
next_open p (before_message g) k s held next e r w = absurd (cc)
next_open p (inside (complete v)) k s held next e r w = absurd (cc)
next_open p (inside (at between f fs)) k s held next e r w = absurd (cc)
next_open p (inside (at (in_field n o) f fs)) k s held next e r w = absurd (cc)
next_open p (inside (at (behind_text n o es) f fs)) k s held next e r w = absurd (cc)
next_open p (inside (at (in_raw n c x) f fs)) k s held next e r w = subst (λ z. IsWhole z s held next) (opened_is k s held next n (raw_is_opened p (kind_token k s held next) n c x f fs e)).0 w

-- ---- a message that is whole

pub complete_value : (s : Standing) → IsComplete s → value_of s ≡ Some (value_at s)
complete_value s e = ap value_of e

pub complete_taken : (s : Standing) → IsComplete s → taken_of s ≡ reads (before_message before_prolog)
complete_taken s e = ap taken_of e
