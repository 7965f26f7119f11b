-- Runs of characters behind which the same token goes on.
use Rattle.std.specs.Prelude.{◌≡◌, ℕ, Bool, true, List, [], ◌∷◌, length, Option, Some, None, ◌≤◌, ◌==◌, ◌&&◌, not, nat_le}
use Rattle.std.specs.List.{list_all}
use Rattle.mos_lexer.specs.LexMachine.{LexState, LexStep, continues, whole_token, text_before, text_before_mark, no_token, no_reference, lex_step}
use Rattle.mos_scanner.specs.Parts.{part}
use Rattle.mos_scanner.specs.ScannerView.{lex_of, IsSound}
use Rattle.mos_scanner.specs.declared.scanner.Scanner.{Scanner}

-- a unit that is an allowed character by itself: U+0020 to U+D7FF
abbrev pub is_lone : ℕ → Bool
is_lone u = nat_le 32 u && nat_le u 55295

-- such a unit that is none of these three
abbrev pub is_plain_but : ℕ → ℕ → ℕ → ℕ → Bool
is_plain_but p q r u = is_lone u && not (u == p) && not (u == q) && not (u == r)

abbrev pub goes_on : LexStep → (LexState → Option LexState) → Option LexState
goes_on (continues l) f = f l
goes_on (whole_token t) f = None
goes_on (text_before raw y l) f = None
goes_on (text_before_mark raw y) f = None
goes_on no_token f = None
goes_on (no_reference k) f = None

-- the state behind characters, where the token goes on behind each of them
abbrev pub lex_run : Bool → LexState → List ℕ → Option LexState
lex_run outside l [] = Some l
lex_run outside l (c ∷ cs) = goes_on (lex_step outside l c) (λ m. lex_run outside m cs)

-- The units from here up to the next place are characters by themselves, behind each of which the token goes on: the
-- scanner has read them.
pub record IsRun (old new : Scanner) (held : List ℕ) (here next : ℕ) : Type 0 where
  pub onward : here ≤ next
  pub within : next ≤ length held
  pub lone : list_all is_lone (part held here next) ≡ true
  pub same : (outside : Bool) → lex_run outside (lex_of old held here) (part held here next) ≡ Some (lex_of new held next)
  pub sound : IsSound new held next
