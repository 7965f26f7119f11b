-- Where nothing was read, and where more is held.
use Rattle.std.proofs.Common.{◌≡◌, ℕ, List, ◌++◌, take, sym, ap, ◌∙◌, subst, arith}
use Rattle.std.specs.Prelude.{None}
use Rattle.std.proofs.lemmas.List.{take-append-le, length-append}
use Rattle.mos_grammar.specs.Streams.{Position, before_message, before_prolog}
use Rattle.mos_lexer.specs.LexMachine.{LexState, begin}
use Rattle.mos_lexer.specs.Units.{start_reader, still_reads, unit_run}
use Rattle.mos_lexer.specs.Units.{Reader as ReaderOf}
use Rattle.mos_elements.specs.Standing.{reads}
use Rattle.mos_scanner.specs.ScannerView.{lex_of, IsSound}
use Rattle.mos_reader.specs.declared.reading.Reading.{Reading}
use Rattle.mos_reader.specs.Places.{position_of, HasRead}
use Rattle.mos_reader.proofs.UnitForms.{nothing_read}

abbrev made : Position → LexState → ℕ → ℕ → ℕ → ReaderOf
made p l a b c = record { position = p; lex = l; start = a; opened = b; count = c; high = None }

-- in front of a message, where nothing was read
pub record IsFresh (r : Reading) (held : List ℕ) : Type 0 where
  pub stands : r.frames ≡ reads (before_message before_prolog)
  pub lex : lex_of r.scanner held 0 ≡ begin
  pub sound : IsSound r.scanner held 0
  pub start : r.start ≡ 0
  pub opened : r.opened ≡ 0
  pub here : r.here ≡ 0

pub fresh_read : (r : Reading) (held : List ℕ) → IsFresh r held → HasRead r held
fresh_read r held f =
    let a = f.start in
    let b = f.opened in
    let c = f.here in
    record {
      sound = record {
        placed = record {
          stands = f.stands ∙ ap (λ z. reads (position_of z)) (sym f.stands);
          begun = omega (arith, a, c);
          openable = omega (arith, b, c);
        };
        scanned = subst (λ k. IsSound r.scanner held k) (sym c) f.sound;
        within = omega (arith, c);
      };
      short = omega (arith, c);
      same =
          ap (λ k. unit_run start_reader (take k held)) c
          ∙ (nothing_read start_reader
          ∙ ap still_reads (sym (ap (λ z. made (position_of z) (lex_of r.scanner held r.here) r.start r.opened r.here) f.stands
          ∙ (ap (λ k. made (before_message before_prolog) (lex_of r.scanner held k) r.start r.opened k) c
          ∙ (ap (λ l. made (before_message before_prolog) l r.start r.opened 0) f.lex
          ∙ (ap (λ k. made (before_message before_prolog) begin k r.opened 0) a ∙ ap (λ k. made (before_message before_prolog) begin 0 k 0) b))))));
    }

-- What was read stays read where more is held.
pub still_read : (r : Reading) (held more : List ℕ) → HasRead r held → lex_of r.scanner (held ++ more) r.here ≡ lex_of r.scanner held r.here → IsSound r.scanner (held ++ more) r.here → HasRead r (held ++ more)
still_read r held more h l s =
    let w = h.sound.within in
    record {
      sound = record { placed = h.sound.placed; scanned = s; within = let a = length-append held more in omega (arith, a, w) };
      short = h.short;
      same =
          ap (unit_run start_reader) (take-append-le r.here held more w)
          ∙ (h.same ∙ ap (λ z. still_reads (made (position_of r.frames) z r.start r.opened r.here)) (sym l));
    }
