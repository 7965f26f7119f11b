-- The reader of code units reads a character as the machine of characters does.
use Rattle.std.proofs.Common.{◌≡◌, ℕ, Bool, true, false, cond, List, Option, Some, None, Result, Ok, Err, refl, subst}
use Rattle.mos_fields.specs.Characters.{Text, is_allowed}
use Rattle.mos_fields.specs.Forms.{is_white}
use Rattle.mos_tables.specs.Events.{Event}
use Rattle.mos_grammar.specs.Tokens.{text, mark}
use Rattle.mos_grammar.specs.declared.fault.Fault.{Fault}
use Rattle.mos_grammar.specs.declared.fault.Fault.TheVariants.{Value as wrong_value, Tag as misplaced}
use Rattle.mos_grammar.specs.Records.{field_events}
use Rattle.mos_grammar.specs.RecordMachine.{State, at, complete, between, in_field, behind_text, in_raw, after_text, step}
use Rattle.mos_grammar.specs.Streams.{Position, before_message, inside, inside_of, message_step}
use Rattle.mos_lexer.specs.LexMachine.{LexState, LexStep, continues, whole_token, text_before, text_before_mark, no_token, no_reference, lex_step}
use Rattle.mos_lexer.specs.Units.{Reader, UnitStep, reads_on, completes, rejects, is_outside, lex_at, behind, at_token, opened_by, rests as rests_at, lexed, read_char}
use Rattle.mos_lexer.proofs.Chars.{Spot, behind_token, rests, taken, char_of, whole_spot}

-- the reader goes on at this spot, or the message is complete there; or both refuse
abbrev pub SpotIs : Spot → ℕ → UnitStep → Type 0
SpotIs w count (reads_on u) = (w ≡ record { position = u.position; lex = u.lex }) × (u.count ≡ count) × (u.high ≡ None)
SpotIs w count (completes began v) = w ≡ whole_spot v
SpotIs w count (rejects place k) = ⊥

abbrev pub Agrees : Option Spot → ℕ → UnitStep → Type 0
Agrees (Some w) count u = SpotIs w count u
Agrees None count (rejects place k) = Unit {0}
Agrees None count (reads_on u) = ⊥
Agrees None count (completes began v) = ⊥

-- a message is not complete
abbrev pub IsOpenAt : Position → Type 0
IsOpenAt (before_message g) = Unit {0}
IsOpenAt (inside (at m f fs)) = Unit {0}
IsOpenAt (inside (complete v)) = ⊥

state_is : (s u : State) → ◌≡◌ {A = Result State Fault} (Ok s) (Ok u) → s ≡ u
state_is s u e = cc

position_is : (p q : Position) → ◌≡◌ {A = Result Position Fault} (Ok p) (Ok q) → p ≡ q
position_is p q e = cc

no_state : (u : State) (k : Fault) → ◌≡◌ {A = Result State Fault} (Err k) (Ok u) → ⊥
no_state u k e = cc

state_text_open : (s : State) (x y : Text) (u : State) → step s (text x y) ≡ Ok u → IsOpenAt (inside u)
unfolding step
state_text_open (complete v) x y u e = absurd (no_state u misplaced e)
state_text_open (at between f fs) x y u e = go (is_white x) e
  where
    go : (b : Bool) → cond b (Ok (at between f fs)) (Err misplaced) ≡ Ok u → IsOpenAt (inside u)
    go true e = subst (λ (z : State). IsOpenAt (inside z)) (state_is (at between f fs) u e) tt
    go false e = absurd (no_state u misplaced e)
state_text_open (at (in_field n o) f fs) x y u e = go (field_events n o f.taken y) e
  where
    go : (w : Option (List Event)) → after_text f fs n o w ≡ Ok u → IsOpenAt (inside u)
    go (Some es) e = subst (λ (z : State). IsOpenAt (inside z)) (state_is (at (behind_text n o es) f fs) u e) tt
    go None e = absurd (no_state u (wrong_value o.field) e)
state_text_open (at (behind_text n o es) f fs) x y u e = absurd (no_state u misplaced e)
state_text_open (at (in_raw n p tag) f fs) x y u e = absurd (no_state u misplaced e)

-- a text completes no message
pub text_open : (p : Position) (x y : Text) (q : Position) → message_step p (text x y) ≡ Ok q → IsOpenAt q
unfolding message_step
text_open (before_message g) x y q e = go (is_white x) e
  where
    go : (b : Bool) → cond b (Ok (before_message g)) (Err misplaced) ≡ Ok q → IsOpenAt q
    go true e = subst (λ (z : Position). IsOpenAt z) (position_is (before_message g) q e) tt
    go false e = absurd cc
text_open (inside s) x y q e = go (step s (text x y)) refl e
  where
    go : (o : Result State Fault) → step s (text x y) ≡ o → inside_of o ≡ Ok q → IsOpenAt q
    go (Ok u) i e = subst (λ (z : Position). IsOpenAt z) (position_is (inside u) q e) (state_text_open s x y u i)
    go (Err k) i e = absurd cc

open_agrees : (opened start count : ℕ) (l : LexState) (q : Position) → IsOpenAt q → SpotIs (record { position = q; lex = l }) count (behind opened start count l q)
open_agrees opened start count l (before_message g) i = (refl, refl, refl)
open_agrees opened start count l (inside (at m f fs)) i = (refl, refl, refl)
open_agrees opened start count l (inside (complete v)) i = absurd i

rest_agrees : (opened count : ℕ) (q : Position) → SpotIs (record { position = q; lex = lex_at q }) count (rests_at opened count q)
rest_agrees opened count (before_message g) = (refl, refl, refl)
rest_agrees opened count (inside (at m f fs)) = (refl, refl, refl)
rest_agrees opened count (inside (complete v)) = refl

rests_agree : (place opened count : ℕ) (o : Result Position Fault) → Agrees (behind_token o rests) count (at_token place o (rests_at opened count))
rests_agree place opened count (Ok q) = rest_agrees opened count q
rests_agree place opened count (Err k) = tt

lexed_agrees : (s : Reader) (place count : ℕ) (o : LexStep) → Agrees (taken s.position o) count (lexed s place count o)
lexed_agrees s place count (continues l) = (refl, refl, refl)
lexed_agrees s place count (whole_token t) = rests_agree s.start (opened_by s) count (message_step s.position t)
lexed_agrees s place count (text_before raw y l) = go (message_step s.position (text raw y)) refl
  where
    go : (o : Result Position Fault) → message_step s.position (text raw y) ≡ o → Agrees (behind_token o (λ q. Some (record { position = q; lex = l }))) count (at_token s.start o (behind (opened_by s) place count l))
    go (Ok q) e = open_agrees (opened_by s) place count l q (text_open s.position raw y q e)
    go (Err k) e = tt
lexed_agrees s place count (text_before_mark raw y) = go (message_step s.position (text raw y))
  where
    go : (o : Result Position Fault) → Agrees (behind_token o (λ q. behind_token (message_step q mark) rests)) count (at_token s.start o (λ p. at_token place (message_step p mark) (rests_at place count)))
    go (Ok q) = rests_agree place place count (message_step q mark)
    go (Err k) = tt
lexed_agrees s place count no_token = tt
lexed_agrees s place count (no_reference k) = tt

-- An allowed character is read as the machine of characters reads it.
pub read_agrees : (s : Reader) (place count c : ℕ) → is_allowed c ≡ true → Agrees (char_of s.position s.lex c) count (read_char s place count c)
read_agrees s place count c a = rw a (lexed_agrees s place count (lex_step (is_outside s.position) s.lex c))

-- where a message is complete, nothing is read on
abbrev pub OpenStep : UnitStep → Type 0
OpenStep (reads_on u) = IsOpenAt u.position
OpenStep (completes began v) = Unit {0}
OpenStep (rejects place k) = Unit {0}

behind_open : (opened start count : ℕ) (l : LexState) (q : Position) → OpenStep (behind opened start count l q)
behind_open opened start count l (before_message g) = tt
behind_open opened start count l (inside (at m f fs)) = tt
behind_open opened start count l (inside (complete v)) = tt

token_open : (place : ℕ) (o : Result Position Fault) (f : Position → UnitStep) → ((q : Position) → OpenStep (f q)) → OpenStep (at_token place o f)
token_open place (Ok q) f h = h q
token_open place (Err k) f h = tt

lexed_open : (s : Reader) (place count : ℕ) (o : LexStep) → IsOpenAt s.position → OpenStep (lexed s place count o)
lexed_open s place count (continues l) i = i
lexed_open s place count (whole_token t) i = token_open s.start (message_step s.position t) (rests_at (opened_by s) count) (λ q. behind_open (opened_by s) count count (lex_at q) q)
lexed_open s place count (text_before raw y l) i = token_open s.start (message_step s.position (text raw y)) (behind (opened_by s) place count l) (λ q. behind_open (opened_by s) place count l q)
lexed_open s place count (text_before_mark raw y) i = token_open s.start (message_step s.position (text raw y)) (λ p. at_token place (message_step p mark) (rests_at place count))
    (λ p. token_open place (message_step p mark) (rests_at place count) (λ q. behind_open place count count (lex_at q) q))
lexed_open s place count no_token i = tt
lexed_open s place count (no_reference k) i = tt

pub read_open : (s : Reader) (place count c : ℕ) → IsOpenAt s.position → OpenStep (read_char s place count c)
read_open s place count c i = go (is_allowed c) refl
  where
    go : (b : Bool) → is_allowed c ≡ b → OpenStep (read_char s place count c)
    go true e = rw e (lexed_open s place count (lex_step (is_outside s.position) s.lex c) i)
    go false e = rw e tt
