-- Reading a token character after character.
use Rattle.std.specs.Prelude.{ℕ, Bool, true, false, cond, List, [], ◌∷◌, ◌++◌, length, Option, Some, None, codes, ◌==◌, ◌&&◌, not}
use Rattle.mos_fields.specs.Characters.{Text}
use Rattle.mos_fields.specs.Names.{is_empty, may_grow}
use Rattle.mos_fields.specs.Raw.{end_text, ends_with, is_space, is_quote}
use Rattle.mos_fields.specs.Forms.{is_white}
use Rattle.mos_lexer.specs.Lexing.{byte_order_mark}
use Rattle.mos_fields.specs.References.{reference_of, begins_reference}
use Rattle.mos_tables.specs.Events.{Attribute}
use Rattle.mos_grammar.specs.Tokens.{Token, open_tag, empty_tag, close_tag, tail, mark, declaration}

-- an open tag: its name and the attributes so far
pub record Tag : Type 0 where
  pub name : Text
  pub given : List Attribute

-- what of a token was read; every state but the first stands behind its characters so far, `raw`
pub data LexState : Type 0 where
  begin : LexState
  in_text : Text → Text → LexState
  text_reference : Text → Text → Text → LexState
  in_tag : LexState
  start_name : Text → LexState
  -- between attributes: whether white space came
  in_start : Tag → Bool → Text → LexState
  attribute_name : Tag → Text → Text → LexState
  before_equals : Tag → Text → Text → LexState
  before_value : Tag → Text → Text → LexState
  in_value : Tag → Text → ℕ → Text → Text → LexState
  value_reference : Tag → Text → ℕ → Text → Text → Text → LexState
  before_close : Tag → Text → LexState
  end_name : Text → LexState
  end_white : Text → LexState
  in_tail : Text → Text → LexState
  -- behind `<?`: what still comes of `xml`
  in_question : Text → LexState
  in_declaration : Bool → LexState

-- what one character does: the token goes on, it is whole, a text is whole before it, or it is no prefix of a token;
-- where a reference can't become one, so many characters before this one its `&` stands
pub data LexStep : Type 0 where
  continues : LexState → LexStep
  whole_token : Token → LexStep
  text_before : Text → Text → LexState → LexStep
  text_before_mark : Text → Text → LexStep
  no_token : LexStep
  no_reference : ℕ → LexStep

abbrev pub continues_if : Bool → LexState → LexStep
continues_if b l = cond b (continues l) no_token

abbrev pub more_attributes : Tag → Text → Text → Tag
more_attributes g a v = record { name = g.name; given = g.given ++ record { name = a; value = v } ∷ [] }

-- a reference of which this is read: it is whole, may become whole, or can't
abbrev pub referred : Text → (ℕ → LexState) → LexState → Option ℕ → Bool → LexStep
referred m found more (Some c) b = continues (found c)
referred m found more None true = continues more
referred m found more None false = no_reference (length m)

abbrev pub reference_step : Text → (ℕ → LexState) → LexState → LexStep
reference_step m found more = referred m found more (reference_of m) (begins_reference m)

-- behind a start tag's name or an attribute
abbrev pub start_step : Tag → Bool → Text → ℕ → LexStep
start_step g spaced raw c = cond (is_space c) (continues (in_start g true (raw ++ c ∷ []))) (cond (c == 62) (whole_token (open_tag g.name g.given (raw ++ c ∷ [])))
    (cond (c == 47) (continues (before_close g (raw ++ c ∷ []))) (continues_if (spaced && may_grow [] c) (attribute_name g (c ∷ []) (raw ++ c ∷ [])))))

abbrev pub equals_step : Tag → Text → Text → ℕ → LexStep
equals_step g a raw c = cond (is_space c) (continues (before_equals g a (raw ++ c ∷ []))) (continues_if (c == 61) (before_value g a (raw ++ c ∷ [])))

-- before a message U+FEFF is a token
unfoldable pub lex_step : Bool → LexState → ℕ → LexStep
lex_step outside begin c = cond (c == 60) (continues in_tag) (cond (outside && (c == byte_order_mark)) (whole_token mark) (cond (c == 38) (continues (text_reference (c ∷ []) [] [])) (continues (in_text (c ∷ []) (c ∷ [])))))
lex_step outside (in_text raw y) c = cond (c == 60) (text_before raw y in_tag) (cond (outside && (c == byte_order_mark) && is_white raw) (text_before_mark raw y)
    (cond (c == 38) (continues (text_reference (raw ++ c ∷ []) y [])) (continues (in_text (raw ++ c ∷ []) (y ++ c ∷ [])))))
lex_step outside (text_reference raw y m) c = reference_step (m ++ c ∷ []) (λ d. in_text (raw ++ c ∷ []) (y ++ d ∷ [])) (text_reference (raw ++ c ∷ []) y (m ++ c ∷ []))
lex_step outside in_tag c = cond (c == 47) (continues (end_name [])) (cond (c == 63) (continues (in_question (codes "xml"))) (continues_if (may_grow [] c) (start_name (c ∷ []))))
lex_step outside (start_name n) c = cond (may_grow n c) (continues (start_name (n ++ c ∷ []))) (cond (is_empty n) no_token (start_step (record { name = n; given = [] }) false (60 ∷ n) c))
lex_step outside (in_start g spaced raw) c = start_step g spaced raw c
lex_step outside (attribute_name g a raw) c = cond (may_grow a c) (continues (attribute_name g (a ++ c ∷ []) (raw ++ c ∷ []))) (cond (is_empty a) no_token (equals_step g a raw c))
lex_step outside (before_equals g a raw) c = equals_step g a raw c
lex_step outside (before_value g a raw) c = cond (is_space c) (continues (before_value g a (raw ++ c ∷ []))) (continues_if (is_quote c) (in_value g a c [] (raw ++ c ∷ [])))
lex_step outside (in_value g a q v raw) c = cond (c == q) (continues_if (is_quote q) (in_start (more_attributes g a v) false (raw ++ c ∷ [])))
    (cond (c == 38) (continues (value_reference g a q v (raw ++ c ∷ []) [])) (continues_if (not (c == 60)) (in_value g a q (v ++ c ∷ []) (raw ++ c ∷ []))))
lex_step outside (value_reference g a q v raw m) c = reference_step (m ++ c ∷ []) (λ d. in_value g a q (v ++ d ∷ []) (raw ++ c ∷ [])) (value_reference g a q v (raw ++ c ∷ []) (m ++ c ∷ []))
lex_step outside (before_close g raw) c = cond (c == 62) (whole_token (empty_tag g.name g.given (raw ++ c ∷ []))) no_token
lex_step outside (end_name n) c = cond (may_grow n c) (continues (end_name (n ++ c ∷ []))) (cond (is_empty n) no_token (cond (c == 62) (whole_token (close_tag n)) (continues_if (is_space c) (end_white n))))
lex_step outside (end_white n) c = cond (c == 62) (whole_token (close_tag n)) (continues_if (is_space c) (end_white n))
lex_step outside (in_tail n x) c = cond (ends_with (end_text n) (x ++ c ∷ [])) (whole_token (tail (x ++ c ∷ []))) (continues (in_tail n (x ++ c ∷ [])))
lex_step outside (in_question []) c = continues_if (is_space c) (in_declaration false)
lex_step outside (in_question (d ∷ k)) c = continues_if (c == d) (in_question k)
lex_step outside (in_declaration question) c = cond (question && (c == 62)) (whole_token declaration) (continues (in_declaration (c == 63)))
