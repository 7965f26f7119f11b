-- What each character does in each state, by the tests that decide it.
use Rattle.std.proofs.Common.{◌≡◌, ℕ, Bool, true, false, List, [], ◌∷◌, ◌++◌, length, refl}
use Rattle.std.specs.Prelude.{Some, None, codes, ◌==◌, ◌&&◌}
use Rattle.mos_fields.specs.Characters.{Text}
use Rattle.mos_fields.specs.Names.{is_empty, is_start, may_grow}
use Rattle.mos_fields.specs.Raw.{end_text, ends_with, is_space, is_quote}
use Rattle.mos_fields.specs.Forms.{is_white}
use Rattle.mos_fields.specs.References.{reference_of, begins_reference}
use Rattle.mos_lexer.specs.Lexing.{byte_order_mark}
use Rattle.mos_tables.specs.Events.{Attribute}
use Rattle.mos_grammar.specs.Tokens.{open_tag, empty_tag, close_tag, tail, mark, declaration}
use Rattle.mos_lexer.specs.LexMachine.{Tag, begin, in_text, text_reference, in_tag, start_name, in_start, attribute_name, before_equals, before_value, in_value, value_reference, before_close, end_name, end_white, in_tail, in_question, in_declaration, continues, whole_token, text_before, text_before_mark, no_token, no_reference, lex_step}

pub begin_tag : (o : Bool) (c : ℕ) → (c == 60) ≡ true → continues in_tag ≡ lex_step o begin c
unfolding lex_step may_grow
begin_tag o c h0 = rw (h0) refl

pub begin_mark : (o : Bool) (c : ℕ) → (c == 60) ≡ false → (o && (c == byte_order_mark)) ≡ true → whole_token mark ≡ lex_step o begin c
unfolding lex_step may_grow
begin_mark o c h0 h1 = rw (h0, h1) refl

pub begin_reference : (o : Bool) (c : ℕ) {raw y m : Text} → raw ≡ c ∷ [] → y ≡ [] → m ≡ [] → (c == 60) ≡ false → (o && (c == byte_order_mark)) ≡ false → (c == 38) ≡ true → continues (text_reference raw y m) ≡ lex_step o begin c
unfolding lex_step may_grow
begin_reference o c h0 h1 h2 h3 h4 h5 = rw (h0, h1, h2, h3, h4, h5) refl

pub begin_text : (o : Bool) (c : ℕ) {raw y : Text} → raw ≡ c ∷ [] → y ≡ c ∷ [] → (c == 60) ≡ false → (o && (c == byte_order_mark)) ≡ false → (c == 38) ≡ false → continues (in_text raw y) ≡ lex_step o begin c
unfolding lex_step may_grow
begin_text o c h0 h1 h2 h3 h4 = rw (h0, h1, h2, h3, h4) refl

pub text_tag : (o : Bool) (c : ℕ) (raw y : Text) → (c == 60) ≡ true → text_before raw y in_tag ≡ lex_step o (in_text raw y) c
unfolding lex_step may_grow
text_tag o c raw y h0 = rw (h0) refl

pub text_mark : (o : Bool) (c : ℕ) (raw y : Text) → (c == 60) ≡ false → (o && (c == byte_order_mark) && is_white raw) ≡ true → text_before_mark raw y ≡ lex_step o (in_text raw y) c
unfolding lex_step may_grow
text_mark o c raw y h0 h1 = rw (h0, h1) refl

pub text_begins_reference : (o : Bool) (c : ℕ) (raw y : Text) {raw' y' m : Text} → raw' ≡ raw ++ c ∷ [] → y' ≡ y → m ≡ [] → (c == 60) ≡ false → (o && (c == byte_order_mark) && is_white raw) ≡ false → (c == 38) ≡ true → continues (text_reference raw' y' m) ≡ lex_step o (in_text raw y) c
unfolding lex_step may_grow
text_begins_reference o c raw y h0 h1 h2 h3 h4 h5 = rw (h0, h1, h2, h3, h4, h5) refl

pub text_more : (o : Bool) (c : ℕ) (raw y : Text) {raw' y' : Text} → raw' ≡ raw ++ c ∷ [] → y' ≡ y ++ c ∷ [] → (c == 60) ≡ false → (o && (c == byte_order_mark) && is_white raw) ≡ false → (c == 38) ≡ false → continues (in_text raw' y') ≡ lex_step o (in_text raw y) c
unfolding lex_step may_grow
text_more o c raw y h0 h1 h2 h3 h4 = rw (h0, h1, h2, h3, h4) refl

pub text_found : (o : Bool) (c : ℕ) (raw y m : Text) (d : ℕ) {raw' y' : Text} → raw' ≡ raw ++ c ∷ [] → y' ≡ y ++ d ∷ [] → reference_of (m ++ c ∷ []) ≡ Some d → continues (in_text raw' y') ≡ lex_step o (text_reference raw y m) c
unfolding lex_step may_grow
text_found o c raw y m d h0 h1 h2 = rw (h0, h1, h2) refl

pub text_refers : (o : Bool) (c : ℕ) (raw y m : Text) {raw' m' : Text} → raw' ≡ raw ++ c ∷ [] → m' ≡ m ++ c ∷ [] → reference_of (m ++ c ∷ []) ≡ None → begins_reference (m ++ c ∷ []) ≡ true → continues (text_reference raw' y m') ≡ lex_step o (text_reference raw y m) c
unfolding lex_step may_grow
text_refers o c raw y m h0 h1 h2 h3 = rw (h0, h1, h2, h3) refl

pub text_never : (o : Bool) (c : ℕ) (raw y m : Text) {k : ℕ} → k ≡ length (m ++ c ∷ []) → reference_of (m ++ c ∷ []) ≡ None → begins_reference (m ++ c ∷ []) ≡ false → no_reference k ≡ lex_step o (text_reference raw y m) c
unfolding lex_step may_grow
text_never o c raw y m h0 h1 h2 = rw (h0, h1, h2) refl

pub tag_end : (o : Bool) (c : ℕ) {n : Text} → n ≡ [] → (c == 47) ≡ true → continues (end_name n) ≡ lex_step o in_tag c
unfolding lex_step may_grow
tag_end o c h0 h1 = rw (h0, h1) refl

pub tag_question : (o : Bool) (c : ℕ) → (c == 47) ≡ false → (c == 63) ≡ true → continues (in_question (codes "xml")) ≡ lex_step o in_tag c
unfolding lex_step may_grow
tag_question o c h0 h1 = rw (h0, h1) refl

pub tag_name : (o : Bool) (c : ℕ) {n : Text} → n ≡ c ∷ [] → (c == 47) ≡ false → (c == 63) ≡ false → is_start c ≡ true → continues (start_name n) ≡ lex_step o in_tag c
unfolding lex_step may_grow
tag_name o c h0 h1 h2 h3 = rw (h0, h1, h2, h3) refl

pub tag_none : (o : Bool) (c : ℕ) → (c == 47) ≡ false → (c == 63) ≡ false → is_start c ≡ false → no_token ≡ lex_step o in_tag c
unfolding lex_step may_grow
tag_none o c h0 h1 h2 = rw (h0, h1, h2) refl

pub name_more : (o : Bool) (c : ℕ) (n : Text) {n' : Text} → n' ≡ n ++ c ∷ [] → may_grow n c ≡ true → continues (start_name n') ≡ lex_step o (start_name n) c
unfolding lex_step may_grow
name_more o c n h0 h1 = rw (h0, h1) refl

pub name_stops : (o : Bool) (c : ℕ) (n : Text) {g : List Attribute} {raw : Text} → g ≡ [] → raw ≡ 60 ∷ n → may_grow n c ≡ false → is_empty n ≡ false → lex_step o (in_start (record { name = n; given = g }) false raw) c ≡ lex_step o (start_name n) c
unfolding lex_step may_grow
name_stops o c n h0 h1 h2 h3 = rw (h0, h1, h2, h3) refl

pub start_space : (o : Bool) (c : ℕ) (t : Tag) (s : Bool) (raw : Text) {raw' : Text} → raw' ≡ raw ++ c ∷ [] → is_space c ≡ true → continues (in_start t true raw') ≡ lex_step o (in_start t s raw) c
unfolding lex_step may_grow
start_space o c t s raw h0 h1 = rw (h0, h1) refl

pub start_end : (o : Bool) (c : ℕ) (t : Tag) (s : Bool) (raw : Text) {raw' : Text} → raw' ≡ raw ++ c ∷ [] → is_space c ≡ false → (c == 62) ≡ true → whole_token (open_tag t.name t.given raw') ≡ lex_step o (in_start t s raw) c
unfolding lex_step may_grow
start_end o c t s raw h0 h1 h2 = rw (h0, h1, h2) refl

pub start_slash : (o : Bool) (c : ℕ) (t : Tag) (s : Bool) (raw : Text) {raw' : Text} → raw' ≡ raw ++ c ∷ [] → is_space c ≡ false → (c == 62) ≡ false → (c == 47) ≡ true → continues (before_close t raw') ≡ lex_step o (in_start t s raw) c
unfolding lex_step may_grow
start_slash o c t s raw h0 h1 h2 h3 = rw (h0, h1, h2, h3) refl

pub start_attribute : (o : Bool) (c : ℕ) (t : Tag) (s : Bool) (raw : Text) {a raw' : Text} → a ≡ c ∷ [] → raw' ≡ raw ++ c ∷ [] → is_space c ≡ false → (c == 62) ≡ false → (c == 47) ≡ false → (s && may_grow [] c) ≡ true → continues (attribute_name t a raw') ≡ lex_step o (in_start t s raw) c
unfolding lex_step may_grow
start_attribute o c t s raw h0 h1 h2 h3 h4 h5 = rw (h0, h1, h2, h3, h4, h5) refl

pub start_none : (o : Bool) (c : ℕ) (t : Tag) (s : Bool) (raw : Text) → is_space c ≡ false → (c == 62) ≡ false → (c == 47) ≡ false → (s && may_grow [] c) ≡ false → no_token ≡ lex_step o (in_start t s raw) c
unfolding lex_step may_grow
start_none o c t s raw h0 h1 h2 h3 = rw (h0, h1, h2, h3) refl

pub attribute_more : (o : Bool) (c : ℕ) (t : Tag) (a raw : Text) {a' raw' : Text} → a' ≡ a ++ c ∷ [] → raw' ≡ raw ++ c ∷ [] → may_grow a c ≡ true → continues (attribute_name t a' raw') ≡ lex_step o (attribute_name t a raw) c
unfolding lex_step may_grow
attribute_more o c t a raw h0 h1 h2 = rw (h0, h1, h2) refl

pub attribute_stops : (o : Bool) (c : ℕ) (t : Tag) (a raw : Text) → may_grow a c ≡ false → is_empty a ≡ false → lex_step o (before_equals t a raw) c ≡ lex_step o (attribute_name t a raw) c
unfolding lex_step may_grow
attribute_stops o c t a raw h0 h1 = rw (h0, h1) refl

pub equals_space : (o : Bool) (c : ℕ) (t : Tag) (a raw : Text) {raw' : Text} → raw' ≡ raw ++ c ∷ [] → is_space c ≡ true → continues (before_equals t a raw') ≡ lex_step o (before_equals t a raw) c
unfolding lex_step may_grow
equals_space o c t a raw h0 h1 = rw (h0, h1) refl

pub equals_sign : (o : Bool) (c : ℕ) (t : Tag) (a raw : Text) {raw' : Text} → raw' ≡ raw ++ c ∷ [] → is_space c ≡ false → (c == 61) ≡ true → continues (before_value t a raw') ≡ lex_step o (before_equals t a raw) c
unfolding lex_step may_grow
equals_sign o c t a raw h0 h1 h2 = rw (h0, h1, h2) refl

pub equals_none : (o : Bool) (c : ℕ) (t : Tag) (a raw : Text) → is_space c ≡ false → (c == 61) ≡ false → no_token ≡ lex_step o (before_equals t a raw) c
unfolding lex_step may_grow
equals_none o c t a raw h0 h1 = rw (h0, h1) refl

pub value_space : (o : Bool) (c : ℕ) (t : Tag) (a raw : Text) {raw' : Text} → raw' ≡ raw ++ c ∷ [] → is_space c ≡ true → continues (before_value t a raw') ≡ lex_step o (before_value t a raw) c
unfolding lex_step may_grow
value_space o c t a raw h0 h1 = rw (h0, h1) refl

pub value_quote : (o : Bool) (c : ℕ) (t : Tag) (a raw : Text) {v raw' : Text} → v ≡ [] → raw' ≡ raw ++ c ∷ [] → is_space c ≡ false → is_quote c ≡ true → continues (in_value t a c v raw') ≡ lex_step o (before_value t a raw) c
unfolding lex_step may_grow
value_quote o c t a raw h0 h1 h2 h3 = rw (h0, h1, h2, h3) refl

pub value_none : (o : Bool) (c : ℕ) (t : Tag) (a raw : Text) → is_space c ≡ false → is_quote c ≡ false → no_token ≡ lex_step o (before_value t a raw) c
unfolding lex_step may_grow
value_none o c t a raw h0 h1 = rw (h0, h1) refl

pub value_ends : (o : Bool) (c : ℕ) (t : Tag) (a : Text) (q : ℕ) (v raw : Text) {g : List Attribute} {raw' : Text} → g ≡ t.given ++ record { name = a; value = v } ∷ [] → raw' ≡ raw ++ c ∷ [] → (c == q) ≡ true → is_quote q ≡ true → continues (in_start (record { name = t.name; given = g }) false raw') ≡ lex_step o (in_value t a q v raw) c
unfolding lex_step may_grow
value_ends o c t a q v raw h0 h1 h2 h3 = rw (h0, h1, h2, h3) refl

pub value_begins_reference : (o : Bool) (c : ℕ) (t : Tag) (a : Text) (q : ℕ) (v raw : Text) {v' raw' m : Text} → v' ≡ v → raw' ≡ raw ++ c ∷ [] → m ≡ [] → (c == q) ≡ false → (c == 38) ≡ true → continues (value_reference t a q v' raw' m) ≡ lex_step o (in_value t a q v raw) c
unfolding lex_step may_grow
value_begins_reference o c t a q v raw h0 h1 h2 h3 h4 = rw (h0, h1, h2, h3, h4) refl

pub value_less : (o : Bool) (c : ℕ) (t : Tag) (a : Text) (q : ℕ) (v raw : Text) → (c == q) ≡ false → (c == 38) ≡ false → (c == 60) ≡ true → no_token ≡ lex_step o (in_value t a q v raw) c
unfolding lex_step may_grow
value_less o c t a q v raw h0 h1 h2 = rw (h0, h1, h2) refl

pub value_more : (o : Bool) (c : ℕ) (t : Tag) (a : Text) (q : ℕ) (v raw : Text) {v' raw' : Text} → v' ≡ v ++ c ∷ [] → raw' ≡ raw ++ c ∷ [] → (c == q) ≡ false → (c == 38) ≡ false → (c == 60) ≡ false → continues (in_value t a q v' raw') ≡ lex_step o (in_value t a q v raw) c
unfolding lex_step may_grow
value_more o c t a q v raw h0 h1 h2 h3 h4 = rw (h0, h1, h2, h3, h4) refl

pub value_found : (o : Bool) (c : ℕ) (t : Tag) (a : Text) (q : ℕ) (v raw m : Text) (d : ℕ) {v' raw' : Text} → v' ≡ v ++ d ∷ [] → raw' ≡ raw ++ c ∷ [] → reference_of (m ++ c ∷ []) ≡ Some d → continues (in_value t a q v' raw') ≡ lex_step o (value_reference t a q v raw m) c
unfolding lex_step may_grow
value_found o c t a q v raw m d h0 h1 h2 = rw (h0, h1, h2) refl

pub value_refers : (o : Bool) (c : ℕ) (t : Tag) (a : Text) (q : ℕ) (v raw m : Text) {raw' m' : Text} → raw' ≡ raw ++ c ∷ [] → m' ≡ m ++ c ∷ [] → reference_of (m ++ c ∷ []) ≡ None → begins_reference (m ++ c ∷ []) ≡ true → continues (value_reference t a q v raw' m') ≡ lex_step o (value_reference t a q v raw m) c
unfolding lex_step may_grow
value_refers o c t a q v raw m h0 h1 h2 h3 = rw (h0, h1, h2, h3) refl

pub value_never : (o : Bool) (c : ℕ) (t : Tag) (a : Text) (q : ℕ) (v raw m : Text) {k : ℕ} → k ≡ length (m ++ c ∷ []) → reference_of (m ++ c ∷ []) ≡ None → begins_reference (m ++ c ∷ []) ≡ false → no_reference k ≡ lex_step o (value_reference t a q v raw m) c
unfolding lex_step may_grow
value_never o c t a q v raw m h0 h1 h2 = rw (h0, h1, h2) refl

pub close_end : (o : Bool) (c : ℕ) (t : Tag) (raw : Text) {raw' : Text} → raw' ≡ raw ++ c ∷ [] → (c == 62) ≡ true → whole_token (empty_tag t.name t.given raw') ≡ lex_step o (before_close t raw) c
unfolding lex_step may_grow
close_end o c t raw h0 h1 = rw (h0, h1) refl

pub close_none : (o : Bool) (c : ℕ) (t : Tag) (raw : Text) → (c == 62) ≡ false → no_token ≡ lex_step o (before_close t raw) c
unfolding lex_step may_grow
close_none o c t raw h0 = rw (h0) refl

pub end_more : (o : Bool) (c : ℕ) (n : Text) {n' : Text} → n' ≡ n ++ c ∷ [] → may_grow n c ≡ true → continues (end_name n') ≡ lex_step o (end_name n) c
unfolding lex_step may_grow
end_more o c n h0 h1 = rw (h0, h1) refl

pub end_empty : (o : Bool) (c : ℕ) (n : Text) → may_grow n c ≡ false → is_empty n ≡ true → no_token ≡ lex_step o (end_name n) c
unfolding lex_step may_grow
end_empty o c n h0 h1 = rw (h0, h1) refl

pub end_stops : (o : Bool) (c : ℕ) (n : Text) → may_grow n c ≡ false → is_empty n ≡ false → lex_step o (end_white n) c ≡ lex_step o (end_name n) c
unfolding lex_step may_grow
end_stops o c n h0 h1 = rw (h0, h1) refl

pub white_end : (o : Bool) (c : ℕ) (n : Text) → (c == 62) ≡ true → whole_token (close_tag n) ≡ lex_step o (end_white n) c
unfolding lex_step may_grow
white_end o c n h0 = rw (h0) refl

pub white_space : (o : Bool) (c : ℕ) (n : Text) → (c == 62) ≡ false → is_space c ≡ true → continues (end_white n) ≡ lex_step o (end_white n) c
unfolding lex_step may_grow
white_space o c n h0 h1 = rw (h0, h1) refl

pub white_none : (o : Bool) (c : ℕ) (n : Text) → (c == 62) ≡ false → is_space c ≡ false → no_token ≡ lex_step o (end_white n) c
unfolding lex_step may_grow
white_none o c n h0 h1 = rw (h0, h1) refl

pub tail_end : (o : Bool) (c : ℕ) (n x : Text) {x' : Text} → x' ≡ x ++ c ∷ [] → ends_with (end_text n) (x ++ c ∷ []) ≡ true → whole_token (tail x') ≡ lex_step o (in_tail n x) c
unfolding lex_step may_grow
tail_end o c n x h0 h1 = rw (h0, h1) refl

pub tail_more : (o : Bool) (c : ℕ) (n x : Text) {x' : Text} → x' ≡ x ++ c ∷ [] → ends_with (end_text n) (x ++ c ∷ []) ≡ false → continues (in_tail n x') ≡ lex_step o (in_tail n x) c
unfolding lex_step may_grow
tail_more o c n x h0 h1 = rw (h0, h1) refl

pub question_x : (o : Bool) (c : ℕ) → (c == 120) ≡ true → continues (in_question (codes "ml")) ≡ lex_step o (in_question (codes "xml")) c
unfolding lex_step may_grow
question_x o c h0 = rw (h0) refl

pub question_no_x : (o : Bool) (c : ℕ) → (c == 120) ≡ false → no_token ≡ lex_step o (in_question (codes "xml")) c
unfolding lex_step may_grow
question_no_x o c h0 = rw (h0) refl

pub question_m : (o : Bool) (c : ℕ) → (c == 109) ≡ true → continues (in_question (codes "l")) ≡ lex_step o (in_question (codes "ml")) c
unfolding lex_step may_grow
question_m o c h0 = rw (h0) refl

pub question_no_m : (o : Bool) (c : ℕ) → (c == 109) ≡ false → no_token ≡ lex_step o (in_question (codes "ml")) c
unfolding lex_step may_grow
question_no_m o c h0 = rw (h0) refl

pub question_l : (o : Bool) (c : ℕ) → (c == 108) ≡ true → continues (in_question ([])) ≡ lex_step o (in_question (codes "l")) c
unfolding lex_step may_grow
question_l o c h0 = rw (h0) refl

pub question_no_l : (o : Bool) (c : ℕ) → (c == 108) ≡ false → no_token ≡ lex_step o (in_question (codes "l")) c
unfolding lex_step may_grow
question_no_l o c h0 = rw (h0) refl

pub question_end : (o : Bool) (c : ℕ) → is_space c ≡ true → continues (in_declaration false) ≡ lex_step o (in_question []) c
unfolding lex_step may_grow
question_end o c h0 = rw (h0) refl

pub question_none : (o : Bool) (c : ℕ) → is_space c ≡ false → no_token ≡ lex_step o (in_question []) c
unfolding lex_step may_grow
question_none o c h0 = rw (h0) refl

pub declaration_end : (o : Bool) (c : ℕ) (q : Bool) → (q && (c == 62)) ≡ true → whole_token declaration ≡ lex_step o (in_declaration q) c
unfolding lex_step may_grow
declaration_end o c q h0 = rw (h0) refl

pub declaration_more : (o : Bool) (c : ℕ) (q : Bool) {p : Bool} → p ≡ (c == 63) → (q && (c == 62)) ≡ false → continues (in_declaration p) ≡ lex_step o (in_declaration q) c
unfolding lex_step may_grow
declaration_more o c q h0 h1 = rw (h0, h1) refl
