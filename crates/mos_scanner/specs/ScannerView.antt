-- What the scanner has read.
use Rattle.std.specs.Prelude.{◌≡◌, ℕ, Bool, true, cond, List, [], ◌∷◌, ◌+◌, ◌≤◌, length, codes, ⊤, ◌<◌}
use Rattle.std.specs.List.{list_all}
use Rattle.mos_fields.specs.Characters.{Text, IsUtf16, chars_of}
use Rattle.mos_fields.specs.Names.{is_name}
use Rattle.mos_fields.specs.Raw.{is_quote}
use Rattle.mos_tables.specs.Events.{Attribute}
use Rattle.mos_grammar.specs.Tokens.{Token, open_tag, empty_tag, close_tag, tail, mark, declaration}
use Rattle.mos_lexer.specs.LexMachine.{Tag, LexState, begin, in_text, text_reference, in_tag, start_name, in_start, attribute_name, before_equals, before_value, in_value, value_reference, before_close, end_name, end_white, in_tail, in_question, in_declaration, LexStep, continues, whole_token, text_before, text_before_mark, no_token, no_reference, lex_step}
use Rattle.mos_scanner.specs.Parts.{part, IsCharacter}
use Rattle.mos_scanner.specs.References.{is_ascii, IsAt, IsBounded}
use Rattle.mos_scanner.specs.declared.reference.Reference.{Reference}
use Rattle.mos_scanner.specs.declared.mode.Mode.{Mode}
use Rattle.mos_scanner.specs.declared.mode.Mode.TheVariants.{Begin, InText, TextReference, InTag, StartName, InStart, AttributeName, BeforeEquals, BeforeValue, InValue, ValueReference, BeforeClose, EndName, EndWhite, InTail, BeforeXml, BeforeMl, BeforeL, AfterXml, InDeclaration}
use Rattle.mos_scanner.specs.declared.scanned.Kind.{Kind}
use Rattle.mos_scanner.specs.declared.scanned.Kind.TheVariants.{OpenTag, EmptyTag, CloseTag, Tail, Mark, Declaration}
use Rattle.mos_scanner.specs.declared.scanned.Scanned.{Scanned}
use Rattle.mos_scanner.specs.declared.scanned.Scanned.TheVariants.{More, Token as Whole, TextBefore, TextBeforeMark, NoToken, NoReference}
use Rattle.mos_scanner.specs.declared.scanner.Scanner.{Scanner}

-- ---- the parts of the token

-- what the token's characters are
abbrev pub raw_of : Scanner → List ℕ → ℕ → Text
raw_of s held here = chars_of (part held s.start here)

-- the units of what a text or a value stands for that begins at this place, up to here
abbrev pub resolved_units : Scanner → List ℕ → ℕ → ℕ → List ℕ
resolved_units s held from here = cond s.is_resolved s.text.items (part held from here)

abbrev pub resolved : Scanner → List ℕ → ℕ → ℕ → Text
resolved s held from here = chars_of (resolved_units s held from here)

-- the name of the tag that is being read
abbrev pub tag_name : Scanner → List ℕ → Text
tag_name s held = part held (s.start + 1) s.name_end

abbrev pub end_tag_name : Scanner → List ℕ → Text
end_tag_name s held = part held (s.start + 2) s.name_end

abbrev pub tag_of : Scanner → List ℕ → Tag
tag_of s held = record { name = tag_name s held; given = s.attributes.items }

abbrev pub given_name : Scanner → List ℕ → Text
given_name s held = part held s.attribute_start s.attribute_end

-- the name of the raw element whose rest is being read
abbrev pub raw_name : Scanner → List ℕ → Text
raw_name s held = part held s.raw_start s.raw_end

-- ---- the state of the machine that reads character after character

abbrev pub state_of : Mode → Scanner → List ℕ → ℕ → LexState
state_of Begin s held here = begin
state_of InText s held here = in_text (raw_of s held here) (resolved s held s.start here)
state_of TextReference s held here = text_reference (raw_of s held here) (chars_of s.text.items) (part held s.reference here)
state_of InTag s held here = in_tag
state_of StartName s held here = start_name (part held (s.start + 1) here)
state_of (InStart spaced) s held here = in_start (tag_of s held) spaced (raw_of s held here)
state_of AttributeName s held here = attribute_name (tag_of s held) (part held s.attribute_start here) (raw_of s held here)
state_of BeforeEquals s held here = before_equals (tag_of s held) (given_name s held) (raw_of s held here)
state_of BeforeValue s held here = before_value (tag_of s held) (given_name s held) (raw_of s held here)
state_of InValue s held here = in_value (tag_of s held) (given_name s held) s.quote (resolved s held s.value_start here) (raw_of s held here)
state_of ValueReference s held here = value_reference (tag_of s held) (given_name s held) s.quote (chars_of s.text.items) (raw_of s held here) (part held s.reference here)
state_of BeforeClose s held here = before_close (tag_of s held) (raw_of s held here)
state_of EndName s held here = end_name (part held (s.start + 2) here)
state_of EndWhite s held here = end_white (end_tag_name s held)
state_of InTail s held here = in_tail (raw_name s held) (raw_of s held here)
state_of BeforeXml s held here = in_question (codes "xml")
state_of BeforeMl s held here = in_question (codes "ml")
state_of BeforeL s held here = in_question (codes "l")
state_of AfterXml s held here = in_question []
state_of (InDeclaration question) s held here = in_declaration question

-- the state once what is held up to here is read
abbrev pub lex_of : Scanner → List ℕ → ℕ → LexState
lex_of s held here = state_of s.mode s held here

-- ---- what one character did

abbrev pub kind_token : Kind → Scanner → List ℕ → ℕ → Token
kind_token OpenTag s held next = open_tag (tag_name s held) s.attributes.items (raw_of s held next)
kind_token EmptyTag s held next = empty_tag (tag_name s held) s.attributes.items (raw_of s held next)
kind_token CloseTag s held next = close_tag (end_tag_name s held)
kind_token Tail s held next = tail (raw_of s held next)
kind_token Mark s held next = mark
kind_token Declaration s held next = declaration

-- the character stands from here up to the next place
abbrev pub scanned_of : Scanned → Scanner → List ℕ → ℕ → ℕ → LexStep
scanned_of More s held here next = continues (lex_of s held next)
scanned_of (Whole k) s held here next = whole_token (kind_token k s held next)
scanned_of TextBefore s held here next = text_before (raw_of s held here) (resolved s held s.start here) in_tag
scanned_of TextBeforeMark s held here next = text_before_mark (raw_of s held here) (resolved s held s.start here)
scanned_of NoToken s held here next = no_token
scanned_of (NoReference k) s held here next = no_reference k

-- ---- what of the places and the buffers holds

-- a name stands from one place up to another
pub record IsNameIn (held : List ℕ) (a b : ℕ) : Type 0 where
  pub name : is_name (part held a b) ≡ true
  pub onward : a ≤ b
  pub within : b ≤ length held

-- well-formed UTF-16 stands from one place up to another
pub record IsTextIn (held : List ℕ) (a b : ℕ) : Type 0 where
  pub text : IsUtf16 (part held a b)
  pub onward : a ≤ b
  pub within : b ≤ length held

-- a tag of which the name was read
pub record IsOpenTag (held : List ℕ) (start name_end here : ℕ) : Type 0 where
  pub name : IsNameIn held (start + 1) name_end
  pub onward : name_end ≤ here
  pub whole : IsTextIn held start here

-- a tag with an attribute of which the name was read
pub record IsGiven (held : List ℕ) (start name_end attribute_start attribute_end here : ℕ) : Type 0 where
  pub tag : IsOpenTag held start name_end here
  pub name : IsNameIn held attribute_start attribute_end
  pub onward : attribute_end ≤ here

-- a tag with an attribute of which the value began
pub record IsValued (held : List ℕ) (start name_end attribute_start attribute_end value_start quote here : ℕ) : Type 0 where
  pub given : IsGiven held start name_end attribute_start attribute_end here
  pub quoted : is_quote quote ≡ true
  pub value : IsTextIn held value_start here

-- a reference of which a beginning was read: ASCII characters, behind what was read of the text before
pub record IsReferring (held : List ℕ) (reference here : ℕ) (read : Reference) (before : List ℕ) : Type 0 where
  pub is : IsAt read (part held reference here)
  pub bounded : IsBounded read
  pub ascii : list_all is_ascii (part held reference here) ≡ true
  pub onward : reference ≤ here
  pub within : here ≤ length held
  pub resolving : IsUtf16 before

pub record IsBegun (held : List ℕ) (start here : ℕ) : Type 0 where
  pub begun : start ≡ here
  pub within : here ≤ length held

pub record IsInText (held : List ℕ) (start here : ℕ) (units : List ℕ) : Type 0 where
  pub whole : IsTextIn held start here
  pub resolving : IsUtf16 units

pub record IsInTextReference (held : List ℕ) (start reference here : ℕ) (read : Reference) (before : List ℕ) : Type 0 where
  pub whole : IsTextIn held start here
  pub referring : IsReferring held reference here read before

pub record IsInTag (held : List ℕ) (start here : ℕ) : Type 0 where
  pub is : part held start here ≡ 60 ∷ []
  pub begun : start + 1 ≡ here
  pub within : here ≤ length held

pub record IsInStartName (held : List ℕ) (start here : ℕ) (given : List Attribute) : Type 0 where
  pub name : IsNameIn held (start + 1) here
  pub whole : IsTextIn held start here
  pub begins : part held start here ≡ 60 ∷ part held (start + 1) here
  pub none : given ≡ []

pub record IsInAttributeName (held : List ℕ) (start name_end attribute_start here : ℕ) : Type 0 where
  pub tag : IsOpenTag held start name_end here
  pub name : IsNameIn held attribute_start here

pub record IsInValue (held : List ℕ) (start name_end attribute_start attribute_end value_start quote here : ℕ) (units : List ℕ) : Type 0 where
  pub valued : IsValued held start name_end attribute_start attribute_end value_start quote here
  pub resolving : IsUtf16 units

pub record IsInValueReference (held : List ℕ) (start name_end attribute_start attribute_end value_start quote reference here : ℕ) (read : Reference) (before : List ℕ) : Type 0 where
  pub valued : IsValued held start name_end attribute_start attribute_end value_start quote here
  pub referring : IsReferring held reference here read before

-- behind `</` a name or nothing was read
pub record IsInEndName (held : List ℕ) (start here : ℕ) : Type 0 where
  pub onward : start + 2 ≤ here
  pub within : here ≤ length held
  pub name : start + 2 < here → is_name (part held (start + 2) here) ≡ true

pub record IsInEndWhite (held : List ℕ) (start name_end here : ℕ) : Type 0 where
  pub name : IsNameIn held (start + 2) name_end
  pub onward : name_end ≤ here

pub record IsInTail (held : List ℕ) (raw_start raw_end start here : ℕ) : Type 0 where
  pub name : IsNameIn held raw_start raw_end
  pub whole : IsTextIn held start here

-- what holds where this part of a token is being read
abbrev pub IsSoundAt : Mode → Scanner → List ℕ → ℕ → Type 0
IsSoundAt Begin s held here = IsBegun held s.start here
IsSoundAt InText s held here = IsInText held s.start here (resolved_units s held s.start here)
IsSoundAt TextReference s held here = IsInTextReference held s.start s.reference here s.referring s.text.items
IsSoundAt InTag s held here = IsInTag held s.start here
IsSoundAt StartName s held here = IsInStartName held s.start here s.attributes.items
IsSoundAt (InStart spaced) s held here = IsOpenTag held s.start s.name_end here
IsSoundAt AttributeName s held here = IsInAttributeName held s.start s.name_end s.attribute_start here
IsSoundAt BeforeEquals s held here = IsGiven held s.start s.name_end s.attribute_start s.attribute_end here
IsSoundAt BeforeValue s held here = IsGiven held s.start s.name_end s.attribute_start s.attribute_end here
IsSoundAt InValue s held here = IsInValue held s.start s.name_end s.attribute_start s.attribute_end s.value_start s.quote here (resolved_units s held s.value_start here)
IsSoundAt ValueReference s held here = IsInValueReference held s.start s.name_end s.attribute_start s.attribute_end s.value_start s.quote s.reference here s.referring s.text.items
IsSoundAt BeforeClose s held here = IsOpenTag held s.start s.name_end here
IsSoundAt EndName s held here = IsInEndName held s.start here
IsSoundAt EndWhite s held here = IsInEndWhite held s.start s.name_end here
IsSoundAt InTail s held here = IsInTail held s.raw_start s.raw_end s.start here
IsSoundAt BeforeXml s held here = ⊤
IsSoundAt BeforeMl s held here = ⊤
IsSoundAt BeforeL s held here = ⊤
IsSoundAt AfterXml s held here = ⊤
IsSoundAt (InDeclaration question) s held here = ⊤

-- the scanner has read what is held up to here
abbrev pub IsSound : Scanner → List ℕ → ℕ → Type 0
IsSound s held here = IsSoundAt s.mode s held here

-- the token is whole where it ends
abbrev pub IsWhole : Kind → Scanner → List ℕ → ℕ → Type 0
IsWhole OpenTag s held next = IsOpenTag held s.start s.name_end next
IsWhole EmptyTag s held next = IsOpenTag held s.start s.name_end next
IsWhole CloseTag s held next = IsInEndWhite held s.start s.name_end next
IsWhole Tail s held next = IsTextIn held s.start next
IsWhole Mark s held next = ⊤
IsWhole Declaration s held next = ⊤

-- a text is whole where it ends
abbrev pub IsWholeText : Scanner → List ℕ → ℕ → Type 0
IsWholeText s held here = IsInText held s.start here (resolved_units s held s.start here)

-- a text is whole where a `<` stands, which begins a tag
pub record IsTextBefore (s : Scanner) (held : List ℕ) (here next : ℕ) : Type 0 where
  pub whole : IsWholeText s held here
  pub tag : IsCharacter held here next 60

-- what holds behind a character
abbrev pub IsSoundAfter : Scanned → Scanner → List ℕ → ℕ → ℕ → Type 0
IsSoundAfter More s held here next = IsSound s held next
IsSoundAfter (Whole k) s held here next = IsWhole k s held next
IsSoundAfter TextBefore s held here next = IsTextBefore s held here next
IsSoundAfter TextBeforeMark s held here next = IsWholeText s held here
IsSoundAfter NoToken s held here next = ⊤
IsSoundAfter (NoReference k) s held here next = ⊤

-- what one character does in this part of a token: the same as in the machine that reads character after character
pub record IsStep (mode : Mode) (old new : Scanner) (outside : Bool) (r : Scanned) (held : List ℕ) (here next c : ℕ) : Type 0 where
  pub same : scanned_of r new held here next ≡ lex_step outside (state_of mode old held here) c
  pub sound : IsSoundAfter r new held here next
