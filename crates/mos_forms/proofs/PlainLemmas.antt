-- The values of attributes with no white space round them.
use Rattle.std.proofs.Common.{◌≡◌, ℕ, ◌+◌, true, false, List, [], ◌∷◌, Some, refl, sym, ap, ◌∙◌, arith}
use Rattle.std.proofs.lemmas.Bool.Decides.{nat_tests}
use Rattle.mos_fields.specs.Characters.{Text, are_allowed, chars_of, units_of}
use Rattle.mos_fields.specs.Forms.{trimmed, is_space}
use Rattle.mos_fields.specs.declared.field.Field.{Field}
use Rattle.mos_fields.specs.declared.field.Field.TheVariants as fields
use Rattle.mos_fields.specs.declared.level.Level.TheVariants.{Ro, Story, Item}
use Rattle.mos_fields.specs.declared.operation.Operation.{Operation}
use Rattle.mos_fields.specs.declared.operation.Operation.TheVariants.{Insert, Replace, Move, Delete, Swap}
use Rattle.mos_fields.proofs.CharacterLemmas.{chars_of-units_of}
use Rattle.mos_fields.proofs.WordLemmas.{word_found}
use Rattle.mos_tables.specs.Tables.{operation_of}
use Rattle.mos_events.specs.declared.known_attribute.KnownAttribute.{KnownAttribute}
use Rattle.mos_events.specs.declared.known_attribute.KnownAttribute.TheVariants as known
use Rattle.mos_forms.specs.Known.{value_text, values_for, known_in}

digit_not_space : (n : ℕ) → is_space (48 + n) ≡ false
digit_not_space n = grind (arith, nat_tests)

digit_trimmed : (c : ℕ) → is_space c ≡ false → trimmed (c ∷ []) ≡ c ∷ []
digit_trimmed c e = rw (e, e) refl

-- a value is its own characters, and has no white space round it
value_trimmed : (k : KnownAttribute) → trimmed (chars_of (value_text k)) ≡ value_text k
unfolding chars_of
value_trimmed known.Ncs = refl
value_trimmed known.Mos = refl
value_trimmed (known.Number n) = digit_trimmed (48 + n) (digit_not_space n)
value_trimmed (known.Element Ro) = refl
value_trimmed (known.Element Story) = refl
value_trimmed (known.Element Item) = refl
value_trimmed (known.Operation Insert) = refl
value_trimmed (known.Operation Replace) = refl
value_trimmed (known.Operation Move) = refl
value_trimmed (known.Operation Delete) = refl
value_trimmed (known.Operation Swap) = refl

-- what units of a value are
plain_is : (ks : List KnownAttribute) (x : Text) (k : KnownAttribute) → are_allowed x ≡ true → known_in ks (units_of x) ≡ Some k → trimmed x ≡ value_text k
plain_is ks x k a e = ap trimmed (sym (chars_of-units_of x a) ∙ ap chars_of (word_found value_text ks (units_of x) k e).0) ∙ value_trimmed k

pub plain_known : (f : Field) (x : Text) (k : KnownAttribute) → are_allowed x ≡ true → known_in (values_for f) (units_of x) ≡ Some k → Some k ≡ known_in (values_for f) (trimmed x)
plain_known f x k a e = sym (ap (known_in (values_for f)) (plain_is (values_for f) x k a e ∙ sym (word_found value_text (values_for f) (units_of x) k e).0) ∙ e)

operation_is : (o : Operation) → o ≡ operation_of (value_text (known.Operation o))
operation_is Insert = refl
operation_is Replace = refl
operation_is Move = refl
operation_is Delete = refl
operation_is Swap = refl

pub plain_operation : (x : Text) (o : Operation) → are_allowed x ≡ true → known_in (values_for fields.OperationKind) (units_of x) ≡ Some (known.Operation o) → o ≡ operation_of (trimmed x)
plain_operation x o a e = operation_is o ∙ ap operation_of (sym (plain_is (values_for fields.OperationKind) x (known.Operation o) a e))
