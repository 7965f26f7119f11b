-- The names that no message of another kind has.
use Rattle.std.proofs.Common.{◌≡◌, Bool, true, false, cond, not, List, [], ◌∷◌, ◌++◌, map, codes, Option, Some, None, is_some, refl, sym, ap, ◌∙◌, subst, Decides}
use Rattle.std.proofs.lemmas.Bool.{false≢true}
use Rattle.mos_fields.specs.Characters.{Text, units_of}
use Rattle.mos_fields.specs.Fields.{same}
use Rattle.mos_fields.specs.Forms.{among}
use Rattle.mos_fields.specs.Names.{is_name}
use Rattle.mos_fields.specs.Raw.{IsRaw}
use Rattle.mos_fields.specs.declared.operation.Operation.{Operation}
use Rattle.mos_fields.specs.declared.operation.Operation.TheVariants.{Insert}
use Rattle.mos_tables.specs.declared.table.Table.{Table}
use Rattle.mos_tables.specs.Tables.{messages, table_of_name}
use Rattle.mos_events.specs.declared.message_name.MessageName.{MessageName}
use Rattle.mos_columns.specs.Messages.{record_if}
use Rattle.mos_values.specs.Sound.{taken_names}
use Rattle.mos_soundness.proofs.RawNames.{same_turned, name_units}

found_named : (n : Text) (ms : List (Text × Table)) → among n (map (λ (p : Text × Table). p.0) ms) ≡ is_some (table_of_name n ms)
found_named n [] = refl
found_named n (m ∷ ms) = go (same n m.0) (same m.0 n) (same_turned n m.0) (found_named n ms)
  where
    go : (a b : Bool) → a ≡ b → among n (map (λ (p : Text × Table). p.0) ms) ≡ is_some (table_of_name n ms)
        → cond a true (among n (map (λ (p : Text × Table). p.0) ms)) ≡ is_some (cond b (Some m.1) (table_of_name n ms))
    go true true e h = refl
    go false false e h = h
    go true false e h = absurd cc
    go false true e h = absurd cc

among_both : (n : Text) (xs ys : List Text) → among n (xs ++ ys) ≡ cond (among n xs) true (among n ys)
among_both n [] ys = refl
among_both n (x ∷ xs) ys = go (same n x) (among_both n xs ys)
  where
    go : (b : Bool) → among n (xs ++ ys) ≡ cond (among n xs) true (among n ys) → cond b true (among n (xs ++ ys)) ≡ cond (cond b true (among n xs)) true (among n ys)
    go true h = refl
    go false h = h

some_record : (o : Operation) (r : Option MessageName) → is_some (record_if o r) ≡ is_some r
some_record o None = refl
some_record o (Some m) = refl

abbrev envelope_names : List Text
envelope_names = codes "mosID" ∷ codes "ncsID" ∷ codes "messageID" ∷ []

pub taken_is : (n : Text) (r : Option MessageName) → ((o : Operation) → table_of_name n (messages o) ≡ record_if o r) → among n taken_names ≡ cond (is_some r) true (among n envelope_names)
taken_is n r h =
    among_both n (map (λ (p : Text × Table). p.0) (messages Insert)) envelope_names
    ∙ ap (λ b. cond b true (among n envelope_names)) (found_named n (messages Insert) ∙ (ap is_some (h Insert) ∙ some_record Insert r))

-- ---- messages of other names

pub other_name : (n w x us : Text) (b t : Bool) → us ≡ units_of n → is_name n ≡ true → Decides b (us ≡ w) → b ≡ true → IsRaw w x → t ≡ among w taken_names → Decides (not t) (IsRaw n x × (among n taken_names ≡ false))
other_name n w x us b t u h d e r g =
    let P : Text → Type 0 = λ m. IsRaw m x in
    let s : n ≡ w = sym (name_units n h) ∙ (sym u ∙ d.0 e) in
    let k : t ≡ among n taken_names = g ∙ ap (λ m. among m taken_names) (sym s) in
    (λ f. (subst P (sym s) r, sym k ∙ turned t f), λ f. ap not (k ∙ f.1))
  where
    turned : (a : Bool) → not a ≡ true → a ≡ false
    turned false f = refl
    turned true f = absurd cc

pub no_name : (n w x us : Text) (b : Bool) → us ≡ units_of n → is_name n ≡ true → Decides b (us ≡ w) → b ≡ false → ((m : Text) → IsRaw m x → m ≡ w) → Decides b (IsRaw n x × (among n taken_names ≡ false))
no_name n w x us b u h d e only = (λ t. absurd (false≢true (sym e ∙ t)), λ f. d.1 (u ∙ (name_units n h ∙ only n f.0)))
