-- Raw elements that may stand in a record.
use Rattle.std.proofs.Common.{◌≡◌, Bool, true, false, List, [], ◌∷◌, ◌++◌, map, Option, Some, None, refl, sym, ap, ◌∙◌, subst, Decides, ◌↔◌}
use Rattle.std.specs.List.{AllByRecursion, flat_map}
use Rattle.std.proofs.lemmas.Bool.{false≢true}
use Rattle.mos_fields.specs.Characters.{Text}
use Rattle.mos_fields.specs.Fields.{name_of, same_field}
use Rattle.mos_fields.specs.Forms.{among}
use Rattle.mos_fields.specs.Raw.{IsRaw}
use Rattle.mos_fields.specs.declared.field.Field.{Field}
use Rattle.mos_fields.specs.declared.field.Field.TheVariants as fields
use Rattle.mos_fields.specs.Values.{samples_text, rev_text, air_text, obj_type_text, time_text}
use Rattle.mos_tables.specs.declared.column.Column.{Column}
use Rattle.mos_tables.specs.declared.others.Others.TheVariants.{Kept}
use Rattle.mos_tables.specs.declared.table.Table.{Table}
use Rattle.mos_tables.specs.Events.{Event, raw}
use Rattle.mos_tables.specs.Tables.{columns, others}
use Rattle.mos_values.specs.declared.piece.Piece.{Piece}
use Rattle.mos_values.specs.declared.piece.Piece.TheVariants as pieces
use Rattle.mos_values.specs.Parts.{must, maybe, maybe_as, must_raw, maybe_raw, raws}
use Rattle.mos_values.specs.Pieces.{piece_events, pieces_events}
use Rattle.mos_values.specs.Views.{ack_status_text}
use Rattle.mos_values.specs.Sound.{IsOther, IsNamed, Fits, AllFit}

-- ---- one element

abbrev column_names : Table → List Text
column_names t = map (λ (c : Column). name_of c.field) (columns t)

pub is_other : (t : Table) (x n : Text) (b : Bool) → IsRaw n x → ((m : Text) → IsRaw m x → m ≡ n) → among n (column_names t) ≡ false → Decides b (others t n ≡ Kept) → Decides b (IsOther t x)
is_other t x n b h only e d =
    let P : Text → Type 0 = λ m. others t m ≡ Kept in
    (λ t. (n, h, e, d.0 t), λ o. d.1 (subst P (only o.0 o.1) o.3))

pub no_other : (t : Table) (x n : Text) → ((m : Text) → IsRaw m x → m ≡ n) → among n (column_names t) ≡ true → Decides false (IsOther t x)
no_other t x n only e =
    (λ t. absurd (false≢true t), λ o. absurd (false≢true (sym o.2 ∙ (ap (λ m. among m (column_names t)) (only o.0 o.1) ∙ e))))

pub other_field : (f : Field) → (f ≡ fields.Kept → ⊥) → same_field f fields.Kept ≡ false
other_field fields.Kept h = absurd (h refl)
other_field f h = refl

pub fits_named : (t : Table) (f : Field) (x : Text) (b : Bool) → (f ≡ fields.Kept → ⊥) → Decides b (IsRaw (name_of f) x) → Decides b (Fits t (raw f x))
fits_named t f x b h d = let P : Bool → Type 0 = λ k. Decides b (IsNamed k t f x) in subst P (sym (other_field f h)) d

-- ---- lists of elements

pub all_both : {X : Type 0} (P : X → Type 0) (xs ys : List X) → AllByRecursion P (xs ++ ys) ↔ (AllByRecursion P xs × AllByRecursion P ys)
all_both P [] ys = (λ h. (tt, h), λ h. h.1)
all_both P (x ∷ xs) ys =
    let p = all_both P xs ys in
    (λ h. let q = p.0 h.1 in ((h.0, q.0), q.1), λ h. (h.0.0, p.1 (h.0.1, h.1)))

raws_hold : (t : Table) (f : Field) (xs : List Text) → AllByRecursion (λ x. Fits t (raw f x)) xs ↔ AllFit t (raws f xs)
unfolding raws
raws_hold t f [] = (λ h. h, λ h. h)
raws_hold t f (x ∷ xs) = let p = raws_hold t f xs in (λ h. (h.0, p.0 h.1), λ h. (h.0, p.1 h.1))

pub raws_fit : (t : Table) (f : Field) (xs : List Text) (b : Bool) → Decides b (AllByRecursion (λ x. Fits t (raw f x)) xs) → Decides b (AllFit t (raws f xs))
raws_fit t f xs b d = let p = raws_hold t f xs in (λ e. p.0 (d.0 e), λ h. d.1 (p.1 h))

pieces_hold : (t : Table) (ps : List Piece) → AllByRecursion (λ p. AllFit t (piece_events p)) ps ↔ AllFit t (pieces_events ps)
unfolding pieces_events
pieces_hold t [] = (λ h. h, λ h. h)
pieces_hold t (p ∷ ps) =
    let q = pieces_hold t ps in
    let b = all_both (Fits t) (piece_events p) (flat_map piece_events ps) in
    (λ h. b.1 (h.0, q.0 h.1), λ h. let w = b.0 h in (w.0, q.1 w.1))

pub pieces_fit : (t : Table) (ps : List Piece) (b : Bool) → Decides b (AllByRecursion (λ p. AllFit t (piece_events p)) ps) → Decides b (AllFit t (pieces_events ps))
pieces_fit t ps b d = let p = pieces_hold t ps in (λ e. p.0 (d.0 e), λ h. d.1 (p.1 h))

-- ---- one field

pub one_fits : (t : Table) (f : Field) (x : Text) (b : Bool) → Decides b (Fits t (raw f x)) → Decides b (AllFit t (must_raw f x))
unfolding must_raw
one_fits t f x b d = (λ e. (d.0 e, tt), λ h. d.1 h.0)

-- a field with a text
must_fits : (t : Table) (f : Field) (x : Text) → AllFit t (must f x)
unfolding must
must_fits t f x = (tt, tt)

maybe_fits : (t : Table) (f : Field) (x : Option Text) → AllFit t (maybe f x)
unfolding maybe
maybe_fits t f None = tt
maybe_fits t f (Some x) = must_fits t f x

maybe_as_fits : {A : Type 0} (write : A → Text) (t : Table) (f : Field) (x : Option A) → AllFit t (maybe_as write f x)
unfolding maybe_as
maybe_as_fits write t f None = tt
maybe_as_fits write t f (Some x) = must_fits t f (write x)

pub record_fits : (t : Table) (es fs : List Event) (b : Bool) → es ≡ fs → Decides b (AllFit t es) → Decides b (AllFit t fs)
record_fits t es fs b e d = subst (λ (xs : List Event). Decides b (AllFit t xs)) e d

-- a field that isn't raw
abbrev pub IsPlain : Piece → Type 0
IsPlain (pieces.Raw f x) = ⊥
IsPlain (pieces.OptionalRaw f x) = ⊥
IsPlain (pieces.Raws f x) = ⊥
IsPlain p = Unit {0}

plain_all : (t : Table) (p : Piece) → IsPlain p → AllFit t (piece_events p)
plain_all t (pieces.Text f x) h = must_fits t f x.now
plain_all t (pieces.OptionalText f x) h = maybe_fits t f x.now
plain_all t (pieces.OptionalSlug f x) h = maybe_fits t f x.now
plain_all t (pieces.OptionalOptId f x) h = maybe_fits t f x.now
plain_all t (pieces.Samples f n) h = must_fits t f (samples_text n)
plain_all t (pieces.OptionalSamples f n) h = maybe_as_fits samples_text t f n
plain_all t (pieces.OptionalRev f n) h = maybe_as_fits rev_text t f n
plain_all t (pieces.Time f x) h = must_fits t f (time_text x.now)
plain_all t (pieces.OptionalTime f x) h = maybe_as_fits time_text t f x.now
plain_all t (pieces.Air f a) h = must_fits t f (air_text a)
plain_all t (pieces.OptionalAir f a) h = maybe_as_fits air_text t f a
plain_all t (pieces.OptionalObjType f x) h = maybe_as_fits obj_type_text t f x
plain_all t (pieces.AckStatus f s) h = must_fits t f (ack_status_text s)
plain_all t (pieces.Raw f x) h = absurd h
plain_all t (pieces.OptionalRaw f x) h = absurd h
plain_all t (pieces.Raws f x) h = absurd h

pub plain_if : (p : Piece) → ((f : Field) (x : _) → p ≡ pieces.Raw f x → ⊥) → ((f : Field) (x : _) → p ≡ pieces.OptionalRaw f x → ⊥) → ((f : Field) (x : _) → p ≡ pieces.Raws f x → ⊥) → IsPlain p
plain_if (pieces.Raw f x) a b c = a f x refl
plain_if (pieces.OptionalRaw f x) a b c = b f x refl
plain_if (pieces.Raws f x) a b c = c f x refl
plain_if p a b c = tt

pub plain_fits : (t : Table) (p : Piece) → IsPlain p → Decides true (AllFit t (piece_events p))
plain_fits t p h = (λ e. plain_all t p h, λ f. refl)

pub at_piece : (t : Table) (p q : Piece) (b : Bool) → p ≡ q → Decides b (AllFit t (piece_events q)) → Decides b (AllFit t (piece_events p))
at_piece t p q b e d = subst (λ (r : Piece). Decides b (AllFit t (piece_events r))) (sym e) d

pub none_fits : (t : Table) (f : Field) (x : Option Text) → x ≡ None → Decides true (AllFit t (maybe_raw f x))
unfolding maybe_raw
none_fits t f None e = (λ h. tt, λ h. refl)
none_fits t f (Some x) e = absurd cc

pub some_fits : (t : Table) (f : Field) (x : Option Text) (y : Text) (b : Bool) → x ≡ Some y → Decides b (Fits t (raw f y)) → Decides b (AllFit t (maybe_raw f x))
unfolding maybe_raw
some_fits t f x y b e d = subst (λ (o : Option Text). Decides b (AllFit t (maybe_raw f o))) (sym e) (one_fits t f y b d)
