-- The fields of a record are found in its events by their names.
use Rattle.std.proofs.Common.{◌≡◌, Bool, true, false, cond, List, [], ◌∷◌, ◌++◌, map, Option, Some, None, refl, sym, ap, subst, ◌∙◌}
use Rattle.std.specs.Prelude.{not, ◌&&◌}
use Rattle.std.specs.List.{AllByRecursion}
use Rattle.std.proofs.lemmas.List.{append-nil, append_assoc}
use Rattle.mos_fields.specs.Characters.{Text}
use Rattle.mos_fields.specs.Fields.{name_of, same, same_field}
use Rattle.mos_fields.specs.declared.field.Field.{Field}
use Rattle.mos_tables.specs.Events.{Event, leaf, raw, opens, closes}
use Rattle.mos_values.specs.Parts.{must, maybe, maybe_as, must_raw, maybe_raw, raws, joined}
use Rattle.value_laws.proofs.FlatEvents.{Both, IsFlat, Pins, Stops, cut, ends_stops}

-- ---- what a field writes

-- texts of a field, as leaves or as raw elements
abbrev pub written : Bool → Field → List Text → List Event
written true f xs = map (raw f) xs
written false f xs = map (λ x. leaf (name_of f) [] x) xs

-- a value that may be absent, as a list
abbrev pub listed : Option Text → List Text
listed None = []
listed (Some x) = x ∷ []

abbrev pub listed_as : {A : Type 0} → (A → Text) → Option A → List Text
listed_as write None = []
listed_as write (Some a) = write a ∷ []

pub must_form : (f : Field) (x : Text) → must f x ≡ written false f (x ∷ [])
unfolding must
must_form f x = refl

pub maybe_form : (f : Field) (o : Option Text) → maybe f o ≡ written false f (listed o)
unfolding maybe must
maybe_form f None = refl
maybe_form f (Some x) = refl

pub maybe_as_form : {A : Type 0} (write : A → Text) (f : Field) (o : Option A) → maybe_as write f o ≡ written false f (listed_as write o)
unfolding maybe_as must
maybe_as_form write f None = refl
maybe_as_form write f (Some a) = refl

pub must_raw_form : (f : Field) (x : Text) → must_raw f x ≡ written true f (x ∷ [])
unfolding must_raw
must_raw_form f x = refl

pub maybe_raw_form : (f : Field) (o : Option Text) → maybe_raw f o ≡ written true f (listed o)
unfolding maybe_raw must_raw
maybe_raw_form f None = refl
maybe_raw_form f (Some x) = refl

pub raws_form : (f : Field) (xs : List Text) → raws f xs ≡ written true f xs
unfolding raws
raws_form f xs = refl

-- ---- the fields of a record, one after another

-- a field: whether it is kept as it was written, its texts, and the events that it adds
pub record Part : Type 0 where
  pub kept : Bool
  pub field : Field
  pub texts : List Text
  pub events : List Event
  pub form : events ≡ written kept field texts

abbrev pub must_part : Field → Text → Part
must_part f x = record { kept = false; field = f; texts = x ∷ []; events = must f x; form = must_form f x }

abbrev pub maybe_part : Field → Option Text → Part
maybe_part f o = record { kept = false; field = f; texts = listed o; events = maybe f o; form = maybe_form f o }

abbrev pub maybe_as_part : {A : Type 0} → (A → Text) → Field → Option A → Part
maybe_as_part write f o = record { kept = false; field = f; texts = listed_as write o; events = maybe_as write f o; form = maybe_as_form write f o }

abbrev pub must_raw_part : Field → Text → Part
must_raw_part f x = record { kept = true; field = f; texts = x ∷ []; events = must_raw f x; form = must_raw_form f x }

abbrev pub maybe_raw_part : Field → Option Text → Part
maybe_raw_part f o = record { kept = true; field = f; texts = listed o; events = maybe_raw f o; form = maybe_raw_form f o }

abbrev pub raws_part : Field → List Text → Part
raws_part f xs = record { kept = true; field = f; texts = xs; events = raws f xs; form = raws_form f xs }

-- the events of the record
abbrev pub events_of : List Part → List Event
events_of ps = joined (map (λ (p : Part). p.events) ps)

-- ---- looking a field up

-- one of the two is this field, where both are of one sort
abbrev is_at : Bool → Field → Bool → Field → Bool
is_at true f true g = same_field g f
is_at true f false g = false
is_at false f true g = false
is_at false f false g = same (name_of g) (name_of f)

-- texts, where the test holds
abbrev pub where_so : Bool → List Text → List Text
where_so b xs = cond b xs []

-- the texts of a field in events
abbrev texts_in : Bool → Field → List Event → List Text
texts_in k f [] = []
texts_in k f (leaf n g x ∷ es) = cond (not k && same n (name_of f)) (x ∷ []) [] ++ texts_in k f es
texts_in k f (raw g x ∷ es) = cond (k && same_field g f) (x ∷ []) [] ++ texts_in k f es
texts_in k f (opens n g ∷ es) = texts_in k f es
texts_in k f (closes n ∷ es) = texts_in k f es

-- and in the fields of a record
abbrev pub texts_at : Bool → Field → List Part → List Text
texts_at k f [] = []
texts_at k f (p ∷ ps) = cond (is_at k f p.kept p.field) p.texts [] ++ texts_at k f ps

texts_append : (k : Bool) (f : Field) (es fs : List Event) → texts_in k f (es ++ fs) ≡ texts_in k f es ++ texts_in k f fs
texts_append k f [] fs = refl
texts_append k f (leaf n g x ∷ es) fs =
    let front : List Text = cond (not k && same n (name_of f)) (x ∷ []) [] in
    ap (λ xs. front ++ xs) (texts_append k f es fs) ∙ sym (append_assoc front (texts_in k f es) (texts_in k f fs))
texts_append k f (raw g x ∷ es) fs =
    let front : List Text = cond (k && same_field g f) (x ∷ []) [] in
    ap (λ xs. front ++ xs) (texts_append k f es fs) ∙ sym (append_assoc front (texts_in k f es) (texts_in k f fs))
texts_append k f (opens n g ∷ es) fs = texts_append k f es fs
texts_append k f (closes n ∷ es) fs = texts_append k f es fs

nothing : (b : Bool) → where_so b [] ≡ []
nothing true = refl
nothing false = refl

one_more : (b : Bool) (x : Text) (xs : List Text) → cond b (x ∷ []) [] ++ cond b xs [] ≡ cond b (x ∷ xs) []
one_more true x xs = refl
one_more false x xs = refl

texts_written : (k : Bool) (f : Field) (j : Bool) (g : Field) (xs : List Text) → texts_in k f (written j g xs) ≡ cond (is_at k f j g) xs []
texts_written true f true g [] = sym (nothing (same_field g f))
texts_written true f false g [] = refl
texts_written false f true g [] = refl
texts_written false f false g [] = sym (nothing (same (name_of g) (name_of f)))
texts_written true f true g (x ∷ xs) = ap (λ ys. cond (same_field g f) (x ∷ []) [] ++ ys) (texts_written true f true g xs) ∙ one_more (same_field g f) x xs
texts_written true f false g (x ∷ xs) = texts_written true f false g xs
texts_written false f true g (x ∷ xs) = texts_written false f true g xs
texts_written false f false g (x ∷ xs) = ap (λ ys. cond (same (name_of g) (name_of f)) (x ∷ []) [] ++ ys) (texts_written false f false g xs) ∙ one_more (same (name_of g) (name_of f)) x xs

found : (k : Bool) (f : Field) (ps : List Part) → texts_in k f (events_of ps) ≡ texts_at k f ps
found k f [] = refl
found k f (p ∷ ps) =
    texts_append k f p.events (events_of ps)
    ∙ (ap (λ es. texts_in k f es ++ texts_in k f (events_of ps)) p.form
    ∙ (ap (λ xs. xs ++ texts_in k f (events_of ps)) (texts_written k f p.kept p.field p.texts)
    ∙ ap (λ xs. cond (is_at k f p.kept p.field) p.texts [] ++ xs) (found k f ps)))

-- records with the same events have the same texts of each field
pub same_texts : (k : Bool) (f : Field) (ps qs : List Part) → events_of ps ≡ events_of qs → texts_at k f ps ≡ texts_at k f qs
same_texts k f ps qs e = sym (found k f ps) ∙ (ap (texts_in k f) e ∙ found k f qs)

-- ---- fields are flat

flat_append : (es fs : List Event) → AllByRecursion IsFlat es → AllByRecursion IsFlat fs → AllByRecursion IsFlat (es ++ fs)
flat_append [] fs h i = i
flat_append (e ∷ es) fs h i = (h.0, flat_append es fs h.1 i)

flat_written : (k : Bool) (f : Field) (xs : List Text) → AllByRecursion IsFlat (written k f xs)
flat_written true f [] = tt
flat_written false f [] = tt
flat_written true f (x ∷ xs) = (tt, flat_written true f xs)
flat_written false f (x ∷ xs) = (tt, flat_written false f xs)

pub flat_fields : (ps : List Part) → AllByRecursion IsFlat (events_of ps)
flat_fields [] = tt
flat_fields (p ∷ ps) = flat_append p.events (events_of ps) (let P : List Event → Type 0 = λ es. AllByRecursion IsFlat es in subst P (sym p.form) (flat_written p.kept p.field p.texts)) (flat_fields ps)

-- a record of fields alone is read off its events
pub fields_pin : {A : Type 0} (Fine : A → Type 0) (parts : A → List Part) → ((a b : A) → Fine a → Fine b → events_of (parts a) ≡ events_of (parts b) → a ≡ b) → Pins Fine (λ a. events_of (parts a))
fields_pin Fine parts only a b r s f g i j h =
    let c = cut (events_of (parts a)) (events_of (parts b)) r s (flat_fields (parts a)) (flat_fields (parts b)) (ends_stops r i) (ends_stops s j) h in
    (only a b f g c.0, c.1)

-- fields, and then records or the end
pub cut_fields : (ps qs : List Part) (es fs r s : List Event) → Stops (es ++ r) → Stops (fs ++ s) → (events_of ps ++ es) ++ r ≡ (events_of qs ++ fs) ++ s
    → Both (events_of ps) (events_of qs) (es ++ r) (fs ++ s)
cut_fields ps qs es fs r s i j h = cut (events_of ps) (events_of qs) (es ++ r) (fs ++ s) (flat_fields ps) (flat_fields qs) i j (sym (append_assoc (events_of ps) es r) ∙ (h ∙ append_assoc (events_of qs) fs s))

-- ---- values of fields

pub a_text : (x y : Text) → x ∷ [] ≡ y ∷ [] → x ≡ y
a_text x y e = cc

pub an_option : (o p : Option Text) → listed o ++ [] ≡ listed p ++ [] → o ≡ p
an_option None None e = refl
an_option None (Some y) e = absurd cc
an_option (Some x) None e = absurd cc
an_option (Some x) (Some y) e = cc

pub a_list : (xs ys : List Text) → xs ++ [] ≡ ys ++ [] → xs ≡ ys
a_list xs ys e = sym (append-nil xs) ∙ (e ∙ append-nil ys)

pub an_option_as : {A : Type 0} (write : A → Text) → ((a b : A) → write a ≡ write b → a ≡ b) → (o p : Option A) → listed_as write o ++ [] ≡ listed_as write p ++ [] → o ≡ p
an_option_as write only None None e = refl
an_option_as write only None (Some b) e = absurd cc
an_option_as write only (Some a) None e = absurd cc
an_option_as write only (Some a) (Some b) e = ap (λ c. Some c) (only a b (a_text (write a) (write b) e))
