-- What a table keeps beside its objects, once one is taken out, exchanged or put behind them.
use Rattle.std.proofs.Common.{◌≡◌, ℕ, zero, suc, ◌+◌, ◌-◌, ◌<◌, ◌≤◌, List, [], ◌∷◌, ◌++◌, length, remove, slice_set, get_or, Bool, true, false, Result, Ok, Err, OnOk, IfErr, refl, sym, ap, subst, ◌∙◌, if◌then◌else◌, arith}
use Rattle.std.proofs.lemmas.List.{map-append}
use Rattle.mos_fields.specs.Characters.{Text}
use Rattle.mos_fields.specs.Fields.{name_of}
use Rattle.mos_fields.specs.declared.field.Field.TheVariants as fields
use Rattle.mos_edits.specs.Texts.{has_id}
use Rattle.mos_values.specs.Parts.{element}
use Rattle.mos_values.specs.Units.{capped, units_in}
use Rattle.mos_values.specs.Views.{mos_obj_events}
use Rattle.mos_values.specs.declared.mos_obj.MosObj.{MosObj}
use Rattle.object_table.specs.Objects.{StandsAt, object_ids, put_object, says_deleted, taken, without_object}
use Rattle.object_table.specs.Sizes.{list_size, object_size, size_limit}
use Rattle.object_table.specs.Tables.{IsFault, IsKept}
use Rattle.object_table.specs.declared.fault.TableFault.{TableFault}
use Rattle.object_table.proofs.Places.{ids-set, put-at, put-last, without-at, without-none}
use Rattle.object_table.proofs.Sums.{list-none, list-push, list-remove, list-set, object_size-is}

abbrev sized : MosObj → ℕ
sized o = units_in (element (name_of fields.MosObjTag) (mos_obj_events o))

pub kept-none : (xs : List MosObj) (places : List Text) → xs ≡ [] → places ≡ [] → IsKept xs places 25
kept-none xs places e f =
    let n : list_size xs ≡ 25 = ap list_size e ∙ list-none in
    record { placed = f ∙ sym (ap object_ids e); counted = sym n; within = omega (arith, n) }

module _ (xs : List MosObj) (places : List Text) (units : ℕ) (kept : IsKept xs places units) where
  -- an object that is there, by its size
  pub there : (i : ℕ) (x : MosObj) (n : ℕ) → i < length xs → x ≡ get_or xs i x → n ≡ capped (sized x) → (n ≡ object_size x) × (object_size x ≤ units)
  there i x n lt is e =
      let r = list-remove xs i x lt is in
      let s = object_size-is x in
      let c = kept.counted in
      let w = kept.within in
      (omega (arith, r, s, c, w, e), omega (arith, r, c))

  ids-remove : (ys : List MosObj) (i : ℕ) → object_ids (remove ys i) ≡ remove (object_ids ys) i
  ids-remove [] zero = refl
  ids-remove [] (suc i) = refl
  ids-remove (y ∷ ys) zero = refl
  ids-remove (y ∷ ys) (suc i) = ap (λ (l : List Text). y.id ∷ l) (ids-remove ys i)

  pub kept-remove : (i : ℕ) (x : MosObj) (n : ℕ) → i < length xs → x ≡ get_or xs i x → n ≡ capped (sized x) → IsKept (remove xs i) (remove places i) (units - n)
  kept-remove i x n lt is e =
      let r = list-remove xs i x lt is in
      let t = there i x n lt is e in
      let c = kept.counted in
      let w = kept.within in
      record {
        placed = ap (λ (l : List Text). remove l i) kept.placed ∙ sym (ids-remove xs i);
        counted = omega (arith, r, t, c);
        within = omega (arith, r, w);
      }

  -- the size of the list with one exchanged, and with one more
  pub size-set : (i : ℕ) (x o : MosObj) (n m r : ℕ) → i < length xs → x ≡ get_or xs i x → n ≡ capped (sized x) → m ≡ capped (sized o) → r ≡ capped (units - n + m) → r ≡ capped (list_size (slice_set xs i o))
  size-set i x o n m r lt is e f g =
      let s = list-set xs i x o lt is in
      let t = there i x n lt is e in
      let c = kept.counted in
      let z = object_size-is o in
      omega (arith, s, t, c, z, f, g)

  pub size-push : (o : MosObj) (m r : ℕ) → m ≡ capped (sized o) → r ≡ capped (units + m) → r ≡ capped (list_size (xs ++ o ∷ []))
  size-push o m r f g =
      let s = list-push xs o in
      let c = kept.counted in
      let z = object_size-is o in
      omega (arith, s, c, z, f, g)

  pub kept-set : (i : ℕ) (o : MosObj) (ys : List MosObj) (r : ℕ) → StandsAt o.id xs i → ys ≡ slice_set xs i o → r ≡ capped (list_size (slice_set xs i o)) → r ≤ 8000000 → IsKept ys places r
  kept-set i o ys r at is e le =
      let n : list_size ys ≡ list_size (slice_set xs i o) = ap list_size is in
      record {
        placed = kept.placed ∙ sym (ap object_ids is ∙ ids-set o xs i at);
        counted = omega (arith, n, e, le);
        within = omega (arith, n, e, le);
      }

  pub kept-push : (o : MosObj) (ys : List MosObj) (more : List Text) (r : ℕ) → ys ≡ xs ++ o ∷ [] → more ≡ places ++ o.id ∷ [] → r ≡ capped (list_size (xs ++ o ∷ [])) → r ≤ 8000000 → IsKept ys more r
  kept-push o ys more r is ids e le =
      let n : list_size ys ≡ list_size (xs ++ o ∷ []) = ap list_size is in
      record {
        placed = ids ∙ ap (λ (l : List Text). l ++ o.id ∷ []) kept.placed ∙ sym (ap object_ids is ∙ map-append (λ (x : MosObj). x.id) xs (o ∷ []));
        counted = omega (arith, n, e, le);
        within = omega (arith, n, e, le);
      }

-- a number past the limit was not cut below it
pub is-full : (r n : ℕ) → 8000000 < r → r ≡ capped n → (size_limit < n) × (r ≡ capped n)
is-full r n lt e = (omega (arith, lt, e), e)

-- what is taken, where the objID is there and where it isn't
pub taken-put : (o : MosObj) (xs : List MosObj) → says_deleted o.status ≡ false → put_object o xs ≡ taken o xs
taken-put o xs h = ap (λ (b : Bool). if b then without_object o.id xs else put_object o xs) (sym h)

pub taken-gone : (o : MosObj) (xs : List MosObj) → says_deleted o.status ≡ true → without_object o.id xs ≡ taken o xs
taken-gone o xs h = ap (λ (b : Bool). if b then without_object o.id xs else put_object o xs) (sym h)

pub taken-at : (o : MosObj) (xs : List MosObj) (n : ℕ) → StandsAt o.id xs n → says_deleted o.status ≡ false → slice_set xs n o ≡ taken o xs
taken-at o xs n at h = put-at o xs n at ∙ taken-put o xs h

pub taken-last : (o : MosObj) (xs : List MosObj) → has_id o.id (object_ids xs) ≡ false → says_deleted o.status ≡ false → xs ++ o ∷ [] ≡ taken o xs
taken-last o xs none h = put-last o xs none ∙ taken-put o xs h

pub gone-at : (o : MosObj) (xs : List MosObj) (n : ℕ) → StandsAt o.id xs n → says_deleted o.status ≡ true → remove xs n ≡ taken o xs
gone-at o xs n at h = without-at o.id xs n at ∙ taken-gone o xs h

pub gone-none : (o : MosObj) (xs : List MosObj) → has_id o.id (object_ids xs) ≡ false → says_deleted o.status ≡ true → xs ≡ taken o xs
gone-none o xs none h = without-none o.id xs none ∙ taken-gone o xs h

pub ok-is : {T E : Type 0} (r : Result T E) (new xs ys : List MosObj) → xs ≡ ys → OnOk r (new ≡ xs) → OnOk r (new ≡ ys)
ok-is (Ok v) new xs ys e h = h ∙ e
ok-is (Err f) new xs ys e h = tt

pub fault-is : {T : Type 0} (r : Result T TableFault) (xs ys : List MosObj) → xs ≡ ys → IfErr r (IsFault xs) → IfErr r (IsFault ys)
fault-is r xs ys e h = subst (λ (l : List MosObj). IfErr r (IsFault l)) e h
