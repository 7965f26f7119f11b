-- Entries of a table whose keys are the code units of the identifiers of what they lead to.
use Rattle.std.proofs.Common.{◌≡◌, ℕ, zero, suc, Some, slice_get, List, [], ◌∷◌, ◌++◌, length, map, take, drop, take_at, drop_at, remove, swap, refl, sym, ap, subst, append_assoc, ◌∙◌}
use Rattle.std.proofs.lemmas.List.{map-append, append-nil}
use Rattle.std.proofs.lemmas.Simd.{map-map}
use Rattle.std.specs.Str.{bytes_eq}
use Rattle.std.specs.Map.{keys_of}
use Rattle.std.specs.List.{IsDistinct}
use Rattle.std.specs.Cmp.{IsEquivalence}
use Rattle.std.specs.Cmp.Lexicographic.{on_texts_equal}
use Rattle.indexmap.specs.IndexMap.{insert_all as map_all, insert_entry, move_index}
use Rattle.indexmap.proofs.MapLemmas.{insert_entry-absent, absent_from_lookup, absent_before}
use Rattle.indexmap.proofs.SetLemmas.{map-move, map-remove}
use Rattle.indexmap.proofs.ReorderLemmas.{map-swap}
use Rattle.mos_fields.specs.Characters.{Text, units_of, chars_of}
use Rattle.mos_values.specs.Distinct.{AreDistinct}
use Rattle.indexmap.specs.IndexMap.{set_value_at}
use Rattle.mos_values.specs.StoryValue.{Story}
use Rattle.mos_values.specs.declared.item.Item.{Item}
use Rattle.running_order.specs.Entries.{IsKeyed}
use Rattle.running_order.specs.Places.{put_in, put_over, AreKeys, items_at, edit_items}
use Rattle.running_order.proofs.Lists.{map-put_in, map-put_over}
use Rattle.running_order.proofs.Keys.{distinct_keys, AreKeys-append}

-- entries with distinct keys, inserted one after another, go last
pub map_all_distinct : {K X : Type 0} {eq : K → K → _} → IsEquivalence eq → (es xs : List (K × X)) → IsDistinct eq (keys_of (es ++ xs)) → map_all eq es xs ≡ es ++ xs
map_all_distinct o es [] d = sym (append-nil es)
map_all_distinct {K} {X} {eq} o es (x ∷ xs) d =
    let one : insert_entry eq es x.0 x.1 ≡ es ++ x ∷ [] = insert_entry-absent eq x.0 x.1 es (absent_from_lookup (eq x.0) es (absent_before o es xs x d)) in
    let moved : (es ++ x ∷ []) ++ xs ≡ es ++ x ∷ xs = append_assoc es (x ∷ []) xs in
    ap (λ l. map_all eq l xs) one ∙ map_all_distinct o (es ++ x ∷ []) xs (subst (λ l. IsDistinct eq (keys_of l)) (sym moved) d) ∙ moved

module _ {K X : Type 0} (units : K → List ℕ) (id : X → Text) where
  abbrev recoded : List ℕ → List ℕ
  recoded us = units_of (chars_of us)

  pub keyed_append : (es xs : List (K × X)) → IsKeyed units id es → IsKeyed units id xs → IsKeyed units id (es ++ xs)
  keyed_append es xs p q = record {
    keys = subst AreKeys (sym (map-append (λ (e : K × X). units e.0) es xs)) (AreKeys-append (map (λ (e : K × X). units e.0) es) (map (λ (e : K × X). units e.0) xs) p.keys q.keys);
    ids = map-append (λ (e : K × X). chars_of (units e.0)) es xs ∙ (λ j. p.ids j ++ q.ids j) ∙ sym (map-append (λ (e : K × X). id e.1) es xs);
  }

  pub keyed_move : (es : List (K × X)) (a b : ℕ) → IsKeyed units id es → IsKeyed units id (move_index es a b)
  keyed_move es a b p = record {
    keys = ap (map recoded) (map-move (λ (e : K × X). units e.0) es a b) ∙ map-move recoded (map (λ (e : K × X). units e.0) es) a b ∙ ap (λ l. move_index l a b) p.keys ∙ sym (map-move (λ (e : K × X). units e.0) es a b);
    ids = map-move (λ (e : K × X). chars_of (units e.0)) es a b ∙ ap (λ l. move_index l a b) p.ids ∙ sym (map-move (λ (e : K × X). id e.1) es a b);
  }

  pub keyed_swap : (es : List (K × X)) (a b : ℕ) → IsKeyed units id es → IsKeyed units id (swap es a b)
  keyed_swap es a b p = record {
    keys = ap (map recoded) (map-swap (λ (e : K × X). units e.0) es a b) ∙ map-swap recoded (map (λ (e : K × X). units e.0) es) a b ∙ ap (λ l. swap l a b) p.keys ∙ sym (map-swap (λ (e : K × X). units e.0) es a b);
    ids = map-swap (λ (e : K × X). chars_of (units e.0)) es a b ∙ ap (λ l. swap l a b) p.ids ∙ sym (map-swap (λ (e : K × X). id e.1) es a b);
  }

  pub keyed_remove : (es : List (K × X)) (a : ℕ) → IsKeyed units id es → IsKeyed units id (remove es a)
  keyed_remove es a p = record {
    keys = ap (map recoded) (map-remove (λ (e : K × X). units e.0) es a) ∙ map-remove recoded (map (λ (e : K × X). units e.0) es) a ∙ ap (λ l. remove l a) p.keys ∙ sym (map-remove (λ (e : K × X). units e.0) es a);
    ids = map-remove (λ (e : K × X). chars_of (units e.0)) es a ∙ ap (λ l. remove l a) p.ids ∙ sym (map-remove (λ (e : K × X). id e.1) es a);
  }

  pub keyed_put_in : (es : List (K × X)) (a : ℕ) (xs : List (K × X)) → IsKeyed units id es → IsKeyed units id xs → IsKeyed units id (put_in es a xs)
  keyed_put_in es a xs p q = record {
    keys = ap (map recoded) (map-put_in (λ (e : K × X). units e.0) es a xs) ∙ map-put_in recoded (map (λ (e : K × X). units e.0) es) a (map (λ (e : K × X). units e.0) xs) ∙ (λ j. put_in (p.keys j) a (q.keys j)) ∙ sym (map-put_in (λ (e : K × X). units e.0) es a xs);
    ids = map-put_in (λ (e : K × X). chars_of (units e.0)) es a xs ∙ (λ j. put_in (p.ids j) a (q.ids j)) ∙ sym (map-put_in (λ (e : K × X). id e.1) es a xs);
  }

  pub keyed_put_over : (es : List (K × X)) (a : ℕ) (xs : List (K × X)) → IsKeyed units id es → IsKeyed units id xs → IsKeyed units id (put_over es a xs)
  keyed_put_over es a xs p q = record {
    keys = ap (map recoded) (map-put_over (λ (e : K × X). units e.0) es a xs) ∙ map-put_over recoded (map (λ (e : K × X). units e.0) es) a (map (λ (e : K × X). units e.0) xs) ∙ (λ j. put_over (p.keys j) a (q.keys j)) ∙ sym (map-put_over (λ (e : K × X). units e.0) es a xs);
    ids = map-put_over (λ (e : K × X). chars_of (units e.0)) es a xs ∙ (λ j. put_over (p.ids j) a (q.ids j)) ∙ sym (map-put_over (λ (e : K × X). id e.1) es a xs);
  }

  -- the keys alone
  pub keys_known : (es : List (K × X)) → IsKeyed units id es → AreKeys (map units (keys_of es))
  keys_known es p = subst AreKeys (sym (map-map units (λ (e : K × X). e.0) es)) p.keys

  pub key_ids : (es : List (K × X)) → IsKeyed units id es → map (λ k. chars_of (units k)) (keys_of es) ≡ map id (map (λ (e : K × X). e.1) es)
  key_ids es p = map-map (λ k. chars_of (units k)) (λ (e : K × X). e.0) es ∙ p.ids ∙ sym (map-map id (λ (e : K × X). e.1) es)

  abbrev values : List (K × X) → List X
  values es = map (λ (e : K × X). e.1) es

  -- entries whose identifiers aren't there go last
  pub appended_entries : (es xs : List (K × X)) → IsKeyed units id es → IsKeyed units id xs → AreDistinct (map id (values es) ++ map id (values xs)) → map_all (λ k l. bytes_eq (units k) (units l)) es xs ≡ es ++ xs
  appended_entries es xs p q d =
      let both = keyed_append es xs p q in
      let e : map id (values es) ++ map id (values xs) ≡ map (λ k. chars_of (units k)) (keys_of (es ++ xs))
      = sym (map-append id (values es) (values xs)) ∙ ap (map id) (sym (map-append (λ (e : K × X). e.1) es xs)) ∙ sym (key_ids (es ++ xs) both) in
      map_all_distinct (on_texts_equal units) es xs (distinct_keys units (keys_of (es ++ xs)) (keys_known (es ++ xs) both) (subst AreDistinct e d))

  -- and are then moved to a place
  pub inserted_entries : (es xs all after : List (K × X)) (was at : ℕ) → IsKeyed units id es → IsKeyed units id xs → AreDistinct (map id (values es) ++ map id (values xs)) → length es ≡ was
      → all ≡ map_all (λ k l. bytes_eq (units k) (units l)) es xs → after ≡ put_in (take was all) at (drop was all) → after ≡ put_in es at xs
  inserted_entries es xs all after was at p q d long all_is after_is =
      after_is ∙ ap (λ l. put_in (take was l) at (drop was l)) (all_is ∙ appended_entries es xs p q d) ∙ (λ j. put_in (take_at es xs was long j) at (drop_at es xs was long j))

-- the items of the story at a place
pub items_at-at : (ss : List Story) (i : ℕ) (s : Story) → slice_get ss i ≡ Some s → items_at ss i ≡ s.items
items_at-at [] i s h = absurd (cc)
items_at-at (x ∷ ss) zero s h = let e : x ≡ s = cc in ap (λ (y : Story). y.items) e
items_at-at (x ∷ ss) (suc i) s h = items_at-at ss i s h

module _ {K : Type 0} where
  -- a value that is written over one with its identifier
  pub values-written : (es : List (K × Story)) (i : ℕ) (s w : Story) (edit : List Item → List Item) → slice_get (map (λ (e : K × Story). e.1) es) i ≡ Some s → w ≡ record s { items = edit s.items }
      → map (λ (e : K × Story). e.1) (set_value_at es i w) ≡ edit_items (map (λ (e : K × Story). e.1) es) i edit
  values-written [] i s w edit h g = refl
  values-written (e ∷ es) zero s w edit h g = let same : e.1 ≡ s = cc in ap (λ (x : Story). x ∷ map (λ (e : K × Story). e.1) es) (g ∙ ap (λ (x : Story). record x { items = edit x.items }) (sym same))
  values-written (e ∷ es) (suc i) s w edit h g = ap (λ l. e.1 ∷ l) (values-written es i s w edit h g)

  pub values-rewritten : (es : List (K × Story)) (i : ℕ) (s w : Story) → slice_get (map (λ (e : K × Story). e.1) es) i ≡ Some s → w ≡ s
      → map (λ (e : K × Story). e.1) (set_value_at es i w) ≡ map (λ (e : K × Story). e.1) es
  values-rewritten [] i s w h g = refl
  values-rewritten (e ∷ es) zero s w h g = let same : e.1 ≡ s = cc in ap (λ (x : Story). x ∷ map (λ (e : K × Story). e.1) es) (g ∙ sym same)
  values-rewritten (e ∷ es) (suc i) s w h g = ap (λ l. e.1 ∷ l) (values-rewritten es i s w h g)

  -- keys stay, and so do the identifiers
  ids-written : (es : List (K × Story)) (i : ℕ) (s w : Story) → slice_get (map (λ (e : K × Story). e.1) es) i ≡ Some s → w.id ≡ s.id
      → map (λ (e : K × Story). e.1.id) (set_value_at es i w) ≡ map (λ (e : K × Story). e.1.id) es
  ids-written [] i s w h g = refl
  ids-written (e ∷ es) zero s w h g = let same : e.1 ≡ s = cc in ap (λ x. x ∷ map (λ (e : K × Story). e.1.id) es) (g ∙ ap (λ (x : Story). x.id) (sym same))
  ids-written (e ∷ es) (suc i) s w h g = ap (λ l. e.1.id ∷ l) (ids-written es i s w h g)

  keys-written : {Y : Type 0} (f : K → Y) (es : List (K × Story)) (i : ℕ) (w : Story) → map (λ (e : K × Story). f e.0) (set_value_at es i w) ≡ map (λ (e : K × Story). f e.0) es
  keys-written f [] i w = refl
  keys-written f (e ∷ es) zero w = refl
  keys-written f (e ∷ es) (suc i) w = ap (λ l. f e.0 ∷ l) (keys-written f es i w)

  pub keyed_written : (units : K → List ℕ) (es : List (K × Story)) (i : ℕ) (s w : Story) → slice_get (map (λ (e : K × Story). e.1) es) i ≡ Some s → w.id ≡ s.id
      → IsKeyed units (λ (x : Story). x.id) es → IsKeyed units (λ (x : Story). x.id) (set_value_at es i w)
  keyed_written units es i s w h g p = record {
    keys = subst AreKeys (sym (keys-written units es i w)) p.keys;
    ids = keys-written (λ k. chars_of (units k)) es i w ∙ p.ids ∙ sym (ids-written es i s w h g);
  }
