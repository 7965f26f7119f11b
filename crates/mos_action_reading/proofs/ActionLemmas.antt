-- The element_source of an accepted action holds what its element_target asks for.
use Rattle.std.proofs.Common.{◌≡◌, ℕ, ◌+◌, Bool, true, false, cond, List, [], ◌∷◌, ◌++◌, Option, Some, None, refl, sym, ap, subst, ◌∙◌, append_assoc, arith, ◌⊎◌, inl, inr}
use Rattle.std.specs.Prelude.{◌&&◌, nat_lt}
use Rattle.std.proofs.lemmas.List.{append-nil}
use Rattle.std.proofs.lemmas.Grind.{flat_map-append}
use Rattle.std.proofs.lemmas.Bool.Decides.{leb_tells}
use Rattle.mos_fields.specs.Characters.{Text}
use Rattle.mos_fields.specs.Fields.{name_of, same_field}
use Rattle.mos_fields.specs.declared.field.Field.{Field}
use Rattle.mos_fields.specs.declared.field.Field.TheVariants as fields
use Rattle.mos_fields.specs.declared.operation.Operation.{Operation}
use Rattle.mos_fields.specs.declared.operation.Operation.TheVariants.{Insert, Replace, Move, Delete, Swap}
use Rattle.mos_tables.specs.declared.aim.Aim.{Aim}
use Rattle.mos_tables.specs.declared.aim.Aim.TheVariants.{Nowhere, AtStory, AtItem}
use Rattle.mos_tables.specs.declared.column.Column.{Column}
use Rattle.mos_tables.specs.declared.column.Often.TheVariants.{One}
use Rattle.mos_tables.specs.declared.column.Shape.TheVariants.{Record}
use Rattle.mos_tables.specs.declared.table.Table.TheVariants as tables
use Rattle.mos_tables.specs.Events.{Event}
use Rattle.mos_tables.specs.Tables.{columns, column, target_of}
use Rattle.mos_grammar.specs.declared.fault.Fault.{Fault}
use Rattle.mos_grammar.specs.declared.fault.Fault.TheVariants.{Twice as twice, Order as out_of_order}
use Rattle.mos_grammar.specs.Records.{keys as keys_of}
use Rattle.mos_grammar.specs.Records.{Child, times, seen_of, is_single, is_named, column_of, before_column, any_seen, repeated, lacking, field_fault, if_field, has_leaf, aim_of, found}
use Rattle.mos_grammar.proofs.Seen.{times_push}
use Rattle.mos_cursor.specs.Parts.{RecordPart, record_events}
use Rattle.mos_cursor.specs.Accepted.{IsAccepted}
use Rattle.mos_cursor.proofs.Roles.{no_or_else}
use Rattle.mos_cursor.proofs.Columns.{same_field-sym, same_field-first, column_with-same}
use Rattle.mos_cursor.proofs.Counts.{fields_of, seen_is}
use Rattle.mos_cursor.proofs.Children.{RecordItem, record_item, ItemOf, ChildFits, of_column, of_kept, of_dropped, AllChildren}
use Rattle.mos_action_reading.specs.Aims.{aim_inside}
use Rattle.mos_action_reading.proofs.OrderLemmas.{MayFollow, as_column, as_kept, as_dropped, InOrder}

-- ---- what the order of the columns says

no_times : (k : ℕ) → nat_lt 0 k ≡ false → k ≡ 0
no_times k h = elim (leb_tells 1 k) [ inl p ↦ (let q = p.0 in absurd cc) | inr p ↦ omega (arith, p.1) ]

-- a further field behind those seen: a target only behind neither, a source only behind none
record Further (seen : List Field) (f : Field) : Type 0 where
  target : same_field f fields.ElementTarget ≡ true → (times fields.ElementTarget seen ≡ 0) × (times fields.ElementSource seen ≡ 0)
  source : same_field f fields.ElementSource ≡ true → times fields.ElementSource seen ≡ 0

-- the column of the element, none seen behind it, and no second one where only one may stand
abbrev Later : List Column → List Field → Column → Type 0
Later [] seen c = ⊥
Later (d ∷ ds) seen c = ((d ≡ c) × ((is_single d.often && nat_lt 0 (times d.field seen)) ≡ false) × (any_seen ds seen ≡ false)) ⊎ Later ds seen c

both_off : (b s : Bool) (x y : Fault) → cond b (Some x) (cond s (Some y) None) ≡ None → (b ≡ false) × (s ≡ false)
both_off true s x y h = absurd cc
both_off false true x y h = absurd cc
both_off false false x y h = (refl, refl)

later : (cs : List Column) (seen : List Field) (n : Text) (c : Column) → column_of cs n ≡ Some c → repeated cs seen n ≡ None → Later cs seen c
later [] seen n c h e = absurd cc
later (d ∷ cs) seen n c h e = go (is_named d n) h e (λ a b. later cs seen n c a b)
  where
    go : (b : Bool) → cond b (Some d) (column_of cs n) ≡ Some c
        → cond b (cond (is_single d.often && nat_lt 0 (times d.field seen)) (Some (twice d.field)) (cond (any_seen cs seen) (Some (out_of_order d.field)) None)) (repeated cs seen n) ≡ None
        → (column_of cs n ≡ Some c → repeated cs seen n ≡ None → Later cs seen c) → Later (d ∷ cs) seen c
    go true h e ih = let p = both_off (is_single d.often && nat_lt 0 (times d.field seen)) (any_seen cs seen) (twice d.field) (out_of_order d.field) e in inl (cc, p.0, p.1)
    go false h e ih = inr (ih h e)

abbrev target_column : Operation → Column
target_column o = column fields.ElementTarget (Record (tables.Target o)) (target_of o)

abbrev source_of : Operation → Column
source_of o = column fields.ElementSource (Record (tables.Source o AtStory)) One

single_target : (o : Operation) → is_single (target_of o) ≡ true
single_target Insert = refl
single_target Replace = refl
single_target Move = refl
single_target Delete = refl
single_target Swap = refl

not_seen : (k : ℕ) → cond (nat_lt 0 k) true false ≡ false → k ≡ 0
not_seen k h = go (nat_lt 0 k) refl h
  where
    go : (b : Bool) → nat_lt 0 k ≡ b → cond b true false ≡ false → k ≡ 0
    go true e h = absurd cc
    go false e h = no_times k e

further : (o : Operation) (seen : List Field) (c : Column) → Later (columns (tables.Action o)) seen c → Further seen c.field
further o seen c (inl p) = subst (λ (x : Column). Further seen x.field) p.0 (record { target = λ e. absurd cc; source = λ e. absurd cc })
further o seen c (inr (inl p)) =
    let h : (true && nat_lt 0 (times fields.ElementTarget seen)) ≡ false = subst (λ b. (b && nat_lt 0 (times fields.ElementTarget seen)) ≡ false) (single_target o) p.1 in
    subst (λ (x : Column). Further seen x.field) p.0 (record { target = λ e. (no_times (times fields.ElementTarget seen) h, not_seen (times fields.ElementSource seen) p.2); source = λ e. absurd cc })
further o seen c (inr (inr (inl p))) = subst (λ (x : Column). Further seen x.field) p.0 (record { target = λ e. absurd cc; source = λ e. no_times (times fields.ElementSource seen) p.1 })
further o seen c (inr (inr (inr p))) = absurd p

may_follow : (o : Operation) (before : List Child) (f : Field) → MayFollow (tables.Action o) before f → Further (fields_of before) f
may_follow o before f (as_column n c named outside) =
    let F : Option Column → Type 0 = λ (x : Option Column). if_field x (field_fault (columns (tables.Action o)) (seen_of (tables.Action o) before) n) ≡ None in
    let p : field_fault (columns (tables.Action o)) (seen_of (tables.Action o) before) n ≡ None = subst F named outside in
    let q : repeated (columns (tables.Action o)) (seen_of (tables.Action o) before) n ≡ None
    = (no_or_else (repeated (columns (tables.Action o)) (seen_of (tables.Action o) before) n) (lacking (before_column (columns (tables.Action o)) n) (seen_of (tables.Action o) before)) p).0 in
    subst (λ (x : List Field). Further x c.field) (seen_is (tables.Action o) before refl) (further o (seen_of (tables.Action o) before) c (later (columns (tables.Action o)) (seen_of (tables.Action o) before) n c named q))
may_follow o before f as_kept = record { target = λ e. absurd cc; source = λ e. absurd cc }
may_follow o before f as_dropped = record { target = λ e. absurd cc; source = λ e. absurd cc }

-- ---- the children of a target and of a source

pub record ATarget (o : Operation) (es : List Event) : Type 0 where
  pub part : RecordPart
  pub keys : List Text
  pub events : es ≡ record_events (name_of fields.ElementTarget) part
  pub accepted : IsAccepted (tables.Target o) keys part.inner

pub record ASource (o : Operation) (a : Aim) (es : List Event) : Type 0 where
  pub part : RecordPart
  pub keys : List Text
  pub events : es ≡ record_events (name_of fields.ElementSource) part
  pub accepted : IsAccepted (tables.Source o a) keys part.inner

target_child : (o : Operation) (before : List Child) (taken : List Text) (f : Field) (es : List Event) → ChildFits (tables.Action o) before taken f es → same_field f fields.ElementTarget ≡ true → ATarget o es
target_child o before taken f xs (of_column c es kc item) e =
    let q : Some c ≡ Some (target_column o) = sym kc ∙ column_with-same (columns (tables.Action o)) c.field fields.ElementTarget e in
    let r : c ≡ target_column o = cc in
    go es (subst (λ (x : Column). ItemOf (tables.Action o) before taken x x.shape es) r item)
  where
    go : (es : List Event) → RecordItem (tables.Action o) before (target_column o) (tables.Target o) es → ATarget o es
    go xs (record_item p g a) = record { part = p; keys = keys_of (tables.Action o) before; events = refl; accepted = a }
target_child o before taken f xs (of_kept x h) e = absurd cc
target_child o before taken f xs of_dropped e = absurd cc

source_child : (o : Operation) (before : List Child) (taken : List Text) (f : Field) (es : List Event) → ChildFits (tables.Action o) before taken f es → same_field f fields.ElementSource ≡ true → ASource o (aim_of before) es
source_child o before taken f xs (of_column c es kc item) e =
    let q : Some c ≡ Some (source_of o) = sym kc ∙ column_with-same (columns (tables.Action o)) c.field fields.ElementSource e in
    let r : c ≡ source_of o = cc in
    go es (subst (λ (x : Column). ItemOf (tables.Action o) before taken x x.shape es) r item)
  where
    go : (es : List Event) → RecordItem (tables.Action o) before (source_of o) (tables.Source o AtStory) es → ASource o (aim_of before) es
    go xs (record_item p g a) = record { part = p; keys = keys_of (tables.Action o) before; events = refl; accepted = a }
source_child o before taken f xs (of_kept x h) e = absurd cc
source_child o before taken f xs of_dropped e = absurd cc

-- ---- one more child

flip : (f g : Field) → same_field f g ≡ same_field g f
flip f g = go (same_field f g) (same_field g f) refl refl
  where
    go : (b d : Bool) → same_field f g ≡ b → same_field g f ≡ d → b ≡ d
    go true true e h = refl
    go false false e h = refl
    go true false e h = absurd (let p = same_field-sym f g e in cc)
    go false true e h = absurd (let p = same_field-sym g f h in cc)

fields_push : (cs : List Child) (c : Child) → fields_of (cs ++ c ∷ []) ≡ fields_of cs ++ c.0 ∷ []
fields_push [] c = refl
fields_push (d ∷ cs) c = ap (λ (z : List Field). d.0 ∷ z) (fields_push cs c)

found_push : (f : Field) (before : List Child) (d : Child) → found f (before ++ d ∷ []) ≡ found f before ++ cond (same_field f d.0) d.1 []
found_push f before d =
    flat_map-append (λ (c : Child). cond (same_field f c.0) c.1 []) before (d ∷ []) ∙ ap (λ (z : List Event). found f before ++ z) (append-nil (cond (same_field f d.0) d.1 []))

found_new : (f : Field) (before : List Child) (d : Child) → same_field d.0 f ≡ true → found f before ≡ [] → found f (before ++ d ∷ []) ≡ d.1
found_new f before d e n = found_push f before d ∙ rw (flip f d.0, e, n) refl

found_other : (f : Field) (before : List Child) (d : Child) → same_field d.0 f ≡ false → found f (before ++ d ∷ []) ≡ found f before
found_other f before d e = found_push f before d ∙ rw (flip f d.0, e) (append-nil (found f before))

times_other : (f : Field) (before : List Child) (d : Child) → same_field d.0 f ≡ false → times f (fields_of (before ++ d ∷ [])) ≡ times f (fields_of before)
times_other f before d e = ap (times f) (fields_push before d) ∙ times_push f d.0 (fields_of before) ∙ rw (flip f d.0, e) refl

-- none was seen
pub none_found : (f : Field) (before : List Child) → times f (fields_of before) ≡ 0 → found f before ≡ []
none_found f [] h = refl
none_found f (c ∷ cs) h = go (same_field f c.0) h (λ k. none_found f cs k)
  where
    go : (b : Bool) → cond b (times f (fields_of cs) + 1) (times f (fields_of cs)) ≡ 0 → (times f (fields_of cs) ≡ 0 → found f cs ≡ []) → cond b c.1 [] ++ found f cs ≡ []
    go true h ih = absurd (omega (arith, h))
    go false h ih = ih h

pub no_aim : (before : List Child) → times fields.ElementTarget (fields_of before) ≡ 0 → aim_of before ≡ Nowhere
no_aim [] h = refl
no_aim (c ∷ cs) h = go (same_field fields.ElementTarget c.0) (same_field c.0 fields.ElementTarget) (flip fields.ElementTarget c.0) h (λ k. no_aim cs k)
  where
    go : (b d : Bool) → b ≡ d → cond b (times fields.ElementTarget (fields_of cs) + 1) (times fields.ElementTarget (fields_of cs)) ≡ 0 → (times fields.ElementTarget (fields_of cs) ≡ 0 → aim_of cs ≡ Nowhere)
        → cond d (cond (has_leaf (name_of fields.ItemID) c.1) AtItem AtStory) (aim_of cs) ≡ Nowhere
    go true d q h ih = absurd (omega (arith, h))
    go false true q h ih = absurd cc
    go false false q h ih = ih h

aim_other : (before : List Child) (d : Child) → same_field d.0 fields.ElementTarget ≡ false → aim_of (before ++ d ∷ []) ≡ aim_of before
aim_other [] d e = rw e refl
aim_other (c ∷ cs) d e = ap (λ (z : Aim). cond (same_field c.0 fields.ElementTarget) (cond (has_leaf (name_of fields.ItemID) c.1) AtItem AtStory) z) (aim_other cs d e)

aim_new : (before : List Child) (d : Child) → same_field d.0 fields.ElementTarget ≡ true → times fields.ElementTarget (fields_of before) ≡ 0 → aim_of (before ++ d ∷ []) ≡ aim_inside d.1
aim_new [] d e h = rw e refl
aim_new (c ∷ cs) d e h = go (same_field fields.ElementTarget c.0) (same_field c.0 fields.ElementTarget) (flip fields.ElementTarget c.0) h (λ k. aim_new cs d e k)
  where
    go : (b v : Bool) → b ≡ v → cond b (times fields.ElementTarget (fields_of cs) + 1) (times fields.ElementTarget (fields_of cs)) ≡ 0 → (times fields.ElementTarget (fields_of cs) ≡ 0 → aim_of (cs ++ d ∷ []) ≡ aim_inside d.1)
        → cond v (cond (has_leaf (name_of fields.ItemID) c.1) AtItem AtStory) (aim_of (cs ++ d ∷ [])) ≡ aim_inside d.1
    go true v q h ih = absurd (omega (arith, h))
    go false true q h ih = absurd cc
    go false false q h ih = ih h

-- ---- the children so far

pub data TargetStage (o : Operation) (before : List Child) : Type 0 where
  no_target : times fields.ElementTarget (fields_of before) ≡ 0 → TargetStage o before
  one_target : ATarget o (found fields.ElementTarget before) → aim_of before ≡ aim_inside (found fields.ElementTarget before) → TargetStage o before

pub data SourceStage (o : Operation) (before : List Child) : Type 0 where
  no_source : times fields.ElementSource (fields_of before) ≡ 0 → SourceStage o before
  one_source : ASource o (aim_of before) (found fields.ElementSource before) → SourceStage o before

more_target : (o : Operation) (before : List Child) (taken : List Text) (d : Child) → Further (fields_of before) d.0 → ChildFits (tables.Action o) before taken d.0 d.1 → TargetStage o before → TargetStage o (before ++ d ∷ [])
more_target o before taken d w fits st = go (same_field d.0 fields.ElementTarget) refl st
  where
    go : (b : Bool) → same_field d.0 fields.ElementTarget ≡ b → TargetStage o before → TargetStage o (before ++ d ∷ [])
    go true e st =
        let none = (w.target e).0 in
        let now : found fields.ElementTarget (before ++ d ∷ []) ≡ d.1 = found_new fields.ElementTarget before d e (none_found fields.ElementTarget before none) in
        one_target (subst (ATarget o) (sym now) (target_child o before taken d.0 d.1 fits e)) (aim_new before d e none ∙ ap aim_inside (sym now))
    go false e (no_target h) = no_target (times_other fields.ElementTarget before d e ∙ h)
    go false e (one_target t a) =
        let now = found_other fields.ElementTarget before d e in
        one_target (subst (ATarget o) (sym now) t) (aim_other before d e ∙ a ∙ ap aim_inside (sym now))

nothing_there : (n : Text) (p : RecordPart) → [] ≡ record_events n p → ⊥
nothing_there n p h = cc

more_source : (o : Operation) (before : List Child) (taken : List Text) (d : Child) → Further (fields_of before) d.0 → ChildFits (tables.Action o) before taken d.0 d.1 → SourceStage o before → SourceStage o (before ++ d ∷ [])
more_source o before taken d w fits st = go (same_field d.0 fields.ElementSource) refl (same_field d.0 fields.ElementTarget) refl st
  where
    go : (b : Bool) → same_field d.0 fields.ElementSource ≡ b → (v : Bool) → same_field d.0 fields.ElementTarget ≡ v → SourceStage o before → SourceStage o (before ++ d ∷ [])
    go true e v k st =
        let now : found fields.ElementSource (before ++ d ∷ []) ≡ d.1 = found_new fields.ElementSource before d e (none_found fields.ElementSource before (w.source e)) in
        let other : same_field d.0 fields.ElementTarget ≡ false = same_field-first d.0 fields.ElementSource fields.ElementTarget e in
        one_source (subst (λ (a : Aim). ASource o a (found fields.ElementSource (before ++ d ∷ []))) (sym (aim_other before d other)) (subst (ASource o (aim_of before)) (sym now) (source_child o before taken d.0 d.1 fits e)))
    go false e v k (no_source h) = no_source (times_other fields.ElementSource before d e ∙ h)
    go false e true k (one_source s) = absurd (nothing_there (name_of fields.ElementSource) s.part (sym (none_found fields.ElementSource before (w.target k).1) ∙ s.events))
    go false e false k (one_source s) =
        one_source (subst (λ (a : Aim). ASource o a (found fields.ElementSource (before ++ d ∷ []))) (sym (aim_other before d k)) (subst (ASource o (aim_of before)) (sym (found_other fields.ElementSource before d e)) s))

pub record Stage (o : Operation) (before : List Child) : Type 0 where
  pub target : TargetStage o before
  pub source : SourceStage o before

pub stages : (o : Operation) (taken : List Text) (before cs : List Child) → InOrder (tables.Action o) before cs → AllChildren (tables.Action o) taken before cs → Stage o before → Stage o (before ++ cs)
stages o taken before [] i a st = subst (Stage o) (sym (append-nil before)) st
stages o taken before (d ∷ cs) i a st =
    let w = may_follow o before d.0 i.0 in
    let next : Stage o (before ++ d ∷ []) = record { target = more_target o before taken d w a.0 st.target; source = more_source o before taken d w a.0 st.source } in
    subst (Stage o) (append_assoc before (d ∷ []) cs) (stages o taken (before ++ d ∷ []) cs i.1 a.1 next)
