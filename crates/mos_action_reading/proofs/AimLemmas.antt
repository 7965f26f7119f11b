-- The parts of an accepted action: its source holds what its target asks for.
use Rattle.std.proofs.Common.{◌≡◌, Bool, true, false, cond, List, [], ◌∷◌, ◌++◌, refl, sym, ap, subst, ◌∙◌, append_assoc}
use Rattle.std.proofs.lemmas.List.{append-nil}
use Rattle.mos_fields.specs.Characters.{Text}
use Rattle.mos_fields.specs.Fields.{name_of, same, same_field}
use Rattle.mos_fields.specs.declared.field.Field.{Field}
use Rattle.mos_fields.specs.declared.field.Field.TheVariants as fields
use Rattle.mos_fields.specs.declared.operation.Operation.{Operation}
use Rattle.mos_fields.specs.declared.operation.Operation.TheVariants.{Insert, Replace, Move, Delete, Swap}
use Rattle.mos_fields.proofs.WordLemmas.{same_self}
use Rattle.mos_tables.specs.declared.aim.Aim.{Aim}
use Rattle.mos_tables.specs.declared.aim.Aim.TheVariants.{Nowhere, AtStory}
use Rattle.mos_tables.specs.declared.column.Column.{Column}
use Rattle.mos_tables.specs.declared.column.Often.TheVariants.{One}
use Rattle.mos_tables.specs.declared.column.Shape.TheVariants.{Leaf, Record}
use Rattle.mos_tables.specs.declared.table.Table.{Table}
use Rattle.mos_tables.specs.declared.table.Table.TheVariants as tables
use Rattle.mos_tables.specs.Events.{Attribute, Event, leaf, raw, opens, closes}
use Rattle.mos_tables.specs.Tables.{columns, target_of}
use Rattle.mos_fields.specs.declared.form.Form.TheVariants as forms
use Rattle.mos_grammar.specs.Records.{Child, aim_of, has_leaf, found, arranged}
use Rattle.mos_cursor.specs.Parts.{LeafPart, RecordPart, Part, absent, one_leaf, one_record, record_events, part_events, parts_events, places}
use Rattle.mos_cursor.specs.Accepted.{IsAccepted, OneLeaf, OneRecord, FitsAs, AllFit}
use Rattle.mos_cursor.specs.Taking.{inner_of, behind_of, leaves_left}
use Rattle.mos_cursor.proofs.Balanced.{IsBalanced, balanced_arranged, balanced_children}
use Rattle.mos_cursor.proofs.Columns.{column_with-same}
use Rattle.mos_cursor.proofs.Children.{LeafItem, leaf_lacks, leaf_some, ItemOf, ChildFits, of_column, of_kept, of_dropped, AllChildren, each}
use Rattle.mos_action_reading.specs.Aims.{aim_inside, aim_of_part, Held, HeldBy, IsAimed}
use Rattle.mos_action_reading.proofs.OrderLemmas.{ordered}
use Rattle.mos_action_reading.proofs.ActionLemmas.{ASource, TargetStage, no_target, one_target, SourceStage, no_source, one_source, Stage, stages, none_found, no_aim}

balanced_accepted : (t : Table) (taken : List Text) (es : List Event) → IsAccepted t taken es → IsBalanced es
balanced_accepted t taken es a = subst IsBalanced (sym a.value) (balanced_arranged t a.all (balanced_children a.content tt))

-- ---- the texts before the target

abbrev first_of : Operation → Column
first_of o = record { field = fields.RoID; shape = Leaf forms.Id; often = One }

order_skipped : (o : Operation) (before : List Child) (taken : List Text) (cs : List Child) (rest : List Event) → AllChildren (tables.Action o) taken before cs
    → leaves_left (name_of fields.RoID) (found fields.RoID cs ++ rest) ≡ leaves_left (name_of fields.RoID) rest
order_skipped o before taken [] rest a = refl
order_skipped o before taken (c ∷ cs) rest a = go (same_field fields.RoID c.0) refl (order_skipped o (before ++ c ∷ []) taken cs rest a.1)
  where
    more : List Event
    more = found fields.RoID cs ++ rest

    item : (es : List Event) → LeafItem taken (first_of o) forms.Id es → leaves_left (name_of fields.RoID) more ≡ leaves_left (name_of fields.RoID) rest → leaves_left (name_of fields.RoID) ((es ++ found fields.RoID cs) ++ rest) ≡ leaves_left (name_of fields.RoID) rest
    item es (leaf_lacks l) ih = ih
    item es (leaf_some g x y i r) ih = rw (same_self (name_of fields.RoID)) ih

    of_child : (f : Field) (es : List Event) → ChildFits (tables.Action o) before taken f es → same_field fields.RoID f ≡ true → leaves_left (name_of fields.RoID) more ≡ leaves_left (name_of fields.RoID) rest
        → leaves_left (name_of fields.RoID) ((es ++ found fields.RoID cs) ++ rest) ≡ leaves_left (name_of fields.RoID) rest
    of_child f xs (of_column d es kc i) e ih =
        let r : d ≡ first_of o = (let q = sym kc ∙ sym (column_with-same (columns (tables.Action o)) fields.RoID d.field e) in cc) in
        item es (subst (λ (x : Column). ItemOf (tables.Action o) before taken x x.shape es) r i) ih
    of_child f xs (of_kept x h) e ih = absurd cc
    of_child f xs of_dropped e ih = absurd cc

    go : (b : Bool) → same_field fields.RoID c.0 ≡ b → leaves_left (name_of fields.RoID) more ≡ leaves_left (name_of fields.RoID) rest → leaves_left (name_of fields.RoID) ((cond b c.1 [] ++ found fields.RoID cs) ++ rest) ≡ leaves_left (name_of fields.RoID) rest
    go true e ih = of_child c.0 c.1 a.0 e ih
    go false e ih = ih

-- ---- two ways to say the same events

abbrev tail_of : List Event → List Event
tail_of [] = []
tail_of (e ∷ es) = es

same_records : (n : Text) (p q : RecordPart) (r s : List Event) → IsBalanced p.inner → IsBalanced q.inner → record_events n p ++ r ≡ record_events n q ++ s → (p.inner ≡ q.inner) × (r ≡ s)
same_records n p q r s b d h =
    let e : p.inner ++ closes n ∷ r ≡ q.inner ++ closes n ∷ s
    = sym (append_assoc p.inner (closes n ∷ []) r) ∙ ap tail_of h ∙ append_assoc q.inner (closes n ∷ []) s in (
      sym (append-nil p.inner) ∙ sym (b.inner 0 (closes n ∷ r)) ∙ ap (inner_of 0) e ∙ d.inner 0 (closes n ∷ s) ∙ append-nil q.inner,
      sym (b.behind 0 (closes n ∷ r)) ∙ ap (behind_of 0) e ∙ d.behind 0 (closes n ∷ s),
    )

-- the first name of a list of events
abbrev head_name : List Event → Text
head_name [] = []
head_name (leaf n g x ∷ es) = []
head_name (raw f x ∷ es) = []
head_name (opens n g ∷ es) = n
head_name (closes n ∷ es) = []

has_leaf_closed : (n m : Text) (x : List Event) → has_leaf n (x ++ closes m ∷ []) ≡ has_leaf n x
has_leaf_closed n m [] = refl
has_leaf_closed n m (leaf k g y ∷ x) = ap (λ (b : Bool). cond (same k n) true b) (has_leaf_closed n m x)
has_leaf_closed n m (raw f y ∷ x) = has_leaf_closed n m x
has_leaf_closed n m (opens k g ∷ x) = has_leaf_closed n m x
has_leaf_closed n m (closes k ∷ x) = has_leaf_closed n m x

aim_of_record : (n : Text) (p : RecordPart) → aim_inside (record_events n p) ≡ aim_inside p.inner
aim_of_record n p = rw (has_leaf_closed (name_of fields.ItemID) n p.inner) refl

abbrev target_name : Text
target_name = name_of fields.ElementTarget

abbrev source_name : Text
source_name = name_of fields.ElementSource

different : target_name ≡ source_name → ⊥
different h = let q : true ≡ false = ap (λ (z : Text). same target_name z) h in cc

held : (o : Operation) (a b : Aim) (es : List Event) (p : RecordPart) (s : ASource o a es) → s.part.inner ≡ p.inner → a ≡ b → Held o b p
held o a b es p s e q = record { keys = s.keys; accepted = subst (λ (z : Aim). IsAccepted (tables.Source o z) s.keys p.inner) q (subst (λ (z : List Event). IsAccepted (tables.Source o a) s.keys z) e s.accepted) }

-- the source behind a target, or alone
source_only : (o : Operation) (a : Aim) (before : List Child) (p : RecordPart) → SourceStage o before → aim_of before ≡ a → IsBalanced p.inner
    → found fields.ElementSource before ≡ record_events source_name p → Held o a p
source_only o a before p (no_source h) q b e = let z : [] ≡ record_events source_name p = sym (none_found fields.ElementSource before h) ∙ e in absurd cc
source_only o a before p (one_source s) q b e =
    let w : record_events source_name s.part ++ [] ≡ record_events source_name p ++ [] = ap (λ (z : List Event). z ++ []) (sym s.events ∙ e) in
    held o (aim_of before) a (found fields.ElementSource before) p s (same_records source_name s.part p [] [] (balanced_accepted _ _ s.part.inner s.accepted) b w).0 q

abbrev MaybeBalanced : Part → Type 0
MaybeBalanced absent = Unit {0}
MaybeBalanced (one_record q) = IsBalanced q.inner
MaybeBalanced p = ⊥

both_parts : (o : Operation) (all : List Child) (t : Part) (p : RecordPart) → Stage o all → IsBalanced p.inner → MaybeBalanced t
    → found fields.ElementTarget all ++ found fields.ElementSource all ≡ part_events fields.ElementTarget t ++ record_events source_name p → Held o (aim_of_part t) p
both_parts o all absent p st b m e = go st.target
  where
    go : TargetStage o all → Held o Nowhere p
    go (no_target h) = source_only o Nowhere all p st.source (no_aim all h) b (ap (λ (z : List Event). z ++ found fields.ElementSource all) (sym (none_found fields.ElementTarget all h)) ∙ e)
    go (one_target k a) =
        let w : record_events target_name k.part ++ found fields.ElementSource all ≡ record_events source_name p = ap (λ (z : List Event). z ++ found fields.ElementSource all) (sym k.events) ∙ e in
        absurd (different (ap head_name w))
both_parts o all (one_record q) p st b m e = go st.target
  where
    absent_source : found fields.ElementSource all ≡ record_events target_name q ++ record_events source_name p → SourceStage o all → Held o (aim_inside q.inner) p
    absent_source w (no_source h) = let z : [] ≡ record_events target_name q ++ record_events source_name p = sym (none_found fields.ElementSource all h) ∙ w in absurd cc
    absent_source w (one_source s) = absurd (different (sym (ap head_name (sym s.events ∙ w))))

    go : TargetStage o all → Held o (aim_inside q.inner) p
    go (no_target h) = absent_source (ap (λ (z : List Event). z ++ found fields.ElementSource all) (sym (none_found fields.ElementTarget all h)) ∙ e) st.source
    go (one_target k a) =
        let w : record_events target_name k.part ++ found fields.ElementSource all ≡ record_events target_name q ++ record_events source_name p = ap (λ (z : List Event). z ++ found fields.ElementSource all) (sym k.events) ∙ e in
        let r = same_records target_name k.part q (found fields.ElementSource all) (record_events source_name p) (balanced_accepted _ _ k.part.inner k.accepted) m w in
        source_only o (aim_inside q.inner) all p st.source (a ∙ ap aim_inside k.events ∙ aim_of_record target_name k.part ∙ ap aim_inside r.0) b r.1
both_parts o all t p st b m e = absurd m

-- the events without the order that they begin with
skipped : (g : List Attribute) (x : Text) (es : List Event) → leaves_left (name_of fields.RoID) (leaf (name_of fields.RoID) g x ∷ es) ≡ leaves_left (name_of fields.RoID) es
skipped g x es = refl

three_joined : (x y z : List Event) → (x ++ []) ++ ((y ++ []) ++ ((z ++ []) ++ [])) ≡ x ++ (y ++ z)
three_joined x y z =
    ap (λ (u : List Event). u ++ ((y ++ []) ++ ((z ++ []) ++ []))) (append-nil x) ∙ ap (λ (u : List Event). x ++ (u ++ ((z ++ []) ++ []))) (append-nil y)
    ∙ ap (λ (u : List Event). x ++ (y ++ u)) (append-nil (z ++ []) ∙ append-nil z)

arranged_action : (o : Operation) (all : List Child) → arranged (tables.Action o) all ≡ found fields.RoID all ++ (found fields.ElementTarget all ++ found fields.ElementSource all)
unfolding arranged
arranged_action o all = three_joined (found fields.RoID all) (found fields.ElementTarget all) (found fields.ElementSource all)

abbrev IsBehind : List Event → Type 0
IsBehind es = leaves_left (name_of fields.RoID) es ≡ es

source_behind : (o : Operation) (all : List Child) → SourceStage o all → IsBehind (found fields.ElementSource all)
source_behind o all (no_source h) = subst IsBehind (sym (none_found fields.ElementSource all h)) refl
source_behind o all (one_source s) = subst IsBehind (sym s.events) refl

both_behind : (o : Operation) (all : List Child) → Stage o all → IsBehind (found fields.ElementTarget all ++ found fields.ElementSource all)
both_behind o all st = go st.target
  where
    go : TargetStage o all → IsBehind (found fields.ElementTarget all ++ found fields.ElementSource all)
    go (no_target h) = subst (λ (es : List Event). IsBehind (es ++ found fields.ElementSource all)) (sym (none_found fields.ElementTarget all h)) (source_behind o all st.source)
    go (one_target k a) = subst (λ (es : List Event). IsBehind (es ++ found fields.ElementSource all)) (sym k.events) refl

parts_behind : (t : Part) (p : RecordPart) → MaybeBalanced t → IsBehind (part_events fields.ElementTarget t ++ record_events source_name p)
parts_behind absent p m = refl
parts_behind (one_record q) p m = refl
parts_behind t p m = absurd m

target_balanced : (o : Operation) (t : Part) → FitsAs (tables.Action o) (Record (tables.Target o)) (target_of o) t → MaybeBalanced t
target_balanced Insert (one_record p) h = balanced_accepted _ _ p.inner h.accepted
target_balanced Replace (one_record p) h = balanced_accepted _ _ p.inner h.accepted
target_balanced Move (one_record p) h = balanced_accepted _ _ p.inner h.accepted
target_balanced Delete absent h = tt
target_balanced Delete (one_record p) h = balanced_accepted _ _ p.inner h.accepted
target_balanced Swap absent h = tt
target_balanced Swap (one_record p) h = balanced_accepted _ _ p.inner h.accepted
target_balanced o t h = absurd h

held_of : (o : Operation) (taken : List Text) (es : List Event) (l : LeafPart) (t : Part) (p : RecordPart) → IsAccepted (tables.Action o) taken es → AllFit (tables.Action o) (places (columns (tables.Action o))) (one_leaf l ∷ t ∷ one_record p ∷ [])
    → es ≡ parts_events (places (columns (tables.Action o))) (one_leaf l ∷ t ∷ one_record p ∷ []) → Held o (aim_of_part t) p
held_of o taken es l t p a h e =
    let st : Stage o a.all = stages o taken [] a.all (ordered a.content tt) (each a.content a.written tt) (record { target = no_target refl; source = no_source refl }) in
    let rest : List Event = found fields.ElementTarget a.all ++ found fields.ElementSource a.all in
    let m = target_balanced o t h.1.0 in
    let left : leaves_left (name_of fields.RoID) es ≡ rest
    = ap (leaves_left (name_of fields.RoID)) (a.value ∙ arranged_action o a.all) ∙ order_skipped o [] taken a.all rest (each a.content a.written tt) ∙ both_behind o a.all st in
    let right : leaves_left (name_of fields.RoID) es ≡ part_events fields.ElementTarget t ++ record_events source_name p
    = ap (leaves_left (name_of fields.RoID)) (e ∙ ap (λ (z : List Event). part_events fields.RoID (one_leaf l) ++ (part_events fields.ElementTarget t ++ z)) (append-nil (record_events source_name p)))
    ∙ skipped l.given l.text (part_events fields.ElementTarget t ++ record_events source_name p) ∙ parts_behind t p m in
    both_parts o a.all t p st (balanced_accepted _ _ p.inner h.1.1.0.accepted) m (sym left ∙ right)

source_held : (o : Operation) (taken : List Text) (es : List Event) (ro t s : Part) → IsAccepted (tables.Action o) taken es → AllFit (tables.Action o) (places (columns (tables.Action o))) (ro ∷ t ∷ s ∷ [])
    → es ≡ parts_events (places (columns (tables.Action o))) (ro ∷ t ∷ s ∷ []) → HeldBy o (aim_of_part t) s
source_held o taken es ro t s a h e = by_source ro s h.0 h.1.1.0 h e
  where
    by_source : (ro s : Part) → OneLeaf forms.Id ro → OneRecord (tables.Action o) (tables.Source o AtStory) s → AllFit (tables.Action o) (places (columns (tables.Action o))) (ro ∷ t ∷ s ∷ [])
        → es ≡ parts_events (places (columns (tables.Action o))) (ro ∷ t ∷ s ∷ []) → HeldBy o (aim_of_part t) s
    by_source (one_leaf l) (one_record p) x y h e = held_of o taken es l t p a h e
    by_source (one_leaf l) s x y h e = absurd y
    by_source ro s x y h e = absurd x

-- The source of an accepted action holds what its target asks for.
pub action_aimed : (o : Operation) (taken : List Text) (es : List Event) (ps : List Part) → IsAccepted (tables.Action o) taken es → AllFit (tables.Action o) (places (columns (tables.Action o))) ps
    → es ≡ parts_events (places (columns (tables.Action o))) ps → IsAimed o ps
action_aimed o taken es [] a h e = absurd h
action_aimed o taken es (ro ∷ []) a h e = absurd h.1
action_aimed o taken es (ro ∷ t ∷ []) a h e = absurd h.1.1
action_aimed o taken es (ro ∷ t ∷ s ∷ []) a h e = source_held o taken es ro t s a h e
action_aimed o taken es (ro ∷ t ∷ s ∷ p ∷ ps) a h e = absurd h.1.1.1
