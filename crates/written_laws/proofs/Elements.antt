-- What holds of each element of a list stays true of what actions make of the list.
use Rattle.std.proofs.Common.{ℕ, zero, suc, Bool, true, false, List, [], ◌∷◌, ◌++◌, get_or, Option, Some, None, if◌then◌else◌}
use Rattle.std.specs.List.{AllByRecursion}
use Rattle.mos_edits.specs.Texts.{Text, same_id, has_id}
use Rattle.mos_edits.specs.KeyedLists.{ActFault, Applied, ListAction, ids, find, with_found, picked, without, put_for, put_at, put_before, exchange, exchange_found, exchanged, list_fault, list_result, done_unless, act_list}
use Rattle.mos_edits.specs.KeyedLists.Applied.{Done, Fault}
use Rattle.mos_edits.specs.KeyedLists.ListAction.{Insert, Replace, Move, Delete, Swap}

pub all-append : {X : Type 0} (P : X → Type 0) (xs ys : List X) → AllByRecursion P xs → AllByRecursion P ys → AllByRecursion P (xs ++ ys)
all-append P [] ys a b = b
all-append P (x ∷ xs) ys a b = (a.0, all-append P xs ys a.1 b)

pub all-front : {X : Type 0} (P : X → Type 0) (xs ys : List X) → AllByRecursion P (xs ++ ys) → AllByRecursion P xs
all-front P [] ys a = tt
all-front P (x ∷ xs) ys a = (a.0, all-front P xs ys a.1)

pub all-back : {X : Type 0} (P : X → Type 0) (xs ys : List X) → AllByRecursion P (xs ++ ys) → AllByRecursion P ys
all-back P [] ys a = a
all-back P (x ∷ xs) ys a = all-back P xs ys a.1

pub all-map : {X : Type 0} (P Q : X → Type 0) → ((x : X) → P x → Q x) → (xs : List X) → AllByRecursion P xs → AllByRecursion Q xs
all-map P Q f [] a = tt
all-map P Q f (x ∷ xs) a = (f x a.0, all-map P Q f xs a.1)

pub all-get : {X : Type 0} (P : X → Type 0) (xs : List X) (k : ℕ) (d : X) → AllByRecursion P xs → P d → P (get_or xs k d)
all-get P [] k d a b = b
all-get P (x ∷ xs) zero d a b = a.0
all-get P (x ∷ xs) (suc k) d a b = all-get P xs k d a.1 b

-- ---- the words of actions

all-put_at : {X : Type 0} (P : X → Type 0) (key : X → Text) (t : Text) (new xs : List X) → AllByRecursion P new → AllByRecursion P xs → AllByRecursion P (put_at key t new xs)
all-put_at P key t new [] a b = a
all-put_at P key t new (x ∷ xs) a b = go (same_id t (key x)) (all-put_at P key t new xs a b.1)
  where
    go : (c : Bool) → AllByRecursion P (put_at key t new xs) → AllByRecursion P (if c then new ++ (x ∷ xs) else x ∷ put_at key t new xs)
    go true i = all-append P new (x ∷ xs) a b
    go false i = (b.0, i)

all-put_before : {X : Type 0} (P : X → Type 0) (key : X → Text) (t : Text) (new xs : List X) → AllByRecursion P new → AllByRecursion P xs → AllByRecursion P (put_before key t new xs)
all-put_before P key [] new xs a b = all-append P xs new b a
all-put_before P key (c ∷ cs) new xs a b = all-put_at P key (c ∷ cs) new xs a b

pub all-put_for : {X : Type 0} (P : X → Type 0) (key : X → Text) (t : Text) (new xs : List X) → AllByRecursion P new → AllByRecursion P xs → AllByRecursion P (put_for key t new xs)
all-put_for P key t new [] a b = b
all-put_for P key t new (x ∷ xs) a b = go (same_id t (key x)) (all-put_for P key t new xs a b.1)
  where
    go : (c : Bool) → AllByRecursion P (put_for key t new xs) → AllByRecursion P (if c then new ++ xs else x ∷ put_for key t new xs)
    go true i = all-append P new xs a b.1
    go false i = (b.0, i)

all-without : {X : Type 0} (P : X → Type 0) (key : X → Text) (gone : List Text) (xs : List X) → AllByRecursion P xs → AllByRecursion P (without key gone xs)
all-without P key gone [] a = a
all-without P key gone (x ∷ xs) a = go (has_id (key x) gone) (all-without P key gone xs a.1)
  where
    go : (c : Bool) → AllByRecursion P (without key gone xs) → AllByRecursion P (if c then without key gone xs else x ∷ without key gone xs)
    go true i = i
    go false i = (a.0, i)

abbrev pub HoldsIn : {X : Type 0} → (X → Type 0) → Option X → Type 0
HoldsIn P None = Unit {0}
HoldsIn P (Some x) = P x

pub all-find : {X : Type 0} (P : X → Type 0) (key : X → Text) (id : Text) (xs : List X) → AllByRecursion P xs → HoldsIn P (find key id xs)
all-find P key id [] a = tt
all-find P key id (x ∷ xs) a = go (same_id id (key x)) (all-find P key id xs a.1)
  where
    go : (c : Bool) → HoldsIn P (find key id xs) → HoldsIn P (if c then Some x else find key id xs)
    go true i = a.0
    go false i = i

all-with_found : {X : Type 0} (P : X → Type 0) (o : Option X) (xs : List X) → HoldsIn P o → AllByRecursion P xs → AllByRecursion P (with_found o xs)
all-with_found P None xs a b = b
all-with_found P (Some x) xs a b = (a, b)

all-picked : {X : Type 0} (P : X → Type 0) (key : X → Text) (ss : List Text) (xs : List X) → AllByRecursion P xs → AllByRecursion P (picked key ss xs)
all-picked P key [] xs a = tt
all-picked P key (s ∷ ss) xs a = all-with_found P (find key s xs) (picked key ss xs) (all-find P key s xs a) (all-picked P key ss xs a)

all-exchange : {X : Type 0} (P : X → Type 0) (key : X → Text) (a b : Text) (x y : X) (zs : List X) → P x → P y → AllByRecursion P zs → AllByRecursion P (exchange key a b x y zs)
all-exchange P key a b x y [] p q h = tt
all-exchange P key a b x y (z ∷ zs) p q h = (go (same_id a (key z)) (same_id b (key z)), all-exchange P key a b x y zs p q h.1)
  where
    go : (c d : Bool) → P (if c then y else (if d then x else z))
    go true d = q
    go false true = p
    go false false = h.0

all-exchanged : {X : Type 0} (P : X → Type 0) (key : X → Text) (a b : Text) (xs : List X) → AllByRecursion P xs → AllByRecursion P (exchanged key a b xs)
all-exchanged {X = X} P key a b xs h = go (find key a xs) (find key b xs) (all-find P key a xs h) (all-find P key b xs h)
  where
    go : (o p : Option X) → HoldsIn P o → HoldsIn P p → AllByRecursion P (exchange_found key a b o p xs)
    go None p i j = h
    go (Some x) None i j = h
    go (Some x) (Some y) i j = all-exchange P key a b x y xs i j h

-- ---- actions

-- it holds of each element that an action brings
abbrev pub Brings : {X : Type 0} → (X → Type 0) → ListAction X → Type 0
Brings P (Insert target sources) = AllByRecursion P sources
Brings P (Replace target sources) = AllByRecursion P sources
Brings P action = Unit {0}

abbrev pub WhereDone : {X : Type 0} → (X → Type 0) → Applied X → Type 0
WhereDone P (Done x) = P x
WhereDone P (Fault f) = Unit {0}

all-result : {X : Type 0} (P : X → Type 0) (key : X → Text) (action : ListAction X) (xs : List X) → Brings P action → AllByRecursion P xs → AllByRecursion P (list_result key action xs)
all-result P key (Insert target sources) xs a h = all-put_before P key target sources xs a h
all-result P key (Replace target sources) xs a h = all-put_for P key target sources xs a h
all-result P key (Move target sources) xs a h =
    all-put_before P key target (picked key sources xs) (without key sources xs) (all-picked P key sources xs h) (all-without P key sources xs h)
all-result P key (Delete sources) xs a h = all-without P key sources xs h
all-result P key (Swap b c) xs a h = all-exchanged P key b c xs h

done-unless : {X : Type 0} (P : X → Type 0) (f : Option ActFault) (x : X) → P x → WhereDone P (done_unless f x)
done-unless P None x a = a
done-unless P (Some f) x a = tt

pub all-act_list : {X : Type 0} (P : X → Type 0) (key : X → Text) (action : ListAction X) (xs : List X) → Brings P action → AllByRecursion P xs → WhereDone (AllByRecursion P) (act_list key action xs)
all-act_list P key action xs a h = done-unless (AllByRecursion P) (list_fault key action (ids key xs)) (list_result key action xs) (all-result P key action xs a h)
