-- Lists whose elements have identifiers, as the stories of an order and the items of a story; and the five
-- forms of element action on them. The words take the function that gives an element's identifier, so the
-- same ones speak of stories and of items.
use Rattle.std.specs.Prelude.{List, [], ◌∷◌, ◌++◌, map, Bool, true, false, not, ◌&&◌, ◌||◌, Option, Some, None, if◌then◌else◌}
use Rattle.mos_edits.specs.Texts.{Text, same_id, has_id}

-- what an action answers in place of a result
pub data ActFault : Type 0 where
  Missing : (id : Text) → ActFault
  AlreadyThere : (id : Text) → ActFault

-- a result, or the first fault
pub data Applied (X : Type 0) : Type 0 where
  Done : (value : X) → Applied X
  Fault : (fault : ActFault) → Applied X

-- The five forms. A target and each source that is a bare identifier may be empty.
pub data ListAction (X : Type 0) : Type 0 where
  Insert : (target : Text) (sources : List X) → ListAction X
  Replace : (target : Text) (sources : List X) → ListAction X
  Move : (target : Text) (sources : List Text) → ListAction X
  Delete : (sources : List Text) → ListAction X
  Swap : (first second : Text) → ListAction X

-- the identifiers of a list, in its order
abbrev pub ids : {X : Type 0} → (X → Text) → List X → List Text
ids key xs = map key xs

-- the element with that identifier
abbrev pub find : {X : Type 0} → (X → Text) → Text → List X → Option X
find key id [] = None
find key id (x ∷ xs) = if same_id id (key x) then Some x else find key id xs

abbrev pub with_found : {X : Type 0} → Option X → List X → List X
with_found None xs = xs
with_found (Some x) xs = x ∷ xs

-- the elements with these identifiers, in the order in which the identifiers stand
abbrev pub picked : {X : Type 0} → (X → Text) → List Text → List X → List X
picked key [] xs = []
picked key (id ∷ more) xs = with_found (find key id xs) (picked key more xs)

-- what is left without the elements that have one of these identifiers
abbrev pub without : {X : Type 0} → (X → Text) → List Text → List X → List X
without key gone [] = []
without key gone (x ∷ xs) = if has_id (key x) gone then without key gone xs else x ∷ without key gone xs

-- `new` in place of the element `target`
abbrev pub put_for : {X : Type 0} → (X → Text) → Text → List X → List X → List X
put_for key target new [] = []
put_for key target new (x ∷ xs) = if same_id target (key x) then new ++ xs else x ∷ put_for key target new xs

-- `new` before the element `target`
abbrev pub put_at : {X : Type 0} → (X → Text) → Text → List X → List X → List X
put_at key target new [] = new
put_at key target new (x ∷ xs) = if same_id target (key x) then new ++ (x ∷ xs) else x ∷ put_at key target new xs

-- the same where an empty target stands for the end
abbrev pub put_before : {X : Type 0} → (X → Text) → Text → List X → List X → List X
put_before key [] new xs = xs ++ new
put_before key (c ∷ cs) new xs = put_at key (c ∷ cs) new xs

abbrev pub exchange : {X : Type 0} → (X → Text) → Text → Text → X → X → List X → List X
exchange key a b x y [] = []
exchange key a b x y (z ∷ zs) =
    (if same_id a (key z) then y else (if same_id b (key z) then x else z)) ∷ exchange key a b x y zs

-- the elements `a` and `b`, which were looked up, each at the other's place
abbrev pub exchange_found : {X : Type 0} → (X → Text) → Text → Text → Option X → Option X → List X → List X
exchange_found key a b (Some x) (Some y) xs = exchange key a b x y xs
exchange_found key a b x y xs = xs

abbrev pub exchanged : {X : Type 0} → (X → Text) → Text → Text → List X → List X
exchanged key a b xs = exchange_found key a b (find key a xs) (find key b xs) xs

-- Faults. `there` is the list of the identifiers that the list has.

abbrev pub first_of : Option ActFault → Option ActFault → Option ActFault
first_of None next = next
first_of (Some f) next = Some f

abbrev pub missing_if_not : Bool → Text → Option ActFault
missing_if_not true id = None
missing_if_not false id = Some (Missing id)

-- An identifier that has to be there. No element has an empty one, so that one is missing.
abbrev pub lacking : List Text → Text → Option ActFault
lacking there id = missing_if_not (has_id id there) id

-- the target of an INSERT: an empty one is the end
abbrev pub lacking_target : List Text → Text → Option ActFault
lacking_target there [] = None
lacking_target there (c ∷ cs) = lacking there (c ∷ cs)

-- the target of a MOVE: an empty one is the end, and one among the sources is missing
abbrev pub lacking_place : List Text → List Text → Text → Option ActFault
lacking_place there sources [] = None
lacking_place there sources (c ∷ cs) = missing_if_not (has_id (c ∷ cs) there && not (has_id (c ∷ cs) sources)) (c ∷ cs)

-- the first source that is there, or that equals one before it
abbrev pub first_repeated : List Text → List Text → List Text → Option ActFault
first_repeated there before [] = None
first_repeated there before (s ∷ ss) =
    if has_id s there || has_id s before then Some (AlreadyThere s) else first_repeated there (s ∷ before) ss

-- the first source that isn't there, or that equals one before it
abbrev pub first_missing : List Text → List Text → List Text → Option ActFault
first_missing there before [] = None
first_missing there before (s ∷ ss) =
    if has_id s there && not (has_id s before) then first_missing there (s ∷ before) ss else Some (Missing s)

abbrev pub done_unless : {X : Type 0} → Option ActFault → X → Applied X
done_unless None x = Done x
done_unless (Some f) x = Fault f

-- the first fault of an action: the target, then the sources from left to right
abbrev pub list_fault : {X : Type 0} → (X → Text) → ListAction X → List Text → Option ActFault
list_fault key (Insert target sources) there =
    first_of (lacking_target there target) (first_repeated there [] (ids key sources))
list_fault key (Replace target sources) there =
    first_of (lacking there target) (first_repeated (without (λ id. id) (target ∷ []) there) [] (ids key sources))
list_fault key (Move target sources) there = first_of (lacking_place there sources target) (first_missing there [] sources)
list_fault key (Delete sources) there = first_missing there [] sources
list_fault key (Swap a b) there = first_of (lacking there a) (lacking there b)

-- what the action makes of a list where it has no fault
abbrev pub list_result : {X : Type 0} → (X → Text) → ListAction X → List X → List X
list_result key (Insert target sources) xs = put_before key target sources xs
list_result key (Replace target sources) xs = put_for key target sources xs
list_result key (Move target sources) xs = put_before key target (picked key sources xs) (without key sources xs)
list_result key (Delete sources) xs = without key sources xs
list_result key (Swap a b) xs = exchanged key a b xs

-- an action on a list: its result, or its first fault
abbrev pub act_list : {X : Type 0} → (X → Text) → ListAction X → List X → Applied (List X)
act_list key action xs = done_unless (list_fault key action (ids key xs)) (list_result key action xs)
