-- The rows of views.
use Rattle.std.proofs.Common.{◌≡◌, ℕ, zero, suc, Bool, true, false, List, [], ◌∷◌, get_or, slice_get, Option, Some, None, IsSome, Result, Ok, Err, OnOk, OnErr, IfOk, refl, sym, ap, ◌∙◌, subst, if◌then◌else◌}
use Rattle.mos_edits.specs.Texts.{Text, same_id, set_order}
use Rattle.mos_edits.proofs.Identifiers.{same-true}
use Rattle.mos_edits.specs.Entries.{Entry, entries, no_edit}
use Rattle.mos_machines.specs.Server.{Upper, View, ServerOut, view_given}
use Rattle.mos_machines.specs.Server.View.{Out}
use Rattle.mos_machines.specs.Tables.{look, put_row, map_rows, PeerTables, peer_of}
use Rattle.mos_machines.proofs.RowTables.{look-put}
use Rattle.order_table.specs.Rows.{find_row, value_or}
use Rattle.order_table.proofs.Looked.{look-found, find-put, find-map, find-kept}
use Rattle.rundown_log.specs.Positions.{positions_from}
use Rattle.server_peer.specs.Parts.{IsOutKnown, IsFlightKnown}

pub look-some : (r : Text) (rows : List (Text × View)) (v : View) → find_row r rows ≡ Some v → look Out rows r ≡ v
look-some r rows v e = look-found Out r rows ∙ ap (value_or Out) e

pub look-none : (r : Text) (rows : List (Text × View)) → find_row r rows ≡ None → look Out rows r ≡ Out
look-none r rows e = look-found Out r rows ∙ ap (value_or Out) e

pub some-put : (r : Text) (v : View) (rows : List (Text × View)) → IsSome (find_row r (put_row r v rows))
some-put r v rows = subst (λ (o : Option View). IsSome o) (sym (find-put r v rows)) refl

pub set-same : {X : Type 0} (f : Text → X) (r : Text) → set_order f r (f r) ≡ f
set-same {X = X} f r = λ i. λ q. by q (same_id q r) refl i
  where
    by : (q : Text) (b : Bool) → same_id q r ≡ b → (if b then f r else f q) ≡ f q
    by q true e = ap f (sym (same-true q r e))
    by q false e = refl

pub on-ok : {X Y : Type 0} {A B : Type 0} (r : Result X Y) → OnOk r A → (A → B) → OnOk r B
on-ok (Ok x) a f = f a
on-ok (Err y) a f = a

-- a row for an order of which nothing is known changes no view
pub out-put : (r : Text) (old : List (Text × View)) → look Out old r ≡ Out → look Out (put_row r Out old) ≡ look Out old
out-put r old h = look-put Out old r Out ∙ (ap (λ (v : View). set_order (look Out old) r v) (sym h) ∙ set-same (look Out old) r)

pub known-same : {X Y : Type 0} (o : Result X Y) (r : Text) (v : View) (old new : List (Text × View)) → v ≡ Out → OnOk o (new ≡ put_row r v old) → OnErr o (new ≡ old) → look Out old r ≡ Out → look Out new ≡ look Out old
known-same (Ok x) r v old new out e f h = ap (look Out) (e ∙ ap (λ (w : View). put_row r w old) out) ∙ out-put r old h
known-same (Err y) r v old new out e f h = ap (look Out) f

pub known-kept : {X Y : Type 0} (o : Result X Y) (r : Text) (v : View) (old new : List (Text × View)) → OnOk o (new ≡ put_row r v old) → OnErr o (new ≡ old) → (q : Text) → IsSome (find_row q old) → IsSome (find_row q new)
known-kept (Ok x) r v old new e f q h = subst (λ (rows : List (Text × View)). IsSome (find_row q rows)) (sym e) (find-kept q r v old h)
known-kept (Err y) r v old new e f q h = subst (λ (rows : List (Text × View)). IsSome (find_row q rows)) (sym f) h

-- what is in flight keeps its row
pub flight-map : (f : Text → View → View) (o : ServerOut) (rows : List (Text × View)) → IsFlightKnown o rows → IsFlightKnown o (map_rows f rows)
flight-map f ServerOut.Idle rows h = tt
flight-map f (ServerOut.SendsEdit r k) rows h = find-map f r rows h
flight-map f (ServerOut.SendsAgain r m) rows h = find-map f r rows h
flight-map f (ServerOut.SendsScript r k m) rows h = find-map f r rows h
flight-map f ServerOut.SendsBeat rows h = tt

pub out-map : (f : Text → View → View) (u : Upper) (rows : List (Text × View)) → IsOutKnown u rows → IsOutKnown u (map_rows f rows)
out-map f Upper.Down rows h = tt
out-map f (Upper.Greeting c) rows h = tt
out-map f (Upper.Open c o) rows h = flight-map f o rows h

flight-kept : (o : ServerOut) (old new : List (Text × View)) → ((q : Text) → IsSome (find_row q old) → IsSome (find_row q new)) → IsFlightKnown o old → IsFlightKnown o new
flight-kept ServerOut.Idle old new k h = tt
flight-kept (ServerOut.SendsEdit r n) old new k h = k r h
flight-kept (ServerOut.SendsAgain r m) old new k h = k r h
flight-kept (ServerOut.SendsScript r n m) old new k h = k r h
flight-kept ServerOut.SendsBeat old new k h = tt

pub out-kept : (u : Upper) (old new : List (Text × View)) → ((q : Text) → IsSome (find_row q old) → IsSome (find_row q new)) → IsOutKnown u old → IsOutKnown u new
out-kept Upper.Down old new k h = tt
out-kept (Upper.Greeting c) old new k h = tt
out-kept (Upper.Open c o) old new k h = flight-kept o old new k h

pub out-written : (r : Text) (v : View) (u : Upper) (rows : List (Text × View)) → IsOutKnown u rows → IsOutKnown u (put_row r v rows)
out-written r v u rows h = out-kept u rows (put_row r v rows) (λ q. find-kept q r v rows) h

-- an entry that has no place isn't there
pub none-edit : (n : ℕ) (r : Text) (xs : List Entry) (k : ℕ) → slice_get (positions_from n r xs) k ≡ None → get_or (entries r xs) k no_edit ≡ no_edit
none-edit n r [] k h = refl
none-edit n r (x ∷ xs) k h = by (same_id r x.ro) k h (none-edit (suc n) r xs)
  where
    by : (b : Bool) (k : ℕ) → slice_get (if b then n ∷ positions_from (suc n) r xs else positions_from (suc n) r xs) k ≡ None → ((k : ℕ) → slice_get (positions_from (suc n) r xs) k ≡ None → get_or (entries r xs) k no_edit ≡ no_edit)
        → get_or (if b then x.edit ∷ entries r xs else entries r xs) k no_edit ≡ no_edit
    by true zero h i = absurd (cc)
    by true (suc j) h i = i j h
    by false k h i = i k h

pub if-ok-is : {X Y : Type 0} (r : Result X Y) (x y : X) → x ≡ y → IfOk r (λ a. a ≡ x) → IfOk r (λ a. a ≡ y)
if-ok-is (Ok a) x y e h = h ∙ e
if-ok-is (Err f) x y e h = h

-- an edit that isn't given leaves the view as it is
pub not-given : (b : Bool) (p : PeerTables) (r : Text) (n : ℕ) → b ≡ false → peer_of p ≡ record (peer_of p) { views = set_order (peer_of p).views r (view_given b n ((peer_of p).views r)) }
not-given true p r n e = absurd (cc)
not-given false p r n e = ap (λ (f : Text → View). record (peer_of p) { views = f }) (sym (set-same (look Out p.views) r))
