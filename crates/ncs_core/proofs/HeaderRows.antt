-- The headers of the orders that are there, row after row, are those that the journal lists.
use Rattle.std.proofs.Common.{◌≡◌, Bool, true, false, List, [], ◌∷◌, ◌++◌, Option, Some, None, refl, sym, ap, ◌∙◌, subst, if◌then◌else◌, ◌&&◌, ◌||◌}
use Rattle.mos_edits.specs.Texts.{Text, same_id, has_id}
use Rattle.mos_edits.proofs.Identifiers.{same-true, same-self, same-sym}
use Rattle.mos_edits.specs.Orders.{Order, HeaderPatch}
use Rattle.mos_edits.specs.Entries.{Entry, entries, order_after, order_now, is_before, insert_id, insert_if, listed_from, listed, with_header, headers_of, headers}
use Rattle.mos_machines.specs.Tables.{look, row_ids}
use Rattle.mos_values.specs.Headers.{patch_of}
use Rattle.order_table.specs.Rows.{IsBeforeAll, IsAscending, find_row, value_or}
use Rattle.order_table.proofs.Order.{before-differs, behind}
use Rattle.order_table.proofs.AscendingRows.{before-all, find-none, insert-ascending}
use Rattle.order_table.proofs.Looked.{look-found}
use Rattle.ncs_core.specs.State.{AreOrders, one_header, row_headers}

-- a roID that stands before all isn't among them
has-none : (r : Text) (xs : List Text) → IsBeforeAll r xs → has_id r xs ≡ false
has-none r [] h = refl
has-none r (x ∷ xs) h = ap (λ (b : Bool). b || has_id r xs) (same-sym r x ∙ before-differs r x h.0) ∙ has-none r xs h.1

-- of ascending roIDs those with the same members are the same
tail-same : (x : Text) (xs ys : List Text) → IsBeforeAll x xs → IsBeforeAll x ys → ((r : Text) → has_id r (x ∷ xs) ≡ has_id r (x ∷ ys)) → (r : Text) → has_id r xs ≡ has_id r ys
tail-same x xs ys a b h r = by (same_id r x) refl (h r)
  where
    by : (c : Bool) → same_id r x ≡ c → c || has_id r xs ≡ c || has_id r ys → has_id r xs ≡ has_id r ys
    by true s e = subst (λ (z : Text). has_id z xs ≡ has_id z ys) (sym (same-true r x s)) (has-none x xs a ∙ sym (has-none x ys b))
    by false s e = e

first-here : (x : Text) (xs : List Text) → has_id x (x ∷ xs) ≡ true
first-here x xs = ap (λ (b : Bool). b || has_id x xs) (same-self x)

before-not : (x y : Text) (ys : List Text) → is_before x y ≡ true → IsBeforeAll y ys → has_id x (y ∷ ys) ≡ false
before-not x y ys b h = has-none x (y ∷ ys) (b, before-all x y ys b h)

unique : (xs ys : List Text) → IsAscending xs → IsAscending ys → ((r : Text) → has_id r xs ≡ has_id r ys) → xs ≡ ys
unique [] [] a b h = refl
unique [] (y ∷ ys) a b h = absurd (let e : false ≡ true = h y ∙ first-here y ys in cc)
unique (x ∷ xs) [] a b h = absurd (let e : true ≡ false = sym (first-here x xs) ∙ h x in cc)
unique (x ∷ xs) (y ∷ ys) a b h = by (same_id x y) refl (is_before x y) refl (unique xs ys a.1 b.1)
  where
    same : x ≡ y → ((r : Text) → has_id r xs ≡ has_id r ys)
    same e = tail-same x xs ys a.0 (subst (λ (z : Text). IsBeforeAll z ys) (sym e) b.0) (λ r. h r ∙ ap (λ (z : Text). has_id r (z ∷ ys)) (sym e))

    by : (c : Bool) → same_id x y ≡ c → (d : Bool) → is_before x y ≡ d → (((r : Text) → has_id r xs ≡ has_id r ys) → xs ≡ ys) → x ∷ xs ≡ y ∷ ys
    by true s d e i = let f = same-true x y s in λ j. f j ∷ i (same f) j
    by false s true e i = absurd (let n : true ≡ false = sym (first-here x xs) ∙ (h x ∙ before-not x y ys e b.0) in cc)
    by false s false e i = absurd (let n : true ≡ false = sym (first-here y ys) ∙ (sym (h y) ∙ before-not y x xs (behind y x (same-sym y x ∙ s) e) a.0) in cc)

-- whether an order is there
abbrev is_there : Option Order → Bool
is_there None = false
is_there (Some o) = true

-- whether an entry names it
abbrev names : Text → List Entry → Bool
names q [] = false
names q (x ∷ xs) = same_id q x.ro || names q xs

has-insert : (q r : Text) (xs : List Text) → has_id q (insert_id r xs) ≡ same_id q r || has_id q xs
has-insert q r [] = refl
has-insert q r (x ∷ xs) = by (same_id r x) refl (is_before r x) (has-insert q r xs)
  where
    twice : (a b c : Bool) → a ≡ b → b || c ≡ a || (b || c)
    twice true b c e = subst (λ (d : Bool). d || c ≡ true) e refl
    twice false b c e = refl

    other : (a b c d : Bool) → c ≡ a || d → b || c ≡ a || (b || d)
    other true true c d e = refl
    other true false c d e = e
    other false true c d e = refl
    other false false c d e = e

    by : (c : Bool) → same_id r x ≡ c → (d : Bool) → has_id q (insert_id r xs) ≡ same_id q r || has_id q xs
        → has_id q (if c then x ∷ xs else (if d then r ∷ (x ∷ xs) else x ∷ insert_id r xs)) ≡ same_id q r || (same_id q x || has_id q xs)
    by true s d i = twice (same_id q r) (same_id q x) (has_id q xs) (ap (same_id q) (same-true r x s))
    by false s true i = refl
    by false s false i = other (same_id q r) (same_id q x) (has_id q (insert_id r xs)) (has_id q xs) i

has-if : (q r : Text) (o : Option Order) (xs : List Text) → has_id q (insert_if o r xs) ≡ (is_there o && same_id q r) || has_id q xs
has-if q r None xs = refl
has-if q r (Some o) xs = has-insert q r xs

-- an order is listed where it is there and an entry names it
has-listed : (journal : List Entry) (q : Text) (xs : List Entry) (ros : List Text) → has_id q (listed_from journal xs ros) ≡ (is_there (order_now journal q) && names q xs) || has_id q ros
has-listed journal q [] ros = by (is_there (order_now journal q)) (has_id q ros)
  where
    by : (a b : Bool) → b ≡ (a && false) || b
    by true b = refl
    by false b = refl
has-listed journal q (x ∷ xs) ros =
    has-listed journal q xs (insert_if (order_now journal x.ro) x.ro ros)
    ∙ (ap (λ (b : Bool). (is_there (order_now journal q) && names q xs) || b) (has-if q x.ro (order_now journal x.ro) ros)
    ∙ by (same_id q x.ro) refl (is_there (order_now journal q)) (is_there (order_now journal x.ro)) (names q xs) (has_id q ros) refl refl)
  where
    by : (s : Bool) → same_id q x.ro ≡ s → (a b n h : Bool) → is_there (order_now journal q) ≡ a → is_there (order_now journal x.ro) ≡ b → (a && n) || ((b && s) || h) ≡ (a && (s || n)) || h
    by true s a b n h e f = same a b n h (sym e ∙ (ap (λ (r : Text). is_there (order_now journal r)) (same-true q x.ro s) ∙ f))
      where
        same : (a b n h : Bool) → a ≡ b → (a && n) || ((b && true) || h) ≡ (a && true) || h
        same true true true h e = refl
        same true true false h e = refl
        same false false n h e = refl
        same true false n h e = absurd (cc)
        same false true n h e = absurd (cc)
    by false s a b n h e f = other a b n h
      where
        other : (a b n h : Bool) → (a && n) || ((b && false) || h) ≡ (a && n) || h
        other true true n h = refl
        other true false n h = refl
        other false true n h = refl
        other false false n h = refl

-- an order that no entry names isn't there
unnamed : (q : Text) (xs : List Entry) → names q xs ≡ false → entries q xs ≡ []
unnamed q [] h = refl
unnamed q (x ∷ xs) h = by (same_id q x.ro) h (unnamed q xs)
  where
    by : (b : Bool) → b || names q xs ≡ false → (names q xs ≡ false → entries q xs ≡ []) → (if b then x.edit ∷ entries q xs else entries q xs) ≡ []
    by true e i = absurd (cc)
    by false e i = i e

there-named : (journal : List Entry) (q : Text) → (is_there (order_now journal q) && names q journal) || false ≡ is_there (order_now journal q)
there-named journal q = by (names q journal) refl (is_there (order_now journal q)) refl
  where
    by : (n : Bool) → names q journal ≡ n → (a : Bool) → is_there (order_now journal q) ≡ a → (a && n) || false ≡ a
    by true e true f = refl
    by true e false f = refl
    by false e false f = refl
    by false e true f = absurd (let n : is_there (order_now journal q) ≡ false = ap (λ (es : List _). is_there (order_after q es)) (unnamed q journal e) in cc)

listed-ascending : (journal xs : List Entry) (ros : List Text) → IsAscending ros → IsAscending (listed_from journal xs ros)
listed-ascending journal [] ros h = h
listed-ascending journal (x ∷ xs) ros h = listed-ascending journal xs (insert_if (order_now journal x.ro) x.ro ros) (by (order_now journal x.ro))
  where
    by : (o : Option Order) → IsAscending (insert_if o x.ro ros)
    by None = h
    by (Some o) = insert-ascending x.ro ros h

-- the roIDs of the rows whose order is there
abbrev one_id : Text → Option Order → List Text
one_id r None = []
one_id r (Some o) = r ∷ []

abbrev present : List (Text × Option Order) → List Text
present [] = []
present (x ∷ xs) = one_id x.0 x.1 ++ present xs

present-before : (r : Text) (rows : List (Text × Option Order)) → IsBeforeAll r (row_ids rows) → IsBeforeAll r (present rows)
present-before r [] h = tt
present-before r (x ∷ xs) h = by x.1 (present-before r xs h.1)
  where
    by : (o : Option Order) → IsBeforeAll r (present xs) → IsBeforeAll r (one_id x.0 o ++ present xs)
    by None i = i
    by (Some o) i = (h.0, i)

present-ascending : (rows : List (Text × Option Order)) → IsAscending (row_ids rows) → IsAscending (present rows)
present-ascending [] h = tt
present-ascending (x ∷ xs) h = by x.1 (present-ascending xs h.1)
  where
    by : (o : Option Order) → IsAscending (present xs) → IsAscending (one_id x.0 o ++ present xs)
    by None i = i
    by (Some o) i = (present-before x.0 xs h.0, i)

has-present : (q : Text) (rows : List (Text × Option Order)) → IsAscending (row_ids rows) → has_id q (present rows) ≡ is_there (look None rows q)
has-present q [] h = refl
has-present q (x ∷ xs) h = by x.1 (same_id q x.0) refl (has-present q xs h.1)
  where
    gone : same_id q x.0 ≡ true → is_there (look None xs q) ≡ false
    gone s = ap is_there (look-found None q xs ∙ ap (value_or None) (subst (λ (z : Text). find_row z xs ≡ None) (sym (same-true q x.0 s)) (find-none x.0 xs h.0)))

    by : (o : Option Order) (b : Bool) → same_id q x.0 ≡ b → has_id q (present xs) ≡ is_there (look None xs q) → has_id q (one_id x.0 o ++ present xs) ≡ is_there (if b then o else look None xs q)
    by None true s i = i ∙ gone s
    by None false s i = i
    by (Some o) true s i = ap (λ (c : Bool). c || has_id q (present xs)) s
    by (Some o) false s i = ap (λ (c : Bool). c || has_id q (present xs)) s ∙ i

-- the headers of these
looked-headers : (journal : List Entry) (rows : List (Text × Option Order)) → ((r : Text) (o : Option Order) → find_row r rows ≡ Some o → order_now journal r ≡ o) → IsAscending (row_ids rows) → headers_of journal (present rows) ≡ row_headers rows
looked-headers journal [] h a = refl
looked-headers journal (x ∷ xs) h a = by x.1 refl (looked-headers journal xs (λ r o e. h r o (ap (λ (b : Bool). if b then Some x.1 else find_row r xs) (further r o e) ∙ e)) a.1)
  where
    further : (r : Text) (o : Option Order) → find_row r xs ≡ Some o → same_id r x.0 ≡ false
    further r o e = other (same_id r x.0) refl
      where
        other : (b : Bool) → same_id r x.0 ≡ b → b ≡ false
        other false s = refl
        other true s = absurd (let n : find_row r xs ≡ None = subst (λ (z : Text). find_row z xs ≡ None) (sym (same-true r x.0 s)) (find-none x.0 xs a.0) in let m : Some o ≡ None = sym e ∙ n in cc)

    here : order_now journal x.0 ≡ x.1
    here = h x.0 x.1 (ap (λ (b : Bool). if b then Some x.1 else find_row x.0 xs) (same-self x.0))

    by : (o : Option Order) → x.1 ≡ o → headers_of journal (present xs) ≡ row_headers xs → headers_of journal (one_id x.0 o ++ present xs) ≡ one_header o ++ row_headers xs
    by None e i = i
    by (Some o) e i = ap (λ (p : Option Order). with_header p (headers_of journal (present xs))) (here ∙ e) ∙ ap (λ (hs : List HeaderPatch). patch_of o.header ∷ hs) i

pub rows-headers : (journal : List Entry) (rows : List (Text × Option Order)) → AreOrders journal rows → IsAscending (row_ids rows) → row_headers rows ≡ headers journal
rows-headers journal rows h a =
    sym (looked-headers journal rows found a)
    ∙ ap (headers_of journal) (sym (unique (listed journal) (present rows) (listed-ascending journal journal [] tt) (present-ascending rows a) members))
  where
    found : (r : Text) (o : Option Order) → find_row r rows ≡ Some o → order_now journal r ≡ o
    found r o e = sym (h r) ∙ (look-found None r rows ∙ ap (value_or None) e)

    members : (r : Text) → has_id r (listed journal) ≡ has_id r (present rows)
    members r = has-listed journal r journal [] ∙ (there-named journal r ∙ (ap is_there (sym (h r)) ∙ sym (has-present r rows a)))
