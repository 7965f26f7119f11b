-- Orders of a journal without some of their scripts: what a device holds that has not yet been sent them all.
use Rattle.std.proofs.Common.{◌≡◌, ℕ, zero, suc, ◌+◌, ◌<◌, ◌≤◌, List, [], ◌∷◌, ◌++◌, length, take, get_or, Bool, true, false, not, ◌&&◌, ◌||◌, ◌==◌, Option, Some, None, arith, refl, if◌then◌else◌, sym, ap, ◌∙◌, subst}
use Rattle.std.proofs.lemmas.Bool.Decides.{nat_tests}
use Rattle.mos_edits.specs.Texts.{Text, same_id, has_id}
use Rattle.mos_edits.specs.KeyedLists.{Applied, with_found}
use Rattle.mos_edits.specs.KeyedLists.Applied.{Done, Fault}
use Rattle.mos_edits.specs.Distinct.{Each}
use Rattle.mos_edits.specs.Orders.{Order, StorySend, form_of, taken_out, scripts_after, apply}
use Rattle.mos_edits.specs.declared.edit.Edit.{Edit}
use Rattle.mos_edits.specs.declared.edit.Edit.TheVariants as Edits
use Rattle.mos_edits.specs.declared.edit.Edit.TheVariants.{Create, Delete as DeleteOrder, Metadata, Act, Air, Script}
use Rattle.mos_edits.specs.Rows.{is_before, IsBeforeAll, IsAscending, find_row, put_row, row_ids, map_rows}
use Rattle.mos_edits.specs.Scripts.{story_ids_of, scripts_of, result_or, rows_step, rows_from, numbers_after, numbers_of, has_number, IsWithin}
use Rattle.mos_edits.specs.Entries.{Entry, entries, entry_count, no_edit, edit_at, order_at, order_from, order_after, in_force}
use Rattle.mos_edits.proofs.Identifiers.{same-true, same-self, same-sym}
use Rattle.mos_edits.proofs.KeepsDistinct.{each-without}
use Rattle.mos_edits.proofs.Before.{before-differs}
use Rattle.mos_edits.proofs.Rows.{not-behind, kept, find-after, put-front, put-ascending, without-ascending, kept-before, kept-all, kept-none, find-kept, found, found-each, each-map, each-both, each-put, map-put, map-without, ids-map, find-map, find-mapped}
use Rattle.mos_edits.proofs.Standing.{IsStanding, stands-after, scripts-applied}
use Rattle.mos_edits.proofs.Journals.{JournalOk, Grown}

-- the numbers and the scripts in one table
abbrev pub Numbered : Type 0
Numbered = ℕ × StorySend

abbrev pub numbered_at : List Entry → Text → ℕ → List (Text × Numbered)
numbered_at journal r m = rows_from (λ k script. (k, script)) r None [] 0 (take m (entries r journal))

-- a table that goes as the scripts go, seen in part
map-after : {X Y : Type 0} (f : X → Y) (w : StorySend → X) (e : Edit) (rows : List (Text × X)) → map_rows (λ i. f) (scripts_after w e rows) ≡ scripts_after (λ s. f (w s)) e (map_rows (λ i. f) rows)
map-after f w (Create body) rows = refl
map-after f w (Edits.Replace body) rows = refl
map-after f w (DeleteOrder ro) rows = refl
map-after f w (Metadata patch) rows = refl
map-after f w (Act ro action) rows = map-without f (taken_out (form_of action)) rows
map-after f w (Air ro air) rows = refl
map-after f w (Script script) rows = map-put f script.story (w script) rows

map-step : {X Y : Type 0} (f : X → Y) (w : ℕ → StorySend → X) (k : ℕ) (e : Edit) (a : Applied (Option Order)) (rows : List (Text × X)) → map_rows (λ i. f) (rows_step w k e a rows) ≡ rows_step (λ j s. f (w j s)) k e a (map_rows (λ i. f) rows)
map-step f w k e (Done p) rows = map-after f (w k) e rows
map-step f w k e (Fault t) rows = refl

map-from : {X Y : Type 0} (f : X → Y) (w : ℕ → StorySend → X) (r : Text) (o : Option Order) (rows : List (Text × X)) (k : ℕ) (es : List Edit) → map_rows (λ i. f) (rows_from w r o rows k es) ≡ rows_from (λ j s. f (w j s)) r o (map_rows (λ i. f) rows) k es
map-from f w r o rows k [] = refl
map-from {Y = Y} f w r o rows k (e ∷ es) =
    map-from f w r (result_or o (apply r o e)) (rows_step w k e (apply r o e) rows) (k + 1) es
    ∙ ap (λ (z : List (Text × Y)). rows_from (λ j s. f (w j s)) r (result_or o (apply r o e)) z (k + 1) es) (map-step f w k e (apply r o e) rows)

numbers-are : (journal : List Entry) (r : Text) (m : ℕ) → map_rows (λ (i : Text) (x : Numbered). x.0) (numbered_at journal r m) ≡ numbers_after r (take m (entries r journal))
numbers-are journal r m = map-from (λ (x : Numbered). x.0) (λ k script. (k, script)) r None [] 0 (take m (entries r journal))

-- one entry more
rows-push : {X : Type 0} (w : ℕ → StorySend → X) (r : Text) (o : Option Order) (rows : List (Text × X)) (k : ℕ) (cs : List Edit) (c : Edit)
    → rows_from w r o rows k (cs ++ c ∷ []) ≡ rows_step w (k + length cs) c (apply r (order_from r o cs) c) (rows_from w r o rows k cs)
rows-push w r o rows k [] c = ap (λ (j : ℕ). rows_step w j c (apply r o c) rows) (let e : k ≡ k + 0 = omega arith in e)
rows-push w r o rows k (x ∷ xs) c =
    rows-push w r (result_or o (apply r o x)) (rows_step w k x (apply r o x) rows) (k + 1) xs c
    ∙ ap (λ (j : ℕ). rows_step w j c (apply r (order_from r (result_or o (apply r o x)) xs) c) (rows_from w r (result_or o (apply r o x)) (rows_step w k x (apply r o x) rows) (k + 1) xs)) (let e : k + 1 + length xs ≡ k + suc (length xs) = omega arith in e)

take-push : (cs : List Edit) (m : ℕ) → m < length cs → take (suc m) cs ≡ take m cs ++ get_or cs m no_edit ∷ []
take-push [] m h = absurd (omega (arith, h))
take-push (c ∷ cs) zero h = one cs
  where
    one : (ds : List Edit) → c ∷ take 0 ds ≡ c ∷ []
    one [] = refl
    one (d ∷ ds) = refl
take-push (c ∷ cs) (suc m) h = ap (λ (xs : List Edit). c ∷ xs) (take-push cs m (omega (arith, h)))

take-count : (cs : List Edit) (m : ℕ) → m ≤ length cs → length (take m cs) ≡ m
take-count [] zero h = refl
take-count [] (suc m) h = absurd (omega (arith, h))
take-count (c ∷ cs) zero h = refl
take-count (c ∷ cs) (suc m) h = ap (λ (n : ℕ). suc n) (take-count cs m (omega (arith, h)))

numbered-push : (journal : List Entry) → JournalOk journal → (r : Text) (m : ℕ) → m < entry_count journal r
    → numbered_at journal r (m + 1) ≡ scripts_after (λ script. (m, script)) (edit_at journal r m) (numbered_at journal r m)
numbered-push journal lok r m h =
    let t : take (m + 1) (entries r journal) ≡ take m (entries r journal) ++ edit_at journal r m ∷ [] = subst (λ (n : ℕ). take n (entries r journal) ≡ take m (entries r journal) ++ edit_at journal r m ∷ []) (let e : suc m ≡ m + 1 = omega arith in e) (take-push (entries r journal) m h) in
    let n = take-count (entries r journal) m (omega (arith, h)) in
    ap (λ (cs : List Edit). rows_from (λ k script. (k, script)) r None [] 0 cs) t
    ∙ rows-push (λ k script. (k, script)) r None [] 0 (take m (entries r journal)) (edit_at journal r m)
    ∙ ap (λ (a : Applied (Option Order)). rows_step (λ k script. (k, script)) (0 + length (take m (entries r journal))) (edit_at journal r m) a (numbered_at journal r m)) (lok.applies r m h)
    ∙ ap (λ (j : ℕ). scripts_after (λ script. (j, script)) (edit_at journal r m) (numbered_at journal r m)) (let e : 0 + length (take m (entries r journal)) ≡ m = omega (arith, n) in e)

-- what holds of the table after the first `m` entries: it has the order's scripts, of stories that are there, each with the
-- number of the entry that brought it
abbrev pub IsSent : List Entry → Text → ℕ → Text × Numbered → Type 0
IsSent journal r m row = (edit_at journal r row.1.0 ≡ Script row.1.1) × (row.1.1.story ≡ row.0) × (row.1.0 < m)

pub record ScriptsOk (journal : List Entry) (r : Text) (m : ℕ) : Type 0 where
  pub scripts : scripts_of (order_at journal r m) ≡ map_rows (λ (i : Text) (x : Numbered). x.1) (numbered_at journal r m)
  pub ascending : IsAscending (row_ids (numbered_at journal r m))
  pub standing : IsStanding (order_at journal r m) (numbered_at journal r m)
  pub sent : Each (IsSent journal r m) (numbered_at journal r m)

ascending-after : {X : Type 0} (w : StorySend → X) (e : Edit) (rows : List (Text × X)) → IsAscending (row_ids rows) → IsAscending (row_ids (scripts_after w e rows))
ascending-after w (Create body) rows a = tt
ascending-after w (Edits.Replace body) rows a = tt
ascending-after w (DeleteOrder ro) rows a = tt
ascending-after w (Metadata patch) rows a = a
ascending-after w (Act ro action) rows a = without-ascending (taken_out (form_of action)) rows a
ascending-after w (Air ro air) rows a = a
ascending-after w (Script script) rows a = put-ascending script.story (w script) rows a

each-after : {X : Type 0} (P : Text × X → Type 0) (w : StorySend → X) (e : Edit) (rows : List (Text × X)) → ((s : StorySend) → e ≡ Script s → P (s.story, w s)) → Each P rows → Each P (scripts_after w e rows)
each-after P w (Create body) rows f a = tt
each-after P w (Edits.Replace body) rows f a = tt
each-after P w (DeleteOrder ro) rows f a = tt
each-after P w (Metadata patch) rows f a = a
each-after P w (Act ro action) rows f a = each-without P (λ row. row.0) (taken_out (form_of action)) rows a
each-after P w (Air ro air) rows f a = a
each-after P w (Script script) rows f a = each-put P script.story (w script) rows (f script refl) a

take-none : (cs : List Edit) → take 0 cs ≡ []
take-none [] = refl
take-none (c ∷ cs) = refl

pub scripts-ok : (journal : List Entry) → JournalOk journal → (r : Text) (m : ℕ) → m ≤ entry_count journal r → ScriptsOk journal r m
scripts-ok journal lok r zero h =
    let t = take-none (entries r journal) in
    record {
      scripts = subst (λ (cs : List Edit). scripts_of (order_from r None cs) ≡ map_rows (λ (i : Text) (x : Numbered). x.1) (rows_from (λ k script. (k, script)) r None [] 0 cs)) (sym t) refl;
      ascending = subst (λ (cs : List Edit). IsAscending (row_ids (rows_from {X = Numbered} (λ k script. (k, script)) r None [] 0 cs))) (sym t) tt;
      standing = subst (λ (cs : List Edit). IsStanding {X = Numbered} (order_from r None cs) (rows_from (λ k script. (k, script)) r None [] 0 cs)) (sym t) tt;
      sent = subst (λ (cs : List Edit). Each (IsSent journal r 0) (rows_from (λ k script. (k, script)) r None [] 0 cs)) (sym t) tt;
    }
scripts-ok journal lok r (suc m) h =
    let l : m < entry_count journal r = omega (arith, h) in
    let i = scripts-ok journal lok r m (omega (arith, h)) in
    subst (λ (n : ℕ). ScriptsOk journal r n) (let e : m + 1 ≡ suc m = omega arith in e) (more l i)
  where
    more : m < entry_count journal r → ScriptsOk journal r m → ScriptsOk journal r (m + 1)
    more l i =
        let p = numbered-push journal lok r m l in
        let a = lok.applies r m l in
        let s = scripts-applied r (order_at journal r m) (order_at journal r (m + 1)) (edit_at journal r m) a in
        let f = map-after (λ (x : Numbered). x.1) (λ script. (m, script)) (edit_at journal r m) (numbered_at journal r m) in
        record {
          scripts = s
              ∙ ap (λ (rows : List (Text × StorySend)). scripts_after (λ script. script) (edit_at journal r m) rows) i.scripts
              ∙ sym f
              ∙ ap (λ (rows : List (Text × Numbered)). map_rows (λ (i : Text) (x : Numbered). x.1) rows) (sym p);
          ascending = subst (λ (rows : List (Text × Numbered)). IsAscending (row_ids rows)) (sym p) (ascending-after (λ script. (m, script)) (edit_at journal r m) (numbered_at journal r m) i.ascending);
          standing = subst (λ (rows : List (Text × Numbered)). IsStanding (order_at journal r (m + 1)) rows) (sym p)
              (stands-after (λ script. (m, script)) r (order_at journal r m) (order_at journal r (m + 1)) (edit_at journal r m) (numbered_at journal r m) a i.standing);
          sent = subst (λ (rows : List (Text × Numbered)). Each (IsSent journal r (m + 1)) rows) (sym p)
              (each-after (IsSent journal r (m + 1)) (λ script. (m, script)) (edit_at journal r m) (numbered_at journal r m) (λ t e. (e, refl, omega arith))
              (each-map (IsSent journal r m) (IsSent journal r (m + 1)) (numbered_at journal r m) (λ row k. (k.0, k.1, omega (arith, k.2))) i.sent));
        }

-- An order without the scripts of the entries that `lacks` tells.
abbrev pub with_rows : Option Order → List (Text × StorySend) → Option Order
with_rows None rows = None
with_rows (Some o) rows = Some (record { header = o.header; stories = o.stories; scripts = rows })

abbrev pub sends : List (Text × Numbered) → List (Text × StorySend)
sends rows = map_rows (λ i x. x.1) rows

abbrev pub lacking_order : List Entry → Text → (ℕ → Bool) → ℕ → Option Order
lacking_order journal r lacks m = with_rows (order_at journal r m) (sends (kept (λ x. lacks x.0) (numbered_at journal r m)))

own-rows : (o : Option Order) (rows : List (Text × StorySend)) → scripts_of o ≡ rows → with_rows o rows ≡ o
own-rows None rows h = refl
own-rows (Some o) rows h = λ i. Some (record { header = o.header; stories = o.stories; scripts = sym h i })

-- where nothing is lacking, it is the order
pub lacking-none : (journal : List Entry) (r : Text) (m : ℕ) (lacks : ℕ → Bool) → ScriptsOk journal r m → ((j : ℕ) → lacks j ≡ false) → lacking_order journal r lacks m ≡ order_at journal r m
lacking-none journal r m lacks ok h =
    let e : (λ (x : Numbered). lacks x.0) ≡ (λ (x : Numbered). false) = λ i. λ x. h x.0 i in
    ap (λ (f : Numbered → Bool). with_rows (order_at journal r m) (sends (kept f (numbered_at journal r m)))) e
    ∙ ap (λ (rows : List (Text × Numbered)). with_rows (order_at journal r m) (sends rows)) (kept-all (numbered_at journal r m))
    ∙ own-rows (order_at journal r m) (sends (numbered_at journal r m)) ok.scripts

-- it stays as the journal grows
pub lacking-grown : (journal new : List Entry) → Grown journal new → (r : Text) (lacks : ℕ → Bool) (m : ℕ) → m ≤ entry_count journal r → lacking_order new r lacks m ≡ lacking_order journal r lacks m
lacking-grown journal new g r lacks m h = ap (λ (cs : List Edit). with_rows (order_after r cs) (sends (kept (λ x. lacks x.0) (rows_from (λ k script. (k, script)) r None [] 0 cs)))) (g.taken r m h)

-- it is within the order
within-rows : (o : Option Order) (rows : List (Text × StorySend)) → ((id : Text) (s : StorySend) → find_row id rows ≡ Some s → find_row id (scripts_of o) ≡ Some s) → IsWithin (with_rows o rows) o
within-rows None rows h = tt
within-rows (Some o) rows h = record { same = refl; scripts = h }

pub lacking-within : (journal : List Entry) (r : Text) (m : ℕ) (lacks : ℕ → Bool) → ScriptsOk journal r m → IsWithin (lacking_order journal r lacks m) (order_at journal r m)
lacking-within journal r m lacks ok = within-rows (order_at journal r m) (sends (kept (λ x. lacks x.0) (numbered_at journal r m))) (λ id s f.
    let x = find-mapped (λ (x : Numbered). x.1) (kept (λ x. lacks x.0) (numbered_at journal r m)) id s f in
    let k = find-kept (λ x. lacks x.0) (numbered_at journal r m) ok.ascending id x.0 x.1 in
    rw ok.scripts (find-map (λ (x : Numbered). x.1) (numbered_at journal r m) id x.0 k ∙ ap (λ (z : StorySend). Some z) x.2))

-- where all that is in force is lacking, it has no scripts
numbers-have : (id : Text) (k : ℕ) (ids : List Text) (numbers : List (Text × ℕ)) → has_id id ids ≡ true → find_row id numbers ≡ Some k → has_number k (numbers_of ids numbers) ≡ true
numbers-have id k [] numbers h f = absurd (cc)
numbers-have id k (x ∷ xs) numbers h f = by (same_id id x) refl h (λ i. numbers-have id k xs numbers i f)
  where
    later : (o : Option ℕ) (ks : List ℕ) → has_number k ks ≡ true → has_number k (with_found o ks) ≡ true
    later o ks i = grind (arith, nat_tests)

    first : (ks : List ℕ) → has_number k (k ∷ ks) ≡ true
    first ks = grind (arith, nat_tests)

    by : (b : Bool) → same_id id x ≡ b → b || has_id id xs ≡ true → (has_id id xs ≡ true → has_number k (numbers_of xs numbers) ≡ true) → has_number k (with_found (find_row x numbers) (numbers_of xs numbers)) ≡ true
    by true e h i = let g : find_row x numbers ≡ Some k = subst (λ (z : Text). find_row z numbers ≡ Some k) (same-true id x e) f in rw g (first (numbers_of xs numbers))
    by false e h i = later (find_row x numbers) (numbers_of xs numbers) (i h)

pub lacking-all : (journal : List Entry) (r : Text) (m : ℕ) → ScriptsOk journal r m → lacking_order journal r (λ j. has_number j (in_force journal r m)) m ≡ with_rows (order_at journal r m) []
lacking-all journal r m ok =
    ap (λ (rows : List (Text × Numbered)). with_rows (order_at journal r m) (sends rows))
    (kept-none (λ x. has_number x.0 (in_force journal r m)) (numbered_at journal r m)
    (each-map (λ (row : Text × Numbered). (has_id row.0 (story_ids_of (order_at journal r m)) ≡ true) × (find_row row.0 (numbered_at journal r m) ≡ Some row.1)) (λ row. has_number row.1.0 (in_force journal r m) ≡ true) (numbered_at journal r m)
    (λ row k. numbers-have row.0 row.1.0 (story_ids_of (order_at journal r m)) (numbers_after r (take m (entries r journal))) k.0
    (rw (sym (numbers-are journal r m)) (find-map (λ (x : Numbered). x.0) (numbered_at journal r m) row.0 row.1 k.1)))
    (each-both (λ (row : Text × Numbered). has_id row.0 (story_ids_of (order_at journal r m)) ≡ true) (λ row. find_row row.0 (numbered_at journal r m) ≡ Some row.1) (numbered_at journal r m) ok.standing (found (numbered_at journal r m) ok.ascending))))

-- A script that is in force: which story it is of.
numbers-found : (k : ℕ) (ids : List Text) (numbers : List (Text × ℕ)) → has_number k (numbers_of ids numbers) ≡ true → (id : Text) × (has_id id ids ≡ true) × (find_row id numbers ≡ Some k)
numbers-found k [] numbers h = absurd (cc)
numbers-found k (x ∷ xs) numbers h = by (find_row x numbers) refl h (numbers-found k xs numbers)
  where
    here : has_id x (x ∷ xs) ≡ true
    here = rw (same-self x) refl

    more : (id : Text) → has_id id xs ≡ true → has_id id (x ∷ xs) ≡ true
    more id i = grind (arith, i)

    is_it : (j : ℕ) (ks : List ℕ) → has_number k (j ∷ ks) ≡ true → (k == j) ≡ false → has_number k ks ≡ true
    is_it j ks h n = grind (arith, nat_tests)

    equal : (j : ℕ) → (k == j) ≡ true → j ≡ k
    equal j e = grind (arith, nat_tests)

    rest : (has_number k (numbers_of xs numbers) ≡ true → (id : Text) × (has_id id xs ≡ true) × (find_row id numbers ≡ Some k)) → has_number k (numbers_of xs numbers) ≡ true → (id : Text) × (has_id id (x ∷ xs) ≡ true) × (find_row id numbers ≡ Some k)
    rest i h = let f = i h in (f.0, more f.0 f.1, f.2)

    by : (o : Option ℕ) → find_row x numbers ≡ o → has_number k (with_found o (numbers_of xs numbers)) ≡ true → (has_number k (numbers_of xs numbers) ≡ true → (id : Text) × (has_id id xs ≡ true) × (find_row id numbers ≡ Some k)) → (id : Text) × (has_id id (x ∷ xs) ≡ true) × (find_row id numbers ≡ Some k)
    by None e h i = rest i h
    by (Some j) e h i = which (k == j) refl
      where
        which : (b : Bool) → (k == j) ≡ b → (id : Text) × (has_id id (x ∷ xs) ≡ true) × (find_row id numbers ≡ Some k)
        which true c = (x, here, e ∙ ap (λ (n : ℕ). Some n) (equal j c))
        which false c = rest i (is_it j (numbers_of xs numbers) h c)

-- it is sent again
same-kept : (id : Text) (k : ℕ) (lacks : ℕ → Bool) (rows : List (Text × Numbered)) → IsBeforeAll id (row_ids rows) → Each (λ row. (row.1.0 == k) ≡ same_id row.0 id) rows → kept (λ x. lacks x.0 && not (x.0 == k)) rows ≡ kept (λ x. lacks x.0) rows
same-kept id k lacks [] h a = refl
same-kept id k lacks (x ∷ xs) h a = by (lacks x.1.0) (x.1.0 == k) (a.0 ∙ before-differs id x.0 h.0) (same-kept id k lacks xs h.1 a.1)
  where
    by : (c d : Bool) → d ≡ false → kept (λ x. lacks x.0 && not (x.0 == k)) xs ≡ kept (λ x. lacks x.0) xs → (if c && not d then kept (λ x. lacks x.0 && not (x.0 == k)) xs else x ∷ kept (λ x. lacks x.0 && not (x.0 == k)) xs) ≡ (if c then kept (λ x. lacks x.0) xs else x ∷ kept (λ x. lacks x.0) xs)
    by c true d i = absurd (cc)
    by true false d i = i
    by false false d i = ap (λ (ys : List (Text × Numbered)). x ∷ ys) i

before-sends : (q : Text) (rows : List (Text × Numbered)) → IsBeforeAll q (row_ids rows) → IsBeforeAll q (row_ids (sends rows))
before-sends q rows h = subst (λ (ids : List Text). IsBeforeAll q ids) (sym (ids-map (λ (x : Numbered). x.1) rows)) h

put-lacking : (id : Text) (k : ℕ) (s : StorySend) (lacks : ℕ → Bool) (rows : List (Text × Numbered)) → IsAscending (row_ids rows) → Each (λ row. (row.1.0 == k) ≡ same_id row.0 id) rows → find_row id rows ≡ Some (k, s)
    → put_row id s (sends (kept (λ x. lacks x.0) rows)) ≡ sends (kept (λ x. lacks x.0 && not (x.0 == k)) rows)
put-lacking id k s lacks [] h a f = absurd (cc)
put-lacking id k s lacks (x ∷ xs) h a f = by (same_id id x.0) refl f (put-lacking id k s lacks xs h.1 a.1)
  where
    own : same_id id x.0 ≡ true → x.1 ≡ (k, s) → (c d : Bool) → d ≡ true → kept (λ y. lacks y.0 && not (y.0 == k)) xs ≡ kept (λ y. lacks y.0) xs
        → put_row id s (sends (if c then kept (λ y. lacks y.0) xs else x ∷ kept (λ y. lacks y.0) xs)) ≡ sends (if c && not d then kept (λ y. lacks y.0 && not (y.0 == k)) xs else x ∷ kept (λ y. lacks y.0 && not (y.0 == k)) xs)
    own e x_is c false d i = absurd (cc)
    own e x_is true true d i =
        let id_is : id ≡ x.0 = same-true id x.0 e in
        put-front id s (sends (kept (λ y. lacks y.0) xs)) (subst (λ (z : Text). IsBeforeAll z (row_ids (sends (kept (λ y. lacks y.0) xs)))) (sym id_is) (before-sends x.0 (kept (λ y. lacks y.0) xs) (kept-before x.0 (λ y. lacks y.0) xs h.0)))
        ∙ (λ j. (id_is j, (sym x_is j).1) ∷ sends (sym i j))
    own e x_is false true d i = rw e (λ j. (same-true id x.0 e j, (sym x_is j).1) ∷ sends (sym i j))

    other : same_id id x.0 ≡ false → is_before id x.0 ≡ false → (c d : Bool) → d ≡ false → put_row id s (sends (kept (λ y. lacks y.0) xs)) ≡ sends (kept (λ y. lacks y.0 && not (y.0 == k)) xs)
        → put_row id s (sends (if c then kept (λ y. lacks y.0) xs else x ∷ kept (λ y. lacks y.0) xs)) ≡ sends (if c && not d then kept (λ y. lacks y.0 && not (y.0 == k)) xs else x ∷ kept (λ y. lacks y.0 && not (y.0 == k)) xs)
    other e b c true d i = absurd (cc)
    other e b true false d i = i
    other e b false false d i = rw (e, b) (ap (λ (ys : List (Text × StorySend)). (x.0, x.1.1) ∷ ys) i)

    by : (b : Bool) → same_id id x.0 ≡ b → (if b then Some x.1 else find_row id xs) ≡ Some (k, s) → (find_row id xs ≡ Some (k, s) → put_row id s (sends (kept (λ y. lacks y.0) xs)) ≡ sends (kept (λ y. lacks y.0 && not (y.0 == k)) xs))
        → put_row id s (sends (kept (λ y. lacks y.0) (x ∷ xs))) ≡ sends (kept (λ y. lacks y.0 && not (y.0 == k)) (x ∷ xs))
    by true e f i =
        let x_is : x.1 ≡ (k, s) = cc in
        let id_is : id ≡ x.0 = same-true id x.0 e in
        own e x_is (lacks x.1.0) (x.1.0 == k) (a.0 ∙ same-sym x.0 id ∙ e) (same-kept id k lacks xs (subst (λ (z : Text). IsBeforeAll z (row_ids xs)) (sym id_is) h.0) a.1)
    by false e f i = other e (not-behind id x.0 (find-after x.0 id xs (k, s) h.0 f)) (lacks x.1.0) (x.1.0 == k) (a.0 ∙ same-sym x.0 id ∙ e) (i f)

-- two rows with the number of one entry are one row
one-row : (journal : List Entry) (r : Text) (m k : ℕ) (id : Text) (s : StorySend) → ScriptsOk journal r m → find_row id (numbered_at journal r m) ≡ Some (k, s) → Each (λ row. (row.1.0 == k) ≡ same_id row.0 id) (numbered_at journal r m)
one-row journal r m k id s ok f = each-map (λ (row : Text × Numbered). IsSent journal r m row × (find_row row.0 (numbered_at journal r m) ≡ Some row.1)) (λ row. (row.1.0 == k) ≡ same_id row.0 id) (numbered_at journal r m)
    (λ row g. both row g (row.1.0 == k) (same_id row.0 id) refl refl)
    (each-both (IsSent journal r m) (λ (row : Text × Numbered). find_row row.0 (numbered_at journal r m) ≡ Some row.1) (numbered_at journal r m) ok.sent (found (numbered_at journal r m) ok.ascending))
  where
    here : IsSent journal r m (id, (k, s))
    here = found-each (IsSent journal r m) (numbered_at journal r m) ok.sent id (k, s) f

    equal : (j : ℕ) → (j == k) ≡ true → j ≡ k
    equal j e = grind (arith, nat_tests)

    differ : (j : ℕ) → (j == k) ≡ false → j ≡ k → ⊥
    differ j e h = grind (arith, nat_tests)

    script-is : (x y : StorySend) → Script x ≡ Script y → x ≡ y
    script-is x y h = cc

    some-is : (x y : Numbered) → Some x ≡ Some y → x ≡ y
    some-is x y h = cc

    both : (row : Text × Numbered) → IsSent journal r m row × (find_row row.0 (numbered_at journal r m) ≡ Some row.1) → (c d : Bool) → (row.1.0 == k) ≡ c → same_id row.0 id ≡ d → c ≡ d
    both row g true true e h = refl
    both row g false false e h = refl
    both row g true false e h =
        let j = equal row.1.0 e in
        let t = script-is row.1.1 s (sym g.0.0 ∙ ap (λ (n : ℕ). edit_at journal r n) j ∙ here.0) in
        let q : row.0 ≡ id = sym g.0.1 ∙ ap (λ (x : StorySend). x.story) t ∙ here.1 in
        absurd (let n : same_id row.0 id ≡ true = subst (λ (z : Text). same_id row.0 z ≡ true) q (same-self row.0) in cc)
    both row g false true e h =
        let q = same-true row.0 id h in
        let v = some-is row.1 (k, s) (sym g.1 ∙ subst (λ (z : Text). find_row z (numbered_at journal r m) ≡ Some (k, s)) (sym q) f) in
        absurd (differ row.1.0 e (ap (λ (x : Numbered). x.0) v))

applied-rows : (r : Text) (o : Option Order) (rows : List (Text × StorySend)) (s : StorySend) → has_id s.story (story_ids_of o) ≡ true → apply r (with_rows o rows) (Script s) ≡ Done (with_rows o (put_row s.story s rows))
unfolding apply
applied-rows r None rows s h = absurd (cc)
applied-rows r (Some o) rows s h = rw h refl

-- A script in force that is sent again takes its number from what is lacking.
pub lacking-script : (journal : List Entry) (r : Text) (m k : ℕ) (lacks : ℕ → Bool) → ScriptsOk journal r m → has_number k (in_force journal r m) ≡ true
    → (s : StorySend) × (edit_at journal r k ≡ Script s) × (k < m) × (apply r (lacking_order journal r lacks m) (edit_at journal r k) ≡ Done (lacking_order journal r (λ j. lacks j && not (j == k)) m))
lacking-script journal r m k lacks ok h =
    let x = numbers-found k (story_ids_of (order_at journal r m)) (numbers_after r (take m (entries r journal))) h in
    let y = find-mapped (λ (x : Numbered). x.0) (numbered_at journal r m) x.0 k (rw (numbers-are journal r m) x.2) in
    go x.0 x.1 y.0.0 y.0.1 y.1 y.2
  where
    go : (id : Text) → has_id id (story_ids_of (order_at journal r m)) ≡ true → (j : ℕ) (s : StorySend) → find_row id (numbered_at journal r m) ≡ Some (j, s) → j ≡ k
        → (s : StorySend) × (edit_at journal r k ≡ Script s) × (k < m) × (apply r (lacking_order journal r lacks m) (edit_at journal r k) ≡ Done (lacking_order journal r (λ j. lacks j && not (j == k)) m))
    go id i j s f e = found-at s (subst (λ (n : ℕ). find_row id (numbered_at journal r m) ≡ Some (n, s)) e f)
      where
        found-at : (s : StorySend) → find_row id (numbered_at journal r m) ≡ Some (k, s) → (s : StorySend) × (edit_at journal r k ≡ Script s) × (k < m) × (apply r (lacking_order journal r lacks m) (edit_at journal r k) ≡ Done (lacking_order journal r (λ j. lacks j && not (j == k)) m))
        found-at s f =
            let here : IsSent journal r m (id, (k, s)) = found-each (IsSent journal r m) (numbered_at journal r m) ok.sent id (k, s) f in
            let st : s.story ≡ id = here.1 in
            let p = put-lacking id k s lacks (numbered_at journal r m) ok.ascending (one-row journal r m k id s ok f) f in
            let q : put_row s.story s (sends (kept (λ x. lacks x.0) (numbered_at journal r m))) ≡ sends (kept (λ x. lacks x.0 && not (x.0 == k)) (numbered_at journal r m)) = subst (λ (z : Text). put_row z s (sends (kept (λ x. lacks x.0) (numbered_at journal r m))) ≡ sends (kept (λ x. lacks x.0 && not (x.0 == k)) (numbered_at journal r m))) (sym st) p in (
              s,
              here.0,
              here.2,
              rw here.0 (applied-rows r (order_at journal r m) (sends (kept (λ x. lacks x.0) (numbered_at journal r m))) s (subst (λ (z : Text). has_id z (story_ids_of (order_at journal r m)) ≡ true) (sym st) i) ∙ ap (λ (rows : List (Text × StorySend)). Done (with_rows (order_at journal r m) rows)) q),
            )

-- Every number in force is that of an entry before.
numbers-below : (r : Text) (o : Option Order) (rows : List (Text × ℕ)) (k : ℕ) (es : List Edit) → Each (λ row. row.1 < k) rows → Each (λ row. row.1 < k + length es) (rows_from (λ j script. j) r o rows k es)
numbers-below r o rows k [] a = each-map (λ (row : Text × ℕ). row.1 < k) (λ row. row.1 < k + 0) rows (λ row h. omega (arith, h)) a
numbers-below r o rows k (e ∷ es) a =
    each-map (λ (row : Text × ℕ). row.1 < k + 1 + length es) (λ row. row.1 < k + suc (length es)) (rows_from (λ j script. j) r (result_or o (apply r o e)) (rows_step (λ j script. j) k e (apply r o e) rows) (k + 1) es) (λ row h. omega (arith, h))
    (numbers-below r (result_or o (apply r o e)) (rows_step (λ j script. j) k e (apply r o e) rows) (k + 1) es (step (apply r o e)))
  where
    more : Each (λ (row : Text × ℕ). row.1 < k + 1) rows
    more = each-map (λ (row : Text × ℕ). row.1 < k) (λ row. row.1 < k + 1) rows (λ row h. omega (arith, h)) a

    step : (x : Applied (Option Order)) → Each (λ (row : Text × ℕ). row.1 < k + 1) (rows_step (λ j script. j) k e x rows)
    step (Done p) = each-after (λ (row : Text × ℕ). row.1 < k + 1) (λ script. k) e rows (λ s i. omega arith) more
    step (Fault f) = more

take-at-most : (cs : List Edit) (m : ℕ) → length (take m cs) ≤ m
take-at-most [] zero = omega arith
take-at-most [] (suc m) = omega arith
take-at-most (c ∷ cs) zero = omega arith
take-at-most (c ∷ cs) (suc m) = let i = take-at-most cs m in omega (arith, i)

pub force-below : (journal : List Entry) (r : Text) (m k : ℕ) → has_number k (in_force journal r m) ≡ true → k < m
force-below journal r m k h =
    let x = numbers-found k (story_ids_of (order_at journal r m)) (numbers_after r (take m (entries r journal))) h in
    let b = found-each (λ (row : Text × ℕ). row.1 < 0 + length (take m (entries r journal))) (numbers_after r (take m (entries r journal))) (numbers-below r None [] 0 (take m (entries r journal)) tt) x.0 k x.2 in
    let l = take-at-most (entries r journal) m in
    omega (arith, b, l)

-- the laws of scripts
sent-row : (journal : List Entry) (r : Text) (m : ℕ) (story : Text) (s : StorySend) → ScriptsOk journal r m → find_row story (scripts_of (order_at journal r m)) ≡ Some s → (k : ℕ) × (find_row story (numbered_at journal r m) ≡ Some (k, s))
sent-row journal r m story s ok f =
    let x = find-mapped (λ (x : Numbered). x.1) (numbered_at journal r m) story s (subst (λ (rows : List (Text × StorySend)). find_row story rows ≡ Some s) ok.scripts f) in
    (x.0.0, x.1 ∙ ap (λ (z : StorySend). Some (x.0.0, z)) x.2)

pub scripts-stand : (journal : List Entry) → JournalOk journal → (r : Text) (m : ℕ) → m ≤ entry_count journal r → (story : Text) (s : StorySend) → find_row story (scripts_of (order_at journal r m)) ≡ Some s → (has_id story (story_ids_of (order_at journal r m)) ≡ true) × (s.story ≡ story)
scripts-stand journal lok r m h story s f =
    let ok = scripts-ok journal lok r m h in
    let x = sent-row journal r m story s ok f in (
      found-each (λ (row : Text × Numbered). has_id row.0 (story_ids_of (order_at journal r m)) ≡ true) (numbered_at journal r m) ok.standing story (x.0, s) x.1,
      (found-each (IsSent journal r m) (numbered_at journal r m) ok.sent story (x.0, s) x.1).1,
    )

pub force-all : (journal : List Entry) → JournalOk journal → (r : Text) (m : ℕ) → m ≤ entry_count journal r → (story : Text) (s : StorySend) → find_row story (scripts_of (order_at journal r m)) ≡ Some s → (k : ℕ) × (has_number k (in_force journal r m) ≡ true) × (edit_at journal r k ≡ Script s)
force-all journal lok r m h story s f =
    let ok = scripts-ok journal lok r m h in
    let x = sent-row journal r m story s ok f in
    let there = found-each (λ (row : Text × Numbered). has_id row.0 (story_ids_of (order_at journal r m)) ≡ true) (numbered_at journal r m) ok.standing story (x.0, s) x.1 in (
      x.0,
      numbers-have story x.0 (story_ids_of (order_at journal r m)) (numbers_after r (take m (entries r journal))) there (rw (sym (numbers-are journal r m)) (find-map (λ (y : Numbered). y.0) (numbered_at journal r m) story (x.0, s) x.1)),
      (found-each (IsSent journal r m) (numbered_at journal r m) ok.sent story (x.0, s) x.1).0,
    )

pub force-stands : (journal : List Entry) → JournalOk journal → (r : Text) (m k : ℕ) → m ≤ entry_count journal r → has_number k (in_force journal r m) ≡ true → (s : StorySend) × (k < m) × (edit_at journal r k ≡ Script s) × (find_row s.story (scripts_of (order_at journal r m)) ≡ Some s)
force-stands journal lok r m k h n =
    let ok = scripts-ok journal lok r m h in
    let x = numbers-found k (story_ids_of (order_at journal r m)) (numbers_after r (take m (entries r journal))) n in
    let y = find-mapped (λ (x : Numbered). x.0) (numbered_at journal r m) x.0 k (rw (numbers-are journal r m) x.2) in
    let z = found-each (IsSent journal r m) (numbered_at journal r m) ok.sent x.0 y.0 y.1 in (
      y.0.1,
      omega (arith, y.2, z.2),
      ap (λ (j : ℕ). edit_at journal r j) (sym y.2) ∙ z.0,
      subst (λ (rows : List (Text × StorySend)). find_row y.0.1.story rows ≡ Some y.0.1) (sym ok.scripts)
          (find-map (λ (v : Numbered). v.1) (numbered_at journal r m) y.0.1.story y.0 (subst (λ (u : Text). find_row u (numbered_at journal r m) ≡ Some y.0) (sym z.1) y.1)),
    )
