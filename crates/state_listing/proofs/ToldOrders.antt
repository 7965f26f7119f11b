-- The orders that are told.
use Rattle.std.proofs.Common.{◌≡◌, ◌≢◌, ℕ, zero, suc, ◌<◌, All, AllPairs, Contains, List, [], ◌∷◌, length, slice_index_or, Bool, true, false, ◌||◌, refl, sym, ap, ◌∙◌, subst, arith}
use Rattle.std.proofs.lemmas.List.Elements.{All-cons}
use Rattle.std.proofs.lemmas.List.Kept.{AllPairs-cons}
use Rattle.mos_edits.specs.Texts.{Text, same_id, has_id}
use Rattle.mos_edits.specs.Entries.{Entry, is_before}
use Rattle.mos_machines.specs.Server.{View, PeerState}
use Rattle.mos_machines.specs.Server.View.{Out}
use Rattle.order_table.specs.Rows.{IsBeforeAll, IsAscending}
use Rattle.world_laws.specs.World.{Pairing}
use Rattle.world_scripts.specs.Listing.{entered, Lists, IsViewed}
use Rattle.world_scripts.specs.Listing.IsViewed.{HasEntry, HasView}
use Rattle.mos_edits.proofs.Identifiers.{same-true, same-self, same-sym}
use Rattle.order_table.proofs.Order.{before-other, before-differs}
use Rattle.order_table.proofs.AscendingRows.{before-all, insert-ascending}
use Rattle.ncs_core.proofs.ListedIds.{has-insert}
use Rattle.ncs_core.specs.Listed.{has_entry, is_seen, is_viewed, IsListOf}

-- ---- an identifier in a list

pub has-contained : (r : Text) (ids : List Text) → has_id r ids ≡ true → Contains ids r
has-contained r [] h = absurd (let n : false ≡ true = h in cc)
has-contained r (x ∷ xs) h = by (same_id r x) refl h (has-contained r xs)
  where
    by : (b : Bool) → same_id r x ≡ b → (b || has_id r xs) ≡ true → (has_id r xs ≡ true → Contains xs r) → Contains (x ∷ xs) r
    by true s e rest = (zero, omega arith, sym (same-true r x s))
    by false s e rest = let i = rest e in let lt : i.0 < length xs = i.1 in (suc i.0, omega arith, i.2)

or-true : (a b : Bool) → b ≡ true → (a || b) ≡ true
or-true true b e = refl
or-true false b e = e

has-at : (r : Text) (ids : List Text) (k : ℕ) → k < length ids → slice_index_or ids k r ≡ r → has_id r ids ≡ true
has-at r [] k lt e = absurd (omega arith)
has-at r (x ∷ xs) zero lt e = ap (λ (b : Bool). b || has_id r xs) (subst (λ (z : Text). same_id r z ≡ true) (sym e) (same-self r))
has-at r (x ∷ xs) (suc k) lt e = or-true (same_id r x) (has_id r xs) (has-at r xs k (omega arith) e)

pub contained-has : (r : Text) (ids : List Text) → Contains ids r → has_id r ids ≡ true
contained-has r ids c = has-at r ids c.0 c.1 c.2

-- ---- ascending lists

all-behind : (x : Text) (xs : List Text) → IsBeforeAll x xs → All (λ (y : Text). is_before x y ≡ true) xs
all-behind x [] h = λ k d lt. absurd (omega arith)
all-behind x (y ∷ ys) h = All-cons (λ (z : Text). is_before x z ≡ true) y ys h.0 (all-behind x ys h.1)

pub pairs-ascend : (ids : List Text) → IsAscending ids → AllPairs (λ (x y : Text). is_before x y ≡ true) ids
pairs-ascend [] h = λ i j d lt within. absurd (omega arith)
pairs-ascend (x ∷ xs) h = AllPairs-cons (λ (y z : Text). is_before y z ≡ true) x xs (all-behind x xs h.0) (pairs-ascend xs h.1)

-- one that stands before all isn't among them
before-none : (r : Text) (ids : List Text) → IsBeforeAll r ids → has_id r ids ≡ false
before-none r [] h = refl
before-none r (x ∷ xs) h = ap (λ (b : Bool). b || has_id r xs) (same-sym r x ∙ before-differs r x h.0) ∙ before-none r xs h.1

-- the first of two lists with the same texts is the same
first-same : (x y : Text) (xs ys : List Text) → IsAscending (x ∷ xs) → IsAscending (y ∷ ys) → ((r : Text) → has_id r (x ∷ xs) ≡ has_id r (y ∷ ys)) → x ≡ y
first-same x y xs ys h k same = before-other x y (by x y xs ys k same) (by y x ys xs h (λ r. sym (same r)))
  where
    by : (a b : Text) (more others : List Text) → IsAscending (b ∷ others) → ((r : Text) → has_id r (a ∷ more) ≡ has_id r (b ∷ others)) → is_before a b ≡ false
    by a b more others k same = go (is_before a b) refl
      where
        go : (c : Bool) → is_before a b ≡ c → c ≡ false
        go false e = refl
        go true e =
            let there : has_id a (a ∷ more) ≡ true = ap (λ (c : Bool). c || has_id a more) (same-self a) in
            let missing : has_id a (b ∷ others) ≡ false = before-none a (b ∷ others) (e, before-all a b others e k.0) in
            sym there ∙ (same a ∙ missing)

-- the rest, too
rest-same : (x : Text) (xs ys : List Text) → IsBeforeAll x xs → IsBeforeAll x ys → ((r : Text) → has_id r (x ∷ xs) ≡ has_id r (x ∷ ys)) → (r : Text) → has_id r xs ≡ has_id r ys
rest-same x xs ys h k same r = by (same_id r x) refl (same r)
  where
    by : (b : Bool) → same_id r x ≡ b → (b || has_id r xs) ≡ (b || has_id r ys) → has_id r xs ≡ has_id r ys
    by true s e = subst (λ (z : Text). has_id z xs ≡ has_id z ys) (sym (same-true r x s)) (before-none x xs h ∙ sym (before-none x ys k))
    by false s e = e

pub lists-same : (xs ys : List Text) → IsAscending xs → IsAscending ys → ((r : Text) → has_id r xs ≡ has_id r ys) → xs ≡ ys
lists-same [] [] h k same = refl
lists-same [] (y ∷ ys) h k same = absurd (let e : false ≡ true = same y ∙ ap (λ (c : Bool). c || has_id y ys) (same-self y) in cc)
lists-same (x ∷ xs) [] h k same = absurd (let e : false ≡ true = sym (same x) ∙ ap (λ (c : Bool). c || has_id x xs) (same-self x) in cc)
lists-same (x ∷ xs) (y ∷ ys) h k same = by y ys k same (first-same x y xs ys h k same) (lists-same xs ys h.1 k.1)
  where
    by : (z : Text) (zs : List Text) → IsAscending (z ∷ zs) → ((r : Text) → has_id r (x ∷ xs) ≡ has_id r (z ∷ zs)) → x ≡ z → (((r : Text) → has_id r xs ≡ has_id r zs) → xs ≡ zs) → x ∷ xs ≡ z ∷ zs
    by z zs k same e rest =
        let before : IsBeforeAll x zs = subst (λ (w : Text). IsBeforeAll w zs) (sym e) k.0 in
        let both : (r : Text) → has_id r (x ∷ xs) ≡ has_id r (x ∷ zs) = subst (λ (w : Text). (r : Text) → has_id r (x ∷ xs) ≡ has_id r (w ∷ zs)) (sym e) same in
        ap (λ (w : Text). w ∷ xs) e ∙ ap (λ (ws : List Text). z ∷ ws) (rest (rest-same x xs zs h.0 before both))

-- ---- the orders that have an entry

pub entered-ascend : (journal : List Entry) → IsAscending (entered journal)
entered-ascend [] = tt
entered-ascend (e ∷ es) = insert-ascending e.ro (entered es) (entered-ascend es)

or-turned : (a b : Bool) → (a || b) ≡ (b || a)
or-turned true true = refl
or-turned true false = refl
or-turned false true = refl
or-turned false false = refl

pub entered-has : (journal : List Entry) (r : Text) → has_id r (entered journal) ≡ has_entry journal r
entered-has [] r = refl
entered-has (e ∷ es) r = has-insert r e.ro (entered es) ∙ (ap (λ (b : Bool). b || same_id r e.ro) (entered-has es r) ∙ or-turned (has_entry es r) (same_id r e.ro))

pub entered-is : (journal : List Entry) (ids : List Text) → IsListOf (has_entry journal) ids → ids ≡ entered journal
entered-is journal ids h = lists-same ids (entered journal) h.ascending (entered-ascend journal) (λ r. h.all r ∙ sym (entered-has journal r))

-- ---- the orders whose view is told

seen-of : (v : View) → v ≢ Out → is_seen v ≡ true
seen-of Out n = absurd (n refl)
seen-of (View.Listed m scripts) n = refl
seen-of (View.In m again scripts) n = refl
seen-of (View.From k) n = refl

module _ (journal : List Entry) (l : Pairing) (peer : PeerState) (same : l.peer ≡ peer) (r : Text) where
  viewed-by : (b : Bool) → has_entry journal r ≡ b → (b || is_seen (peer.views r)) ≡ true → IsViewed journal l r
  viewed-by true s e = HasEntry (has-contained r (entered journal) (entered-has journal r ∙ s))
  viewed-by false s e = HasView (λ out. absurd (let n : is_seen (peer.views r) ≡ false = ap is_seen (sym (ap (λ (p : PeerState). p.views r) same) ∙ out) in let f : false ≡ true = sym n ∙ e in cc))

  seen-viewed : IsViewed journal l r → is_viewed journal peer r ≡ true
  seen-viewed (HasEntry c) = ap (λ (b : Bool). b || is_seen (peer.views r)) (sym (entered-has journal r) ∙ contained-has r (entered journal) c)
  seen-viewed (HasView n) = or-true (has_entry journal r) (is_seen (peer.views r)) (seen-of (peer.views r) (λ out. n (ap (λ (p : PeerState). p.views r) same ∙ out)))

pub views-listed : (journal : List Entry) (l : Pairing) (peer : PeerState) (ids : List Text) → IsListOf (is_viewed journal peer) ids → l.peer ≡ peer → Lists (IsViewed journal l) ids
views-listed journal l peer ids h same = record {
  ascending = pairs-ascend ids h.ascending;
  all = λ r. (λ c. viewed-by journal l peer same r (has_entry journal r) refl (sym (h.all r) ∙ contained-has r ids c), λ v. has-contained r ids (h.all r ∙ seen-viewed journal l peer same r v));
}

-- a pairing of which nothing is seen
pub entered-lists : (journal : List Entry) (l : Pairing) → ((r : Text) → l.peer.views r ≡ Out) → Lists (IsViewed journal l) (entered journal)
entered-lists journal l out =
    let none : (r : Text) → (has_entry journal r || is_seen (l.peer.views r)) ≡ has_entry journal r = λ r. ap (λ (v : View). has_entry journal r || is_seen v) (out r) ∙ or-turned (has_entry journal r) false in
    views-listed journal l l.peer (entered journal) (record { ascending = entered-ascend journal; all = λ r. entered-has journal r ∙ sym (none r) }) refl
