-- Headers in a body and headers that stand without their stories: what fits the table of the one fits that of the other.
use Rattle.std.proofs.Common.{◌≡◌, Bool, true, false, cond, List, [], ◌∷◌, ◌++◌, map, codes, Option, Some, None, refl}
use Rattle.std.specs.List.{AllByRecursion}
use Rattle.mos_fields.specs.Characters.{Text}
use Rattle.mos_fields.specs.declared.field.Field.{Field}
use Rattle.mos_fields.specs.declared.field.Field.TheVariants as fields
use Rattle.mos_fields.specs.Fields.{name_of, same, same_field}
use Rattle.mos_fields.specs.Forms.{among}
use Rattle.mos_tables.specs.declared.column.Column.{Column}
use Rattle.mos_tables.specs.declared.others.Others.TheVariants.{Kept, Refused}
use Rattle.mos_tables.specs.declared.table.Table.{Table}
use Rattle.mos_tables.specs.declared.table.Table.TheVariants as tables
use Rattle.mos_tables.specs.Events.{Event, leaf, raw, opens, closes}
use Rattle.mos_tables.specs.Tables.{columns, others}
use Rattle.mos_values.specs.declared.header.Header.{Header}
use Rattle.mos_values.specs.declared.header.HeaderPatch.{HeaderPatch}
use Rattle.mos_values.specs.Headers.{patch_of}
use Rattle.mos_values.specs.Parts.{must, maybe, raws, joined}
use Rattle.mos_values.specs.Sound.{IsOther, IsNamed, Fits, AllFit, IsSoundPatch}
use Rattle.mos_values.specs.Views.{header_events, patch_events}
use Rattle.mos_edits.specs.Orders.{list_or_kept, patched}
use Rattle.written_laws.proofs.Elements.{all-append, all-front, all-back, all-map}

-- ---- the two tables

among-append : (n : Text) (xs ys : List Text) → among n xs ≡ false → among n ys ≡ false → among n (xs ++ ys) ≡ false
among-append n [] ys a b = b
among-append n (x ∷ xs) ys a b = go (same n x) (λ h. among-append n xs ys h b) a
  where
    go : (c : Bool) → (among n xs ≡ false → among n (xs ++ ys) ≡ false) → cond c true (among n xs) ≡ false → cond c true (among n (xs ++ ys)) ≡ false
    go true f h = h
    go false f h = f h

among-front : (n : Text) (xs ys : List Text) → among n (xs ++ ys) ≡ false → among n xs ≡ false
among-front n [] ys a = refl
among-front n (x ∷ xs) ys a = go (same n x) (among-front n xs ys) a
  where
    go : (c : Bool) → (among n (xs ++ ys) ≡ false → among n xs ≡ false) → cond c true (among n (xs ++ ys)) ≡ false → cond c true (among n xs) ≡ false
    go true f h = h
    go false f h = f h

among-back : (n : Text) (xs ys : List Text) → among n (xs ++ ys) ≡ false → among n ys ≡ false
among-back n [] ys a = a
among-back n (x ∷ xs) ys a = go (same n x) (among-back n xs ys) a
  where
    go : (c : Bool) → (among n (xs ++ ys) ≡ false → among n ys ≡ false) → cond c true (among n (xs ++ ys)) ≡ false → among n ys ≡ false
    go true f h = absurd (cc)
    go false f h = f h

abbrev names : Table → List Text
names t = map (λ (c : Column). name_of c.field) (columns t)

abbrev story_name : List Text
story_name = codes "story" ∷ []

names-body : names tables.Body ≡ names tables.HeaderPatch ++ story_name
names-body = refl

not-story : (c : Bool) → cond c Refused Kept ≡ Kept → cond c true false ≡ false
not-story true h = absurd (cc)
not-story false h = refl

kept-unless : (c : Bool) → cond c true false ≡ false → cond c Refused Kept ≡ Kept
kept-unless true h = absurd (cc)
kept-unless false h = refl

other-body : (x : Text) → IsOther tables.HeaderPatch x → IsOther tables.Body x
other-body x (n, r, a, k) = (n, r, among-append n (names tables.HeaderPatch) story_name a (not-story (same n (codes "story")) k), refl)

other-header : (x : Text) → IsOther tables.Body x → IsOther tables.HeaderPatch x
other-header x (n, r, a, k) = (
  n,
  r,
  among-front n (names tables.HeaderPatch) story_name a,
  kept-unless (same n (codes "story")) (among-back n (names tables.HeaderPatch) story_name a),
)

-- ---- events

fits-body : (e : Event) → Fits tables.HeaderPatch e → Fits tables.Body e
fits-body (leaf n g x) a = a
fits-body (opens n g) a = a
fits-body (closes n) a = a
fits-body (raw f x) a = go (same_field f fields.Kept) a
  where
    go : (b : Bool) → IsNamed b tables.HeaderPatch f x → IsNamed b tables.Body f x
    go true h = other-body x h
    go false h = h

fits-header : (e : Event) → Fits tables.Body e → Fits tables.HeaderPatch e
fits-header (leaf n g x) a = a
fits-header (opens n g) a = a
fits-header (closes n) a = a
fits-header (raw f x) a = go (same_field f fields.Kept) a
  where
    go : (b : Bool) → IsNamed b tables.Body f x → IsNamed b tables.HeaderPatch f x
    go true h = other-header x h
    go false h = h

-- ---- fields with a text always fit

fits-must : (t : Table) (f : Field) (x : Text) → AllFit t (must f x)
unfolding must
fits-must t f x = (tt, tt)

fits-maybe : (t : Table) (f : Field) (o : Option Text) → AllFit t (maybe f o)
unfolding maybe
fits-maybe t f None = tt
fits-maybe t f (Some x) = fits-must t f x

abbrev AllParts : Table → List (List Event) → Type 0
AllParts t ess = AllByRecursion (AllFit t) ess

parts-joined : (t : Table) (ess : List (List Event)) → AllParts t ess → AllFit t (joined ess)
parts-joined t [] a = tt
parts-joined t (es ∷ ess) a = all-append (Fits t) es (joined ess) a.0 (parts-joined t ess a.1)

joined-parts : (t : Table) (ess : List (List Event)) → AllFit t (joined ess) → AllParts t ess
joined-parts t [] a = tt
joined-parts t (es ∷ ess) a = (all-front (Fits t) es (joined ess) a, joined-parts t ess (all-back (Fits t) es (joined ess) a))

-- ---- headers

-- the raw elements of a header
abbrev Raws : Table → List Text → List Text → Type 0
Raws t metadata others = AllFit t (raws fields.Metadata metadata) × AllFit t (raws fields.Kept others)

abbrev pub header_parts : Header → List (List Event)
header_parts h =
    must fields.RoID h.ro ∷ must fields.RoSlug h.slug ∷ maybe fields.RoChannel h.channel ∷ maybe fields.RoEdStart h.ed_start ∷ maybe fields.RoEdDur h.ed_dur ∷ maybe fields.RoTrigger h.trigger
    ∷ maybe fields.MacroIn h.macro_in ∷ maybe fields.MacroOut h.macro_out ∷ raws fields.Metadata h.metadata ∷ raws fields.Kept h.others ∷ []

abbrev pub patch_parts : HeaderPatch → List (List Event)
patch_parts h =
    must fields.RoID h.ro ∷ maybe fields.RoSlug h.slug ∷ maybe fields.RoChannel h.channel ∷ maybe fields.RoEdStart h.ed_start ∷ maybe fields.RoEdDur h.ed_dur ∷ maybe fields.RoTrigger h.trigger
    ∷ maybe fields.MacroIn h.macro_in ∷ maybe fields.MacroOut h.macro_out ∷ raws fields.Metadata h.metadata ∷ raws fields.Kept h.others ∷ []

header-raws : (t : Table) (h : Header) → AllFit t (header_events h) → Raws t h.metadata h.others
unfolding header_events
header-raws t h a = let p = joined-parts t (header_parts h) a in (p.1.1.1.1.1.1.1.1.0, p.1.1.1.1.1.1.1.1.1.0)

raws-header : (t : Table) (h : Header) → Raws t h.metadata h.others → AllFit t (header_events h)
unfolding header_events
raws-header t h a =
    parts-joined t (header_parts h) (
      fits-must t fields.RoID h.ro,
      (fits-must t fields.RoSlug h.slug, (fits-maybe t fields.RoChannel h.channel, (fits-maybe t fields.RoEdStart h.ed_start, (fits-maybe t fields.RoEdDur h.ed_dur, (fits-maybe t fields.RoTrigger h.trigger, (fits-maybe t fields.MacroIn h.macro_in, (fits-maybe t fields.MacroOut h.macro_out, (a.0, (a.1, tt))))))))),
    )

patch-raws : (t : Table) (h : HeaderPatch) → AllFit t (patch_events h) → Raws t h.metadata h.others
unfolding patch_events
patch-raws t h a = let p = joined-parts t (patch_parts h) a in (p.1.1.1.1.1.1.1.1.0, p.1.1.1.1.1.1.1.1.1.0)

raws-patch : (t : Table) (h : HeaderPatch) → Raws t h.metadata h.others → AllFit t (patch_events h)
unfolding patch_events
raws-patch t h a =
    parts-joined t (patch_parts h) (
      fits-must t fields.RoID h.ro,
      (fits-maybe t fields.RoSlug h.slug, (fits-maybe t fields.RoChannel h.channel, (fits-maybe t fields.RoEdStart h.ed_start, (fits-maybe t fields.RoEdDur h.ed_dur, (fits-maybe t fields.RoTrigger h.trigger, (fits-maybe t fields.MacroIn h.macro_in, (fits-maybe t fields.MacroOut h.macro_out, (a.0, (a.1, tt))))))))),
    )

raws-or-kept : (t : Table) (f : Field) (new old : List Text) → AllFit t (raws f new) → AllFit t (raws f old) → AllFit t (raws f (list_or_kept new old))
raws-or-kept t f [] old a b = b
raws-or-kept t f (x ∷ xs) old a b = a

-- the header after a patch
pub sound-patched : (p : HeaderPatch) (h : Header) → IsSoundPatch p → AllFit tables.Body (header_events h) → AllFit tables.Body (header_events (patched p h))
sound-patched p h a b =
    let new = patch-raws tables.Body p (all-map (Fits tables.HeaderPatch) (Fits tables.Body) fits-body (patch_events p) a) in
    let old = header-raws tables.Body h b in
    raws-header tables.Body (patched p h) (raws-or-kept tables.Body fields.Metadata p.metadata h.metadata new.0 old.0, raws-or-kept tables.Body fields.Kept p.others h.others new.1 old.1)

-- the header as roListAll lists it
pub sound-listed : (h : Header) → AllFit tables.Body (header_events h) → IsSoundPatch (patch_of h)
sound-listed h a =
    raws-patch tables.HeaderPatch (patch_of h) (header-raws tables.HeaderPatch h (all-map (Fits tables.Body) (Fits tables.HeaderPatch) fits-header (header_events h) a))
