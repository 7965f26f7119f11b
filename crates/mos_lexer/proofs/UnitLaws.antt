-- The laws of encodings and of reading them.
use Rattle.std.proofs.Common.{◌≡◌, ℕ, List, [], ◌∷◌, ◌++◌, refl, sym, ap, subst, ◌∙◌, append_assoc, ◌+◌}
use Rattle.std.proofs.lemmas.List.{append-nil}
use Rattle.mos_tables.specs.Events.{Event}
use Rattle.mos_lexer.specs.Units.{Reader, start_reader, UnitStep, reads_on, completes, rejects, unit_step, UnitRun, completed, then_units, unit_run, Found, StreamReader, then_stream, stream_units}
use Rattle.mos_lexer.specs.Laws.{run_on, EncodingsAreApart, EncodingsAreRead, OnlyEncodingsAreRead, PiecesAreOne, stream_on, StreamPiecesAreOne, behind_ready, HandedOutIsBehind}
use Rattle.mos_lexer.proofs.UnitReads.{start_reached, RunFacts, run_facts}
use Rattle.mos_lexer.proofs.UnitAccepts.{encoding_read}

-- two runs that are one have one value and leave the same
same_end : (i j : ℕ) (v w : List Event) (a b : List ℕ) → completed i v a ≡ completed j w b → (v ≡ w) × (a ≡ b)
same_end i j v w a b e = (cc, cc)

pub encodings_apart : EncodingsAreApart
encodings_apart v w us more a b =
    let e = encoding_read v us more a in
    let f = encoding_read w (us ++ more) [] b in
    let g : completed e.0 v more ≡ completed f.0 w [] = sym e.1 ∙ ap (unit_run start_reader) (sym (append-nil (us ++ more))) ∙ f.1 in
    let h = same_end e.0 f.0 v w more [] g in
    (h.1, h.0)

pub encodings_read : EncodingsAreRead
encodings_read v us rest h = encoding_read v us rest h

pub only_encodings_read : OnlyEncodingsAreRead
only_encodings_read began v us rest units e = subst (λ (z : UnitRun). RunFacts us z) e (run_facts us [] start_reader start_reached units)

pub pieces_one : PiecesAreOne
unfolding unit_run
pieces_one s [] ds = refl
pieces_one s (u ∷ us) ds = go (λ t. pieces_one t us ds) (unit_step s u)
  where
    go : ((t : Reader) → unit_run t (us ++ ds) ≡ run_on (unit_run t us) ds) → (o : UnitStep) → then_units o (us ++ ds) (λ t. unit_run t (us ++ ds)) ≡ run_on (then_units o us (λ t. unit_run t us)) ds
    go f (reads_on t) = f t
    go f (completes began v) = refl
    go f (rejects place k) = refl

pub stream_pieces_one : StreamPiecesAreOne
unfolding stream_units
stream_pieces_one s [] ds = refl
stream_pieces_one s (u ∷ us) ds = go (λ t. stream_pieces_one t us ds) (unit_step s.reader u)
  where
    go : ((t : StreamReader) → stream_units t (us ++ ds) ≡ stream_on (stream_units t us) ds) → (o : UnitStep) → then_stream s o (λ t. stream_units t (us ++ ds)) ≡ stream_on (then_stream s o (λ t. stream_units t us)) ds
    go f (reads_on t) = f (record { ready = s.ready; base = s.base; reader = t })
    go f (completes began v) = f (record { ready = s.ready ++ record { began = s.base + began; value = v } ∷ []; base = s.base + (s.reader.count + 1); reader = start_reader })
    go f (rejects place k) = refl

pub handed_out_behind : HandedOutIsBehind
unfolding stream_units
handed_out_behind fs gs base r [] = refl
handed_out_behind fs gs base r (u ∷ us) = go (λ hs b t. handed_out_behind fs hs b t us) (unit_step r u)
  where
    go : ((hs : List Found) (b : ℕ) (t : Reader) → stream_units (record { ready = fs ++ hs; base = b; reader = t }) us ≡ behind_ready fs (stream_units (record { ready = hs; base = b; reader = t }) us)) → (o : UnitStep)
        → then_stream (record { ready = fs ++ gs; base = base; reader = r }) o (λ t. stream_units t us) ≡ behind_ready fs (then_stream (record { ready = gs; base = base; reader = r }) o (λ t. stream_units t us))
    go f (reads_on t) = f gs base t
    go f (completes began v) =
        ap (λ (z : List Found). stream_units (record { ready = z; base = base + (r.count + 1); reader = start_reader }) us) (append_assoc fs gs (record { began = base + began; value = v } ∷ []))
        ∙ f (gs ++ record { began = base + began; value = v } ∷ []) (base + (r.count + 1)) start_reader
    go f (rejects place k) = refl
