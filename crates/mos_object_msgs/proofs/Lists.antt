-- Lists of objects and of profiles, one behind the other.
use Rattle.std.proofs.Common.{◌≡◌, ℕ, ◌+◌, ◌<◌, List, [], ◌∷◌, ◌++◌, codes, length, take, get_or}
use Rattle.mos_values.specs.declared.mos_obj.MosObj.{MosObj}
use Rattle.mos_values.specs.declared.profile.Profile.{Profile}
use Rattle.mos_values.specs.Parts.{element}
use Rattle.mos_values.specs.Views.{objects_events, mos_obj_events, profiles_events, profile_events}
use Rattle.mos_writer.specs.Encoded.{encoded}
use Rattle.mos_writer.proofs.EncodedLemmas.{events_step, appends_nothing}

pub objects_start : (a : List ℕ) → a ≡ a ++ encoded (objects_events [])
unfolding objects_events
objects_start a = appends_nothing a

pub objects_step : (xs : List MosObj) (i : ℕ) (x : MosObj) (a l w : List ℕ) → i < length xs → x ≡ get_or xs i x
    → l ≡ a ++ encoded (objects_events (take i xs)) → w ≡ l ++ encoded (element (codes "mosObj") (mos_obj_events x)) → w ≡ a ++ encoded (objects_events (take (i + 1) xs))
unfolding objects_events
objects_step xs i x a l w lt is before after = events_step (λ o. element (codes "mosObj") (mos_obj_events o)) xs i x a l w lt is before after

pub profiles_start : (a : List ℕ) → a ≡ a ++ encoded (profiles_events [])
unfolding profiles_events
profiles_start a = appends_nothing a

pub profiles_step : (xs : List Profile) (i : ℕ) (x : Profile) (a l w : List ℕ) → i < length xs → x ≡ get_or xs i x
    → l ≡ a ++ encoded (profiles_events (take i xs)) → w ≡ l ++ encoded (profile_events x) → w ≡ a ++ encoded (profiles_events (take (i + 1) xs))
unfolding profiles_events
profiles_step xs i x a l w lt is before after = events_step (profile_events) xs i x a l w lt is before after
