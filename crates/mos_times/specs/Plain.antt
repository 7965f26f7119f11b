-- Times of the form `YYYY-MM-DDThh:mm:ssZ`.
use Rattle.std.specs.Prelude.{◌≡◌, Bool, true, ◌&&◌, codes}
use Rattle.mos_fields.specs.declared.time.MosTime.{MosTime}
use Rattle.mos_fields.specs.Characters.{Text}
use Rattle.mos_fields.specs.Forms.{fits, is_time}
use Rattle.mos_fields.specs.Values.{time_text}

-- a time without milliseconds whose zone is `Z`, and no white space round it
unfoldable pub is_plain : Text → Bool
is_plain x = fits (codes "0000-00-00T00:00:00Z") x && is_time x

-- the text is a plain time, and this one
pub record IsPlainRead (x : Text) (t : MosTime) : Type 0 where
  pub plain : is_plain x ≡ true
  pub written : time_text t ≡ x
