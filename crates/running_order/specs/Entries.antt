-- The entries of a table of stories.
use Rattle.std.specs.Prelude.{◌≡◌, ℕ, List, map}
use Rattle.std.specs.Global.{Vec}
use Rattle.mos_fields.specs.Characters.{Text, chars_of}
use Rattle.mos_values.specs.StoryValue.{Story}
use Rattle.running_order.specs.Places.{AreKeys}

-- the keys are the code units of the identifiers of what they lead to
module _ {K X : Type 0} (units : K → List ℕ) (id : X → Text) where
  pub record IsKeyed (es : List (K × X)) : Type 0 where
    pub keys : AreKeys (map (λ (e : K × X). units e.0) es)
    pub ids : map (λ (e : K × X). chars_of (units e.0)) es ≡ map (λ (e : K × X). id e.1) es

abbrev pub AreEntries : List (Vec ℕ × Story) → Type 0
AreEntries es = IsKeyed (λ (k : Vec ℕ). k.items) (λ (s : Story). s.id) es
