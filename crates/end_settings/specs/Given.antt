-- What settings give: values, or the first fault in the order in which the keys are checked.
use Rattle.std.specs.Prelude.{◌≡◌, Option, Some, None, Result, Ok, Err, MatchResult}
use Rattle.mos_fields.specs.Faults.{Fault}
use Rattle.end_settings.specs.declared.key.Key.{Key}
use Rattle.end_settings.specs.declared.fault.SettingsFault.{SettingsFault}
use Rattle.end_settings.specs.declared.fault.SettingsFault.TheVariants.{BadValue, NoMemory as out_of_memory}

abbrev pub Given : Type 0 → Type 0
Given A = Result A SettingsFault

-- A call gives this value or this fault. Want of memory may come in place of both.
abbrev pub Gives : {A : Type 0} → Given A → Given A → Type 0
Gives want got = MatchResult got (λ x. want ≡ Ok x) (λ f. ¬ (f ≡ out_of_memory) → want ≡ Err f)

-- both, or the first fault
abbrev pub joined : {A B : Type 0} → Given A → Given B → Given (A × B)
joined (Err f) b = Err f
joined (Ok x) (Err g) = Err g
joined (Ok x) (Ok y) = Ok (x, y)

-- all three, or the first fault
abbrev pub joined3 : {A B C : Type 0} → Given A → Given B → Given C → Given (A × B × C)
joined3 (Err f) b c = Err f
joined3 (Ok x) (Err g) c = Err g
joined3 (Ok x) (Ok y) (Err h) = Err h
joined3 (Ok x) (Ok y) (Ok z) = Ok (x, y, z)

-- what comes of a value
abbrev pub and_then : {A B : Type 0} → Given A → (A → Given B) → Given B
and_then (Ok x) more = more x
and_then (Err f) more = Err f

-- what is made of a value
abbrev pub made : {A B : Type 0} → (A → B) → Given A → Given B
made f (Ok x) = Ok (f x)
made f (Err e) = Err e

-- the value, where the text that it is has no fault
abbrev pub faultless : {A : Type 0} → Key → Fault → A → Given A
faultless key None x = Ok x
faultless key (Some f) x = Err (BadValue key)

-- the value, where there is one
abbrev pub allowed : {A : Type 0} → Key → Option A → Given A
allowed key (Some x) = Ok x
allowed key None = Err (BadValue key)
