-- What parts give, and what comes of them.
use Rattle.std.proofs.Common.{◌≡◌, List, Ok, Err, refl, sym}
use Rattle.mos_fields.specs.Characters.{Text}
use Rattle.end_settings.specs.declared.devices.DeviceSettings.{DeviceSettings}
use Rattle.end_settings.specs.Devices.{unless_taken}
use Rattle.end_settings.specs.Given.{Given, Gives, joined, joined3, made}

-- what is given gives itself
pub gives_same : {A : Type 0} (a : Given A) → Gives a a
gives_same (Ok x) = refl
gives_same (Err f) = λ _. refl

pub gives_is : {A : Type 0} (p a : Given A) → a ≡ p → Gives p a
gives_is p (Ok x) e = sym e
gives_is p (Err f) e = λ _. sym e

pub gives_joined : {A B : Type 0} (p a : Given A) (q b : Given B) → Gives p a → Gives q b → Gives (joined p q) (joined a b)
gives_joined p (Ok x) q (Ok y) u v = rw (u, v) refl
gives_joined p (Ok x) q (Err g) u v = λ n. rw (u, v n) refl
gives_joined p (Err f) q b u v = λ n. rw (u n) refl

pub gives_joined3 : {A B C : Type 0} (p a : Given A) (q b : Given B) (r c : Given C) → Gives p a → Gives q b → Gives r c → Gives (joined3 p q r) (joined3 a b c)
gives_joined3 p (Ok x) q (Ok y) r (Ok z) u v w = rw (u, v, w) refl
gives_joined3 p (Ok x) q (Ok y) r (Err h) u v w = λ n. rw (u, v, w n) refl
gives_joined3 p (Ok x) q (Err g) r c u v w = λ n. rw (u, v n) refl
gives_joined3 p (Err f) q b r c u v w = λ n. rw (u n) refl

pub gives_made : {A B : Type 0} (f : A → B) (p a : Given A) → Gives p a → Gives (made f p) (made f a)
gives_made f p (Ok x) u = rw u refl
gives_made f p (Err g) u = λ n. rw (u n) refl

pub gives_unless : (before : List DeviceSettings) (p a : Given Text) → Gives p a → Gives (unless_taken before p) (unless_taken before a)
gives_unless before p (Ok id) u = rw u (gives_same (unless_taken before (Ok id)))
gives_unless before p (Err f) u = λ n. rw (u n) refl
