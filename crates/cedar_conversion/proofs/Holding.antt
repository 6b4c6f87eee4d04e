-- What holds of all that an option gives.
use Rattle.std.proofs.Common.{◌≡◌, Bool, true, false, Option, Some, None, refl, subst}
use Rattle.std.specs.Prelude.{⊤, cond}
use Rattle.cedar_grammar.specs.Steps.{◌>>=◌}

abbrev pub Holds : {A : Type 0} → (A → Type 0) → Option A → Type 0
Holds P None = ⊤
Holds P (Some x) = P x

-- the same of what it gives
abbrev pub Gives : {A : Type 0} → (A → Type 0) → Option A → Type 0
Gives {A} P o = (x : A) → o ≡ Some x → P x

pub given : {A : Type 0} (P : A → Type 0) (o : Option A) → Holds P o → Gives P o
given P o h x e = subst (Holds P) e h

pub all_given : {A : Type 0} (P : A → Type 0) (o : Option A) → Gives P o → Holds P o
all_given P None g = tt
all_given P (Some x) g = g x refl

pub then_holds : {A B : Type 0} (P : A → Type 0) (Q : B → Type 0) (o : Option A) (f : A → Option B) → Holds P o → ((x : A) → P x → Holds Q (f x)) → Holds Q (o >>= f)
then_holds P Q None f h k = tt
then_holds P Q (Some x) f h k = k x h

-- the same, where nothing is known of the first option
pub after_any : {A B : Type 0} (Q : B → Type 0) (o : Option A) (f : A → Option B) → ((x : A) → Holds Q (f x)) → Holds Q (o >>= f)
after_any Q None f k = tt
after_any Q (Some x) f k = k x

pub where_true : {A : Type 0} (P : A → Type 0) (b : Bool) (x : A) → (b ≡ true → P x) → Holds P (cond b (Some x) None)
where_true P true x h = h refl
where_true P false x h = tt
