-- Refusals that are passed on.
use Rattle.std.proofs.Common.{Result, Ok, Err, IfOk, OnOk, OnErr}
use Rattle.std.specs.Result.{IsErrAnd}

pub at_err : {T E : Type 0} (P : Result T E → Type 0) (Made : E → Type 0) (r : Result T E) → IsErrAnd r Made → ((e : E) → Made e → P (Err e)) → P r
at_err P Made (Ok x) h on = absurd h
at_err P Made (Err e) h on = on e h

-- what holds at each refusal
pub on_err : {T E P : Type 0} (r : Result T E) → P → OnErr r P
on_err (Ok x) h = tt
on_err (Err e) h = h

-- what holds wherever a call is taken
pub on_ok : {T E P : Type 0} (r : Result T E) → P → OnOk r P
on_ok (Ok x) h = h
on_ok (Err e) h = tt

pub err_weaker : {T E P Q : Type 0} (r : Result T E) → (P → Q) → OnErr r P → OnErr r Q
err_weaker (Ok x) on h = tt
err_weaker (Err e) on h = on h

pub ok_weaker : {T E : Type 0} {P Q : T → Type 0} (r : Result T E) → ((x : T) → P x → Q x) → IfOk r P → IfOk r Q
ok_weaker (Ok x) on h = on x h
ok_weaker (Err e) on h = tt
