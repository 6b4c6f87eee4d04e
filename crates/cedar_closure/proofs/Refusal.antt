-- Refusals.
use Rattle.std.proofs.Common.{◌≡◌, Bool, Result, Ok, Err, OnErr, IfErr, sym, subst}
use Rattle.std.specs.Result.{IsErrAnd}
use Rattle.cedar_closure.specs.declared.errors.TcError.{TcError}
use Rattle.cedar_closure.specs.declared.errors.TcError.TheVariants.{MissingTcEdge, HasCycle, Memory}
use Rattle.cedar_closure.specs.Refused.{IsTcRefusal}

-- a refusal for one reason is a refusal for a weaker one
pub IsTcRefusal-weaker : {K : Type 0} (dag : Bool) (P Q : K → Type 0) → ((k : K) → P k → Q k) → (e : TcError K) → IsTcRefusal dag P e → IsTcRefusal dag Q e
IsTcRefusal-weaker dag P Q on (MissingTcEdge e) h = h
IsTcRefusal-weaker dag P Q on (HasCycle e) h = (h.0, on e.vertex_with_loop h.1)
IsTcRefusal-weaker dag P Q on (Memory e) h = h

-- the same of a refusal that is passed on
pub passed_on : {K T : Type 0} (dag : Bool) (P Q : K → Type 0) → ((k : K) → P k → Q k) → (e : TcError K) → IsTcRefusal dag P e → (r : Result T (TcError K))
    → IsErrAnd r (λ made. made ≡ e) → IfErr r (IsTcRefusal dag Q)
passed_on dag P Q on e h (Ok x) is = tt
passed_on dag P Q on e h (Err f) is = subst (IsTcRefusal dag Q) (sym is) (IsTcRefusal-weaker dag P Q on e h)

-- what holds at each refusal
pub on_err : {T E P : Type 0} (r : Result T E) → P → OnErr r P
on_err (Ok x) h = tt
on_err (Err e) h = h
