-- Why a graph is refused.
use Rattle.std.specs.Prelude.{⊤, Bool, IsTrue}
use Rattle.cedar_closure.specs.declared.errors.TcError.{TcError}
use Rattle.cedar_closure.specs.declared.errors.TcError.TheVariants.{MissingTcEdge, HasCycle, Memory}

-- a cycle is named only where none may be, and by a key that is on one
abbrev pub IsTcRefusal : {K : Type 0} → Bool → (K → Type 0) → TcError K → Type 0
IsTcRefusal enforce_dag IsOnCycle (MissingTcEdge e) = ⊥
IsTcRefusal enforce_dag IsOnCycle (HasCycle e) = IsTrue enforce_dag × IsOnCycle e.vertex_with_loop
IsTcRefusal enforce_dag IsOnCycle (Memory e) = ⊤

-- a missing edge is one of three, of which the other two are there; a cycle is named by a key with an edge to itself
abbrev pub IsTcViolation : {K : Type 0} → (K → K → Type 0) → TcError K → Type 0
IsTcViolation IsEdge (MissingTcEdge e) = IsEdge e.child e.parent × IsEdge e.parent e.grandparent × ¬ (IsEdge e.child e.grandparent)
IsTcViolation IsEdge (HasCycle e) = IsEdge e.vertex_with_loop e.vertex_with_loop
IsTcViolation IsEdge (Memory e) = ⊤
