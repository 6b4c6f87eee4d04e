-- Graphs that are their own closure.

-- who has an edge to a key has one to all to which that key has one
abbrev pub IsTransitive : {K : Type 0} → (K → K → Type 0) → Type 0
IsTransitive {K} IsEdge = (a b c : K) → IsEdge a b → IsEdge b c → IsEdge a c
