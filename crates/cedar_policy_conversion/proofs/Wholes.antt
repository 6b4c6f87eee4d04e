-- A policy, from its parts.
use Rattle.std.proofs.Common.{◌≡◌, List, Option, Some, None, refl, ap, ◌∙◌}
use Rattle.std.specs.Option.{option_map}
use Rattle.cedar_language.specs.Answering.{Effect}
use Rattle.cedar_language.specs.Tree.{Tree}
use Rattle.cedar_language.specs.Uid.{Text}
use Rattle.cedar_grammar.specs.Build.{Keyed, by_key}
use Rattle.cedar_grammar.specs.Names.{Names}
use Rattle.cedar_grammar.specs.Policies.{body_of}
use Rattle.cedar_grammar.specs.Policy.{Constraint, ActionConstraint, Policy}
use Rattle.cedar_grammar.specs.Steps.{◌>>=◌}
use Rattle.cedar_grammar.specs.Converting.{each, annotation_syntax, clause, distinct_keys, effect, policy_syntax, scope_syntax}
use Rattle.cedar_grammar.specs.Loose as loose
use Rattle.cedar_policy_conversion.specs.Clauses.{clauses_of}
use Rattle.cedar_policy_conversion.specs.Notes.{notes_of}
use Rattle.cedar_policy_conversion.proofs.Gathering.{paired}

-- the effect and the annotations, and the scope and the clauses
abbrev pub Parts : Type 0
Parts = (Effect × List (Keyed Text)) × ((Constraint × ActionConstraint × Constraint) × Option Tree)

abbrev pub whole : Parts → Policy
whole q = record { effect = q.0.0; annotations = q.0.1; principal = q.1.0.0; action = q.1.0.1; resource = q.1.0.2; body = q.1.1 }

abbrev pub loose_parts : Names → List loose.Annotation → loose.Ident → List loose.VariableDef → List loose.Cond → Option Parts
loose_parts names xs w ds cs = paired (paired (effect w) (notes_of xs)) (paired (scope_syntax ds) (clauses_of names cs))

of_parts : (d : Option (List (Keyed Text))) (e : Option Effect) (s : Option (Constraint × ActionConstraint × Constraint)) (t : Option (List Tree))
    → (d >>= λ notes. e >>= λ x. s >>= λ y. t >>= λ ts. let z : Option Policy = Some (record { effect = x; annotations = by_key notes; principal = y.0; action = y.1; resource = y.2; body = body_of ts }) in z)
    ≡ (paired (paired e (option_map by_key d)) (paired s (option_map body_of t)) >>= λ q. Some (whole q))
of_parts None None s t = refl
of_parts None (Some x) s t = refl
of_parts (Some n) None s t = refl
of_parts (Some n) (Some x) None t = refl
of_parts (Some n) (Some x) (Some y) None = refl
of_parts (Some n) (Some x) (Some y) (Some ts) = refl

policy_of_parts : (names : Names) (xs : List loose.Annotation) (w : loose.Ident) (ds : List loose.VariableDef) (cs : List loose.Cond)
    → policy_syntax names (loose.policy xs w ds cs) ≡ (loose_parts names xs w ds cs >>= λ q. Some (whole q))
unfolding policy_syntax
policy_of_parts names xs w ds cs = of_parts (each annotation_syntax xs >>= distinct_keys) (effect w) (scope_syntax ds) (each (clause names) cs)

pub no_policy : (names : Names) (xs : List loose.Annotation) (w : loose.Ident) (ds : List loose.VariableDef) (cs : List loose.Cond)
    → loose_parts names xs w ds cs ≡ None → policy_syntax names (loose.policy xs w ds cs) ≡ None
no_policy names xs w ds cs none = policy_of_parts names xs w ds cs ∙ ap (λ o. o >>= λ q. Some (whole q)) none

pub a_policy : (names : Names) (xs : List loose.Annotation) (w : loose.Ident) (ds : List loose.VariableDef) (cs : List loose.Cond) (q : Parts)
    → loose_parts names xs w ds cs ≡ Some q → policy_syntax names (loose.policy xs w ds cs) ≡ Some (whole q)
a_policy names xs w ds cs q is = policy_of_parts names xs w ds cs ∙ ap (λ o. o >>= λ q. Some (whole q)) is
