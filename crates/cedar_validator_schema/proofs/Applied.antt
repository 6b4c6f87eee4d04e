-- What is written of an action, entry by entry, is what it applies to.
use Rattle.std.proofs.Common.{◌≡◌, List, [], ◌∷◌, ◌++◌, Option, Some, None, true, false, refl, sym, ap, ◌∙◌, append_assoc}
use Rattle.std.specs.Prelude.{is_some, option_map, option_and_then, option_to_list}
use Rattle.std.specs.List.{slice_get, cons_option}
use Rattle.cedar_language.specs.Uid.{Name}
use Rattle.cedar_schema_grammar.specs.Syntax.{TypeSyntax, AppliesEntry, principals, resources, context}
use Rattle.cedar_schema_grammar.specs.Declared.{Library, Declared, places, entity_name, entity_at, entity_named}
use Rattle.cedar_schema_grammar.specs.Faults.{principals_of, resources_of, contexts_of}
use Rattle.cedar_schema_grammar.specs.Resolving.{fields_of, found_types, context_by, context_fields}
use Rattle.cedar_schema_grammar.specs.Environments as environments
use Rattle.cedar_schema_grammar.specs.Written.{type_in}
use Rattle.cedar_schema_resolution.specs.Parents.{name_at, all_named, AreNamesOf}
use Rattle.cedar_schema_resolution.specs.declared.parents.EntityNames.{EntityNames}
use Rattle.cedar_validator_schema.proofs.Naming.{first_alike}
use Rattle.cedar_validator_schema.specs.Applying.{types_named}

pub named_on : (c : EntityNames) (namespace : Name) (xs ys : List (List Name))
    → types_named c namespace (xs ++ ys) ≡ types_named c namespace xs ++ types_named c namespace ys
named_on c namespace [] ys = refl
named_on c namespace (x ∷ xs) ys = ap (λ ns. all_named c namespace x ++ ns) (named_on c namespace xs ys)
    ∙ sym (append_assoc (all_named c namespace x) (types_named c namespace xs) (types_named c namespace ys))

pub principals_on : (es fs : List AppliesEntry) → principals_of (es ++ fs) ≡ principals_of es ++ principals_of fs
principals_on [] fs = refl
principals_on (principals ps ∷ es) fs = ap (λ xs. ps ∷ xs) (principals_on es fs)
principals_on (resources rs ∷ es) fs = principals_on es fs
principals_on (context t ∷ es) fs = principals_on es fs

pub resources_on : (es fs : List AppliesEntry) → resources_of (es ++ fs) ≡ resources_of es ++ resources_of fs
resources_on [] fs = refl
resources_on (principals ps ∷ es) fs = resources_on es fs
resources_on (resources rs ∷ es) fs = ap (λ xs. rs ∷ xs) (resources_on es fs)
resources_on (context t ∷ es) fs = resources_on es fs

pub contexts_on : (es fs : List AppliesEntry) → contexts_of (es ++ fs) ≡ contexts_of es ++ contexts_of fs
contexts_on [] fs = refl
contexts_on (principals ps ∷ es) fs = contexts_on es fs
contexts_on (resources rs ∷ es) fs = contexts_on es fs
contexts_on (context t ∷ es) fs = ap (λ xs. t ∷ xs) (contexts_on es fs)

-- the types of one more entry, by what they are of
pub one_applied : (kind : List AppliesEntry → List (List Name)) → ((es fs : List AppliesEntry) → kind (es ++ fs) ≡ kind es ++ kind fs)
    → (c : EntityNames) (namespace : Name)
    (es : List AppliesEntry) (e : AppliesEntry) (old new : List Name) → old ≡ types_named c namespace (kind es)
    → new ≡ old ++ types_named c namespace (kind (e ∷ []))
    → new ≡ types_named c namespace (kind (es ++ e ∷ []))
one_applied kind on c namespace es e old new f g = g ∙ ap (λ xs. xs ++ types_named c namespace (kind (e ∷ []))) f
    ∙ sym (ap (types_named c namespace) (on es (e ∷ [])) ∙ named_on c namespace (kind es) (kind (e ∷ [])))

found_are : (d : Declared) (c : EntityNames) → AreNamesOf d c → (namespace : Name) (ns : List Name) → all_named c namespace ns ≡ found_types d namespace ns
found_are d c are namespace [] = refl
found_are d c are namespace (n ∷ ns) =
    ap (λ o. cons_option o (all_named c namespace ns)) (first_alike (name_at c) (λ m. option_map entity_name (entity_at d m)) are (places namespace n))
    ∙ ap (cons_option (entity_named d namespace n)) (found_are d c are namespace ns)

pub types_are : (d : Declared) (c : EntityNames) → AreNamesOf d c → (namespace : Name) (nss : List (List Name))
    → types_named c namespace nss ≡ environments.all_named d namespace nss
types_are d c are namespace [] = refl
types_are d c are namespace (ns ∷ nss) = ap (λ xs. xs ++ types_named c namespace nss) (found_are d c are namespace ns)
    ∙ ap (λ xs. found_types d namespace ns ++ xs) (types_are d c are namespace nss)

-- ---- the context that is written first

pub no_more : (o : Option TypeSyntax) (e : AppliesEntry) (rest all : List AppliesEntry) → option_to_list o ≡ contexts_of (e ∷ [])
    → contexts_of (e ∷ rest) ≡ contexts_of all
    → is_some o ≡ false → contexts_of rest ≡ contexts_of all
no_more (Some t) e rest all f g h = absurd (cc h)
no_more None e rest all f g h = ap (λ xs. xs ++ contexts_of rest) f ∙ sym (contexts_on (e ∷ []) rest) ∙ g

pub first_one : (o : Option TypeSyntax) (e : AppliesEntry) (rest all : List AppliesEntry) → option_to_list o ≡ contexts_of (e ∷ [])
    → contexts_of (e ∷ rest) ≡ contexts_of all
    → is_some o ≡ true → o ≡ slice_get (contexts_of all) 0
first_one (Some t) e rest all f g h = ap (λ xs. slice_get xs 0) (ap (λ xs. xs ++ contexts_of rest) f ∙ sym (contexts_on (e ∷ []) rest) ∙ g)
first_one None e rest all f g h = absurd (cc h)

pub context_first : (d : Declared) (l : Library) (namespace : Name) (ts : List TypeSyntax)
    → context_by d l namespace ts ≡ context_fields (fields_of (option_and_then (type_in d l namespace) (slice_get ts 0)))
context_first d l namespace [] = refl
context_first d l namespace (t ∷ ts) = refl
