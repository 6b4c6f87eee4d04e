-- Names of entity types are found by where they are looked up.
use Rattle.std.proofs.Common.{◌≡◌, ◌+◌, ◌<◌, ℕ, Bool, true, false, cond, List, [], ◌∷◌, ◌++◌, length, take, get_or, Option, Some, None, refl, sym, ap, ◌∙◌, subst}
use Rattle.std.specs.Prelude.{map, option_map, option_to_list}
use Rattle.std.specs.List.{find, cons_option}
use Rattle.std.specs.BTreeMap.{is_at}
use Rattle.std.proofs.lemmas.List.{map-append, take_more}
use Rattle.cedar_language.specs.Uid.{Name}
use Rattle.cedar_language.specs.Order.{same_name, name_cmp}
use Rattle.cedar_typing.proofs.Sameness.{name_is}
use Rattle.cedar_schema_grammar.specs.Declared.{EntityType, Declared, or_else, first_of, places, entity_name, entity_at, entity_named}
use Rattle.cedar_schema_grammar.specs.Resolving.{found_types}
use Rattle.cedar_schema_syntax.specs.View.{path_view, paths_view}
use Rattle.cedar_schema_syntax.specs.declared.names.Path.{Path}
use Rattle.cedar_schema_resolution.specs.Declarations.{entity_view}
use Rattle.cedar_schema_resolution.specs.Parents.{name_at, HaveNames, AreNamesOf, first_named, all_named}
use Rattle.cedar_schema_resolution.specs.declared.declarations.DeclaredEntity.{DeclaredEntity}
use Rattle.cedar_schema_resolution.specs.declared.parents.EntityNames.{EntityNames}
use Rattle.cedar_schema_resolution.proofs.Numbering.{at_is_same}

-- ---- one more name

last_found : (es : List EntityType) (e : EntityType) (n : Name)
    → option_map entity_name (find (λ x. same_name (entity_name x) n) (es ++ e ∷ []))
    ≡ cond (same_name (entity_name e) n) (Some (entity_name e)) (option_map entity_name (find (λ x. same_name (entity_name x) n) es))
last_found [] e n = by (same_name (entity_name e) n)
  where
    by : (b : Bool) → option_map entity_name (cond b (Some e) None) ≡ cond b (Some (entity_name e)) None
    by true = refl
    by false = refl
last_found (x ∷ es) e n = by (same_name (entity_name x) n) refl (same_name (entity_name e) n) refl (last_found es e n)
  where
    by : (b : Bool) → same_name (entity_name x) n ≡ b → (c : Bool) → same_name (entity_name e) n ≡ c
        → option_map entity_name (find (λ y. same_name (entity_name y) n) (es ++ e ∷ [])) ≡ cond c (Some (entity_name e))
        (option_map entity_name (find (λ y. same_name (entity_name y) n) es))
        → option_map entity_name (cond b (Some x) (find (λ y. same_name (entity_name y) n) (es ++ e ∷ [])))
        ≡ cond c (Some (entity_name e)) (option_map entity_name (cond b (Some x) (find (λ y. same_name (entity_name y) n) es)))
    by true f true g ih = ap Some (name_is (entity_name x) n f ∙ sym (name_is (entity_name e) n g))
    by true f false g ih = refl
    by false f c g ih = ih

pub one_name : (es : List DeclaredEntity) (i : ℕ) (e : DeclaredEntity) (name : Name) (old new : EntityNames) → i < length es → e ≡ get_or es i e
    → name ≡ entity_name (entity_view e) → HaveNames (map entity_view (take i es)) old
    → ((n : Name) → name_at new n ≡ cond (is_at (name_cmp name) n) (Some name) (name_at old n)) → HaveNames (map entity_view (take (i + 1) es)) new
one_name es i e name old new low here is before put =
    let cut : map entity_view (take (i + 1) es) ≡ map entity_view (take i es) ++ entity_view e ∷ []
    = ap (map entity_view) (take_more es i e low ∙ ap (λ x. take i es ++ x ∷ []) (sym here)) ∙ map-append entity_view (take i es) (e ∷ []) in
    subst (λ xs. HaveNames xs new) (sym cut)
    (λ n. put n ∙ ap (λ b. cond b (Some name) (name_at old n)) (at_is_same name n ∙ ap (λ m. same_name m n) is)
    ∙ ap (λ m. cond (same_name (entity_name (entity_view e)) n) (Some m) (name_at old n)) is
    ∙ ap (cond (same_name (entity_name (entity_view e)) n) (Some (entity_name (entity_view e)))) (before n)
    ∙ sym (last_found (map entity_view (take i es)) (entity_view e) n))

-- ---- one more that is found

last_named : (c : EntityNames) (namespace : Name) (ps : List Name) (p : Name)
    → all_named c namespace (ps ++ p ∷ []) ≡ all_named c namespace ps ++ option_to_list (first_named c namespace p)
last_named c namespace [] p = by (first_named c namespace p)
  where
    by : (o : Option Name) → cons_option o [] ≡ option_to_list o
    by (Some x) = refl
    by None = refl
last_named c namespace (q ∷ ps) p = ap (cons_option (first_named c namespace q)) (last_named c namespace ps p) ∙ by (first_named c namespace q)
  where
    by : (o : Option Name) → cons_option o (all_named c namespace ps ++ option_to_list (first_named c namespace p)) ≡ cons_option o
        (all_named c namespace ps) ++ option_to_list (first_named c namespace p)
    by (Some x) = refl
    by None = refl

pub one_found : (c : EntityNames) (namespace : Name) (ps : List Path) (i : ℕ) (p : Path) (old new : List Name) → i < length ps → p ≡ get_or ps i p
    → old ≡ all_named c namespace (paths_view (take i ps)) → new ≡ old ++ option_to_list (first_named c namespace (path_view p))
    → new ≡ all_named c namespace (paths_view (take (i + 1) ps))
one_found c namespace ps i p old new low here e f =
    let cut : paths_view (take (i + 1) ps) ≡ paths_view (take i ps) ++ path_view p ∷ []
    = ap paths_view (take_more ps i p low ∙ ap (λ x. take i ps ++ x ∷ []) (sym here)) ∙ map-append path_view (take i ps) (p ∷ []) in
    f ∙ ap (λ xs. xs ++ option_to_list (first_named c namespace (path_view p))) e
    ∙ sym (ap (all_named c namespace) cut ∙ last_named c namespace (paths_view (take i ps)) (path_view p))

-- ---- what is declared

first_alike : (f g : Name → Option Name) → ((n : Name) → f n ≡ g n) → (ns : List Name) → first_of f ns ≡ first_of g ns
first_alike f g e [] = refl
first_alike f g e (n ∷ ns) = ap (λ o. or_else o (first_of f ns)) (e n) ∙ ap (or_else (g n)) (first_alike f g e ns)

pub found_are : (d : Declared) (c : EntityNames) → AreNamesOf d c → (namespace : Name) (ns : List Name) → all_named c namespace ns ≡ found_types d namespace ns
found_are d c are namespace [] = refl
found_are d c are namespace (n ∷ ns) =
    ap (λ o. cons_option o (all_named c namespace ns)) (first_alike (name_at c) (λ m. option_map entity_name (entity_at d m)) are (places namespace n))
    ∙ ap (cons_option (entity_named d namespace n)) (found_are d c are namespace ns)
