-- An action applies to what is listed of it.
use Rattle.std.proofs.Common.{◌≡◌, ◌⊎◌, inl, inr, Bool, true, false, List, [], ◌∷◌, ◌++◌, refl, sym, ap, ◌∙◌, subst}
use Rattle.std.specs.Prelude.{map, is_some}
use Rattle.std.specs.List.{find, list_any}
use Rattle.cedar_language.specs.Uid.{Name, Uid}
use Rattle.cedar_language.specs.Order.{same_text, same_name, same_uid}
use Rattle.cedar_language.proofs.Booleans.{or_cases, or_left, or_right, and_left, and_right, and_both}
use Rattle.cedar_typing.proofs.Sameness.{name_is, uid_is, text_same, name_same}
use Rattle.cedar_typing.specs.Schema.{IsEnvironment}
use Rattle.cedar_schema_grammar.specs.Declared.{Action, Declared, action_uid, action_at}
use Rattle.cedar_schema_grammar.specs.Faults.{principals_of, resources_of}
use Rattle.cedar_schema_grammar.specs.Resolving.{found_types, namespace_of, entries_of, is_named, schema_of}
use Rattle.cedar_schema_grammar.specs.Environments.{Application, application, pairs, all_named, principal_types, resource_types, applications_of, application_of, EnvironmentsAreListed}
use Rattle.cedar_schema_grammar.specs.Reaching.{IsAmong}
use Rattle.cedar_schema_grammar.proofs.Reaching.{among_front, among_back, found_among}
use Rattle.cedar_schema_grammar.proofs.Unfolding.{among_any}
use Rattle.cedar_schema_grammar.proofs.Whole.{of_map}

-- ---- lists

among_either : {K : Type 0} (x : K) (ks js : List K) → IsAmong x (ks ++ js) → IsAmong x ks ⊎ IsAmong x js
among_either x [] js m = inr m
among_either x (k ∷ ks) js (inl e) = inl (inl e)
among_either x (k ∷ ks) js (inr m) = more (among_either x ks js m)
  where
    more : IsAmong x ks ⊎ IsAmong x js → IsAmong x (k ∷ ks) ⊎ IsAmong x js
    more (inl n) = inl (inr n)
    more (inr n) = inr n

any_among_names : (n : Name) (ks : List Name) → list_any (same_name n) ks ≡ true → IsAmong n ks
any_among_names n [] e = absurd (cc e)
any_among_names n (k ∷ ks) e = by (or_cases (same_name n k) (list_any (same_name n) ks) e) (any_among_names n ks)
  where
    by : (same_name n k ≡ true) ⊎ (list_any (same_name n) ks ≡ true) → (list_any (same_name n) ks ≡ true → IsAmong n ks) → IsAmong n (k ∷ ks)
    by (inl f) ih = inl (name_is n k f)
    by (inr f) ih = inr (ih f)

map_among : {A K : Type 0} (key : A → K) (xs : List A) (x : A) → IsAmong x xs → IsAmong (key x) (map key xs)
map_among key [] x m = absurd m
map_among key (y ∷ ys) x (inl e) = inl (ap key e)
map_among key (y ∷ ys) x (inr m) = inr (map_among key ys x m)

-- ---- what is named

named_is_among : (d : Declared) (namespace : Name) (nss : List (List Name)) (n : Name) → is_named d namespace nss n ≡ true → IsAmong n (all_named d namespace nss)
named_is_among d namespace [] n e = absurd (cc e)
named_is_among d namespace (ns ∷ nss) n e = by (or_cases (list_any (same_name n) (found_types d namespace ns)) (is_named d namespace nss n) e) (named_is_among d namespace nss n)
  where
    by : (list_any (same_name n) (found_types d namespace ns) ≡ true) ⊎ (is_named d namespace nss n ≡ true) → (is_named d namespace nss n ≡ true → IsAmong n (all_named d namespace nss)) →
        IsAmong n (found_types d namespace ns ++ all_named d namespace nss)
    by (inl f) ih = among_front n (found_types d namespace ns) (all_named d namespace nss) (any_among_names n (found_types d namespace ns) f)
    by (inr f) ih = among_back n (found_types d namespace ns) (all_named d namespace nss) (ih f)

among_is_named : (d : Declared) (namespace : Name) (nss : List (List Name)) (n : Name) → IsAmong n (all_named d namespace nss) → is_named d namespace nss n ≡ true
among_is_named d namespace [] n m = absurd m
among_is_named d namespace (ns ∷ nss) n m = by (among_either n (found_types d namespace ns) (all_named d namespace nss) m) (among_is_named d namespace nss n)
  where
    by : IsAmong n (found_types d namespace ns) ⊎ IsAmong n (all_named d namespace nss) → (IsAmong n (all_named d namespace nss) → is_named d namespace nss n ≡ true) → is_named d namespace (ns ∷ nss) n ≡ true
    by (inl f) ih = or_left (list_any (same_name n) (found_types d namespace ns)) (is_named d namespace nss n) (among_any n (found_types d namespace ns) f)
    by (inr f) ih = or_right (list_any (same_name n) (found_types d namespace ns)) (is_named d namespace nss n) (ih f)

-- ---- pairs

pair_among : (u : Uid) (n m : Name) (ns ms : List Name) → IsAmong n ns → IsAmong m ms → IsAmong (application u n m) (pairs u ns ms)
pair_among u n m [] ms i j = absurd i
pair_among u n m (k ∷ ns) ms (inl e) j =
    among_front _ (map (application u k) ms) (pairs u ns ms)
    (subst (λ x. IsAmong (application u x m) (map (application u k) ms)) (sym e) (map_among (application u k) ms m j))
pair_among u n m (k ∷ ns) ms (inr i) j = among_back _ (map (application u k) ms) (pairs u ns ms) (pair_among u n m ns ms i j)

record IsPair (u : Uid) (x : Application) (ns ms : List Name) : Type 0 where
  pub action : x.action ≡ u
  pub principal : IsAmong x.principal ns
  pub resource : IsAmong x.resource ms

among_pairs : (u : Uid) (x : Application) (ns ms : List Name) → IsAmong x (pairs u ns ms) → IsPair u x ns ms
among_pairs u x [] ms i = absurd i
among_pairs u x (k ∷ ns) ms i = by (among_either x (map (application u k) ms) (pairs u ns ms) i) (among_pairs u x ns ms)
  where
    by : IsAmong x (map (application u k) ms) ⊎ IsAmong x (pairs u ns ms) → (IsAmong x (pairs u ns ms) → IsPair u x ns ms) → IsPair u x (k ∷ ns) ms
    by (inl f) ih =
        let r = of_map (application u k) ms x f in
        record {
          action = ap (λ (y : Application). y.action) r.2;
          principal = inl (ap (λ (y : Application). y.principal) r.2);
          resource = subst (λ y. IsAmong y ms) (sym (ap (λ (y : Application). y.resource) r.2)) r.1;
        }
    by (inr f) ih = let p = ih f in record { action = p.action; principal = inr p.principal; resource = p.resource }

-- ---- actions

module _ (d : Declared) where
  among_actions : (x : Application) (as_ : List Action) → IsAmong x.action (map action_uid as_) → IsAmong x.principal (principal_types d x.action) → IsAmong x.resource (resource_types d x.action) → IsAmong x (applications_of d as_)
  among_actions x [] m n o = absurd m
  among_actions x (a ∷ as_) (inl e) n o =
      among_front x (pairs (action_uid a) (principal_types d (action_uid a)) (resource_types d (action_uid a))) (applications_of d as_)
      (subst (λ u. IsAmong x (pairs u (principal_types d u) (resource_types d u))) e (pair_among x.action x.principal x.resource (principal_types d x.action) (resource_types d x.action) n o))
  among_actions x (a ∷ as_) (inr m) n o =
      among_back x (pairs (action_uid a) (principal_types d (action_uid a)) (resource_types d (action_uid a))) (applications_of d as_) (among_actions x as_ m n o)

  record Applies (x : Application) (as_ : List Action) : Type 0 where
    pub action : IsAmong x.action (map action_uid as_)
    pub principal : IsAmong x.principal (principal_types d x.action)
    pub resource : IsAmong x.resource (resource_types d x.action)

  of_actions : (x : Application) (as_ : List Action) → IsAmong x (applications_of d as_) → Applies x as_
  of_actions x [] m = absurd m
  of_actions x (a ∷ as_) m = by (among_either x (pairs (action_uid a) (principal_types d (action_uid a)) (resource_types d (action_uid a))) (applications_of d as_) m) (of_actions x as_)
    where
      by : IsAmong x (pairs (action_uid a) (principal_types d (action_uid a)) (resource_types d (action_uid a))) ⊎ IsAmong x (applications_of d as_) → (IsAmong x (applications_of d as_) → Applies x as_) → Applies x (a ∷ as_)
      by (inl f) ih =
          let p = among_pairs (action_uid a) x (principal_types d (action_uid a)) (resource_types d (action_uid a)) f in
          record {
            action = inl p.action;
            principal = subst (λ u. IsAmong x.principal (principal_types d u)) (sym p.action) p.principal;
            resource = subst (λ u. IsAmong x.resource (resource_types d u)) (sym p.action) p.resource;
          }
      by (inr f) ih = let r = ih f in record { action = inr r.action; principal = r.principal; resource = r.resource }

-- a declared action is found
uid_same : (u : Uid) → same_uid u u ≡ true
uid_same u = and_both (same_name u.type_name u.type_name) (same_text u.id u.id) (name_same u.type_name) (text_same u.id)

found_where_among : (as_ : List Action) (u : Uid) → IsAmong u (map action_uid as_) → is_some (find (λ a. same_uid (action_uid a) u) as_) ≡ true
found_where_among [] u m = absurd m
found_where_among (a ∷ as_) u m = by (same_uid (action_uid a) u) refl m (found_where_among as_ u)
  where
    by : (b : Bool) → same_uid (action_uid a) u ≡ b → (u ≡ action_uid a) ⊎ IsAmong u (map action_uid as_) → (IsAmong u (map action_uid as_) → is_some (find (λ x. same_uid (action_uid x) u) as_) ≡ true) → is_some (find (λ x. same_uid (action_uid x) u) (a ∷ as_)) ≡ true
    by true f n ih = rw (f, find) refl
    by false f (inl e) ih = absurd (cc (sym f ∙ subst (λ x. same_uid (action_uid a) x ≡ true) (sym e) (uid_same (action_uid a))))
    by false f (inr n) ih = rw (f, find) (ih n)

pub environments_are_listed : EnvironmentsAreListed
environments_are_listed l d may e of slots = (listed, environment)
  where
    listed : IsEnvironment (schema_of l d) may e → IsAmong (application_of e) (applications_of d d.actions)
    listed i =
        let namespace = namespace_of (action_at d e.action) in
        let entries = entries_of (action_at d e.action) in
        among_actions d (application_of e) d.actions (found_among action_uid same_uid uid_is d.actions e.action i.is_action) (named_is_among d namespace (principals_of entries) e.principal (and_left (is_named d namespace (principals_of entries) e.principal) (is_named d namespace (resources_of entries) e.resource) i.applies)) (named_is_among d namespace (resources_of entries) e.resource (and_right (is_named d namespace (principals_of entries) e.principal) (is_named d namespace (resources_of entries) e.resource) i.applies))

    environment : IsAmong (application_of e) (applications_of d d.actions) → IsEnvironment (schema_of l d) may e
    environment m =
        let r = of_actions d (application_of e) d.actions m in
        record {
          of = of;
          is_action = found_where_among d.actions e.action r.action;
          applies = and_both (is_named d (namespace_of (action_at d e.action)) (principals_of (entries_of (action_at d e.action))) e.principal) (is_named d (namespace_of (action_at d e.action)) (resources_of (entries_of (action_at d e.action))) e.resource) (among_is_named d (namespace_of (action_at d e.action)) (principals_of (entries_of (action_at d e.action))) e.principal r.principal) (among_is_named d (namespace_of (action_at d e.action)) (resources_of (entries_of (action_at d e.action))) e.resource r.resource);
          slots = slots;
        }
