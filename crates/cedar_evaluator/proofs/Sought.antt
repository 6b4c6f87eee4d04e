-- What is found at an id.
use Rattle.std.proofs.Common.{◌≡◌, Bool, true, false, cond, Option, Some, None, List, [], ◌∷◌, ◌++◌, map, refl, sym, subst, ◌∙◌, ap}
use Rattle.std.specs.Prelude.{option_map}
use Rattle.std.specs.Map.{lookup}
use Rattle.std.specs.Option.{option_or}
use Rattle.cedar_language.specs.Order.{same_text}
use Rattle.cedar_language.specs.Uid.{Text}
use Rattle.cedar_policies.specs.declared.policies.Policy.{Policy}
use Rattle.cedar_policy_set.specs.Bounds.{policy_seen, policy_entry}
use Rattle.cedar_policy_set.specs.Entries.{Entry, Entries}
use Rattle.cedar_evaluator.specs.Residuals.{IsFound}

-- ---- lists

one_seen : {V : Type 0} (seen : V → Entry) (v : V) (rest : Option V) (b : Bool) (found : Option Entry) → found ≡ option_map seen rest → cond b (Some (seen v)) found ≡ option_map seen (cond b (Some v) rest)
one_seen seen v rest true found is = refl
one_seen seen v rest false found is = is

seen_there : {V : Type 0} (test : Text → Bool) (seen : V → Entry) (es : List (Text × V)) → lookup test (map (λ (e : Text × V). (e.0, seen e.1)) es) ≡ option_map seen (lookup test es)
seen_there test seen [] = refl
seen_there test seen (e ∷ es) = one_seen seen e.1 (lookup test es) (test e.0) _ (seen_there test seen es)

one_of_two : (here there behind : Option Entry) (e : Entry) (b : Bool) → there ≡ option_or here behind → cond b (Some e) there ≡ option_or (cond b (Some e) here) behind
one_of_two here there behind e true is = refl
one_of_two here there behind e false is = is

-- what isn't there is looked for behind
of_two : (test : Text → Bool) (first behind : Entries) → lookup test (first ++ behind) ≡ option_or (lookup test first) (lookup test behind)
of_two test [] behind = refl
of_two test (e ∷ first) behind = one_of_two (lookup test first) (lookup test (first ++ behind)) (lookup test behind) e.1 (test e.0) (of_two test first behind)

module _ (id : Text) where
  -- ---- a group

  module _ {V : Type 0} (seen : V → Entry) (es : List (Text × V)) where
    pub none_found : None ≡ lookup (same_text id) es → IsFound id (lookup (same_text id) (map (λ (e : Text × V). (e.0, seen e.1)) es)) None
    none_found none = record { entry = ap (option_map seen) none ∙ sym (seen_there (same_text id) seen es); named = tt }

    pub one_found : (v : V) (policy : Policy) → Some v ≡ lookup (same_text id) es → policy_seen policy ≡ (id, seen v) → IsFound id (lookup (same_text id) (map (λ (e : Text × V). (e.0, seen e.1)) es)) (Some policy)
    one_found v policy there is = record {
      entry = ap (λ (p : Text × Entry). Some p.1) is ∙ ap (option_map seen) there ∙ sym (seen_there (same_text id) seen es);
      named = ap (λ (p : Text × Entry). p.0) is;
    }

  -- ---- two lists

  module _ (first behind : Entries) where
    pub found_first : (policy : Policy) (o : Option Policy) → o ≡ Some policy → IsFound id (lookup (same_text id) first) o → IsFound id (lookup (same_text id) (first ++ behind)) (Some policy)
    found_first policy o is found =
        let there : Some (policy_entry policy) ≡ lookup (same_text id) first = sym (ap (option_map policy_entry) is) ∙ found.entry in
        record {
          entry = ap (λ x. option_or x (lookup (same_text id) behind)) there ∙ sym (of_two (same_text id) first behind);
          named = (subst (λ p. IsFound id (lookup (same_text id) first) p) is found).named;
        }

    pub found_behind : (found o : Option Policy) → o ≡ None → IsFound id (lookup (same_text id) first) o → IsFound id (lookup (same_text id) behind) found → IsFound id (lookup (same_text id) (first ++ behind)) found
    found_behind found o is none behind_is =
        let not_there : None ≡ lookup (same_text id) first = sym (ap (option_map policy_entry) is) ∙ none.entry in
        record {
          entry = behind_is.entry ∙ ap (λ x. option_or x (lookup (same_text id) behind)) not_there ∙ sym (of_two (same_text id) first behind);
          named = behind_is.named;
        }
