-- What an index of scopes covers of a set stays covered when ids are bound behind it, and more is covered in turn.
use Rattle.std.proofs.Common.{◌≡◌, ◌≢◌, ◌⊎◌, inl, inr, ℕ, suc, zero, ◌+◌, ◌<◌, ◌≤◌, true, false, List, [], ◌∷◌, ◌++◌, length, refl, sym, ap, subst}
use Rattle.std.proofs.Common.{◌∙◌, Option, None, Some, arith}
use Rattle.std.specs.List.{slice_get}
use Rattle.std.specs.Option.{ForNone, option_map}
use Rattle.std.proofs.lemmas.Option.{slice_get-map, slice_get_within}
use Rattle.std.proofs.Math.Dec.{eqb}
use Rattle.std.proofs.lemmas.Bool.Decides.{eqb_tells}
use Rattle.cedar_language.specs.Uid.{Text}
use Rattle.cedar_grammar.specs.Policy as grammar
use Rattle.cedar_grammar.specs.Bindings.{Bindings}
use Rattle.cedar_policy_parts.specs.Bindings.{unbound}
use Rattle.cedar_policies.specs.Policies.{policy_template, policy_syntax, link_of, bindings_of}
use Rattle.cedar_policies.specs.declared.policies.Policy.{Policy}
use Rattle.cedar_policies.specs.Templates.{template_id}
use Rattle.cedar_policy_set.specs.ScopeFinding.{IsFound, KeepsFound, covered}
use Rattle.cedar_policy_set.specs.declared.scope_index.index.ScopeIndex.{ScopeIndex}
use Rattle.cedar_policy_set.specs.Entries.{Entry, static_policy, template, link, Entries}
use Rattle.cedar_policy_set.specs.Bounds.{entry_by, policy_entry, entry_of, entries_of}
use Rattle.cedar_policy_set.specs.declared.bounds.BoundKind.{BoundKind}
use Rattle.cedar_policy_set.specs.Scopes.{IsEntryFound, Covers}

pub covers_nothing : (es : Entries) (x : ScopeIndex) → covered x ≡ 0 → Covers es x
covers_nothing es x none = record {
  within = omega arith;
  found = λ p e below at. absurd (let never : ⊥ = omega arith in never);
}

get_first : {A : Type 0} (xs ys : List A) (p : ℕ) → p < length xs → slice_get (xs ++ ys) p ≡ slice_get xs p
get_first [] ys p below = absurd (omega arith)
get_first (x ∷ xs) ys zero below = refl
get_first (x ∷ xs) ys (suc p) below = get_first xs ys p (omega arith)

length_more : {A : Type 0} (xs ys : List A) → length xs ≤ length (xs ++ ys)
length_more [] ys = omega arith
length_more (x ∷ xs) ys = let rest = length_more xs ys in omega arith

-- policies are bound behind what is covered
pub covers_more : (es more : Entries) (x : ScopeIndex) → Covers es x → Covers (es ++ more) x
covers_more es more x covers = record {
  within = let own = covers.within in let longer = length_more es more in omega arith;
  found = λ p e below at. covers.found p e below (sym (get_first es more p (let own = covers.within in omega arith)) ∙ at);
}

still_found : (x y : ScopeIndex) → KeepsFound x y → (p : ℕ) (e : Entry) → IsEntryFound x p e → IsEntryFound y p e
still_found x y kept p (static_policy s) found = kept p unbound s found
still_found x y kept p (template s) found = tt
still_found x y kept p (link t s b) found = kept p b s found

-- nothing more is covered
pub covers_still : (es : Entries) (x y : ScopeIndex) → Covers es x → KeepsFound x y → covered y ≡ covered x → Covers es y
covers_still es x y covers kept same = record {
  within = let own = covers.within in omega arith;
  found = λ p e below at. still_found x y kept p e.1 (covers.found p e (omega arith) at);
}

-- the next position is covered
pub covers_next : (es : Entries) (x y : ScopeIndex) (e : Text × Entry) → Covers es x → KeepsFound x y → covered y ≡ covered x + 1
    → slice_get es (covered x) ≡ Some e → IsEntryFound y (covered x) e.1 → covered x < length es → Covers es y
covers_next es x y e covers kept more here found within = record {
  within = omega arith;
  found = λ p f below at. by p f at (last p (omega arith) (eqb_tells p (covered x)));
}
  where
    last : (p : ℕ) → p < covered x + 1 → ((eqb p (covered x) ≡ true) × (p ≡ covered x)) ⊎ ((eqb p (covered x) ≡ false) × (p ≢ covered x))
        → (p < covered x) ⊎ (p ≡ covered x)
    last p below (inl is) = inr is.1
    last p below (inr not) = let apart = not.1 in inl (omega arith)

    by : (p : ℕ) (f : Text × Entry) → slice_get es p ≡ Some f → (p < covered x) ⊎ (p ≡ covered x) → IsEntryFound y p f.1
    by p f at (inl before) = still_found x y kept p f.1 (covers.found p f before at)
    by p f at (inr is) =
        let one : Some e ≡ Some f = sym here ∙ ap (slice_get es) (sym is) ∙ at in
        let same : e.1 ≡ f.1 = cc in
        subst (λ q. IsEntryFound y q f.1) (sym is) (subst (λ g. IsEntryFound y (covered x) g) same found)

-- the next position of the map is covered
pub covers_entry : (es : List (Text × BoundKind)) (x y : ScopeIndex) (id : Text) (b : BoundKind) → Covers (entries_of es) x → KeepsFound x y
    → covered y ≡ covered x + 1 → slice_get es (covered x) ≡ Some (id, b) → IsEntryFound y (covered x) (entry_of b) → Covers (entries_of es) y
covers_entry es x y id b covers kept more at found =
    let here : slice_get (entries_of es) (covered x) ≡ Some (id, entry_of b) = slice_get-map (λ e. (e.0, entry_of e.1)) es (covered x)
    ∙ ap (option_map (λ e. (e.0, entry_of e.1))) at in
    covers_next (entries_of es) x y (id, entry_of b) covers kept more here found (slice_get_within (entries_of es) (covered x) (id, entry_of b) here)

-- ---- a policy as an entry

entered : (x : ScopeIndex) (n : ℕ) (o : Option Text) (t : Text) (s : grammar.Policy) (b : Bindings) → ForNone o (b ≡ unbound) → IsFound x n b s
    → IsEntryFound x n (entry_by o t s b)
entered x n None t s b own found = subst (λ a. IsFound x n a s) (own refl) found
entered x n (Some id) t s b own found = found

-- a policy that is found by its entities and its syntax is found as an entry
pub found_entered : (x : ScopeIndex) (n : ℕ) (p : Policy) → IsFound x n (bindings_of p) (policy_syntax p) → IsEntryFound x n (policy_entry p)
found_entered x n p found = entered x n (link_of p) (template_id (policy_template p)) (policy_syntax p) (bindings_of p) (λ e. (p.own e).1) found
