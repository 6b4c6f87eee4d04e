-- What is said of policies that stand in two ways, by their ids.
use Rattle.std.proofs.Common.{◌≡◌, true, inl, inr, Bool, List, [], ◌∷◌, map, sym, ◌∙◌, ap, subst}
use Rattle.cedar_language.specs.Answering.{Judged, At, at_first, at_later, in_must, in_may, is_reason, HasId, HasErred, ErringStay, IsFair, IsAsSharp, IsExact}
use Rattle.cedar_language.specs.Uid.{Text}
use Rattle.cedar_language.specs.Value.{Kind}
use Rattle.cedar_evaluator.specs.Questions.{TellsError, IsFairOf, IsAsSharpAs, IsExactOf}
use Rattle.cedar_evaluator.specs.Responses.{Holding, judged_held}
use Rattle.cedar_evaluator.proofs.Counted.{CountAlike, same_decision, must_pass, must_pass_back, may_pass, may_pass_back, id_passes, passes_id}
use Rattle.cedar_evaluator.proofs.Lists.{IsAmong, contained, contains, mapped, unmapped}

module _ {X : Type 0} (f g : X → Judged) (named : (x : X) → (f x).id ≡ (g x).id) where
  paired : (xs : List X) (x : X) → IsAmong x xs → At (map f xs) (map g xs) (f x) (g x)
  paired [] x a = absurd a
  paired (y ∷ xs) x (inl e) = subst (λ (z : X). At (map f (y ∷ xs)) (map g (y ∷ xs)) (f z) (g z)) e at_first
  paired (y ∷ xs) x (inr a) = at_later (paired xs x a)

  module _ (xs : List X) where
    pass_along : (s t : Judged → Bool) → ((p q : Judged) → At (map f xs) (map g xs) p q → s p ≡ true → t q ≡ true) → (id : Text) → HasId (map f xs) s id → HasId (map g xs) t id
    pass_along s t passes id (j, c, is, p) =
        let (x, among, same) = unmapped f xs j (contained (map f xs) j c) in
        (g x, contains (map g xs) (g x) (mapped g xs x among), sym (named x) ∙ ap (λ (j : Judged). j.id) same ∙ is, passes (f x) (g x) (paired xs x among) (ap s same ∙ p))

    pass_back : (s t : Judged → Bool) → ((p q : Judged) → At (map f xs) (map g xs) p q → t q ≡ true → s p ≡ true) → (id : Text) → HasId (map g xs) t id → HasId (map f xs) s id
    pass_back s t passes id (j, c, is, p) =
        let (x, among, same) = unmapped g xs j (contained (map g xs) j c) in
        (f x, contains (map f xs) (f x) (mapped f xs x among), named x ∙ ap (λ (j : Judged). j.id) same ∙ is, passes (f x) (g x) (paired xs x among) (ap t same ∙ p))

    pub erring_along : ErringStay (map f xs) (map g xs) → (id : Text) (k : Kind) → HasErred (map f xs) id k → (l : Kind) × HasErred (map g xs) id l
    erring_along stay id k (j, c, is, e) =
        let (x, among, same) = unmapped f xs j (contained (map f xs) j c) in
        let (l, errs) = stay (f x) (g x) (paired xs x among) k (ap (λ (j : Judged). j.standing) same ∙ e) in
        (l, (g x, contains (map g xs) (g x) (mapped g xs x among), sym (named x) ∙ ap (λ (j : Judged). j.id) same ∙ is, errs))

-- a response in which the policies stand in the first way
module _ {X : Type 0} (f g : X → Judged) (named : (x : X) → (f x).id ≡ (g x).id) (xs : List X) (h : Holding) (alike : CountAlike (judged_held h) (map f xs)) where
  abbrev held : List Judged
  held = judged_held h

  abbrev first : List Judged
  first = map f xs

  abbrev second : List Judged
  second = map g xs

  pub fair_of : ((id : Text) (k : Kind) → TellsError h id k → HasErred first id k) → IsFair first second → IsFairOf h second
  fair_of tells fair = record {
    decides = λ d e. fair.decides d (sym (same_decision held first alike) ∙ e);
    must = λ id c. pass_along f g named xs (in_must first) (is_reason second) fair.must id (must_pass held first alike id (id_passes (in_must held) held id c));
    may = λ id c. passes_id (in_may held) held id (may_pass_back held first alike id (pass_back f g named xs (in_may first) (is_reason second) fair.may id c));
    erring = λ id k t. erring_along f g named xs fair.erring id k (tells id k t);
  }

  pub sharp_of : IsAsSharp second first → IsAsSharpAs h second
  sharp_of sharp = record {
    decides = λ d e. same_decision held first alike ∙ sharp.decides d e;
    must = λ id c. passes_id (in_must held) held id (must_pass_back held first alike id (pass_along g f (λ x. sym (named x)) xs (in_must second) (in_must first) sharp.must id c));
    may = λ id c. pass_back g f (λ x. sym (named x)) xs (in_may second) (in_may first) sharp.may id (may_pass held first alike id (id_passes (in_may held) held id c));
  }

  pub exact_of : IsExact first second → IsExactOf h second
  exact_of exact = record {
    decides = same_decision held first alike ∙ exact.decides;
    must = λ id. (
      λ c. pass_along f g named xs (in_must first) (is_reason second) (λ p q at h. sym (exact.must p q at) ∙ h) id (must_pass held first alike id (id_passes (in_must held) held id c)),
      λ c. passes_id (in_must held) held id (must_pass_back held first alike id (pass_back f g named xs (in_must first) (is_reason second) (λ p q at h. exact.must p q at ∙ h) id c)),
    );
    may = λ id. (
      λ c. pass_along f g named xs (in_may first) (is_reason second) (λ p q at h. sym (exact.may p q at) ∙ h) id (may_pass held first alike id (id_passes (in_may held) held id c)),
      λ c. passes_id (in_may held) held id (may_pass_back held first alike id (pass_back f g named xs (in_may first) (is_reason second) (λ p q at h. exact.may p q at ∙ h) id c)),
    );
  }
