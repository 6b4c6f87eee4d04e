-- What policies that were given one after the other say of their text.
use Rattle.std.proofs.Common.{◌≡◌, ℕ, ◌-◌, true, false, List, [], ◌∷◌, ◌++◌, Result, Ok, Err, refl, sym, ap, ◌∙◌, subst, arith}
use Rattle.cedar_language.specs.Uid.{Text}
use Rattle.cedar_grammar.specs.Token.{Token}
use Rattle.cedar_grammar.specs.LooseLaws.{PoliciesStay, PoliciesNest, OpenersHavePlaces}
use Rattle.cedar_grammar.specs.Loose as loose
use Rattle.cedar_grammar.specs.Steps.{is_more}
use Rattle.cedar_grammar.specs.LooseReading.{◌>>◌, mapped, whole, each_of, policy_of, read_policies}
use Rattle.cedar_loose.specs.declared.error.ReadError.{ReadError}
use Rattle.cedar_loose.specs.declared.policy_reader.PolicyReader.{PolicyReader}
use Rattle.cedar_loose.specs.Gives.{Fails}
use Rattle.cedar_loose.specs.Readers.{HasGiven}
use Rattle.cedar_loose.specs.Steps.{ended}
use Rattle.cedar_loose.specs.Texts.{IsRead, IsRefused, stop_cause}
use Rattle.cedar_loose.proofs.Cases.{fails_as}
use Rattle.cedar_loose.proofs.Fewer.{policy_fewer}
use Rattle.cedar_loose.proofs.Limits.{all_read, is_refused, policies_within}
use Rattle.cedar_loose.proofs.Loops.{each_done, each_fail, each_more, first_fails, mapped_fails}

none_left : (ts : List Token) → false ≡ is_more ts → (ended ts ≡ Ok [])
none_left [] end = refl
none_left (t ∷ ts) end = absurd (cc end)

module _ (depth : ℕ) (text : Text) (given : List loose.Policy) (reader : PolicyReader) (has : HasGiven reader depth text given) where
  some : depth ≡ 0 → ⊥
  some none = let positive = reader.some in let same = has.within in omega (arith, positive, same, none)

  -- at the end of the text they are all
  pub all_given : false ≡ is_more reader.cursor → IsRead read_policies depth text (loose.policies given)
  all_given end =
      let all = each_of is_more (policy_of (depth - 1)) has.tokens in
      let done : all ≡ Ok (given, reader.cursor) = each_done is_more (policy_of (depth - 1)) given reader.cursor all has.left end in
      (has.tokens, has.are, policies_within depth some has.tokens ∙ all_read (mapped loose.policies all) (loose.policies given) reader.cursor (ap (mapped loose.policies) done) (none_left reader.cursor end))

  module _ (more : true ≡ is_more reader.cursor) where
    pub one_more : (p : loose.Policy) (next : PolicyReader) → next.depth ≡ reader.depth → policy_of (reader.depth - 1) reader.cursor ≡ Ok (p, next.cursor) → HasGiven next depth text (given ++ p ∷ [])
    one_more p next still read =
        let here : policy_of (depth - 1) reader.cursor ≡ Ok (p, next.cursor) = ap (λ n. policy_of (n - 1) reader.cursor) (sym has.within) ∙ read in
        record {
          tokens = has.tokens;
          are = has.are;
          within = still ∙ has.within;
          left = each_more is_more (policy_of (depth - 1)) given reader.cursor (each_of is_more (policy_of (depth - 1)) has.tokens) more p next.cursor here (policy_fewer (depth - 1) reader.cursor p next.cursor here) has.left;
        }

    -- what keeps one from being read keeps the text from being read
    pub none_more : PoliciesStay → PoliciesNest → OpenersHavePlaces → (e : ReadError) → Fails e (policy_of (reader.depth - 1) reader.cursor) → IsRefused read_policies depth text (stop_cause e)
    none_more stay nest places e fails =
        let all = each_of is_more (policy_of (depth - 1)) has.tokens in
        let here : Fails e (policy_of (depth - 1) reader.cursor) = subst (λ n. Fails e (policy_of (n - 1) reader.cursor)) has.within fails in
        let each : Fails e all = each_fail is_more (policy_of (depth - 1)) given reader.cursor all more e has.left here in
        let fail : Fails e (read_policies depth has.tokens) = fails_as e (read_policies depth has.tokens) (mapped loose.policies all >> whole) (policies_within depth some has.tokens) (first_fails e (mapped loose.policies all) whole (mapped_fails e all loose.policies each)) in
        let failed : Result loose.Policies ReadError = Err e in
        is_refused read_policies text has.tokens has.are depth stay nest (places text has.tokens has.are) (λ x. x) failed fail
