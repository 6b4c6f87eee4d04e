-- How a session that loads and asks shows its steps.
use Rattle.std.proofs.Common.{◌≡◌, inl, ℕ, suc, ◌≤◌, ◌<◌, false, true, Some, None, IsSome, List, [], ◌∷◌, length, refl, sym, ◌∙◌, ap, subst, true≢false, arith}
use Rattle.std.specs.FinMap as map
use Rattle.cedar_language.specs.Uid as uid
use Rattle.cedar_language.specs.Tree.{Tree}
use Rattle.cedar_language.specs.Height.{height}
use Rattle.cedar_grammar.specs.Syntax.{PolicySyntax}
use Rattle.cedar_world.specs.Answer.{Answer}
use Rattle.cedar_world.specs.World.{World, Policies}
use Rattle.cedar_world.specs.PolicyEdits.{HaveRoom, own_ids, Names, joined, Loads}
use Rattle.cedar_world.specs.Asking.{Question}
use Rattle.cedar_world.specs.Bodies.{is_restricted, ask_body}
use Rattle.cedar_world.specs.Setting.{Setting, ArePoliciesWithin, ArePolicies, PoliciesNestWithin, PoliciesAreOne, IsBodyWithin, IsBody, BodyNestsWithin, BodiesAreOne}
use Rattle.cedar_world.specs.Commands.{Verb, Load, Ask, Tell, Refusal, NotUtf8, Text, Depth, NotRestricted, Shape, Evaluation, BadUnknown, Memory, Named, Answered, Refused, rank}
use Rattle.cedar_world.specs.Values.{context_errs, holds_bad_unknown}
use Rattle.cedar_world.specs.Refusals.{Stands, Refuses, AskCases}
use Rattle.cedar_world.specs.Step.{Step, IsFirstAnswer, opens}
use Rattle.cedar_world.proofs.BodyCommands.{not_below, no_text, not_restricted, misshapen, stands_not}

-- ---- policies that all have room stand under their own numbers

names_own : (policies : Policies) (count i from : ℕ) (ss : List PolicySyntax) → HaveRoom policies i ss → Names policies count i from ss (own_ids i ss)
names_own policies count i from [] room = tt
names_own policies count i from (s ∷ ss) room = inl (room.0, refl, names_own policies count (suc i) from ss room.1)

pub loads_own : (policies : Policies) (ss : List PolicySyntax) → HaveRoom policies 0 ss → Loads policies ss (own_ids 0 ss) (joined policies ss (own_ids 0 ss))
loads_own policies ss room = record { names = names_own policies (length ss) 0 0 ss room; policies = refl }

-- ---- commands

module _ (by : Setting) (old : World) (text : uid.Text) where
  -- ---- want of memory, but that no question is open is seen without it

  pub lacks_memory : (verb : Verb) → (verb ≡ Tell → IsSome old.asked) → Step by old verb text (Refused Memory) old
  lacks_memory Tell open_now = (open_now refl, refl)
  lacks_memory verb open_now = (tt, refl)

  pub load_lacks_memory : Step by old Load text (Refused Memory) old
  load_lacks_memory = (tt, refl)

  pub ask_lacks_memory : Step by old Ask text (Refused Memory) old
  ask_lacks_memory = (tt, refl)

  -- ---- `load`

  -- no text of policies
  pub load_is_no_text : ((ss : List PolicySyntax) → ArePolicies by text ss → ⊥) → Step by old Load text (Refused Text) old
  load_is_no_text none = ((none, before), refl)
    where
      before : (s : Refusal) → rank s < rank Text → Stands by old text Load s → ⊥
      before Text below h = not_below 2 below
      before Depth below h = omega arith
      before s below h = h

  -- nested too deep
  pub load_is_deep : (PoliciesNestWithin by by.depth text → ⊥) → Step by old Load text (Refused Depth) old
  load_is_deep deep = (inl deep, refl)

  -- the policies stand under these ids
  pub load_stands : PoliciesAreOne by → (ss : List PolicySyntax) (ids : List uid.Text) (new : World) → ArePoliciesWithin by by.depth text ss
      → Loads old.policies ss ids new.policies → new ≡ record old { policies = new.policies; asked = None } → Step by old Load text (Named ids) new
  load_stands once ss ids new reads loads is = (λ r h. refuses r h, (ss, (by.depth, reads), (loads, is)))
    where
      stands : (r : Refusal) → Stands by old text Load r → ⊥
      stands Text h = h ss (by.depth, reads)
      stands Depth h = h (inl (ss, reads))
      stands r h = h

      refuses : (r : Refusal) → Refuses by old text Load r → ⊥
      refuses Depth h = stands Depth h
      refuses r h = stands r h.0

  -- the same, each policy under its own number
  pub load_stands_own : PoliciesAreOne by → (ss : List PolicySyntax) (new : World) → ArePoliciesWithin by by.depth text ss → HaveRoom old.policies 0 ss
      → new ≡ record old { policies = joined old.policies ss (own_ids 0 ss); asked = None } → Step by old Load text (Named (own_ids 0 ss)) new
  load_stands_own once ss new reads room is =
      let policies : new.policies ≡ joined old.policies ss (own_ids 0 ss) = ap (λ w. w.policies) is in
      load_stands once ss (own_ids 0 ss) new reads
      (subst (Loads old.policies ss (own_ids 0 ss)) (sym policies) (loads_own old.policies ss room))
      (is ∙ ap (λ p. record old { policies = p; asked = None }) (sym policies))

  -- ---- `ask`

  says_no_utf8 : (q : Question) → AskCases by old q NotUtf8 → ⊥
  says_no_utf8 q h = h

  pub ask_is_no_text : ((tree : Tree) → IsBody by text tree → ⊥) → Step by old Ask text (Refused Text) old
  ask_is_no_text none = (no_text by old text ask_body (AskCases by old) says_no_utf8 none, refl)

  pub ask_is_deep : (BodyNestsWithin by by.depth text → ⊥) → Step by old Ask text (Refused Depth) old
  ask_is_deep deep = (inl deep, refl)

  module _ (once : BodiesAreOne by) (tree : Tree) (reads : IsBodyWithin by by.depth text tree) (low : height tree ≤ by.depth) where
    pub ask_is_not_restricted : is_restricted tree ≡ false → Step by old Ask text (Refused NotRestricted) old
    ask_is_not_restricted not = (not_restricted by old text ask_body (AskCases by old) says_no_utf8 once tree reads low not, refl)

    module _ (restricted : is_restricted tree ≡ true) where
      -- no question
      pub ask_is_misshapen : ask_body tree ≡ None → Step by old Ask text (Refused Shape) old
      ask_is_misshapen none = (misshapen by old text ask_body (AskCases by old) says_no_utf8 once tree reads low restricted none, refl)

      -- a question, and its first answer
      pub ask_stands : (q : Question) (answer : Answer) (new : World) → ask_body tree ≡ Some q → context_errs by q.context map.empty ≡ false → holds_bad_unknown q.context ≡ false
          → IsFirstAnswer by old q answer → new ≡ opens old q map.empty answer → Step by old Ask text (Answered answer) new
      ask_stands q answer new asks errs_not names_well first is = (λ r h. refuses r h, (tree, q, (by.depth, reads), asks, (first, is)))
        where
          cases : (r : Refusal) → AskCases by old q r → ⊥
          cases Evaluation h = true≢false (sym h ∙ errs_not)
          cases BadUnknown h = true≢false (sym h ∙ names_well)
          cases r h = h

          stands : (r : Refusal) → Stands by old text Ask r → ⊥
          stands r h = stands_not by old text ask_body (AskCases by old) says_no_utf8 once tree reads low restricted q asks r (cases r) h

          refuses : (r : Refusal) → Refuses by old text Ask r → ⊥
          refuses Depth h = stands Depth h
          refuses r h = stands r h.0
