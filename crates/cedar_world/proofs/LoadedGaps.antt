-- A text to which a gap was added is loaded as it was without.
use Rattle.std.proofs.Common.{inl, inr, ℕ, ◌++◌, List, sym, subst}
use Rattle.cedar_language.specs.Uid as uid
use Rattle.cedar_grammar.specs.Gaps.{AreReadAlike}
use Rattle.cedar_grammar.specs.Laws.{GapsChangeNoText, WhiteTextsAreGaps}
use Rattle.cedar_grammar.specs.Syntax.{PolicySyntax}
use Rattle.cedar_world.specs.World.{World}
use Rattle.cedar_grammar.specs.Functions.{policy_names}
use Rattle.cedar_world.specs.Setting.{Setting, ArePoliciesWithin, ArePolicies, PoliciesNestWithin}
use Rattle.cedar_world.specs.Commands.{Load, Refusal, Text, Depth}
use Rattle.cedar_world.specs.Refusals.{LoadStands, FirstOrDeep}
use Rattle.cedar_world.specs.LoadLaws.{GapsChangeNoLoad}

-- where what is read of one text is read of the other
module _ (by : Setting) (text spaced : uid.Text) (there : (n : ℕ) (ss : List PolicySyntax) → ArePoliciesWithin by n text ss → ArePoliciesWithin by n spaced ss) where
  read_there : (ss : List PolicySyntax) → ArePolicies by text ss → ArePolicies by spaced ss
  read_there ss (n, reads) = (n, there n ss reads)

  module _ (world : World) (ss : List PolicySyntax) (is : ArePolicies by text ss) where
    nests_there : PoliciesNestWithin by by.depth text → PoliciesNestWithin by by.depth spaced
    nests_there (inl (rs, reads)) = inl (rs, there by.depth rs reads)
    nests_there (inr none) = absurd (none.0 ss is)

    stands_back : (r : Refusal) → LoadStands by world spaced r → LoadStands by world text r
    stands_back Text none = λ rs reads. none rs (read_there rs reads)
    stands_back Depth deep = λ within. deep (nests_there within)
    stands_back r h = h

module _ (by : Setting) (text spaced : uid.Text) (alike : AreReadAlike text spaced) where
  there : (n : ℕ) (ss : List PolicySyntax) → ArePoliciesWithin by n text ss → ArePoliciesWithin by n spaced ss
  there n ss = (alike.1 (policy_names by.functions) n ss).0

  back : (n : ℕ) (ss : List PolicySyntax) → ArePoliciesWithin by n spaced ss → ArePoliciesWithin by n text ss
  back n ss = (alike.1 (policy_names by.functions) n ss).1

  refused_back : (world : World) (ss : List PolicySyntax) → ArePolicies by text ss → (r : Refusal) → FirstOrDeep by world spaced Load r → FirstOrDeep by world text Load r
  refused_back world ss is Depth deep = stands_back by text spaced there world ss is Depth deep
  refused_back world ss is r (stands, first) =
      (stands_back by text spaced there world ss is r stands, λ s below h. first s below (stands_back by spaced text back world ss (read_there by text spaced there ss is) s h))

pub gaps_change_no_load : WhiteTextsAreGaps → GapsChangeNoText → GapsChangeNoLoad
gaps_change_no_load white changes by old new text spaced ids gap step =
    let (utf8, is_gap) = white gap.gap gap.white in
    let read : AreReadAlike (gap.before ++ gap.after) (gap.before ++ (gap.gap ++ gap.after)) = changes gap.before gap.gap gap.after gap.utf8 utf8 is_gap gap.border in
    let alike : AreReadAlike text spaced = subst (λ s. AreReadAlike text s) (sym gap.is) (subst (λ s. AreReadAlike s (gap.before ++ (gap.gap ++ gap.after))) (sym gap.was) read) in
    let (ss, is, changed) = step.1 in
    (λ r refuses. step.0 r (refused_back by text spaced alike old ss is r refuses), (ss, read_there by text spaced (there by text spaced alike) ss is, changed))
