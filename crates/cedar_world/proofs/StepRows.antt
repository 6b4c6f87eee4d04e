-- The worked rows of whole commands.
use Rattle.std.proofs.Common.{◌≡◌, inl, inr, Some, None, List, [], ◌∷◌, ◌++◌, IsUtf8, refl, sym, ◌∙◌, ap, subst, codes, arith}
use Rattle.std.specs.Str.{chars}
use Rattle.std.specs.FinMap as map
use Rattle.std.specs.Fmt.{digits}
use Rattle.cedar_language.specs.Tree.{MakeSet, MakeRecord, Apply, no_trees}
use Rattle.cedar_grammar.specs.Token.{Token, word, mark, Permit, Principal, Action, Resource, LeftParen, RightParen, LeftBracket, RightBracket, LeftBrace, RightBrace, Comma, Semicolon}
use Rattle.cedar_grammar.specs.Tokens as tokens
use Rattle.cedar_grammar.specs.Tokens.{tokens_of}
use Rattle.cedar_grammar.specs.Names.{Names}
use Rattle.cedar_grammar.specs.Steps as steps
use Rattle.cedar_grammar.specs.LooseReading as loose
use Rattle.cedar_grammar.specs.LooseReading.{read_expr, read_policies}
use Rattle.cedar_grammar.specs.Converting as converting
use Rattle.cedar_grammar.specs.Converting.{converted, free_tree, policies_syntax}
use Rattle.cedar_grammar.specs.Laws.{ReadsTokens, OneList, OneExpr, OnePolicies}
use Rattle.cedar_grammar.specs.LooseLaws.{ExprsConvert, PoliciesConvert}
use Rattle.cedar_world.specs.Orders.{text_cmp}
use Rattle.cedar_grammar.specs.Syntax.{PolicySyntax, numbered}
use Rattle.cedar_grammar.specs.Functions.{Functions, policy_names, body_names}
use Rattle.cedar_world.specs.World.{new_world}
use Rattle.cedar_world.specs.PolicyEdits.{own_ids, joined}
use Rattle.cedar_world.specs.Setting.{Setting, ArePoliciesWithin, ArePolicies, IsBodyWithin}
use Rattle.cedar_frames.specs.Frames.{IsHeadLine, IsFrame}
use Rattle.cedar_world.specs.Commands.{Load, Ask, Named, Answered}
use Rattle.cedar_world.specs.Lines.{line_of}
use Rattle.cedar_world.specs.Lookups.{NamesOrdinaryErrors}
use Rattle.cedar_world.specs.RunText.{Clean, RunText, Start, Turn}
use Rattle.cedar_world.specs.Step.{Step, opens}
use Rattle.cedar_world.specs.Rows.{for_all, allowed}
use Rattle.cedar_world.specs.StepRows.{all_missing, denied, one_policy, StepRows}
use Rattle.cedar_world.proofs.Parts.{not_none}
use Rattle.cedar_world.proofs.PolicyRows.{byte_rows}
use Rattle.cedar_world.proofs.Readings.{reads_once, policies_once}
use Rattle.cedar_world.proofs.LoadAndAsk.{load_is_no_text, load_stands_own, ask_is_misshapen, ask_stands}
use Rattle.cedar_world.proofs.FirstAnswers.{nothing_denies, all_are_allowed}

-- ---- texts

braces : List Token
braces = mark LeftBrace ∷ mark RightBrace ∷ []

braces_are : tokens_of (chars (codes "{}")) ≡ Some braces
unfolding braces chars tokens_of tokens.tokens_at tokens.after_blank tokens.token_read tokens.run_of tokens.inside_of
braces_are = refl

braces_read : (names : Names) → converted (free_tree names) (read_expr 256 braces) ≡ Some (Apply (MakeRecord []) no_trees)
unfolding braces steps.signs_of loose.name_at loose.name_of loose.literal_of loose.ref_init_of loose.ref_rest loose.ref_of loose.named_of loose.rec_init_of loose.primary_of loose.access_of loose.member_of loose.unary_of loose.mult_of loose.add_of loose.relation_of loose.and_of loose.or_of loose.choice_of loose.expr_of loose.expr_at loose.each_at loose.each_of loose.items_at loose.items_of loose.chain_at loose.links_of loose.chain_of converting.expr_tree converting.or_tree converting.ands_tree converting.and_tree converting.relations_tree converting.relation_tree converting.adds_tree converting.add_tree converting.mults_tree converting.mult_tree converting.unaries_tree converting.unary_tree converting.member_tree converting.accesses_tree converting.access_head converting.primary_head converting.exprs_trees converting.rec_inits_trees converting.rec_init_tree
braces_read names = refl

brackets : List Token
brackets = mark LeftBracket ∷ mark RightBracket ∷ []

brackets_are : tokens_of (chars (codes "[]")) ≡ Some brackets
unfolding brackets chars tokens_of tokens.tokens_at tokens.after_blank tokens.token_read tokens.run_of tokens.inside_of
brackets_are = refl

brackets_read : (names : Names) → converted (free_tree names) (read_expr 256 brackets) ≡ Some (Apply MakeSet no_trees)
unfolding brackets steps.signs_of loose.name_at loose.name_of loose.literal_of loose.ref_init_of loose.ref_rest loose.ref_of loose.named_of loose.rec_init_of loose.primary_of loose.access_of loose.member_of loose.unary_of loose.mult_of loose.add_of loose.relation_of loose.and_of loose.or_of loose.choice_of loose.expr_of loose.expr_at loose.each_at loose.each_of loose.items_at loose.items_of loose.chain_at loose.links_of loose.chain_of converting.expr_tree converting.or_tree converting.ands_tree converting.and_tree converting.relations_tree converting.relation_tree converting.adds_tree converting.add_tree converting.mults_tree converting.mult_tree converting.unaries_tree converting.unary_tree converting.member_tree converting.accesses_tree converting.access_head converting.primary_head converting.exprs_trees converting.rec_inits_trees converting.rec_init_tree
brackets_read names = refl

quote_is_none : tokens_of (chars (codes "\"")) ≡ None
unfolding chars tokens_of tokens.tokens_at tokens.after_blank tokens.token_read tokens.run_of tokens.inside_of
quote_is_none = refl

permit_for_all : List Token
permit_for_all = word Permit ∷ mark LeftParen ∷ word Principal ∷ mark Comma ∷ word Action ∷ mark Comma ∷ word Resource ∷ mark RightParen ∷ mark Semicolon ∷ []

permit_is : tokens_of (chars (codes "permit(principal, action, resource);")) ≡ Some permit_for_all
unfolding permit_for_all chars tokens_of tokens.tokens_at tokens.after_blank tokens.token_read tokens.run_of tokens.inside_of
permit_is = refl

permit_read : (names : Names) → converted (policies_syntax names) (read_policies 256 permit_for_all) ≡ Some (for_all ∷ [])
unfolding permit_for_all steps.signs_of loose.name_at loose.name_of loose.literal_of loose.ref_init_of loose.ref_rest loose.ref_of loose.named_of loose.rec_init_of loose.primary_of loose.access_of loose.member_of loose.unary_of loose.mult_of loose.add_of loose.relation_of loose.and_of loose.or_of loose.choice_of loose.expr_of loose.expr_at loose.each_at loose.each_of loose.items_at loose.items_of loose.chain_at loose.links_of loose.chain_of converting.expr_tree converting.or_tree converting.ands_tree converting.and_tree converting.relations_tree converting.relation_tree converting.adds_tree converting.add_tree converting.mults_tree converting.mult_tree converting.unaries_tree converting.unary_tree converting.member_tree converting.accesses_tree converting.access_head converting.primary_head converting.exprs_trees converting.rec_inits_trees converting.rec_init_tree loose.annotation_of loose.variable_def_of loose.cond_of loose.policy_of loose.policy_at loose.policies_at converting.inside_parens converting.opened converting.policy_syntax converting.policies_syntax
permit_read names = refl

-- ---- steps

own_number : own_ids 0 (for_all ∷ []) ≡ codes "policy0" ∷ []
unfolding digits
own_number = refl

load_frame : IsFrame (codes "load 36\npermit(principal, action, resource);\n") Load (codes "permit(principal, action, resource);")
load_frame = byte_rows.frame

ask_head : IsHeadLine (codes "ask 2\n") Ask 2
ask_head = record { line = codes "ask 2"; is = refl; short = omega arith; head = (codes "2", refl, refl, refl) }

ask_frame : IsFrame (codes "ask 2\n{}\n") Ask (codes "{}")
ask_frame = record { head = codes "ask 2\n"; opens = ask_head; fits = omega arith; is = refl }

permit_is_utf8 : IsUtf8 (codes "permit(principal, action, resource);")
unfolding lib.Utf8.encode
permit_is_utf8 = (codes "permit(principal, action, resource);", (refl, refl))

braces_are_utf8 : IsUtf8 (codes "{}")
unfolding lib.Utf8.encode
braces_are_utf8 = (codes "{}", (refl, refl))

module _ (reads_tokens : ReadsTokens) (exprs_convert : ExprsConvert) (policies_convert : PoliciesConvert) (one_list : OneList) (one_expr : OneExpr) (one_policies : OnePolicies) (functions : Functions) where
  abbrev by : Setting
  by = record { functions = functions; depth = 256 }

  braces_within : IsBodyWithin by 256 (codes "{}") (Apply (MakeRecord []) no_trees)
  braces_within = (braces, (reads_tokens (chars (codes "{}")) braces).1 braces_are, (exprs_convert (body_names functions) 256 braces (Apply (MakeRecord []) no_trees)).1 (braces_read (body_names functions)))

  brackets_within : IsBodyWithin by 256 (codes "[]") (Apply MakeSet no_trees)
  brackets_within = (brackets, (reads_tokens (chars (codes "[]")) brackets).1 brackets_are, (exprs_convert (body_names functions) 256 brackets (Apply MakeSet no_trees)).1 (brackets_read (body_names functions)))

  permit_within : ArePoliciesWithin by 256 (codes "permit(principal, action, resource);") (for_all ∷ [])
  permit_within = (permit_for_all, (reads_tokens (chars (codes "permit(principal, action, resource);")) permit_for_all).1 permit_is, (policies_convert (policy_names functions) 256 permit_for_all (for_all ∷ [])).1 (permit_read (policy_names functions)))

  no_quote : (ss : List PolicySyntax) → ArePolicies by (codes "\"") ss → ⊥
  no_quote ss reads = not_none reads.1.0 (sym quote_is_none ∙ (reads_tokens (chars (codes "\"")) reads.1.0).0 reads.1.1)

  asked_first : Step by new_world Ask (codes "{}") (Answered denied) (opens new_world all_missing map.empty denied)
  asked_first = ask_stands by new_world (codes "{}") (reads_once one_list one_expr by) (Apply (MakeRecord []) no_trees) braces_within (omega arith) refl all_missing denied _ refl refl refl (nothing_denies by) refl

  loaded : Step by new_world Load (codes "permit(principal, action, resource);") (Named (codes "policy0" ∷ [])) one_policy
  loaded =
      let stands = load_stands_own by new_world (codes "permit(principal, action, resource);") (policies_once one_list one_policies by) (for_all ∷ []) one_policy permit_within (inl (map.get-empty text_cmp (numbered 0)), tt)
      (ap (λ ids. record new_world { policies = joined map.empty (for_all ∷ []) ids }) (sym own_number)) in
      subst (λ ids. Step by new_world Load (codes "permit(principal, action, resource);") (Named ids) one_policy) own_number stands

  asked : Step by one_policy Ask (codes "{}") (Answered allowed) (opens one_policy all_missing map.empty allowed)
  asked = ask_stands by one_policy (codes "{}") (reads_once one_list one_expr by) (Apply (MakeRecord []) no_trees) braces_within (omega arith) refl all_missing allowed _ refl refl refl (all_are_allowed by) refl

  no_error : NamesOrdinaryErrors allowed
  no_error id k h = absurd (not_none k (sym (map.get-empty text_cmp id) ∙ h))

  row_three : Step by new_world Load (codes "permit(principal, action, resource);") (Named (codes "policy0" ∷ [])) one_policy → Step by one_policy Ask (codes "{}") (Answered allowed) (opens one_policy all_missing map.empty allowed)
      → RunText by (codes "load 36\npermit(principal, action, resource);\nask 2\n{}\n") new_world
      (codes "ok [\"policy0\"]\nallow must=[\"policy0\"] may=[\"policy0\"] erring=[]\nend\n") Clean (opens one_policy all_missing map.empty allowed)
  row_three load ask = record {
    count = 2;
    frames = codes "load 36\npermit(principal, action, resource);\nask 2\n{}\n";
    said = line_of (Named (codes "policy0" ∷ [])) ++ line_of (Answered allowed);
    ran =
        Turn (Turn (Start new_world) (omega arith) load_frame (inr (inr (permit_is_utf8, load, tt)))) (omega arith) ask_frame
        (inr (inr (braces_are_utf8, ask, λ commands replies reached. no_error)));
    tail = [];
    ends = refl;
    read = refl;
    wrote = sym (ap (λ l. (l ++ line_of (Answered allowed)) ++ codes "end\n") byte_rows.line ∙ ap (λ l. (codes "ok [\"policy0\"]\n" ++ l) ++ codes "end\n") byte_rows.allow);
  }

  pub step_rows : StepRows by
  step_rows = record {
    asked_first = asked_first;
    told_first = (refl, refl);
    no_question = ask_is_misshapen by new_world (codes "[]") (reads_once one_list one_expr by) (Apply MakeSet no_trees) brackets_within (omega arith) refl refl;
    no_text = load_is_no_text by new_world (codes "\"") no_quote;
    loaded = loaded;
    asked = asked;
    run = row_three loaded asked;
  }
