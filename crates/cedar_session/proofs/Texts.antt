-- Steps of a session, from what its texts are read as.
use Rattle.std.proofs.Common.{◌≡◌, ◌≤◌, false, cond, ◌∙◌, ℕ, List, Some, None, Err, refl, sym, ap, subst}
use Rattle.cedar_language.specs.Uid as uid
use Rattle.cedar_language.specs.Tree.{Tree}
use Rattle.cedar_language.specs.Height.{height}
use Rattle.cedar_grammar.specs.Syntax.{PolicySyntax}
use Rattle.cedar_world.specs.World.{World, Policies}
use Rattle.cedar_world.specs.PolicyEdits.{Loads}
use Rattle.cedar_grammar.specs.UnknownCalls.{holds_call}
use Rattle.cedar_world.specs.Setting.{Setting, ArePoliciesWithin, PoliciesAreOne, IsBodyWithin}
use Rattle.cedar_world.specs.Commands as commands
use Rattle.cedar_world.specs.Commands.{Load, Named, Refused}
use Rattle.cedar_world.specs.Step.{Step}
use Rattle.cedar_world.proofs.LoadAndAsk.{load_lacks_memory, load_is_no_text, load_is_deep, load_stands}
use Rattle.cedar_replies.specs.declared.refusal.Refusal.{Refusal}
use Rattle.cedar_replies.specs.declared.refusal.Refusal.TheVariants.{Text, Depth, Memory}
use Rattle.cedar_replies.specs.Refusals.{refusal_of}
use Rattle.cedar_session.specs.PolicyReading.{ReadsPolicies}
use Rattle.cedar_session.specs.TextReading.{IsLowBody}
use Rattle.cedar_session.specs.Settings.{setting_with}
use Rattle.cedar_language.specs.Constructing.{is_the_constructor, constructor_function}
use Rattle.cedar_grammar.specs.Functions.{function_of}
use Rattle.cedar_extensions.specs.Answering.{FunctionAnswers}
use Rattle.cedar_extensions.specs.Defining.{defined}
use Rattle.cedar_extensions.specs.Table.{as_table}
use Rattle.cedar_extensions.specs.Tables.{functions_in, holds_unknown, function_called}
use Rattle.cedar_extensions.specs.declared.extensions.Extensions.{Extensions}
use Rattle.cedar_held.specs.Fields.{Serves}

-- ---- steps

module _ (by : Setting) (old : World) (text : uid.Text) where
  pub unread_load : (r : Refusal) → ReadsPolicies by text (Err r) → Step by old Load text (Refused (refusal_of r)) old
  unread_load Text h = load_is_no_text by old text h
  unread_load Depth h = load_is_deep by old text h
  unread_load Memory h = load_lacks_memory by old text
  unread_load r h = absurd h

  -- what lacks memory changes nothing
  pub unplaced : (new : Policies) → new ≡ old.policies → Step by old Load text (Refused commands.Memory) (record old { policies = new })
  unplaced new same = subst (λ p. Step by old Load text (Refused commands.Memory) (record old { policies = p })) (sym same) (load_lacks_memory by old text)

  pub loaded : PoliciesAreOne by → (ss : List PolicySyntax) (ids : List uid.Text) (new : Policies) → ArePoliciesWithin by by.depth text ss → Loads old.policies ss ids new
      → Step by old Load text (Named ids) (record old { policies = new; asked = None })
  loaded once ss ids new reads loads = load_stands by old text once ss ids (record old { policies = new; asked = None }) reads loads refl

-- what is said of the tree of a body is said of the expression's, and of the same one lent
pub read_tree : (by : Setting) (text : uid.Text) (s t : Tree) → t ≡ s → IsLowBody by text (λ tree. tree ≡ s) → IsBodyWithin by by.depth text t × (height t ≤ by.depth)
read_tree by text s t same h = subst (λ x. IsBodyWithin by by.depth text x × (height x ≤ by.depth)) (h.3 ∙ sym same) (h.1, h.2)

-- a session's functions are those of its table
pub serves : {F : Type 0} (answers : F → FunctionAnswers) (extensions : Extensions F) (depth : ℕ) (s t : Tree) → t ≡ s
    → ((name : uid.Name) → function_of (defined answers (functions_in extensions)) name ≡ function_called answers extensions name)
    → (holds_unknown extensions ≡ false → holds_call s ≡ false) → Serves (as_table answers extensions) (setting_with answers extensions depth) (holds_call t)
serves answers extensions depth s t same are calls = record {
  functions = λ name. ap (cond (is_the_constructor name) (Some constructor_function)) (are name);
  held = λ none. ap holds_call same ∙ calls none;
}
