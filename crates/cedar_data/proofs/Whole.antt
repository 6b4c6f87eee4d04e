-- A text that is read to its end.
use Rattle.std.proofs.Common.{◌≡◌, ℕ, ◌≤◌, [], sym, subst}
use Rattle.std.proofs.lemmas.Str.{chars-nil}
use Rattle.cedar_language.specs.Uid.{Text}
use Rattle.cedar_language.specs.Height.{height}
use Rattle.cedar_grammar.specs.Grammar.{Within}
use Rattle.cedar_grammar.specs.Names.{Names}
use Rattle.cedar_grammar.specs.Tokens.{AreTokens, IsTokens, none, nothing}
use Rattle.cedar_restricted.specs.Views.{restricted_tree}
use Rattle.cedar_restricted.specs.declared.restricted.RestrictedExpr.{RestrictedExpr}
use Rattle.cedar_trees.specs.Bare.{bare}
use Rattle.cedar_trees.specs.declared.expr.Expr as code
use Rattle.cedar_data.specs.Takes.{Skips, Reads}
use Rattle.cedar_data.specs.Data.{ReadsData, IsDataText}
use Rattle.cedar_data.proofs.NoSlots.{no_slots}

pub no_tokens : IsTokens [] []
no_tokens = subst (λ cs. AreTokens cs []) (sym chars-nil) (none nothing)

pub data_text : (names : Names) (n : ℕ) (bs start rest : Text) (e : code.Expr (Unit {0})) (body : RestrictedExpr) → Skips bs start → ReadsData (Within names n) n start e rest → rest ≡ [] → restricted_tree body ≡ bare e → IsDataText names n bs body
data_text names n bs start rest e body skipped data_ end is =
    let read = subst (λ x. Reads (Within names n) start (bare e) x) end data_.reads in
    let x = read.tokens [] no_tokens in
    record {
      reads = (x.0, skipped.tokens x.0 x.1, (subst (λ t. Within names n x.0 t []) (sym is) x.2, no_slots (restricted_tree body) body.restricted));
      low = subst (λ t. height t ≤ n) (sym is) data_.is_data.low;
    }
