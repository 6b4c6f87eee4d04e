-- Where the operations refuse what a head holds, they refuse the tree that it is used as.
use Rattle.std.proofs.Common.{subst, inl}
use Rattle.cedar_grammar.specs.Converting.{head_tree}
use Rattle.cedar_faults.specs.Reasons.{reason}
use Rattle.cedar_faults.specs.Converts.{Converts}
use Rattle.cedar_conversion.specs.Building.{IsRefused}
use Rattle.cedar_conversion.specs.Heads.{IsHead, IsHeadRefused}
use Rattle.cedar_conversion.proofs.Converting.{failed}
use Rattle.cedar_conversion.proofs.Refusing.{refused_head}
use Rattle.cedar_faults.proofs.Telling.{tells_more, failed_tells}
use Rattle.cedar_conversion.proofs.heads.used_to_expr.Goals as goal

pub returns-in-Err-clause-tree : goal.returns-in-Err-clause-tree
returns-in-Err-clause-tree g c v hv =
    let o = g.B.ExprBuilder.operations in
    let m = g.B.ExprBuilder.meaning in
    let refusal = g.B.ExprBuilder.refusal in
    failed refusal (IsHeadRefused o) (IsRefused o) (reason c.in-Err.error) v head_tree (refused_head o) (subst (λ r. Converts (IsHead o m) (IsHeadRefused o) refusal r v) c.in-Err.is hv)

pub returns-in-Err-clause-shown : goal.returns-in-Err-clause-shown
returns-in-Err-clause-shown g c =
    tells_more _ _ _ (λ k t. inl t) (failed_tells c.args.head c.in-Err.error c.in-Err.is)
