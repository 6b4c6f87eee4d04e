-- A call lacks its tree where the head or the arguments lack theirs, and the reasons of both are joined.
use Rattle.std.proofs.Common.{List, Option, Some, subst, inl, inr}
use Rattle.cedar_language.specs.Tree.{Tree}
use Rattle.cedar_grammar.specs.Converting as converting
use Rattle.cedar_faults.specs.Reasons.{reason}
use Rattle.cedar_faults.specs.Converts.{and_then, Converts}
use Rattle.cedar_conversion.specs.Building.{AreBuilt, AreRefused}
use Rattle.cedar_conversion.specs.Heads.{IsHead, IsHeadRefused, called_shows}
use Rattle.cedar_conversion.proofs.Converting.{first_misses, second_misses, misses_both}
use Rattle.cedar_conversion.proofs.Refusing.{call_of_head, call_of_arguments}
use Rattle.cedar_faults.proofs.Telling.{tells_more, failed_tells, gathered_tells}
use Rattle.cedar_conversion.proofs.Told.{both_told}
use Rattle.cedar_conversion.proofs.calls.call.Goals as goal

pub returns-in-Ok-clause-head : goal.returns-in-Ok-clause-head
returns-in-Ok-clause-head g c v w hv hw =
    let o = g.B.ExprBuilder.operations in
    let m = g.B.ExprBuilder.meaning in
    let refusal = g.B.ExprBuilder.refusal in
    let names = c.args.styles.now in
    let k : converting.Head → List Tree → Option converting.Head = λ h xs. and_then (converting.called names h xs) (λ t. Some (converting.a_tree t)) in
    second_misses refusal (IsHeadRefused o) (AreRefused o) (IsHeadRefused o) k (reason c.in-Err-args.error) v w (call_of_head o names, call_of_arguments o names) (subst (λ r. Converts (AreBuilt o m) (AreRefused o) refusal r w) c.in-Err-args.is hw)

pub returns-in-Ok-args-2-clause-head : goal.returns-in-Ok-args-2-clause-head
returns-in-Ok-args-2-clause-head g c v w hv hw =
    let o = g.B.ExprBuilder.operations in
    let m = g.B.ExprBuilder.meaning in
    let refusal = g.B.ExprBuilder.refusal in
    let names = c.args.styles.now in
    let k : converting.Head → List Tree → Option converting.Head = λ h xs. and_then (converting.called names h xs) (λ t. Some (converting.a_tree t)) in
    first_misses refusal (IsHeadRefused o) (AreRefused o) (IsHeadRefused o) k (reason c.in-Err.error) v w (call_of_head o names, call_of_arguments o names) (subst (λ r. Converts (IsHead o m) (IsHeadRefused o) refusal r v) c.in-Err.is hv)

pub returns-clause-head : goal.returns-clause-head
returns-clause-head g c v w hv hw =
    let o = g.B.ExprBuilder.operations in
    let m = g.B.ExprBuilder.meaning in
    let refusal = g.B.ExprBuilder.refusal in
    let names = c.args.styles.now in
    let k : converting.Head → List Tree → Option converting.Head = λ h xs. and_then (converting.called names h xs) (λ t. Some (converting.a_tree t)) in
    misses_both refusal (IsHeadRefused o) (AreRefused o) (IsHeadRefused o) k (reason c.in-Err.error) (reason c.in-Err-args-2.other) (reason c.and.result) v w (call_of_head o names, call_of_arguments o names) c.and.ensures.reason
    (subst (λ r. Converts (IsHead o m) (IsHeadRefused o) refusal r v) c.in-Err.is hv) (subst (λ r. Converts (AreBuilt o m) (AreRefused o) refusal r w) c.in-Err-args-2.is hw)

pub returns-in-Ok-clause-shown : goal.returns-in-Ok-clause-shown
returns-in-Ok-clause-shown g c =
    tells_more _ _ _ (λ k t. inr (inl t)) (failed_tells c.args.args c.in-Err-args.error c.in-Err-args.is)

pub returns-in-Ok-args-2-clause-shown : goal.returns-in-Ok-args-2-clause-shown
returns-in-Ok-args-2-clause-shown g c =
    tells_more _ _ _ (λ k t. inl t) (failed_tells c.args.head c.in-Err.error c.in-Err.is)

pub returns-clause-shown : goal.returns-clause-shown
returns-clause-shown g c =
    tells_more _ _ _ (λ k t. both_told c.args.head c.args.args c.in-Err.error c.in-Err-args-2.other (called_shows c.args.styles.now c.args.head c.args.args) k c.in-Err.is c.in-Err-args-2.is t) (gathered_tells c.in-Err.error c.in-Err-args-2.other c.and.result c.and.ensures.faults)
