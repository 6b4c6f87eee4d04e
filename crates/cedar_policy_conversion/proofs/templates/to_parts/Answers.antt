-- A policy is found where effect, annotations, scope and clauses are, and lacks where one of the four does.
use Rattle.std.proofs.Common.{◌⊎◌, inl, inr, Ok, Err, map}
use Rattle.std.specs.Option.{option_map}
use Rattle.cedar_grammar.specs.Converting.{effect, scope_syntax}
use Rattle.cedar_cst.specs.LeafView.{shown_ident}
use Rattle.cedar_cst.specs.View.{shown_annotation, shown_cond, shown_variable_def, view_policy_impl}
use Rattle.cedar_cst.specs.declared.cst.PolicyImpl.{PolicyImpl}
use Rattle.cedar_grammar.specs.Names.{Names}
use Rattle.cedar_faults.specs.declared.kinds.ToASTErrorKind.{ToASTErrorKind}
use Rattle.cedar_policy_conversion.specs.Shows.{policy_shows}
use Rattle.cedar_trees.specs.Bare.{bare}
use Rattle.cedar_policy_parts.specs.Effects.{effect_of}
use Rattle.cedar_faults.specs.Reasons.{reason}
use Rattle.cedar_policy_conversion.specs.Scopes.{scope_of}
use Rattle.cedar_policy_conversion.specs.Clauses.{clauses_of}
use Rattle.cedar_policy_conversion.specs.Notes.{notes_of}
use Rattle.cedar_policy_conversion.proofs.Gathering.{both_found, lacks_more, paired, passed}
use Rattle.cedar_policy_conversion.specs.PartsShow.{effect_shows, annotations_show, scope_shows}
use Rattle.cedar_policy_conversion.specs.ClausesShow.{clauses_show}
use Rattle.cedar_faults.proofs.Telling.{flat_shows, handed_on}
use Rattle.cedar_policy_conversion.proofs.Showing.{flat_both}
use Rattle.cedar_policy_conversion.specs.Parts.{parts_syntax}
use Rattle.cedar_policy_conversion.proofs.Wholes.{a_policy, loose_parts, no_policy}
use Rattle.cedar_policy_conversion.proofs.templates.to_parts.Goals as goal

pub returns-in_err-effect-clause-syntax : goal.returns-in_err-effect-clause-syntax
returns-in_err-effect-clause-syntax c =
    let names = c.args.styles.now in
    let p = c.args.policy.now in
    let xs = map shown_annotation p.annotations.items in
    let w = shown_ident p.effect in
    let ds = map shown_variable_def p.variables.items in
    let cs = map shown_cond p.conds.items in
    let e = c.in_err-effect.field-0.0 in
    let head = both_found effect_of (λ a. a) c.to_effect-effect.result c.to_annotations-annotations.result c.flatten_tuple_2-head.result (effect w) (notes_of xs) c.flatten_tuple_2-head.ensures c.to_effect-effect.ensures.effect c.to_annotations-annotations.ensures.annotations in
    let body = both_found scope_of (option_map bare) c.extract_scope-scope.result c.to_clauses-clauses.result c.flatten_tuple_2-body.result (scope_syntax ds) (clauses_of names cs) c.flatten_tuple_2-body.ensures c.extract_scope-scope.ensures.scope c.to_clauses-clauses.ensures.clauses in
    let none = both_found (λ h. (effect_of (h.0), h.1)) (λ b. (scope_of (b.0), option_map bare (b.1))) c.flatten_tuple_2-head.result c.flatten_tuple_2-body.result (Err e) (paired (effect w) (notes_of xs)) (paired (scope_syntax ds) (clauses_of names cs)) c.in_err-effect.ensures head body in
    passed parts_syntax c.from_residual.result e _ c.from_residual.ensures (lacks_more (reason e) (loose_parts names xs w ds cs) _ (no_policy names xs w ds cs) none)

pub returns-clause-syntax : goal.returns-clause-syntax
returns-clause-syntax c =
    let names = c.args.styles.now in
    let p = c.args.policy.now in
    let xs = map shown_annotation p.annotations.items in
    let w = shown_ident p.effect in
    let ds = map shown_variable_def p.variables.items in
    let cs = map shown_cond p.conds.items in
    let o = c.in_ok-effect in
    let head = both_found effect_of (λ a. a) c.to_effect-effect.result c.to_annotations-annotations.result c.flatten_tuple_2-head.result (effect w) (notes_of xs) c.flatten_tuple_2-head.ensures c.to_effect-effect.ensures.effect c.to_annotations-annotations.ensures.annotations in
    let body = both_found scope_of (option_map bare) c.extract_scope-scope.result c.to_clauses-clauses.result c.flatten_tuple_2-body.result (scope_syntax ds) (clauses_of names cs) c.flatten_tuple_2-body.ensures c.extract_scope-scope.ensures.scope c.to_clauses-clauses.ensures.clauses in
    let found = both_found (λ h. (effect_of (h.0), h.1)) (λ b. (scope_of (b.0), option_map bare (b.1))) c.flatten_tuple_2-head.result c.flatten_tuple_2-body.result (Ok ((o.effect, o.annotations), (o.scope, o.clauses))) (paired (effect w) (notes_of xs)) (paired (scope_syntax ds) (clauses_of names cs)) o.ensures head body in
    a_policy names xs w ds cs ((effect_of o.effect, o.annotations), (scope_of o.scope, option_map bare o.clauses)) found

in_head : (names : Names) (p : PolicyImpl) (k : ToASTErrorKind) → effect_shows (shown_ident p.effect) k ⊎ annotations_show (map shown_annotation p.annotations.items) k → policy_shows names (view_policy_impl p) k
in_head names p k (inl s) = inl s
in_head names p k (inr s) = inr (inl s)

in_body : (names : Names) (p : PolicyImpl) (k : ToASTErrorKind) → scope_shows (map shown_variable_def p.variables.items) k ⊎ clauses_show names (map shown_cond p.conds.items) k → policy_shows names (view_policy_impl p) k
in_body names p k (inl s) = inr (inr (inl s))
in_body names p k (inr s) = inr (inr (inr s))

pub returns-in_err-effect-clause-shown : goal.returns-in_err-effect-clause-shown
returns-in_err-effect-clause-shown c =
    let names = c.args.styles.now in
    let p = c.args.policy.now in
    let first = effect_shows (shown_ident p.effect) in
    let second = annotations_show (map shown_annotation p.annotations.items) in
    let third = scope_shows (map shown_variable_def p.variables.items) in
    let fourth = clauses_show names (map shown_cond p.conds.items) in
    let head = flat_both c.to_effect-effect.result c.to_annotations-annotations.result c.flatten_tuple_2-head.result first second c.flatten_tuple_2-head.ensures c.to_effect-effect.ensures.shown c.to_annotations-annotations.ensures.shown in
    let body = flat_both c.extract_scope-scope.result c.to_clauses-clauses.result c.flatten_tuple_2-body.result third fourth c.flatten_tuple_2-body.ensures c.extract_scope-scope.ensures.shown c.to_clauses-clauses.ensures.shown in
    handed_on c.from_residual.result _ _ c.from_residual.ensures
    (flat_shows c.flatten_tuple_2-head.result c.flatten_tuple_2-body.result _ (λ k. first k ⊎ second k) (λ k. third k ⊎ fourth k) _ c.in_err-effect.ensures head body (in_head names p) (in_body names p))
