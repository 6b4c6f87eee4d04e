-- Bodies, from the restricted expressions of their texts.
use Rattle.std.proofs.Common.{◌≡◌, ◌≤◌, subst, inl, inr, Err, arith}
use Rattle.cedar_language.specs.Uid.{Text}
use Rattle.cedar_language.specs.Height.{height}
use Rattle.cedar_grammar.specs.Functions.{body_names}
use Rattle.cedar_world.specs.Setting.{Setting, BodyNestsWithin, BodiesAreOne}
use Rattle.cedar_parser.specs.Errors as cause
use Rattle.cedar_parser.specs.Errors.{Cause, cause_of}
use Rattle.cedar_restricted.specs.declared.errors.RestrictedExpressionError.TheVariants as refused
use Rattle.cedar_parser.specs.declared.restricted.RestrictedExpressionParseError.{RestrictedExpressionParseError}
use Rattle.cedar_parser.specs.declared.restricted.RestrictedExpressionParseError.TheVariants as parse
use Rattle.cedar_parser.specs.Strict.{IsUnread, IsTooDeep, ReadsRestricted}
use Rattle.cedar_session.specs.Told.{refusal_for, body_refusal}
use Rattle.cedar_session.specs.TextReading.{ReadsBody}

module _ (by : Setting) (text : Text) (one : BodiesAreOne by) where
  -- a body that is too deep nests in no such way
  too_deep : IsTooDeep (body_names by.functions) by.depth text → BodyNestsWithin by by.depth text → ⊥
  too_deep (inl high) (inl body) =
      let same : body.0 ≡ high.0 = one text body.0 high.0 (by.depth, body.1) (by.depth, high.1) in
      let low : height high.0 ≤ by.depth = subst (λ s. height s ≤ by.depth) same body.2 in
      omega (arith, high.2, low)
  too_deep (inl high) (inr none) = none.0 high.0 (by.depth, high.1)
  too_deep (inr deep) (inl body) = deep.0 body.0 body.1
  too_deep (inr deep) (inr places) = omega (arith, deep.1, places.1)

  unread : (c : Cause) → IsUnread (body_names by.functions) by.depth text c → ReadsBody by text (Err (refusal_for c))
  unread cause.outside_the_grammar none = λ t body. none body.0 t body.1
  unread cause.means_nothing none = λ t body. none body.0 t body.1
  unread cause.nested_too_deep deep = too_deep deep
  unread cause.out_of_memory none = tt

  -- a body that isn't read is refused for the same
  pub body_refused : (e : RestrictedExpressionParseError) → ReadsRestricted (body_names by.functions) by.depth text (Err e) → ReadsBody by text (Err (body_refusal e))
  body_refused (parse.Parse errors) none = unread (cause_of errors.0.head) none
  body_refused (parse.InvalidRestrictedExpression (refused.InvalidRestrictedExpression e)) low = low
  body_refused (parse.InvalidRestrictedExpression (refused.Memory e)) none = tt
