-- A path of `has`, attribute by attribute.
use Rattle.std.proofs.Common.{◌≡◌, ◌∙◌, ap, sym, arith, rules, List, [], ◌∷◌, ◌+◌, map, drop, get_or, Global}
use Rattle.std.specs.Rc.{rc_str_bytes}
use Rattle.std.specs.declared.rc.RcStr.{RcStr}
use Rattle.cedar_language.specs.Tree.{Tree}
use Rattle.cedar_trees.specs.Bare.{bare}
use Rattle.cedar_trees.specs.declared.expr.Expr.{Expr}
use Rattle.cedar_typing.specs.Capabilities.{an_attribute, is_among}
use Rattle.cedar_typing.specs.Attributes.{attributes_of, has_type, path_type}
use Rattle.cedar_typing.specs.Results.{plainly}
use Rattle.cedar_typechecker.specs.Capabilities.{capabilities_view}
use Rattle.cedar_typechecker.specs.Paths.{rest_type}
use Rattle.cedar_typechecker.specs.Results.{typing_view}
use Rattle.cedar_typechecker.specs.Types.{type_view}
use Rattle.cedar_typechecker.specs.declared.types.BoolType.TheVariants as bool_types
use Rattle.cedar_typechecker.proofs.Above.{boolean_view}
use Rattle.cedar_typechecker.proofs.Found.{passed}
use Rattle.cedar_typechecker.proofs.Pathed.{path_begins, rest_faulty, never_advances, advances_to, attributes_left, attributes_end}
use Rattle.cedar_typechecker.proofs.paths.has_path_type.Goals as goal

pub returns-in_err-found : goal.returns-in_err-found
returns-in_err-found g c =
    passed ⊥ ⊥ (has_type (is_among (an_attribute (bare c.args.of.now.value) (rc_str_bytes c.args.attrs.now.head)) (capabilities_view c.args.held.now)) (bare c.args.of.now.value) (rc_str_bytes c.args.attrs.now.head) (attributes_of (g.E.RequestEnv.environment c.args.env.now).schema (type_view c.args.of_type.now))) (path_type (g.E.RequestEnv.environment c.args.env.now) (bare c.args.of.now.value) (rc_str_bytes c.args.attrs.now.head) (map rc_str_bytes c.args.attrs.now.tail.items) (capabilities_view c.args.held.now) (type_view c.args.of_type.now)) c.in_err-found.field-0.0 c.from_residual.result c.from_residual.ensures (λ k h. path_begins (g.E.RequestEnv.environment c.args.env.now) (bare c.args.of.now.value) (rc_str_bytes c.args.attrs.now.head) (map rc_str_bytes c.args.attrs.now.tail.items) (capabilities_view c.args.held.now) (type_view c.args.of_type.now) ∙ ap (rest_type (g.E.RequestEnv.environment c.args.env.now) (bare c.args.of.now.value) (rc_str_bytes c.args.attrs.now.head) (map rc_str_bytes c.args.attrs.now.tail.items) (capabilities_view c.args.held.now) (type_view c.args.of_type.now)) h ∙ rest_faulty (g.E.RequestEnv.environment c.args.env.now) (bare c.args.of.now.value) (rc_str_bytes c.args.attrs.now.head) (map rc_str_bytes c.args.attrs.now.tail.items) (capabilities_view c.args.held.now) (type_view c.args.of_type.now) k) (λ n. n) c.in_err-found.ensures

pub loop-next-init : goal.loop-next-init
loop-next-init g c =
    let same : c.args.of.now.value ≡ c.in_ok-clone.field-0.value = search rules in
    path_begins (g.E.RequestEnv.environment c.args.env.now) (bare c.args.of.now.value) (rc_str_bytes c.args.attrs.now.head) (map rc_str_bytes c.args.attrs.now.tail.items) (capabilities_view c.args.held.now) (type_view c.args.of_type.now) ∙ ap (rest_type (g.E.RequestEnv.environment c.args.env.now) (bare c.args.of.now.value) (rc_str_bytes c.args.attrs.now.head) (map rc_str_bytes c.args.attrs.now.tail.items) (capabilities_view c.args.held.now) (type_view c.args.of_type.now)) c.in_ok-found.ensures
    ∙ ap (λ (x : Expr (Unit {0})). rest_type (g.E.RequestEnv.environment c.args.env.now) (bare x) (rc_str_bytes c.args.attrs.now.head) (map rc_str_bytes c.args.attrs.now.tail.items) (capabilities_view c.args.held.now) (type_view c.args.of_type.now) (typing_view c.in_ok-found.found)) same
    ∙ ap (λ t. rest_type (g.E.RequestEnv.environment c.args.env.now) (bare c.in_ok-clone.field-0.value) (rc_str_bytes c.args.attrs.now.head) (map rc_str_bytes c.args.attrs.now.tail.items) (capabilities_view c.args.held.now) t (typing_view c.in_ok-found.found)) (sym c.in_ok-share.ensures)

pub loop-next-preserved : goal.loop-next-preserved
loop-next-preserved g c =
    c.loop-next.invariant ∙ attributes_left (g.E.RequestEnv.environment c.args.env.now) (bare c.loop-next.reached.of.value) (rc_str_bytes c.loop-next.attr.now) c.args.attrs.now.tail.items c.loop-next.next-index c.next-item.result (capabilities_view c.args.held.now) (type_view c.loop-next.reached.of_type) (typing_view c.loop-next.reached.found) (omega arith) (c.next-item.is ∙ ap (λ (l : List (RcStr Global)). get_or l c.loop-next.next-index c.next-item.result) c.deref-next-items.ensures.value) ∙ advances_to (rest_type (g.E.RequestEnv.environment c.args.env.now) (bare c.loop-next.reached.of.value) (rc_str_bytes c.loop-next.attr.now) ((rc_str_bytes c.next-item.result) ∷ (map rc_str_bytes (drop (c.loop-next.next-index + 1) c.args.attrs.now.tail.items))) (capabilities_view c.args.held.now) (type_view c.loop-next.reached.of_type) (typing_view c.loop-next.reached.found)) (g.E.RequestEnv.environment c.args.env.now) (rc_str_bytes c.next-item.result) (map rc_str_bytes (drop (c.loop-next.next-index + 1) c.args.attrs.now.tail.items)) (capabilities_view c.args.held.now) c.in_ok-further.field-0 c.in-Some.further c.in-Some.is (c.in_ok-further.ensures (map rc_str_bytes (drop (c.loop-next.next-index + 1) c.args.attrs.now.tail.items)))

pub returns-in_default : goal.returns-in_default
returns-in_default g c =
    c.loop-next.invariant ∙ attributes_left (g.E.RequestEnv.environment c.args.env.now) (bare c.loop-next.reached.of.value) (rc_str_bytes c.loop-next.attr.now) c.args.attrs.now.tail.items c.loop-next.next-index c.next-item.result (capabilities_view c.args.held.now) (type_view c.loop-next.reached.of_type) (typing_view c.loop-next.reached.found) (omega arith) (c.next-item.is ∙ ap (λ (l : List (RcStr Global)). get_or l c.loop-next.next-index c.next-item.result) c.deref-next-items.ensures.value) ∙ never_advances (rest_type (g.E.RequestEnv.environment c.args.env.now) (bare c.loop-next.reached.of.value) (rc_str_bytes c.loop-next.attr.now) ((rc_str_bytes c.next-item.result) ∷ (map rc_str_bytes (drop (c.loop-next.next-index + 1) c.args.attrs.now.tail.items))) (capabilities_view c.args.held.now) (type_view c.loop-next.reached.of_type) (typing_view c.loop-next.reached.found)) (g.E.RequestEnv.environment c.args.env.now) (rc_str_bytes c.next-item.result) (map rc_str_bytes (drop (c.loop-next.next-index + 1) c.args.attrs.now.tail.items)) (capabilities_view c.args.held.now) c.in_ok-further.field-0 c.in_default.is (c.in_ok-further.ensures (map rc_str_bytes (drop (c.loop-next.next-index + 1) c.args.attrs.now.tail.items))) ∙ sym (c.plainly.ensures ∙ ap plainly (boolean_view bool_types.AlwaysFalse))

pub returns-in_err-further : goal.returns-in_err-further
returns-in_err-further g c =
    passed ⊥ ⊥ (rest_type (g.E.RequestEnv.environment c.args.env.now) (bare c.loop-next.reached.of.value) (rc_str_bytes c.loop-next.attr.now) ((rc_str_bytes c.next-item.result) ∷ (map rc_str_bytes (drop (c.loop-next.next-index + 1) c.args.attrs.now.tail.items))) (capabilities_view c.args.held.now) (type_view c.loop-next.reached.of_type) (typing_view c.loop-next.reached.found)) (path_type (g.E.RequestEnv.environment c.args.env.now) (bare c.args.of.now.value) (rc_str_bytes c.args.attrs.now.head) (map rc_str_bytes c.args.attrs.now.tail.items) (capabilities_view c.args.held.now) (type_view c.args.of_type.now)) c.in_err-further.field-0.0 c.from_residual-in_err-further.result c.from_residual-in_err-further.ensures (λ k h. c.loop-next.invariant ∙ attributes_left (g.E.RequestEnv.environment c.args.env.now) (bare c.loop-next.reached.of.value) (rc_str_bytes c.loop-next.attr.now) c.args.attrs.now.tail.items c.loop-next.next-index c.next-item.result (capabilities_view c.args.held.now) (type_view c.loop-next.reached.of_type) (typing_view c.loop-next.reached.found) (omega arith) (c.next-item.is ∙ ap (λ (l : List (RcStr Global)). get_or l c.loop-next.next-index c.next-item.result) c.deref-next-items.ensures.value) ∙ h) (λ n. n) (c.in_err-further.ensures (map rc_str_bytes (drop (c.loop-next.next-index + 1) c.args.attrs.now.tail.items)))

pub returns : goal.returns
returns g c =
    c.loop-next.invariant ∙ attributes_end (g.E.RequestEnv.environment c.args.env.now) (bare c.loop-next.reached.of.value) (rc_str_bytes c.loop-next.attr.now) c.args.attrs.now.tail.items c.loop-next.next-index (capabilities_view c.args.held.now) (type_view c.loop-next.reached.of_type) (typing_view c.loop-next.reached.found) (omega arith)
