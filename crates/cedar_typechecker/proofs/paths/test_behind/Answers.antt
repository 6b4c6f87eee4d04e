-- One attribute further on a path.
use Rattle.std.proofs.Common.{◌≡◌, ◌∙◌, ap, sym, true, List, [], ◌∷◌, ◌++◌}
use Rattle.std.specs.Rc.{rc_str_bytes}
use Rattle.cedar_language.specs.Tree.{Tree}
use Rattle.cedar_trees.specs.Bare.{bare}
use Rattle.cedar_typing.specs.Types.{Booleans}
use Rattle.cedar_typing.specs.Capabilities.{an_attribute, is_among}
use Rattle.cedar_typing.specs.Lazies.{and_with}
use Rattle.cedar_typing.specs.Attributes.{attributes_of, get, get_type, has_type}
use Rattle.cedar_typing.specs.Results.{HasType}
use Rattle.cedar_typechecker.specs.Capabilities.{capabilities_view}
use Rattle.cedar_typechecker.specs.Paths.{rest_type}
use Rattle.cedar_typechecker.specs.Results.{typing_view}
use Rattle.cedar_typechecker.specs.Types.{bool_type_view, type_view}
use Rattle.cedar_typechecker.proofs.Pathed.{path_faulty, path_advances, rest_faulty, advance_passed, advance_refused, test_at}
use Rattle.cedar_typechecker.proofs.paths.test_behind.Goals as goal

pub returns-in_err-more : goal.returns-in_err-more
returns-in_err-more g c =
    λ bs. advance_refused (rest_type (g.E.RequestEnv.environment c.args.env.now) (bare c.args.of.now.value) (rc_str_bytes c.args.attr.now) ((rc_str_bytes c.args.next.now) ∷ bs) (capabilities_view c.args.held.now) (type_view c.args.of_type.now) (HasType (Booleans (bool_type_view c.args.bool_type)) (capabilities_view c.args.given.items))) (g.E.RequestEnv.environment c.args.env.now) (rc_str_bytes c.args.next.now) bs (capabilities_view c.args.held.now) c.from_residual.result c.from_residual.ensures

pub returns-in_err-next_type : goal.returns-in_err-next_type
returns-in_err-next_type g c =
    λ bs. advance_passed (rest_type (g.E.RequestEnv.environment c.args.env.now) (bare c.args.of.now.value) (rc_str_bytes c.args.attr.now) ((rc_str_bytes c.args.next.now) ∷ bs) (capabilities_view c.args.held.now) (type_view c.args.of_type.now) (HasType (Booleans (bool_type_view c.args.bool_type)) (capabilities_view c.args.given.items))) (get_type true (rc_str_bytes c.args.attr.now) (attributes_of (g.E.RequestEnv.environment c.args.env.now).schema (type_view c.args.of_type.now))) (g.E.RequestEnv.environment c.args.env.now) (rc_str_bytes c.args.next.now) bs (capabilities_view c.args.held.now) c.in_err-next_type.field-0.0 c.from_residual-in_err-next_type.result c.from_residual-in_err-next_type.ensures (path_faulty (g.E.RequestEnv.environment c.args.env.now) (bare c.args.of.now.value) (rc_str_bytes c.args.attr.now) (rc_str_bytes c.args.next.now) bs (capabilities_view c.args.held.now) (type_view c.args.of_type.now) (bool_type_view c.args.bool_type) (capabilities_view c.args.given.items) c.requires) c.in_err-next_type.ensures

pub returns-in_err-test : goal.returns-in_err-test
returns-in_err-test g c =
    let held : capabilities_view c.deref-2.result.now ≡ (capabilities_view c.args.given.items) ++ (capabilities_view c.args.held.now) = ap capabilities_view c.deref-2.ensures.value ∙ c.in_ok-more.ensures ∙ ap (λ l. capabilities_view l ++ (capabilities_view c.args.held.now)) c.deref.ensures.value in
    let test = test_at (g.E.RequestEnv.environment c.args.env.now) (bare c.in_ok-next_of.next_of.value) (get (bare c.args.of.now.value) (rc_str_bytes c.args.attr.now)) (rc_str_bytes c.args.next.now) (capabilities_view c.deref-2.result.now) ((capabilities_view c.args.given.items) ++ (capabilities_view c.args.held.now)) (type_view c.in_ok-next_type.next_type) c.in_ok-next_of.ensures held in
    λ bs. advance_passed (rest_type (g.E.RequestEnv.environment c.args.env.now) (bare c.args.of.now.value) (rc_str_bytes c.args.attr.now) ((rc_str_bytes c.args.next.now) ∷ bs) (capabilities_view c.args.held.now) (type_view c.args.of_type.now) (HasType (Booleans (bool_type_view c.args.bool_type)) (capabilities_view c.args.given.items))) (has_type (is_among (an_attribute (bare c.in_ok-next_of.next_of.value) (rc_str_bytes c.args.next.now)) (capabilities_view c.deref-2.result.now)) (bare c.in_ok-next_of.next_of.value) (rc_str_bytes c.args.next.now) (attributes_of (g.E.RequestEnv.environment c.args.env.now).schema (type_view c.in_ok-next_type.next_type))) (g.E.RequestEnv.environment c.args.env.now) (rc_str_bytes c.args.next.now) bs (capabilities_view c.args.held.now) c.in_err-test.field-0.0 c.from_residual-in_err-test.result c.from_residual-in_err-test.ensures (λ k h. path_advances (g.E.RequestEnv.environment c.args.env.now) (bare c.args.of.now.value) (rc_str_bytes c.args.attr.now) (rc_str_bytes c.args.next.now) bs (capabilities_view c.args.held.now) (type_view c.args.of_type.now) (bool_type_view c.args.bool_type) (capabilities_view c.args.given.items) c.requires (type_view c.in_ok-next_type.next_type) [] c.in_ok-next_type.ensures ∙ ap (λ f. rest_type (g.E.RequestEnv.environment c.args.env.now) (get (bare c.args.of.now.value) (rc_str_bytes c.args.attr.now)) (rc_str_bytes c.args.next.now) bs (capabilities_view c.args.held.now) (type_view c.in_ok-next_type.next_type) (and_with (bool_type_view c.args.bool_type) (capabilities_view c.args.given.items) f)) (sym test ∙ h) ∙ rest_faulty (g.E.RequestEnv.environment c.args.env.now) (get (bare c.args.of.now.value) (rc_str_bytes c.args.attr.now)) (rc_str_bytes c.args.next.now) bs (capabilities_view c.args.held.now) (type_view c.in_ok-next_type.next_type) k) c.in_err-test.ensures

pub returns-in_err-found : goal.returns-in_err-found
returns-in_err-found g c =
    let held : capabilities_view c.deref-2.result.now ≡ (capabilities_view c.args.given.items) ++ (capabilities_view c.args.held.now) = ap capabilities_view c.deref-2.ensures.value ∙ c.in_ok-more.ensures ∙ ap (λ l. capabilities_view l ++ (capabilities_view c.args.held.now)) c.deref.ensures.value in
    let test = test_at (g.E.RequestEnv.environment c.args.env.now) (bare c.in_ok-next_of.next_of.value) (get (bare c.args.of.now.value) (rc_str_bytes c.args.attr.now)) (rc_str_bytes c.args.next.now) (capabilities_view c.deref-2.result.now) ((capabilities_view c.args.given.items) ++ (capabilities_view c.args.held.now)) (type_view c.in_ok-next_type.next_type) c.in_ok-next_of.ensures held in
    λ bs. advance_passed (rest_type (g.E.RequestEnv.environment c.args.env.now) (bare c.args.of.now.value) (rc_str_bytes c.args.attr.now) ((rc_str_bytes c.args.next.now) ∷ bs) (capabilities_view c.args.held.now) (type_view c.args.of_type.now) (HasType (Booleans (bool_type_view c.args.bool_type)) (capabilities_view c.args.given.items))) (and_with (bool_type_view c.args.bool_type) (capabilities_view c.args.given.items) (typing_view c.in_ok-test.test)) (g.E.RequestEnv.environment c.args.env.now) (rc_str_bytes c.args.next.now) bs (capabilities_view c.args.held.now) c.in_err-found.field-0.0 c.from_residual-in_err-found.result c.from_residual-in_err-found.ensures (λ k h. path_advances (g.E.RequestEnv.environment c.args.env.now) (bare c.args.of.now.value) (rc_str_bytes c.args.attr.now) (rc_str_bytes c.args.next.now) bs (capabilities_view c.args.held.now) (type_view c.args.of_type.now) (bool_type_view c.args.bool_type) (capabilities_view c.args.given.items) c.requires (type_view c.in_ok-next_type.next_type) [] c.in_ok-next_type.ensures ∙ ap (λ f. rest_type (g.E.RequestEnv.environment c.args.env.now) (get (bare c.args.of.now.value) (rc_str_bytes c.args.attr.now)) (rc_str_bytes c.args.next.now) bs (capabilities_view c.args.held.now) (type_view c.in_ok-next_type.next_type) (and_with (bool_type_view c.args.bool_type) (capabilities_view c.args.given.items) f)) (sym test ∙ c.in_ok-test.ensures) ∙ ap (rest_type (g.E.RequestEnv.environment c.args.env.now) (get (bare c.args.of.now.value) (rc_str_bytes c.args.attr.now)) (rc_str_bytes c.args.next.now) bs (capabilities_view c.args.held.now) (type_view c.in_ok-next_type.next_type)) h ∙ rest_faulty (g.E.RequestEnv.environment c.args.env.now) (get (bare c.args.of.now.value) (rc_str_bytes c.args.attr.now)) (rc_str_bytes c.args.next.now) bs (capabilities_view c.args.held.now) (type_view c.in_ok-next_type.next_type) k) c.in_err-found.ensures

pub returns : goal.returns
returns g c =
    let held : capabilities_view c.deref-2.result.now ≡ (capabilities_view c.args.given.items) ++ (capabilities_view c.args.held.now) = ap capabilities_view c.deref-2.ensures.value ∙ c.in_ok-more.ensures ∙ ap (λ l. capabilities_view l ++ (capabilities_view c.args.held.now)) c.deref.ensures.value in
    let test = test_at (g.E.RequestEnv.environment c.args.env.now) (bare c.in_ok-next_of.next_of.value) (get (bare c.args.of.now.value) (rc_str_bytes c.args.attr.now)) (rc_str_bytes c.args.next.now) (capabilities_view c.deref-2.result.now) ((capabilities_view c.args.given.items) ++ (capabilities_view c.args.held.now)) (type_view c.in_ok-next_type.next_type) c.in_ok-next_of.ensures held in
    λ bs. path_advances (g.E.RequestEnv.environment c.args.env.now) (bare c.args.of.now.value) (rc_str_bytes c.args.attr.now) (rc_str_bytes c.args.next.now) bs (capabilities_view c.args.held.now) (type_view c.args.of_type.now) (bool_type_view c.args.bool_type) (capabilities_view c.args.given.items) c.requires (type_view c.in_ok-next_type.next_type) [] c.in_ok-next_type.ensures ∙ ap (λ f. rest_type (g.E.RequestEnv.environment c.args.env.now) (get (bare c.args.of.now.value) (rc_str_bytes c.args.attr.now)) (rc_str_bytes c.args.next.now) bs (capabilities_view c.args.held.now) (type_view c.in_ok-next_type.next_type) (and_with (bool_type_view c.args.bool_type) (capabilities_view c.args.given.items) f)) (sym test ∙ c.in_ok-test.ensures) ∙ ap (rest_type (g.E.RequestEnv.environment c.args.env.now) (get (bare c.args.of.now.value) (rc_str_bytes c.args.attr.now)) (rc_str_bytes c.args.next.now) bs (capabilities_view c.args.held.now) (type_view c.in_ok-next_type.next_type)) c.in_ok-found.ensures ∙ ap (λ (y : Tree). rest_type (g.E.RequestEnv.environment c.args.env.now) y (rc_str_bytes c.args.next.now) bs (capabilities_view c.args.held.now) (type_view c.in_ok-next_type.next_type) (typing_view c.in_ok-found.found)) (sym c.in_ok-next_of.ensures)
