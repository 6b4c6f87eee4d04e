-- The parents that are written are those of the body.
use Rattle.std.proofs.Common.{◌≡◌, sym, ap, ◌∙◌}
use Rattle.std.proofs.lemmas.Result.{IfOk-weaker}
use Rattle.cedar_schema_grammar.specs.Declared.{Declared}
use Rattle.cedar_schema_grammar.specs.Resolving.{body_parents}
use Rattle.cedar_schema_syntax.specs.View.{paths_view}
use Rattle.cedar_schema_resolution.specs.Declarations.{body_view}
use Rattle.cedar_schema_resolution.specs.Parents.{AreNamesOf, all_named}
use Rattle.cedar_schema_resolution.proofs.Parenting.{found_are}
use Rattle.cedar_schema_resolution.proofs.declarations.DeclaredEntity.parents.Goals as goal

pub returns-in-Shaped : goal.returns-in-Shaped
returns-in-Shaped c =
    let names = c.args.names.now in
    let ps = c.in-Shaped.written.now.parents.items in
    IfOk-weaker c.all_named.result
    (λ found. found.items ≡ all_named names c.words.result.now (paths_view c.deref.result.now))
    (λ found. (d : Declared) → AreNamesOf d names → found.items ≡ body_parents d c.args.self.now.namespace (body_view c.args.self.now.body))
    (λ found e d are. e ∙ ap (λ n. all_named names n (paths_view c.deref.result.now)) c.words.ensures
    ∙ ap (λ xs. all_named names c.args.self.now.namespace (paths_view xs)) c.deref.ensures.value
    ∙ found_are d names are c.args.self.now.namespace (paths_view ps)
    ∙ sym (ap (body_parents d c.args.self.now.namespace) (ap body_view c.in-Shaped.is)))
    c.all_named.ensures
