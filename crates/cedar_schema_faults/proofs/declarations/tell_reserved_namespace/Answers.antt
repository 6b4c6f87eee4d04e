-- Of no namespace nothing is told.
use Rattle.std.proofs.Common.{◌≡◌, ◌++◌, Option, sym, ap, ◌∙◌}
use Rattle.std.specs.Prelude.{option_map, unwrap_or, []}
use Rattle.std.specs.List.{list_any}
use Rattle.std.proofs.lemmas.List.{append-nil}
use Rattle.std.proofs.lemmas.Result.{on_ok_weaker}
use Rattle.cedar_schema_grammar.specs.Faults.{where_true, is_cedar, ReservedNamespace}
use Rattle.cedar_schema_syntax.specs.View.{path_view}
use Rattle.cedar_schema_syntax.specs.declared.names.Path.{Path}
use Rattle.cedar_schema_faults.specs.Views.{faults_view}
use Rattle.cedar_schema_faults.proofs.declarations.tell_reserved_namespace.Goals as goal

pub returns-in-Some : goal.returns-in-Some
returns-in-Some c = on_ok_weaker c.tell_reserved_path.result
    (λ e. e ∙ ap (λ (o : Option Path). let p = unwrap_or (option_map path_view o) [] in faults_view c.args.told.now
    ++ where_true (list_any is_cedar p) (ReservedNamespace p)) (sym c.in-Some.is))
    c.tell_reserved_path.ensures

pub returns-in-None : goal.returns-in-None
returns-in-None c = sym (append-nil (faults_view c.args.told.now))
    ∙ ap (λ (o : Option Path). let p = unwrap_or (option_map path_view o) [] in faults_view c.args.told.now
    ++ where_true (list_any is_cedar p) (ReservedNamespace p)) (sym c.in-None.is)
