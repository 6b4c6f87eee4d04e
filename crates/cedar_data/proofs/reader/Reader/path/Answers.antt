-- A path grows by the identifier behind each separator.
use Rattle.std.proofs.Common.{rules, ◌++◌, [], ◌∷◌, map, arith}
use Rattle.std.proofs.lemmas.List.{map_push}
use Rattle.std.proofs.lemmas.List.Elements.{All-nil, All-push}
use Rattle.cedar_names.specs.Identifiers.{IsUnreservedId}
use Rattle.cedar_data.proofs.Rules.{path_starts, path_more}
use Rattle.cedar_data.proofs.reader.Reader.path.Goals as goal

pub path-init : goal.path-init
path-init c = record {
  reads = rw c.new-namespace.ensures.items (path_starts c.args.first.now c.args.self.now c.requires);
  namespace = rw c.new-namespace.ensures.items (All-nil (λ word. IsUnreservedId word.now));
  basename = c.requires;
  utf8 = c.utf8.first;
}

pub path-preserved : goal.path-preserved
path-preserved c = record {
  reads =
      rw (c.in_ok-push.ensures.items, map_push)
      (path_more c.args.first.now c.args.self.now (map (λ word. word.now) c.path.namespace.items ++ c.path.last.now ∷ []) c.in_ok-next.next.now c.path.self c.eat_separator.new.self c.identifier.new.self c.in_ok-next.ensures.unreserved c.path.invariant.reads c.path-test.ensures c.in_ok-next.ensures.taken);
  namespace = rw c.in_ok-push.ensures.items (All-push (λ word. IsUnreservedId word.now) c.path.namespace.items c.path.last c.path.invariant.namespace c.path.invariant.basename);
  basename = c.in_ok-next.ensures.unreserved;
  utf8 = search rules;
}

pub path-smaller : goal.path-smaller
path-smaller c = let one = c.path-test.ensures.shorter in let two = c.in_ok-next.ensures.taken.shorter in omega arith
