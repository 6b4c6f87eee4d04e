-- None of the identifiers is reserved.
use Rattle.std.proofs.Common.{rules, ◌≡◌, ap, sym, ◌∙◌, true, false, ◌∷◌, ◌++◌, []}
use Rattle.cedar_names.specs.Names.{is_reserved_name}
use Rattle.cedar_validator.proofs.Naming.{none_reserved}
use Rattle.cedar_validator.proofs.names.name_of_ids.Goals as goal

pub unreachable-requires : goal.unreachable-requires
unreachable-requires c =
    let popped : c.args.ids.items ≡ c.pop.new.self.items ++ c.in-Some.basename ∷ [] = search rules in
    let named : c.in_ok-name.name ≡ c.args.ids.items = c.in_ok-name.ensures ∙ sym popped in
    let free : is_reserved_name c.in_ok-name.name ≡ false = ap is_reserved_name named ∙ none_reserved c.args.ids.items c.requires in
    let reserved : is_reserved_name c.in_ok-name.name ≡ true = c.in-Err.ensures.1 in
    let contradiction : true ≡ false = sym reserved ∙ free in
    cc
