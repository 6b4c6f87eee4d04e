use Rattle.std.proofs.Common.{rules, ◌≡◌, ◌∙◌, ap, sym, Some, ◌∷◌}
use Rattle.cedar_language.specs.Value.{ExtensionOf}
use Rattle.cedar_language.specs.Constructing.{constructed, bytes_of}
use Rattle.cedar_language.specs.Order.{all_of}
use Rattle.cedar_restricted.specs.Constructing.{type_in}
use Rattle.cedar_values.specs.Readers.{boolean_in}
use Rattle.cedar_restricted.proofs.Constructions.{read_back}
use Rattle.cedar_restricted.proofs.constructing.constructed.Goals as goal

pub returns : goal.returns
returns c =
    let typed : type_in c.in-Some.first.now ≡ Some c.in-Some-Some.typename.now = search (rules, c.type_of.ensures, c.in-Some-Some.is-0) in
    let told : boolean_in c.in-Some-split_first.second.now ≡ Some c.in-Some-Some.ordered = search (rules, c.as_bool.ensures, c.in-Some-Some.is-1) in
    let bytes : bytes_of (all_of c.in-Some-split_first.longs.now) ≡ Some c.in-Some-2.key.items = search (rules, c.in_ok-key.ensures, c.in-Some-2.is) in
    let parts : c.args.args.now ≡ c.in-Some.first.now ∷ c.in-Some-split_first.second.now ∷ c.in-Some-split_first.longs.now = search rules in
    let named : c.in_ok-clone.field-0 ≡ c.in-Some-Some.typename.now = search rules in
    let made : c.new-2.result ≡ ExtensionOf (record { type_name = c.in-Some-Some.typename.now; ordered = c.in-Some-Some.ordered; key = c.in-Some-2.key.items }) = search (rules, named) in
    ap Some made ∙ read_back _ _ _ _ _ _ typed told bytes ∙ ap (λ vs. constructed (all_of vs)) (sym parts)
