-- A record has what its entries have; other values are looked at as entities.
use Rattle.std.proofs.Common.{◌≡◌, Some, ap, sym, ◌∙◌, BTreeMap, Global}
use Rattle.std.specs.declared.rc.RcStr.{RcStr}
use Rattle.cedar_language.specs.Value.{Value, RecordAttrDoesNotExist}
use Rattle.cedar_language.specs.Operators.{found, or_fails, attribute}
use Rattle.cedar_values.specs.Kinds.{keys_of, values_of}
use Rattle.cedar_operators.proofs.ByLookup.{shows_on, of_record}
use Rattle.cedar_operators.proofs.lookups.find.Goals as goal

pub returns-in-Some : goal.returns-in-Some
returns-in-Some c = λ facts f.
    let same = ap (λ (m : BTreeMap (RcStr Global) Value). Some (keys_of m.entries, values_of m.entries)) (sym c.deref.ensures) in
    let ks = keys_of c.deref.result.now.entries in
    let vs = values_of c.deref.result.now.entries in
    shows_on (λ o. or_fails RecordAttrDoesNotExist (found ks vs c.args.attr.now) ≡ o) (λ o. attribute facts c.args.attr.now c.args.of.now ≡ o) (λ o g. of_record facts c.args.attr.now c.args.of.now (ks, vs) (c.in-Some.ensures ∙ same) ∙ g) c.in_record.result c.in_record.ensures

pub returns-in-None : goal.returns-in-None
returns-in-None c = λ facts f. c.find_in_entity.ensures facts f c.in-None.ensures
