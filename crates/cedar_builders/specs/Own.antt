-- The own builder: it means bare trees, and refuses a key that stands twice in a record.
use Rattle.std.specs.Prelude.{refl, List, [], ◌∷◌, Ok}
use Rattle.cedar_language.specs.Uid.{Text}
use Rattle.cedar_language.specs.Tree.{Operator, HasPath, HasAttr, Call, Tree, Lit, Var, Slot, Unknown, If, Apply}
use Rattle.cedar_grammar.specs.Build.{trees, unary, conjunction, disjunction}
use Rattle.cedar_trees.specs.Records.{record_made}
use Rattle.cedar_trees.specs.RecordLaws.{distinct_records}
use Rattle.cedar_builders.specs.Operations.{Operations, IsLawful}

-- a path of one attribute is that attribute
abbrev pub own_apply : Operator → List Tree → Tree
own_apply (HasPath a []) (t ∷ []) = unary (HasAttr a) t
own_apply op ts = Apply op (trees ts)

abbrev pub own_operations : Operations Tree Text
own_operations = record {
  val = Lit;
  var = Var;
  slot = Slot;
  unknown = Unknown;
  ite = If;
  and = conjunction;
  or = disjunction;
  apply = own_apply;
  call = λ f ts. Ok (Apply (Call f) (trees ts));
  record_of = record_made;
}

pub own_lawful : IsLawful own_operations
own_lawful = record {
  and_of_literals = λ a b. refl;
  or_of_literals = λ a b. refl;
  one_attribute = λ a t. refl;
  distinct_keys = distinct_records;
}
