-- Answers as values of JSON.
use Rattle.std.proofs.Common.{◌≡◌, ℕ, ◌≤◌, Bool, true, ◌&&◌, Option, Some, None, is_some, List, [], ◌∷◌, ◌++◌, refl, ap, ◌∙◌, arith, rules}
use Rattle.std.specs.Borrow.{Bor}
use Rattle.std.specs.FinMap as finite
use Rattle.json.specs.Json.{string, Items, item, max_depth}
use Rattle.json.specs.Tree.{depth, items_depth, HasNumbers, ItemsHaveNumbers}
use Rattle.json.specs.Value.{value_view, items_view}
use Rattle.json.specs.declared.value.Value.{Value, String, the_lemmas}
use Rattle.cedar_language.specs.Answering.{Decision}
use Rattle.cedar_language.specs.Uid.{Text}
use Rattle.cedar_language.specs.Value.{Kind}
use Rattle.cedar_world.specs.Answer.{Answer}
use Rattle.cedar_world.specs.Lines.{kind_name}
use Rattle.cedar_replies.specs.declared.error_kind.ErrorKind.{ErrorKind}
use Rattle.cedar_replies.specs.declared.error_kind.ErrorKind.TheVariants as kinds
use Rattle.cedar_replies.specs.Erring.{have_kinds, with_kinds, and_kind}
use Rattle.cedar_replies.specs.Kinds.{kind_of, error_name}
use Rattle.cedar_json.specs.Answers.{decision_json, strings, error_told, errors, answer_json, errors_told}
use Rattle.cedar_json.specs.Bodies.{before}

-- ---- lists that grow at their end

module _ {A : Type 0} where
  pub item_pushed : (vs : List (Value A)) (v : Value A) (rest : Items)
      → before (items_view (vs ++ v ∷ [])) rest ≡ before (items_view vs) (item (value_view v) rest)
  item_pushed [] v rest = refl
  item_pushed (w ∷ vs) v rest = ap (item (value_view w)) (item_pushed vs v rest)

pub view-String : (A : Type 0) (s : Bor (List ℕ)) → value_view {A = A} (String s) ≡ string s.now
view-String A s = search (rules, the_lemmas)

-- ---- names of kinds

some_same : {A : Type 0} {x y : A} → Some x ≡ Some y → x ≡ y
some_same e = cc

kind_named : (k : ErrorKind) (kind : Kind) → kind_of k ≡ Some kind → error_name k ≡ kind_name kind
kind_named kinds.EntityDoesNotExist kind e = ap kind_name (some_same e)
kind_named kinds.EntityAttrDoesNotExist kind e = ap kind_name (some_same e)
kind_named kinds.RecordAttrDoesNotExist kind e = ap kind_name (some_same e)
kind_named kinds.FailedExtensionFunctionLookup kind e = ap kind_name (some_same e)
kind_named kinds.TypeError kind e = ap kind_name (some_same e)
kind_named kinds.WrongNumArguments kind e = ap kind_name (some_same e)
kind_named kinds.IntegerOverflow kind e = ap kind_name (some_same e)
kind_named kinds.UnlinkedSlot kind e = ap kind_name (some_same e)
kind_named kinds.FailedExtensionFunctionExecution kind e = ap kind_name (some_same e)
kind_named kinds.NonValue kind e = ap kind_name (some_same e)
kind_named kinds.RecursionLimit kind e = absurd (cc e)
kind_named kinds.Memory kind e = absurd (cc e)

told_by : (e : Text × ErrorKind) (o : Option Kind) (b : Bool) (rest : List (Text × Kind)) (others : Items) → kind_of e.1 ≡ o → (is_some o && b) ≡ true
    → (b ≡ true → others ≡ errors rest) → item (error_told e.0 (error_name e.1)) others ≡ errors (and_kind e.0 o rest)
told_by e None b rest others f h g = absurd (cc h)
told_by e (Some kind) b rest others f h g =
    ap (λ s. item (error_told e.0 s) others) (kind_named e.1 kind f) ∙ ap (item (error_told e.0 (kind_name kind))) (g h)

pub told_errors : (es : List (Text × ErrorKind)) → have_kinds es ≡ true → errors_told es ≡ errors (with_kinds es)
told_errors [] h = refl
told_errors (e ∷ es) h = told_by e (kind_of e.1) (have_kinds es) (with_kinds es) (errors_told es) refl h (told_errors es)

-- ---- numbers and depth

strings_numbers : (ss : List Text) → ItemsHaveNumbers (strings ss)
strings_numbers [] = tt
strings_numbers (s ∷ ss) = (tt, strings_numbers ss)

errors_numbers : (es : List (Text × Kind)) → ItemsHaveNumbers (errors es)
errors_numbers [] = tt
errors_numbers (e ∷ es) = ((tt, ((tt, (tt, tt)), tt)), errors_numbers es)

decision_numbers : (o : Option Decision) → HasNumbers (decision_json o)
decision_numbers None = tt
decision_numbers (Some d) = tt

pub answer_numbers : (a : Answer) → HasNumbers (answer_json a)
answer_numbers a = (decision_numbers a.decision, ((strings_numbers (finite.keys a.must), (errors_numbers (finite.entries a.erring), tt)), tt))

strings_depth : (ss : List Text) → items_depth (strings ss) ≡ 0
strings_depth [] = refl
strings_depth (s ∷ ss) = let more = strings_depth ss in omega (arith, more)

errors_depth : (es : List (Text × Kind)) → items_depth (errors es) ≤ 2
errors_depth [] = omega arith
errors_depth (e ∷ es) = let more = errors_depth es in omega (arith, more)

decision_depth : (o : Option Decision) → depth (decision_json o) ≡ 0
decision_depth None = refl
decision_depth (Some d) = refl

pub answer_depth : (a : Answer) → depth (answer_json a) ≤ max_depth
answer_depth a =
    let d = decision_depth a.decision in
    let m = strings_depth (finite.keys a.must) in
    let e = errors_depth (finite.entries a.erring) in
    omega (arith, d, m, e)
