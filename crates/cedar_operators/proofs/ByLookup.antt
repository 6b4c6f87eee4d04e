-- Attributes, by what they are looked up in.
use Rattle.std.proofs.Common.{◌≡◌, ◌<◌, ◌+◌, ℕ, Bool, cond, Option, None, Some, option_map, List, [], ◌∷◌, map, length, get_or, drop, drop-cons, add-one, Result, Ok, Err, refl, sym, ap, ◌∙◌}
use Rattle.std.specs.Cmp.Lexicographic.{nat_list_eq_equiv, texts_ties}
use Rattle.std.specs.Map.{lookup}
use Rattle.std.specs.BTreeMap.{is_at}
use Rattle.std.specs.Rc.{rc_str_bytes}
use Rattle.either.specs.declared.Either.TheVariants.{Left, Right}
use Rattle.std.specs.declared.rc.RcStr.{RcStr}
use Rattle.std.specs.declared.alloc.Global.{Global}
use Rattle.cedar_language.specs.Uid.{Text, Uid}
use Rattle.cedar_language.specs.Tree.{Boolean, Long, String, Entity, Tree}
use Rattle.cedar_language.specs.Value.{Value, Plain, SetOf, RecordOf, ExtensionOf, Kind, RecordAttrDoesNotExist, TypeError, Outcome, Gives, Fails}
use Rattle.cedar_language.specs.Order.{same_text, text_cmp}
use Rattle.cedar_language.specs.Operators.{found, or_fails, attribute, attribute_held, is_there, path_from}
use Rattle.cedar_language.specs.Facts.{Facts}
use Rattle.cedar_values.specs.Kinds.{keys_of, values_of}
use Rattle.cedar_extensions.specs.Failures.{failure_of}
use Rattle.cedar_extensions.specs.Giving.{GivesBy, fails_on}
use Rattle.cedar_extensions.specs.declared.evaluation_error.EvaluationError.{EvaluationError}
use Rattle.cedar_restricted.specs.PartialValues.{partial_of}
use Rattle.cedar_restricted.specs.declared.partial_values.PartialValue.{PartialValue}
use Rattle.cedar_restricted.specs.declared.partial_values.PartialValue.TheVariants as partial
use Rattle.cedar_trees.specs.Bare.{bare}
use Rattle.cedar_trees.specs.declared.expr.Expr.{Expr}
use Rattle.cedar_entities.specs.Attributes.{Attribute}
use Rattle.cedar_value_operators.specs.Operands.{uid_in}
use Rattle.cedar_operators.specs.Lookups.{Record, record_in, Shows}
use Rattle.cedar_operators.specs.declared.lookups.Lookup.{Lookup}
use Rattle.cedar_operators.specs.declared.lookups.Lookup.TheVariants as looked

-- ---- what has attributes

pub of_record : (facts : Facts) (a : Text) (v : Value) (r : Record) → record_in v ≡ Some r → attribute facts a v ≡ or_fails RecordAttrDoesNotExist (found r.0 r.1 a)
of_record facts a (Plain l) r e = cc
of_record facts a (SetOf vs) r e = cc
of_record facts a (RecordOf ks vs) r e = let same : (ks, vs) ≡ r = cc in ap (λ (x : Record). or_fails RecordAttrDoesNotExist (found x.0 x.1 a)) same
of_record facts a (ExtensionOf x) r e = cc

pub of_entity : (facts : Facts) (a : Text) (v : Value) (u : Uid) → uid_in v ≡ Some u → attribute facts a v ≡ attribute_held a (facts.entity u)
of_entity facts a (Plain (Boolean b)) u e = cc
of_entity facts a (Plain (Long n)) u e = cc
of_entity facts a (Plain (String s)) u e = cc
of_entity facts a (Plain (Entity w)) u e = let same : w ≡ u = cc in ap (λ x. attribute_held a (facts.entity x)) same
of_entity facts a (SetOf vs) u e = cc
of_entity facts a (RecordOf ks vs) u e = cc
of_entity facts a (ExtensionOf x) u e = cc

pub of_others : (facts : Facts) (a : Text) (v : Value) → record_in v ≡ None → uid_in v ≡ None → attribute facts a v ≡ Fails TypeError
of_others facts a (Plain (Boolean b)) e f = refl
of_others facts a (Plain (Long n)) e f = refl
of_others facts a (Plain (String s)) e f = refl
of_others facts a (Plain (Entity w)) e f = cc
of_others facts a (SetOf vs) e f = refl
of_others facts a (RecordOf ks vs) e f = cc
of_others facts a (ExtensionOf x) e f = refl

-- ---- a record's entries

abbrev pub Entries : Type 0
Entries = List (RcStr Global × Value)

abbrev pub is_name : Text → RcStr Global → Bool
is_name a = is_at (λ (x : RcStr Global). text_cmp a (rc_str_bytes x))

test_is : (a : Text) (k : RcStr Global) → same_text (rc_str_bytes k) a ≡ is_name a k
test_is a k = nat_list_eq_equiv.symm (rc_str_bytes k) a ∙ texts_ties a (rc_str_bytes k)

found_is : (es : Entries) (a : Text) → found (keys_of es) (values_of es) a ≡ lookup (is_name a) es
found_is [] a = refl
found_is (e ∷ es) a =
    ap (λ b. cond b (Some e.1) (found (keys_of es) (values_of es) a)) (test_is a e.0)
    ∙ ap (λ o. cond (is_name a e.0) (Some e.1) o) (found_is es a)

pub entry_found : (es : Entries) (a : Text) (v : Value) → Some v ≡ lookup (is_name a) es → or_fails RecordAttrDoesNotExist (found (keys_of es) (values_of es) a) ≡ Gives v
entry_found es a v e = ap (or_fails RecordAttrDoesNotExist) (found_is es a ∙ sym e)

pub entry_missing : (es : Entries) (a : Text) → None ≡ lookup (is_name a) es → or_fails RecordAttrDoesNotExist (found (keys_of es) (values_of es) a) ≡ Fails RecordAttrDoesNotExist
entry_missing es a e = ap (or_fails RecordAttrDoesNotExist) (found_is es a ∙ sym e)

-- ---- what a look-up shows

pub shows_on : (P Q : Outcome → Type 0) → ((o : Outcome) → P o → Q o) → (l : Lookup) → Shows P l → Shows Q l
shows_on P Q on (looked.Value v) h = on (Gives v.now) h
shows_on P Q on (looked.Residual e) h = h
shows_on P Q on (looked.NoEntity u) h = on _ h
shows_on P Q on (looked.NoAttribute u) h = on _ h
shows_on P Q on looked.NoKey h = on _ h

pub gives_on : (P Q : Outcome → Type 0) (Errs Others : Kind → Type 0) → ((o : Outcome) → P o → Q o) → ((k : Kind) → Errs k → Others k) → (r : Result Lookup EvaluationError) → GivesBy (Shows P) Errs ⊥ r → GivesBy (Shows Q) Others ⊥ r
gives_on P Q Errs Others on alike (Ok l) h = shows_on P Q on l h
gives_on P Q Errs Others on alike (Err e) h = fails_on (failure_of e) alike (λ d. d) h

-- ---- what stands at a name, and what the facts have there

abbrev pub written : Value → Attribute
written v = Left v

pub value_there : (o : Option Value) (p : Attribute) → Some p ≡ option_map written o → (v : Value) × (o ≡ Some v) × (p ≡ written v)
value_there None p e = cc
value_there (Some w) p e = let same : p ≡ written w = cc in (w, refl, same)

pub none_there : (o : Option Value) → None ≡ option_map written o → o ≡ None
none_there None e = refl
none_there (Some w) e = cc

left_is : (v w : Value) → written v ≡ written w → w ≡ v
left_is v w e = cc

abbrev left_over : Tree → Attribute
left_over t = Right t

no_value : (t : Tree) (v : Value) → left_over t ≡ written v → ⊥
no_value t v e = cc

pub part_shows : (p : PartialValue) (v w : Value) → p ≡ partial.Value w → partial_of p ≡ written v → Gives v ≡ Gives w
part_shows p v w is e = ap Gives (left_is w v (sym (ap partial_of is) ∙ e))

pub part_is_value : (p : PartialValue) (v : Value) (e : Expr (Unit {0})) → p ≡ partial.Residual e → partial_of p ≡ written v → ⊥
part_is_value p v e is h = no_value (bare e) v (sym (ap partial_of is) ∙ h)

-- the part that is held shows what the facts have
pub held_shows : (kind : Kind) (o : Option Value) (p : Attribute) (l : Lookup) → Some p ≡ option_map written o → ((v : Value) → p ≡ written v → Shows (λ x. Gives v ≡ x) l) → Shows (λ x. or_fails kind o ≡ x) l
held_shows kind o p l e given = let there = value_there o p e in shows_on (λ x. Gives there.0 ≡ x) (λ x. or_fails kind o ≡ x) (λ x h. ap (or_fails kind) there.1 ∙ h) l (given there.0 there.2)

-- ---- chains

pub path_stops : (facts : Facts) (as_ : List Text) (k : Kind) → path_from facts as_ (Fails k) ≡ is_there (Fails k)
path_stops facts [] k = refl
path_stops facts (a ∷ as_) k = refl

pub path_errs : (facts : Facts) (as_ : List Text) (k : Kind) → k ≡ TypeError → path_from facts as_ (Fails k) ≡ Fails k
path_errs facts as_ k e = path_stops facts as_ k ∙ ap (λ x. is_there (Fails x)) e ∙ ap Fails (sym e)

pub path_goes_on : (facts : Facts) (a : Text) (as_ : List Text) (v : Value) (meant : Outcome) → path_from facts as_ (attribute facts a v) ≡ meant → (r : Result Lookup EvaluationError) →
    GivesBy (Shows (λ o. attribute facts a v ≡ o)) (λ k. (attribute facts a v ≡ Fails k) × (k ≡ TypeError)) ⊥ r → GivesBy (Shows (λ o. path_from facts as_ o ≡ meant)) (λ k. meant ≡ Fails k) ⊥ r
path_goes_on facts a as_ v meant h r g =
    gives_on (λ o. attribute facts a v ≡ o) (λ o. path_from facts as_ o ≡ meant) (λ k. (attribute facts a v ≡ Fails k) × (k ≡ TypeError)) (λ k. meant ≡ Fails k)
    (λ o e. sym (ap (path_from facts as_) e) ∙ h) (λ k e. sym h ∙ ap (path_from facts as_) e.0 ∙ path_errs facts as_ k e.1) r g

pub names_cut : (names : List (RcStr Global)) (i : ℕ) (x : RcStr Global) → i < length names → x ≡ get_or names i x → map rc_str_bytes (drop i names) ≡ rc_str_bytes x ∷ map rc_str_bytes (drop (i + 1) names)
names_cut names i x lt is = let cut : drop i names ≡ x ∷ drop (i + 1) names = rw (add-one, drop-cons names i x lt, ← is) refl in ap (map rc_str_bytes) cut

-- a chain that has one more name
pub path_cut : (facts : Facts) (names : List (RcStr Global)) (i : ℕ) (x : RcStr Global) (meant : Outcome) (l : Lookup) → i < length names → x ≡ get_or names i x →
    Shows (λ o. path_from facts (map rc_str_bytes (drop i names)) o ≡ meant) l → Shows (λ o. path_from facts (rc_str_bytes x ∷ map rc_str_bytes (drop (i + 1) names)) o ≡ meant) l
path_cut facts names i x meant l lt is h =
    shows_on (λ o. path_from facts (map rc_str_bytes (drop i names)) o ≡ meant) (λ o. path_from facts (rc_str_bytes x ∷ map rc_str_bytes (drop (i + 1) names)) o ≡ meant) (λ o e. sym (ap (λ as_. path_from facts as_ o) (names_cut names i x lt is)) ∙ e) l h

pub path_ends : (facts : Facts) (names : List (RcStr Global)) (meant : Outcome) (l : Lookup) → names ≡ [] → Shows (λ o. path_from facts (map rc_str_bytes names) o ≡ meant) l → Shows (λ o. is_there o ≡ meant) l
path_ends facts names meant l none h =
    shows_on (λ o. path_from facts (map rc_str_bytes names) o ≡ meant) (λ o. is_there o ≡ meant) (λ o e. sym (ap (λ (as_ : List (RcStr Global)). path_from facts (map rc_str_bytes as_) o) none) ∙ e) l h

pub there_errs : (k : Kind) → k ≡ TypeError → is_there (Fails k) ≡ Fails k
there_errs k e = ap (λ x. is_there (Fails x)) e ∙ ap Fails (sym e)
