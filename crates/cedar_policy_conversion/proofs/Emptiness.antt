-- Where a node is missing that would lead to a primary alone, and what is a test of a type.
use Rattle.std.proofs.Common.{◌≡◌, Bool, true, false, Option, Some, None, refl, sym, ap, ◌∙◌}
use Rattle.std.specs.Prelude.{◌≢◌, is_none}
use Rattle.std.specs.Option.{option_map, unwrap_or}
use Rattle.cedar_grammar.specs.Loose as loose
use Rattle.cedar_cst.specs.declared.node.Node.{Node}
use Rattle.cedar_cst.specs.declared.cst.Expr.{Expr, out-Expr, roll-Expr, roll-out-Expr}
use Rattle.cedar_cst.specs.declared.cst.Expr.TheOpen.{Expr-F, ExprData-F, Relation-F}
use Rattle.cedar_cst.specs.declared.cst.Expr.TheOpen as layer
use Rattle.cedar_cst.specs.declared.cst.Expr.TheVariants as expr
use Rattle.cedar_cst.specs.declared.cst.ExprData.{ExprData, out-ExprData, roll-ExprData, roll-out-ExprData}
use Rattle.cedar_cst.specs.declared.cst.ExprData.TheVariants as expr_data
use Rattle.cedar_cst.specs.declared.cst.ExprImpl.{ExprImpl, out-ExprImpl}
use Rattle.cedar_cst.specs.declared.cst.MemAccess.{MemAccess}
use Rattle.cedar_cst.specs.declared.cst.Primary.{Primary}
use Rattle.cedar_cst.specs.declared.cst.Relation.{Relation, out-Relation, roll-Relation, roll-out-Relation}
use Rattle.cedar_cst.specs.declared.cst.Relation.TheVariants as relation
use Rattle.cedar_cst.specs.declared.cst.Add.{Add}
use Rattle.cedar_cst.specs.declared.cst.And.{And}
use Rattle.cedar_cst.specs.declared.cst.Member.{Member}
use Rattle.cedar_cst.specs.declared.cst.Mult.{Mult}
use Rattle.cedar_cst.specs.declared.cst.Or.{Or}
use Rattle.cedar_cst.specs.declared.cst.RecInit.{RecInit}
use Rattle.cedar_cst.specs.declared.cst.Unary.{Unary}
use Rattle.cedar_cst.specs.LeafView.{shown}
use Rattle.cedar_cst.specs.View.{view_expr, view_expr_data, view_or, view_and, view_relation, view_add, view_mult, view_unary, view_member, shown_expr, shown_or, shown_and, shown_relation, shown_add, shown_mult, shown_unary, shown_member}
use Rattle.cedar_cst.proofs.Views.{seen, view_expr_expr, view_expr_impl_out, view_expr_data_or, view_expr_data_if, view_or_out, view_and_out, view_relation_common, view_relation_has, view_relation_like, view_relation_is_type, view_relation_is_type_in, view_add_out, view_mult_out, view_unary_out, view_member_out}
use Rattle.cedar_conversion.specs.Alone.{only_or, only_and, only_relation, only_add, only_mult, only_unary, unsigned}
use Rattle.cedar_policy_conversion.specs.PartsShow.{is_empty_member, is_empty_unary, is_empty_mult, is_empty_add, is_empty_relation, is_empty_and, is_empty_or, is_empty_expr, is_type_relation, is_type_test}

-- ---- what stands alone in a node is missing exactly where it is in the node

pub in_expr : (e : loose.Expr) (o : loose.Or) → only_or e ≡ Some o → is_empty_expr e ≡ is_empty_or o
in_expr loose.missing_expr o h = cc
in_expr (loose.or_expr p) o h = let same : p ≡ o = cc in ap is_empty_or same
in_expr (loose.if_expr a b c) o h = cc

pub in_or : (o : loose.Or) (a : loose.And) → only_and o ≡ Some a → is_empty_or o ≡ is_empty_and a
in_or loose.missing_or a h = cc
in_or (loose.or b loose.no_ands) a h = let same : b ≡ a = cc in ap is_empty_and same
in_or (loose.or b (loose.an_and c more)) a h = cc

pub in_and : (a : loose.And) (r : loose.Relation) → only_relation a ≡ Some r → is_empty_and a ≡ is_empty_relation r
in_and loose.missing_and r h = cc
in_and (loose.and s loose.no_relations) r h = let same : s ≡ r = cc in ap is_empty_relation same
in_and (loose.and s (loose.a_relation t more)) r h = cc

pub in_relation : (r : loose.Relation) (a : loose.Add) → only_add r ≡ Some a → is_empty_relation r ≡ is_empty_add a
in_relation loose.missing_relation a h = cc
in_relation (loose.common b loose.no_adds) a h = let same : b ≡ a = cc in ap is_empty_add same
in_relation (loose.common b (loose.an_add o c more)) a h = cc
in_relation (loose.has b f) a h = cc
in_relation (loose.like b p) a h = cc
in_relation (loose.is_type b t) a h = cc
in_relation (loose.is_type_in b t c) a h = cc

pub in_add : (a : loose.Add) (m : loose.Mult) → only_mult a ≡ Some m → is_empty_add a ≡ is_empty_mult m
in_add loose.missing_add m h = cc
in_add (loose.add n loose.no_mults) m h = let same : n ≡ m = cc in ap is_empty_mult same
in_add (loose.add n (loose.a_mult o k more)) m h = cc

pub in_mult : (m : loose.Mult) (u : loose.Unary) → only_unary m ≡ Some u → is_empty_mult m ≡ is_empty_unary u
in_mult loose.missing_mult u h = cc
in_mult (loose.mult v loose.no_unaries) u h = let same : v ≡ u = cc in ap is_empty_unary same
in_mult (loose.mult v (loose.a_unary o w more)) u h = cc

pub in_unary : (u : loose.Unary) (m : loose.Member) → unsigned u ≡ Some m → is_empty_unary u ≡ is_empty_member m
in_unary loose.missing_unary m h = cc
in_unary (loose.unary None n) m h = let same : n ≡ m = cc in ap is_empty_member same
in_unary (loose.unary (Some o) n) m h = cc

-- ---- where nothing stands alone in what is there, nothing is missing

expr_full : (e : loose.Expr) → e ≢ loose.missing_expr → only_or e ≡ None → is_empty_expr e ≡ false
expr_full loose.missing_expr there h = absurd (there refl)
expr_full (loose.or_expr o) there h = cc
expr_full (loose.if_expr a b c) there h = refl

or_full : (o : loose.Or) → o ≢ loose.missing_or → only_and o ≡ None → is_empty_or o ≡ false
or_full loose.missing_or there h = absurd (there refl)
or_full (loose.or a loose.no_ands) there h = cc
or_full (loose.or a (loose.an_and b more)) there h = refl

and_full : (a : loose.And) → a ≢ loose.missing_and → only_relation a ≡ None → is_empty_and a ≡ false
and_full loose.missing_and there h = absurd (there refl)
and_full (loose.and r loose.no_relations) there h = cc
and_full (loose.and r (loose.a_relation s more)) there h = refl

relation_full : (r : loose.Relation) → r ≢ loose.missing_relation → only_add r ≡ None → is_empty_relation r ≡ false
relation_full loose.missing_relation there h = absurd (there refl)
relation_full (loose.common a loose.no_adds) there h = cc
relation_full (loose.common a (loose.an_add o b more)) there h = refl
relation_full (loose.has a f) there h = refl
relation_full (loose.like a p) there h = refl
relation_full (loose.is_type a t) there h = refl
relation_full (loose.is_type_in a t b) there h = refl

add_full : (a : loose.Add) → a ≢ loose.missing_add → only_mult a ≡ None → is_empty_add a ≡ false
add_full loose.missing_add there h = absurd (there refl)
add_full (loose.add m loose.no_mults) there h = cc
add_full (loose.add m (loose.a_mult o n more)) there h = refl

mult_full : (m : loose.Mult) → m ≢ loose.missing_mult → only_unary m ≡ None → is_empty_mult m ≡ false
mult_full loose.missing_mult there h = absurd (there refl)
mult_full (loose.mult u loose.no_unaries) there h = cc
mult_full (loose.mult u (loose.a_unary o v more)) there h = refl

unary_full : (u : loose.Unary) → u ≢ loose.missing_unary → unsigned u ≡ None → is_empty_unary u ≡ false
unary_full loose.missing_unary there h = absurd (there refl)
unary_full (loose.unary None m) there h = cc
unary_full (loose.unary (Some o) m) there h = refl

member_full : (m : loose.Member) → m ≢ loose.missing_member → is_empty_member m ≡ false
member_full loose.missing_member there = absurd (there refl)
member_full (loose.member p more) there = refl

-- ---- the view of what a node holds is not the missing one

data_there : (d : ExprData) → view_expr_data d ≢ loose.missing_expr
data_there d = by (out-ExprData d) refl
  where
    by : (f : ExprData-F Expr ExprData MemAccess Primary Relation Add And ExprImpl Member Mult Or RecInit Unary) → out-ExprData d ≡ f → view_expr_data d ≢ loose.missing_expr
    by (layer.Or a) e h = let is = view_expr_data_or d a (sym (roll-out-ExprData d) ∙ ap roll-ExprData e ∙ expr_data.rolls-Or a) in cc
    by (layer.If a b c) e h = let is = view_expr_data_if d a b c (sym (roll-out-ExprData d) ∙ ap roll-ExprData e ∙ expr_data.rolls-If a b c) in cc

expr_there : (t : Expr) → view_expr t ≢ loose.missing_expr
expr_there t = by (out-Expr t) refl
  where
    by : (f : Expr-F Expr ExprData MemAccess Primary Relation Add And ExprImpl Member Mult Or RecInit Unary) → out-Expr t ≡ f → view_expr t ≢ loose.missing_expr
    by (layer.Expr::Expr a) e h =
        data_there (out-ExprImpl a).expr.value (sym (view_expr_expr t a (sym (roll-out-Expr t) ∙ ap roll-Expr e ∙ expr.rolls-Expr a) ∙ view_expr_impl_out a) ∙ h)

relation_there : (t : Relation) → view_relation t ≢ loose.missing_relation
relation_there t = by (out-Relation t) refl
  where
    by : (f : Relation-F Expr ExprData MemAccess Primary Relation Add And ExprImpl Member Mult Or RecInit Unary) → out-Relation t ≡ f → view_relation t ≢ loose.missing_relation
    by (layer.Common a b) e h = let is = view_relation_common t a b (sym (roll-out-Relation t) ∙ ap roll-Relation e ∙ relation.rolls-Common a b) in cc
    by (layer.Has a b) e h = let is = view_relation_has t a b (sym (roll-out-Relation t) ∙ ap roll-Relation e ∙ relation.rolls-Has a b) in cc
    by (layer.Like a b) e h = let is = view_relation_like t a b (sym (roll-out-Relation t) ∙ ap roll-Relation e ∙ relation.rolls-Like a b) in cc
    by (layer.IsIn a b None) e h = let is = view_relation_is_type t a b (sym (roll-out-Relation t) ∙ ap roll-Relation e ∙ relation.rolls-IsIn a b None) in cc
    by (layer.IsIn a b (Some c)) e h = let is = view_relation_is_type_in t a b c (sym (roll-out-Relation t) ∙ ap roll-Relation e ∙ relation.rolls-IsIn a b (Some c)) in cc

or_there : (t : Or) → view_or t ≢ loose.missing_or
or_there t h = let is = view_or_out t in cc

and_there : (t : And) → view_and t ≢ loose.missing_and
and_there t h = let is = view_and_out t in cc

add_there : (t : Add) → view_add t ≢ loose.missing_add
add_there t h = let is = view_add_out t in cc

mult_there : (t : Mult) → view_mult t ≢ loose.missing_mult
mult_there t h = let is = view_mult_out t in cc

unary_there : (t : Unary) → view_unary t ≢ loose.missing_unary
unary_there t h = let is = view_unary_out t in cc

member_there : (t : Member) → view_member t ≢ loose.missing_member
member_there t h = let is = view_member_out t in cc

-- ---- of a node in which nothing stands alone

at_node : {A B : Type 0} (missing : B) (view : A → B) (empty : B → Bool) (n : Node (Option A)) → empty missing ≡ true → ((t : A) → n.node ≡ Some t → empty (view t) ≡ false) → is_none n.node ≡ empty (shown missing view n)
at_node {A} {B} missing view empty n lost there = by n.node refl
  where
    by : (o : Option A) → n.node ≡ o → is_none o ≡ empty (unwrap_or (option_map view o) missing)
    by None is = sym lost
    by (Some t) is = sym (there t is)

pub no_or : (n : Node (Option Expr)) → only_or (shown_expr n) ≡ None → is_none n.node ≡ is_empty_expr (shown_expr n)
no_or n h = at_node loose.missing_expr view_expr is_empty_expr n refl (λ t is. expr_full (view_expr t) (expr_there t) (ap only_or (sym (seen loose.missing_expr view_expr n t is)) ∙ h))

pub no_and : (n : Node (Option Or)) → only_and (shown_or n) ≡ None → is_none n.node ≡ is_empty_or (shown_or n)
no_and n h = at_node loose.missing_or view_or is_empty_or n refl (λ t is. or_full (view_or t) (or_there t) (ap only_and (sym (seen loose.missing_or view_or n t is)) ∙ h))

pub no_relation : (n : Node (Option And)) → only_relation (shown_and n) ≡ None → is_none n.node ≡ is_empty_and (shown_and n)
no_relation n h = at_node loose.missing_and view_and is_empty_and n refl (λ t is. and_full (view_and t) (and_there t) (ap only_relation (sym (seen loose.missing_and view_and n t is)) ∙ h))

pub no_add : (n : Node (Option Relation)) → only_add (shown_relation n) ≡ None → is_none n.node ≡ is_empty_relation (shown_relation n)
no_add n h = at_node loose.missing_relation view_relation is_empty_relation n refl (λ t is. relation_full (view_relation t) (relation_there t) (ap only_add (sym (seen loose.missing_relation view_relation n t is)) ∙ h))

pub no_mult : (n : Node (Option Add)) → only_mult (shown_add n) ≡ None → is_none n.node ≡ is_empty_add (shown_add n)
no_mult n h = at_node loose.missing_add view_add is_empty_add n refl (λ t is. add_full (view_add t) (add_there t) (ap only_mult (sym (seen loose.missing_add view_add n t is)) ∙ h))

pub no_unary : (n : Node (Option Mult)) → only_unary (shown_mult n) ≡ None → is_none n.node ≡ is_empty_mult (shown_mult n)
no_unary n h = at_node loose.missing_mult view_mult is_empty_mult n refl (λ t is. mult_full (view_mult t) (mult_there t) (ap only_unary (sym (seen loose.missing_mult view_mult n t is)) ∙ h))

pub no_member : (n : Node (Option Unary)) → unsigned (shown_unary n) ≡ None → is_none n.node ≡ is_empty_unary (shown_unary n)
no_member n h = at_node loose.missing_unary view_unary is_empty_unary n refl (λ t is. unary_full (view_unary t) (unary_there t) (ap unsigned (sym (seen loose.missing_unary view_unary n t is)) ∙ h))

pub a_member : (n : Node (Option Member)) → is_none n.node ≡ is_empty_member (shown_member n)
a_member n = at_node loose.missing_member view_member is_empty_member n refl (λ t is. member_full (view_member t) (member_there t))

-- ---- a test of a type

test_or : (e : loose.Expr) (o : loose.Or) (a : loose.And) (r : loose.Relation) → e ≡ loose.or_expr o → o ≡ loose.or a loose.no_ands → a ≡ loose.and r loose.no_relations → is_type_test e ≡ is_type_relation r
test_or e o a r he ho ha = ap is_type_test (he ∙ ap loose.or_expr (ho ∙ ap (λ b. loose.or b loose.no_ands) ha))

or_is : (e : loose.Expr) (o : loose.Or) → only_or e ≡ Some o → e ≡ loose.or_expr o
or_is loose.missing_expr o h = cc
or_is (loose.or_expr p) o h = let same : p ≡ o = cc in ap loose.or_expr same
or_is (loose.if_expr a b c) o h = cc

and_is : (o : loose.Or) (a : loose.And) → only_and o ≡ Some a → o ≡ loose.or a loose.no_ands
and_is loose.missing_or a h = cc
and_is (loose.or b loose.no_ands) a h = let same : b ≡ a = cc in ap (λ x. loose.or x loose.no_ands) same
and_is (loose.or b (loose.an_and c more)) a h = cc

relation_is : (a : loose.And) (r : loose.Relation) → only_relation a ≡ Some r → a ≡ loose.and r loose.no_relations
relation_is loose.missing_and r h = cc
relation_is (loose.and s loose.no_relations) r h = let same : s ≡ r = cc in ap (λ x. loose.and x loose.no_relations) same
relation_is (loose.and s (loose.a_relation t more)) r h = cc

pub test_at : (e : loose.Expr) (o : loose.Or) (a : loose.And) (r : loose.Relation) → only_or e ≡ Some o → only_and o ≡ Some a → only_relation a ≡ Some r → is_type_test e ≡ is_type_relation r
test_at e o a r he ho ha = test_or e o a r (or_is e o he) (and_is o a ho) (relation_is a r ha)
