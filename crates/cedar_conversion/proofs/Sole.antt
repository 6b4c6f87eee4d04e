-- What stands alone in an expression or in a sum is all of it: its tree and its faults are the whole's.
use Rattle.std.proofs.Common.{◌≡◌, Option, Some, None, refl, ap, ◌∙◌}
use Rattle.cedar_language.specs.Tree.{Tree}
use Rattle.cedar_grammar.specs.Names.{Names}
use Rattle.cedar_grammar.specs.Steps.{◌>>=◌}
use Rattle.cedar_grammar.specs.Loose as loose
use Rattle.cedar_grammar.specs.Converting.{lone_member, primary_head, a_tree, expr_tree, or_tree, ands_tree, and_tree, relations_tree, relation_tree, adds_tree, add_tree, mults_tree, mult_tree, unaries_tree, unary_tree, member_tree}
use Rattle.cedar_conversion.specs.Alone.{only_or, lone_relation, only_add, only_expr}

-- ---- around what stands alone

abbrev pub around_relation : loose.Relation → loose.Expr
around_relation r = loose.or_expr (loose.or (loose.and r loose.no_relations) loose.no_ands)

abbrev pub around_add : loose.Add → loose.Relation
around_add a = loose.common a loose.no_adds

abbrev pub around_member : loose.Member → loose.Add
around_member m = loose.add (loose.mult (loose.unary None m) loose.no_unaries) loose.no_mults

some_is : {A : Type 0} (x y : A) → Some x ≡ Some y → x ≡ y
some_is x y h = cc h

no_part : {A : Type 0} {x : A} {P : Type 0} → None ≡ Some x → P
no_part h = absurd (cc h)

pub is_around_relation : (e : loose.Expr) (r : loose.Relation) → lone_relation e ≡ Some r → e ≡ around_relation r
is_around_relation loose.missing_expr r h = no_part h
is_around_relation (loose.if_expr x y z) r h = no_part h
is_around_relation (loose.or_expr loose.missing_or) r h = no_part h
is_around_relation (loose.or_expr (loose.or a (loose.an_and b more))) r h = no_part h
is_around_relation (loose.or_expr (loose.or loose.missing_and loose.no_ands)) r h = no_part h
is_around_relation (loose.or_expr (loose.or (loose.and s (loose.a_relation q rs)) loose.no_ands)) r h = no_part h
is_around_relation (loose.or_expr (loose.or (loose.and s loose.no_relations) loose.no_ands)) r h = ap around_relation (some_is s r h)

pub is_around_or : (e : loose.Expr) (o : loose.Or) → only_or e ≡ Some o → e ≡ loose.or_expr o
is_around_or loose.missing_expr o h = no_part h
is_around_or (loose.if_expr x y z) o h = no_part h
is_around_or (loose.or_expr p) o h = ap loose.or_expr (some_is p o h)

pub is_around_add : (r : loose.Relation) (a : loose.Add) → only_add r ≡ Some a → r ≡ around_add a
is_around_add loose.missing_relation a h = no_part h
is_around_add (loose.common x loose.no_adds) a h = ap around_add (some_is x a h)
is_around_add (loose.common x (loose.an_add o b bs)) a h = no_part h
is_around_add (loose.has x f) a h = no_part h
is_around_add (loose.like x p) a h = no_part h
is_around_add (loose.is_type x t) a h = no_part h
is_around_add (loose.is_type_in x t b) a h = no_part h

pub is_bracketed : (p : loose.Primary) (e : loose.Expr) → only_expr p ≡ Some e → p ≡ loose.expr e
is_bracketed loose.missing_primary e h = no_part h
is_bracketed (loose.literal l) e h = no_part h
is_bracketed (loose.entity r) e h = no_part h
is_bracketed (loose.named n) e h = no_part h
is_bracketed (loose.slot s) e h = no_part h
is_bracketed (loose.expr x) e h = ap loose.expr (some_is x e h)
is_bracketed (loose.e_list es) e h = no_part h
is_bracketed (loose.r_inits rs) e h = no_part h

pub is_around_member : (a : loose.Add) (m : loose.Member) → lone_member a ≡ Some m → a ≡ around_member m
is_around_member loose.missing_add m h = no_part h
is_around_member (loose.add loose.missing_mult loose.no_mults) m h = no_part h
is_around_member (loose.add loose.missing_mult (loose.a_mult o n ms)) m h = no_part h
is_around_member (loose.add (loose.mult loose.missing_unary loose.no_unaries) loose.no_mults) m h = no_part h
is_around_member (loose.add (loose.mult loose.missing_unary loose.no_unaries) (loose.a_mult o n ms)) m h = no_part h
is_around_member (loose.add (loose.mult loose.missing_unary (loose.a_unary o u us)) loose.no_mults) m h = no_part h
is_around_member (loose.add (loose.mult loose.missing_unary (loose.a_unary o u us)) (loose.a_mult p n ms)) m h = no_part h
is_around_member (loose.add (loose.mult (loose.unary None n) loose.no_unaries) loose.no_mults) m h = ap around_member (some_is n m h)
is_around_member (loose.add (loose.mult (loose.unary None n) loose.no_unaries) (loose.a_mult o k ms)) m h = no_part h
is_around_member (loose.add (loose.mult (loose.unary None n) (loose.a_unary o u us)) loose.no_mults) m h = no_part h
is_around_member (loose.add (loose.mult (loose.unary None n) (loose.a_unary o u us)) (loose.a_mult p k ms)) m h = no_part h
is_around_member (loose.add (loose.mult (loose.unary (Some s) n) loose.no_unaries) loose.no_mults) m h = no_part h
is_around_member (loose.add (loose.mult (loose.unary (Some s) n) loose.no_unaries) (loose.a_mult o k ms)) m h = no_part h
is_around_member (loose.add (loose.mult (loose.unary (Some s) n) (loose.a_unary o u us)) loose.no_mults) m h = no_part h
is_around_member (loose.add (loose.mult (loose.unary (Some s) n) (loose.a_unary o u us)) (loose.a_mult p k ms)) m h = no_part h

-- ---- the same tree

once : (v : Option Tree) → (v >>= λ x. let z : Option Tree = Some x in z) ≡ v
once None = refl
once (Some x) = refl

twice : (v : Option Tree) → ((v >>= λ x. let z : Option Tree = Some x in z) >>= λ x. let z : Option Tree = Some x in z) ≡ v
twice None = refl
twice (Some x) = refl

module _ (names : Names) where
  pub tree_of_relation : (e : loose.Expr) (r : loose.Relation) → lone_relation e ≡ Some r → expr_tree names e ≡ relation_tree names r
  unfolding expr_tree or_tree ands_tree and_tree relations_tree
  tree_of_relation e r h = ap (expr_tree names) (is_around_relation e r h) ∙ twice (relation_tree names r)

  pub tree_of_or : (e : loose.Expr) (o : loose.Or) → only_or e ≡ Some o → expr_tree names e ≡ or_tree names o
  unfolding expr_tree
  tree_of_or e o h = ap (expr_tree names) (is_around_or e o h)

  pub tree_of_add : (r : loose.Relation) (a : loose.Add) → only_add r ≡ Some a → relation_tree names r ≡ add_tree names a
  unfolding relation_tree adds_tree
  tree_of_add r a h = ap (relation_tree names) (is_around_add r a h) ∙ once (add_tree names a)

  pub tree_of_member : (a : loose.Add) (m : loose.Member) → lone_member a ≡ Some m → add_tree names a ≡ member_tree names m
  unfolding add_tree mults_tree mult_tree unaries_tree unary_tree
  tree_of_member a m h = ap (add_tree names) (is_around_member a m h) ∙ twice (member_tree names m)

  pub head_in_brackets : (p : loose.Primary) (e : loose.Expr) → only_expr p ≡ Some e → primary_head names p ≡ (expr_tree names e >>= λ x. Some (a_tree x))
  unfolding primary_head
  head_in_brackets p e h = ap (primary_head names) (is_bracketed p e h)

-- ---- a node with a value, or without

pub by_value : {A P : Type 0} (x : Option A) → (x ≡ None → P) → ((y : A) → x ≡ Some y → P) → P
by_value None none some = none refl
by_value (Some y) none some = some y refl
