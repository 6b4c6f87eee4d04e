-- What stands alone in parentheses, one pair at a time.
use Rattle.std.proofs.Common.{◌≡◌, ℕ, suc, Some, None, refl, ap, ◌∙◌}
use Rattle.cedar_grammar.proofs.Parts.{bind_some}
use Rattle.cedar_grammar.specs.Loose as loose
use Rattle.cedar_grammar.specs.Converting.{lone_member, without_accesses, lone_primary, lone_add, alone, inside_parens, opened}
use Rattle.cedar_policy_conversion.specs.Entities.{in_parens}
use Rattle.cedar_policy_conversion.specs.PartsShow.{is_empty_expr, is_empty_inside, is_empty_primary}

-- a primary, as an expression
abbrev summed : loose.Add → loose.Expr
summed a = loose.or_expr (loose.or (loose.and (loose.common a loose.no_adds) loose.no_relations) loose.no_ands)

abbrev multiplied : loose.Member → loose.Add
multiplied m = loose.add (loose.mult (loose.unary None m) loose.no_unaries) loose.no_mults

abbrev wrapped : loose.Primary → loose.Expr
wrapped p = summed (multiplied (loose.member p loose.no_accesses))

sum_alone : (e : loose.Expr) (a : loose.Add) → lone_add e ≡ Some a → e ≡ summed a
sum_alone loose.missing_expr a h = cc
sum_alone (loose.if_expr x y z) a h = cc
sum_alone (loose.or_expr loose.missing_or) a h = cc
sum_alone (loose.or_expr (loose.or loose.missing_and ns)) a h = cc
sum_alone (loose.or_expr (loose.or (loose.and loose.missing_relation rs) ns)) a h = cc
sum_alone (loose.or_expr (loose.or (loose.and (loose.common b (loose.an_add o d bs)) rs) ns)) a h = cc
sum_alone (loose.or_expr (loose.or (loose.and (loose.common b loose.no_adds) (loose.a_relation r rs)) ns)) a h = cc
sum_alone (loose.or_expr (loose.or (loose.and (loose.common b loose.no_adds) loose.no_relations) (loose.an_and n ns))) a h = cc
sum_alone (loose.or_expr (loose.or (loose.and (loose.common b loose.no_adds) loose.no_relations) loose.no_ands)) a h = let same : b ≡ a = cc in ap summed same
sum_alone (loose.or_expr (loose.or (loose.and (loose.has b f) rs) ns)) a h = cc
sum_alone (loose.or_expr (loose.or (loose.and (loose.like b p) rs) ns)) a h = cc
sum_alone (loose.or_expr (loose.or (loose.and (loose.is_type b t) rs) ns)) a h = cc
sum_alone (loose.or_expr (loose.or (loose.and (loose.is_type_in b t d) rs) ns)) a h = cc

product_alone : (a : loose.Add) (m : loose.Member) → lone_member a ≡ Some m → a ≡ multiplied m
product_alone loose.missing_add m h = cc
product_alone (loose.add loose.missing_mult ms) m h = cc
product_alone (loose.add (loose.mult loose.missing_unary us) ms) m h = cc
product_alone (loose.add (loose.mult (loose.unary (Some s) n) us) ms) m h = cc
product_alone (loose.add (loose.mult (loose.unary None n) (loose.a_unary o u us)) ms) m h = cc
product_alone (loose.add (loose.mult (loose.unary None n) loose.no_unaries) (loose.a_mult o p ms)) m h = cc
product_alone (loose.add (loose.mult (loose.unary None n) loose.no_unaries) loose.no_mults) m h = let same : n ≡ m = cc in ap multiplied same

member_alone : (m : loose.Member) (p : loose.Primary) → without_accesses m ≡ Some p → m ≡ loose.member p loose.no_accesses
member_alone loose.missing_member p h = cc
member_alone (loose.member q (loose.an_access x xs)) p h = cc
member_alone (loose.member q loose.no_accesses) p h = let same : q ≡ p = cc in ap (λ x. loose.member x loose.no_accesses) same

primary_alone : (e : loose.Expr) (p : loose.Primary) → alone e ≡ Some p → e ≡ wrapped p
primary_alone e p h =
    let a = bind_some (lone_add e) lone_primary h in
    let m = bind_some (lone_member a.0) without_accesses a.2 in
    sum_alone e a.0 a.1 ∙ ap summed (product_alone a.0 m.0 m.1) ∙ ap (λ x. summed (multiplied x)) (member_alone m.0 p m.2)

-- where none stands alone, none does in parentheses
pub none_inside : (e : loose.Expr) → alone e ≡ None → inside_parens e ≡ None
unfolding inside_parens
none_inside loose.missing_expr h = refl
none_inside (loose.if_expr x y z) h = refl
none_inside (loose.or_expr loose.missing_or) h = refl
none_inside (loose.or_expr (loose.or loose.missing_and ns)) h = refl
none_inside (loose.or_expr (loose.or (loose.and loose.missing_relation rs) ns)) h = refl
none_inside (loose.or_expr (loose.or (loose.and (loose.has b f) rs) ns)) h = refl
none_inside (loose.or_expr (loose.or (loose.and (loose.like b p) rs) ns)) h = refl
none_inside (loose.or_expr (loose.or (loose.and (loose.is_type b t) rs) ns)) h = refl
none_inside (loose.or_expr (loose.or (loose.and (loose.is_type_in b t d) rs) ns)) h = refl
none_inside (loose.or_expr (loose.or (loose.and (loose.common loose.missing_add bs) rs) ns)) h = refl
none_inside (loose.or_expr (loose.or (loose.and (loose.common (loose.add loose.missing_mult ms) bs) rs) ns)) h = refl
none_inside (loose.or_expr (loose.or (loose.and (loose.common (loose.add (loose.mult loose.missing_unary us) ms) bs) rs) ns)) h = refl
none_inside (loose.or_expr (loose.or (loose.and (loose.common (loose.add (loose.mult (loose.unary (Some s) m) us) ms) bs) rs) ns)) h = refl
none_inside (loose.or_expr (loose.or (loose.and (loose.common (loose.add (loose.mult (loose.unary None loose.missing_member) us) ms) bs) rs) ns)) h = refl
none_inside (loose.or_expr (loose.or (loose.and (loose.common (loose.add (loose.mult (loose.unary None (loose.member p (loose.an_access x xs))) us) ms) bs) rs) ns)) h = refl
none_inside (loose.or_expr (loose.or (loose.and (loose.common (loose.add (loose.mult (loose.unary None (loose.member p loose.no_accesses)) (loose.a_unary o u us)) ms) bs) rs) ns)) h = refl
none_inside (loose.or_expr (loose.or (loose.and (loose.common (loose.add (loose.mult (loose.unary None (loose.member p loose.no_accesses)) loose.no_unaries) (loose.a_mult o m ms)) bs) rs) ns)) h = refl
none_inside (loose.or_expr (loose.or (loose.and (loose.common (loose.add (loose.mult (loose.unary None (loose.member p loose.no_accesses)) loose.no_unaries) loose.no_mults) (loose.an_add o a bs)) rs) ns)) h = refl
none_inside (loose.or_expr (loose.or (loose.and (loose.common (loose.add (loose.mult (loose.unary None (loose.member p loose.no_accesses)) loose.no_unaries) loose.no_mults) loose.no_adds) (loose.a_relation r rs)) ns)) h = refl
none_inside (loose.or_expr (loose.or (loose.and (loose.common (loose.add (loose.mult (loose.unary None (loose.member p loose.no_accesses)) loose.no_unaries) loose.no_mults) loose.no_adds) loose.no_relations) (loose.an_and n ns))) h = refl
none_inside (loose.or_expr (loose.or (loose.and (loose.common (loose.add (loose.mult (loose.unary None (loose.member p loose.no_accesses)) loose.no_unaries) loose.no_mults) loose.no_adds) loose.no_relations) loose.no_ands)) h = cc

inside_wrapped : (p : loose.Primary) → inside_parens (wrapped p) ≡ opened p
unfolding inside_parens
inside_wrapped p = refl

opened_last : (p : loose.Primary) → in_parens p ≡ None → opened p ≡ Some p
unfolding opened
opened_last loose.missing_primary h = refl
opened_last (loose.literal l) h = refl
opened_last (loose.entity r) h = refl
opened_last (loose.named n) h = refl
opened_last (loose.slot s) h = refl
opened_last (loose.expr e) h = cc
opened_last (loose.e_list es) h = refl
opened_last (loose.r_inits rs) h = refl

in_parens_is : (p : loose.Primary) (e : loose.Expr) → in_parens p ≡ Some e → p ≡ loose.expr e
in_parens_is loose.missing_primary e h = cc
in_parens_is (loose.literal l) e h = cc
in_parens_is (loose.entity r) e h = cc
in_parens_is (loose.named n) e h = cc
in_parens_is (loose.slot s) e h = cc
in_parens_is (loose.expr d) e h = let same : d ≡ e = cc in ap loose.expr same
in_parens_is (loose.e_list es) e h = cc
in_parens_is (loose.r_inits rs) e h = cc

opened_parens : (e : loose.Expr) → opened (loose.expr e) ≡ inside_parens e
unfolding opened
opened_parens e = refl

pub last_inside : (e : loose.Expr) (p : loose.Primary) → alone e ≡ Some p → in_parens p ≡ None → inside_parens e ≡ Some p
last_inside e p h k = ap inside_parens (primary_alone e p h) ∙ inside_wrapped p ∙ opened_last p k

pub more_inside : (e d : loose.Expr) (p : loose.Primary) → alone e ≡ Some p → in_parens p ≡ Some d → inside_parens e ≡ inside_parens d
more_inside e d p h k = ap inside_parens (primary_alone e p h) ∙ inside_wrapped p ∙ ap opened (in_parens_is p d k) ∙ opened_parens d

-- ---- how many parentheses stand around what stands alone

unfoldable mutual
  pub parens : loose.Expr → ℕ
  parens (loose.or_expr (loose.or (loose.and (loose.common (loose.add (loose.mult (loose.unary None (loose.member p loose.no_accesses)) loose.no_unaries) loose.no_mults) loose.no_adds) loose.no_relations) loose.no_ands)) = parens_of p
  parens e = 0

  parens_of : loose.Primary → ℕ
  parens_of (loose.expr e) = suc (parens e)
  parens_of p = 0

wrapped_parens : (e : loose.Expr) → parens (wrapped (loose.expr e)) ≡ suc (parens e)
unfolding parens parens_of
wrapped_parens e = refl

pub fewer_parens : (e d : loose.Expr) (p : loose.Primary) → alone e ≡ Some p → in_parens p ≡ Some d → parens e ≡ suc (parens d)
fewer_parens e d p h k = ap parens (primary_alone e p h) ∙ ap (λ q. parens (wrapped q)) (in_parens_is p d k) ∙ wrapped_parens d

-- ---- whether a node is missing inside them

wrapped_empty : (p : loose.Primary) → is_empty_inside (wrapped p) ≡ is_empty_primary p
unfolding is_empty_inside
wrapped_empty p = refl

empty_parens : (e : loose.Expr) → is_empty_primary (loose.expr e) ≡ is_empty_inside e
unfolding is_empty_primary
empty_parens e = refl

pub more_empty : (e d : loose.Expr) (p : loose.Primary) → alone e ≡ Some p → in_parens p ≡ Some d → is_empty_inside e ≡ is_empty_inside d
more_empty e d p h k = ap is_empty_inside (primary_alone e p h) ∙ wrapped_empty p ∙ ap is_empty_primary (in_parens_is p d k) ∙ empty_parens d

pub empty_itself : (e : loose.Expr) → alone e ≡ None → is_empty_inside e ≡ is_empty_expr e
unfolding is_empty_inside
empty_itself loose.missing_expr h = refl
empty_itself (loose.if_expr x y z) h = refl
empty_itself (loose.or_expr loose.missing_or) h = refl
empty_itself (loose.or_expr (loose.or loose.missing_and ns)) h = refl
empty_itself (loose.or_expr (loose.or (loose.and loose.missing_relation rs) ns)) h = refl
empty_itself (loose.or_expr (loose.or (loose.and (loose.has b f) rs) ns)) h = refl
empty_itself (loose.or_expr (loose.or (loose.and (loose.like b p) rs) ns)) h = refl
empty_itself (loose.or_expr (loose.or (loose.and (loose.is_type b t) rs) ns)) h = refl
empty_itself (loose.or_expr (loose.or (loose.and (loose.is_type_in b t d) rs) ns)) h = refl
empty_itself (loose.or_expr (loose.or (loose.and (loose.common loose.missing_add bs) rs) ns)) h = refl
empty_itself (loose.or_expr (loose.or (loose.and (loose.common (loose.add loose.missing_mult ms) bs) rs) ns)) h = refl
empty_itself (loose.or_expr (loose.or (loose.and (loose.common (loose.add (loose.mult loose.missing_unary us) ms) bs) rs) ns)) h = refl
empty_itself (loose.or_expr (loose.or (loose.and (loose.common (loose.add (loose.mult (loose.unary (Some s) m) us) ms) bs) rs) ns)) h = refl
empty_itself (loose.or_expr (loose.or (loose.and (loose.common (loose.add (loose.mult (loose.unary None loose.missing_member) us) ms) bs) rs) ns)) h = refl
empty_itself (loose.or_expr (loose.or (loose.and (loose.common (loose.add (loose.mult (loose.unary None (loose.member p (loose.an_access x xs))) us) ms) bs) rs) ns)) h = refl
empty_itself (loose.or_expr (loose.or (loose.and (loose.common (loose.add (loose.mult (loose.unary None (loose.member p loose.no_accesses)) (loose.a_unary o u us)) ms) bs) rs) ns)) h = refl
empty_itself (loose.or_expr (loose.or (loose.and (loose.common (loose.add (loose.mult (loose.unary None (loose.member p loose.no_accesses)) loose.no_unaries) (loose.a_mult o m ms)) bs) rs) ns)) h = refl
empty_itself (loose.or_expr (loose.or (loose.and (loose.common (loose.add (loose.mult (loose.unary None (loose.member p loose.no_accesses)) loose.no_unaries) loose.no_mults) (loose.an_add o a bs)) rs) ns)) h = refl
empty_itself (loose.or_expr (loose.or (loose.and (loose.common (loose.add (loose.mult (loose.unary None (loose.member p loose.no_accesses)) loose.no_unaries) loose.no_mults) loose.no_adds) (loose.a_relation r rs)) ns)) h = refl
empty_itself (loose.or_expr (loose.or (loose.and (loose.common (loose.add (loose.mult (loose.unary None (loose.member p loose.no_accesses)) loose.no_unaries) loose.no_mults) loose.no_adds) loose.no_relations) (loose.an_and n ns))) h = refl
empty_itself (loose.or_expr (loose.or (loose.and (loose.common (loose.add (loose.mult (loose.unary None (loose.member p loose.no_accesses)) loose.no_unaries) loose.no_mults) loose.no_adds) loose.no_relations) loose.no_ands)) h = cc
