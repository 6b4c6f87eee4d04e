-- What stands alone is what stands alone at each step.
use Rattle.std.proofs.Common.{◌≡◌, ◌<◌, length, arith, ap, ◌∙◌, List, [], ◌∷◌, map, Option, Some, None, false, refl}
use Rattle.std.specs.Prelude.{◌==◌, true}
use Rattle.std.proofs.lemmas.Bool.{eqb-true}
use Rattle.std.proofs.lemmas.Bool.Decides.{nat_tests}
use Rattle.cedar_grammar.specs.Steps.{◌>>=◌}
use Rattle.cedar_grammar.specs.Loose as loose
use Rattle.cedar_grammar.specs.Converting.{lone_member, without_accesses, lone_add, lone_number, member_fields, fields, primary_key, primary_text}
use Rattle.cedar_faults.specs.declared.kinds.ToASTErrorKind.{ToASTErrorKind}
use Rattle.cedar_faults.specs.declared.errors.ConversionError.{ConversionError}
use Rattle.cedar_faults.specs.declared.errors.ConversionError.TheVariants as error
use Rattle.cedar_faults.specs.Reasons.{IsFault, reason}
use Rattle.cedar_faults.specs.Converts.{Lacks}
use Rattle.cedar_conversion.specs.Shown.{IsNoAttributes, string_shows, member_attributes_show}
use Rattle.cedar_conversion.specs.Alone.{only_or, only_and, only_relation, only_add, only_mult, only_unary, unsigned, only_literal, only_name, number_of}

pub lone_member_is : (a : loose.Add) → lone_member a ≡ (only_mult a >>= only_unary >>= unsigned)
lone_member_is loose.missing_add = refl
lone_member_is (loose.add loose.missing_mult loose.no_mults) = refl
lone_member_is (loose.add loose.missing_mult (loose.a_mult o m ms)) = refl
lone_member_is (loose.add (loose.mult loose.missing_unary loose.no_unaries) loose.no_mults) = refl
lone_member_is (loose.add (loose.mult loose.missing_unary loose.no_unaries) (loose.a_mult o m ms)) = refl
lone_member_is (loose.add (loose.mult loose.missing_unary (loose.a_unary o u us)) loose.no_mults) = refl
lone_member_is (loose.add (loose.mult loose.missing_unary (loose.a_unary o u us)) (loose.a_mult p m ms)) = refl
lone_member_is (loose.add (loose.mult (loose.unary None m) loose.no_unaries) loose.no_mults) = refl
lone_member_is (loose.add (loose.mult (loose.unary None m) loose.no_unaries) (loose.a_mult o n ms)) = refl
lone_member_is (loose.add (loose.mult (loose.unary None m) (loose.a_unary o u us)) loose.no_mults) = refl
lone_member_is (loose.add (loose.mult (loose.unary None m) (loose.a_unary o u us)) (loose.a_mult p n ms)) = refl
lone_member_is (loose.add (loose.mult (loose.unary (Some s) m) loose.no_unaries) loose.no_mults) = refl
lone_member_is (loose.add (loose.mult (loose.unary (Some s) m) loose.no_unaries) (loose.a_mult o n ms)) = refl
lone_member_is (loose.add (loose.mult (loose.unary (Some s) m) (loose.a_unary o u us)) loose.no_mults) = refl
lone_member_is (loose.add (loose.mult (loose.unary (Some s) m) (loose.a_unary o u us)) (loose.a_mult p n ms)) = refl

relation_add : (r : loose.Relation) → lone_add (loose.or_expr (loose.or (loose.and r loose.no_relations) loose.no_ands)) ≡ only_add r
relation_add loose.missing_relation = refl
relation_add (loose.common a loose.no_adds) = refl
relation_add (loose.common a (loose.an_add o b bs)) = refl
relation_add (loose.has a f) = refl
relation_add (loose.like a p) = refl
relation_add (loose.is_type a t) = refl
relation_add (loose.is_type_in a t b) = refl

no_relation_add : (r s : loose.Relation) (rs : loose.Relations) → lone_add (loose.or_expr (loose.or (loose.and r (loose.a_relation s rs)) loose.no_ands)) ≡ None
no_relation_add loose.missing_relation s rs = refl
no_relation_add (loose.common a loose.no_adds) s rs = refl
no_relation_add (loose.common a (loose.an_add o b bs)) s rs = refl
no_relation_add (loose.has a f) s rs = refl
no_relation_add (loose.like a p) s rs = refl
no_relation_add (loose.is_type a t) s rs = refl
no_relation_add (loose.is_type_in a t b) s rs = refl

no_and_add : (r : loose.Relation) (rs : loose.Relations) (a : loose.And) (more : loose.Ands) → lone_add (loose.or_expr (loose.or (loose.and r rs) (loose.an_and a more))) ≡ None
no_and_add loose.missing_relation loose.no_relations a more = refl
no_and_add loose.missing_relation (loose.a_relation s rs) a more = refl
no_and_add (loose.common x loose.no_adds) loose.no_relations a more = refl
no_and_add (loose.common x loose.no_adds) (loose.a_relation s rs) a more = refl
no_and_add (loose.common x (loose.an_add o b bs)) loose.no_relations a more = refl
no_and_add (loose.common x (loose.an_add o b bs)) (loose.a_relation s rs) a more = refl
no_and_add (loose.has x f) loose.no_relations a more = refl
no_and_add (loose.has x f) (loose.a_relation s rs) a more = refl
no_and_add (loose.like x p) loose.no_relations a more = refl
no_and_add (loose.like x p) (loose.a_relation s rs) a more = refl
no_and_add (loose.is_type x t) loose.no_relations a more = refl
no_and_add (loose.is_type x t) (loose.a_relation s rs) a more = refl
no_and_add (loose.is_type_in x t b) loose.no_relations a more = refl
no_and_add (loose.is_type_in x t b) (loose.a_relation s rs) a more = refl

pub lone_add_is : (e : loose.Expr) → lone_add e ≡ (only_or e >>= only_and >>= only_relation >>= only_add)
lone_add_is loose.missing_expr = refl
lone_add_is (loose.if_expr a b c) = refl
lone_add_is (loose.or_expr loose.missing_or) = refl
lone_add_is (loose.or_expr (loose.or loose.missing_and loose.no_ands)) = refl
lone_add_is (loose.or_expr (loose.or loose.missing_and (loose.an_and a more))) = refl
lone_add_is (loose.or_expr (loose.or (loose.and r rs) (loose.an_and a more))) = no_and_add r rs a more
lone_add_is (loose.or_expr (loose.or (loose.and r (loose.a_relation s rs)) loose.no_ands)) = no_relation_add r s rs
lone_add_is (loose.or_expr (loose.or (loose.and r loose.no_relations) loose.no_ands)) = relation_add r

literal_number : (l : loose.Literal) → lone_number (loose.member (loose.literal l) loose.no_accesses) ≡ number_of l
literal_number loose.missing_literal = refl
literal_number loose.true_ = refl
literal_number loose.false_ = refl
literal_number (loose.num n) = refl
literal_number (loose.str s) = refl

literal_no_number : (l : loose.Literal) (x : loose.MemAccess) (xs : loose.Accesses) → lone_number (loose.member (loose.literal l) (loose.an_access x xs)) ≡ None
literal_no_number loose.missing_literal x xs = refl
literal_no_number loose.true_ x xs = refl
literal_no_number loose.false_ x xs = refl
literal_no_number (loose.num n) x xs = refl
literal_no_number (loose.str s) x xs = refl

pub lone_number_is : (m : loose.Member) → lone_number m ≡ (without_accesses m >>= only_literal >>= number_of)
lone_number_is loose.missing_member = refl
lone_number_is (loose.member (loose.literal l) loose.no_accesses) = literal_number l
lone_number_is (loose.member (loose.literal l) (loose.an_access x xs)) = literal_no_number l x xs
lone_number_is (loose.member loose.missing_primary loose.no_accesses) = refl
lone_number_is (loose.member loose.missing_primary (loose.an_access x xs)) = refl
lone_number_is (loose.member (loose.entity r) loose.no_accesses) = refl
lone_number_is (loose.member (loose.entity r) (loose.an_access x xs)) = refl
lone_number_is (loose.member (loose.named n) loose.no_accesses) = refl
lone_number_is (loose.member (loose.named n) (loose.an_access x xs)) = refl
lone_number_is (loose.member (loose.slot s) loose.no_accesses) = refl
lone_number_is (loose.member (loose.slot s) (loose.an_access x xs)) = refl
lone_number_is (loose.member (loose.expr e) loose.no_accesses) = refl
lone_number_is (loose.member (loose.expr e) (loose.an_access x xs)) = refl
lone_number_is (loose.member (loose.e_list es) loose.no_accesses) = refl
lone_number_is (loose.member (loose.e_list es) (loose.an_access x xs)) = refl
lone_number_is (loose.member (loose.r_inits rs) loose.no_accesses) = refl
lone_number_is (loose.member (loose.r_inits rs) (loose.an_access x xs)) = refl

-- ---- where more than one stands there

module _ {A : Type 0} where
  pub no_lone_and : (a : loose.And) (f : A → loose.And) (xs : List A) → 0 < length xs → only_and (loose.or a (loose.ands (map f xs))) ≡ None
  no_lone_and a f [] h = absurd (omega arith)
  no_lone_and a f (x ∷ xs) h = refl

  pub no_lone_relation : (a : loose.Relation) (f : A → loose.Relation) (xs : List A) → 0 < length xs → only_relation (loose.and a (loose.relations (map f xs))) ≡ None
  no_lone_relation a f [] h = absurd (omega arith)
  no_lone_relation a f (x ∷ xs) h = refl

  pub no_lone_add : (a : loose.Add) (f : A → loose.RelOp × loose.Add) (xs : List A) → 0 < length xs → only_add (loose.common a (loose.adds (map f xs))) ≡ None
  no_lone_add a f [] h = absurd (omega arith)
  no_lone_add a f (x ∷ xs) h = refl

  pub no_lone_mult : (a : loose.Mult) (f : A → loose.AddOp × loose.Mult) (xs : List A) → 0 < length xs → only_mult (loose.add a (loose.mults (map f xs))) ≡ None
  no_lone_mult a f [] h = absurd (omega arith)
  no_lone_mult a f (x ∷ xs) h = refl

  pub no_lone_unary : (a : loose.Unary) (f : A → loose.MultOp × loose.Unary) (xs : List A) → 0 < length xs → only_unary (loose.mult a (loose.unaries (map f xs))) ≡ None
  no_lone_unary a f [] h = absurd (omega arith)
  no_lone_unary a f (x ∷ xs) h = refl

  pub accessed : (p : loose.Primary) (f : A → loose.MemAccess) (xs : List A) → 0 < length xs → without_accesses (loose.member p (loose.accesses (map f xs))) ≡ None
  accessed p f [] h = absurd (omega arith)
  accessed p f (x ∷ xs) h = refl

pub some_more : {A : Type 0} (xs : List A) → (length xs == 0) ≡ false → 0 < length xs
some_more xs e = grind (arith, nat_tests)

-- ---- attributes behind `has`

key_fields : (n : loose.Name) (xs : loose.Accesses) → member_fields (loose.member (loose.named n) xs) ≡ (primary_key (loose.named n) >>= λ s. fields xs >>= λ ss. Some (s ∷ ss))
key_fields loose.missing_name loose.no_accesses = refl
key_fields loose.missing_name (loose.an_access x xs) = refl
key_fields (loose.name [] i) xs = refl
key_fields (loose.name (j ∷ js) i) loose.no_accesses = refl
key_fields (loose.name (j ∷ js) i) (loose.an_access x xs) = refl

pub name_is : (p : loose.Primary) (n : loose.Name) → only_name p ≡ Some n → p ≡ loose.named n
name_is loose.missing_primary n h = cc
name_is (loose.literal l) n h = cc
name_is (loose.entity r) n h = cc
name_is (loose.named k) n h = let same : k ≡ n = cc in ap loose.named same
name_is (loose.slot s) n h = cc
name_is (loose.expr e) n h = cc
name_is (loose.e_list es) n h = cc
name_is (loose.r_inits rs) n h = cc

pub by_name : (p : loose.Primary) (n : loose.Name) (xs : loose.Accesses) → only_name p ≡ Some n → member_fields (loose.member p xs) ≡ (primary_key (loose.named n) >>= λ s. fields xs >>= λ ss. Some (s ∷ ss))
by_name p n xs e = ap (λ q. member_fields (loose.member q xs)) (name_is p n e) ∙ key_fields n xs

pub by_text : (p : loose.Primary) → only_name p ≡ None → member_fields (loose.member p loose.no_accesses) ≡ (primary_text p >>= λ s. Some (s ∷ []))
by_text loose.missing_primary h = refl
by_text (loose.literal l) h = refl
by_text (loose.entity r) h = refl
by_text (loose.named n) h = cc
by_text (loose.slot s) h = refl
by_text (loose.expr e) h = refl
by_text (loose.e_list es) h = refl
by_text (loose.r_inits rs) h = refl

pub by_nothing : {A : Type 0} (p : loose.Primary) (f : A → loose.MemAccess) (xs : List A) → only_name p ≡ None → 0 < length xs → member_fields (loose.member p (loose.accesses (map f xs))) ≡ None
by_nothing p f [] e h = absurd (omega arith)
by_nothing loose.missing_primary f (x ∷ xs) h k = refl
by_nothing (loose.literal l) f (x ∷ xs) h k = refl
by_nothing (loose.entity r) f (x ∷ xs) h k = refl
by_nothing (loose.named n) f (x ∷ xs) h k = cc
by_nothing (loose.slot s) f (x ∷ xs) h k = refl
by_nothing (loose.expr e) f (x ∷ xs) h k = refl
by_nothing (loose.e_list es) f (x ∷ xs) h k = refl
by_nothing (loose.r_inits rs) f (x ∷ xs) h k = refl

pub none_more : {A : Type 0} (xs : List A) → (length xs == 0) ≡ true → xs ≡ []
none_more xs e = length_none xs (eqb-true (length xs) 0 e)
  where
    length_none : {A : Type 0} (xs : List A) → length xs ≡ 0 → xs ≡ []
    length_none [] e = refl
    length_none (x ∷ xs) e = absurd (omega arith)

pub text_shown : (p : loose.Primary) → only_name p ≡ None → (k : ToASTErrorKind) → string_shows p k → member_attributes_show (loose.member p loose.no_accesses) k
text_shown loose.missing_primary h k s = s
text_shown (loose.literal l) h k s = s
text_shown (loose.entity r) h k s = s
text_shown (loose.named n) h k s = cc
text_shown (loose.slot t) h k s = s
text_shown (loose.expr e) h k s = s
text_shown (loose.e_list es) h k s = s
text_shown (loose.r_inits rs) h k s = s

pub nothing_shown : {A : Type 0} (p : loose.Primary) (f : A → loose.MemAccess) (xs : List A) → only_name p ≡ None → 0 < length xs → (k : ToASTErrorKind) → IsNoAttributes k → member_attributes_show (loose.member p (loose.accesses (map f xs))) k
nothing_shown p f [] e h k s = absurd (omega arith)
nothing_shown loose.missing_primary f (x ∷ xs) e h k s = s
nothing_shown (loose.literal l) f (x ∷ xs) e h k s = s
nothing_shown (loose.entity r) f (x ∷ xs) e h k s = s
nothing_shown (loose.named n) f (x ∷ xs) e h k s = cc
nothing_shown (loose.slot t) f (x ∷ xs) e h k s = s
nothing_shown (loose.expr y) f (x ∷ xs) e h k s = s
nothing_shown (loose.e_list es) f (x ∷ xs) e h k s = s
nothing_shown (loose.r_inits rs) f (x ∷ xs) e h k s = s

-- faults where there is nothing
pub lacking : {B W : Type 0} (e : ConversionError B) (want : Option W) → IsFault e → want ≡ None → Lacks (reason e) want
lacking (error.Faults fs) want h is = is
lacking (error.Builder b) want h is = absurd h
lacking error.Memory want h is = tt
