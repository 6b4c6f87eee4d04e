-- The laws of the loose grammar.
use Rattle.std.proofs.Common.{◌≡◌, ℕ, zero, suc, ◌<◌, ◌≤◌, ◌⊎◌, inl, inr, List, [], ◌∷◌, Option, Some, Result, Ok, Err, refl, sym, ap, subst, ◌∙◌, arith}
use Rattle.std.proofs.lemmas.Bool.{cases_lt}
use Rattle.cedar_language.specs.Slots.{tree_slots}
use Rattle.cedar_language.specs.Tree.{Tree, SlotId, Literal, Lit}
use Rattle.cedar_grammar.specs.Token.{Token}
use Rattle.cedar_grammar.specs.Names.{Names}
use Rattle.cedar_grammar.specs.Grammar.{Primary, call_is, Within, inner}
use Rattle.cedar_grammar.specs.Steps.{◌>>=◌, is_more}
use Rattle.cedar_grammar.proofs.Eats.{within-eats, within-begins}
use Rattle.cedar_grammar.specs.Loose as loose
use Rattle.cedar_grammar.specs.LooseReading.{Fault, depth, read_expr, read_primary, read_policy, read_policies, Reading, ◌>>◌, mapped, each_of, name_of, ref_of, primary_of, expr_at, policy_of, policy_at, policies_at, whole}
use Rattle.cedar_grammar.specs.Converting.{converted, expr_tree, free_tree, name_path, ref_entity, head_tree, primary_tree, policy_syntax, policies_syntax, if_none, without_slots}
use Rattle.cedar_grammar.specs.LooseLaws.{ExprsConvert, EntitiesConvert, NamesConvert, LiteralsConvert, PolicyConverts, PoliciesConvert, ExprsStand, LiteralsStand, PolicyStands, PoliciesStand}
use Rattle.cedar_grammar.proofs.Stays.{exprs_stay, primaries_stay, policy_stays, policies_stay}
use Rattle.cedar_grammar.proofs.Basics.{mapped_ok}
use Rattle.cedar_grammar.proofs.Parts.{bind_some}
use Rattle.cedar_grammar.proofs.Loops.{Reads}
use Rattle.cedar_grammar.proofs.LooseComplete.{name-complete, ref-complete, primary-complete, NoCall, within-live, lones-at, within-complete}
use Rattle.cedar_grammar.proofs.LooseSound.{name-sound, ref-sound, primary-sound, at-live, at-tells, within-sound}
use Rattle.cedar_grammar.proofs.Rests.{expr_at-leaves}
use Rattle.cedar_grammar.proofs.LoosePoliciesComplete.{policy-complete, policies-complete}
use Rattle.cedar_grammar.proofs.LoosePoliciesSound.{policy-sound, policies-sound}

-- what is read of all tokens
converted-read : {A B : Type 0} (f : A → Option B) (r : Reading A) (t : B) → converted f (r >> whole) ≡ Some t → (a : A) × (r ≡ Ok (a, [])) × (f a ≡ Some t)
converted-read f (Ok (a, [])) t e = (a, refl, e)
converted-read f (Ok (a, o ∷ ts)) t e = absurd (cc e)
converted-read f (Err x) t e = absurd (cc e)

read-converted : {A B : Type 0} (f : A → Option B) (r : Reading A) (a : A) (t : B) → r ≡ Ok (a, []) → f a ≡ Some t → converted f (r >> whole) ≡ Some t
read-converted f r a t e g = ap (λ x. converted f (x >> whole)) e ∙ g

-- a tree without slots
free-is : (t : Tree) → tree_slots t ≡ [] → without_slots t ≡ Some t
free-is t e = ap (λ ss. if_none ss t) e

free-from : (u t : Tree) → without_slots u ≡ Some t → (u ≡ t) × (tree_slots t ≡ [])
free-from u t e = by (tree_slots u) refl e
  where
    by : (ss : List SlotId) → tree_slots u ≡ ss → if_none ss u ≡ Some t → (u ≡ t) × (tree_slots t ≡ [])
    by [] f g = let same : u ≡ t = cc g in (same, ap tree_slots (sym same) ∙ f)
    by (s ∷ ss) f g = absurd (cc g)

pub exprs_convert : ExprsConvert
exprs_convert names n ts t = (
  λ d.
      let r = within-complete names n ts t [] d.0 tt in
      read-converted (free_tree names) (expr_at n ts) r.0 t r.1 (ap (λ o. o >>= without_slots) r.2 ∙ free-is t d.1),
  λ e.
      let r = converted-read (free_tree names) (expr_at n ts) t e in
      let one = bind_some (expr_tree names r.0) without_slots r.2 in
      let free = free-from one.0 t one.2 in
      (subst (λ u. Within names n ts u []) free.0 (within-sound names n ts r.0 one.0 [] r.1 one.1), free.1),
)

pub entities_convert : EntitiesConvert
entities_convert ts u = (
  λ d. let r = ref-complete ts u [] d in read-converted ref_entity (ref_of ts) r.0 u r.1 r.2,
  λ e. let r = converted-read ref_entity (ref_of ts) u e in ref-sound ts r.0 u [] r.1 r.2,
)

pub names_convert : NamesConvert
names_convert ts p = (
  λ d. let r = name-complete ts p [] d refl in read-converted name_path (name_of ts) r.0 p r.1 r.2,
  λ e. let r = converted-read name_path (name_of ts) p e in name-sound ts r.0 p [] r.1 r.2,
)

-- the tree of a call is no literal
no-call : (names : Names) (n : ℕ) (ts : List Token) (t : Tree) (rest : List Token) (l : Literal) (d : Primary (inner names n) ts t rest) → t ≡ Lit l → NoCall names n (Within names n) (expr_at n) (within-complete names n) (within-eats names n) (within-begins names n) (within-live names n) (lones-at n) d
no-call names n ts t rest l (call_is mid d e its) f = cc f
no-call names n ts t rest l d f = tt

literal-complete : (names : Names) (n : ℕ) (ts : List Token) (l : Literal) → Primary (inner names n) ts (Lit l) [] → Reads (primary_of (expr_at n)) (primary_tree names) ts (Lit l) []
literal-complete names n ts l d =
    let r = primary-complete names n (Within names n) (expr_at n) (within-complete names n) (within-eats names n) (within-begins names n) (within-live names n) (lones-at n) ts (Lit l) [] d (no-call names n ts (Lit l) [] l d refl) tt in
    (r.p, r.read, ap (λ o. o >>= head_tree) r.head ∙ r.tree)

pub literals_convert : LiteralsConvert
literals_convert names zero ts l = (λ d. absurd d, λ e. absurd (cc e))
literals_convert names (suc n) ts l = (
  λ d. let r = literal-complete names n ts l d in read-converted (primary_tree names) (primary_of (expr_at n) ts) r.0 (Lit l) r.1 r.2,
  λ e. let r = converted-read (primary_tree names) (primary_of (expr_at n) ts) (Lit l) e in primary-sound names n (Within names n) (expr_at n) (within-sound names n) (expr_at-leaves n) (at-live n) (at-tells n) ts r.0 (Lit l) [] r.1 r.2,
)

pub policy_converts : PolicyConverts
unfolding policy_at
policy_converts names zero ts p = (λ d. absurd d, λ e. absurd (cc e))
policy_converts names (suc n) ts p = (
  λ d. let r = policy-complete names n ts p [] d tt in read-converted (policy_syntax names) (policy_of n ts) r.0 p r.1 r.2,
  λ e. let r = converted-read (policy_syntax names) (policy_of n ts) p e in policy-sound names n ts r.0 p [] r.1 r.2,
)

pub policies_convert : PoliciesConvert
unfolding policies_at policies_syntax
policies_convert names zero ts ps = (λ d. absurd d, λ e. absurd (cc e))
policies_convert names (suc n) ts ps = (
  λ d. let r = policies-complete names n ts ps d in read-converted (policies_syntax names) (mapped loose.policies (each_of is_more (policy_of n) ts)) (loose.policies r.0) ps (ap (mapped loose.policies) r.1) r.2,
  λ e.
      let r = converted-read (policies_syntax names) (mapped loose.policies (each_of is_more (policy_of n) ts)) ps e in
      let m = mapped_ok loose.policies (each_of is_more (policy_of n) ts) r.1 in
      policies-sound names n ts m.0 ps [] m.1 (ap (policies_syntax names) m.2 ∙ r.2),
)

-- ---- limits that aren't met

stands : {A B : Type 0} (read : ℕ → List Token → Result A Fault) (conv : A → Option B) → ((m n : ℕ) (ts : List Token) → m ≤ n → (read m ts ≡ Err depth → ⊥) → read n ts ≡ read m ts)
    → (m n : ℕ) (ts : List Token) (t : B) → (read m ts ≡ Err depth → ⊥) → converted conv (read n ts) ≡ Some t → converted conv (read m ts) ≡ Some t
stands read conv stay m n ts t h e = by (cases_lt m n)
  where
    by : (m < n) ⊎ (n ≤ m) → converted conv (read m ts) ≡ Some t
    by (inl lt) = let le : m ≤ n = omega arith in sym (ap (converted conv) (stay m n ts le h)) ∙ e
    by (inr le) = ap (converted conv) (stay n m ts le (λ k. cc (sym (ap (converted conv) k) ∙ e))) ∙ e

pub exprs_stand : ExprsStand
exprs_stand names m n ts t h d = (exprs_convert names m ts t).1 (stands read_expr (free_tree names) exprs_stay m n ts t h ((exprs_convert names n ts t).0 d))

pub literals_stand : LiteralsStand
literals_stand names m n ts l h d = (literals_convert names m ts l).1 (stands read_primary (primary_tree names) primaries_stay m n ts (Lit l) h ((literals_convert names n ts l).0 d))

pub policy_stands : PolicyStands
policy_stands names m n ts p h d = (policy_converts names m ts p).1 (stands read_policy (policy_syntax names) policy_stays m n ts p h ((policy_converts names n ts p).0 d))

pub policies_stand : PoliciesStand
policies_stand names m n ts ps h d = (policies_convert names m ts ps).1 (stands read_policies (policies_syntax names) policies_stay m n ts ps h ((policies_convert names n ts ps).0 d))
