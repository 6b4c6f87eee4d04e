-- What stands before an access, how many arguments a call has, and which keys a record has.
use Rattle.std.proofs.Common.{◌≡◌, ◌⊎◌, inl, inr, ℕ, zero, suc, ◌<◌, ◌≤◌, arith, List, [], ◌∷◌, map, length, Option, Some, None, Result, Ok, Err, Vec, Global, Bool, false, refl, sym, ap, ◌∙◌, subst}
use Rattle.std.proofs.lemmas.List.{length-map}
use Rattle.std.specs.Prelude.{IfOk, IfErr, MatchOption}
use Rattle.std.specs.declared.rc.RcStr.{RcStr}
use Rattle.cedar_language.specs.Uid.{Text}
use Rattle.cedar_language.specs.Tree as tree
use Rattle.cedar_language.specs.Tree.{Tree}
use Rattle.cedar_grammar.specs.Names.{Names}
use Rattle.cedar_grammar.specs.Build.{Keyed, keys, trees, unary}
use Rattle.cedar_grammar.specs.Steps.{◌>>=◌}
use Rattle.cedar_grammar.specs.Loose as loose
use Rattle.cedar_grammar.specs.Converting as converting
use Rattle.cedar_grammar.specs.Converting.{named_slot, expr_tree, primary_head, access_head, exprs_trees, rec_inits_trees, rec_init_tree, head_tree, literal_tree, ref_entity, record_tree, ident_text, alone, primary_key, primary_text, called}
use Rattle.cedar_builders.specs.Operations.{Operations}
use Rattle.cedar_faults.specs.declared.kinds.ToASTErrorKind.{ToASTErrorKind}
use Rattle.cedar_faults.specs.declared.errors.ConversionError.{ConversionError}
use Rattle.cedar_faults.specs.Telling.{Told, TellsOnly}
use Rattle.cedar_faults.proofs.Telling.{told_each, told_more}
use Rattle.cedar_conversion.specs.declared.heads.Head.{Head}
use Rattle.cedar_conversion.specs.declared.heads.Head.TheVariants as head
use Rattle.cedar_conversion.specs.Building.{MakesTrees}
use Rattle.cedar_conversion.specs.Choices.{Used, by_itself}
use Rattle.cedar_conversion.specs.Entries.{keyed, meant, MakesEntries, record_keys, IsRepeated, entries_show}
use Rattle.cedar_conversion.specs.Heads.{IsHead, MakesHead, before_of, IsBefore, head_shows, called_shows}
use Rattle.cedar_conversion.specs.SoFar.{AccessedSoFar}
use Rattle.cedar_conversion.specs.Shows.{Before, a_name, an_attribute, an_operand, first, after, calls_method, begins_with_call, use_shows, call_shows, minus_shows, dashes_show, count, access_shows, accesses_show, member_shows, primary_shows, repeated_show}
use Rattle.cedar_conversion.proofs.Made.{built_length}
use Rattle.cedar_conversion.proofs.Ordering.{each_keys, keyed_keys}
use Rattle.cedar_conversion.proofs.Told.{first_told}

-- ---- what stands before an access

tree_of : {A : Type 0} (v : Option A) (f : A → Tree) (g : converting.Head) → (v >>= λ x. let z : Option converting.Head = Some (converting.a_tree (f x)) in z) ≡ Some g → (t : Tree) × (g ≡ converting.a_tree t)
tree_of None f g h = absurd (cc h)
tree_of (Some x) f g h = (f x, cc h)

tree_of_both : {A B : Type 0} (v : Option A) (w : A → Option B) (f : A → B → Tree) (g : converting.Head) → (v >>= λ x. w x >>= λ y. let z : Option converting.Head = Some (converting.a_tree (f x y)) in z) ≡ Some g → (t : Tree) × (g ≡ converting.a_tree t)
tree_of_both None w f g h = absurd (cc h)
tree_of_both (Some x) w f g h = tree_of (w x) (f x) g h

attribute_of : (v : Option Tree) (w : Option Text) (g : converting.Head) → (v >>= λ a. w >>= λ s. let z : Option converting.Head = Some (converting.an_attribute a s) in z) ≡ Some g → (a : Tree) × (s : Text) × (w ≡ Some s) × (g ≡ converting.an_attribute a s)
attribute_of None w g h = absurd (cc h)
attribute_of (Some a) None g h = absurd (cc h)
attribute_of (Some a) (Some s) g h = (a, s, refl, cc h)

module _ {E M R : Type 0} (o : Operations M R) (meaning : E → M) where
  tree_before : (h : Head E) (g : converting.Head) (t : Tree) → g ≡ converting.a_tree t → IsHead o meaning h g → an_operand ≡ before_of h
  tree_before h g t is stands = by h (subst (IsHead o meaning h) is stands)
    where
      by : (h : Head E) → IsHead o meaning h (converting.a_tree t) → an_operand ≡ before_of h
      by (head.Expr e) s = refl
      by (head.Name n) s = absurd s
      by (head.Attribute e id at) s = absurd s

  name_before : (h : Head E) (g : converting.Head) (n : loose.Name) → g ≡ converting.a_name n → IsHead o meaning h g → a_name n ≡ before_of h
  name_before h g n is stands = by h (subst (IsHead o meaning h) is stands)
    where
      by : (h : Head E) → IsHead o meaning h (converting.a_name n) → a_name n ≡ before_of h
      by (head.Expr e) s = absurd s
      by (head.Name m) s = ap a_name (sym s)
      by (head.Attribute e id at) s = absurd s

  attribute_before : (h : Head E) (g : converting.Head) (w : Option Text) (a : Tree) (s : Text) → w ≡ Some s → g ≡ converting.an_attribute a s → IsHead o meaning h g → an_attribute w ≡ before_of h
  attribute_before h g w a s word is stands = by h (subst (IsHead o meaning h) is stands)
    where
      by : (h : Head E) → IsHead o meaning h (converting.an_attribute a s) → an_attribute w ≡ before_of h
      by (head.Expr e) x = absurd x
      by (head.Name m) x = absurd x
      by (head.Attribute e id at) x = ap an_attribute (word ∙ ap Some (sym x.1))

  module _ (names : Names) where
    first_before : (h : Head E) (p : loose.Primary) (g : converting.Head) → primary_head names p ≡ Some g → IsHead o meaning h g → first p ≡ before_of h
    unfolding primary_head
    first_before h loose.missing_primary g is stands = absurd (cc is)
    first_before h (loose.literal l) g is stands = let t = tree_of (literal_tree l) (λ t. t) g is in tree_before h g t.0 t.1 stands
    first_before h (loose.entity r) g is stands = let t = tree_of (ref_entity r) (λ u. tree.Lit (tree.Entity u)) g is in tree_before h g t.0 t.1 stands
    first_before h (loose.named n) g is stands = name_before h g n (cc is) stands
    first_before h (loose.slot s) g is stands = let t = tree_of (named_slot s) tree.Slot g is in tree_before h g t.0 t.1 stands
    first_before h (loose.expr e) g is stands = let t = tree_of (expr_tree names e) (λ t. t) g is in tree_before h g t.0 t.1 stands
    first_before h (loose.e_list es) g is stands = let t = tree_of (exprs_trees names es) (λ xs. tree.Apply tree.MakeSet (trees xs)) g is in tree_before h g t.0 t.1 stands
    first_before h (loose.r_inits rs) g is stands = let t = tree_of_both (rec_inits_trees names rs) record_tree (λ es t. t) g is in tree_before h g t.0 t.1 stands

    after_before : (h : Head E) (v : Option converting.Head) (x : loose.MemAccess) (g : converting.Head) → (v >>= λ y. access_head names y x) ≡ Some g → IsHead o meaning h g → after x ≡ before_of h
    unfolding access_head
    after_before h None x g is stands = absurd (cc is)
    after_before h (Some y) loose.missing_access g is stands = absurd (cc is)
    after_before h (Some y) (loose.field i) g is stands = let a = attribute_of (head_tree y) (ident_text i) g is in attribute_before h g (ident_text i) a.0 a.1 a.2 a.3 stands
    after_before h (Some y) (loose.call es) g is stands = let t = tree_of_both (exprs_trees names es) (called names y) (λ xs t. t) g is in tree_before h g t.0 t.1 stands
    after_before h (Some y) (loose.index e) g is stands = let t = tree_of_both (head_tree y) (λ a. alone e >>= primary_text) (λ a s. unary (tree.GetAttr s) a) g is in tree_before h g t.0 t.1 stands

    module _ {B : Type 0} (refusal : B → Option R) where
      pub is_first : (r : Result (Head E) (ConversionError B)) (p : loose.Primary) → MakesHead o meaning refusal r (primary_head names p) → IsBefore r (first p)
      is_first (Ok h) p made = first_before h p made.value made.is made.stands
      is_first (Err e) p made = tt

      pub is_after : (r : Result (Head E) (ConversionError B)) (v : Option converting.Head) (x : loose.MemAccess) → MakesHead o meaning refusal r (v >>= λ y. access_head names y x) → IsBefore r (after x)
      is_after (Ok h) v x made = after_before h v x made.value made.is made.stands
      is_after (Err e) v x made = tt

-- what is used, and what is called, by what stands before
pub used_behind : {E B : Type 0} (r : Result (Head E) (ConversionError B)) (b : Before) (used : Used) (k : ToASTErrorKind) → IsBefore r b → head_shows used r k → use_shows b used k
used_behind (Ok h) b used k is s = subst (λ z. use_shows z used k) (sym is) s
used_behind (Err e) b used k is s = absurd s

pub called_behind : {E B : Type 0} (names : Names) (r : Result (Head E) (ConversionError B)) (args : Result (Vec E Global) (ConversionError B)) (b : Before) (got : ℕ) (k : ToASTErrorKind) → IsBefore r b → IfOk args (λ xs. length xs.items ≡ got) → called_shows names r args k → call_shows names b got k
called_behind names (Err e) args b got k is many s = absurd s
called_behind names (Ok h) (Err e) b got k is many s = absurd s
called_behind names (Ok h) (Ok xs) b got k is many s = subst (λ n. call_shows names b n k) many (subst (λ z. call_shows names z (length xs.items) k) (sym is) s)

-- ---- arguments and keys

module _ (names : Names) where
  counted : (es : loose.Exprs) (xs : List Tree) → exprs_trees names es ≡ Some xs → length xs ≡ count es
  unfolding exprs_trees
  counted loose.no_exprs xs is = let none : xs ≡ [] = cc is in ap length none
  counted (loose.an_expr e es) xs is = by (expr_tree names e) (exprs_trees names es) (counted es) is
    where
      by : (v : Option Tree) (w : Option (List Tree)) → ((ys : List Tree) → w ≡ Some ys → length ys ≡ count es) → (v >>= λ y. w >>= λ ys. let z : Option (List Tree) = Some (y ∷ ys) in z) ≡ Some xs → length xs ≡ suc (count es)
      by None w h same = absurd (cc same)
      by (Some y) None h same = absurd (cc same)
      by (Some y) (Some ys) h same = let all : xs ≡ y ∷ ys = cc same in ap length all ∙ ap suc (h ys refl)

  keys_of : (rs : loose.RecInits) (es : List (Keyed Tree)) → rec_inits_trees names rs ≡ Some es → record_keys rs ≡ Some (keys es)
  unfolding rec_inits_trees rec_init_tree
  keys_of loose.no_rec_inits es is = let none : es ≡ [] = cc is in ap (λ ys. Some (keys ys)) (sym none)
  keys_of (loose.a_rec_init loose.missing_rec_init rs) es is = absurd (cc is)
  keys_of (loose.a_rec_init (loose.rec_init k e) rs) es is = by (alone k >>= primary_key) (expr_tree names e) (rec_inits_trees names rs) (record_keys rs) (keys_of rs) is
    where
      by : (v : Option Text) (w : Option Tree) (u : Option (List (Keyed Tree))) (ks : Option (List Text)) → ((ys : List (Keyed Tree)) → u ≡ Some ys → ks ≡ Some (keys ys))
          → ((v >>= λ s. w >>= λ t. let z : Option (Keyed Tree) = Some (s, t) in z) >>= λ y. u >>= λ ys. let z : Option (List (Keyed Tree)) = Some (y ∷ ys) in z) ≡ Some es → (v >>= λ s. ks >>= λ ss. let z : Option (List Text) = Some (s ∷ ss) in z) ≡ Some (keys es)
      by None w u ks h same = absurd (cc same)
      by (Some s) None u ks h same = absurd (cc same)
      by (Some s) (Some t) None ks h same = absurd (cc same)
      by (Some s) (Some t) (Some ys) ks h same =
          let all : es ≡ (s, t) ∷ ys = cc same in
          ap (λ qs. qs >>= λ ss. let z : Option (List Text) = Some (s ∷ ss) in z) (h ys refl) ∙ ap (λ zs. Some (keys zs)) (sym all)

  module _ {E B M R : Type 0} (o : Operations M R) (meaning : E → M) (refusal : B → Option R) where
    -- as many arguments are given as are written
    pub are_counted : (r : Result (Vec E Global) (ConversionError B)) (es : loose.Exprs) → MakesTrees o meaning refusal r (exprs_trees names es) → IfOk r (λ xs. length xs.items ≡ count es)
    are_counted (Ok xs) es made = sym (length-map xs.items meaning) ∙ sym (built_length o made.value (map meaning xs.items) made.stands) ∙ counted es made.value made.is
    are_counted (Err e) es made = tt

    -- the keys that are given are those that are written
    pub keys_behind : (r : Result (Vec (RcStr Global × E) Global) (ConversionError B)) (rs : loose.RecInits) (k : ToASTErrorKind) → MakesEntries o meaning refusal r (rec_inits_trees names rs) → entries_show r k → repeated_show rs k
    keys_behind (Ok es) rs k made s =
        let same : keys (keyed es.items) ≡ keys made.value = keyed_keys meaning es.items ∙ each_keys o (meant meaning es.items) made.value made.stands in
        let there : record_keys rs ≡ Some (keys (keyed es.items)) = keys_of rs made.value made.is ∙ ap Some (sym same) in
        subst (λ v. MatchOption v ⊥ (λ ss. IsRepeated ss k)) (sym there) s
    keys_behind (Err e) rs k made s = absurd s

-- ---- an access among others

-- where there is no second access, it is no call
pub no_second : {A : Type 0} (f : A → loose.MemAccess) (xs : List A) → length xs ≤ 1 → calls_method (loose.accesses (map f xs)) ≡ false
no_second f [] h = refl
no_second f (x ∷ []) h = refl
no_second f (x ∷ y ∷ ys) h = absurd (omega arith)

module _ (names : Names) where
  -- of what is no name, a call behind a word says nothing
  called_alike : (b : Before) (called calls : Bool) (x : loose.MemAccess) (k : ToASTErrorKind) → ((n : loose.Name) → b ≡ a_name n → called ≡ calls) → access_shows names b called x k → access_shows names b calls x k
  unfolding access_shows
  called_alike (a_name n) called calls x k same s = subst (λ c. access_shows names (a_name n) c x k) (same n refl) s
  called_alike (an_attribute w) called calls loose.missing_access k same s = s
  called_alike (an_attribute w) called calls (loose.field i) k same s = s
  called_alike (an_attribute w) called calls (loose.call es) k same s = s
  called_alike (an_attribute w) called calls (loose.index e) k same s = s
  called_alike an_operand called calls loose.missing_access k same s = s
  called_alike an_operand called calls (loose.field i) k same s = s
  called_alike an_operand called calls (loose.call es) k same s = s
  called_alike an_operand called calls (loose.index e) k same s = s

  after_no_name : (x : loose.MemAccess) (n : loose.Name) → after x ≡ a_name n → ⊥
  after_no_name loose.missing_access n is = cc
  after_no_name (loose.field i) n is = cc
  after_no_name (loose.call es) n is = cc
  after_no_name (loose.index e) n is = cc

  module _ {E B : Type 0} where
    pub accessed_start : (r : Result (Head E) (ConversionError B)) (called : Bool) (p : loose.Primary) (xs : loose.Accesses) (m : loose.Member) → m ≡ loose.member p xs → IsBefore r (first p) → called ≡ calls_method xs → IfErr r (λ e. TellsOnly e (primary_shows names p))
        → AccessedSoFar names r called xs (member_shows names m)
    unfolding member_shows
    accessed_start r called p xs m at is same only = record {
      before = first p;
      is = is;
      called = λ n name. same;
      told = first_told r (primary_shows names p) (accesses_show names (first p) xs) (member_shows names m) only (λ k s. subst (λ z. member_shows names z k) (sym at) (inl s)) (λ k s. subst (λ z. member_shows names z k) (sym at) (inr s));
    }

    pub accessed_more : (r r' : Result (Head E) (ConversionError B)) (called : Bool) (x : loose.MemAccess) (more : loose.Accesses) (whole : ToASTErrorKind → Type 0) → AccessedSoFar names r called (loose.an_access x more) whole
        → ((b : Before) → IsBefore r b → IfErr r' (λ e. TellsOnly e (λ k. Told r k ⊎ access_shows names b called x k))) → IsBefore r' (after x) → AccessedSoFar names r' called more whole
    unfolding accesses_show
    accessed_more r r' called x more whole so step is = record {
      before = after x;
      is = is;
      called = λ n name. absurd (after_no_name x n name);
      told = record {
        told = λ k told. by k (told_each r' (λ k. Told r k ⊎ access_shows names so.before called x k) (step so.before so.is) k told);
        left = λ k s. so.told.left k (inr s);
      };
    }
      where
        by : (k : ToASTErrorKind) → Told r k ⊎ access_shows names so.before called x k → whole k
        by k (inl t) = so.told.told k t
        by k (inr s) = so.told.left k (inl (called_alike so.before called (begins_with_call more) x k so.called s))

    pub accessed_end : {D : Type 0} (r : Result (Head E) (ConversionError B)) (made : Result D (ConversionError B)) (called : Bool) (whole : ToASTErrorKind → Type 0) → AccessedSoFar names r called loose.no_accesses whole
        → IfErr made (λ e. TellsOnly e (λ k. Told r k ⊎ head_shows by_itself r k)) → IfErr made (λ e. TellsOnly e whole)
    unfolding accesses_show
    accessed_end r made called whole so only = told_more made (λ k. Told r k ⊎ head_shows by_itself r k) whole by only
      where
        by : (k : ToASTErrorKind) → Told r k ⊎ head_shows by_itself r k → whole k
        by k (inl t) = so.told.told k t
        by k (inr s) = so.told.left k (used_behind r so.before by_itself k so.is s)

-- what a head tells, and what an access to it shows
module _ (names : Names) {E B : Type 0} (r : Result (Head E) (ConversionError B)) (b : Before) (called : Bool) where
  abbrev pub access_at : loose.MemAccess → ToASTErrorKind → Type 0
  access_at x k = Told r k ⊎ access_shows names b called x k

-- of an access with one part
pub in_access : {A D E : Type 0} (r : Result A (ConversionError E)) (part : Result D (ConversionError E)) (own p s : ToASTErrorKind → Type 0) → IfErr part (λ e. TellsOnly e p) → ((k : ToASTErrorKind) → p k → s k) → ((k : ToASTErrorKind) → own k → s k)
    → (k : ToASTErrorKind) → Told r k ⊎ Told part k ⊎ own k → Told r k ⊎ s k
in_access r part own p s only second third k (inl t) = inl t
in_access r part own p s only second third k (inr (inl t)) = inr (second k (told_each part p only k t))
in_access r part own p s only second third k (inr (inr o)) = inr (third k o)

-- ---- so many `-` before an operand

pub dashes_alone : (n : ℕ) (v : Option ℕ) (shown : Type 0) (k : ToASTErrorKind) → v ≡ None → shown → dashes_show n v shown k
dashes_alone n v shown k is s = subst (λ w. dashes_show n w shown k) (sym is) s

pub no_dashes : (n : ℕ) (v : Option ℕ) (shown : Type 0) (k : ToASTErrorKind) → n ≡ 0 → shown → dashes_show n v shown k
no_dashes n v shown k is s = subst (λ m. dashes_show m v shown k) (sym is) (by v)
  where
    by : (v : Option ℕ) → dashes_show 0 v shown k
    by None = s
    by (Some w) = s

pub dashes_number : (n : ℕ) (v : Option ℕ) (w : ℕ) (shown : Type 0) (k : ToASTErrorKind) → v ≡ Some w → 0 < n → minus_shows w k → dashes_show n v shown k
dashes_number zero v w shown k is more s = absurd (omega arith)
dashes_number (suc n) v w shown k is more s = subst (λ u. dashes_show (suc n) u shown k) (sym is) s
