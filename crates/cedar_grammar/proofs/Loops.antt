-- The loops of reading beside the rules of the strict grammar for several of a kind.
use Rattle.std.proofs.Common.{◌≡◌, ℕ, zero, suc, ◌<◌, Bool, true, false, List, [], ◌∷◌, length, Option, Some, None, Ok, refl, sym, ap, ◌∙◌, subst, arith}
use Rattle.cedar_language.specs.Tree.{Tree}
use Rattle.cedar_grammar.specs.Token as token
use Rattle.cedar_grammar.specs.Token.{Mark, Token, mark}
use Rattle.cedar_grammar.specs.Build.{linked}
use Rattle.cedar_grammar.specs.Grammar.{Rule, Items, no_items, last_item, an_item, Tail, stop, go_on, Chain, chain}
use Rattle.cedar_grammar.specs.Policies.{Each, no_more, one_more}
use Rattle.cedar_grammar.specs.Steps.{◌>>=◌, is_mark, eat}
use Rattle.cedar_grammar.proofs.Parts.{bind_some, eat-same, eat-other, eat-is}
use Rattle.cedar_grammar.proofs.Eats.{Eats}
use Rattle.cedar_grammar.specs.LooseReading.{Reading, Reader, ◌>>◌, mapped, needed, each_step, each_at, each_of, after_item, items_step, items_at, items_of, before_rest, operator_at, chain_step, chain_at, links_of, chain_of}
use Rattle.cedar_grammar.specs.Converting.{each}
use Rattle.cedar_grammar.proofs.Basics.{bind_ok, needed_ok, ok_pair, mapped_ok, level_of, Below, below-more, Silent, silent, Join, Links, Joins}

-- the reader gives something that converts to x
abbrev pub Reads : {A B : Type 0} → Reader A → (A → Option B) → List Token → B → List Token → Type 0
Reads {A} reader conv ts x rest = (a : A) × (reader ts ≡ Ok (a, rest)) × (conv a ≡ Some x)

abbrev pub Completes : {A B : Type 0} → ℕ → Rule B → Reader A → (A → Option B) → Type 0
Completes {A} {B} k rule reader conv = (ts : List Token) (x : B) (rest : List Token) → rule ts x rest → Below k rest → Reads reader conv ts x rest

abbrev pub Sounds : {A B : Type 0} → Rule B → Reader A → (A → Option B) → Type 0
Sounds {A} {B} rule reader conv = (ts : List Token) (a : A) (x : B) (rest : List Token) → reader ts ≡ Ok (a, rest) → conv a ≡ Some x → rule ts x rest

-- a rule at what is equal
pub moved : {A : Type 0} (rule : Rule A) (ts us rest : List Token) (x y : A) → x ≡ y → us ≡ rest → rule ts x us → rule ts y rest
moved rule ts us rest x y e f d = subst (λ r. rule ts y r) f (subst (λ z. rule ts z us) e d)

pub wrapped-complete : {A B C : Type 0} (k : ℕ) (rule : Rule C) (rd : Reader A) (conv : A → Option C) (f : A → B) (over : B → Option C) → ((a : A) → over (f a) ≡ conv a) → Completes k rule rd conv → Completes k rule (λ ts. mapped f (rd ts)) over
wrapped-complete k rule rd conv f over same c ts x rest d h = let r = c ts x rest d h in (f r.0, ap (mapped f) r.1, same r.0 ∙ r.2)

pub wrapped-sound : {A B C : Type 0} (rule : Rule C) (rd : Reader A) (conv : A → Option C) (f : A → B) (over : B → Option C) → ((a : A) → over (f a) ≡ conv a) → Sounds rule rd conv → Sounds rule (λ ts. mapped f (rd ts)) over
wrapped-sound rule rd conv f over same s ts b x rest e g =
    let m = mapped_ok f (rd ts) e in
    s ts m.0 x rest m.1 (sym (same m.0) ∙ (ap over m.2 ∙ g))

pub each-cons : {A B : Type 0} (f : A → Option B) (x : A) (xs : List A) (ys : List B) → each f (x ∷ xs) ≡ Some ys → (y : B) × (zs : List B) × (f x ≡ Some y) × (each f xs ≡ Some zs) × (y ∷ zs ≡ ys)
each-cons f x xs ys e =
    let one = bind_some (f x) (λ y. each f xs >>= λ zs. Some (y ∷ zs)) e in
    let two = bind_some (each f xs) (λ zs. Some (one.0 ∷ zs)) one.2 in
    (one.0, two.0, one.1, two.1, cc two.2)

-- ---- lists

module _ {A B : Type 0} (close : Mark) (item : Rule B) (rd : Reader A) (conv : A → Option B) (c : Completes 1 item rd conv) (eats : Eats item)
    (first : (ts : List Token) (x : B) (rest : List Token) → item ts x rest → eat close ts ≡ None) (zr : level_of (mark close) ≡ 0) (nc : is_mark close (mark token.Comma) ≡ false) where
  items_at-complete : (n : ℕ) (ts : List Token) (xs : List B) (rest : List Token) → length ts < n → Items close item ts xs rest → Reads (items_at close rd n) (each conv) ts xs rest
  unfolding items_at
  items_at-complete zero ts xs rest lt d = absurd (omega arith)
  items_at-complete (suc n) ts xs rest lt no_items = ([], rw (eat-same close rest), refl)
  items_at-complete (suc n) ts xs rest lt (last_item {a = x} d) =
      let low : level_of (mark close) < 1 = omega arith in
      let r = c ts x (mark close ∷ rest) d low in
      (r.0 ∷ [], rw (first ts x (mark close ∷ rest) d, r.1, eat-same close rest), rw r.2)
  items_at-complete (suc n) ts xs rest lt (an_item {a = x} {xs = ys} mid d more) =
      let low : 0 < 1 = omega arith in
      let fewer = eats ts x (mark token.Comma ∷ mid) d in
      let r = c ts x (mark token.Comma ∷ mid) d low in
      let m = items_at-complete n mid ys rest (omega arith) more in
      (r.0 ∷ m.0, rw (first ts x (mark token.Comma ∷ mid) d, r.1, eat-other close (mark token.Comma) mid nc, m.1), rw (r.2, m.2))

  pub items-complete : (ts : List Token) (xs : List B) (rest : List Token) → Items close item ts xs rest → Reads (items_of close rd) (each conv) ts xs rest
  unfolding items_of
  items-complete ts xs rest d = items_at-complete (suc (length ts)) ts xs rest (omega arith) d

module _ {A B : Type 0} (close : Mark) (item : Rule B) (rd : Reader A) (conv : A → Option B) (s : Sounds item rd conv) where
  abbrev ItemsFrom : ℕ → Type 0
  ItemsFrom n = (ts : List Token) (bs : List A) (xs : List B) (rest : List Token) → items_at close rd n ts ≡ Ok (bs, rest) → each conv bs ≡ Some xs → Items close item ts xs rest

  after_item-sound : (n : ℕ) → ItemsFrom n → (ts : List Token) (a : A) (us : List Token) (bs : List A) (xs : List B) (rest : List Token) (o : Option (List Token)) → rd ts ≡ Ok (a, us) → eat close us ≡ o → after_item (items_at close rd n) a us o ≡ Ok (bs, rest) → each conv bs ≡ Some xs → Items close item ts xs rest
  after_item-sound n ih ts a us bs xs rest (Some vs) d e f g =
      let v = ok_pair f in
      let w = each-cons conv a [] xs (ap (each conv) v.0 ∙ g) in
      let none : [] ≡ w.1 = cc w.3 in
      let same : w.0 ∷ [] ≡ xs = ap (λ q. w.0 ∷ q) none ∙ w.4 in
      moved (Items close item) ts vs rest (w.0 ∷ []) xs same v.1 (last_item (subst (λ r. item ts w.0 r) (eat-is close us vs e) (s ts a w.0 us d w.2)))
  after_item-sound n ih ts a us bs xs rest None d e f g =
      let one = bind_ok (needed (eat token.Comma us)) (λ vs. items_at close rd n vs >> λ ys. Ok (a ∷ ys.0, ys.1)) f in
      let two = bind_ok (items_at close rd n one.0) (λ ys. Ok (a ∷ ys.0, ys.1)) one.2 in
      let v = ok_pair two.2 in
      let w = each-cons conv a two.0.0 xs (ap (each conv) v.0 ∙ g) in
      let at = eat-is token.Comma us one.0 (needed_ok (eat token.Comma us) one.1) in
      moved (Items close item) ts two.0.1 rest (w.0 ∷ w.1) xs w.4 v.1 (an_item one.0 (subst (λ r. item ts w.0 r) at (s ts a w.0 us d w.2)) (ih one.0 two.0.0 w.1 two.0.1 two.1 w.3))

  items_step-sound : (n : ℕ) → ItemsFrom n → (ts : List Token) (bs : List A) (xs : List B) (rest : List Token) (o : Option (List Token)) → eat close ts ≡ o → items_step close rd (items_at close rd n) ts o ≡ Ok (bs, rest) → each conv bs ≡ Some xs → Items close item ts xs rest
  items_step-sound n ih ts bs xs rest (Some us) e f g =
      let v = ok_pair f in
      let same : [] ≡ xs = cc (ap (each conv) v.0 ∙ g) in
      rw (eat-is close ts us e) (moved (Items close item) (mark close ∷ us) us rest [] xs same v.1 no_items)
  items_step-sound n ih ts bs xs rest None e f g =
      let one = bind_ok (rd ts) (λ a. after_item (items_at close rd n) a.0 a.1 (eat close a.1)) f in
      after_item-sound n ih ts one.0.0 one.0.1 bs xs rest (eat close one.0.1) one.1 refl one.2 g

  items_at-sound : (n : ℕ) → ItemsFrom n
  unfolding items_at
  items_at-sound zero ts bs xs rest e g = absurd (cc e)
  items_at-sound (suc n) ts bs xs rest e g = items_step-sound n (items_at-sound n) ts bs xs rest (eat close ts) refl e g

  pub items-sound : (ts : List Token) (bs : List A) (xs : List B) (rest : List Token) → items_of close rd ts ≡ Ok (bs, rest) → each conv bs ≡ Some xs → Items close item ts xs rest
  unfolding items_of
  items-sound ts bs xs rest e g = items_at-sound (suc (length ts)) ts bs xs rest e g

-- ---- one after the other

module _ {A B : Type 0} (begins : List Token → Bool) (item : Rule B) (rd : Reader A) (conv : A → Option B) (F : List Token → Type 0)
    (c : (ts : List Token) (x : B) (rest : List Token) → item ts x rest → F rest → Reads rd conv ts x rest) (eats : Eats item)
    (starts : (ts : List Token) (x : B) (rest : List Token) → item ts x rest → begins ts ≡ true) (follows : (ts : List Token) (x : B) (rest : List Token) → item ts x rest → F ts) where
  each-follow : (ts : List Token) (xs : List B) (rest : List Token) → Each item ts xs rest → F rest → F ts
  each-follow ts xs rest no_more f = f
  each-follow ts xs rest (one_more {x} mid d more) f = follows ts x mid d

  each_at-complete : (n : ℕ) (ts : List Token) (xs : List B) (rest : List Token) → length ts < n → Each item ts xs rest → begins rest ≡ false → F rest → Reads (each_at begins rd n) (each conv) ts xs rest
  unfolding each_at
  each_at-complete zero ts xs rest lt d h f = absurd (omega arith)
  each_at-complete (suc n) ts xs rest lt no_more h f = ([], rw h, refl)
  each_at-complete (suc n) ts xs rest lt (one_more {x} {xs = ys} mid d more) h f =
      let fewer = eats ts x mid d in
      let r = c ts x mid d (each-follow mid ys rest more f) in
      let m = each_at-complete n mid ys rest (omega arith) more h f in
      (r.0 ∷ m.0, rw (starts ts x mid d, r.1, m.1), rw (r.2, m.2))

  pub each-complete : (ts : List Token) (xs : List B) (rest : List Token) → Each item ts xs rest → begins rest ≡ false → F rest → Reads (each_of begins rd) (each conv) ts xs rest
  unfolding each_of
  each-complete ts xs rest d h f = each_at-complete (suc (length ts)) ts xs rest (omega arith) d h f

module _ {A B : Type 0} (begins : List Token → Bool) (item : Rule B) (rd : Reader A) (conv : A → Option B) (s : Sounds item rd conv) where
  abbrev EachFrom : ℕ → Type 0
  EachFrom n = (ts : List Token) (bs : List A) (xs : List B) (rest : List Token) → each_at begins rd n ts ≡ Ok (bs, rest) → each conv bs ≡ Some xs → Each item ts xs rest

  each-none : (ts : List Token) (bs : List A) (xs : List B) (rest : List Token) → ◌≡◌ {A = Reading (List A)} (Ok ([], ts)) (Ok (bs, rest)) → each conv bs ≡ Some xs → Each item ts xs rest
  each-none ts bs xs rest e g =
      let v = ok_pair e in
      let same : [] ≡ xs = cc (ap (each conv) v.0 ∙ g) in
      moved (Each item) ts ts rest [] xs same v.1 no_more

  each_step-sound : (n : ℕ) → EachFrom n → (ts : List Token) (bs : List A) (xs : List B) (rest : List Token) (b : Bool) → each_step rd (each_at begins rd n) ts b ≡ Ok (bs, rest) → each conv bs ≡ Some xs → Each item ts xs rest
  each_step-sound n ih ts bs xs rest false e g = each-none ts bs xs rest e g
  each_step-sound n ih ts bs xs rest true e g =
      let one = bind_ok (rd ts) (λ x. each_at begins rd n x.1 >> λ ys. Ok (x.0 ∷ ys.0, ys.1)) e in
      let two = bind_ok (each_at begins rd n one.0.1) (λ ys. Ok (one.0.0 ∷ ys.0, ys.1)) one.2 in
      let v = ok_pair two.2 in
      let w = each-cons conv one.0.0 two.0.0 xs (ap (each conv) v.0 ∙ g) in
      moved (Each item) ts two.0.1 rest (w.0 ∷ w.1) xs w.4 v.1 (one_more one.0.1 (s ts one.0.0 w.0 one.0.1 one.1 w.2) (ih one.0.1 two.0.0 w.1 two.0.1 two.1 w.3))

  each_at-sound : (n : ℕ) → EachFrom n
  unfolding each_at
  each_at-sound zero ts bs xs rest e g = each-none ts bs xs rest e g
  each_at-sound (suc n) ts bs xs rest e g = each_step-sound n (each_at-sound n) ts bs xs rest (begins ts) e g

  pub each-sound : (ts : List Token) (bs : List A) (xs : List B) (rest : List Token) → each_of begins rd ts ≡ Ok (bs, rest) → each conv bs ≡ Some xs → Each item ts xs rest
  unfolding each_of
  each-sound ts bs xs rest e g = each_at-sound (suc (length ts)) ts bs xs rest e g

-- nothing was read
module _ {A : Type 0} (begins : List Token → Bool) (rd : Reader A) where
  each_at-nothing : (n : ℕ) (ts rest : List Token) → each_at begins rd n ts ≡ Ok ([], rest) → ts ≡ rest
  unfolding each_at
  each_at-nothing zero ts rest e = (ok_pair e).1
  each_at-nothing (suc n) ts rest e = by (begins ts) e
    where
      by : (b : Bool) → each_step rd (each_at begins rd n) ts b ≡ Ok ([], rest) → ts ≡ rest
      by false f = (ok_pair f).1
      by true f =
          let one = bind_ok (rd ts) (λ x. each_at begins rd n x.1 >> λ ys. Ok (x.0 ∷ ys.0, ys.1)) f in
          let two = bind_ok (each_at begins rd n one.0.1) (λ ys. Ok (one.0.0 ∷ ys.0, ys.1)) one.2 in
          absurd (cc (ok_pair two.2).0)

  pub each-nothing : (ts rest : List Token) → each_of begins rd ts ≡ Ok ([], rest) → ts ≡ rest
  unfolding each_of
  each-nothing ts rest e = each_at-nothing (suc (length ts)) ts rest e

  pub each_at-stop : (n : ℕ) (ts : List Token) → begins ts ≡ false → each_at begins rd n ts ≡ Ok ([], ts)
  unfolding each_at
  each_at-stop zero ts e = refl
  each_at-stop (suc n) ts e = rw e

  pub each-stop : (ts : List Token) → begins ts ≡ false → each_of begins rd ts ≡ Ok ([], ts)
  unfolding each_of each_at
  each-stop ts e = rw e

-- ---- chains

-- an operator in front
module _ {Op : Type 0} (op : Token → Option Op) where
  pub operator-is : (ts : List Token) (x : Op × List Token) → operator_at op ts ≡ Some x → (o : Token) × (op o ≡ Some x.0) × (ts ≡ o ∷ x.1)
  operator-is [] x e = absurd (cc e)
  operator-is (o ∷ ts) x e = by (op o) refl e
    where
      by : (q : Option Op) → op o ≡ q → before_rest ts q ≡ Some x → (t : Token) × (op t ≡ Some x.0) × (o ∷ ts ≡ t ∷ x.1)
      by None f g = absurd (cc g)
      by (Some p) f g = let same : ◌≡◌ {A = Op × List Token} (p, ts) x = cc g in (o, f ∙ ap (λ y. Some y.0) same, ap (λ y. o ∷ y.1) same)

-- what the links make of a tree
abbrev pub folded : {Op A : Type 0} → (A → Option Tree) → Join Op → Tree → List (Op × A) → Option Tree
folded conv join x [] = Some x
folded conv join x (y ∷ ys) = conv y.1 >>= λ b. join y.0 x b >>= λ t. folded conv join t ys

abbrev pub chain_tree : {Op A : Type 0} → (A → Option Tree) → Join Op → A × List (Op × A) → Option Tree
chain_tree conv join y = conv y.0 >>= λ x. folded conv join x y.1

module _ {Op A : Type 0} (k : ℕ) (item : Rule Tree) (op : Token → Option Op) (rd : Reader A) (conv : A → Option Tree) (join : Join Op) where
  module _ (c : Completes (suc k) item rd conv) (eats : Eats item) (links : Links k op join) (quiet : Silent k op) where
    tail-below : (a t : Tree) (ts rest : List Token) → Tail k item a ts t rest → Below k rest → Below (suc k) ts
    tail-below a t ts rest stop h = below-more k (suc k) (omega arith) ts h
    tail-below a t ts rest (go_on b o l mid e d tl) h = let at = (links o l e).0 in omega arith

    tail-complete : (n : ℕ) (a t : Tree) (ts rest : List Token) → length ts < n → Tail k item a ts t rest → Below k rest → Reads (chain_at op rd n) (folded conv join a) ts t rest
    unfolding chain_at
    tail-complete zero a t ts rest lt d h = absurd (omega arith)
    tail-complete (suc n) a t ts rest lt stop h = ([], rw (silent k op quiet ts h), refl)
    tail-complete (suc n) a t ts rest lt (go_on b o l {ts = us} mid e d tl) h =
        let fewer = eats us b mid d in
        let f = links o l e in
        let r = c us b mid d (tail-below (linked l a b) t mid rest tl h) in
        let m = tail-complete n (linked l a b) t mid rest (omega arith) tl h in
        ((f.1, r.0) ∷ m.0, rw (f.2, r.1, m.1), rw (r.2, f.3 a b, m.2))

    pub chain-complete : Completes k (Chain k item) (chain_of op rd) (chain_tree conv join)
    unfolding chain_of links_of
    chain-complete ts t rest (chain a mid d tl) h =
        let r = c ts a mid d (tail-below a t mid rest tl h) in
        let m = tail-complete (suc (length mid)) a t mid rest (omega arith) tl h in
        ((r.0, m.0), rw (r.1, m.1), rw (r.2, m.2))

  module _ (s : Sounds item rd conv) (joins : Joins k op join) where
    abbrev TailFrom : ℕ → Type 0
    TailFrom n = (a t : Tree) (ts : List Token) (bs : List (Op × A)) (rest : List Token) → chain_at op rd n ts ≡ Ok (bs, rest) → folded conv join a bs ≡ Some t → Tail k item a ts t rest

    tail-none : (a t : Tree) (ts : List Token) (bs : List (Op × A)) (rest : List Token) → ◌≡◌ {A = Reading (List (Op × A))} (Ok ([], ts)) (Ok (bs, rest)) → folded conv join a bs ≡ Some t → Tail k item a ts t rest
    tail-none a t ts bs rest e g =
        let v = ok_pair e in
        let same : a ≡ t = cc (ap (folded conv join a) v.0 ∙ g) in
        moved (λ us x r. Tail k item a us x r) ts ts rest a t same v.1 stop

    tail_step-sound : (n : ℕ) → TailFrom n → (a t : Tree) (ts : List Token) (bs : List (Op × A)) (rest : List Token) (o : Option (Op × List Token)) → operator_at op ts ≡ o → chain_step rd (chain_at op rd n) ts o ≡ Ok (bs, rest) → folded conv join a bs ≡ Some t → Tail k item a ts t rest
    tail_step-sound n ih a t ts bs rest None w e g = tail-none a t ts bs rest e g
    tail_step-sound n ih a t ts bs rest (Some x) w e g =
        let one = bind_ok (rd x.1) (λ b. chain_at op rd n b.1 >> λ ys. Ok ((x.0, b.0) ∷ ys.0, ys.1)) e in
        let two = bind_ok (chain_at op rd n one.0.1) (λ ys. Ok ((x.0, one.0.0) ∷ ys.0, ys.1)) one.2 in
        let v = ok_pair two.2 in
        let three = bind_some (conv one.0.0) (λ b. join x.0 a b >>= λ u. folded conv join u two.0.0) (ap (folded conv join a) v.0 ∙ g) in
        let four = bind_some (join x.0 a three.0) (λ u. folded conv join u two.0.0) three.2 in
        let at = operator-is op ts x w in
        let j = joins at.0 x.0 a three.0 four.0 at.1 four.1 in
        let tl = ih four.0 t one.0.1 two.0.0 two.0.1 two.1 four.2 in
        rw (at.2, ← v.1) (go_on three.0 at.0 j.0 one.0.1 j.1 (s x.1 one.0.0 three.0 one.0.1 one.1 three.1) (subst (λ z. Tail k item z one.0.1 t two.0.1) (sym j.2) tl))

    tail-sound : (n : ℕ) → TailFrom n
    unfolding chain_at
    tail-sound zero a t ts bs rest e g = tail-none a t ts bs rest e g
    tail-sound (suc n) a t ts bs rest e g = tail_step-sound n (tail-sound n) a t ts bs rest (operator_at op ts) refl e g

    pub chain-sound : Sounds (Chain k item) (chain_of op rd) (chain_tree conv join)
    unfolding chain_of links_of
    chain-sound ts x t rest e g =
        let one = bind_ok (rd ts) (λ a. links_of op rd a.1 >> λ ys. Ok ((a.0, ys.0), ys.1)) e in
        let two = bind_ok (links_of op rd one.0.1) (λ ys. Ok ((one.0.0, ys.0), ys.1)) one.2 in
        let v = ok_pair two.2 in
        let three = bind_some (conv one.0.0) (λ u. folded conv join u two.0.0) (ap (chain_tree conv join) v.0 ∙ g) in
        let tl = tail-sound (suc (length one.0.1)) three.0 t one.0.1 two.0.0 two.0.1 two.1 three.2 in
        chain three.0 one.0.1 (s ts one.0.0 three.0 one.0.1 one.1 three.1) (subst (λ r. Tail k item three.0 one.0.1 t r) v.1 tl)

-- ---- chains of one item

module _ {Op A : Type 0} (op : Token → Option Op) (rd : Reader A) where
  links-none : (n : ℕ) (ts rest : List Token) → chain_at op rd n ts ≡ Ok ([], rest) → ts ≡ rest
  unfolding chain_at
  links-none zero ts rest e = (ok_pair e).1
  links-none (suc n) ts rest e = by (operator_at op ts) e
    where
      by : (o : Option (Op × List Token)) → chain_step rd (chain_at op rd n) ts o ≡ Ok ([], rest) → ts ≡ rest
      by None f = (ok_pair f).1
      by (Some x) f =
          let one = bind_ok (rd x.1) (λ b. chain_at op rd n b.1 >> λ ys. Ok ((x.0, b.0) ∷ ys.0, ys.1)) f in
          let two = bind_ok (chain_at op rd n one.0.1) (λ ys. Ok ((x.0, one.0.0) ∷ ys.0, ys.1)) one.2 in
          absurd (cc (ok_pair two.2).0)

  pub links-lone : (ts rest : List Token) → links_of op rd ts ≡ Ok ([], rest) → ts ≡ rest
  unfolding links_of
  links-lone ts rest e = links-none (suc (length ts)) ts rest e

  pub chain-lone : (ts : List Token) (a : A) (rest : List Token) → chain_of op rd ts ≡ Ok ((a, []), rest) → rd ts ≡ Ok (a, rest)
  unfolding chain_of
  chain-lone ts a rest e =
      let one = bind_ok (rd ts) (λ b. links_of op rd b.1 >> λ ys. Ok ((b.0, ys.0), ys.1)) e in
      let two = bind_ok (links_of op rd one.0.1) (λ ys. Ok ((one.0.0, ys.0), ys.1)) one.2 in
      let v = ok_pair two.2 in
      let none : two.0.0 ≡ [] = ap (λ y. y.1) v.0 in
      let stays = links-lone one.0.1 two.0.1 (two.1 ∙ ap (λ ys. Ok (ys, two.0.1)) none) in
      one.1 ∙ ap (λ b. Ok (b, one.0.1)) (ap (λ y. y.0) v.0) ∙ ap (λ r. Ok (a, r)) (stays ∙ v.1)

  pub links-stop : (k : ℕ) (quiet : Silent k op) (ts : List Token) → Below k ts → links_of op rd ts ≡ Ok ([], ts)
  unfolding links_of chain_at
  links-stop k quiet ts h = rw (silent k op quiet ts h)

  pub chain-one : (k : ℕ) (quiet : Silent k op) (ts : List Token) (a : A) (rest : List Token) → rd ts ≡ Ok (a, rest) → Below k rest → chain_of op rd ts ≡ Ok ((a, []), rest)
  unfolding chain_of
  chain-one k quiet ts a rest e h = rw (e, links-stop k quiet rest h)

  pub links-one : (k : ℕ) (quiet : Silent k op) (o : Token) (p : Op) (ts : List Token) (a : A) (rest : List Token) → op o ≡ Some p → rd ts ≡ Ok (a, rest) → Below k rest → links_of op rd (o ∷ ts) ≡ Ok ((p, a) ∷ [], rest)
  unfolding links_of chain_at
  links-one k quiet o p ts a rest e f h = rw (e, f, silent k op quiet rest h)

  -- a chain of one link
  links_at-single : (n : ℕ) (ts : List Token) (y : Op × A) (rest : List Token) → chain_at op rd n ts ≡ Ok (y ∷ [], rest) → (o : Token) × (us : List Token) × (ts ≡ o ∷ us) × (op o ≡ Some y.0) × (rd us ≡ Ok (y.1, rest))
  unfolding chain_at
  links_at-single zero ts y rest e = absurd (cc (ok_pair e).0)
  links_at-single (suc n) [] y rest e = absurd (cc (ok_pair e).0)
  links_at-single (suc n) (o ∷ ts) y rest e = by (op o) refl e
    where
      by : (q : Option Op) → op o ≡ q → chain_step rd (chain_at op rd n) (o ∷ ts) (before_rest ts q) ≡ Ok (y ∷ [], rest) → (t : Token) × (us : List Token) × (o ∷ ts ≡ t ∷ us) × (op t ≡ Some y.0) × (rd us ≡ Ok (y.1, rest))
      by None f g = absurd (cc (ok_pair g).0)
      by (Some p) f g =
          let one = bind_ok (rd ts) (λ b. chain_at op rd n b.1 >> λ ys. Ok ((p, b.0) ∷ ys.0, ys.1)) g in
          let two = bind_ok (chain_at op rd n one.0.1) (λ ys. Ok ((p, one.0.0) ∷ ys.0, ys.1)) one.2 in
          let v = ok_pair two.2 in
          let first : ◌≡◌ {A = Op × A} (p, one.0.0) y = cc v.0 in
          let none : two.0.0 ≡ [] = cc v.0 in
          let stays = links-none n one.0.1 rest (two.1 ∙ ap (λ r. Ok (two.0.0, r)) v.1 ∙ ap (λ ys. Ok (ys, rest)) none) in
          (o, ts, refl, f ∙ ap (λ z. Some z.0) first, one.1 ∙ ap (λ z. Ok (z.1, one.0.1)) first ∙ ap (λ r. Ok (y.1, r)) stays)

  pub links-single : (ts : List Token) (y : Op × A) (rest : List Token) → links_of op rd ts ≡ Ok (y ∷ [], rest) → (o : Token) × (us : List Token) × (ts ≡ o ∷ us) × (op o ≡ Some y.0) × (rd us ≡ Ok (y.1, rest))
  unfolding links_of
  links-single ts y rest e = links_at-single (suc (length ts)) ts y rest e
