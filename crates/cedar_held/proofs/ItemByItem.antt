-- Lists that are read item by item: what is read so far, before what the rest is read as.
use Rattle.std.proofs.Common.{◌≡◌, ◌∙◌, ◌+◌, ◌<◌, ℕ, refl, ap, sym, Option, Some, None, option_map, List, [], ◌∷◌, ◌++◌, append_assoc, length, get_or, drop, drop-cons, add-one, map}
use Rattle.std.proofs.lemmas.List.{append-nil}
use Rattle.cedar_language.specs.Tree.{Tree}
use Rattle.cedar_grammar.specs.Build.{trees}
use Rattle.cedar_trees.specs.Bare.{bare}
use Rattle.cedar_trees.specs.declared.expr.Expr.{Expr}
use Rattle.cedar_world.specs.Bodies.{each, read_with}

abbrev pub after : {A : Type 0} → List A → Option (List A) → Option (List A)
after done rest = option_map (λ xs. done ++ xs) rest

module _ {A : Type 0} (read : Tree → Option A) where
  abbrev rest_of : List (Expr (Unit {0})) → Option (List A)
  rest_of es = each read (trees (map bare es))

  pub nothing_done : (o : Option (List A)) → o ≡ after [] o
  nothing_done None = refl
  nothing_done (Some xs) = refl

  cut : (es : List (Expr (Unit {0}))) (i : ℕ) (e : Expr (Unit {0})) → i < length es → e ≡ get_or es i e → rest_of (drop i es) ≡ read_with (read (bare e)) (rest_of (drop (i + 1) es))
  cut es i e lt is = rw (add-one, drop-cons es i e lt, ← is) refl

  after_one : (done : List A) (x : A) (o : Option (List A)) → after done (read_with (Some x) o) ≡ after (done ++ x ∷ []) o
  after_one done x None = refl
  after_one done x (Some xs) = ap Some (sym (append_assoc done (x ∷ []) xs))

  module _ (es : List (Expr (Unit {0}))) (i : ℕ) (e : Expr (Unit {0})) (lt : i < length es) (is : e ≡ get_or es i e) (whole : Option (List A)) (done : List A) (h : whole ≡ after done (rest_of (drop i es))) where
    -- one that can't be read
    pub unread : read (bare e) ≡ None → None ≡ whole
    unread none = sym (h ∙ ap (after done) (cut es i e lt is ∙ ap (λ o. read_with o (rest_of (drop (i + 1) es))) none))

    pub one_more : (x : A) (more : List A) → read (bare e) ≡ Some x → more ≡ done ++ x ∷ [] → whole ≡ after more (rest_of (drop (i + 1) es))
    one_more x more some is_more =
        h ∙ ap (after done) (cut es i e lt is ∙ ap (λ o. read_with o (rest_of (drop (i + 1) es))) some)
        ∙ after_one done x (rest_of (drop (i + 1) es)) ∙ ap (λ m. after m (rest_of (drop (i + 1) es))) (sym is_more)

  pub all_done : (es : List (Expr (Unit {0}))) (i : ℕ) (whole : Option (List A)) (done : List A) → drop i es ≡ [] → whole ≡ after done (rest_of (drop i es)) → Some done ≡ whole
  all_done es i whole done none h = sym (h ∙ ap (λ l. after done (rest_of l)) none ∙ ap Some (append-nil done))
