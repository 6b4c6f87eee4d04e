-- How a text is cut into the identifiers of a name.
use Rattle.std.proofs.Common.{◌≡◌, ◌≢◌, ℕ, zero, suc, ◌<◌, ◌≤◌, [], ◌∷◌, ◌++◌, length, take, drop, true, refl, sym, ap, ◌∙◌, subst, arith, append_assoc, append-nil, codes, ◌&&◌, IsTrue, Err, None, length-append}
use Rattle.std.proofs.lemmas.Bool.{false≢true}
use Rattle.std.proofs.lemmas.Grind.{flat_map-append}
use Rattle.std.proofs.lemmas.List.{take-append-drop}
use Rattle.std.proofs.lemmas.List.Folds.{list_all-append}
use Rattle.std.proofs.Math.Seq.{drop-append_seam}
use Rattle.std.specs.Cmp.{first_so, second_so}
use Rattle.std.specs.List.{list_all, flat_map}
use Rattle.std.specs.Str.Pattern.{FindsText, SplitsAroundMatch}
use Rattle.cedar_language.specs.Uid.{Text, Name}
use Rattle.cedar_language.specs.Words.{begins_word, is_in_word}
use Rattle.cedar_names.specs.Identifiers.{is_id, IsId}
use Rattle.cedar_names.specs.Names.{IsName, name_text}
use Rattle.cedar_names.specs.Reading.{Spells, ReadsId, ReadsInternalName}
use Rattle.cedar_names.specs.declared.errors.ParseNameError.{ParseNameError}
use Rattle.cedar_names.specs.declared.errors.ParseNameError.TheVariants.{NotNormalized, Reserved, Memory}

-- no colon
abbrev Plain : Text → Type 0
Plain [] = Unit {0}
Plain (c ∷ cs) = (c ≢ 58) × Plain cs

within_plain : (c : ℕ) → is_in_word c ≡ true → c ≢ 58
within_plain c h e = false≢true (subst (λ (d : ℕ). is_in_word d ≡ true) e h)

begins_plain : (c : ℕ) → begins_word c ≡ true → c ≢ 58
begins_plain c h e = false≢true (subst (λ (d : ℕ). begins_word d ≡ true) e h)

all_plain : (cs : Text) → list_all is_in_word cs ≡ true → Plain cs
all_plain [] h = tt
all_plain (c ∷ cs) h = (within_plain c (first_so _ _ h), all_plain cs (second_so _ _ h))

id_plain : (s : Text) → IsId s → Plain s
id_plain [] h = tt
id_plain (c ∷ cs) h =
    let w = first_so (begins_word c && list_all is_in_word cs) _ h in
    (begins_plain c (first_so _ _ w), all_plain cs (second_so _ _ w))

-- the first separator after a plain text is right behind it
cut : (x : Text) → Plain x → (tail : Text) (i : ℕ) (b : Text) → drop i (x ++ 58 ∷ 58 ∷ tail) ≡ 58 ∷ 58 ∷ b → ((k : ℕ) → k < i → (r : Text) → drop k (x ++ 58 ∷ 58 ∷ tail) ≢ 58 ∷ 58 ∷ r)
    → (take i (x ++ 58 ∷ 58 ∷ tail) ≡ x) × (tail ≡ b)
cut [] h tail zero b e first = (refl, cc)
cut [] h tail (suc i) b e first = absurd (first 0 (omega arith) tail refl)
cut (c ∷ cs) h tail zero b e first = absurd (h.0 (cc))
cut (c ∷ cs) h tail (suc i) b e first =
    let r = cut cs h.1 tail i b e (λ k l. first (suc k) (omega arith)) in
    (ap (λ ys. c ∷ ys) r.0, r.1)

uncut : (x : Text) → Plain x → (i : ℕ) (b : Text) → drop i x ≢ 58 ∷ 58 ∷ b
uncut [] h zero b e = absurd (cc)
uncut [] h (suc i) b e = absurd (cc)
uncut (c ∷ cs) h zero b e = h.0 (cc)
uncut (c ∷ cs) h (suc i) b e = uncut cs h.1 i b e

-- a name that a cut text spells begins with what stands before the cut
pub first_spelled : (m : Name) (s front back : Text) → Spells m s → SplitsAroundMatch (FindsText (codes "::")) s front back → (ms : Name) × (m ≡ front ∷ ms) × Spells ms back × IsId front
first_spelled [] s front back h x = absurd (h.0.0 refl)
first_spelled (y ∷ []) s front back h (i, j, found, f, b, _, _, _) =
    let e : y ≡ s = sym (append-nil y) ∙ h.1 in
    absurd (uncut y (id_plain y (first_so _ _ h.0.1)) i (drop j s) (rw e found.1.split))
first_spelled (y ∷ z ∷ zs) s front back h (i, j, found, f, b, _, _, _) =
    let e : y ++ 58 ∷ 58 ∷ name_text (z ∷ zs) ≡ s = h.1 in
    let id : IsId y = first_so _ _ h.0.1 in
    let c = cut y (id_plain y id) (name_text (z ∷ zs)) i (drop j s) (rw e found.1.split) (λ k l r. rw e (found.0 k l r)) in
    let same : y ≡ front = sym c.0 ∙ ap (take i) e ∙ sym f in
    (z ∷ zs, ap (λ t. t ∷ z ∷ zs) same, (((λ q. absurd (cc)), second_so _ _ h.0.1), c.1 ∙ sym b), subst IsId same id)

-- identifiers that were read, and the text after them
pub record IsRead (text : Text) (front : Name) (rest : Text) : Type 0 where
  pub ids : IsTrue (list_all is_id front)
  pub whole : text ≡ flat_map (λ id. id ++ codes "::") front ++ rest
  pub only : (n : Name) → Spells n text → (m : Name) × (n ≡ front ++ m) × Spells m rest

-- a name that a text without separators spells is that text alone
pub alone_spelled : (m : Name) (s : Text) → Spells m s → FindsText (codes "::") s None → (m ≡ s ∷ []) × IsId s
alone_spelled [] s h none = absurd (h.0.0 refl)
alone_spelled (y ∷ []) s h none =
    let e : y ≡ s = sym (append-nil y) ∙ h.1 in
    (ap (λ t. t ∷ []) e, subst IsId e (first_so _ _ h.0.1))
alone_spelled (y ∷ z ∷ zs) s h none =
    let e : y ++ 58 ∷ 58 ∷ name_text (z ∷ zs) ≡ s = h.1 in
    let le : length y ≤ length (y ++ 58 ∷ 58 ∷ name_text (z ∷ zs)) = rw length-append (omega arith) in
    absurd (none (length y) (subst (λ (t : Text). length y ≤ length t) e le) (name_text (z ∷ zs)) (ap (drop (length y)) (sym e) ∙ drop-append_seam y (58 ∷ 58 ∷ name_text (z ∷ zs))))

pub none_read : (text : Text) → IsRead text [] text
none_read text = record { ids = refl; whole = refl; only = λ n s. (n, refl, s) }

-- a cut text is its front, the separator and its back
pub joined_cut : (s front back : Text) → SplitsAroundMatch (FindsText (codes "::")) s front back → s ≡ front ++ (codes "::" ++ back)
joined_cut s front back (i, j, found, f, b, _, _, _) =
    sym (take-append-drop i s) ∙ ap (λ t. t ++ drop i s) (sym f) ∙ ap (λ t. front ++ t) (found.1.split ∙ ap (λ t. codes "::" ++ t) (sym b))

pub more_read : (text : Text) (front : Name) (rest id more : Text) → IsRead text front rest → SplitsAroundMatch (FindsText (codes "::")) rest id more → IsId id → IsRead text (front ++ id ∷ []) more
more_read text front rest id more r at ok =
    record {
      ids = rw (list_all-append is_id front (id ∷ []), r.ids, ok) refl;
      whole = r.whole ∙ rw (joined_cut rest id more at, flat_map-append (λ (t : Text). t ++ codes "::") front (id ∷ [])) (simp (append_assoc, append-nil));
      only = λ n s.
          let m = r.only n s in
          let t = first_spelled m.0 rest id more m.2 at in
          (t.0, m.1 ∙ ap (λ k. front ++ k) t.1 ∙ sym (append_assoc front (id ∷ []) t.0), t.2);
    }

-- what stands between the separators of a name, and behind the last one
spelled_on : (front : Name) (id : Text) → flat_map (λ t. codes "::" ++ t) (front ++ id ∷ []) ≡ codes "::" ++ (flat_map (λ t. t ++ codes "::") front ++ id)
spelled_on [] id = append-nil (codes "::" ++ id)
spelled_on (t ∷ ts) id = ap (λ q. (codes "::" ++ t) ++ q) (spelled_on ts id) ∙ simp append_assoc

name_text-push : (front : Name) (id : Text) → name_text (front ++ id ∷ []) ≡ flat_map (λ t. t ++ codes "::") front ++ id
name_text-push [] id = append-nil id
name_text-push (t ∷ ts) id = ap (λ q. t ++ q) (spelled_on ts id) ∙ simp append_assoc

some_pushed : (front : Name) (id : Text) → front ++ id ∷ [] ≢ []
some_pushed [] id e = absurd (cc)
some_pushed (t ∷ ts) id e = absurd (cc)

pub all_read : (text : Text) (front : Name) (rest : Text) → IsRead text front rest → IsId rest → Spells (front ++ rest ∷ []) text
all_read text front rest r ok =
    ((some_pushed front rest, rw (list_all-append is_id front (rest ∷ []), r.ids, ok) refl), name_text-push front rest ∙ sym r.whole)

-- what is answered where an identifier is refused
pub refused_read : (text : Text) (front : Name) (rest id more : Text) (e : ParseNameError) → IsRead text front rest → SplitsAroundMatch (FindsText (codes "::")) rest id more → ReadsId id (Err e)
    → ReadsInternalName text (Err e)
refused_read text front rest id more NotNormalized r at refused = λ n ok s. let m = r.only n (ok, s) in refused (first_spelled m.0 rest id more m.2 at).3
refused_read text front rest id more (Reserved e) r at refused = refused
refused_read text front rest id more (Memory e) r at refused = tt

pub refused_last : (text : Text) (front : Name) (rest : Text) (e : ParseNameError) → IsRead text front rest → FindsText (codes "::") rest None → ReadsId rest (Err e) → ReadsInternalName text (Err e)
refused_last text front rest NotNormalized r none refused = λ n ok s. let m = r.only n (ok, s) in refused (alone_spelled m.0 rest m.2 none).1
refused_last text front rest (Reserved e) r none refused = refused
refused_last text front rest (Memory e) r none refused = tt

-- ---- how two names are told apart

-- nothing, or a colon first
abbrev Starts : Text → Type 0
Starts [] = Unit {0}
Starts (c ∷ cs) = c ≡ 58

abbrev tail_text : Name → Text
tail_text = flat_map (λ t. codes "::" ++ t)

starts_tail : (ts : Name) → Starts (tail_text ts)
starts_tail [] = tt
starts_tail (t ∷ ts) = refl

split_alike : (x y s t : Text) → Plain x → Plain y → Starts s → Starts t → x ++ s ≡ y ++ t → (x ≡ y) × (s ≡ t)
split_alike [] [] s t p q a b e = (refl, e)
split_alike [] (d ∷ ds) s t p q a b e = absurd (q.0 (subst Starts e a))
split_alike (c ∷ cs) [] s t p q a b e = absurd (p.0 (subst Starts (sym e) b))
split_alike (c ∷ cs) (d ∷ ds) s t p q a b e =
    let first : c ≡ d = cc in
    let rest : cs ++ s ≡ ds ++ t = cc in
    let r = split_alike cs ds s t p.1 q.1 a b rest in
    (λ i. first i ∷ r.0 i, r.1)

tails_apart : (xs ys : Name) → list_all is_id xs ≡ true → list_all is_id ys ≡ true → tail_text xs ≡ tail_text ys → xs ≡ ys
tails_apart [] [] h k e = refl
tails_apart [] (y ∷ ys) h k e = absurd (cc)
tails_apart (x ∷ xs) [] h k e = absurd (cc)
tails_apart (x ∷ xs) (y ∷ ys) h k e =
    let rest : x ++ tail_text xs ≡ y ++ tail_text ys = cc in
    let r = split_alike x y _ _ (id_plain x (first_so _ _ h)) (id_plain y (first_so _ _ k)) (starts_tail xs) (starts_tail ys) rest in
    let more = tails_apart xs ys (second_so _ _ h) (second_so _ _ k) r.1 in
    λ i. r.0 i ∷ more i

pub names_apart : (m n : Name) → IsName m → IsName n → name_text m ≡ name_text n → m ≡ n
names_apart [] n h k e = absurd (h.0 refl)
names_apart (x ∷ xs) [] h k e = absurd (k.0 refl)
names_apart (x ∷ xs) (y ∷ ys) h k e =
    let r = split_alike x y _ _ (id_plain x (first_so _ _ h.1)) (id_plain y (first_so _ _ k.1)) (starts_tail xs) (starts_tail ys) e in
    let more = tails_apart xs ys (second_so _ _ h.1) (second_so _ _ k.1) r.1 in
    λ i. r.0 i ∷ more i
