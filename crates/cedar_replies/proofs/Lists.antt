-- Lists of items, written one behind the other.
use Rattle.std.proofs.Common.{◌≡◌, ℕ, ◌+◌, ◌<◌, List, [], ◌∷◌, ◌++◌, length, take, get_or, map, codes, Option, refl, sym, ap, subst, ◌∙◌, append_assoc, append-nil}
use Rattle.std.proofs.lemmas.List.{take_more}
use Rattle.cedar_frames.specs.declared.watched.Calls.{Calls}
use Rattle.cedar_frames.specs.Quoting.{escaped_all, quoted}
use Rattle.cedar_frames.specs.Writing.{Puts}
use Rattle.cedar_frames.proofs.Bytes.{puts_more}
use Rattle.cedar_language.specs.Uid.{Text}
use Rattle.cedar_world.specs.Lines.{further, listed}
use Rattle.cedar_replies.specs.Lines.{reopened}

further_more : (items : List (List ℕ)) (item : List ℕ) → further (items ++ item ∷ []) ≡ (further items ++ codes ",") ++ item
further_more [] item = append-nil (codes "," ++ item)
further_more (i ∷ items) item =
    ap (λ l. (codes "," ++ i) ++ l) (further_more items item)
    ∙ sym (append_assoc (codes "," ++ i) (further items ++ codes ",") item)
    ∙ ap (λ l. l ++ item) (sym (append_assoc (codes "," ++ i) (further items) (codes ",")))

map_more : {A : Type 0} (f : A → List ℕ) (xs : List A) (x : A) → map f (xs ++ x ∷ []) ≡ map f xs ++ f x ∷ []
map_more f [] x = refl
map_more f (y ∷ ys) x = ap (λ l. f y ∷ l) (map_more f ys x)

further_longer : {A : Type 0} (f : A → List ℕ) (xs : List A) (i : ℕ) (x : A) → i < length xs → x ≡ get_or xs i x
    → further (map f (take (i + 1) xs)) ≡ (further (map f (take i xs)) ++ codes ",") ++ f x
further_longer f xs i x h at =
    ap (λ l. further (map f l)) (take_more xs i x h ∙ ap (λ y. take i xs ++ y ∷ []) (sym at))
    ∙ ap further (map_more f (take i xs) x)
    ∙ further_more (map f (take i xs)) (f x)

-- one item more, behind a comma
pub item_more : {A : Type 0} (f : A → List ℕ) (f0 f1 f2 f3 : Calls) (a b c d : Option (List ℕ)) (xs : List A) (i : ℕ) (x : A) → i < length xs → x ≡ get_or xs i x
    → Puts f0 a f1 b (further (map f (take i xs))) → Puts f1 b f2 c (codes ",") → Puts f2 c f3 d (f x)
    → Puts f0 a f3 d (further (map f (take (i + 1) xs)))
item_more f f0 f1 f2 f3 a b c d xs i x h at before comma item =
    let past = further (map f (take i xs)) in
    let whole = puts_more f0 f2 f3 a c d (past ++ codes ",") (f x) (puts_more f0 f1 f2 a b c past (codes ",") before comma) item in
    subst (Puts f0 a f3 d) (sym (further_longer f xs i x h at)) whole

-- items in brackets
pub items_listed : {A : Type 0} (f : A → List ℕ) (f0 f1 f2 f3 f4 : Calls) (a b c d e : Option (List ℕ)) (all : List A) (x : A) (xs : List A) → all ≡ x ∷ xs
    → Puts f0 a f1 b (codes "[") → Puts f1 b f2 c (f x) → Puts f2 c f3 d (further (map f xs)) → Puts f3 d f4 e (codes "]")
    → Puts f0 a f4 e (listed (map f all))
items_listed f f0 f1 f2 f3 f4 a b c d e all x xs is opened first others closed =
    let begun = puts_more f0 f1 f2 a b c (codes "[") (f x) opened first in
    let filled = puts_more f0 f2 f3 a c d (codes "[" ++ f x) (further (map f xs)) begun others in
    subst (λ l. Puts f0 a f4 e (listed (map f l))) (sym is) (puts_more f0 f3 f4 a d e ((codes "[" ++ f x) ++ further (map f xs)) (codes "]") filled closed)

-- ---- ids whose quotes are written together with what parts them

reopened_more : (ids : List Text) (id : Text) → reopened (ids ++ id ∷ []) ≡ (reopened ids ++ codes "\",\"") ++ escaped_all id
reopened_more [] id = append-nil (codes "\",\"" ++ escaped_all id)
reopened_more (i ∷ ids) id =
    ap (λ l. (codes "\",\"" ++ escaped_all i) ++ l) (reopened_more ids id)
    ∙ sym (append_assoc (codes "\",\"" ++ escaped_all i) (reopened ids ++ codes "\",\"") (escaped_all id))
    ∙ ap (λ l. l ++ escaped_all id) (sym (append_assoc (codes "\",\"" ++ escaped_all i) (reopened ids) (codes "\",\"")))

-- one id more, behind what parts it from the one before
pub id_more : (past : List ℕ) (ids : List Text) (i : ℕ) (id : Text) → i < length ids → id ≡ get_or ids i id
    → ((past ++ reopened (take i ids)) ++ codes "\",\"") ++ escaped_all id ≡ past ++ reopened (take (i + 1) ids)
id_more past ids i id h at =
    let before = reopened (take i ids) in
    let longer : reopened (take (i + 1) ids) ≡ (before ++ codes "\",\"") ++ escaped_all id =
    ap reopened (take_more ids i id h ∙ ap (λ y. take i ids ++ y ∷ []) (sym at)) ∙ reopened_more (take i ids) id in
    ap (λ l. l ++ escaped_all id) (append_assoc past before (codes "\",\""))
    ∙ append_assoc past (before ++ codes "\",\"") (escaped_all id)
    ∙ ap (λ l. past ++ l) (sym longer)

-- a quote behind these closes them, and stands where one opened the first
reopened_closed : (ids : List Text) → reopened ids ++ codes "\"" ≡ codes "\"" ++ further (map quoted ids)
reopened_closed [] = refl
reopened_closed (id ∷ ids) =
    append_assoc (codes "\",\"" ++ escaped_all id) (reopened ids) (codes "\"")
    ∙ ap (λ l. (codes "\",\"" ++ escaped_all id) ++ l) (reopened_closed ids)
    ∙ ap (λ l. codes "\",\"" ++ l) (sym (append_assoc (escaped_all id) (codes "\"") (further (map quoted ids))))

pub closed_is_listed : (id : Text) (ids : List Text) → ((codes "[\"" ++ escaped_all id) ++ reopened ids) ++ codes "\"]" ≡ listed (map quoted (id ∷ ids))
closed_is_listed id ids =
    let begun = codes "[\"" ++ escaped_all id in
    sym (append_assoc (begun ++ reopened ids) (codes "\"") (codes "]"))
    ∙ ap (λ l. l ++ codes "]") (
    append_assoc begun (reopened ids) (codes "\"")
    ∙ ap (λ l. begun ++ l) (reopened_closed ids)
    ∙ ap (λ l. codes "[\"" ++ l) (sym (append_assoc (escaped_all id) (codes "\"") (further (map quoted ids))))
    )

-- what is written of each pair is written of each first part
pub map_firsts : {A B : Type 0} (f : A → List ℕ) (es : List (A × B)) → map f (map (λ e. e.0) es) ≡ map (λ e. f e.0) es
map_firsts f [] = refl
map_firsts f (e ∷ es) = ap (λ l. f e.0 ∷ l) (map_firsts f es)

-- ---- an answer's line

pub answer_put : (f0 f1 f2 f3 f4 f5 f6 f7 f8 : Calls) (a b c d e f g h i : Option (List ℕ)) (name must may erring : List ℕ)
    → Puts f0 a f1 b name → Puts f1 b f2 c (codes " must=") → Puts f2 c f3 d must → Puts f3 d f4 e (codes " may=") → Puts f4 e f5 f may
    → Puts f5 f f6 g (codes " erring=") → Puts f6 g f7 h erring → Puts f7 h f8 i (codes "\n")
    → Puts f0 a f8 i (((((((name ++ codes " must=") ++ must) ++ codes " may=") ++ may) ++ codes " erring=") ++ erring) ++ codes "\n")
answer_put f0 f1 f2 f3 f4 f5 f6 f7 f8 a b c d e f g h i name must may erring p1 p2 p3 p4 p5 p6 p7 p8 =
    let t2 = name ++ codes " must=" in
    let t3 = t2 ++ must in
    let t4 = t3 ++ codes " may=" in
    let t5 = t4 ++ may in
    let t6 = t5 ++ codes " erring=" in
    let q2 = puts_more f0 f1 f2 a b c name (codes " must=") p1 p2 in
    let q3 = puts_more f0 f2 f3 a c d t2 must q2 p3 in
    let q4 = puts_more f0 f3 f4 a d e t3 (codes " may=") q3 p4 in
    let q5 = puts_more f0 f4 f5 a e f t4 may q4 p5 in
    let q6 = puts_more f0 f5 f6 a f g t5 (codes " erring=") q5 p6 in
    let q7 = puts_more f0 f6 f7 a g h t6 erring q6 p7 in
    puts_more f0 f7 f8 a h i (t6 ++ erring) (codes "\n") q7 p8

-- three texts, one behind the other
pub three_put : (f0 f1 f2 f3 : Calls) (a b c d : Option (List ℕ)) (x y z : List ℕ) → Puts f0 a f1 b x → Puts f1 b f2 c y → Puts f2 c f3 d z → Puts f0 a f3 d ((x ++ y) ++ z)
three_put f0 f1 f2 f3 a b c d x y z p q r = puts_more f0 f2 f3 a c d (x ++ y) z (puts_more f0 f1 f2 a b c x y p q) r
