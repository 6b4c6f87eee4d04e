-- What a function reads, its rule says.
use Rattle.std.proofs.Common.{◌≡◌, ℕ, zero, suc, Bool, true, false, List, [], ◌∷◌, Option, Some, None, refl, sym, ap, ◌∙◌, subst}
use Rattle.std.specs.Prelude.{◌==◌, unwrap_or}
use Rattle.std.specs.List.{find}
use Rattle.std.proofs.lemmas.Bool.{eqb-true}
use Rattle.cedar_language.specs.Uid.{Text, Name}
use Rattle.cedar_grammar.specs.Escape.{string_of}
use Rattle.cedar_grammar.specs.Names.{are_distinct}
use Rattle.cedar_grammar.specs.Steps.{◌>>=◌}
use Rattle.cedar_grammar.proofs.Parts.{bind_some, some_pair, cond_some}
use Rattle.cedar_typing.specs.Types.{Required, Optional}
use Rattle.cedar_typing.proofs.Sameness.{text_is}
use Rattle.cedar_schema_grammar.specs.Syntax.{TypeSyntax, named, a_set, a_record, AttributesSyntax, no_attributes, an_attribute, ActionRef, AppliesEntry, principals, resources, context}
use Rattle.cedar_schema_grammar.specs.Tokens.{Mark, LeftBrace, RightBrace, LeftBracket, RightBracket, LeftParen, RightParen, LeftAngle, RightAngle, Comma, Semicolon, Colon, ColonColon, Question, Equal, At, Token, word, text, mark, mark_number, same_token, eat}
use Rattle.cedar_schema_grammar.specs.Grammar.{Rule, is_reserved, in_word, tags_word, set_word, applies_word, principal_word, resource_word, context_word, Id, id, StringRule, string, NameRule, id_name, string_name, goes_on, Path, one_id, more_ids, Several, one, more, Items, no_items, last_item, an_item, Keys, no_keys, a_key, a_key_with, Annotations, annotations, PresenceRule, required, optional, eat_set, TypeRule, named_is, set_is, record_is, AttributesRule, no_more, last, another, EntityTypes, one_type, types, Parents, no_parents, parents, Shape, no_shape, shape, equal_shape, Tags, no_tags, tags, RefRule, own_string, own_id, of_type, Groups, no_groups, one_group, groups, EntryRule, principals_are, resources_are, named_context, record_context, Applies, to_nothing, applies_to}
use Rattle.cedar_schema_grammar.specs.Reading.{Read, mapped, or_read, ended, id_read, text_of, string_read, name_read, path_then, path_at, several_then, several_at, items_then, items_at, any_word, value_then, key_then, keys_at, where_distinct, annotations_at, presence_read, Key, presence_then, key_at, attribute_then, type_at, attributes_at, entity_types_at, parents_at, shape_at, tags_at, own_ref, own_path, ref_then, ref_at, some_groups_at, groups_at, context_at, other_entry_at, entry_at, applies_at}

abbrev pub Sound : {A : Type 0} → Rule A → (List Token → Read A) → Type 0
Sound {A} rule read = (ts : List Token) (a : A) (rest : List Token) → read ts ≡ Some (a, rest) → rule ts a rest

-- ---- steps

-- of a result that is another by its name
pub moved : {A : Type 0} (rule : Rule A) (ts : List Token) (a b : A) (r q : List Token) → ◌≡◌ {A = Read A} (Some (a, r)) (Some (b, q)) → rule ts a r → rule ts b q
moved rule ts a b r q e d = let v = some_pair e in subst (λ z. rule ts b z) v.1 (subst (λ z. rule ts z r) v.0 d)

pub mapped_is : {A B : Type 0} (f : A → B) (r : Read A) (b : B) (rest : List Token) → mapped f r ≡ Some (b, rest) → (a : A) × (r ≡ Some (a, rest)) × (f a ≡ b)
mapped_is f None b rest e = absurd (cc e)
mapped_is f (Some x) b rest e = let v = some_pair e in (x.0, ap (λ q. Some (x.0, q)) v.1, v.0)

numbered : ℕ → Mark
numbered k = unwrap_or (find (λ m. mark_number m == k) (LeftBrace ∷ RightBrace ∷ LeftBracket ∷ RightBracket ∷ LeftParen ∷ RightParen ∷ LeftAngle ∷ RightAngle ∷ Comma ∷ Semicolon ∷ Colon ∷ ColonColon ∷ Question ∷ Equal ∷ At ∷ [])) Comma

numbered_is : (m : Mark) → numbered (mark_number m) ≡ m
unfolding numbered
numbered_is LeftBrace = refl
numbered_is RightBrace = refl
numbered_is LeftBracket = refl
numbered_is RightBracket = refl
numbered_is LeftParen = refl
numbered_is RightParen = refl
numbered_is LeftAngle = refl
numbered_is RightAngle = refl
numbered_is Comma = refl
numbered_is Semicolon = refl
numbered_is Colon = refl
numbered_is ColonColon = refl
numbered_is Question = refl
numbered_is Equal = refl
numbered_is At = refl

same_token_is : (t u : Token) → same_token t u ≡ true → t ≡ u
same_token_is (word s) (word r) e = ap word (text_is s r e)
same_token_is (mark m) (mark n) e = ap mark (sym (numbered_is m) ∙ ap numbered (eqb-true (mark_number m) (mark_number n) e) ∙ numbered_is n)
same_token_is t u e = absurd (cc e)

pub eat_is : (t : Token) (ts us : List Token) → eat t ts ≡ Some us → ts ≡ t ∷ us
eat_is t [] us e = absurd (cc e)
eat_is t (u ∷ ts) us e =
    let w = cond_some (same_token t u) (Some ts) e in
    let rest : ts ≡ us = cc w.1 in
    ap (λ o. o ∷ ts) (sym (same_token_is t u w.0)) ∙ ap (λ vs. t ∷ vs) rest

pub ended_is : {A : Type 0} (t : Token) (x a : A) (ts rest : List Token) → ended t x ts ≡ Some (a, rest) → (ts ≡ t ∷ rest) × (x ≡ a)
ended_is {A} t x a ts rest e =
    let b = bind_some (eat t ts) (λ us. Some (x, us)) e in
    let v = some_pair b.2 in
    (eat_is t ts b.0 b.1 ∙ ap (λ vs. t ∷ vs) v.1, v.0)

-- what is read up to a token ends before it
pub up_to : {A : Type 0} (rule : Rule A) (ts : List Token) (a : A) (us vs : List Token) → us ≡ vs → rule ts a us → rule ts a vs
up_to rule ts a us vs e d = subst (λ z. rule ts a z) e d

-- ---- names

pub id_sound : Sound Id id_read
id_sound (word w ∷ ts) s rest e = by (is_reserved w) refl e
  where
    by : (b : Bool) → is_reserved w ≡ b → id_read (word w ∷ ts) ≡ Some (s, rest) → Id (word w ∷ ts) s rest
    by true f g = absurd (cc (rw (f, id_read) at g))
    by false f g = moved Id (word w ∷ ts) w s ts rest (rw (f, id_read) at g) (id f)
id_sound (text raw ∷ ts) s rest e = absurd (cc e)
id_sound (mark m ∷ ts) s rest e = absurd (cc e)
id_sound [] s rest e = absurd (cc e)

pub string_sound : Sound StringRule string_read
string_sound (word w ∷ ts) s rest e = absurd (cc e)
string_sound (mark m ∷ ts) s rest e = absurd (cc e)
string_sound [] s rest e = absurd (cc e)
string_sound (text raw ∷ ts) s rest e = by (string_of raw) refl e
  where
    by : (o : Option Text) → string_of raw ≡ o → text_of o ts ≡ Some (s, rest) → StringRule (text raw ∷ ts) s rest
    by None f g = absurd (cc g)
    by (Some r) f g = moved StringRule (text raw ∷ ts) r s ts rest g (string f)

pub name_sound : Sound NameRule name_read
name_sound ts s rest e = by (id_read ts) refl e
  where
    by : (o : Read Text) → id_read ts ≡ o → or_read o (string_read ts) ≡ Some (s, rest) → NameRule ts s rest
    by None f g = string_name (string_sound ts s rest g)
    by (Some x) f g = id_name (id_sound ts s rest (f ∙ g))

path_step : (next_read : List Token → Read Name) → Sound Path next_read → (ts : List Token) (s : Text) (us : List Token) (p : Name) (rest : List Token) → Id ts s us → path_then next_read (s, us) ≡ Some (p, rest) → Path ts p rest
path_step next_read ih ts s us p rest d e = by (goes_on us) refl e
  where
    by : (b : Bool) → goes_on us ≡ b → path_then next_read (s, us) ≡ Some (p, rest) → Path ts p rest
    by false g h = moved Path ts (s ∷ []) p us rest (rw (g, path_then) at h) (one_id d g)
    by true g h =
        let c = bind_some (eat (mark ColonColon) us) (λ vs. mapped (λ q. s ∷ q) (next_read vs)) (rw (g, path_then) at h) in
        let m = mapped_is (λ q. s ∷ q) (next_read c.0) p rest c.2 in
        subst (λ z. Path ts z rest) m.2 (more_ids c.0 (up_to Id ts s us (mark ColonColon ∷ c.0) (eat_is (mark ColonColon) us c.0 c.1) d) (ih c.0 m.0 rest m.1))

pub path_sound : (n : ℕ) → Sound Path (path_at n)
unfolding path_at
path_sound zero ts p rest e = absurd (cc e)
path_sound (suc n) ts p rest e =
    let b = bind_some (id_read ts) (path_then (path_at n)) e in
    path_step (path_at n) (path_sound n) ts b.0.0 b.0.1 p rest (id_sound ts b.0.0 b.0.1 b.1) b.2

-- ---- lists

several_step : {A : Type 0} (item : Rule A) (more_read : List Token → Read (List A)) → Sound (Several item) more_read → (ts : List Token) (a : A) (us : List Token) (xs : List A) (rest : List Token) → item ts a us → several_then more_read (a, us) ≡ Some (xs, rest) → Several item ts xs rest
several_step {A} item more_read ih ts a us xs rest d e = by (eat (mark Comma) us) refl e
  where
    by : (o : Option (List Token)) → eat (mark Comma) us ≡ o → several_then more_read (a, us) ≡ Some (xs, rest) → Several item ts xs rest
    by None g h = moved (Several item) ts (a ∷ []) xs us rest (rw (g, several_then) at h) (one d g)
    by (Some vs) g h =
        let m = mapped_is (λ ys. a ∷ ys) (more_read vs) xs rest (rw (g, several_then) at h) in
        subst (λ z. Several item ts z rest) m.2 (more vs (up_to item ts a us (mark Comma ∷ vs) (eat_is (mark Comma) us vs g) d) (ih vs m.0 rest m.1))

pub several_sound : {A : Type 0} (item : Rule A) (read : List Token → Read A) → Sound item read → (n : ℕ) → Sound (Several item) (several_at read n)
unfolding several_at
several_sound item read f zero ts xs rest e = absurd (cc e)
several_sound item read f (suc n) ts xs rest e =
    let b = bind_some (read ts) (several_then (several_at read n)) e in
    several_step item (several_at read n) (several_sound item read f n) ts b.0.0 b.0.1 xs rest (f ts b.0.0 b.0.1 b.1) b.2

items_step : (close : Mark) {A : Type 0} (item : Rule A) (more_read : List Token → Read (List A)) → Sound (Items close item) more_read → (ts : List Token) (a : A) (us : List Token) (xs : List A) (rest : List Token) → item ts a us → items_then close more_read (a, us) ≡ Some (xs, rest) → Items close item ts xs rest
items_step close item more_read ih ts a us xs rest d e = by (eat (mark close) us) refl e
  where
    by : (o : Option (List Token)) → eat (mark close) us ≡ o → items_then close more_read (a, us) ≡ Some (xs, rest) → Items close item ts xs rest
    by (Some vs) g h = moved (Items close item) ts (a ∷ []) xs vs rest (rw (g, items_then) at h) (last_item (up_to item ts a us (mark close ∷ vs) (eat_is (mark close) us vs g) d))
    by None g h =
        let c = bind_some (eat (mark Comma) us) (λ vs. mapped (λ ys. a ∷ ys) (more_read vs)) (rw (g, items_then) at h) in
        let m = mapped_is (λ ys. a ∷ ys) (more_read c.0) xs rest c.2 in
        subst (λ z. Items close item ts z rest) m.2 (an_item c.0 (up_to item ts a us (mark Comma ∷ c.0) (eat_is (mark Comma) us c.0 c.1) d) (ih c.0 m.0 rest m.1))

pub items_sound : (close : Mark) {A : Type 0} (item : Rule A) (read : List Token → Read A) → Sound item read → (n : ℕ) → Sound (Items close item) (items_at close read n)
unfolding items_at
items_sound close item read f zero ts xs rest e = absurd (cc e)
items_sound close item read f (suc n) ts xs rest e = by (eat (mark close) ts) refl e (items_sound close item read f n)
  where
    by : (o : Option (List Token)) → eat (mark close) ts ≡ o → items_at close read (suc n) ts ≡ Some (xs, rest) → Sound (Items close item) (items_at close read n) → Items close item ts xs rest
    by (Some us) g h ih = subst (λ z. Items close item z xs rest) (sym (eat_is (mark close) ts us g)) (moved (Items close item) (mark close ∷ us) [] xs us rest (rw (g, items_at) at h) no_items)
    by None g h ih =
        let b = bind_some (read ts) (items_then close (items_at close read n)) (rw (g, items_at) at h) in
        items_step close item (items_at close read n) ih ts b.0.0 b.0.1 xs rest (f ts b.0.0 b.0.1 b.1) b.2

-- ---- annotations

any_word_is : (ts : List Token) (w : Text) (us : List Token) → any_word ts ≡ Some (w, us) → ts ≡ word w ∷ us
any_word_is (word s ∷ ts) w us e = let v = some_pair e in ap (λ x. word x ∷ ts) v.0 ∙ ap (λ vs. word w ∷ vs) v.1
any_word_is (text raw ∷ ts) w us e = absurd (cc e)
any_word_is (mark m ∷ ts) w us e = absurd (cc e)
any_word_is [] w us e = absurd (cc e)

value_step : (more_read : List Token → Read (List Text)) → Sound Keys more_read → (w : Text) (ts : List Token) (ks : List Text) (rest : List Token) → value_then more_read ts ≡ Some (ks, rest) → Keys (mark At ∷ word w ∷ ts) (w ∷ ks) rest
value_step more_read ih w ts ks rest e = by (eat (mark LeftParen) ts) refl e
  where
    by : (o : Option (List Token)) → eat (mark LeftParen) ts ≡ o → value_then more_read ts ≡ Some (ks, rest) → Keys (mark At ∷ word w ∷ ts) (w ∷ ks) rest
    by None g h = a_key g (ih ts ks rest (rw (g, value_then) at h))
    by (Some us) g h =
        let b = bind_some (string_read us) (λ s. eat (mark RightParen) s.1 >>= more_read) (rw (g, value_then) at h) in
        let c = bind_some (eat (mark RightParen) b.0.1) more_read b.2 in
        let d = up_to StringRule us b.0.0 b.0.1 (mark RightParen ∷ c.0) (eat_is (mark RightParen) b.0.1 c.0 c.1) (string_sound us b.0.0 b.0.1 b.1) in
        subst (λ z. Keys (mark At ∷ word w ∷ z) (w ∷ ks) rest) (sym (eat_is (mark LeftParen) ts us g)) (a_key_with c.0 d (ih c.0 ks rest c.2))

keys_sound : (n : ℕ) → Sound Keys (keys_at n)
unfolding keys_at
keys_sound zero ts ks rest e = absurd (cc e)
keys_sound (suc n) ts ks rest e = by (eat (mark At) ts) refl e (keys_sound n)
  where
    by : (o : Option (List Token)) → eat (mark At) ts ≡ o → keys_at (suc n) ts ≡ Some (ks, rest) → Sound Keys (keys_at n) → Keys ts ks rest
    by None g h ih = moved Keys ts [] ks ts rest (rw (g, keys_at) at h) (no_keys g)
    by (Some us) g h ih =
        let b = bind_some (any_word us) (key_then (keys_at n)) (rw (g, keys_at) at h) in
        let m = mapped_is (λ ls. b.0.0 ∷ ls) (value_then (keys_at n) b.0.1) ks rest b.2 in
        let front : ts ≡ mark At ∷ word b.0.0 ∷ b.0.1 = eat_is (mark At) ts us g ∙ ap (λ vs. mark At ∷ vs) (any_word_is us b.0.0 b.0.1 b.1) in
        subst (λ z. Keys z ks rest) (sym front) (subst (λ z. Keys (mark At ∷ word b.0.0 ∷ b.0.1) z rest) m.2 (value_step (keys_at n) ih b.0.0 b.0.1 m.0 rest m.1))

pub annotations_sound : (n : ℕ) (ts rest : List Token) → annotations_at n ts ≡ Some rest → Annotations ts rest
unfolding annotations_at
annotations_sound n ts rest e =
    let b = bind_some (keys_at n ts) where_distinct e in
    let w = cond_some (are_distinct b.0.0) (Some b.0.1) b.2 in
    let same : b.0.1 ≡ rest = cc w.1 in
    subst (λ z. Annotations ts z) same (annotations (keys_sound n ts b.0.0 b.0.1 b.1) w.0)

-- ---- types

presence_sound : Sound PresenceRule presence_read
presence_sound ts p rest e = by (eat (mark Colon) ts) refl e
  where
    by : (o : Option (List Token)) → eat (mark Colon) ts ≡ o → presence_read ts ≡ Some (p, rest) → PresenceRule ts p rest
    by (Some us) g h = subst (λ z. PresenceRule z p rest) (sym (eat_is (mark Colon) ts us g)) (moved PresenceRule (mark Colon ∷ us) Required p us rest (rw (g, presence_read) at h) required)
    by None g h =
        let b = bind_some (eat (mark Question) ts) (λ us. ended (mark Colon) Optional us) (rw (g, presence_read) at h) in
        let v = ended_is (mark Colon) Optional p b.0 rest b.2 in
        let front : ts ≡ mark Question ∷ mark Colon ∷ rest = eat_is (mark Question) ts b.0 b.1 ∙ ap (λ vs. mark Question ∷ vs) v.0 in
        subst (λ z. PresenceRule z p rest) (sym front) (subst (λ z. PresenceRule (mark Question ∷ mark Colon ∷ rest) z rest) v.1 optional)

-- an attribute up to its type
record IsKey (ts : List Token) (k : Key) (rest : List Token) : Type 0 where
  pub behind : List Token
  pub before : List Token
  pub annotated : Annotations ts behind
  pub name : NameRule behind k.name before
  pub presence : PresenceRule before k.presence rest

key_sound : (n : ℕ) → Sound IsKey (key_at n)
unfolding key_at
key_sound n ts k rest e =
    let b = bind_some (annotations_at n ts) (λ us. name_read us >>= presence_then) e in
    let c = bind_some (name_read b.0) presence_then b.2 in
    let m = mapped_is (λ p. record { name = c.0.0; presence = p }) (presence_read c.0.1) k rest c.2 in
    subst (λ z. IsKey ts z rest) m.2 (record { behind = b.0; before = c.0.1; annotated = annotations_sound n ts b.0 b.1; name = name_sound b.0 c.0.0 c.0.1 c.1; presence = presence_sound c.0.1 m.0 rest m.1 })

attribute_step : (more_read : List Token → Read AttributesSyntax) → Sound AttributesRule more_read → (ts : List Token) (k : Key) (us : List Token) (t : TypeSyntax) (vs : List Token) (xs : AttributesSyntax) (rest : List Token) → IsKey ts k us → TypeRule us t vs → attribute_then more_read k (t, vs) ≡ Some (xs, rest) → AttributesRule ts xs rest
attribute_step more_read ih ts k us t vs xs rest q d e = by (eat (mark Comma) vs) refl e
  where
    by : (o : Option (List Token)) → eat (mark Comma) vs ≡ o → attribute_then more_read k (t, vs) ≡ Some (xs, rest) → AttributesRule ts xs rest
    by (Some ws) g h =
        let m = mapped_is (an_attribute k.name k.presence t) (more_read ws) xs rest (rw (g, attribute_then) at h) in
        subst (λ z. AttributesRule ts z rest) m.2 (another q.behind q.before us ws q.annotated q.name q.presence (up_to TypeRule us t vs (mark Comma ∷ ws) (eat_is (mark Comma) vs ws g) d) (ih ws m.0 rest m.1))
    by None g h =
        let v = ended_is (mark RightBrace) (an_attribute k.name k.presence t no_attributes) xs vs rest (rw (g, attribute_then) at h) in
        subst (λ z. AttributesRule ts z rest) v.1 (last q.behind q.before us q.annotated q.name q.presence (up_to TypeRule us t vs (mark RightBrace ∷ rest) v.0 d))

eat_set_is : (ts us : List Token) → eat_set ts ≡ Some us → ts ≡ set_word ∷ mark LeftAngle ∷ us
eat_set_is ts us e = let b = bind_some (eat set_word ts) (eat (mark LeftAngle)) e in eat_is set_word ts b.0 b.1 ∙ ap (λ vs. set_word ∷ vs) (eat_is (mark LeftAngle) b.0 us b.2)

set_or_name : (n : ℕ) → Sound TypeRule (type_at n) → (ts : List Token) (t : TypeSyntax) (rest : List Token) → eat (mark LeftBrace) ts ≡ None → type_at (suc n) ts ≡ Some (t, rest) → (o : Option (List Token)) → eat_set ts ≡ o → TypeRule ts t rest
unfolding type_at
set_or_name n ih ts t rest g h (Some us) f =
    let b = bind_some (type_at n us) (λ x. ended (mark RightAngle) (a_set x.0) x.1) (rw (g, f, type_at) at h) in
    let v = ended_is (mark RightAngle) (a_set b.0.0) t b.0.1 rest b.2 in
    subst (λ z. TypeRule z t rest) (sym (eat_set_is ts us f)) (subst (λ z. TypeRule (set_word ∷ mark LeftAngle ∷ us) z rest) v.1 (set_is (up_to TypeRule us b.0.0 b.0.1 (mark RightAngle ∷ rest) v.0 (ih us b.0.0 b.0.1 b.1))))
set_or_name n ih ts t rest g h None f =
    let m = mapped_is named (path_at (suc n) ts) t rest (rw (g, f, type_at) at h) in
    subst (λ z. TypeRule ts z rest) m.2 (named_is f (path_sound (suc n) ts m.0 rest m.1))

type_step : (n : ℕ) → Sound TypeRule (type_at n) → Sound AttributesRule (attributes_at n) → (ts : List Token) (t : TypeSyntax) (rest : List Token) → type_at (suc n) ts ≡ Some (t, rest) → (o : Option (List Token)) → eat (mark LeftBrace) ts ≡ o → TypeRule ts t rest
unfolding type_at
type_step n ih more_ih ts t rest h (Some us) g =
    let m = mapped_is a_record (attributes_at n us) t rest (rw (g, type_at) at h) in
    subst (λ z. TypeRule z t rest) (sym (eat_is (mark LeftBrace) ts us g)) (subst (λ z. TypeRule (mark LeftBrace ∷ us) z rest) m.2 (record_is (more_ih us m.0 rest m.1)))
type_step n ih more_ih ts t rest h None g = set_or_name n ih ts t rest g h (eat_set ts) refl

attributes_step : (n : ℕ) → Sound TypeRule (type_at n) → Sound AttributesRule (attributes_at n) → (ts : List Token) (xs : AttributesSyntax) (rest : List Token) → attributes_at (suc n) ts ≡ Some (xs, rest) → (o : Option (List Token)) → eat (mark RightBrace) ts ≡ o → AttributesRule ts xs rest
unfolding type_at
attributes_step n ih more_ih ts xs rest h (Some us) g =
    subst (λ z. AttributesRule z xs rest) (sym (eat_is (mark RightBrace) ts us g)) (moved AttributesRule (mark RightBrace ∷ us) no_attributes xs us rest (rw (g, attributes_at) at h) no_more)
attributes_step n ih more_ih ts xs rest h None g =
    let b = bind_some (key_at (suc n) ts) (λ k. type_at n k.1 >>= attribute_then (attributes_at n) k.0) (rw (g, attributes_at) at h) in
    let c = bind_some (type_at n b.0.1) (attribute_then (attributes_at n) b.0.0) b.2 in
    attribute_step (attributes_at n) more_ih ts b.0.0 b.0.1 c.0.0 c.0.1 xs rest (key_sound (suc n) ts b.0.0 b.0.1 b.1) (ih b.0.1 c.0.0 c.0.1 c.1) c.2

mutual
  unfolding type_at

  pub type_sound : (n : ℕ) → Sound TypeRule (type_at n)
  type_sound zero ts t rest e = absurd (cc e)
  type_sound (suc n) ts t rest e = type_step n (type_sound n) (attributes_sound n) ts t rest e (eat (mark LeftBrace) ts) refl

  attributes_sound : (n : ℕ) → Sound AttributesRule (attributes_at n)
  attributes_sound zero ts xs rest e = absurd (cc e)
  attributes_sound (suc n) ts xs rest e = attributes_step n (type_sound n) (attributes_sound n) ts xs rest e (eat (mark RightBrace) ts) refl

-- ---- entity types

-- a rule of tokens that a token is before
pub led : {A : Type 0} (rule : Rule A) (t : Token) (ts us : List Token) (a : A) (rest : List Token) → eat t ts ≡ Some us → rule (t ∷ us) a rest → rule ts a rest
led rule t ts us a rest e d = subst (λ z. rule z a rest) (sym (eat_is t ts us e)) d

pub renamed : {A : Type 0} (rule : Rule A) (ts : List Token) (a b : A) (rest : List Token) → a ≡ b → rule ts a rest → rule ts b rest
renamed rule ts a b rest e d = subst (λ z. rule ts z rest) e d

entity_types_sound : (n : ℕ) → Sound EntityTypes (entity_types_at n)
entity_types_sound n ts ps rest e = by (eat (mark LeftBracket) ts) refl e
  where
    by : (o : Option (List Token)) → eat (mark LeftBracket) ts ≡ o → entity_types_at n ts ≡ Some (ps, rest) → EntityTypes ts ps rest
    by (Some us) g h = led EntityTypes (mark LeftBracket) ts us ps rest g (types (items_sound RightBracket Path (path_at n) (path_sound n) n us ps rest (rw (g, entity_types_at) at h)))
    by None g h = let m = mapped_is (λ p. p ∷ []) (path_at n ts) ps rest (rw (g, entity_types_at) at h) in renamed EntityTypes ts (m.0 ∷ []) ps rest m.2 (one_type (path_sound n ts m.0 rest m.1))

pub parents_sound : (n : ℕ) → Sound Parents (parents_at n)
parents_sound n ts ps rest e = by (eat in_word ts) refl e
  where
    by : (o : Option (List Token)) → eat in_word ts ≡ o → parents_at n ts ≡ Some (ps, rest) → Parents ts ps rest
    by (Some us) g h = led Parents in_word ts us ps rest g (parents (entity_types_sound n us ps rest (rw (g, parents_at) at h)))
    by None g h = moved Parents ts [] ps ts rest (rw (g, parents_at) at h) (no_parents g)

bare_shape_sound : (n : ℕ) (ts : List Token) (xs : AttributesSyntax) (rest : List Token) → eat (mark Equal) ts ≡ None → (o : Option (List Token)) → eat (mark LeftBrace) ts ≡ o → shape_at n ts ≡ Some (xs, rest) → Shape ts xs rest
bare_shape_sound n ts xs rest f (Some us) g h = led Shape (mark LeftBrace) ts us xs rest g (shape (attributes_sound n us xs rest (rw (f, g, shape_at) at h)))
bare_shape_sound n ts xs rest f None g h = moved Shape ts no_attributes xs ts rest (rw (f, g, shape_at) at h) (no_shape f g)

pub shape_sound : (n : ℕ) → Sound Shape (shape_at n)
shape_sound n ts xs rest e = by (eat (mark Equal) ts) refl e
  where
    by : (o : Option (List Token)) → eat (mark Equal) ts ≡ o → shape_at n ts ≡ Some (xs, rest) → Shape ts xs rest
    by (Some us) g h =
        let b = bind_some (eat (mark LeftBrace) us) (attributes_at n) (rw (g, shape_at) at h) in
        led Shape (mark Equal) ts us xs rest g (subst (λ z. Shape (mark Equal ∷ z) xs rest) (sym (eat_is (mark LeftBrace) us b.0 b.1)) (equal_shape (attributes_sound n b.0 xs rest b.2)))
    by None g h = bare_shape_sound n ts xs rest g (eat (mark LeftBrace) ts) refl h

pub tags_sound : (n : ℕ) → Sound Tags (tags_at n)
tags_sound n ts o rest e = by (eat tags_word ts) refl e
  where
    by : (q : Option (List Token)) → eat tags_word ts ≡ q → tags_at n ts ≡ Some (o, rest) → Tags ts o rest
    by (Some us) g h = let m = mapped_is Some (type_at n us) o rest (rw (g, tags_at) at h) in led Tags tags_word ts us o rest g (renamed Tags (tags_word ∷ us) (Some m.0) o rest m.2 (tags (type_sound n us m.0 rest m.1)))
    by None g h = moved Tags ts None o ts rest (rw (g, tags_at) at h) (no_tags g)

-- ---- actions

own_path_sound : (n : ℕ) (ts : List Token) (p : Name) (us : List Token) (r : ActionRef) (rest : List Token) → eat (mark ColonColon) us ≡ None → Path ts p us → own_path p us ≡ Some (r, rest) → RefRule ts r rest
own_path_sound n ts [] us r rest f d e = absurd (cc e)
own_path_sound n ts (s ∷ []) us r rest f d e = moved RefRule ts (own_ref s) r us rest e (own_id d f)
own_path_sound n ts (s ∷ t ∷ p) us r rest f d e = absurd (cc e)

ref_step : (n : ℕ) (ts : List Token) (p : Name) (us : List Token) (r : ActionRef) (rest : List Token) → Path ts p us → ref_then (p, us) ≡ Some (r, rest) → RefRule ts r rest
ref_step n ts p us r rest d e = by (eat (mark ColonColon) us) refl e
  where
    by : (o : Option (List Token)) → eat (mark ColonColon) us ≡ o → ref_then (p, us) ≡ Some (r, rest) → RefRule ts r rest
    by (Some vs) g h =
        let m = mapped_is (λ s. record { type_name = Some p; name = s }) (string_read vs) r rest (rw (g, ref_then) at h) in
        renamed RefRule ts (record { type_name = Some p; name = m.0 }) r rest m.2 (of_type vs (up_to Path ts p us (mark ColonColon ∷ vs) (eat_is (mark ColonColon) us vs g) d) (string_sound vs m.0 rest m.1))
    by None g h = own_path_sound n ts p us r rest g d (rw (g, ref_then) at h)

ref_sound : (n : ℕ) → Sound RefRule (ref_at n)
unfolding ref_at
ref_sound n ts r rest e = by (string_read ts) refl e
  where
    by : (o : Read Text) → string_read ts ≡ o → or_read (mapped own_ref o) (path_at n ts >>= ref_then) ≡ Some (r, rest) → RefRule ts r rest
    by None g h = let b = bind_some (path_at n ts) ref_then h in ref_step n ts b.0.0 b.0.1 r rest (path_sound n ts b.0.0 b.0.1 b.1) b.2
    by (Some x) g h = moved RefRule ts (own_ref x.0) r x.1 rest h (own_string (string_sound ts x.0 x.1 g))

some_groups_sound : (n : ℕ) (ts us : List Token) (rs : List ActionRef) (rest : List Token) → eat in_word ts ≡ Some us → some_groups_at n us ≡ Some (rs, rest) → Groups ts rs rest
some_groups_sound n ts us rs rest f e = by (eat (mark LeftBracket) us) refl e
  where
    by : (o : Option (List Token)) → eat (mark LeftBracket) us ≡ o → some_groups_at n us ≡ Some (rs, rest) → Groups ts rs rest
    by (Some vs) g h =
        led Groups in_word ts us rs rest f
        (subst (λ z. Groups (in_word ∷ z) rs rest) (sym (eat_is (mark LeftBracket) us vs g)) (groups (items_sound RightBracket RefRule (ref_at n) (ref_sound n) n vs rs rest (rw (g, some_groups_at) at h))))
    by None g h =
        let m = mapped_is (λ r. r ∷ []) (ref_at n us) rs rest (rw (g, some_groups_at) at h) in
        led Groups in_word ts us rs rest f (renamed Groups (in_word ∷ us) (m.0 ∷ []) rs rest m.2 (one_group (ref_sound n us m.0 rest m.1)))

pub groups_sound : (n : ℕ) → Sound Groups (groups_at n)
groups_sound n ts rs rest e = by (eat in_word ts) refl e
  where
    by : (o : Option (List Token)) → eat in_word ts ≡ o → groups_at n ts ≡ Some (rs, rest) → Groups ts rs rest
    by (Some us) g h = some_groups_sound n ts us rs rest g (rw (g, groups_at) at h)
    by None g h = moved Groups ts [] rs ts rest (rw (g, groups_at) at h) (no_groups g)

-- behind `context:`
context_sound : (n : ℕ) (ts : List Token) (t : TypeSyntax) (rest : List Token) → context_at n ts ≡ Some (t, rest) → EntryRule (context_word ∷ mark Colon ∷ ts) (context t) rest
context_sound n ts t rest e = by (eat (mark LeftBrace) ts) refl e
  where
    by : (o : Option (List Token)) → eat (mark LeftBrace) ts ≡ o → context_at n ts ≡ Some (t, rest) → EntryRule (context_word ∷ mark Colon ∷ ts) (context t) rest
    by (Some us) g h =
        let m = mapped_is a_record (attributes_at n us) t rest (rw (g, context_at) at h) in
        subst (λ z. EntryRule (context_word ∷ mark Colon ∷ z) (context t) rest) (sym (eat_is (mark LeftBrace) ts us g)) (renamed EntryRule (context_word ∷ mark Colon ∷ mark LeftBrace ∷ us) (context (a_record m.0)) (context t) rest (ap context m.2) (record_context (attributes_sound n us m.0 rest m.1)))
    by None g h =
        let m = mapped_is named (path_at n ts) t rest (rw (g, context_at) at h) in
        renamed EntryRule (context_word ∷ mark Colon ∷ ts) (context (named m.0)) (context t) rest (ap context m.2) (named_context (path_sound n ts m.0 rest m.1))

-- of tokens that two tokens are before
led_by_two : {A : Type 0} (rule : Rule A) (t u : Token) (ts us vs : List Token) (a : A) (rest : List Token) → eat t ts ≡ Some us → eat u us ≡ Some vs → rule (t ∷ u ∷ vs) a rest → rule ts a rest
led_by_two rule t u ts us vs a rest e f d = subst (λ z. rule z a rest) (sym (eat_is t ts us e ∙ ap (λ ws. t ∷ ws) (eat_is u us vs f))) d

other_entry_sound : (n : ℕ) (ts : List Token) (a : AppliesEntry) (rest : List Token) → other_entry_at n ts ≡ Some (a, rest) → EntryRule ts a rest
other_entry_sound n ts a rest e = by (eat resource_word ts) refl e
  where
    by : (o : Option (List Token)) → eat resource_word ts ≡ o → other_entry_at n ts ≡ Some (a, rest) → EntryRule ts a rest
    by (Some us) g h =
        let b = bind_some (eat (mark Colon) us) (λ vs. mapped resources (entity_types_at n vs)) (rw (g, other_entry_at) at h) in
        let m = mapped_is resources (entity_types_at n b.0) a rest b.2 in
        led_by_two EntryRule resource_word (mark Colon) ts us b.0 a rest g b.1 (renamed EntryRule (resource_word ∷ mark Colon ∷ b.0) (resources m.0) a rest m.2 (resources_are (entity_types_sound n b.0 m.0 rest m.1)))
    by None g h =
        let b = bind_some (eat context_word ts) (λ us. eat (mark Colon) us >>= λ vs. mapped context (context_at n vs)) (rw (g, other_entry_at) at h) in
        let c = bind_some (eat (mark Colon) b.0) (λ vs. mapped context (context_at n vs)) b.2 in
        let m = mapped_is context (context_at n c.0) a rest c.2 in
        led_by_two EntryRule context_word (mark Colon) ts b.0 c.0 a rest b.1 c.1 (renamed EntryRule (context_word ∷ mark Colon ∷ c.0) (context m.0) a rest m.2 (context_sound n c.0 m.0 rest m.1))

entry_sound : (n : ℕ) → Sound EntryRule (entry_at n)
unfolding entry_at
entry_sound n ts a rest e = by (eat principal_word ts) refl e
  where
    by : (o : Option (List Token)) → eat principal_word ts ≡ o → entry_at n ts ≡ Some (a, rest) → EntryRule ts a rest
    by (Some us) g h =
        let b = bind_some (eat (mark Colon) us) (λ vs. mapped principals (entity_types_at n vs)) (rw (g, entry_at) at h) in
        let m = mapped_is principals (entity_types_at n b.0) a rest b.2 in
        led_by_two EntryRule principal_word (mark Colon) ts us b.0 a rest g b.1 (renamed EntryRule (principal_word ∷ mark Colon ∷ b.0) (principals m.0) a rest m.2 (principals_are (entity_types_sound n b.0 m.0 rest m.1)))
    by None g h = other_entry_sound n ts a rest (rw (g, entry_at) at h)

pub applies_sound : (n : ℕ) → Sound Applies (applies_at n)
applies_sound n ts es rest e = by (eat applies_word ts) refl e
  where
    by : (o : Option (List Token)) → eat applies_word ts ≡ o → applies_at n ts ≡ Some (es, rest) → Applies ts es rest
    by (Some us) g h =
        let b = bind_some (eat (mark LeftBrace) us) (λ vs. mapped Some (items_at RightBrace (entry_at n) n vs)) (rw (g, applies_at) at h) in
        let m = mapped_is Some (items_at RightBrace (entry_at n) n b.0) es rest b.2 in
        led_by_two Applies applies_word (mark LeftBrace) ts us b.0 es rest g b.1 (renamed Applies (applies_word ∷ mark LeftBrace ∷ b.0) (Some m.0) es rest m.2 (applies_to (items_sound RightBrace EntryRule (entry_at n) (entry_sound n) n b.0 m.0 rest m.1)))
    by None g h = moved Applies ts None es ts rest (rw (g, applies_at) at h) (to_nothing g)
