-- What is read as declarations, the grammar says; so what is read of a whole text.
use Rattle.std.proofs.Common.{◌≡◌, ℕ, zero, suc, Bool, true, false, List, [], ◌∷◌, Option, Some, None, refl, sym, ap, ◌∙◌, subst}
use Rattle.cedar_language.specs.Uid.{Text, Name}
use Rattle.cedar_grammar.specs.Steps.{◌>>=◌}
use Rattle.cedar_grammar.proofs.Parts.{bind_some}
use Rattle.cedar_schema_grammar.specs.Syntax.{Declaration, entities, enumeration, actions, common_type, SchemaSyntax}
use Rattle.cedar_schema_grammar.specs.Tokens.{LeftBrace, RightBrace, LeftBracket, RightBracket, Semicolon, Equal, Token, mark, eat}
use Rattle.cedar_schema_grammar.specs.Grammar.{entity_word, enum_word, action_word, type_word, namespace_word, Id, StringRule, NameRule, Path, Several, Items, TypeRule, Tags, Applies, Annotations, DeclarationRule, entity_is, enumeration_is, action_is, type_is, Declarations, closed, a_declaration, SchemaRule, at_end, in_none, in_namespace}
use Rattle.cedar_schema_grammar.specs.Reading.{ended, id_read, string_read, name_read, path_at, several_at, items_at, annotations_at, type_at, parents_at, shape_at, tags_at, groups_at, applies_at, enumeration_then, tags_then, shaped_at, entity_then, applies_then, action_then, type_then, action_or_type_at, declaration_at, declared_then, declarations_at, is_end, block, lone_then, namespace_then, block_then, schema_at}
use Rattle.cedar_schema_grammar.proofs.Sound.{Sound, moved, mapped_is, eat_is, ended_is, up_to, led, renamed, id_sound, string_sound, name_sound, path_sound, several_sound, items_sound, annotations_sound, type_sound, parents_sound, shape_sound, tags_sound, groups_sound, applies_sound}

-- ---- declarations, behind their first word

shaped_sound : (n : ℕ) (us : List Token) (ns : List Text) (t1 : List Token) (d : Declaration) (rest : List Token) → Several Id us ns t1 → eat enum_word t1 ≡ None → shaped_at n ns t1 ≡ Some (d, rest) → DeclarationRule (entity_word ∷ us) d rest
shaped_sound n us ns t1 d rest a g h =
    let p = bind_some (parents_at n t1) (λ ps. shape_at n ps.1 >>= λ xs. tags_at n xs.1 >>= tags_then ns ps.0 xs.0) h in
    let x = bind_some (shape_at n p.0.1) (λ xs. tags_at n xs.1 >>= tags_then ns p.0.0 xs.0) p.2 in
    let o = bind_some (tags_at n x.0.1) (tags_then ns p.0.0 x.0.0) x.2 in
    let v = ended_is (mark Semicolon) (entities (record { names = ns; parents = p.0.0; attributes = x.0.0; tags = o.0.0 })) d o.0.1 rest o.2 in
    renamed DeclarationRule (entity_word ∷ us) (entities (record { names = ns; parents = p.0.0; attributes = x.0.0; tags = o.0.0 })) d rest v.1
    (entity_is t1 p.0.1 x.0.1 a g (parents_sound n t1 p.0.0 p.0.1 p.1) (shape_sound n p.0.1 x.0.0 x.0.1 x.1) (up_to Tags x.0.1 o.0.0 o.0.1 (mark Semicolon ∷ rest) v.0 (tags_sound n x.0.1 o.0.0 o.0.1 o.1)))

entity_sound : (n : ℕ) (us : List Token) (ns : List Text) (t1 : List Token) (d : Declaration) (rest : List Token) → Several Id us ns t1 → entity_then n (ns, t1) ≡ Some (d, rest) → DeclarationRule (entity_word ∷ us) d rest
entity_sound n us ns t1 d rest a e = by (eat enum_word t1) refl e
  where
    by : (o : Option (List Token)) → eat enum_word t1 ≡ o → entity_then n (ns, t1) ≡ Some (d, rest) → DeclarationRule (entity_word ∷ us) d rest
    by (Some vs) g h =
        let b = bind_some (eat (mark LeftBracket) vs) (λ ws. items_at RightBracket string_read n ws >>= enumeration_then ns) (rw (g, entity_then) at h) in
        let c = bind_some (items_at RightBracket string_read n b.0) (enumeration_then ns) b.2 in
        let v = ended_is (mark Semicolon) (enumeration ns c.0.0) d c.0.1 rest c.2 in
        let front : t1 ≡ enum_word ∷ mark LeftBracket ∷ b.0 = eat_is enum_word t1 vs g ∙ ap (λ ws. enum_word ∷ ws) (eat_is (mark LeftBracket) vs b.0 b.1) in
        renamed DeclarationRule (entity_word ∷ us) (enumeration ns c.0.0) d rest v.1
        (enumeration_is b.0 (up_to (Several Id) us ns t1 (enum_word ∷ mark LeftBracket ∷ b.0) front a) (up_to (Items RightBracket StringRule) b.0 c.0.0 c.0.1 (mark Semicolon ∷ rest) v.0 (items_sound RightBracket StringRule string_read string_sound n b.0 c.0.0 c.0.1 c.1)))
    by None g h = shaped_sound n us ns t1 d rest a g (rw (g, entity_then) at h)

action_sound : (n : ℕ) (us : List Token) (ns : List Text) (t1 : List Token) (d : Declaration) (rest : List Token) → Several NameRule us ns t1 → action_then n (ns, t1) ≡ Some (d, rest) → DeclarationRule (action_word ∷ us) d rest
action_sound n us ns t1 d rest a e =
    let b = bind_some (groups_at n t1) (λ rs. applies_at n rs.1 >>= applies_then ns rs.0) e in
    let c = bind_some (applies_at n b.0.1) (applies_then ns b.0.0) b.2 in
    let v = ended_is (mark Semicolon) (actions (record { names = ns; groups = b.0.0; applies_to = c.0.0 })) d c.0.1 rest c.2 in
    renamed DeclarationRule (action_word ∷ us) (actions (record { names = ns; groups = b.0.0; applies_to = c.0.0 })) d rest v.1
    (action_is t1 b.0.1 a (groups_sound n t1 b.0.0 b.0.1 b.1) (up_to Applies b.0.1 c.0.0 c.0.1 (mark Semicolon ∷ rest) v.0 (applies_sound n b.0.1 c.0.0 c.0.1 c.1)))

type_declaration_sound : (n : ℕ) (us : List Token) (s : Text) (t1 : List Token) (d : Declaration) (rest : List Token) → Id us s t1 → type_then n (s, t1) ≡ Some (d, rest) → DeclarationRule (type_word ∷ us) d rest
type_declaration_sound n us s t1 d rest a e =
    let b = bind_some (eat (mark Equal) t1) (λ vs. type_at n vs >>= λ t. ended (mark Semicolon) (common_type s t.0) t.1) e in
    let c = bind_some (type_at n b.0) (λ t. ended (mark Semicolon) (common_type s t.0) t.1) b.2 in
    let v = ended_is (mark Semicolon) (common_type s c.0.0) d c.0.1 rest c.2 in
    renamed DeclarationRule (type_word ∷ us) (common_type s c.0.0) d rest v.1
    (type_is b.0 (up_to Id us s t1 (mark Equal ∷ b.0) (eat_is (mark Equal) t1 b.0 b.1) a) (up_to TypeRule b.0 c.0.0 c.0.1 (mark Semicolon ∷ rest) v.0 (type_sound n b.0 c.0.0 c.0.1 c.1)))

action_or_type_sound : (n : ℕ) → Sound DeclarationRule (action_or_type_at n)
action_or_type_sound n ts d rest e = by (eat action_word ts) refl e
  where
    by : (o : Option (List Token)) → eat action_word ts ≡ o → action_or_type_at n ts ≡ Some (d, rest) → DeclarationRule ts d rest
    by (Some us) g h =
        let b = bind_some (several_at name_read n us) (action_then n) (rw (g, action_or_type_at) at h) in
        led DeclarationRule action_word ts us d rest g (action_sound n us b.0.0 b.0.1 d rest (several_sound NameRule name_read name_sound n us b.0.0 b.0.1 b.1) b.2)
    by None g h =
        let b = bind_some (eat type_word ts) (λ us. id_read us >>= type_then n) (rw (g, action_or_type_at) at h) in
        let c = bind_some (id_read b.0) (type_then n) b.2 in
        led DeclarationRule type_word ts b.0 d rest b.1 (type_declaration_sound n b.0 c.0.0 c.0.1 d rest (id_sound b.0 c.0.0 c.0.1 c.1) c.2)

declaration_sound : (n : ℕ) → Sound DeclarationRule (declaration_at n)
unfolding declaration_at
declaration_sound n ts d rest e = by (eat entity_word ts) refl e
  where
    by : (o : Option (List Token)) → eat entity_word ts ≡ o → declaration_at n ts ≡ Some (d, rest) → DeclarationRule ts d rest
    by (Some us) g h =
        let b = bind_some (several_at id_read n us) (entity_then n) (rw (g, declaration_at) at h) in
        led DeclarationRule entity_word ts us d rest g (entity_sound n us b.0.0 b.0.1 d rest (several_sound Id id_read id_sound n us b.0.0 b.0.1 b.1) b.2)
    by None g h = action_or_type_sound n ts d rest (rw (g, declaration_at) at h)

declarations_sound : (m n : ℕ) → Sound Declarations (declarations_at m n)
unfolding declarations_at
declarations_sound m zero ts ds rest e = absurd (cc e)
declarations_sound m (suc n) ts ds rest e = by (eat (mark RightBrace) ts) refl e (declarations_sound m n)
  where
    by : (o : Option (List Token)) → eat (mark RightBrace) ts ≡ o → declarations_at m (suc n) ts ≡ Some (ds, rest) → Sound Declarations (declarations_at m n) → Declarations ts ds rest
    by (Some us) g h ih = led Declarations (mark RightBrace) ts us ds rest g (moved Declarations (mark RightBrace ∷ us) [] ds us rest (rw (g, declarations_at) at h) closed)
    by None g h ih =
        let b = bind_some (annotations_at m ts) (λ us. declaration_at m us >>= declared_then (declarations_at m n)) (rw (g, declarations_at) at h) in
        let c = bind_some (declaration_at m b.0) (declared_then (declarations_at m n)) b.2 in
        let r = mapped_is (λ es. c.0.0 ∷ es) (declarations_at m n c.0.1) ds rest c.2 in
        renamed Declarations ts (c.0.0 ∷ r.0) ds rest r.2 (a_declaration b.0 c.0.1 (annotations_sound m ts b.0 b.1) (declaration_sound m b.0 c.0.0 c.0.1 c.1) (ih c.0.1 r.0 rest r.1))

-- ---- the whole

block_is : (p : Name) (ds : List Declaration) (o : Option SchemaSyntax) (s : SchemaSyntax) → block p ds o ≡ Some s → (ns : SchemaSyntax) × (o ≡ Some ns) × (record { path = p; declarations = ds } ∷ ns ≡ s)
block_is p ds None s e = absurd (cc e)
block_is p ds (Some ns) s e = (ns, refl, cc e)

abbrev SoundWhole : (List Token → Option SchemaSyntax) → Type 0
SoundWhole read = (ts : List Token) (s : SchemaSyntax) → read ts ≡ Some s → SchemaRule ts s

block_sound : (m : ℕ) (more : List Token → Option SchemaSyntax) → SoundWhole more → (ts us : List Token) (s : SchemaSyntax) → Annotations ts us → block_then m more us ≡ Some s → SchemaRule ts s
block_sound m more ih ts us s a e = by (eat namespace_word us) refl e
  where
    by : (o : Option (List Token)) → eat namespace_word us ≡ o → block_then m more us ≡ Some s → SchemaRule ts s
    by (Some vs) g h =
        let p = bind_some (path_at m vs) (namespace_then m more) (rw (g, block_then) at h) in
        let b = bind_some (eat (mark LeftBrace) p.0.1) (λ ws. declarations_at m m ws >>= λ ds. block p.0.0 ds.0 (more ds.1)) p.2 in
        let c = bind_some (declarations_at m m b.0) (λ ds. block p.0.0 ds.0 (more ds.1)) b.2 in
        let r = block_is p.0.0 c.0.0 (more c.0.1) s c.2 in
        subst (λ z. SchemaRule ts z) r.2
        (in_namespace vs b.0 c.0.1 (subst (λ z. Annotations ts z) (eat_is namespace_word us vs g) a) (up_to Path vs p.0.0 p.0.1 (mark LeftBrace ∷ b.0) (eat_is (mark LeftBrace) p.0.1 b.0 b.1) (path_sound m vs p.0.0 p.0.1 p.1)) (declarations_sound m m b.0 c.0.0 c.0.1 c.1) (ih c.0.1 r.0 r.1))
    by None g h =
        let b = bind_some (declaration_at m us) (lone_then more) (rw (g, block_then) at h) in
        let r = block_is [] (b.0.0 ∷ []) (more b.0.1) s b.2 in
        subst (λ z. SchemaRule ts z) r.2 (in_none us b.0.1 a (declaration_sound m us b.0.0 b.0.1 b.1) (ih b.0.1 r.0 r.1))

end_is : (ts : List Token) → is_end ts ≡ true → ts ≡ []
end_is [] e = refl
end_is (t ∷ ts) e = absurd (cc e)

pub schema_sound : (m n : ℕ) → SoundWhole (schema_at m n)
unfolding schema_at
schema_sound m zero ts s e = absurd (cc e)
schema_sound m (suc n) ts s e = by (is_end ts) refl e (schema_sound m n)
  where
    by : (b : Bool) → is_end ts ≡ b → schema_at m (suc n) ts ≡ Some s → SoundWhole (schema_at m n) → SchemaRule ts s
    by true g h ih = let same : [] ≡ s = cc (rw (g, schema_at) at h) in subst (λ z. SchemaRule z s) (sym (end_is ts g)) (subst (λ z. SchemaRule [] z) same at_end)
    by false g h ih =
        let b = bind_some (annotations_at m ts) (block_then m (schema_at m n)) (rw (g, schema_at) at h) in
        block_sound m (schema_at m n) ih ts b.0 s (annotations_sound m ts b.0 b.1) b.2
