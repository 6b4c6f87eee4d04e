-- What is read by a rule of the grammar, of what is read of its parts.
use Rattle.std.proofs.Common.{◌≡◌, ℕ, suc, ◌<◌, ◌≤◌, ◌^◌, true, false, List, [], ◌∷◌, ◌++◌, Some, refl, sym, subst, arith}
use Rattle.std.specs.Prelude.{Bool, cond, codes, pos, neg_ℤ}
use Rattle.cedar_language.specs.Uid.{Text, Name}
use Rattle.cedar_language.specs.Tree.{Tree, Lit, Entity, Literal, String}
use Rattle.cedar_grammar.specs.Build.{truth, long}
use Rattle.cedar_grammar.specs.Escape.{string_of}
use Rattle.cedar_grammar.specs.Grammar.{Rule, Inner, inner, Ids, one_id, more_ids, entity, Primary, text_is, number_is, true_is, false_is, entity_is, no_access, member, Unary, plain, negative_is, a_sign, no_sign, chain, stop, alone, Expr, or_is, Within}
use Rattle.cedar_grammar.specs.Names.{Names}
use Rattle.cedar_grammar.specs.Token as token
use Rattle.cedar_grammar.specs.Token.{Mark, Token, Word, word, number, text, mark, word_of, id_of}
use Rattle.cedar_names.specs.Identifiers.{IsUnreservedId}
use Rattle.cedar_data.specs.Takes.{Takes, Reads}
use Rattle.cedar_data.specs.Data.{IsData, ReadsTree, ReadsLeaf, Behind, ReadsPath}
use Rattle.cedar_faults.proofs.Words.{word_is}

-- ---- rules

-- an operand without accesses and signs
pub of_primary : {i : Inner} {t : Tree} {ts rest : List Token} → Primary i ts t rest → Unary i ts t rest
of_primary {i} {t} {ts} {rest} p = plain (member t rest p no_access)

-- and without operators
pub of_unary : {i : Inner} {t : Tree} {ts rest : List Token} → Unary i ts t rest → Expr i ts t rest
of_unary {i} {t} {ts} {rest} u = or_is (chain t rest (chain t rest (alone (chain t rest (chain t rest u stop) stop)) stop) stop)

pub reads_by : {A : Type 0} {r s : Rule A} {a b : A} {bs rest : Text} → ((ts us : List Token) → r ts a us → s ts b us) → Reads r bs a rest → Reads s bs b rest
reads_by f reads = record { tokens = λ us are. let x = reads.tokens us are in (x.0, x.1, f x.0 us x.2); shorter = reads.shorter }

-- ---- data

pub leaf : (n : ℕ) (l : Literal) → IsData (suc n) (Lit l)
leaf n l = record { low = omega arith; restricted = refl }

-- and operators nest no deeper
pub within : (names : Names) (n m : ℕ) (bs rest : Text) (t : Tree) → n ≡ suc m → ReadsTree (Unary (inner names m)) (suc m) bs t rest → ReadsTree (Within names n) n bs t rest
within names n m bs rest t is reads =
    subst (λ k. ReadsTree (Within names k) k bs t rest) (sym is)
    (record { reads = reads_by (λ ts us u. of_unary u) reads.reads; is_data = reads.is_data })

-- ---- literals

module _ (x : Tree) (bs rest : Text) where
  -- one token that is a literal
  pub literal_read : (t : Token) (l : Literal) → Takes t bs rest → ((i : Inner) (us : List Token) → Primary i (t ∷ us) (Lit l) us) → x ≡ Lit l → ReadsLeaf bs x rest
  literal_read t l takes rule is n names =
      record {
        reads = subst (λ y. Reads (Unary (inner names n)) bs y rest) (sym is) (record { tokens = λ us are. (t ∷ us, takes.tokens us are, of_primary (rule (inner names n) us)); shorter = takes.shorter });
        is_data = subst (IsData (suc n)) (sym is) (leaf n l);
      }

  pub string_read : (raw : List ℕ) (s : Text) → Takes (text raw) bs rest → string_of raw ≡ Some s → x ≡ Lit (String s) → ReadsLeaf bs x rest
  string_read raw s takes is made = literal_read (text raw) (String s) takes (λ j us. text_is is) made

  pub positive_read : (v : ℕ) → Takes (number v) bs rest → v < 2 ^ 63 → x ≡ long (pos v) → ReadsLeaf bs x rest
  positive_read v takes small made = literal_read (number v) _ takes (λ j us. number_is small) made

  pub negative_read : (mid : Text) (v : ℕ) → Takes (mark token.Minus) bs mid → Takes (number v) mid rest → v ≤ 2 ^ 63 → x ≡ long (neg_ℤ (pos v)) → ReadsLeaf bs x rest
  negative_read mid v minus takes small made n names =
      record {
        reads = subst (λ y. Reads (Unary (inner names n)) bs y rest) (sym made) (record {
          tokens = λ us are. (mark token.Minus ∷ number v ∷ us, minus.tokens (number v ∷ us) (takes.tokens us are), negative_is 0 v (omega arith) small (a_sign no_sign));
          shorter = let one = minus.shorter in let two = takes.shorter in omega arith;
        });
        is_data = subst (IsData (suc n)) (sym made) (leaf n _);
      }

  pub boolean_read : (w : Text) (b : Bool) → Takes (word (word_of w)) bs rest → w ≡ cond b (codes "true") (codes "false") → x ≡ truth b → ReadsLeaf bs x rest
  boolean_read w true takes is made = literal_read (word token.True) _ (subst (λ y. Takes (word (word_of y)) bs rest) is takes) (λ j us. true_is) made
  boolean_read w false takes is made = literal_read (word token.False) _ (subst (λ y. Takes (word (word_of y)) bs rest) is takes) (λ j us. false_is) made

-- ---- paths

ids_last : {sep : Mark} (us : List Token) (w : Word) (s : Text) {ts : List Token} {p : Name} {rest : List Token} → Ids sep ts p rest → rest ≡ mark sep ∷ word w ∷ us → id_of w ≡ Some s → Ids sep ts (p ++ s ∷ []) us
ids_last us w s (one_id e) is f = rw is (more_ids e (one_id f))
ids_last us w s (more_ids e more) is f = more_ids e (ids_last us w s more is f)

module _ (first bs : Text) where
  pub path_starts : IsUnreservedId first → ReadsPath first false bs (first ∷ []) bs
  path_starts id = record { tokens = λ us are. (us, are, one_id (word_is first id)); short = omega arith }

  pub path_more : (p : Name) (id mid next rest : Text) → IsUnreservedId id → ReadsPath first false bs p mid → Takes (mark token.ColonColon) mid next → Takes (word (word_of id)) next rest → ReadsPath first false bs (p ++ id ∷ []) rest
  path_more p id mid next rest is path colons takes =
      record {
        tokens = λ us are.
            let x = path.tokens (mark token.ColonColon ∷ word (word_of id) ∷ us) (colons.tokens (word (word_of id) ∷ us) (takes.tokens us are)) in
            (x.0, x.1, ids_last us (word_of id) id x.2 refl (word_is id is));
        short = let one = path.short in let two = colons.shorter in let three = takes.shorter in omega arith;
      }

  pub path_of_type : (p : Name) (mid next : Text) → ReadsPath first false bs p mid → Takes (mark token.ColonColon) mid next → ReadsPath first true bs p next
  path_of_type p mid next path colons =
      record {
        tokens = λ us are. path.tokens (mark token.ColonColon ∷ us) (colons.tokens us are);
        short = let one = path.short in let two = colons.shorter in omega arith;
      }

  pub entity_read : (i : Inner) (n : ℕ) (p : Name) (mid rest : Text) (raw : List ℕ) (s : Text) (x : Tree) → ReadsPath first true bs p mid → Takes (text raw) mid rest → string_of raw ≡ Some s
      → x ≡ Lit (Entity (record { type_name = p; id = s })) → ReadsTree (Behind i first) (suc n) bs x rest
  entity_read i n p mid rest raw s x path takes is made =
      record {
        reads = subst (λ y. Reads (Behind i first) bs y rest) (sym made) (record {
          tokens = λ us are. let y = path.tokens (text raw ∷ us) (takes.tokens us are) in (y.0, y.1, of_primary (entity_is (entity p raw y.2 is)));
          shorter = let one = path.short in let two = takes.shorter in omega arith;
        });
        is_data = subst (IsData (suc n)) (sym made) (leaf n _);
      }

-- a first identifier, and what follows it
pub behind_word : (i : Inner) (n : ℕ) (first bs mid rest : Text) (t : Tree) → Takes (word (word_of first)) bs mid → ReadsTree (Behind i first) n mid t rest → ReadsTree (Unary i) n bs t rest
behind_word i n first bs mid rest t takes behind =
    record {
      reads = record {
        tokens = λ us are. let x = behind.reads.tokens us are in (word (word_of first) ∷ x.0, takes.tokens x.0 x.1, x.2);
        shorter = let one = takes.shorter in let two = behind.reads.shorter in omega arith;
      };
      is_data = behind.is_data;
    }
