-- Words that effects and clauses begin with, by their spelling.
use Rattle.std.proofs.Common.{◌≡◌, Bool, true, false, None, refl, sym, codes}
use Rattle.std.specs.Prelude.{cond}
use Rattle.cedar_language.specs.Uid.{Text}
use Rattle.cedar_grammar.specs.Token as token
use Rattle.cedar_grammar.specs.Token.{Word, spelled, word_of}
use Rattle.cedar_grammar.specs.Policies.{effect_of}
use Rattle.cedar_grammar.specs.Loose as loose
use Rattle.cedar_grammar.specs.Converting.{ident_spelling, effect}
use Rattle.cedar_names.specs.Identifiers.{is_identifier}
use Rattle.cedar_cst.specs.LeafView.{written_ident}
use Rattle.cedar_conversion.proofs.Words.{word_spelled}
use Rattle.cedar_policy_conversion.specs.Clauses.{clause_word}

effect_at : (w : Word) (s : Text) → spelled w ≡ s → (s ≡ codes "permit" → ⊥) → (s ≡ codes "forbid" → ⊥) → effect_of w ≡ None
effect_at token.Permit s e p f = absurd (p (sym e))
effect_at token.Forbid s e p f = absurd (f (sym e))
effect_at _ s e p f = refl

pub no_effect : (s : Text) → (s ≡ codes "permit" → ⊥) → (s ≡ codes "forbid" → ⊥) → effect (written_ident s) ≡ None
no_effect s p f = by (is_identifier s)
  where
    by : (b : Bool) → effect (cond b (loose.ident (word_of s)) (loose.invalid_ident s)) ≡ None
    by true = effect_at (word_of s) s (word_spelled s) p f
    by false = refl

pub unspelled_effect : (i : loose.Ident) → ident_spelling i ≡ None → effect i ≡ None
unspelled_effect (loose.ident w) e = cc
unspelled_effect _ e = refl

clause_at : (w : Word) (s : Text) → spelled w ≡ s → (s ≡ codes "when" → ⊥) → (s ≡ codes "unless" → ⊥) → clause_word (loose.ident w) ≡ None
clause_at token.When s e p f = absurd (p (sym e))
clause_at token.Unless s e p f = absurd (f (sym e))
clause_at _ s e p f = refl

pub no_clause_word : (s : Text) → (s ≡ codes "when" → ⊥) → (s ≡ codes "unless" → ⊥) → clause_word (written_ident s) ≡ None
no_clause_word s p f = by (is_identifier s)
  where
    by : (b : Bool) → clause_word (cond b (loose.ident (word_of s)) (loose.invalid_ident s)) ≡ None
    by true = clause_at (word_of s) s (word_spelled s) p f
    by false = refl

pub unspelled_clause_word : (i : loose.Ident) → ident_spelling i ≡ None → clause_word i ≡ None
unspelled_clause_word (loose.ident w) e = cc
unspelled_clause_word _ e = refl
