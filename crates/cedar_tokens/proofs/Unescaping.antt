-- The text that parts stand for.
use Rattle.std.proofs.Common.{◌≡◌, ℕ, List, [], ◌++◌, Option, Some, None, refl, sym, ap, ◌∙◌, append-nil}
use Rattle.std.specs.Prelude.{encode_utf8_all}
use Rattle.std.specs.Str.{chars}
use Rattle.cedar_grammar.specs.Escape.{Part, between, parts_from, parts_of, string_chars, string_of}

abbrev pub encoded : Option (List ℕ) → Option (List ℕ)
encoded None = None
encoded (Some cs) = Some (encode_utf8_all cs)

-- the text that parts stand for
abbrev pub written : Option (List Part) → Option (List ℕ)
written None = None
written (Some ps) = encoded (string_chars ps)

-- a text, and then what follows
abbrev pub after_text : List ℕ → Option (List ℕ) → Option (List ℕ)
after_text bs None = None
after_text bs (Some ds) = Some (bs ++ ds)

after_none : (o : Option (List ℕ)) → after_text [] o ≡ o
after_none None = refl
after_none (Some ds) = refl

pub string-written : (cs : List ℕ) → string_of cs ≡ written (parts_from between cs)
unfolding string_of
string-written cs = by (parts_from between cs)
  where
    chars_of : (o : Option (List ℕ)) → elim o as (λ _. Option (List ℕ)) [ None ↦ None | Some ds ↦ Some (encode_utf8_all ds) ] ≡ encoded o
    chars_of None = refl
    chars_of (Some ds) = refl

    by : (o : Option (List Part)) → elim o as (λ _. Option (List ℕ)) [ None ↦ None | Some ps ↦ elim (string_chars ps) as (λ _. Option (List ℕ)) [ None ↦ None | Some ds ↦ Some (encode_utf8_all ds) ] ] ≡ written o
    by None = refl
    by (Some ps) = chars_of (string_chars ps)

pub written_none : (raw bs : List ℕ) → bs ≡ [] → string_of (chars raw) ≡ after_text bs (written (parts_from between (chars raw)))
written_none raw bs e = string-written (chars raw) ∙ sym (after_none (written (parts_from between (chars raw)))) ∙ ap (λ x. after_text x (written (parts_from between (chars raw)))) (sym e)

no_parts : parts_from between [] ≡ Some []
unfolding parts_from
no_parts = refl

pub written_all : (raw rest bs : List ℕ) → string_of (chars raw) ≡ after_text bs (written (parts_from between (chars rest))) → chars rest ≡ [] → string_of (chars raw) ≡ Some bs
written_all raw rest bs h e = h ∙ ap (λ cs. after_text bs (written (parts_from between cs))) e ∙ ap (λ o. after_text bs (written o)) no_parts ∙ ap Some (append-nil bs)

-- parts, and then what follows
abbrev pub after_parts : List Part → Option (List Part) → Option (List Part)
after_parts ps None = None
after_parts ps (Some qs) = Some (ps ++ qs)

after_no_parts : (o : Option (List Part)) → o ≡ after_parts [] o
after_no_parts None = refl
after_no_parts (Some qs) = refl

pub parts_none : (raw : List ℕ) (ps : List Part) → ps ≡ [] → parts_of (chars raw) ≡ after_parts ps (parts_from between (chars raw))
parts_none raw ps e = after_no_parts (parts_from between (chars raw)) ∙ ap (λ x. after_parts x (parts_from between (chars raw))) (sym e)

pub parts_all : (raw rest : List ℕ) (ps : List Part) → parts_of (chars raw) ≡ after_parts ps (parts_from between (chars rest)) → chars rest ≡ [] → parts_of (chars raw) ≡ Some ps
parts_all raw rest ps h e = h ∙ ap (λ cs. after_parts ps (parts_from between cs)) e ∙ ap (after_parts ps) no_parts ∙ ap Some (append-nil ps)
