-- Parts between braces, some of which may not stand, are read as the entries of a record.
use Rattle.std.proofs.Common.{◌≡◌, ℕ, true, List, [], ◌∷◌, ◌++◌, sym, ◌∙◌, subst, append-nil, arith}
use Rattle.std.specs.Prelude.{IsUtf8, encode_utf8_all}
use Rattle.std.proofs.lemmas.Bool.{and_parts}
use Rattle.std.proofs.lemmas.Str.{chars_from_encodes}
use Rattle.cedar_language.specs.Uid.{Text}
use Rattle.cedar_language.specs.Height.{height}
use Rattle.cedar_language.specs.Tree.{Tree, Lit, Literal}
use Rattle.cedar_grammar.specs.Build.{trees, keys, record_of}
use Rattle.cedar_grammar.specs.Calls.{calls_only, all_call_only}
use Rattle.cedar_grammar.specs.Names.{Names, is_function, are_distinct}
use Rattle.cedar_grammar.specs.Tokens.{AreTokens, none, nothing}
use Rattle.cedar_json.specs.Parts.{part_written}
use Rattle.cedar_json.specs.Values.{IsTextOf}
use Rattle.cedar_json.proofs.Appending.{part_is}
use Rattle.cedar_json.proofs.Literals.{Spells}
use Rattle.cedar_json.proofs.ReadBack.{Calls, AllCall, SpellsEntries, no_entry, entry_more, record_spelled}
use Rattle.cedar_json.proofs.Records.{Entries, values, calls_unsorted}
use Rattle.cedar_json_commands.specs.PartialQuestionsWritten.{braced}

abbrev pub four : Entries → Entries → Entries → Entries → Entries
four es fs gs hs = es ++ (fs ++ (gs ++ (hs ++ [])))

module _ (names : Names) where
  -- the characters put these entries before any others
  abbrev pub Stands : List ℕ → Entries → Type 0
  Stands cs es = (ds : List ℕ) (fs : Entries) → (AllCall names (values fs) → SpellsEntries names ds fs) → AllCall names (values (es ++ fs))
      → SpellsEntries names (cs ++ ds) (es ++ fs)

  pub nothing_stands : Stands [] []
  nothing_stands ds fs more all = more all

  pub literal_stands : (k : Text) (cs : List ℕ) (l : Literal) → IsUtf8 k → Spells names cs (Lit l) → Stands (part_written k cs) ((k, Lit l) ∷ [])
  literal_stands k cs l u spells ds fs more all =
      subst (λ z. SpellsEntries names z ((k, Lit l) ∷ fs)) (sym (part_is k cs ds)) (entry_more names k cs ds (Lit l) fs u spells (more all))

  pub tree_stands : (k : Text) (cs : List ℕ) (t : Tree) → IsUtf8 k → (Calls names t → Spells names cs t) → Stands (part_written k cs) ((k, t) ∷ [])
  tree_stands k cs t u spells ds fs more all =
      let both = and_parts (calls_only (is_function names) t) (all_call_only (is_function names) (trees (values fs))) all in
      subst (λ z. SpellsEntries names z ((k, t) ∷ fs)) (sym (part_is k cs ds)) (entry_more names k cs ds t fs u (spells both.0) (more both.1))

  pub braced_spelled : (p q r s : List ℕ) (es fs gs hs : Entries) → Stands p es → Stands q fs → Stands r gs → Stands s hs
      → are_distinct (keys (four es fs gs hs)) ≡ true → Calls names (record_of (four es fs gs hs))
      → Spells names (braced p q r s) (record_of (four es fs gs hs))
  braced_spelled p q r s es fs gs hs a b c d distinct calls =
      let all : AllCall names (values (four es fs gs hs)) = calls_unsorted (is_function names) (four es fs gs hs) calls in
      let last : AllCall names (values (hs ++ [])) → SpellsEntries names (s ++ 125 ∷ []) (hs ++ []) = d (125 ∷ []) [] (λ ok. no_entry names) in
      let later : AllCall names (values (gs ++ (hs ++ []))) → SpellsEntries names (r ++ (s ++ 125 ∷ [])) (gs ++ (hs ++ [])) =
      c (s ++ 125 ∷ []) (hs ++ []) last in
      record_spelled names (p ++ (q ++ (r ++ (s ++ 125 ∷ [])))) (four es fs gs hs)
      (a (q ++ (r ++ (s ++ 125 ∷ []))) (fs ++ (gs ++ (hs ++ []))) (b (r ++ (s ++ 125 ∷ [])) (gs ++ (hs ++ [])) later) all) distinct

-- a text of the characters of a tree is a text of that
pub spelled_text : (cs : List ℕ) (t : Tree) (bytes : Text) → ((names : Names) → Calls names t → Spells names cs t) → IsUtf8 bytes
    → encode_utf8_all cs ≡ bytes → IsTextOf bytes t
spelled_text cs t bytes spelled u is names calls =
    let whole = spelled names calls in
    let x = whole.reads [] [] tt (none nothing) in (
      x.0,
      subst (λ z. AreTokens z x.0) (append-nil cs ∙ chars_from_encodes cs bytes u is) x.1,
      (x.2 (height t) (omega arith), whole.slots),
    )
