-- What texts may call is what the table answers.
use Rattle.std.proofs.Common.{◌≡◌, Bool, true, false, cond, not, ◌&&◌, ◌||◌, if◌then◌else◌, Option, Some, None, is_some, List, [], ◌∷◌, filter, refl, sym, ◌∙◌, ap, true≢false}
use Rattle.std.proofs.lemmas.Bool.{and_from, and_parts}
use Rattle.std.specs.List.{list_any, list_all}
use Rattle.std.proofs.lemmas.Cmp.{nat_list_eq_equiv, lists_equiv}
use Rattle.std.specs.Cmp.{IsEquivalence}
use Rattle.std.specs.Cmp.Lexicographic.{pointwise_decides, bytes_decides}
use Rattle.cedar_language.specs.Uid.{Text, Name}
use Rattle.cedar_language.specs.Tree.{String, Operator, Call, Tree, Lit, Unknown, If, And, Or, Apply, Trees, no_trees, a_tree}
use Rattle.cedar_language.specs.Facts.{Function}
use Rattle.cedar_language.specs.Constructing.{the_constructor, is_the_constructor, constructor_function}
use Rattle.cedar_grammar.specs.Calls.{is_method, is_in_table, calls_none_but, calls_only, all_call_only, ExprsCallTheTable, ConditionsCallTheTable}
use Rattle.cedar_grammar.specs.Names.{Names, is_text, is_name, is_among, is_function}
use Rattle.cedar_grammar.specs.Functions.{CallStyle, as_function, as_method, NamedFunction, Functions, the_unknown, is_the_unknown, unknown_function, callers_functions, with_function, function_names, with_method, method_names, policy_names, body_names, first_named, function_of, evaluated_function}
use Rattle.cedar_partial_evaluation.specs.ReadUnknowns.{unknown_or_call, read_call, UnknownsAreRead}
use Rattle.cedar_grammar.specs.UnknownCalls.{unknown_or, named, all_named}
use Rattle.cedar_world.specs.Setting.{Setting}
use Rattle.cedar_grammar.specs.Syntax.{PolicySyntax, condition}
use Rattle.cedar_world.specs.NameLaws.{HasNoConstructor, NamesAreFound, NamesAreRead, is_answered, CallsAreFound}

names_equiv : IsEquivalence is_name
names_equiv = lists_equiv nat_list_eq_equiv

found_or_later : (b rest : Bool) (f : Function) (o : Option Function) → (b || rest) ≡ true → (rest ≡ true → is_some o ≡ true) → is_some (if b then Some f else o) ≡ true
found_or_later true rest f o e later = refl
found_or_later false rest f o e later = later e

later_too : (b : Bool) (f : Function) (o : Option Function) → is_some o ≡ true → is_some (if b then Some f else o) ≡ true
later_too true f o e = refl
later_too false f o e = e

-- ---- the caller's functions

module _ (name : Name) (f : NamedFunction) (fs : List NamedFunction) (later : list_any (is_name name) (function_names fs) ≡ true → is_some (first_named name fs) ≡ true) where
  function_by_style : (style : CallStyle) → list_any (is_name name) (with_function style f.name (function_names fs)) ≡ true → is_some (first_named name (f ∷ fs)) ≡ true
  function_by_style as_function h = found_or_later (is_name name f.name) (list_any (is_name name) (function_names fs)) f.function (first_named name fs) h later
  function_by_style as_method h = later_too (is_name name f.name) f.function (first_named name fs) (later h)

function_found : (name : Name) (fs : List NamedFunction) → list_any (is_name name) (function_names fs) ≡ true → is_some (first_named name fs) ≡ true
function_found name [] e = absurd (true≢false (sym e))
function_found name (f ∷ fs) e = function_by_style name f fs (function_found name fs) f.style e

one_part : (b rest : Bool) (f : Function) (o : Option Function) → (b || rest) ≡ true → (rest ≡ true → is_some o ≡ true) → is_some (if (b && true) then Some f else o) ≡ true
one_part true rest f o e later = refl
one_part false rest f o e later = later e

module _ (m : Text) (f : Function) (fs : List NamedFunction) (later : is_among m (method_names fs) ≡ true → is_some (first_named (m ∷ []) fs) ≡ true) where
  method_by_style : (style : CallStyle) (name : Name) → is_among m (with_method style name (method_names fs)) ≡ true → is_some (if is_name (m ∷ []) name then Some f else first_named (m ∷ []) fs) ≡ true
  method_by_style as_method (n ∷ []) h = one_part (is_text m n) (is_among m (method_names fs)) f (first_named (m ∷ []) fs) h later
  method_by_style style name h = later_too (is_name (m ∷ []) name) f (first_named (m ∷ []) fs) (later h)

method_found : (m : Text) (fs : List NamedFunction) → is_among m (method_names fs) ≡ true → is_some (first_named (m ∷ []) fs) ≡ true
method_found m [] e = absurd (true≢false (sym e))
method_found m (f ∷ fs) e = method_by_style m f.function fs (method_found m fs) f.style f.name e

-- ---- `unknown` is none of them

module _ (name : Name) (is : is_the_unknown name ≡ true) where
  other_name : (f : NamedFunction) → is_the_unknown f.name ≡ false → (b : Bool) → is_name name f.name ≡ b → b ≡ false
  other_name f not true same = absurd (true≢false (sym is ∙ names_equiv.congr name f.name the_unknown same ∙ not))
  other_name f not false same = refl

  kept_none : (f : NamedFunction) (rest : List NamedFunction) → first_named name rest ≡ None → (b : Bool) → is_the_unknown f.name ≡ b → first_named name (if not b then f ∷ rest else rest) ≡ None
  kept_none f rest none true e = none
  kept_none f rest none false e = ap (λ b. if b then Some f.function else first_named name rest) (other_name f e (is_name name f.name) refl) ∙ none

  unknown_is_none : (table : List NamedFunction) → first_named name (filter (λ (f : NamedFunction). not (is_the_unknown f.name)) table) ≡ None
  unknown_is_none [] = refl
  unknown_is_none (f ∷ table) = kept_none f _ (unknown_is_none table) (is_the_unknown f.name) refl

-- ---- from the table

either_found : (a b : Bool) (o : Option Function) → (a || b) ≡ true → (b ≡ true → is_some o ≡ true) → is_some (if a then Some unknown_function else o) ≡ true
either_found true b o e later = refl
either_found false b o e later = later e

module _ (fs : Functions) where
  -- the table, where it holds `unknown` and where it doesn't
  abbrev names_where : Bool → Names
  names_where b = if b then record (policy_names fs) { functions = the_unknown ∷ (policy_names fs).functions } else policy_names fs

  abbrev function_where : Bool → Name → Option Function
  function_where b name = if is_the_unknown name then (if b then Some unknown_function else None) else first_named name (callers_functions fs)

  callers_found : (b : Bool) (name : Name) → is_some (first_named name (callers_functions fs)) ≡ true → is_some (function_where b name) ≡ true
  callers_found b name h = by_name (is_the_unknown name) refl
    where
      by_name : (x : Bool) → is_the_unknown name ≡ x → is_some (if x then (if b then Some unknown_function else None) else first_named name (callers_functions fs)) ≡ true
      by_name true e = absurd (true≢false (sym h ∙ ap is_some (unknown_is_none name e fs.table)))
      by_name false e = h

  policy_function : (b : Bool) (name : Name) → is_function (policy_names fs) name ≡ true → is_some (function_where b name) ≡ true
  policy_function b name h = callers_found b name (function_found name (callers_functions fs) (and_parts _ _ h).1)

  policy_method : (b : Bool) (m : Text) → is_among m (policy_names fs).methods ≡ true → is_some (function_where b (m ∷ [])) ≡ true
  policy_method b m h = callers_found b (m ∷ []) (method_found m (callers_functions fs) h)

  body_function : (b : Bool) (name : Name) → is_function (names_where b) name ≡ true → is_some (function_where b name) ≡ true
  body_function true name h = either_found (is_the_unknown name) (list_any (is_name name) (function_names (callers_functions fs))) (first_named name (callers_functions fs)) (and_parts _ _ h).1 (function_found name (callers_functions fs))
  body_function false name h = policy_function false name h

  body_method : (b : Bool) (m : Text) → is_among m (names_where b).methods ≡ true → is_some (function_where b (m ∷ [])) ≡ true
  body_method true m h = policy_method true m h
  body_method false m h = policy_method false m h

  no_policy_calls : (b : Bool) → list_any (is_name the_unknown) (function_names (callers_functions fs)) ≡ b → b ≡ false
  no_policy_calls true e = absurd (true≢false (sym (function_found the_unknown (callers_functions fs) e) ∙ ap is_some (unknown_is_none the_unknown (names_equiv.refl the_unknown) fs.table)))
  no_policy_calls false e = refl

  found_evaluated : HasNoConstructor fs → (name : Name) → is_some (function_of fs name) ≡ true → evaluated_function fs name ≡ function_of fs name
  found_evaluated none name found = by_name (is_the_constructor name) refl
    where
      by_name : (b : Bool) → is_the_constructor name ≡ b → cond b (Some constructor_function) (function_of fs name) ≡ function_of fs name
      by_name true is = absurd (true≢false (sym found ∙ ap is_some (ap (function_of fs) ((pointwise_decides bytes_decides name the_constructor).0 is) ∙ none)))
      by_name false is = refl

pub names_are_found : (fs : Functions) → NamesAreFound fs
names_are_found fs = record {
  policy_function = policy_function fs fs.has_unknown;
  policy_method = policy_method fs fs.has_unknown;
  body_function = body_function fs fs.has_unknown;
  body_method = body_method fs fs.has_unknown;
  evaluated = found_evaluated fs;
  no_unknown = no_policy_calls fs _ refl;
}

-- ---- the calls of texts

module _ (f g : Name → Bool) (more : (name : Name) → f name ≡ true → g name ≡ true) where
  operator_still : (op : Operator) → calls_none_but f op ≡ true → calls_none_but g op ≡ true
  operator_still (Call name) h = more name h
  operator_still op h = refl

  mutual
    calls_still : (t : Tree) → calls_only f t ≡ true → calls_only g t ≡ true
    calls_still (Unknown n ty) h = h
    calls_still (If t y n) h =
        let rest = (and_parts (calls_only f t) _ h).1 in
        and_from (calls_only g t) _ (calls_still t (and_parts (calls_only f t) _ h).0)
        (and_from (calls_only g y) _ (calls_still y (and_parts (calls_only f y) _ rest).0) (calls_still n (and_parts (calls_only f y) _ rest).1))
    calls_still (And l r) h = and_from (calls_only g l) _ (calls_still l (and_parts (calls_only f l) _ h).0) (calls_still r (and_parts (calls_only f l) _ h).1)
    calls_still (Or l r) h = and_from (calls_only g l) _ (calls_still l (and_parts (calls_only f l) _ h).0) (calls_still r (and_parts (calls_only f l) _ h).1)
    calls_still (Apply op ts) h = and_from (calls_none_but g op) _ (operator_still op (and_parts (calls_none_but f op) _ h).0) (all_still ts (and_parts (calls_none_but f op) _ h).1)
    calls_still _ h = refl

    all_still : (ts : Trees) → all_call_only f ts ≡ true → all_call_only g ts ≡ true
    all_still no_trees h = refl
    all_still (a_tree t ts) h = and_from (calls_only g t) _ (calls_still t (and_parts (calls_only f t) _ h).0) (all_still ts (and_parts (calls_only f t) _ h).1)

  conditions_still : (ss : List PolicySyntax) → list_all (λ s. calls_only f (condition s)) ss ≡ true → list_all (λ s. calls_only g (condition s)) ss ≡ true
  conditions_still [] h = refl
  conditions_still (s ∷ ss) h = and_from (calls_only g (condition s)) _ (calls_still (condition s) (and_parts (calls_only f (condition s)) _ h).0) (conditions_still ss (and_parts (calls_only f (condition s)) _ h).1)

module _ (fs : Functions) where
  by_either : (names : Names) (name : Name) → (is_function names name ≡ true → is_some (function_of fs name) ≡ true) → ((m : Text) → is_among m names.methods ≡ true → is_some (function_of fs (m ∷ [])) ≡ true)
      → (b : Bool) → is_function names name ≡ b → is_in_table names name ≡ true → is_some (function_of fs name) ≡ true
  by_either names name f g true e h = f e
  by_either names name f g false e h = by_method name (sym (ap (λ b. b || is_method names name) e) ∙ h)
    where
      by_method : (name : Name) → is_method names name ≡ true → is_some (function_of fs name) ≡ true
      by_method [] k = absurd (true≢false (sym k))
      by_method (m ∷ []) k = g m k
      by_method (m ∷ n ∷ ms) k = absurd (true≢false (sym k))

  body_call : (name : Name) → is_in_table (body_names fs) name ≡ true → is_answered fs name ≡ true
  body_call name = by_either (body_names fs) name ((names_are_found fs).body_function name) (names_are_found fs).body_method (is_function (body_names fs) name) refl

  callers_call : (name : Name) → is_in_table (policy_names fs) name ≡ true → is_some (first_named name (callers_functions fs)) ≡ true
  callers_call name h = by_part (is_function (policy_names fs) name) refl
    where
      by_method : (name : Name) → is_method (policy_names fs) name ≡ true → is_some (first_named name (callers_functions fs)) ≡ true
      by_method [] k = absurd (true≢false (sym k))
      by_method (m ∷ []) k = method_found m (callers_functions fs) k
      by_method (m ∷ n ∷ ms) k = absurd (true≢false (sym k))

      by_part : (b : Bool) → is_function (policy_names fs) name ≡ b → is_some (first_named name (callers_functions fs)) ≡ true
      by_part true e = function_found name (callers_functions fs) (and_parts _ _ e).1
      by_part false e = by_method name (sym (ap (λ b. b || is_method (policy_names fs) name) e) ∙ h)

  not_the_unknown : (name : Name) → is_some (first_named name (callers_functions fs)) ≡ true → (b : Bool) → is_the_unknown name ≡ b → not b ≡ true
  not_the_unknown name h true e = absurd (true≢false (sym h ∙ ap is_some (unknown_is_none name e fs.table)))
  not_the_unknown name h false e = refl

  policy_call : (name : Name) → is_in_table (policy_names fs) name ≡ true → (is_answered fs name && not (is_the_unknown name)) ≡ true
  policy_call name h =
      let found = by_either (policy_names fs) name ((names_are_found fs).policy_function name) (names_are_found fs).policy_method (is_function (policy_names fs) name) refl h in
      and_from (is_answered fs name) (not (is_the_unknown name)) found (not_the_unknown name (callers_call name h) (is_the_unknown name) refl)

pub calls_are_found : ExprsCallTheTable → ConditionsCallTheTable → (by : Setting) → CallsAreFound by
calls_are_found exprs conditions by = record {
  policies = λ text ss reads.
      conditions_still (is_in_table (policy_names by.functions)) (λ name. is_answered by.functions name && not (is_the_unknown name)) (policy_call by.functions) ss
      (conditions (policy_names by.functions) reads.0 reads.1.0 ss reads.1.2);
  bodies = λ text tree reads.
      calls_still (is_in_table (body_names by.functions)) (is_answered by.functions) (body_call by.functions) tree
      (exprs (body_names by.functions) reads.0 reads.1.0 tree reads.1.2);
}

-- ---- the unknowns of data

named_applied : (op : Operator) (ts : Trees) → named (Apply op ts) ≡ read_call op (all_named ts)
named_applied (Call f) (a_tree t ts) = by_name (is_the_unknown f) (named t) (all_named ts)
  where
    by_name : (b : Bool) (u : Tree) (us : Trees) → unknown_or b f u us ≡ unknown_or_call b f u us
    by_name true (Lit (String n)) no_trees = refl
    by_name true u us = refl
    by_name false u us = refl
named_applied _ _ = refl

pub names_are_read : UnknownsAreRead → NamesAreRead
names_are_read law t h =
    law.data_alone named all_named
    (record { literal = λ l. refl; unknown = λ n ty. refl; applied = named_applied; nothing = refl; more = λ u us. refl }) t h
