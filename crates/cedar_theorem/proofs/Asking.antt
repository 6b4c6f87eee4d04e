-- A question in which nothing is unknown, as its body says.
use Rattle.std.proofs.Common.{◌≡◌, Bool, true, false, cond, ◌&&◌, Option, Some, None, List, [], ◌∷◌, codes, refl, sym, ◌∙◌, ap, subst, true≢false}
use Rattle.std.specs.Option.{unwrap_or}
use Rattle.std.proofs.lemmas.Bool.{and_parts, and_from, or_from}
use Rattle.cedar_language.specs.Uid.{Text, Name, Uid}
use Rattle.cedar_language.specs.Restricted.{is_restricted, are_restricted}
use Rattle.cedar_language.specs.Tree.{String, Entity, MakeSet, MakeRecord, Call, Operator, Tree, Lit, Unknown, Apply, Trees, no_trees, a_tree}
use Rattle.cedar_language.specs.Value.{Value, Values, Outcome, Gives, Fails}
use Rattle.cedar_language.specs.Facts.{Facts}
use Rattle.cedar_language.specs.Meaning.{Request, Outcomes, GivesAll, OneFails, more_of, apply_of, meaning, meanings}
use Rattle.cedar_language.specs.Operators.{applied, called}
use Rattle.cedar_grammar.specs.Functions.{Functions, is_the_unknown}
use Rattle.cedar_grammar.specs.UnknownCalls.{unknown_or, named_call, named, all_named}
use Rattle.cedar_world.specs.Orders.{text_eq}
use Rattle.cedar_world.specs.Asking.{Part, Given, Missing, Entries, NoContext, WithEntries, Question}
use Rattle.cedar_world.specs.Bodies.{some_name, some_name_of, entity_of, zipped, found, if_there, part_with, part_fields, action_fields, entries_of, optional, question_with, question_fields, question_keys, ask_body}
use Rattle.cedar_world.specs.Question.{is_unknown, IsKnown}
use Rattle.cedar_world.proofs.Parts.{not_none, same_some}
use Rattle.cedar_theorem.specs.Bodies.{entry, field, no_entities, no_question, given, value_in}
use Rattle.cedar_theorem.proofs.Reading.{record_read, entry_found}

-- ---- parts of questions

uid_of : Part → Uid → Uid
uid_of (Given u) other = u
uid_of (Missing type) other = other

pub same_part : (u w : Uid) → Given u ≡ Given w → u ≡ w
unfolding uid_of
same_part u w e = ap (λ p. uid_of p w) e

tree_of : Entries → Tree → Tree
tree_of (WithEntries keys entries) other = Apply (MakeRecord keys) entries
tree_of NoContext other = other

pub same_tree : (ks js : List Text) (ts us : Trees) → WithEntries ks ts ≡ WithEntries js us → Apply (MakeRecord ks) ts ≡ Apply (MakeRecord js) us
unfolding tree_of
same_tree ks js ts us e = ap (λ c. tree_of c (Apply (MakeRecord js) us)) e

-- ---- operands that give values

operands : (facts : Facts) (op : Operator) (os : Outcomes) (v : Value) → apply_of facts op os ≡ Gives v → (vs : Values) × (os ≡ GivesAll vs)
operands facts op (GivesAll vs) v e = (vs, refl)
operands facts op (OneFails k) v e = cc

first_gives : (o : Outcome) (os : Outcomes) (vs : Values) → more_of o os ≡ GivesAll vs → (v : Value) × (ws : Values) × (o ≡ Gives v) × (os ≡ GivesAll ws)
first_gives (Gives v) (GivesAll ws) vs e = (v, ws, refl, refl)
first_gives (Gives v) (OneFails k) vs e = cc
first_gives (Fails k) os vs e = cc

-- ---- data that means a value

module _ (functions : Functions) (test : Text → Bool) where
  abbrev alone : Facts
  alone = no_entities functions

  -- no unknown stands in it
  mutual
    pub names_none : (t : Tree) → is_restricted t ≡ true → (v : Value) → meaning alone no_question t ≡ Gives v → some_name test t ≡ false
    names_none (Lit l) h v e = refl
    names_none (Unknown n type) h v e = cc
    names_none (Apply MakeSet ts) h v e = let (vs, are) = operands alone MakeSet (meanings alone no_question ts) v e in name_none ts h vs are
    names_none (Apply (MakeRecord ks) ts) h v e = let (vs, are) = operands alone (MakeRecord ks) (meanings alone no_question ts) v e in name_none ts h vs are
    names_none (Apply (Call f) ts) h v e = let (vs, are) = operands alone (Call f) (meanings alone no_question ts) v e in name_none ts h vs are
    names_none _ h v e = absurd (true≢false (sym h))

    pub name_none : (ts : Trees) → are_restricted ts ≡ true → (vs : Values) → meanings alone no_question ts ≡ GivesAll vs → some_name_of test ts ≡ false
    name_none no_trees h vs e = refl
    name_none (a_tree t ts) h vs e =
        let (here, more) = and_parts (is_restricted t) (are_restricted ts) h in
        let (v, ws, is, are) = first_gives (meaning alone no_question t) (meanings alone no_question ts) vs e in
        or_from (some_name test t) (some_name_of test ts) (names_none t here v is) (name_none ts more ws are)

module _ (functions : Functions) (facts : Facts) (same : (name : Name) → facts.function name ≡ (no_entities functions).function name) (request : Request) where
  abbrev only : Facts
  only = no_entities functions

  again : (op : Operator) → ((vs : Values) → applied facts op vs ≡ applied only op vs) → (os ps : Outcomes) → ((vs : Values) → os ≡ GivesAll vs → ps ≡ GivesAll vs)
      → (v : Value) → apply_of only op os ≡ Gives v → apply_of facts op ps ≡ Gives v
  again op alike os ps stays v e =
      let (vs, are) = operands only op os v e in
      ap (apply_of facts op) (stays vs are) ∙ alike vs ∙ sym (ap (apply_of only op) are) ∙ e

  -- it means this value whatever is held and asked
  mutual
    pub means_again : (t : Tree) → is_restricted t ≡ true → (v : Value) → meaning only no_question t ≡ Gives v → meaning facts request t ≡ Gives v
    means_again (Lit l) h v e = e
    means_again (Unknown n type) h v e = cc
    means_again (Apply MakeSet ts) h v e = again MakeSet (λ vs. refl) (meanings only no_question ts) (meanings facts request ts) (mean_again ts h) v e
    means_again (Apply (MakeRecord ks) ts) h v e = again (MakeRecord ks) (λ vs. refl) (meanings only no_question ts) (meanings facts request ts) (mean_again ts h) v e
    means_again (Apply (Call f) ts) h v e =
        again (Call f) (λ vs. ap (λ g. called g vs) (same f)) (meanings only no_question ts) (meanings facts request ts) (mean_again ts h) v e
    means_again _ h v e = absurd (true≢false (sym h))

    pub mean_again : (ts : Trees) → are_restricted ts ≡ true → (vs : Values) → meanings only no_question ts ≡ GivesAll vs → meanings facts request ts ≡ GivesAll vs
    mean_again no_trees h vs e = e
    mean_again (a_tree t ts) h vs e =
        let (here, more) = and_parts (is_restricted t) (are_restricted ts) h in
        let (v, ws, is, are) = first_gives (meaning only no_question t) (meanings only no_question ts) vs e in
        ap (λ o. more_of o (meanings facts request ts)) (means_again t here v is)
        ∙ ap (more_of (Gives v)) (mean_again ts more ws are)
        ∙ sym (ap (λ o. more_of o (meanings only no_question ts)) is ∙ ap (more_of (Gives v)) are)
        ∙ e

-- ---- unknowns that are named leave data

flag_restricted : (b : Bool) (f : Name) (t : Tree) (ts : Trees) → (is_restricted t && are_restricted ts) ≡ true → is_restricted (unknown_or b f t ts) ≡ true
flag_restricted true f (Lit (String n)) no_trees h = refl
flag_restricted _ f t ts h = h

call_restricted : (f : Name) (ts : Trees) → are_restricted ts ≡ true → is_restricted (named_call (Call f) ts) ≡ true
call_restricted f no_trees h = refl
call_restricted f (a_tree t ts) h = flag_restricted (is_the_unknown f) f t ts h

mutual
  named_restricted : (t : Tree) → is_restricted t ≡ true → is_restricted (named t) ≡ true
  named_restricted (Lit l) h = refl
  named_restricted (Unknown n type) h = refl
  named_restricted (Apply MakeSet ts) h = all_named_restricted ts h
  named_restricted (Apply (MakeRecord ks) ts) h = all_named_restricted ts h
  named_restricted (Apply (Call f) ts) h = call_restricted f (all_named ts) (all_named_restricted ts h)
  named_restricted _ h = absurd (true≢false (sym h))

  all_named_restricted : (ts : Trees) → are_restricted ts ≡ true → are_restricted (all_named ts) ≡ true
  all_named_restricted no_trees h = refl
  all_named_restricted (a_tree t ts) h =
      let (here, more) = and_parts (is_restricted t) (are_restricted ts) h in
      and_from (is_restricted (named t)) (are_restricted (all_named ts)) (named_restricted t here) (all_named_restricted ts more)

entry_restricted : (key : Text) (ks : List Text) (ts : Trees) → are_restricted ts ≡ true → (t : Tree) → entry key ks ts ≡ Some t → is_restricted t ≡ true
entry_restricted key [] ts h t e = absurd (not_none t e)
entry_restricted key (k ∷ ks) no_trees h t e = absurd (not_none t e)
entry_restricted key (k ∷ ks) (a_tree u us) h t e =
    let (here, more) = and_parts (is_restricted u) (are_restricted us) h in
    of_key (text_eq key k) here (entry_restricted key ks us more t) e
  where
    of_key : (b : Bool) → is_restricted u ≡ true → (entry key ks us ≡ Some t → is_restricted t ≡ true) → cond b (Some u) (entry key ks us) ≡ Some t → is_restricted t ≡ true
    of_key true here more e = ap is_restricted (sym (same_some u t e)) ∙ here
    of_key false here more e = more e

-- ---- what a body asks

part_is_given : (u : Uid) (x : Option (Option Name)) (p : Part) → part_with (Some (Some u)) x ≡ Some p → p ≡ Given u
part_is_given u (Some None) p e = sym (same_some (Given u) p e)
part_is_given u (Some (Some type)) p e = absurd (not_none p e)
part_is_given u None p e = absurd (not_none p e)

part_read : (o : Option Tree) (u : Uid) → o ≡ Some (Lit (Entity u)) → (x : Option (Option Name)) (p : Part) → part_with (if_there entity_of o) x ≡ Some p → p ≡ Given u
part_read o u is x p e = part_is_given u x p (sym (ap (λ q. part_with (if_there entity_of q) x) is) ∙ e)

pub question_parts : (o p q : Option Part) (c : Option (Option Entries)) (all : Question) → question_with o p q c ≡ Some all
    → (entries : Option Entries) × (o ≡ Some all.principal) × (p ≡ Some all.action) × (q ≡ Some all.resource) × (c ≡ Some entries) × (all.context ≡ unwrap_or entries NoContext)
question_parts (Some principal) (Some action) (Some resource) (Some context) all e =
    let is = same_some _ all e in
    (context, ap (λ (x : Question). Some x.principal) is, ap (λ (x : Question). Some x.action) is, ap (λ (x : Question). Some x.resource) is, refl, ap (λ (x : Question). x.context) (sym is))
question_parts _ _ _ _ all e = absurd (not_none all e)

given_value_is : (o : Outcome) (v : Value) → given o ≡ Some v → o ≡ Gives v
given_value_is (Gives w) v e = ap Gives (same_some w v e)
given_value_is (Fails k) v e = absurd (not_none v e)

-- the context that a body states, as a known one
record StatesContext (functions : Functions) (o : Option Tree) (c : Option Entries) (v : Value) : Type 0 where
  keys : List Text
  trees : Trees
  tree_is : o ≡ Some (Apply (MakeRecord keys) trees)
  entries_are : c ≡ Some (WithEntries keys (all_named trees))
  means : meaning (no_entities functions) no_question (Apply (MakeRecord keys) (all_named trees)) ≡ Gives v

context_read : (functions : Functions) (o : Option Tree) (c : Option Entries) (v : Value) → if_there entries_of o ≡ Some c → value_in functions o ≡ Some v → StatesContext functions o c v
context_read functions None c v e f = absurd (not_none v f)
context_read functions (Some (Apply (MakeRecord ks) ts)) c v e f = record {
  keys = ks;
  trees = ts;
  tree_is = refl;
  entries_are = sym (same_some _ c e);
  means = given_value_is _ v f;
}
context_read functions _ c v e f = absurd (not_none c e)

-- a question that gives each part, with a context that means a value
pub record IsQuestion (functions : Functions) (q : Question) (principal action resource : Uid) (context : Value) : Type 0 where
  pub keys : List Text
  pub entries : Trees
  pub is : q ≡ record { principal = Given principal; action = Given action; resource = Given resource; context = WithEntries keys entries }
  pub data_alone : are_restricted entries ≡ true
  pub means : meaning (no_entities functions) no_question (Apply (MakeRecord keys) entries) ≡ Gives context

pub question_read : (functions : Functions) (body : Tree) (q : Question) → ask_body body ≡ Some q → is_restricted body ≡ true → (principal action resource : Uid) (context : Value)
    → field (codes "principal") body ≡ Some (Lit (Entity principal)) → field (codes "action") body ≡ Some (Lit (Entity action)) → field (codes "resource") body ≡ Some (Lit (Entity resource))
    → value_in functions (field (codes "context") body) ≡ Some context → IsQuestion functions q principal action resource context
question_read functions body q states restricted principal action resource context p a r c =
    let (ks, ts, body_is, reads) = record_read question_keys question_fields body q states in
    let fs = zipped ks ts in
    let (entries, one, two, three, four, context_is) =
    question_parts (part_fields (codes "principal") (codes "principal_type") fs) (action_fields fs) (part_fields (codes "resource") (codes "resource_type") fs) (optional entries_of (codes "context") fs) q reads in
    let at = λ (key : Text) (o : Option Tree) (e : field key body ≡ o). sym (entry_found key ks ts) ∙ sym (ap (field key) body_is) ∙ e in
    let stated = context_read functions (found (codes "context") fs) entries context four
    (ap (value_in functions) (at (codes "context") (field (codes "context") body) refl) ∙ c) in
    let held : field (codes "context") (Apply (MakeRecord ks) ts) ≡ Some (Apply (MakeRecord stated.keys) stated.trees) = entry_found (codes "context") ks ts ∙ stated.tree_is in
    let plain = entry_restricted (codes "context") ks ts (sym (ap is_restricted body_is) ∙ restricted) (Apply (MakeRecord stated.keys) stated.trees) held in
    record {
      keys = stated.keys;
      entries = all_named stated.trees;
      is = λ i. record {
        principal = part_read (found (codes "principal") fs) principal (at (codes "principal") _ p) _ q.principal one i;
        action = part_read (found (codes "action") fs) action (at (codes "action") _ a) _ q.action two i;
        resource = part_read (found (codes "resource") fs) resource (at (codes "resource") _ r) _ q.resource three i;
        context = (context_is ∙ ap (λ x. unwrap_or x NoContext) stated.entries_are) i;
      };
      data_alone = all_named_restricted stated.trees plain;
      means = stated.means;
    }

pub is_known : (functions : Functions) (q : Question) (principal action resource : Uid) (context : Value) → IsQuestion functions q principal action resource context → IsKnown q
is_known functions q principal action resource context asked n =
    subst (λ x. is_unknown x n ≡ false) (sym asked.is) (names_none functions (text_eq n) (Apply (MakeRecord asked.keys) asked.entries) asked.data_alone context asked.means)
