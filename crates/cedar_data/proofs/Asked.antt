-- The body of a question, whose parts are read in any order, is the record that states it.
use Rattle.std.proofs.Common.{◌≡◌, ◌∙◌, ℕ, suc, true, [], List, refl, sym, ap, subst, Option, Some, None}
use Rattle.std.specs.Prelude.{codes, option_map}
use Rattle.std.specs.declared.cmp.Ordering.{Ordering}
use Rattle.std.specs.declared.cmp.Ordering.TheVariants.{Less, Equal, Greater}
use Rattle.std.specs.Ordering.{is_eq}
use Rattle.std.specs.Cmp.Lexicographic.{texts_ties}
use Rattle.cedar_language.specs.Order.{same_text, text_cmp}
use Rattle.cedar_language.specs.OrderLaws.{text_cmp_same}
use Rattle.cedar_language.specs.Uid.{Text, Uid}
use Rattle.cedar_language.specs.Tree.{Tree, Lit, Entity}
use Rattle.cedar_grammar.specs.Build.{Keyed}
use Rattle.cedar_grammar.specs.Grammar.{Within}
use Rattle.cedar_grammar.specs.Names.{Names}
use Rattle.cedar_grammar.specs.Token as token
use Rattle.cedar_grammar.specs.Token.{mark}
use Rattle.cedar_trees.specs.Bare.{record_tree}
use Rattle.cedar_data.specs.Takes.{Takes, Skips, Reads}
use Rattle.cedar_data.specs.Data.{IsData, ReadsKey, ReadsLeaf}
use Rattle.cedar_data.specs.Simple.{Attributes, tree_of, record_value}
use Rattle.cedar_data.specs.Parts.{entries_with, part_entries, ReadsParts}
use Rattle.cedar_data.specs.Questions.{question_tree, IsQuestionText, PutsNew, AddsEntry, ReadsRecord, ReadsQuestion}
use Rattle.cedar_data.specs.declared.given.GivenQuestion.{GivenQuestion}
use Rattle.cedar_data.specs.declared.question.Parts.{Parts}
use Rattle.cedar_data.proofs.Rules.{within, leaf}
use Rattle.cedar_data.proofs.Lists.{entry_read}
use Rattle.cedar_data.proofs.NoSlots.{no_slots}
use Rattle.cedar_data.proofs.ReadAttributes.{record_of_entries}
use Rattle.cedar_data.proofs.Whole.{no_tokens}

equal_of : (o : Ordering) → is_eq o ≡ true → o ≡ Equal
equal_of Less h = cc
equal_of Equal h = refl
equal_of Greater h = cc

-- texts that are the same are one
pub same_key : (found key : Text) → same_text found key ≡ true → found ≡ key
same_key found key h = text_cmp_same found key (equal_of (text_cmp found key) (sym (texts_ties found key) ∙ h))

-- ---- each part has its place among the entries

pub action_put : (c p r : Option Tree) (t : Tree) → PutsNew (codes "action", t) (entries_with None c p r) (entries_with (Some t) c p r)
action_put None None None t = record { unused = refl; is = refl }
action_put None None (Some r) t = record { unused = refl; is = refl }
action_put None (Some p) None t = record { unused = refl; is = refl }
action_put None (Some p) (Some r) t = record { unused = refl; is = refl }
action_put (Some c) None None t = record { unused = refl; is = refl }
action_put (Some c) None (Some r) t = record { unused = refl; is = refl }
action_put (Some c) (Some p) None t = record { unused = refl; is = refl }
action_put (Some c) (Some p) (Some r) t = record { unused = refl; is = refl }

pub context_put : (a p r : Option Tree) (t : Tree) → PutsNew (codes "context", t) (entries_with a None p r) (entries_with a (Some t) p r)
context_put None None None t = record { unused = refl; is = refl }
context_put None None (Some r) t = record { unused = refl; is = refl }
context_put None (Some p) None t = record { unused = refl; is = refl }
context_put None (Some p) (Some r) t = record { unused = refl; is = refl }
context_put (Some a) None None t = record { unused = refl; is = refl }
context_put (Some a) None (Some r) t = record { unused = refl; is = refl }
context_put (Some a) (Some p) None t = record { unused = refl; is = refl }
context_put (Some a) (Some p) (Some r) t = record { unused = refl; is = refl }

pub principal_put : (a c r : Option Tree) (t : Tree) → PutsNew (codes "principal", t) (entries_with a c None r) (entries_with a c (Some t) r)
principal_put None None None t = record { unused = refl; is = refl }
principal_put None None (Some r) t = record { unused = refl; is = refl }
principal_put None (Some c) None t = record { unused = refl; is = refl }
principal_put None (Some c) (Some r) t = record { unused = refl; is = refl }
principal_put (Some a) None None t = record { unused = refl; is = refl }
principal_put (Some a) None (Some r) t = record { unused = refl; is = refl }
principal_put (Some a) (Some c) None t = record { unused = refl; is = refl }
principal_put (Some a) (Some c) (Some r) t = record { unused = refl; is = refl }

pub resource_put : (a c p : Option Tree) (t : Tree) → PutsNew (codes "resource", t) (entries_with a c p None) (entries_with a c p (Some t))
resource_put None None None t = record { unused = refl; is = refl }
resource_put None None (Some p) t = record { unused = refl; is = refl }
resource_put None (Some c) None t = record { unused = refl; is = refl }
resource_put None (Some c) (Some p) t = record { unused = refl; is = refl }
resource_put (Some a) None None t = record { unused = refl; is = refl }
resource_put (Some a) None (Some p) t = record { unused = refl; is = refl }
resource_put (Some a) (Some c) None t = record { unused = refl; is = refl }
resource_put (Some a) (Some c) (Some p) t = record { unused = refl; is = refl }

-- at the place of a part that wasn't there
pub placed : {A : Type 0} (o n : Option A) (x : A) (f : A → Tree) (key : Text) (entries : Option Tree → List (Keyed Tree)) → o ≡ None → n ≡ Some x
    → PutsNew (key, f x) (entries None) (entries (Some (f x))) → PutsNew (key, f x) (entries (option_map f o)) (entries (option_map f n))
placed o n x f key entries none some puts =
    subst (λ y. PutsNew (key, f x) (entries (option_map f o)) (entries (option_map f y))) (sym some)
    (subst (λ y. PutsNew (key, f x) (entries (option_map f y)) (entries (Some (f x)))) (sym none) puts)

-- ---- an entry is read

module _ (k : ℕ) (key found bs mid next rest : Text) (read : ReadsKey bs found mid) (same : same_text found key ≡ true)
    (colon : Takes (mark token.Colon) mid next) where
  reads_key : ReadsKey bs key mid
  reads_key = subst (λ x. ReadsKey bs x mid) (same_key found key same) read

  pub entity_entry : (u : Uid) (old new : List (Keyed Tree)) → ReadsLeaf next (Lit (Entity u)) rest → PutsNew (key, Lit (Entity u)) old new
      → AddsEntry (suc k) bs old new rest
  entity_entry u old new reads puts = record {
    added = (key, Lit (Entity u));
    reads = λ names. entry_read (Within names (suc k)) bs mid next rest key (Lit (Entity u)) reads_key colon
        (within names (suc k) k next rest (Lit (Entity u)) refl (reads k names)).reads;
    is_entry = record { is_data = leaf k (Entity u); simple = refl };
    puts = puts;
  }

  pub record_entry : (es : Attributes) (old new : List (Keyed Tree)) → ReadsRecord k next es rest → PutsNew (key, tree_of (record_value es)) old new
      → AddsEntry (suc k) bs old new rest
  record_entry es old new reads puts =
      let t = tree_of (record_value es) in
      record {
        added = (key, t);
        reads = λ names. entry_read (Within names (suc k)) bs mid next rest key t reads_key colon
            (within names (suc k) k next rest t refl (record { reads = reads.reads names; is_data = reads.is_data })).reads;
        is_entry = record { is_data = reads.is_data; simple = reads.simple };
        puts = puts;
      }

-- ---- the body

abbrev question_entries : GivenQuestion → List (Keyed Tree)
question_entries q =
    entries_with (Some (Lit (Entity q.action.value))) (Some (tree_of (record_value q.context.value.entries)))
    (Some (Lit (Entity q.principal.value))) (Some (Lit (Entity q.resource.value)))

pub question_read : (q : GivenQuestion) (n k : ℕ) (bs one rest : Text) (parts : Parts) → n ≡ suc (suc k) → part_entries parts ≡ question_entries q
    → Takes (mark token.LeftBrace) bs one → ReadsParts (suc k) one parts rest → ReadsQuestion n bs q rest
question_read q n k bs one rest parts is all takes read =
    let body = record_of_entries (suc k) bs one rest (part_entries parts) (question_tree q) (ap record_tree all) takes read in
    record {
      reads = λ names. (within names n (suc k) bs rest (question_tree q) is (record { reads = body.reads names; is_data = body.is_data })).reads;
      is_data = subst (λ m. IsData m (question_tree q)) (sym is) body.is_data;
    }

pub question_text : (names : Names) (n : ℕ) (bs start rest : Text) (q : GivenQuestion) → Skips bs start → ReadsQuestion n start q rest → rest ≡ [] → IsQuestionText names n bs q
question_text names n bs start rest q skipped read end =
    let whole = subst (λ r. Reads (Within names n) start (question_tree q) r) end (read.reads names) in
    let x = whole.tokens [] no_tokens in
    record { reads = (x.0, skipped.tokens x.0 x.1, (x.2, no_slots (question_tree q) read.is_data.restricted)); low = read.is_data.low }
