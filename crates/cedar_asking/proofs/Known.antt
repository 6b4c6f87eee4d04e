-- Where nothing is unknown in a question, each variable is given.
use Rattle.std.proofs.Common.{◌≡◌, Bool, true, false, ◌&&◌, ◌||◌, is_eq, refl, sym, ◌∙◌, ap, codes, true≢false}
use Rattle.std.specs.Cmp.{tied_itself}
use Rattle.cedar_language.specs.Uid.{Text}
use Rattle.cedar_language.specs.OrderLaws.{text_cmp_total}
use Rattle.cedar_language.specs.Tree.{Variable, Principal, Action, Resource, Context, MakeSet, MakeRecord, Call, Tree, Lit, Unknown, Apply, Trees, no_trees, a_tree}
use Rattle.cedar_partial_evaluation.specs.Mentions.{mentions_only, all_mention_only, is_given, is_known_context, is_known}
use Rattle.cedar_world.specs.Orders.{text_eq}
use Rattle.cedar_world.specs.Asking.{Part, Given, Missing, Entries, NoContext, WithEntries, Question}
use Rattle.cedar_world.specs.Question.{is_missing, has_name, IsKnown}
use Rattle.cedar_world.specs.Bodies.{is_restricted, are_restricted, some_name, some_name_of}
use Rattle.cedar_world.specs.First.{IsData}
use Rattle.cedar_evaluator.proofs.Lists.{and_left, and_right, and_both}
use Rattle.cedar_lemmas.proofs.Booleans.{or_first as or_false_left, or_second as or_false_right}

text_itself : (id : Text) → text_eq id id ≡ true
text_itself id = ap is_eq (tied_itself text_cmp_total id)

is_there : (p : Part) (n : Text) → (is_missing p && text_eq n n) ≡ false → is_given p ≡ true
is_there (Given u) n h = refl
is_there (Missing ty) n h = absurd (true≢false (sym (text_itself n) ∙ h))

mutual
  named_nothing : (t : Tree) → is_restricted t ≡ true → ((n : Text) → some_name (text_eq n) t ≡ false) → mentions_only (λ v. false) false t ≡ true
  named_nothing (Lit l) r h = refl
  named_nothing (Unknown n ty) r h = absurd (true≢false (sym (text_itself n) ∙ h n))
  named_nothing (Apply MakeSet ts) r h = all_named_nothing ts r h
  named_nothing (Apply (MakeRecord ks) ts) r h = all_named_nothing ts r h
  named_nothing (Apply (Call f) ts) r h = all_named_nothing ts r h
  named_nothing _ r h = cc

  pub all_named_nothing : (ts : Trees) → are_restricted ts ≡ true → ((n : Text) → some_name_of (text_eq n) ts ≡ false) → all_mention_only (λ v. false) false ts ≡ true
  all_named_nothing no_trees r h = refl
  all_named_nothing (a_tree t ts) r h =
      and_both (mentions_only (λ v. false) false t) (all_mention_only (λ v. false) false ts)
      (named_nothing t (and_left (is_restricted t) _ r) (λ n. or_false_left (some_name (text_eq n) t) _ (h n)))
      (all_named_nothing ts (and_right (is_restricted t) _ r) (λ n. or_false_right (some_name (text_eq n) t) _ (h n)))

context_known : (c : Entries) → IsData c → ((n : Text) → has_name c n ≡ false) → is_known_context c ≡ true
context_known NoContext r h = absurd (true≢false (sym (text_itself (codes "context")) ∙ h (codes "context")))
context_known (WithEntries ks ts) r h = all_named_nothing ts r h

pub all_known : (q : Question) → IsData q.context → IsKnown q → (v : Variable) → is_known q v ≡ true
all_known q r h Principal = is_there q.principal (codes "principal") (or_false_left _ _ (h (codes "principal")))
all_known q r h Action = is_there q.action (codes "action") (or_false_left _ _ (or_false_right (is_missing q.principal && text_eq (codes "action") (codes "principal")) _ (h (codes "action"))))
all_known q r h Resource =
    is_there q.resource (codes "resource")
    (or_false_left _ _ (or_false_right (is_missing q.action && text_eq (codes "resource") (codes "action")) _ (or_false_right (is_missing q.principal && text_eq (codes "resource") (codes "principal")) _ (h (codes "resource")))))
all_known q r h Context =
    context_known q.context r
    (λ n. or_false_right (is_missing q.resource && text_eq n (codes "resource")) _ (or_false_right (is_missing q.action && text_eq n (codes "action")) _ (or_false_right (is_missing q.principal && text_eq n (codes "principal")) _ (h n))))
