-- Whether two entries are one, by their parts.
use Rattle.std.proofs.Common.{◌≡◌, Bool, true, false, ◌&&◌, refl, sym, ap, ◌∙◌, true≢false, Option, None, Some, is_some}
use Rattle.std.specs.Bool.{Decides}
use Rattle.std.specs.Cmp.Lexicographic.{bytes_decides}
use Rattle.std.proofs.lemmas.Bool.Decides.{same_from_decides}
use Rattle.std.proofs.lemmas.Bool.{and_from, and_parts}
use Rattle.cedar_language.specs.Uid.{Text}
use Rattle.cedar_language.specs.Order.{same_text}
use Rattle.cedar_grammar.specs.Policy.{Policy}
use Rattle.cedar_grammar.specs.Bindings.{Bindings}
use Rattle.cedar_policy_parts.specs.SameScopes.{same_bindings, bindings_decide}
use Rattle.cedar_policy_set.specs.Entries.{Entry, static_policy, template, link, is_link}
use Rattle.cedar_policy_set.specs.Bounds.{entry_by}
use Rattle.cedar_policy_set.specs.EntryNodes.{same_entry, entries_decide}

abbrev syntax_at : Policy → Entry → Policy
syntax_at d (static_policy s) = s
syntax_at d (template s) = s
syntax_at d (link t s b) = s

abbrev name_at : Entry → Text → Text
name_at (static_policy s) d = d
name_at (template s) d = d
name_at (link t s b) d = t

abbrev bindings_at : Bindings → Entry → Bindings
bindings_at d (static_policy s) = d
bindings_at d (template s) = d
bindings_at d (link t s b) = b

abbrev pub kind_of : Entry → Bool × Bool
kind_of (static_policy s) = (true, true)
kind_of (template s) = (false, true)
kind_of (link t s b) = (true, false)

pub same_static : (r : Bool) (s t : Policy) → Decides r (s ≡ t) → r ≡ same_entry (static_policy s) (static_policy t)
same_static r s t d = same_from_decides r _ (λ h. ap static_policy (d.0 h), λ e. d.1 (ap (syntax_at s) e)) (entries_decide (static_policy s) (static_policy t))

pub same_templates : (r : Bool) (s t : Policy) → Decides r (s ≡ t) → r ≡ same_entry (template s) (template t)
same_templates r s t d = same_from_decides r _ (λ h. ap template (d.0 h), λ e. d.1 (ap (syntax_at s) e)) (entries_decide (template s) (template t))

pub same_links : (r : Bool) (t u : Text) (p q : Policy) (b c : Bindings) → Decides r (p ≡ q)
    → (same_text t u && (r && same_bindings b c)) ≡ same_entry (link t p b) (link u q c)
same_links r t u p q b c d =
    same_from_decides _ _ (
      λ h.
          let name : t ≡ u = (bytes_decides t u).0 ((and_parts _ _ h).0) in
          let syntax : p ≡ q = d.0 ((and_parts _ _ ((and_parts (same_text t u) _ h).1)).0) in
          let bindings : b ≡ c = (bindings_decide b c).0 ((and_parts r _ ((and_parts (same_text t u) _ h).1)).1) in
          λ i. link (name i) (syntax i) (bindings i),
      λ e.
          and_from _ _ ((bytes_decides t u).1 (ap (λ x. name_at x t) e)) (and_from _ _ (d.1 (ap (syntax_at p) e)) ((bindings_decide b c).1 (ap (bindings_at b) e))),
    )
    (entries_decide (link t p b) (link u q c))

apart_names : (t u : Text) (p q : Policy) (b c : Bindings) → same_text t u ≡ false → false ≡ same_entry (link t p b) (link u q c)
apart_names t u p q b c n =
    same_from_decides false _
    (λ h. absurd (true≢false (sym h)), λ e. absurd (true≢false (sym ((bytes_decides t u).1 (ap (λ x. name_at x t) e)) ∙ n)))
    (entries_decide (link t p b) (link u q c))

-- entries of two kinds aren't one
pub apart_entries : (a b : Entry) → (kind_of a ≡ kind_of b → ⊥) → false ≡ same_entry a b
apart_entries a b n = same_from_decides false _ (λ h. absurd (true≢false (sym h)), λ e. absurd (n (ap kind_of e))) (entries_decide a b)

-- a policy is an entry of one of two kinds
pub entry_static : (o : Option Text) (t : Text) (s : Policy) (b : Bindings) → is_some o ≡ false → entry_by o t s b ≡ static_policy s
entry_static None t s b h = refl
entry_static (Some id) t s b h = absurd (true≢false h)

pub entry_link : (o : Option Text) (t : Text) (s : Policy) (b : Bindings) → is_some o ≡ true → entry_by o t s b ≡ link t s b
entry_link None t s b h = absurd (true≢false (sym h))
entry_link (Some id) t s b h = refl

-- where the templates and their syntax are the same, the entities decide
pub links_all : (e r k : Bool) (t u : Text) (p q : Policy) (b c : Bindings) → e ≡ same_text t u → Decides r (p ≡ q) → e ≡ true → r ≡ true → k ≡ same_bindings b c → k ≡ same_entry (link t p b) (link u q c)
links_all e r k t u p q b c name syntax named alike bindings =
    bindings ∙ sym (ap (λ x. x && (r && same_bindings b c)) (sym name ∙ named) ∙ ap (λ x. x && same_bindings b c) alike) ∙ same_links r t u p q b c syntax

pub links_syntax : (e r : Bool) (t u : Text) (p q : Policy) (b c : Bindings) → e ≡ same_text t u → Decides r (p ≡ q) → e ≡ true → r ≡ false → r ≡ same_entry (link t p b) (link u q c)
links_syntax e r t u p q b c name syntax named other =
    other ∙ sym (ap (λ x. x && (r && same_bindings b c)) (sym name ∙ named) ∙ ap (λ x. x && same_bindings b c) other) ∙ same_links r t u p q b c syntax

pub links_name : (e : Bool) (t u : Text) (p q : Policy) (b c : Bindings) → e ≡ same_text t u → e ≡ false → e ≡ same_entry (link t p b) (link u q c)
links_name e t u p q b c name other = other ∙ apart_names t u p q b c (sym name ∙ other)

pub link_is : (o : Option Text) (t : Text) (s : Policy) (b : Bindings) → is_link (entry_by o t s b) ≡ true → entry_by o t s b ≡ link t s b
link_is None t s b h = absurd (true≢false (sym h))
link_is (Some id) t s b h = refl

-- a test of two texts is one of what they equal
pub decides_between : {r : Bool} {p q p' q' : Policy} → Decides r (p ≡ q) → p ≡ p' → q ≡ q' → Decides r (p' ≡ q')
decides_between d a b = (λ h. sym a ∙ d.0 h ∙ b, λ e. d.1 (a ∙ e ∙ sym b))
