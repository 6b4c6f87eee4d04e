-- What capabilities hold.
use Rattle.std.proofs.Common.{◌≡◌, ◌∙◌, refl, sym, ap, ℕ, ◌+◌, ◌<◌, ◌≤◌, Bool, true, false, List, [], ◌∷◌, ◌++◌, map, drop, get_or, length}
use Rattle.std.specs.Prelude.{◌↔◌, ◌||◌, IsTrue, cond}
use Rattle.std.proofs.lemmas.List.{at_drop_more, at_drop_all, map-append, append_assoc, append-nil}
use Rattle.cedar_language.specs.Tree.{Tree}
use Rattle.cedar_typing.specs.Capabilities as typing
use Rattle.cedar_typing.specs.Capabilities.{Capabilities, same_capability, is_among, in_both}
use Rattle.cedar_typing.specs.Sameness.{same_tree}
use Rattle.cedar_typing.proofs.Sameness.{trees_are_told_apart}
use Rattle.cedar_typechecker.specs.Capabilities.{capability_view, capabilities_view}
use Rattle.cedar_typechecker.specs.declared.capabilities.Capability.{Capability}

pub same_when : (b c : Bool) {A : Type 0} → (IsTrue b ↔ A) → ((c ≡ true) ↔ A) → b ≡ c
same_when true true p q = refl
same_when false false p q = refl
same_when true false p q = cc (q.1 (p.0 refl))
same_when false true p q = cc (p.1 (q.0 refl))

pub tree_test : (b : Bool) (t u : Tree) → IsTrue b ↔ (t ≡ u) → b ≡ same_tree t u
tree_test b t u h = same_when b (same_tree t u) h (trees_are_told_apart t u)

-- ---- one after another

among_step : (c : typing.Capability) (held : List Capability) (i : ℕ) (d : Capability) → i < length held → d ≡ get_or held i d
    → is_among c (capabilities_view (drop i held)) ≡ (same_capability (capability_view d) c || is_among c (capabilities_view (drop (i + 1) held)))
among_step c held i d lt is =
    at_drop_more (λ (l : List Capability). is_among c (capabilities_view l)) held i d lt
    ∙ ap (λ (e : Capability). is_among c (capabilities_view (e ∷ drop (i + 1) held))) (sym is)

pub among_here : (c : typing.Capability) (held : List Capability) (i : ℕ) (d : Capability) → i < length held → d ≡ get_or held i d → true ≡ same_capability (capability_view d) c → is_among c (capabilities_view (drop i held)) ≡ true
among_here c held i d lt is h = among_step c held i d lt is ∙ ap (λ b. b || is_among c (capabilities_view (drop (i + 1) held))) (sym h)

pub among_later : (c : typing.Capability) (held : List Capability) (i : ℕ) (d : Capability) → i < length held → d ≡ get_or held i d → false ≡ same_capability (capability_view d) c
    → is_among c (capabilities_view (drop i held)) ≡ is_among c (capabilities_view (drop (i + 1) held))
among_later c held i d lt is h = among_step c held i d lt is ∙ ap (λ b. b || is_among c (capabilities_view (drop (i + 1) held))) (sym h)

pub among_none : (c : typing.Capability) (held : List Capability) (i : ℕ) → length held ≤ i → is_among c (capabilities_view (drop i held)) ≡ false
among_none c held i le = at_drop_all (λ (l : List Capability). is_among c (capabilities_view l)) held i le

-- ---- those that are among others too

both_step : (ds : Capabilities) (cs : List Capability) (i : ℕ) (d : Capability) → i < length cs → d ≡ get_or cs i d
    → in_both (capabilities_view (drop i cs)) ds ≡ cond (is_among (capability_view d) ds) (capability_view d ∷ in_both (capabilities_view (drop (i + 1) cs)) ds) (in_both (capabilities_view (drop (i + 1) cs)) ds)
both_step ds cs i d lt is =
    at_drop_more (λ (l : List Capability). in_both (capabilities_view l) ds) cs i d lt
    ∙ ap (λ (e : Capability). in_both (capabilities_view (e ∷ drop (i + 1) cs)) ds) (sym is)

pub both_kept : (ds : Capabilities) (cs bs : List Capability) (i : ℕ) (d e : Capability) → i < length cs → d ≡ get_or cs i d → true ≡ is_among (capability_view d) ds → capability_view e ≡ capability_view d
    → capabilities_view (bs ++ e ∷ []) ++ in_both (capabilities_view (drop (i + 1) cs)) ds ≡ capabilities_view bs ++ in_both (capabilities_view (drop i cs)) ds
both_kept ds cs bs i d e lt is h same =
    ap (λ l. l ++ in_both (capabilities_view (drop (i + 1) cs)) ds) (map-append capability_view bs (e ∷ []))
    ∙ append_assoc (capabilities_view bs) (capability_view e ∷ []) (in_both (capabilities_view (drop (i + 1) cs)) ds)
    ∙ ap (λ c. capabilities_view bs ++ c ∷ in_both (capabilities_view (drop (i + 1) cs)) ds) same
    ∙ ap (λ l. capabilities_view bs ++ l) (sym (both_step ds cs i d lt is
    ∙ ap (λ b. cond b (capability_view d ∷ in_both (capabilities_view (drop (i + 1) cs)) ds) (in_both (capabilities_view (drop (i + 1) cs)) ds)) (sym h)))

pub both_left : (ds : Capabilities) (cs bs : List Capability) (i : ℕ) (d : Capability) → i < length cs → d ≡ get_or cs i d → false ≡ is_among (capability_view d) ds
    → capabilities_view bs ++ in_both (capabilities_view (drop (i + 1) cs)) ds ≡ capabilities_view bs ++ in_both (capabilities_view (drop i cs)) ds
both_left ds cs bs i d lt is h =
    ap (λ l. capabilities_view bs ++ l) (sym (both_step ds cs i d lt is
    ∙ ap (λ b. cond b (capability_view d ∷ in_both (capabilities_view (drop (i + 1) cs)) ds) (in_both (capabilities_view (drop (i + 1) cs)) ds)) (sym h)))

pub both_end : (ds : Capabilities) (cs bs : List Capability) (n : ℕ) → length cs ≤ n → capabilities_view bs ++ in_both (capabilities_view (drop n cs)) ds ≡ capabilities_view bs
both_end ds cs bs n le =
    ap (λ l. capabilities_view bs ++ l) (at_drop_all (λ (l : List Capability). in_both (capabilities_view l) ds) cs n le)
    ∙ append-nil (capabilities_view bs)

-- ---- copies behind others

pub copied_more : (ds cs : List Capability) (i : ℕ) (d e : Capability) → i < length ds → d ≡ get_or ds i d → capability_view e ≡ capability_view d
    → capabilities_view (cs ++ e ∷ []) ++ capabilities_view (drop (i + 1) ds) ≡ capabilities_view cs ++ capabilities_view (drop i ds)
copied_more ds cs i d e lt is same =
    ap (λ l. l ++ capabilities_view (drop (i + 1) ds)) (map-append capability_view cs (e ∷ []))
    ∙ append_assoc (capabilities_view cs) (capability_view e ∷ []) (capabilities_view (drop (i + 1) ds))
    ∙ ap (λ c. capabilities_view cs ++ c ∷ capabilities_view (drop (i + 1) ds)) same
    ∙ ap (λ l. capabilities_view cs ++ l) (sym (at_drop_more (λ (l : List Capability). capabilities_view l) ds i d lt
    ∙ ap (λ (x : Capability). capabilities_view (x ∷ drop (i + 1) ds)) (sym is)))

pub copied_all : (ds cs : List Capability) (n : ℕ) → length ds ≤ n → capabilities_view cs ++ capabilities_view (drop n ds) ≡ capabilities_view cs
copied_all ds cs n le = ap (λ l. capabilities_view cs ++ l) (at_drop_all (λ (l : List Capability). capabilities_view l) ds n le) ∙ append-nil (capabilities_view cs)
