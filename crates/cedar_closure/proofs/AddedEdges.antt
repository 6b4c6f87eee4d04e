-- Graphs that gain edges from one key: what reached the key reaches what it then reaches, and nothing else changes.
use Rattle.std.proofs.Common.{◌≡◌, ◌↔◌, ◌⊎◌, inl, inr, sym, subst}
use Rattle.cedar_language.specs.Facts.{Reaches, edge, further}
use Rattle.cedar_closure.proofs.Search.{Reaches-more, Reaches-joined}

module _ {K : Type 0} (Old New : K → K → Type 0) (e : K) (others : (a : K) → (a ≡ e) ⊎ ((b : K) → New a b ↔ Old a b))
    (keeps : (b : K) → Old e b → New e b) where
  -- the key has an edge there, or to what leads there by old edges
  abbrev pub IsAbove : K → Type 0
  IsAbove b = New e b ⊎ ((c : K) × New e c × Reaches Old c b)

  still : (a b : K) → Old a b → New a b
  still a b h = elim (others a) [
    | inl is ↦ subst (λ x. New x b) (sym is) (keeps b (subst (λ x. Old x b) is h))
    | inr same ↦ (same b).1 h
  ]

  pub still_reached : {a b : K} → Reaches Old a b → Reaches New a b
  still_reached r = Reaches-more still r

  pub above_reached : (b : K) → IsAbove b → Reaches New e b
  above_reached b (inl h) = edge h
  above_reached b (inr h) = further h.1 (still_reached h.2)

  pub reached_above : (a b : K) → Reaches Old a e → IsAbove b → Reaches New a b
  reached_above a b r h = Reaches-joined (still_reached r) (above_reached b h)

  -- how a key is reached: from the one key, or as before, or through the one key
  abbrev pub IsReached : K → K → Type 0
  IsReached a b = ((a ≡ e) × IsAbove b) ⊎ (Reaches Old a b ⊎ (Reaches Old a e × IsAbove b))

  from_key : (a c b : K) → a ≡ e → New e c → IsReached c b → IsReached a b
  from_key a c b is h (inl r) = inl (is, r.1)
  from_key a c b is h (inr (inl r)) = inl (is, inr (c, h, r))
  from_key a c b is h (inr (inr r)) = inl (is, r.1)

  from_other : (a c b : K) → Old a c → IsReached c b → IsReached a b
  from_other a c b h (inl r) = inr (inr (edge (subst (Old a) r.0 h), r.1))
  from_other a c b h (inr (inl r)) = inr (inl (further h r))
  from_other a c b h (inr (inr r)) = inr (inr (further h r.0, r.1))

  pub reached : {a b : K} → Reaches New a b → IsReached a b
  reached (edge {a = a} {b = b} h) = elim (others a) [
    | inl is ↦ inl (is, inl (subst (λ x. New x b) is h))
    | inr same ↦ inr (inl (edge ((same b).0 h)))
  ]
  reached (further {a = a} {b = c} {c = b} h r) = elim (others a) [
    | inl is ↦ from_key a c b is (subst (λ x. New x c) is h) (reached r)
    | inr same ↦ from_other a c b ((same c).0 h) (reached r)
  ]

  was_above : {b : K} → Reaches Old e b → IsAbove b
  was_above (edge {b = b} h) = inl (keeps b h)
  was_above (further {b = c} h r) = inr (c, keeps c h, r)

  pub reached_from_key : (b : K) → Reaches New e b → IsAbove b
  reached_from_key b r = elim (reached r) [
    | inl h ↦ h.1
    | inr (inl h) ↦ was_above h
    | inr (inr h) ↦ h.1
  ]
