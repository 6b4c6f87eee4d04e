-- The rules of tags, by the operands' types.
use Rattle.std.proofs.Common.{◌≡◌, ◌∙◌, refl, sym, ap, Bool, true, false, List, [], ◌∷◌, Option, Some, None}
use Rattle.std.specs.Prelude.{cond}
use Rattle.cedar_language.specs.Uid.{Name}
use Rattle.cedar_language.specs.Tree.{Tree, no_trees, a_tree}
use Rattle.cedar_typing.specs.Types.{CedarType, Booleans, Longs, Strings, Entities, Sets, Records, Extensions}
use Rattle.cedar_typing.specs.Capabilities.{a_tag, Capabilities, is_among}
use Rattle.cedar_typing.specs.Schema.{EntityShape, Environment}
use Rattle.cedar_typing.specs.Faults.{UnexpectedType, UnrecognizedEntityType, NoTagsAllowed}
use Rattle.cedar_typing.specs.Attributes.{tags_of, tag_type, get_tag_type, has_tag_by, where_shaped, has_tag_type}
use Rattle.cedar_typing.specs.Results.{Typing, Faulty}
use Rattle.cedar_typechecker.specs.Tags.{tagged_in}
use Rattle.cedar_typechecker.specs.Types.{is_string}

abbrev with_entity : Option Name → (Name → Typing) → Typing
with_entity (Some n) f = f n
with_entity None f = Faulty UnexpectedType

-- no tags are read of what is no entity
never : (u : CedarType) → cond {A = Option Name} (is_string u) None None ≡ None
never (Booleans b) = refl
never Longs = refl
never Strings = refl
never (Entities m) = refl
never (Sets e) = refl
never (Records fs) = refl
never (Extensions m o) = refl

module _ (e : Environment) (x k : Tree) (c : Capabilities) where
  abbrev got : Name → Typing
  got n = tag_type (is_among (a_tag x k) c) (tags_of (e.schema.entity n))

  abbrev had : Name → Typing
  had n = where_shaped (e.schema.entity n) (λ s. has_tag_by (is_among (a_tag x k) c) x k s.tags)

  get_entity : (n : Name) (u : CedarType) → get_tag_type e (a_tree x (a_tree k no_trees)) (Entities n ∷ u ∷ []) c ≡ with_entity (tagged_in (Entities n) u) got
  get_entity n (Booleans b) = refl
  get_entity n Longs = refl
  get_entity n Strings = refl
  get_entity n (Entities m) = refl
  get_entity n (Sets e) = refl
  get_entity n (Records fs) = refl
  get_entity n (Extensions m o) = refl

  get_by_part : (t u : CedarType) → get_tag_type e (a_tree x (a_tree k no_trees)) (t ∷ u ∷ []) c ≡ with_entity (tagged_in t u) got
  get_by_part (Booleans b) u = sym (ap (λ o. with_entity o got) (never u))
  get_by_part Longs u = sym (ap (λ o. with_entity o got) (never u))
  get_by_part Strings u = sym (ap (λ o. with_entity o got) (never u))
  get_by_part (Entities n) u = get_entity n u
  get_by_part (Sets e) u = sym (ap (λ o. with_entity o got) (never u))
  get_by_part (Records fs) u = sym (ap (λ o. with_entity o got) (never u))
  get_by_part (Extensions m o) u = sym (ap (λ o. with_entity o got) (never u))

  pub get_of : (t u : CedarType) (n : Name) → Some n ≡ tagged_in t u → get_tag_type e (a_tree x (a_tree k no_trees)) (t ∷ u ∷ []) c ≡ got n
  get_of t u n h = get_by_part t u ∙ ap (λ o. with_entity o got) (sym h)

  pub get_of_none : (t u : CedarType) → None ≡ tagged_in t u → get_tag_type e (a_tree x (a_tree k no_trees)) (t ∷ u ∷ []) c ≡ Faulty UnexpectedType
  get_of_none t u h = get_by_part t u ∙ ap (λ o. with_entity o got) (sym h)

  has_entity : (n : Name) (u : CedarType) → has_tag_type e (a_tree x (a_tree k no_trees)) (Entities n ∷ u ∷ []) c ≡ with_entity (tagged_in (Entities n) u) had
  has_entity n (Booleans b) = refl
  has_entity n Longs = refl
  has_entity n Strings = refl
  has_entity n (Entities m) = refl
  has_entity n (Sets e) = refl
  has_entity n (Records fs) = refl
  has_entity n (Extensions m o) = refl

  has_by_part : (t u : CedarType) → has_tag_type e (a_tree x (a_tree k no_trees)) (t ∷ u ∷ []) c ≡ with_entity (tagged_in t u) had
  has_by_part (Booleans b) u = sym (ap (λ o. with_entity o had) (never u))
  has_by_part Longs u = sym (ap (λ o. with_entity o had) (never u))
  has_by_part Strings u = sym (ap (λ o. with_entity o had) (never u))
  has_by_part (Entities n) u = has_entity n u
  has_by_part (Sets e) u = sym (ap (λ o. with_entity o had) (never u))
  has_by_part (Records fs) u = sym (ap (λ o. with_entity o had) (never u))
  has_by_part (Extensions m o) u = sym (ap (λ o. with_entity o had) (never u))

  pub has_of : (t u : CedarType) (n : Name) → Some n ≡ tagged_in t u → has_tag_type e (a_tree x (a_tree k no_trees)) (t ∷ u ∷ []) c ≡ had n
  has_of t u n h = has_by_part t u ∙ ap (λ o. with_entity o had) (sym h)

  pub has_of_none : (t u : CedarType) → None ≡ tagged_in t u → has_tag_type e (a_tree x (a_tree k no_trees)) (t ∷ u ∷ []) c ≡ Faulty UnexpectedType
  has_of_none t u h = has_by_part t u ∙ ap (λ o. with_entity o had) (sym h)

pub no_tags : (guarded : Bool) → tag_type guarded (tags_of None) ≡ Faulty NoTagsAllowed
no_tags guarded = refl

pub undeclared : (f : EntityShape → Typing) → where_shaped None f ≡ Faulty UnrecognizedEntityType
undeclared f = refl
