-- Facts and a request that conform to a schema of rows: the premises of the laws can be met, also where entities are held.
use Rattle.std.proofs.Common.{◌≡◌, Bool, true, false, cond, Option, Some, None, [], ◌∷◌, refl, subst, inl, inr, not, ◌&&◌, ◌||◌, sym, ap, ◌∙◌}
use Rattle.std.specs.Prelude.{codes, is_some}
use Rattle.cedar_language.proofs.Booleans.{or_cases, and_left, and_right}
use Rattle.cedar_language.specs.Uid.{Text, Uid, Name}
use Rattle.cedar_language.specs.Tree.{String, Variable, Principal, Action, Resource, Context, SlotId, Contains, GetTag, HasTag, Tree, And}
use Rattle.cedar_language.specs.Value.{Value, Plain, SetOf, RecordOf, Values, no_values, a_value, Kind}
use Rattle.cedar_language.specs.Order.{same, same_text, same_uid, same_name}
use Rattle.cedar_language.specs.OrderLaws.{same_is}
use Rattle.cedar_language.specs.Sets.{SetsAreFinite}
use Rattle.cedar_language.specs.Facts.{Held, Facts}
use Rattle.cedar_language.specs.Meaning.{Request, request_of, meaning}
use Rattle.cedar_language.specs.Operators.{has_member}
use Rattle.cedar_language.specs.Answering.{Permit, Erring}
use Rattle.cedar_language.specs.Authorization.{Policy, Known, judged}
use Rattle.cedar_typing.specs.Types.{Unsure, Booleans, Strings, Sets, no_fields, AlwaysFalse}
use Rattle.cedar_typing.specs.Capabilities.{a_tag, Capabilities}
use Rattle.cedar_typing.specs.Schema.{EntityShape, Environment, SlotTypes, IsEnvironment}
use Rattle.cedar_typing.specs.Leaves.{variable_type}
use Rattle.cedar_typing.specs.Conforming.{IsOf, IsShaped, Conforms, IsRequestOf}
use Rattle.cedar_typing.specs.Existing.{NamesHeld, TreeNamesHeld, FactsNameHeld, RequestNamesHeld, IsOfArithmeticOrCalls}
use Rattle.cedar_typing.proofs.Existing.{valid_policies_stand_over_held}
use Rattle.cedar_typing.specs.Validated.{IsBooleanOrAllowed, TypesAllow, IsValidIn, IsValid}
use Rattle.cedar_typing.proofs.Sameness.{never, uid_is, text_is, name_is}
use Rattle.cedar_typing.proofs.Validated.{types_are_sound, boolean_or, valid_policies_stand}
use Rattle.cedar_typing.proofs.RowSchemas.{action_type, uid, tagged, tag_shapes, tags_schema, act, is_tag_action, tag_applies, at}
use Rattle.cedar_typing.proofs.RowTrees.{two, text, the_principal, acting}

-- U::"u" is held, and has the tag "x"; V::"v" and the action are held, and have nothing
abbrev someone : Uid
someone = uid (tagged (codes "U")) (codes "u")

abbrev something : Uid
something = uid (tagged (codes "V")) (codes "v")

abbrev action : Uid
action = uid action_type (codes "a")

abbrev members : Values
members = a_value (Plain (String (codes "y"))) no_values

abbrev tag_of_someone : Text → Option Value
tag_of_someone k = cond (same_text k (codes "x")) (Some (SetOf members)) None

abbrev held : Held
held = record { attribute = λ a. None; tag = tag_of_someone }

abbrev nothing : Held
nothing = record { attribute = λ a. None; tag = λ k. None }

abbrev entity_by : Bool → Bool → Option Held
entity_by b c = cond b (Some held) (cond c (Some nothing) None)

abbrev facts : Facts
facts = record {
  entity = λ u. entity_by (same_uid u someone) (same_uid u something || same_uid u action);
  reaches = λ u w. false;
  function = λ n. None;
}

abbrev request : Request
request = request_of someone action something (RecordOf [] no_values) (λ s. None)

-- ---- they conform

none_some : {A B : Type 0} (x : A) → None ≡ Some x → B
none_some x e = cc

member_is : (w : Value) → has_member members w ≡ true → IsOf Strings w
member_is w m = elim (or_cases (same (Plain (String (codes "y"))) w) false m) [
  | inl e ↦ subst (IsOf Strings) (same_is (Plain (String (codes "y"))) w e) (codes "y", refl)
  | inr k ↦ never k
]

tag_if : (b : Bool) (v : Value) → cond b (Some (SetOf members)) None ≡ Some v → IsOf (Sets Strings) v
tag_if true v e = let is : SetOf members ≡ v = cc in subst (IsOf (Sets Strings)) is (members, refl, member_is)
tag_if false v e = none_some v e

abbrev tagged_shape : EntityShape
tagged_shape = record { attributes = no_fields; tags = Some (Sets Strings) }

is_shaped : IsShaped tagged_shape held
is_shaped = record {
  attributes = tt;
  closed = λ a e. refl;
  tags = λ k v e. tag_if (same_text k (codes "x")) v e;
}

abbrev bare_shape : EntityShape
bare_shape = record { attributes = no_fields; tags = None }

is_bare : IsShaped bare_shape nothing
is_bare = record { attributes = tt; closed = λ a e. refl; tags = λ k. refl }

shaped_as : (s r : EntityShape) (g h : Held) → Some s ≡ Some r → Some g ≡ Some h → IsShaped s g → IsShaped r h
shaped_as s r g h i j is =
    let shape : s ≡ r = cc in
    let entity : g ≡ h = cc in
    subst (λ x. IsShaped r x) entity (subst (λ x. IsShaped x g) shape is)

shape_at : (u w : Uid) (s : EntityShape) → same_uid u w ≡ true → tag_shapes u.type_name ≡ Some s → tag_shapes w.type_name ≡ Some s
shape_at u w s e j = subst (λ (x : Uid). tag_shapes x.type_name ≡ Some s) (uid_is u w e) j

entity_if : (b c : Bool) (u : Uid) (h : Held) (s : EntityShape) → same_uid u someone ≡ b → (same_uid u something || same_uid u action) ≡ c →
    entity_by b c ≡ Some h → tag_shapes u.type_name ≡ Some s → IsShaped s h
entity_if true c u h s e f i j = shaped_as tagged_shape s held h (shape_at u someone s e j) i is_shaped
entity_if false true u h s e f i j = elim (or_cases (same_uid u something) (same_uid u action) f) [
  | inl g ↦ shaped_as bare_shape s nothing h (shape_at u something s g j) i is_bare
  | inr g ↦ shaped_as bare_shape s nothing h (shape_at u action s g j) i is_bare
]
entity_if false false u h s e f i j = none_some h i

conforms : Conforms tags_schema facts
conforms = record {
  entities = λ u h s i j. entity_if (same_uid u someone) (same_uid u something || same_uid u action) u h s refl refl i j;
  hierarchy = λ u w r. never r;
  actions = λ u w i. refl;
  functions = λ n g i. none_some g i;
}

variable_is : (v : Variable) → IsOf (variable_type act v) (request.variable v)
variable_is Principal = (someone, refl, refl)
variable_is Action = (action, refl, refl)
variable_is Resource = (something, refl, refl)
variable_is Context = ([], no_values, refl, tt, λ a e. refl)

asked : IsRequestOf act request
asked = record {
  variables = variable_is;
  action = refl;
  slots = λ s n e. none_some n e;
}

-- `principal.hasTag("x") && principal.getTag("x").contains("y")`
abbrev tag_is_read : Tree
tag_is_read = And (two HasTag the_principal (text (codes "x"))) (two Contains (two GetTag the_principal (text (codes "x"))) (text (codes "y")))

abbrev given : Capabilities
given = a_tag the_principal (text (codes "x")) ∷ []

guarded_is_safe : SetsAreFinite → IsBooleanOrAllowed (meaning facts request tag_is_read)
guarded_is_safe finite =
    boolean_or facts request Unsure given (meaning facts request tag_is_read)
    (types_are_sound finite act facts request conforms asked tag_is_read [] given (Booleans Unsure) tt refl)

-- ---- a policy that is valid in each environment of the schema

-- without slots
abbrev static : SlotTypes
static s o = not (is_some o)

abbrev act_on_w : Environment
act_on_w = at tags_schema (tagged (codes "U")) (uid action_type (codes "b")) (tagged (codes "W"))

unbound : (o : Option Name) → not (is_some o) ≡ true → o ≡ None
unbound (Some n) h = never h
unbound None h = refl

environment_is : (e f : Environment) → e.schema ≡ f.schema → e.principal ≡ f.principal → e.action ≡ f.action → e.resource ≡ f.resource →
    ((s : SlotId) → e.slot s ≡ f.slot s) → e ≡ f
environment_is e f schema principal action resource slots =
    λ i. record { schema = schema i; principal = principal i; action = action i; resource = resource i; slot = λ s. slots s i }

-- what applies to what there
record Applies (e : Environment) : Type 0 where
  principal : e.principal ≡ tagged (codes "U")
  type_name : e.action.type_name ≡ action_type
  id : (same_text e.action.id (codes "a") || same_text e.action.id (codes "b")) ≡ true
  resource : e.resource ≡ tagged (cond (same_text e.action.id (codes "a")) (codes "V") (codes "W"))

parts : (e : Environment) → tag_applies e.action e.principal e.resource ≡ true → Applies e
parts e h =
    let takes = same_name e.principal (tagged (codes "U")) in
    let type_name = tagged (cond (same_text e.action.id (codes "a")) (codes "V") (codes "W")) in
    let gives = same_name e.resource type_name in
    let ids = same_text e.action.id (codes "a") || same_text e.action.id (codes "b") in
    let first = and_left (is_tag_action e.action && takes) gives h in
    let listed = and_left (is_tag_action e.action) takes first in
    record {
      principal = name_is e.principal (tagged (codes "U")) (and_right (is_tag_action e.action) takes first);
      type_name = name_is e.action.type_name action_type (and_left (same_name e.action.type_name action_type) ids listed);
      id = and_right (same_name e.action.type_name action_type) ids listed;
      resource = name_is e.resource type_name (and_right (is_tag_action e.action && takes) gives h);
    }

action_is : (e : Environment) → Applies e → (id : Text) → e.action.id ≡ id → e.action ≡ uid action_type id
action_is e p id h = λ i. record { type_name = p.type_name i; id = h i }

module _ (e : Environment) (is : IsEnvironment tags_schema static e) where
  applied : Applies e
  applied = parts e is.applies

  no_slots : (s : SlotId) → e.slot s ≡ None
  no_slots s = unbound (e.slot s) (is.slots s)

  resource_by : (b : Bool) → same_text e.action.id (codes "a") ≡ b → e.resource ≡ tagged (cond b (codes "V") (codes "W"))
  resource_by b h = applied.resource ∙ ap (λ c. tagged (cond c (codes "V") (codes "W"))) h

  is_act : same_text e.action.id (codes "a") ≡ true → e ≡ act
  is_act h =
      environment_is e act is.of applied.principal (action_is e applied (codes "a") (text_is e.action.id (codes "a") h)) (resource_by true h) no_slots

  is_act_on_w : same_text e.action.id (codes "b") ≡ true → e ≡ act_on_w
  is_act_on_w h =
      let id : e.action.id ≡ codes "b" = text_is e.action.id (codes "b") h in
      environment_is e act_on_w is.of applied.principal (action_is e applied (codes "b") id)
      (resource_by false (ap (λ k. same_text k (codes "a")) id)) no_slots

  -- the environments of the rows are all
  valid_in : (x : Tree) → IsValidIn act x → IsValidIn act_on_w x → IsValidIn e x
  valid_in x h k = elim (or_cases (same_text e.action.id (codes "a")) (same_text e.action.id (codes "b")) applied.id) [
    | inl a ↦ subst (λ f. IsValidIn f x) (sym (is_act a)) h
    | inr b ↦ subst (λ f. IsValidIn f x) (sym (is_act_on_w b)) k
  ]

abbrev policy : Policy
policy = record { id = codes "policy0"; effect = Permit; condition = acting tag_is_read; slots = λ s. None }

valid : IsValid tags_schema static policy.condition
valid e is = valid_in e is policy.condition (Unsure, given, refl) (AlwaysFalse, [], refl)

abbrev question : Known
question = record {
  principal = someone;
  action = action;
  resource = something;
  context = RecordOf [] no_values;
}

policy_stands : SetsAreFinite → (k : Kind) → (judged facts question policy).standing ≡ Erring k → TypesAllow k
policy_stands finite =
    valid_policies_stand finite tags_schema facts conforms static policy valid act
    (record { of = refl; is_action = refl; applies = refl; slots = λ s. refl }) question asked

-- ---- all that is named is held

no_attribute : (b c : Bool) (h : Held) → entity_by b c ≡ Some h → (a : Text) → h.attribute a ≡ None
no_attribute true c h e a = let is : held ≡ h = cc in subst (λ (g : Held). g.attribute a ≡ None) is refl
no_attribute false true h e a = let is : nothing ≡ h = cc in subst (λ (g : Held). g.attribute a ≡ None) is refl
no_attribute false false h e a = none_some h e

tag_names_if : (b : Bool) (v : Value) → cond b (Some (SetOf members)) None ≡ Some v → NamesHeld facts v
tag_names_if true v e = let is : SetOf members ≡ v = cc in subst (NamesHeld facts) is (tt, tt)
tag_names_if false v e = none_some v e

tag_names : (b c : Bool) (h : Held) → entity_by b c ≡ Some h → (k : Text) (v : Value) → h.tag k ≡ Some v → NamesHeld facts v
tag_names true c h e k v i =
    let is : held ≡ h = cc in
    tag_names_if (same_text k (codes "x")) v (subst (λ (g : Held). g.tag k ≡ Some v) (sym is) i)
tag_names false true h e k v i =
    let is : nothing ≡ h = cc in
    none_some v (subst (λ (g : Held). g.tag k ≡ Some v) (sym is) i)
tag_names false false h e k v i = none_some h e

closed : FactsNameHeld facts
closed = record {
  attributes = λ u h a v i e. none_some v (sym (no_attribute (same_uid u someone) (same_uid u something || same_uid u action) h i a) ∙ e);
  tags = λ u h k v i e. tag_names (same_uid u someone) (same_uid u something || same_uid u action) h i k v e;
  functions = λ n f vs v i h e. none_some f i;
}

variable_names : (v : Variable) → NamesHeld facts (request.variable v)
variable_names Principal = (held, refl)
variable_names Action = (nothing, refl)
variable_names Resource = (nothing, refl)
variable_names Context = tt

asked_of_held : RequestNamesHeld facts request
asked_of_held = record { variables = variable_names; unknowns = λ n ty. tt; slots = λ s u e. none_some u e }

condition_names : TreeNamesHeld facts policy.condition
condition_names = (((tt, (tt, ((nothing, refl), tt))), tt), ((tt, (tt, tt)), ((((tt, (tt, tt))), (tt, tt)))))

policy_stands_over_held : SetsAreFinite → (k : Kind) → (judged facts question policy).standing ≡ Erring k → IsOfArithmeticOrCalls k
policy_stands_over_held finite =
    valid_policies_stand_over_held finite tags_schema facts conforms closed static policy valid condition_names act
    (record { of = refl; is_action = refl; applies = refl; slots = λ s. refl }) question asked asked_of_held
