-- What a session holds, by the commands that it was sent and what it replied.
-- (Cedar language reference, "Policies", "Policy templates" and "Entities".)
use Rattle.std.specs.Prelude.{◌≡◌, ◌⊎◌, ℕ, Bool, false, not, ◌&&◌, Option, Some, None, is_some, IsTrue, List, [], ◌∷◌, codes, if◌then◌else◌}
use Rattle.std.specs.Option.{option_map}
use Rattle.cedar_language.specs.Uid.{Text, Name, Uid}
use Rattle.cedar_language.specs.Tree.{String, MakeSet, Tree, Lit, Apply, Trees, no_trees, a_tree}
use Rattle.cedar_language.specs.Facts.{Facts, Held, DecidesReaches}
use Rattle.cedar_grammar.specs.Bindings.{Bindings, linked}
use Rattle.cedar_grammar.specs.Functions.{Functions, policy_names, body_names, evaluated_function}
use Rattle.cedar_grammar.specs.Policies.{Reads, ReadsExpr}
use Rattle.cedar_grammar.specs.Syntax.{PolicySyntax, is_template}
use Rattle.cedar_world.specs.Orders.{text_eq, uid_eq}
use Rattle.cedar_world.specs.Commands.{Verb, Load, Link, Unlink, RemoveStatic, RemoveTemplate, Add, Put, Remove, Reply, Done, Named}
use Rattle.cedar_theorem.specs.Bodies.{field, items, entity_in, lists, value_under}

-- ---- policies

-- a policy or template as its text writes it, or a link of the template under an id, with the entities of its slots
pub data Bound : Type 0 where
  Written : PolicySyntax → Bound
  Linked : Text → Bindings → Bound

-- what stands under each id
abbrev pub Policies : Type 0
Policies = Text → Option Bound

abbrev pub template_of : Option Bound → Option PolicySyntax
template_of (Some (Written s)) = if is_template s then Some s else None
template_of _ = None

abbrev pub policy_of : Policies → Option Bound → Option PolicySyntax
policy_of policies (Some (Written s)) = if is_template s then None else Some s
policy_of policies (Some (Linked template bindings)) = option_map (linked bindings) (template_of (policies template))
policy_of policies None = None

-- the policy in force under an id: a static policy as written, and a link as its template with the entities in place of the slots
abbrev pub in_force : Policies → Text → Option PolicySyntax
in_force policies id = policy_of policies (policies id)

abbrev pub with_bound : Policies → Text → Option Bound → Policies
with_bound policies id b other = if text_eq other id then b else policies other

-- the policies of a text, under these ids
abbrev pub loaded : Policies → List PolicySyntax → List Text → Policies
loaded policies (s ∷ ss) (id ∷ ids) = loaded (with_bound policies id (Some (Written s))) ss ids
loaded policies (s ∷ ss) [] = policies
loaded policies [] ids = policies

-- each policy of a text has an id of the reply, which was free or bound to this very policy
abbrev pub Fit : Policies → List PolicySyntax → List Text → Type 0
Fit policies [] [] = Unit {0}
Fit policies (s ∷ ss) (id ∷ ids) = ((policies id ≡ None) ⊎ (policies id ≡ Some (Written s))) × Fit policies ss ids
Fit policies _ _ = ⊥

-- ---- entities

pub record Entities : Type 0 where
  -- the attributes and tags of an entity that is held
  pub held : Uid → Option Held
  -- whether the second is a direct parent of the first
  pub has_parent : Uid → Uid → Bool

abbrev pub nobody : Entities
nobody = record { held = λ uid. None; has_parent = λ a b. false }

module _ (functions : Functions) where
  -- the attributes and tags that a body lists
  abbrev pub listed : Tree → Held
  listed t = record {
    attribute = value_under functions (field (codes "attrs") t);
    tag = value_under functions (field (codes "tags") t);
  }

  -- an entity is as it is listed, and all others stay
  abbrev pub put_one : Entities → Tree → Option Uid → Entities
  put_one old t (Some uid) = record {
    held = λ a. if uid_eq a uid then Some (listed t) else old.held a;
    has_parent = λ a b. if uid_eq a uid then lists (items (field (codes "parents") t)) b else old.has_parent a b;
  }
  put_one old t None = old

  abbrev pub put_all : Entities → Trees → Entities
  put_all old no_trees = old
  put_all old (a_tree t ts) = put_all (put_one old t (entity_in (field (codes "uid") t))) ts

  -- one that is held stays as it is
  abbrev pub add_one : Entities → Tree → Option Uid → Entities
  add_one old t (Some uid) = if is_some (old.held uid) then old else put_one old t (Some uid)
  add_one old t None = old

  abbrev pub add_all : Entities → Trees → Entities
  add_all old no_trees = old
  add_all old (a_tree t ts) = add_all (add_one old t (entity_in (field (codes "uid") t))) ts

-- the entities that are listed go, with all edges from them and to them
abbrev pub without : Entities → Trees → Entities
without old ts = record {
  held = λ a. if lists ts a then None else old.held a;
  has_parent = λ a b. not (lists ts a) && (old.has_parent a b && not (lists ts b));
}

-- ---- commands

module _ (functions : Functions) where
  -- the text has these policies, by the grammar of policies
  abbrev pub ArePolicies : Text → List PolicySyntax → Type 0
  ArePolicies text ss = (nesting : ℕ) × Reads (policy_names functions) nesting text ss

  -- the text is this expression, by the grammar of expressions
  abbrev pub IsBody : Text → Tree → Type 0
  IsBody text tree = (nesting : ℕ) × ReadsExpr (body_names functions) nesting text tree

  pub record Loads (text : Text) (ids : List Text) (old new : Policies) : Type 0 where
    pub policies : List PolicySyntax
    pub reads : ArePolicies text policies
    pub fit : Fit old policies ids
    pub new_is : new ≡ loaded old policies ids

  pub record Links (text : Text) (old new : Policies) : Type 0 where
    pub body : Tree
    pub template : Text
    pub id : Text
    pub bindings : Bindings
    pub reads : IsBody text body
    pub template_is : field (codes "template") body ≡ Some (Lit (String template))
    pub id_is : field (codes "id") body ≡ Some (Lit (String id))
    pub principal_is : bindings.principal ≡ entity_in (field (codes "principal") body)
    pub resource_is : bindings.resource ≡ entity_in (field (codes "resource") body)
    pub new_is : new ≡ with_bound old id (Some (Linked template bindings))

  pub record TakesAway (text : Text) (old new : Policies) : Type 0 where
    pub id : Text
    pub reads : IsBody text (Lit (String id))
    pub new_is : new ≡ with_bound old id None

  -- what a command does to the policies held, by what it replies; one that is refused, and any other, does nothing
  abbrev pub EditsPolicies : Policies → Verb → Text → Reply → Policies → Type 0
  EditsPolicies old Load text (Named ids) new = Loads text ids old new
  EditsPolicies old Link text Done new = Links text old new
  EditsPolicies old Unlink text Done new = TakesAway text old new
  EditsPolicies old RemoveStatic text Done new = TakesAway text old new
  EditsPolicies old RemoveTemplate text Done new = TakesAway text old new
  EditsPolicies old verb text reply new = new ≡ old

  -- the body is a list, and then this is so of its items
  abbrev pub Listing : Text → (Trees → Type 0) → Type 0
  Listing text Says = (ts : Trees) × IsBody text (Apply MakeSet ts) × Says ts

  -- what a command does to the entities held; one that is refused, and any other, does nothing
  abbrev pub EditsEntities : Entities → Verb → Text → Reply → Entities → Type 0
  EditsEntities old Add text Done new = Listing text (λ ts. new ≡ add_all functions old ts)
  EditsEntities old Put text Done new = Listing text (λ ts. new ≡ put_all functions old ts)
  EditsEntities old Remove text Done new = Listing text (λ ts. new ≡ without old ts)
  EditsEntities old verb text reply new = new ≡ old

-- a verb and a text
abbrev pub Command : Type 0
Command = Verb × Text

-- something is edited by one command after the other
abbrev pub Edited : {X : Type 0} → (X → Verb → Text → Reply → X → Type 0) → X → List Command → List Reply → X → Type 0
Edited Edits old [] [] new = new ≡ old
Edited {X} Edits old ((verb, text) ∷ commands) (reply ∷ replies) new = (mid : X) × Edits old verb text reply mid × Edited Edits mid commands replies new
Edited Edits old _ _ new = ⊥

-- ---- what is held after a list of commands

pub record Holds (functions : Functions) (commands : List Command) (replies : List Reply) (policies : Policies) (entities : Entities) : Type 0 where
  pub policies_are : Edited (EditsPolicies functions) (λ id. None) commands replies policies
  pub entities_are : Edited (EditsEntities functions) nobody commands replies entities

-- What an evaluation reads: the entities held, their ancestors by one or more edges to parents, and the functions.
pub record AreFacts (functions : Functions) (entities : Entities) (facts : Facts) : Type 0 where
  pub entity : (uid : Uid) → facts.entity uid ≡ entities.held uid
  pub ancestors : DecidesReaches (λ a b. IsTrue (entities.has_parent a b)) facts
  pub function : (name : Name) → facts.function name ≡ evaluated_function functions name
