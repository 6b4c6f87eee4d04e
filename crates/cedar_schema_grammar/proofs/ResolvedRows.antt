-- Rows of the schemas that texts are, each by computing, beside those that the rows of types are typed by.
use Rattle.std.proofs.Common.{◌≡◌, ℕ, true, false, List, [], ◌∷◌, Option, Some, None, refl}
use Rattle.std.specs.Prelude.{codes, map}
use Rattle.cedar_language.specs.Uid.{Text, Name, Uid}
use Rattle.cedar_grammar.specs.Steps.{◌>>=◌}
use Rattle.cedar_typing.specs.Types.{Required, Optional, Longs, Strings, Entities, Sets, Records, Fields, no_fields, a_field}
use Rattle.cedar_typing.specs.Schema.{EntityShape, Schema}
use Rattle.cedar_typing.proofs.RowSchemas.{group, account_type, user, album, photo, color, action_type, uid, view, edit, paint, read_only, photos, app_user, app_doc, app_action, other_user, other_action}
use Rattle.cedar_schema_grammar.specs.Declared.{declared}
use Rattle.cedar_schema_grammar.specs.Environments.{Application, application, applications_of}
use Rattle.cedar_schema_grammar.specs.Resolving.{Resolved, Resolves, Faulty, resolved}
use Rattle.cedar_schema_grammar.proofs.SchemaRows.{syntax, library}

abbrev if_resolved : {A : Type 0} → Resolved → (Schema → A) → Option A
if_resolved (Resolves s) f = Some (f s)
if_resolved (Faulty fs) f = None

-- what is asked of the schema that a text is
unfoldable asked : {A : Type 0} → List ℕ → (Schema → A) → Option A
unfolding syntax
asked cs f = syntax cs >>= λ s. if_resolved (resolved library s) f

abbrev all_of : {A B : Type 0} → List A → (Schema → A → B) → Schema → List B
all_of xs f s = map (f s) xs

-- ---- the schema of photos

abbrev pub photo_text : List ℕ
photo_text =
    codes
    "entity Group; entity Account { active: Bool, limit?: Long }; entity User in [Group] { name: String, age?: Long, manager?: User, account: Account, roles: Set<String>, address: { street: String, zip?: String } } tags String; entity Album in [Album]; entity Photo in [Album] { owner: User, private: Bool, title?: String, labels: Set<String>, size: Long }; entity Color enum [\"red\", \"green\"]; action readOnly; action view in [readOnly] appliesTo { principal: [User], resource: [Photo, Album], context: { authenticated: Bool, ip?: ipaddr, hour: Long } }; action edit appliesTo { principal: [User], resource: [Photo], context: { authenticated: Bool, mfa?: Bool, now: datetime, cost: decimal } }; action paint appliesTo { principal: [User], resource: [Color], context: {} };"

abbrev names : List Name
names = group ∷ account_type ∷ user ∷ album ∷ photo ∷ color ∷ action_type ∷ app_user ∷ []

shapes_of_photos : asked photo_text (all_of names (λ s n. s.entity n)) ≡ Some (map photos.entity names)
unfolding asked
shapes_of_photos = refl

abbrev uids : List Uid
uids = view ∷ edit ∷ paint ∷ read_only ∷ uid action_type (codes "veiw") ∷ uid color (codes "red") ∷ uid color (codes "blue") ∷ uid user (codes "a") ∷ uid app_user (codes "a") ∷ []

uids_of_photos : asked photo_text (all_of uids (λ s u. s.may_name u)) ≡ Some (true ∷ true ∷ true ∷ true ∷ false ∷ true ∷ false ∷ true ∷ false ∷ [])
unfolding asked
uids_of_photos = refl

actions_of_photos : asked photo_text (all_of uids (λ s u. s.is_action u)) ≡ Some (map photos.is_action uids)
unfolding asked
actions_of_photos = refl

groups_of_photos : asked photo_text (all_of uids (λ s u. s.action_reaches u read_only)) ≡ Some (map (λ u. photos.action_reaches u read_only) uids)
unfolding asked
groups_of_photos = refl

parents_of_photos : asked photo_text (all_of names (λ s n. s.may_reach n album)) ≡ Some (map (λ n. photos.may_reach n album) names)
unfolding asked
parents_of_photos = refl

parents_of_users : asked photo_text (all_of names (λ s n. s.may_reach user n)) ≡ Some (map (λ n. photos.may_reach user n) names)
unfolding asked
parents_of_users = refl

parents_of_actions : asked photo_text (λ s. s.may_reach action_type action_type) ≡ Some true
unfolding asked
parents_of_actions = refl

albums_take_view : asked photo_text (all_of uids (λ s u. s.applies u user album)) ≡ Some (map (λ u. photos.applies u user album) uids)
unfolding asked
albums_take_view = refl

photos_take_two : asked photo_text (all_of uids (λ s u. s.applies u user photo)) ≡ Some (map (λ u. photos.applies u user photo) uids)
unfolding asked
photos_take_two = refl

groups_do_nothing : asked photo_text (all_of uids (λ s u. s.applies u group photo)) ≡ Some (map (λ u. false) uids)
unfolding asked
groups_do_nothing = refl

contexts_of_photos : asked photo_text (all_of uids (λ s u. s.context u)) ≡ Some (map photos.context uids)
unfolding asked
contexts_of_photos = refl

-- the environments by which the rows of types are typed
unfoldable applications : List ℕ → Option (List Application)
unfolding syntax
applications cs = syntax cs >>= λ s. Some (applications_of (declared s) (declared s).actions)

environments_of_photos :
    applications photo_text
    ≡ Some (application view user photo ∷ application view user album ∷ application edit user photo ∷ application paint user color ∷ [])
unfolding applications
environments_of_photos = refl

-- ---- the schema of documents, in two namespaces

abbrev pub doc_text : List ℕ
doc_text =
    codes
    "namespace App { type Id = String; entity User { id: Id, mail?: __cedar::String }; entity Doc { owner: User }; action read appliesTo { principal: User, resource: Doc }; } namespace Other { entity User; action read appliesTo { principal: [App::User, User], resource: App::Doc }; }"

abbrev doc_names : List Name
doc_names = app_user ∷ app_doc ∷ other_user ∷ app_action ∷ other_action ∷ user ∷ action_type ∷ []

abbrev shape : Fields → Option EntityShape
shape fs = Some (record { attributes = fs; tags = None })

shapes_of_docs :
    asked doc_text (all_of doc_names (λ s n. s.entity n))
    ≡ Some
    (shape (a_field (codes "id") Required Strings (a_field (codes "mail") Optional Strings no_fields))
    ∷ shape (a_field (codes "owner") Required (Entities app_user) no_fields)
    ∷ shape no_fields ∷ shape no_fields ∷ shape no_fields ∷ None ∷ None ∷ [])
unfolding asked
shapes_of_docs = refl

abbrev doc_actions : List Uid
doc_actions = uid app_action (codes "read") ∷ uid other_action (codes "read") ∷ uid action_type (codes "read") ∷ []

users_read : asked doc_text (all_of doc_actions (λ s u. s.applies u app_user app_doc)) ≡ Some (true ∷ true ∷ false ∷ [])
unfolding asked
users_read = refl

other_users_read : asked doc_text (all_of doc_actions (λ s u. s.applies u other_user app_doc)) ≡ Some (false ∷ true ∷ false ∷ [])
unfolding asked
other_users_read = refl

environments_of_docs :
    applications doc_text
    ≡ Some
    (application (uid app_action (codes "read")) app_user app_doc
    ∷ application (uid other_action (codes "read")) app_user app_doc
    ∷ application (uid other_action (codes "read")) other_user app_doc ∷ [])
unfolding applications
environments_of_docs = refl

-- ---- smaller ones

abbrev alone : Text → Name
alone s = s ∷ []

-- a common type goes before an entity type of its name where a type is due
a_common_type_first : asked (codes "type T = Long; entity T; entity U { t: T }; action a appliesTo { principal: U, resource: T };") (λ s. s.entity (alone (codes "U"))) ≡ Some (Some (record { attributes = a_field (codes "t") Required Longs no_fields; tags = None }))
unfolding asked
a_common_type_first = refl

-- an entity type shadows the built-in one
no_number : asked (codes "entity Long; entity U { n: Long };") (λ s. s.entity (alone (codes "U"))) ≡ Some (Some (record { attributes = a_field (codes "n") Required (Entities (alone (codes "Long"))) no_fields; tags = None }))
unfolding asked
no_number = refl

-- common types are unfolded, also where they are written before what they stand for
unfolded_twice : asked (codes "type A = { b?: B }; type B = Set<C>; type C = Long; entity U { z: A, a: C } tags A;") (λ s. s.entity (alone (codes "U"))) ≡ Some (Some (record { attributes = a_field (codes "a") Required Longs (a_field (codes "z") Required (Records (a_field (codes "b") Optional (Sets Longs) no_fields)) no_fields); tags = Some (Records (a_field (codes "b") Optional (Sets Longs) no_fields)) }))
unfolding asked
unfolded_twice = refl

-- groups and parents lead on
within_two : asked (codes "action a; action b in a; action c in b; entity A; entity B in A; entity C in B;") (λ s. s.action_reaches (uid action_type (codes "c")) (uid action_type (codes "a")) ∷ s.may_reach (alone (codes "C")) (alone (codes "A")) ∷ s.may_reach (alone (codes "A")) (alone (codes "C")) ∷ []) ≡ Some (true ∷ true ∷ false ∷ [])
unfolding asked
within_two = refl

-- a context by its name
a_named_context : asked (codes "type C = { n: Long }; entity A; action a appliesTo { context: C, resource: A, principal: A };") (λ s. s.context (uid action_type (codes "a"))) ≡ Some (a_field (codes "n") Required Longs no_fields)
unfolding asked
a_named_context = refl

-- a text with a fault is no schema
no_schema : asked (codes "entity A in B;") (λ s. s.is_action view) ≡ None
unfolding asked
no_schema = refl
