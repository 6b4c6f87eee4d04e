-- The schemas of rows, the environments in which a policy is typed there, and what is told of it.
use Rattle.std.specs.Prelude.{Bool, true, false, ◌&&◌, ◌||◌, cond, List, [], ◌∷◌, Option, Some, None, codes}
use Rattle.cedar_language.specs.Uid.{Text, Name, Uid}
use Rattle.cedar_language.specs.Tree.{SlotId, PrincipalSlot, ResourceSlot, StringType, ExtensionType, Tree}
use Rattle.cedar_language.specs.Order.{same_text, same_name, same_uid}
use Rattle.cedar_typing.specs.Types.{AlwaysFalse, Unsure, Required, Optional, CedarType, Booleans, Longs, Strings, Entities, Sets, Records, Extensions, Fields, no_fields, a_field}
use Rattle.cedar_typing.specs.Schema.{EntityShape, Signature, Schema, is_action_type, Environment}
use Rattle.cedar_typing.specs.Faults.{TypingFault, UnexpectedType}
use Rattle.cedar_typing.specs.Results.{Typing, HasType, Faulty}
use Rattle.cedar_typing.specs.Typing.{type_of}

-- ---- a schema of photos

-- entity Group;
-- entity Account { active: Bool, limit?: Long };
-- entity User in [Group] {
--   name: String, age?: Long, manager?: User, account: Account, roles: Set<String>, address: { street: String, zip?: String }
-- } tags String;
-- entity Album in [Album];
-- entity Photo in [Album] { owner: User, private: Bool, title?: String, labels: Set<String>, size: Long };
-- entity Color enum ["red", "green"];
-- action readOnly;
-- action view in [readOnly] appliesTo {
--   principal: [User], resource: [Photo, Album], context: { authenticated: Bool, ip?: ipaddr, hour: Long }
-- };
-- action edit appliesTo {
--   principal: [User], resource: [Photo], context: { authenticated: Bool, mfa?: Bool, now: datetime, cost: decimal }
-- };
-- action paint appliesTo { principal: [User], resource: [Color], context: {} };
abbrev pub group : Name
group = codes "Group" ∷ []

abbrev pub account_type : Name
account_type = codes "Account" ∷ []

abbrev pub user : Name
user = codes "User" ∷ []

abbrev pub album : Name
album = codes "Album" ∷ []

abbrev pub photo : Name
photo = codes "Photo" ∷ []

abbrev pub color : Name
color = codes "Color" ∷ []

abbrev pub action_type : Name
action_type = codes "Action" ∷ []

abbrev pub uid : Name → Text → Uid
uid n id = record { type_name = n; id = id }

abbrev pub view : Uid
view = uid action_type (codes "view")

abbrev pub edit : Uid
edit = uid action_type (codes "edit")

abbrev pub paint : Uid
paint = uid action_type (codes "paint")

abbrev pub read_only : Uid
read_only = uid action_type (codes "readOnly")

abbrev pub booleans : CedarType
booleans = Booleans Unsure

abbrev pub extension : Text → CedarType
extension s = Extensions (s ∷ []) (same_text s (codes "datetime") || same_text s (codes "duration"))

abbrev address_fields : Fields
address_fields = a_field (codes "street") Required Strings (a_field (codes "zip") Optional Strings no_fields)

abbrev user_fields : Fields
user_fields =
    a_field (codes "account") Required (Entities account_type)
    (a_field (codes "address") Required (Records address_fields)
    (a_field (codes "age") Optional Longs
    (a_field (codes "manager") Optional (Entities user)
    (a_field (codes "name") Required Strings (a_field (codes "roles") Required (Sets Strings) no_fields)))))

abbrev photo_fields : Fields
photo_fields =
    a_field (codes "labels") Required (Sets Strings)
    (a_field (codes "owner") Required (Entities user)
    (a_field (codes "private") Required booleans
    (a_field (codes "size") Required Longs (a_field (codes "title") Optional Strings no_fields))))

abbrev pub account_fields : Fields
account_fields = a_field (codes "active") Required booleans (a_field (codes "limit") Optional Longs no_fields)

abbrev pub shape : Fields → Option EntityShape
shape fs = Some (record { attributes = fs; tags = None })

abbrev photo_shapes : Name → Option EntityShape
photo_shapes n =
    cond (same_name n user) (Some (record { attributes = user_fields; tags = Some Strings }))
    (cond (same_name n photo) (shape photo_fields)
    (cond (same_name n account_type) (shape account_fields)
    (cond (same_name n group || same_name n album || same_name n color || same_name n action_type) (shape no_fields) None)))

abbrev is_view_or_edit : Uid → Bool
is_view_or_edit u = same_uid u view || same_uid u edit

abbrev is_photo_action : Uid → Bool
is_photo_action u = is_view_or_edit u || same_uid u paint || same_uid u read_only

abbrev is_color : Text → Bool
is_color s = same_text s (codes "red") || same_text s (codes "green")

abbrev may_name_photo : Uid → Bool
may_name_photo u = cond (same_name u.type_name action_type) (is_photo_action u) (cond (same_name u.type_name color) (is_color u.id) true)

abbrev may_reach_photo : Name → Name → Bool
may_reach_photo n m =
    same_name n user && same_name m group
    || (same_name n photo || same_name n album) && same_name m album
    || same_name n action_type && same_name m action_type

abbrev photo_applies : Uid → Name → Name → Bool
photo_applies a n m =
    same_name n user
    && (same_name m photo && is_view_or_edit a || same_name m album && same_uid a view || same_name m color && same_uid a paint)

abbrev view_context : Fields
view_context =
    a_field (codes "authenticated") Required booleans
    (a_field (codes "hour") Required Longs (a_field (codes "ip") Optional (extension (codes "ipaddr")) no_fields))

abbrev edit_context : Fields
edit_context =
    a_field (codes "authenticated") Required booleans
    (a_field (codes "cost") Required (extension (codes "decimal"))
    (a_field (codes "mfa") Optional booleans (a_field (codes "now") Required (extension (codes "datetime")) no_fields)))

abbrev photo_contexts : Uid → Fields
photo_contexts a = cond (same_uid a view) view_context (cond (same_uid a edit) edit_context no_fields)

-- ---- extension functions

abbrev pub ip : Name
ip = codes "ip" ∷ []

abbrev pub is_loopback : Name
is_loopback = codes "isLoopback" ∷ []

abbrev pub decimal : Name
decimal = codes "decimal" ∷ []

abbrev pub duration : Name
duration = codes "duration" ∷ []

abbrev pub offset : Name
offset = codes "offset" ∷ []

-- a constructor, here of one text
abbrev pub constructor_of : Text → Text → Signature
constructor_of type s = record { arguments = StringType ∷ []; result = extension type; constructs = Some (λ t. same_text t s) }

abbrev loopback_signature : Signature
loopback_signature = record { arguments = ExtensionType (codes "ipaddr" ∷ []) ∷ []; result = booleans; constructs = None }

abbrev offset_signature : Signature
offset_signature = record {
  arguments = ExtensionType (codes "datetime" ∷ []) ∷ ExtensionType (codes "duration" ∷ []) ∷ [];
  result = extension (codes "datetime");
  constructs = None;
}

abbrev pub signatures : Name → Option Signature
signatures n =
    cond (same_name n ip) (Some (constructor_of (codes "ipaddr") (codes "1.1.1.1")))
    (cond (same_name n decimal) (Some (constructor_of (codes "decimal") (codes "1.23")))
    (cond (same_name n duration) (Some (constructor_of (codes "duration") (codes "1h")))
    (cond (same_name n is_loopback) (Some loopback_signature) (cond (same_name n offset) (Some offset_signature) None))))

abbrev pub photos : Schema
photos = record {
  entity = photo_shapes;
  may_name = may_name_photo;
  may_reach = may_reach_photo;
  is_action = is_photo_action;
  action_reaches = λ u w. same_uid u view && same_uid w read_only;
  applies = photo_applies;
  context = photo_contexts;
  signature = signatures;
}

-- ---- environments

abbrev pub at : Schema → Name → Uid → Name → Environment
at s n a m = record { schema = s; principal = n; action = a; resource = m; slot = λ s. None }

abbrev pub view_photo : Environment
view_photo = at photos user view photo

abbrev pub photo_environments : List Environment
photo_environments = view_photo ∷ at photos user view album ∷ at photos user edit photo ∷ at photos user paint color ∷ []

abbrev bound : Name → SlotId → Option Name
bound m PrincipalSlot = Some user
bound m ResourceSlot = Some m

abbrev linked : Name → Name → Environment
linked m slot = record { schema = photos; principal = user; action = view; resource = m; slot = bound slot }

-- of a template that binds both slots
abbrev pub linked_environments : List Environment
linked_environments = linked photo photo ∷ linked photo album ∷ linked album album ∷ []

-- ---- schemas of tags and of namespaces

-- entity U tags Set<String>; entity V; entity W tags Long;
-- action a appliesTo { principal: [U], resource: [V] }; action b appliesTo { principal: [U], resource: [W] };
abbrev pub tagged : Text → Name
tagged s = s ∷ []

abbrev pub tag_shapes : Name → Option EntityShape
tag_shapes n =
    cond (same_name n (tagged (codes "U"))) (Some (record { attributes = no_fields; tags = Some (Sets Strings) }))
    (cond (same_name n (tagged (codes "W"))) (Some (record { attributes = no_fields; tags = Some Longs }))
    (cond (same_name n (tagged (codes "V")) || same_name n action_type) (shape no_fields) None))

abbrev pub is_tag_action : Uid → Bool
is_tag_action u = same_name u.type_name action_type && (same_text u.id (codes "a") || same_text u.id (codes "b"))

abbrev pub tag_applies : Uid → Name → Name → Bool
tag_applies a n m =
    is_tag_action a && same_name n (tagged (codes "U")) && same_name m (tagged (cond (same_text a.id (codes "a")) (codes "V") (codes "W")))

abbrev pub tags_schema : Schema
tags_schema = record {
  entity = tag_shapes;
  may_name = λ u. cond (same_name u.type_name action_type) (is_tag_action u) true;
  may_reach = λ n m. false;
  is_action = is_tag_action;
  action_reaches = λ u w. false;
  applies = tag_applies;
  context = λ a. no_fields;
  signature = λ n. None;
}

-- the environment of the action `a`
abbrev pub act : Environment
act = at tags_schema (tagged (codes "U")) (uid action_type (codes "a")) (tagged (codes "V"))

abbrev pub tag_environments : List Environment
tag_environments =
    act
    ∷ at tags_schema (tagged (codes "U")) (uid action_type (codes "b")) (tagged (codes "W")) ∷ []

-- namespace App {
--   type Id = String; entity User { id: Id, mail?: __cedar::String }; entity Doc { owner: User };
--   action read appliesTo { principal: User, resource: Doc };
-- }
-- namespace Other { entity User; action read appliesTo { principal: [App::User, User], resource: App::Doc }; }
abbrev pub app_user : Name
app_user = codes "App" ∷ codes "User" ∷ []

abbrev pub app_doc : Name
app_doc = codes "App" ∷ codes "Doc" ∷ []

abbrev pub app_action : Name
app_action = codes "App" ∷ codes "Action" ∷ []

abbrev pub other_user : Name
other_user = codes "Other" ∷ codes "User" ∷ []

abbrev pub other_action : Name
other_action = codes "Other" ∷ codes "Action" ∷ []

abbrev doc_shapes : Name → Option EntityShape
doc_shapes n =
    cond (same_name n app_user) (shape (a_field (codes "id") Required Strings (a_field (codes "mail") Optional Strings no_fields)))
    (cond (same_name n app_doc) (shape (a_field (codes "owner") Required (Entities app_user) no_fields))
    (cond (same_name n other_user || same_name n app_action || same_name n other_action) (shape no_fields) None))

abbrev is_doc_action : Uid → Bool
is_doc_action u = (same_name u.type_name app_action || same_name u.type_name other_action) && same_text u.id (codes "read")

abbrev doc_applies : Uid → Name → Name → Bool
doc_applies a n m =
    is_doc_action a && same_name m app_doc && (same_name n app_user || same_name n other_user && same_name a.type_name other_action)

abbrev docs : Schema
docs = record {
  entity = doc_shapes;
  may_name = λ u. cond (is_action_type u.type_name) (is_doc_action u) true;
  may_reach = λ n m. false;
  is_action = is_doc_action;
  action_reaches = λ u w. false;
  applies = doc_applies;
  context = λ a. no_fields;
  signature = λ n. None;
}

abbrev pub doc_environments : List Environment
doc_environments =
    at docs app_user (uid app_action (codes "read")) app_doc
    ∷ at docs app_user (uid other_action (codes "read")) app_doc
    ∷ at docs other_user (uid other_action (codes "read")) app_doc ∷ []

-- ---- verdicts

-- what is told of a policy: it is valid, it is valid and never satisfied, or it has a fault
pub data Verdict : Type 0 where
  Valid : Verdict
  Impossible : Verdict
  Errs : TypingFault → Verdict

abbrev verdict_of : Typing → Verdict
verdict_of (HasType (Booleans AlwaysFalse) c) = Impossible
verdict_of (HasType (Booleans t) c) = Valid
verdict_of (HasType t c) = Errs UnexpectedType
verdict_of (Faulty k) = Errs k

abbrev joined : Verdict → Verdict → Verdict
joined (Errs k) w = Errs k
joined v (Errs k) = Errs k
joined Impossible w = w
joined Valid w = Valid

abbrev pub verdict_in : List Environment → Tree → Verdict
verdict_in [] x = Impossible
verdict_in (e ∷ es) x = joined (verdict_of (type_of e x [])) (verdict_in es x)

abbrev pub verdict : Tree → Verdict
verdict x = verdict_in photo_environments x
