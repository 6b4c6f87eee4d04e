-- The entity of one body, from its attributes and tags.
use Rattle.std.proofs.Common.{◌≡◌, ◌∙◌, ℕ, refl, ap, sym, Bool, true, false, ◌||◌, cond, Option, Some, None, option_map, List, [], ◌∷◌, Global, BTreeMap, Ok, Err}
use Rattle.std.specs.FinMap as finite
use Rattle.std.specs.Ordering.{eq_by_cmp}
use Rattle.std.specs.declared.rc.RcStr.{RcStr}
use Rattle.either.specs.declared.Either.TheVariants.{Left}
use Rattle.cedar_language.specs.Uid.{Text}
use Rattle.cedar_language.specs.Value.{Value}
use Rattle.cedar_language.specs.Order.{text_cmp}
use Rattle.cedar_language.specs.OrderLaws.{text_cmp_total, text_cmp_same}
use Rattle.cedar_grammar.specs.UnknownCalls.{holds_call}
use Rattle.cedar_world.specs.Bodies.{Fields, EntityBody}
use Rattle.cedar_world.specs.EntityEdits.{Version}
use Rattle.cedar_world.specs.Orders.{TextMap}
use Rattle.cedar_world.specs.Setting.{Setting}
use Rattle.cedar_world.specs.Values.{some_field, version_with}
use Rattle.cedar_extensions.specs.Table.{Table}
use Rattle.cedar_restricted.specs.declared.partial_values.PartialValue.{PartialValue}
use Rattle.cedar_replies.specs.declared.refusal.Refusal.{Refusal}
use Rattle.cedar_replies.specs.declared.refusal.Refusal.TheVariants as refusal
use Rattle.cedar_entities.specs.Attributes.{attributes_of, seen_entries}
use Rattle.cedar_entities.specs.Data.{EntityData}
use Rattle.cedar_held.specs.Shown.{as_attributes, as_entity}
use Rattle.cedar_held.specs.Built.{AreBuiltEntries, IsBuiltVersion}
use Rattle.cedar_held.specs.Entities.{named_body}
use Rattle.cedar_held.specs.Fields.{deeper, Serves, as_entries, err, hold_unknowns, AreEvaluated}
use Rattle.cedar_held.specs.Making.{set_listed, some_in, IsMade}
use Rattle.cedar_held.proofs.Built.{got_built}
use Rattle.cedar_held.proofs.Carrying.{or_left, or_right, or_true, or_false}
use Rattle.std.proofs.lemmas.Bool.{or_left as or_first}

-- ---- values as attributes

found_left : (q : Text) (es : List (Text × Value)) → finite.find text_cmp q (as_entries es) ≡ option_map Left (finite.find text_cmp q es)
found_left q [] = refl
found_left q (e ∷ es) = elim (eq_by_cmp text_cmp q e.0) as (λ b. cond b (Some (Left e.1)) (finite.find text_cmp q (as_entries es)) ≡ option_map Left (cond b (Some e.1) (finite.find text_cmp q es))) [ true ↦ refl | false ↦ found_left q es ]

attribute_at : (m : TextMap Value) (q : Text) → finite.get (as_attributes m) q ≡ option_map Left (finite.get m q)
attribute_at m q = finite.get-from_entries text_cmp_total (as_entries (finite.entries m)) q ∙ found_left q (finite.entries m) ∙ ap (option_map Left) (sym (finite.get-entries m q))

-- values in turn are the attributes of the map that they make
as_map : (es : List (Text × Value)) → finite.from_entries {R = text_cmp} (as_entries es) ≡ as_attributes (finite.from_entries es)
as_map es = finite.same_map text_cmp_total text_cmp_same _ _ (λ q.
    finite.get-from_entries text_cmp_total (as_entries es) q ∙ found_left q es ∙ ap (option_map Left) (sym (finite.get-from_entries text_cmp_total es q))
    ∙ sym (attribute_at (finite.from_entries es) q))

-- ---- a body

abbrev Values : Type 0
Values = BTreeMap (RcStr Global) PartialValue

module _ (table : Table) (depth : ℕ) (b : EntityBody) where
  for_attributes : (by : Setting) → Serves table by (some_in holds_call b) → Serves table by (some_field holds_call b.attributes)
  for_attributes by serves = record { functions = serves.functions; held = λ unset. or_left _ _ (serves.held unset) }

  for_tags : (by : Setting) → Serves table by (some_in holds_call b) → Serves table by (some_field holds_call b.tags)
  for_tags by serves = record { functions = serves.functions; held = λ unset. or_right _ _ (serves.held unset) }

  none_errs : (fs : Fields) (found : Option Values) → AreEvaluated table depth fs (Ok found) → (by : Setting) → Serves table by (some_field holds_call fs) → err by fs ≡ false
  none_errs fs (Some m) h by serves = (h.are_values by serves).fine
  none_errs fs None h by serves = (h by serves).fine

  pub attribute_refused : (r : Refusal) → AreEvaluated table depth b.attributes (Err r) → IsMade table depth b (Err r)
  attribute_refused refusal.Evaluation h = λ by serves. or_first (err by b.attributes) (err by b.tags) (h by (for_attributes by serves))
  attribute_refused refusal.Depth h = or_first (some_field (deeper depth) b.attributes) (some_field (deeper depth) b.tags) h
  attribute_refused refusal.Memory h = tt
  attribute_refused r h = absurd h

  pub tag_refused : (r : Refusal) → AreEvaluated table depth b.tags (Err r) → IsMade table depth b (Err r)
  tag_refused refusal.Evaluation h = λ by serves. or_true (err by b.attributes) (err by b.tags) (h by (for_tags by serves))
  tag_refused refusal.Depth h = or_true (some_field (deeper depth) b.attributes) (some_field (deeper depth) b.tags) h
  tag_refused refusal.Memory h = tt
  tag_refused r h = absurd h

  pub attribute_open : (tags : Option Values) → AreEvaluated table depth b.attributes (Ok None) → AreEvaluated table depth b.tags (Ok tags) → IsMade table depth b (Ok None)
  attribute_open tags h k by serves = record {
    fine = or_false (err by b.attributes) (err by b.tags) (h by (for_attributes by serves)).fine (none_errs b.tags tags k by (for_tags by serves));
    unknown = or_first (hold_unknowns by b.attributes) (hold_unknowns by b.tags) (h by (for_attributes by serves)).unknown;
  }

  pub tag_open : (attributes : Option Values) → AreEvaluated table depth b.attributes (Ok attributes) → AreEvaluated table depth b.tags (Ok None) → IsMade table depth b (Ok None)
  tag_open attributes h k by serves = record {
    fine = or_false (err by b.attributes) (err by b.tags) (none_errs b.attributes attributes h by (for_attributes by serves)) (k by (for_tags by serves)).fine;
    unknown = or_true (hold_unknowns by b.attributes) (hold_unknowns by b.tags) (k by (for_tags by serves)).unknown;
  }

  module _ (attributes tags : Values) (e : EntityData)
      (is : e ≡ record { uid = b.uid; attributes = attributes_of attributes.entries; tags = attributes_of tags.entries; parents = b.parents; indirect = set_listed [] }) where
    shown_as : (m : Values) (given : List (Text × Value)) → seen_entries m.entries ≡ as_entries given → attributes_of m.entries ≡ as_attributes (finite.from_entries given)
    shown_as m given seen = ap (λ es. finite.from_entries es) seen ∙ as_map given

    -- the version of these values
    abbrev version_of : List (Text × Value) → List (Text × Value) → Version
    version_of own tagged = record { uid = b.uid; held = record { attributes = finite.from_entries own; tags = finite.from_entries tagged; parents = b.parents } }

    shown : (own tagged : List (Text × Value)) → seen_entries attributes.entries ≡ as_entries own → seen_entries tags.entries ≡ as_entries tagged → e ≡ as_entity (version_of own tagged)
    shown own tagged seen_own seen_tagged =
        let shown_attributes = shown_as attributes own seen_own in
        let shown_tags = shown_as tags tagged seen_tagged in
        is ∙ (λ i. record { uid = b.uid; attributes = shown_attributes i; tags = shown_tags i; parents = b.parents; indirect = set_listed [] })

    version_built : (own tagged : List (Text × Value)) → AreBuiltEntries own → AreBuiltEntries tagged → IsBuiltVersion (version_of own tagged)
    version_built own tagged h k = record { attribute = got_built own h; tag = got_built tagged k }

    pub made : AreEvaluated table depth b.attributes (Ok (Some attributes)) → AreEvaluated table depth b.tags (Ok (Some tags)) → IsMade table depth b (Ok (Some e))
    made h k = record {
      shows_version = (version_of h.hold_values.0 k.hold_values.0, shown h.hold_values.0 k.hold_values.0 h.hold_values.1 k.hold_values.1, version_built h.hold_values.0 k.hold_values.0 h.hold_values.2 k.hold_values.2);
      is_version = λ by serves.
          let a = h.are_values by (for_attributes by serves) in
          let t = k.are_values by (for_tags by serves) in
          record {
            given = version_of a.given t.given;
            is = λ i. version_with by (named_body b) (a.are i) (t.are i);
            shown = shown a.given t.given a.seen t.seen;
            fine = or_false (err by b.attributes) (err by b.tags) a.fine t.fine;
            known = or_false (hold_unknowns by b.attributes) (hold_unknowns by b.tags) a.known t.known;
          };
    }
