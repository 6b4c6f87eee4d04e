-- The facts of a world, over the store that shows its entities and the table that has its functions.
use Rattle.std.proofs.Common.{◌≡◌, ◌∙◌, refl, ap, sym, subst, false, Option, Some, None, option_map}
use Rattle.std.specs.FinMap as finite
use Rattle.cedar_language.specs.Constructing.{the_constructor}
use Rattle.cedar_language.specs.Facts as language
use Rattle.cedar_language.specs.Facts.{Facts}
use Rattle.cedar_partial_evaluation.specs.MadeAgain.{HoldsMade}
use Rattle.cedar_world.specs.Setting.{Setting, functions_alone}
use Rattle.cedar_world.specs.World.{World, EntityData, seen}
use Rattle.cedar_world.specs.WorldFacts.{AreFactsOf}
use Rattle.cedar_held.specs.Shown.{as_held, Shows}
use Rattle.cedar_entities.specs.Store.{held_at, is_partial_store, IsClosed}
use Rattle.cedar_entities.specs.declared.store.Entities.{Entities}
use Rattle.cedar_held.specs.ShownApart.{attribute_at}
use Rattle.cedar_held.proofs.Shown.{to_world, to_store}
use Rattle.cedar_extensions.specs.Table.{Table}
use Rattle.cedar_operators.specs.Store.{IsShown, HasFacts}
use Rattle.cedar_held.specs.Built.{HoldBuilt, GivesBuilt}
use Rattle.cedar_restricted_evaluation.specs.Evaluations.{HasFunctions}
use Rattle.cedar_restricted_evaluation.proofs.Made.{built_is_made}

-- ---- the store

shown : (o : Option EntityData) → IsShown (option_map as_held o) (seen o)
shown None = tt
shown (Some h) = (attribute_at h.attributes, attribute_at h.tags)

pub store_has_facts : (by : Setting) (world : World) (facts : Facts) (s : Entities) → AreFactsOf by world facts → Shows (held_at s) world.entities → IsClosed s → is_partial_store s ≡ false → HasFacts s facts
store_has_facts by world facts s are shows closed whole = record {
  whole = whole;
  closed = closed;
  entities = λ uid.
      subst (λ found. IsShown found (facts.entity uid)) (sym (shows uid))
      (subst (IsShown (option_map as_held (finite.get world.entities uid))) (sym (are.entity uid)) (shown (finite.get world.entities uid)));
  reaches = λ a b. (
    λ h. to_store (held_at s) world.entities shows a b ((are.ancestors a b).0 h),
    λ r. (are.ancestors a b).1 (to_world (held_at s) world.entities shows a b r),
  );
}

-- ---- the table

pub table_is_served : (by : Setting) (world : World) (facts : Facts) (table : Table) → AreFactsOf by world facts → HasFunctions table (functions_alone by.functions) → HasFunctions table facts
table_is_served by world facts table are has n = are.function n ∙ has n

-- ---- what is held is made again

pub of_seen : (o : Option EntityData) (h : language.Held) → seen o ≡ Some h → (d : EntityData) × (o ≡ Some d) × (h ≡ record { attribute = finite.get d.attributes; tag = finite.get d.tags })
of_seen None h e = cc
of_seen (Some d) h e = (d, refl, cc)

pub facts_are_made : (by : Setting) (world : World) (facts : Facts) (table : Table) → GivesBuilt table → HasFunctions table facts → HoldBuilt world.entities → AreFactsOf by world facts → HoldsMade facts
facts_are_made by world facts table gives has built are =
    let made = built_is_made facts (are.function the_constructor) in
    record {
      attribute = λ u h a v e f.
          let (d, is, same) = of_seen (finite.get world.entities u) h (sym (are.entity u) ∙ e) in
          made v (built.attribute u d a v is (sym (ap (λ (x : language.Held). x.attribute a) same) ∙ f));
      tag = λ u h a v e f.
          let (d, is, same) = of_seen (finite.get world.entities u) h (sym (are.entity u) ∙ e) in
          made v (built.tag u d a v is (sym (ap (λ (x : language.Held). x.tag a) same) ∙ f));
      answer = λ n f vs v e all h. made v (gives n f vs v (sym (has n) ∙ e) h);
    }
