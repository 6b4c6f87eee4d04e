-- What the trees of attributes and tags are evaluated to. These are trees as they are written: the world names their unknowns first.
use Rattle.std.specs.Prelude.{◌≡◌, ◌<◌, ⊤, ℕ, Bool, true, false, not, nat_lt, Option, Some, None, Result, Ok, Err, List, map}
use Rattle.std.specs.declared.alloc.Global.{Global}
use Rattle.std.specs.declared.rc.RcStr.{RcStr}
use Rattle.std.specs.BTreeMap.{BTreeMap}
use Rattle.either.specs.declared.Either.TheVariants.{Left}
use Rattle.cedar_language.specs.Uid.{Text}
use Rattle.cedar_language.specs.Height.{height}
use Rattle.cedar_language.specs.Restricted.{is_restricted}
use Rattle.cedar_language.specs.Tree.{Tree}
use Rattle.cedar_language.specs.Value.{Value}
use Rattle.cedar_grammar.specs.UnknownCalls.{named, holds_call}
use Rattle.cedar_world.specs.Bodies.{Fields}
use Rattle.cedar_world.specs.Setting.{Setting}
use Rattle.cedar_world.specs.Values.{some_field, holds_unknown, errs_alone, values}
use Rattle.cedar_extensions.specs.Table.{Table}
use Rattle.cedar_restricted.specs.PartialValues.{partial_of}
use Rattle.cedar_restricted.specs.declared.partial_values.PartialValue.{PartialValue}
use Rattle.cedar_restricted_evaluation.specs.Evaluations.{part_answer}
use Rattle.cedar_replies.specs.declared.refusal.Refusal.{Refusal}
use Rattle.cedar_replies.specs.declared.refusal.Refusal.TheVariants.{Depth, Evaluation, Memory}
use Rattle.cedar_entities.specs.Attributes.{Attribute, seen_entries}
use Rattle.cedar_held.specs.Built.{AreBuiltEntries}
use Rattle.cedar_held.specs.Entities.{named_all}
pub use Rattle.cedar_held.specs.Reading.{Serves, IsRead}

-- ---- tests of trees

abbrev pub unrestricted : Tree → Bool
unrestricted t = not (is_restricted t)

abbrev pub deeper : ℕ → Tree → Bool
deeper depth t = nat_lt depth (height t)

-- ---- one tree

-- a value is the tree's, and a residual holds an unknown; a refusal is that of some part, or the tree is deeper than the limit
abbrev pub IsEvaluated : Table → ℕ → Tree → Result PartialValue Refusal → Type 0
IsEvaluated table depth t (Ok p) = (by : Setting) → Serves table by (holds_call t) → IsRead by (named t) (part_answer (partial_of p))
IsEvaluated table depth t (Err Evaluation) = (by : Setting) → Serves table by (holds_call t) → errs_alone by (named t) ≡ true
IsEvaluated table depth t (Err Depth) = depth < height t
IsEvaluated table depth t (Err Memory) = ⊤
IsEvaluated table depth t (Err r) = ⊥

-- ---- fields

abbrev pub as_entries : List (Text × Value) → List (Text × Attribute)
as_entries vs = map (λ e. (e.0, Left e.1)) vs

-- what stands at each name is a built value
abbrev pub HoldValues : List (Text × Attribute) → Type 0
HoldValues found = (given : List (Text × Value)) × (found ≡ as_entries given) × AreBuiltEntries given

module _ (by : Setting) (fs : Fields) where
  -- some tree errs
  abbrev pub err : Bool
  err = some_field (errs_alone by) (named_all fs)

  -- some tree holds an unknown
  abbrev pub hold_unknowns : Bool
  hold_unknowns = some_field holds_unknown (named_all fs)

  -- each tree has its value
  pub record AreValues (found : List (Text × Attribute)) : Type 0 where
    pub given : List (Text × Value)
    pub are : values by (named_all fs) ≡ Some given
    pub seen : found ≡ as_entries given
    pub fine : err ≡ false
    pub known : hold_unknowns ≡ false

  -- none errs, and some holds an unknown
  pub record AreOpen : Type 0 where
    pub fine : err ≡ false
    pub unknown : hold_unknowns ≡ true

-- what is found is built values, those of the trees
pub record AreFound (table : Table) (fs : Fields) (found : List (Text × Attribute)) : Type 0 where
  pub hold_values : HoldValues found
  pub are_values : (by : Setting) → Serves table by (some_field holds_call fs) → AreValues by fs found

abbrev pub AreEvaluated : Table → ℕ → Fields → Result (Option (BTreeMap (RcStr Global) PartialValue)) Refusal → Type 0
AreEvaluated table depth fs (Ok (Some m)) = AreFound table fs (seen_entries m.entries)
AreEvaluated table depth fs (Ok None) = (by : Setting) → Serves table by (some_field holds_call fs) → AreOpen by fs
AreEvaluated table depth fs (Err Evaluation) = (by : Setting) → Serves table by (some_field holds_call fs) → err by fs ≡ true
AreEvaluated table depth fs (Err Depth) = some_field (deeper depth) fs ≡ true
AreEvaluated table depth fs (Err Memory) = ⊤
AreEvaluated table depth fs (Err r) = ⊥
