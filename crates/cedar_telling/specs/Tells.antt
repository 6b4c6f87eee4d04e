-- Values told for the unknowns of a question, and the body that tells more.
use Rattle.std.specs.Prelude.{◌≡◌, ◌<◌, ⊤, ℕ, Bool, true, false, not, Some, None, is_some, Result, Ok, Err, List, map}
use Rattle.std.specs.BTreeMap.{BTreeMap}
use Rattle.std.specs.FinMap as finite
use Rattle.std.specs.Rc.{rc_str_bytes}
use Rattle.std.specs.declared.alloc.Global.{Global}
use Rattle.std.specs.declared.rc.RcStr.{RcStr}
use Rattle.cedar_language.specs.Height.{height}
use Rattle.cedar_language.specs.Tree.{Tree}
use Rattle.cedar_language.specs.Value.{Value}
use Rattle.cedar_world.specs.Asking.{Question, Told}
use Rattle.cedar_world.specs.Bodies.{Fields, tell_body}
use Rattle.cedar_world.specs.Question.{Portion, is_unknown, fits, told_with}
use Rattle.cedar_world.specs.Refusals.{some_pair, some_key}
use Rattle.cedar_world.specs.Setting.{Setting}
use Rattle.cedar_world.specs.Values.{some_field, errs_alone, holds_unknown, values}
use Rattle.cedar_held.specs.Built.{AreBuiltEntries}
use Rattle.cedar_replies.specs.declared.refusal.Refusal.{Refusal}
use Rattle.cedar_replies.specs.declared.refusal.Refusal.TheVariants as refusal

-- the values that a map tells, as the world has them
abbrev pub told_in : List (RcStr Global × Value) → Told
told_in es = finite.from_entries (map (λ (e : RcStr Global × Value). (rc_str_bytes e.0, e.1)) es)

module _ (by : Setting) (q : Question) (told : Told) (fs : Fields) where
  -- ---- what refuses the fields of a body

  abbrev pub err : Bool
  err = some_field (errs_alone by) fs

  abbrev pub hold_unknowns : Bool
  hold_unknowns = some_field holds_unknown fs

  abbrev pub name_no_unknown : Bool
  name_no_unknown = some_key (λ n. not (is_unknown q n)) fs

  abbrev pub are_told_already : Bool
  are_told_already = some_key (λ n. is_some (finite.get told n)) fs

  -- a value of another kind than its unknown's
  abbrev pub are_of_other_kinds : Portion → Bool
  are_of_other_kinds portion = some_pair (λ n v. not (fits q n v)) portion

  -- ---- none of the first of these stands

  pub record AreFine : Type 0 where
    pub fine : err ≡ false
    pub known : hold_unknowns ≡ false

  pub record AreNamed : Type 0 where
    pub fine : AreFine
    pub named : name_no_unknown ≡ false

  pub record AreNew : Type 0 where
    pub named : AreNamed
    pub new : are_told_already ≡ false

  -- nothing refuses the fields, and all that is told with their values is this
  pub record TellMore (all : Told) : Type 0 where
    pub new : AreNew
    pub portion : Portion
    pub are : values by fs ≡ Some portion
    pub kinds : are_of_other_kinds portion ≡ false
    pub built : AreBuiltEntries portion
    pub all_is : all ≡ told_with told portion

-- the body has fields of which this holds
abbrev pub Tells : Tree → (Fields → Type 0) → Type 0
Tells tree Holds = (fs : Fields) × (tell_body tree ≡ Some fs) × Holds fs

-- all that is told with what a body tells for a question, or why it tells nothing; want of memory says nothing
abbrev pub TellsBody : Setting → Question → Told → ℕ → Tree → Result (BTreeMap (RcStr Global) Value) Refusal → Type 0
TellsBody by q told depth tree (Ok all) = Tells tree (λ fs. TellMore by q told fs (told_in all.entries))
TellsBody by q told depth tree (Err refusal.Shape) = tell_body tree ≡ None
TellsBody by q told depth tree (Err refusal.Evaluation) = Tells tree (λ fs. err by q told fs ≡ true)
TellsBody by q told depth tree (Err refusal.NotAValue) = Tells tree (λ fs. (err by q told fs ≡ false) × (hold_unknowns by q told fs ≡ true))
TellsBody by q told depth tree (Err refusal.NoSuchUnknown) = Tells tree (λ fs. AreFine by q told fs × (name_no_unknown by q told fs ≡ true))
TellsBody by q told depth tree (Err refusal.AlreadyTold) = Tells tree (λ fs. AreNamed by q told fs × (are_told_already by q told fs ≡ true))
TellsBody by q told depth tree (Err refusal.WrongKind) = Tells tree (λ fs. AreNew by q told fs × ((portion : Portion) × (values by fs ≡ Some portion) × (are_of_other_kinds by q told fs portion ≡ true)))
TellsBody by q told depth tree (Err refusal.Depth) = depth < height tree
TellsBody by q told depth tree (Err refusal.Memory) = ⊤
TellsBody by q told depth tree (Err r) = ⊥
