-- What a tree doesn't mention has nothing to do with it: so one that mentions only what is known means what it says,
-- whatever stands for what is missing.
use Rattle.std.specs.Prelude.{◌≡◌, Bool, true, false}
use Rattle.std.specs.FinMap as finite
use Rattle.cedar_language.specs.Uid.{Text, Uid}
use Rattle.cedar_language.specs.Tree.{Variable, Context, SlotId, MakeRecord, Tree, Apply}
use Rattle.cedar_language.specs.Value.{Value, Gives}
use Rattle.cedar_language.specs.Facts.{Facts}
use Rattle.cedar_language.specs.Meaning.{Slots, Request, meaning}
use Rattle.cedar_language.specs.Authorization as authorization
use Rattle.cedar_partial_evaluation.specs.Settling.{Open, kindless, LeafSettlings, settled_in}
use Rattle.cedar_partial_evaluation.specs.Partial.{Answer, ResidualTree, answer_of, LeafAnswers, partial_in}
use Rattle.cedar_partial_evaluation.specs.Question.{Part, Given, Missing, Entries, NoContext, WithEntries, Question, Told, settled_of, held_of}
use Rattle.cedar_partial_evaluation.specs.Filling.{names_told, IsFilling}
use Rattle.cedar_partial_evaluation.specs.Mentions.{mentions_only, is_known_context, is_known}

-- something is left to be evaluated
abbrev pub is_left : Answer → Bool
is_left (ResidualTree r) = true
is_left _ = false

-- ---- leaves where a tree looks that mentions the variables which pass the test alone, and slots where these are let

-- nothing of them is left
pub record AreKnown (mentioned : Variable → Bool) (slots : Bool) (holds : LeafAnswers) : Type 0 where
  pub variable : (v : Variable) → mentioned v ≡ true → is_left (holds.variable v) ≡ false
  pub slot : (s : SlotId) → slots ≡ true → is_left (holds.slot s) ≡ false

-- they have one answer
pub record AnswerAlike (mentioned : Variable → Bool) (slots : Bool) (a b : LeafAnswers) : Type 0 where
  pub variable : (v : Variable) → mentioned v ≡ true → a.variable v ≡ b.variable v
  pub slot : (s : SlotId) → slots ≡ true → a.slot s ≡ b.slot s

-- they settle to one result; where a variable is open, the type stated of it and the context's entries count
pub record SettleAlike (mentioned : Variable → Bool) (slots : Bool) (a b : LeafSettlings) : Type 0 where
  pub variable : (v : Variable) → mentioned v ≡ true → a.variable v ≡ b.variable v
  pub slot : (s : SlotId) → slots ≡ true → a.slot s ≡ b.slot s
  pub in_context : mentioned Context ≡ true → a.variable Context ≡ Open → (n : Text) → a.in_context n ≡ b.in_context n
  pub has_in_context : mentioned Context ≡ true → a.variable Context ≡ Open → (n : Text) →
      a.has_in_context n ≡ b.has_in_context n
  pub variable_type : (v : Variable) → mentioned v ≡ true → a.variable v ≡ Open → a.variable_type v ≡ b.variable_type v

-- they have one value
pub record AskAlike (mentioned : Variable → Bool) (slots : Bool) (a b : Request) : Type 0 where
  pub variable : (v : Variable) → mentioned v ≡ true → a.variable v ≡ b.variable v
  pub slot : (s : SlotId) → slots ≡ true → a.slots s ≡ b.slots s

-- a tree that mentions only what is known is never left
abbrev pub KnownIsNeverLeft : Type 0
KnownIsNeverLeft =
    (facts : Facts) (mentioned : Variable → Bool) (slots : Bool) (holds : LeafAnswers) →
    AreKnown mentioned slots holds →
    (t : Tree) → mentions_only mentioned slots t ≡ true → is_left (partial_in facts holds t) ≡ false

-- leaves that a tree doesn't mention have nothing to do with it
-- (of a leaf that is left an operator may look at more than the leaf: `{a: principal}.a` at the name `principal`)
pub record LeavesDontMatter : Type 0 where
  pub answers : (facts : Facts) (mentioned : Variable → Bool) (slots : Bool) (a b : LeafAnswers) →
      AreKnown mentioned slots a → AnswerAlike mentioned slots a b →
      (t : Tree) → mentions_only mentioned slots t ≡ true → partial_in facts a t ≡ partial_in facts b t
  pub settles : (facts : Facts) (mentioned : Variable → Bool) (slots : Bool) (a b : LeafSettlings) →
      SettleAlike mentioned slots a b →
      (t : Tree) → mentions_only mentioned slots t ≡ true → settled_in facts a t ≡ settled_in facts b t
  pub means : (facts : Facts) (mentioned : Variable → Bool) (slots : Bool) (a b : Request) →
      AskAlike mentioned slots a b →
      (t : Tree) → mentions_only mentioned slots t ≡ true → meaning facts a t ≡ meaning facts b t

-- ---- a question with missing parts

abbrev pub HasPart : Part → Uid → Type 0
HasPart (Given u) w = w ≡ u
HasPart (Missing ty) w = Unit {0}

abbrev pub HasContext : Facts → Entries → Value → Type 0
HasContext facts NoContext w = Unit {0}
HasContext facts (WithEntries ks ts) w =
    is_known_context (WithEntries ks ts) ≡ true → meaning facts (names_told finite.empty) (Apply (MakeRecord ks) ts) ≡ Gives w

-- the known question has what is given: each part, and the value of a context in which no name is unknown
pub record HasGiven (facts : Facts) (q : Question) (known : authorization.Known) : Type 0 where
  pub principal : HasPart q.principal known.principal
  pub action : HasPart q.action known.action
  pub resource : HasPart q.resource known.resource
  pub context : HasContext facts q.context known.context

-- a tree that mentions nothing missing is answered by what it means, kinds included, and settles to it
pub record MentionedIsMeant : Type 0 where
  -- each question that fills it has what is given
  pub fillings : (facts : Facts) (q : Question) (filling : Told) (known : authorization.Known) →
      IsFilling facts q filling known → HasGiven facts q known
  pub answers : (facts : Facts) (q : Question) (slots : Slots) (told : Told) (known : authorization.Known) →
      HasGiven facts q known →
      (t : Tree) → mentions_only (is_known q) true t ≡ true →
      partial_in facts (held_of facts q slots told) t ≡ answer_of (meaning facts (authorization.request_at known slots) t)
  pub settles : (facts : Facts) (q : Question) (slots : Slots) (told : Told) (known : authorization.Known) →
      HasGiven facts q known →
      (t : Tree) → mentions_only (is_known q) true t ≡ true →
      settled_in facts (settled_of facts q slots told) t ≡ kindless (meaning facts (authorization.request_at known slots) t)
