-- Sessions that are given the commands before a line.
use Rattle.std.proofs.Common.{◌≡◌, ◌⊎◌, ℕ, ◌+◌, ◌<◌, List, [], ◌∷◌, ◌++◌, map, length, take, drop, get_or, string_bytes, is_some, Option, Some, None, inl, inr, All, refl, sym, ap, subst, ◌∙◌, append_assoc}
use Rattle.std.proofs.lemmas.List.{append-nil, map-append, take-append-drop, take_more}
use Rattle.std.proofs.lemmas.List.Elements.{All-get_or}
use Rattle.std.proofs.lemmas.Map.Made.{is_some-lookup}
use Rattle.std.specs.FinMap as finite
use Rattle.std.specs.List.{Contains, list_any}
use Rattle.std.specs.Map.{keys_of}
use Rattle.std.specs.Option.{option_map}
use Rattle.cedar_language.specs.Order.{same_text}
use Rattle.cedar_language.specs.Uid.{Text}
use Rattle.cedar_evaluator.specs.declared.partial_response.PartialResponse.{PartialResponse}
use Rattle.cedar_held.specs.PolicyWorlds.{world_bound, policies_in, FindsAsWorlds}
use Rattle.cedar_policy_set.specs.Entries.{Entry, Entries, bound_at}
use Rattle.cedar_session.specs.Lending.{IsResponse}
use Rattle.cedar_world.specs.Commands.{Reply}
use Rattle.cedar_world.specs.Session.{Command, Answers, no_command, a_command}
use Rattle.cedar_world.specs.Setting.{Setting}
use Rattle.cedar_world.specs.Step.{Step as Steps}
use Rattle.cedar_world.specs.World.{World, Policies, new_world}
use Rattle.cedar_authoring.specs.ScriptQuestions.{AreHeld, AsksAt, GoesThrough, IsStopped, IsUnasked, StandsBehind, StopsAmong, TellsAnswer, TellsExplainedAt, TakesUp, TellsHeld, TellsOpen, TellsStandings, one_stops}
use Rattle.cedar_authoring.specs.Names.{TellsNames}
use Rattle.cedar_authoring.specs.Scripts.{HasStep, command_of}
use Rattle.cedar_messages.specs.Telling.{Adds, TellsEach}
use Rattle.cedar_scripts.specs.declared.script.Step.{Step}
use Rattle.cedar_scripts.specs.declared.script.Script.{Script}
use Rattle.cedar_scripts.specs.declared.script.Test.{Test}
use Rattle.cedar_authoring.proofs.Ran.{Answers-append}

-- a list is what stands before one of its values, that, and what stands behind it
pub split_at : {A : Type 0} (xs : List A) (i : ℕ) (x : A) → i < length xs → x ≡ get_or xs i x → xs ≡ take i xs ++ x ∷ drop (i + 1) xs
split_at xs i x within is =
    let taken : take (i + 1) xs ≡ take i xs ++ x ∷ [] = take_more xs i x within ∙ sym (ap (λ y. take i xs ++ y ∷ []) is) in
    sym (take-append-drop (i + 1) xs) ∙ (ap (λ l. l ++ drop (i + 1) xs) taken ∙ append_assoc (take i xs) (x ∷ []) (drop (i + 1) xs))

module _ (by : Setting) where
  pub through_nothing : (world : World) → GoesThrough by world [] world
  through_nothing world = ([], no_command)

  -- first these commands, then those
  pub through_both : (old mid new : World) (ss ts : List Step) → GoesThrough by old ss mid → GoesThrough by mid ts new → GoesThrough by old (ss ++ ts) new
  through_both old mid new ss ts first later =
      let P : List Command → Type 0 = λ commands. Answers by old commands (first.0 ++ later.0) new in
      (first.0 ++ later.0, subst P (sym (map-append command_of ss ts)) (Answers-append by first.1 later.1))

  -- one command more
  pub through_more : (old mid new : World) (ss : List Step) (i : ℕ) (s : Step) → i < length ss → s ≡ get_or ss i s → GoesThrough by old (take i ss) mid
      → ((reply : Reply) × Steps by mid s.verb (string_bytes s.body) reply new) → GoesThrough by old (take (i + 1) ss) new
  through_more old mid new ss i s within is first one =
      let P : List Step → Type 0 = λ ts. GoesThrough by old ts new in
      let taken : take i ss ++ s ∷ [] ≡ take (i + 1) ss = ap (λ y. take i ss ++ y ∷ []) is ∙ sym (take_more ss i s within) in
      subst P taken (through_both old mid new (take i ss) (s ∷ []) first (one.0 ∷ [], a_command one.1 no_command))

  -- one of these isn't taken
  pub stops_at : (old mid : World) (ss : List Step) (i : ℕ) (s : Step) → i < length ss → s ≡ get_or ss i s → GoesThrough by old (take i ss) mid
      → IsStopped by mid s → StopsAmong by old ss
  stops_at old mid ss i s within is first stops =
      record { before = take i ss; step = s; after = drop (i + 1) ss; are = split_at ss i s within is; world = mid; goes = first; stops = stops }

  -- also among further ones behind them
  pub stops_before : (old : World) (ss ts : List Step) → StopsAmong by old ss → StopsAmong by old (ss ++ ts)
  stops_before old ss ts h = record {
    before = h.before;
    step = h.step;
    after = h.after ++ ts;
    are = ap (λ l. l ++ ts) h.are ∙ append_assoc h.before (h.step ∷ h.after) ts;
    world = h.world;
    goes = h.goes;
    stops = h.stops;
  }

  -- and behind others
  pub stops_behind : (old mid : World) (ss ts : List Step) → GoesThrough by old ss mid → StopsAmong by mid ts → StopsAmong by old (ss ++ ts)
  stops_behind old mid ss ts first h = record {
    before = ss ++ h.before;
    step = h.step;
    after = h.after;
    are = ap (λ l. ss ++ l) h.are ∙ sym (append_assoc ss h.before (h.step ∷ h.after));
    world = h.world;
    goes = through_both old mid h.world ss h.before first h.goes;
    stops = h.stops;
  }

  pub stops_last : (world : World) (s : Step) → IsStopped by world s → StopsAmong by world (s ∷ [])
  stops_last world s stops = record { before = []; step = s; after = []; are = refl; world = world; goes = through_nothing world; stops = stops }

-- ---- the question at a line

pub held_by : {A : Type 0} (P : A → Type 0) (xs : List A) (x : A) → All P xs → Contains xs x → P x
held_by P xs x all has = subst P has.2 (All-get_or P xs has.0 x has.1 all)

pub nothing_at : (script : Script) (line : ℕ) → All (λ s. AsksAt line s → ⊥) script.set_up.items
    → All (λ (t : Test). All (λ s. AsksAt line s → ⊥) t.steps.items) script.tests.items → (s : Step) → HasStep script s → AsksAt line s → ⊥
nothing_at script line set_up tests s (inl has) = held_by (λ s. AsksAt line s → ⊥) script.set_up.items s set_up has
nothing_at script line set_up tests s (inr has) =
    held_by (λ s. AsksAt line s → ⊥) has.0.steps.items s (held_by (λ (t : Test). All (λ s. AsksAt line s → ⊥) t.steps.items) script.tests.items has.0 tests has.1) has.2

module _ (by : Setting) (script : Script) (line : ℕ) (set_up before : List Step) (step : Step) (at : AsksAt line step) (behind : StandsBehind script (set_up ++ before) step) where
  pub stops_first : StopsAmong by new_world set_up → IsUnasked by script line
  stops_first h = one_stops (set_up ++ before) step at behind (stops_before by new_world (set_up ++ before) (step ∷ []) (stops_before by new_world set_up before h))

  pub stops_later : (mid : World) → GoesThrough by new_world set_up mid → StopsAmong by mid before → IsUnasked by script line
  stops_later mid first h =
      one_stops (set_up ++ before) step at behind (stops_before by new_world (set_up ++ before) (step ∷ []) (stops_behind by new_world mid set_up before first h))

  pub stops_there : (mid world : World) → GoesThrough by new_world set_up mid → GoesThrough by mid before world → IsStopped by world step → IsUnasked by script line
  stops_there mid world first later stops =
      let all = through_both by new_world mid world set_up before first later in
      one_stops (set_up ++ before) step at behind (stops_behind by new_world world (set_up ++ before) (step ∷ []) all (stops_last by world step stops))

  pub explains_there : (mid world : World) (status : ℕ) (told : Text) → GoesThrough by new_world set_up mid → GoesThrough by mid before world
      → TellsAnswer by world step status told → TellsExplainedAt by script line status told
  explains_there mid world status told first later answers = record {
    before = set_up ++ before;
    step = step;
    at = at;
    behind = behind;
    world = world;
    goes = through_both by new_world mid world set_up before first later;
    answers = answers;
  }

-- ---- what is held

mapped_some : {A B : Type 0} (f : A → B) (o : Option A) → is_some o ≡ is_some (option_map f o)
mapped_some f None = refl
mapped_some f (Some x) = refl

pub all_held : (es : Entries) (policies : Policies) (ids : List Text) → FindsAsWorlds → policies_in es ≡ policies → ids ≡ keys_of es → AreHeld policies ids
all_held es policies ids finds held are id =
    ap (λ l. list_any (same_text id) l) are ∙ (sym (is_some-lookup (same_text id) es)
    ∙ (mapped_some world_bound (bound_at es id) ∙ ap is_some (sym (finds es id) ∙ ap (λ m. finite.get m id) held)))

-- how what is held stands, and then the names
pub standings_added : (asked : World) (response : PartialResponse) (ids given : List Text) (start mid new : Text) → AreHeld asked.policies ids → given ≡ ids
    → Adds (TellsEach (TellsHeld asked.policies response) given) start mid → Adds (TellsNames asked.asked response) mid new → Adds (TellsStandings asked response) start new
standings_added asked response ids given start mid new held are first later = (
  first.0 ++ later.0,
  record {
    ids = ids;
    held = held;
    lines = first.0;
    each = subst (λ is. TellsEach (TellsHeld asked.policies response) is first.0) are first.1;
    last = later.0;
    names = later.1;
    whole = refl;
  },
  later.2 ∙ (ap (λ t. t ++ later.0) first.2 ∙ append_assoc start first.0 later.0),
)

-- how it stands to the question that is open, by its response
pub open_told : (by : Setting) (asked : World) (first response : PartialResponse) (old new : Text) → IsResponse by asked first → TakesUp first response
    → Adds (TellsStandings asked response) old new → Adds (TellsOpen by asked) old new
open_told by asked first response old new is takes adds = (adds.0, (response, (first, is, takes), adds.1), adds.2)
