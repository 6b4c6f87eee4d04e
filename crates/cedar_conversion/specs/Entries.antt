-- The entries of a record.
use Rattle.std.specs.Prelude.{◌≡◌, ◌⊎◌, ⊤, List, [], ◌∷◌, map, cond, Bool, true, false, Option, Some, None, MatchOption, Result, Ok, Err, Vec}
use Rattle.std.specs.Global.{Global}
use Rattle.std.specs.Rc.{rc_str_bytes}
use Rattle.std.specs.declared.rc.RcStr.{RcStr}
use Rattle.cedar_language.specs.Uid.{Text}
use Rattle.cedar_language.specs.Tree.{Tree}
use Rattle.cedar_grammar.specs.Names.{are_distinct, is_among}
use Rattle.cedar_grammar.specs.Build.{Keyed, keys, put, by_key}
use Rattle.cedar_grammar.specs.Steps.{◌>>=◌}
use Rattle.cedar_grammar.specs.Loose as loose
use Rattle.cedar_grammar.specs.Converting.{alone, primary_key}
use Rattle.cedar_trees.specs.declared.errors.ExpressionConstructionError.TheVariants.{DuplicateKey}
use Rattle.cedar_faults.specs.declared.kinds.ToASTErrorKind.{ToASTErrorKind}
use Rattle.cedar_faults.specs.declared.kinds.ToASTErrorKind.TheVariants as kinds
use Rattle.cedar_faults.specs.declared.errors.ConversionError.{ConversionError}
use Rattle.cedar_faults.specs.Reasons.{Reason, means_nothing, refused, out_of_memory, reason}
use Rattle.cedar_faults.specs.Converts.{Converts}
use Rattle.cedar_conversion.specs.Building.{IsRefused, AreRefused}
use Rattle.cedar_builders.specs.Operations.{Operations, built}

abbrev pub keyed : {E : Type 0} → List (RcStr Global × E) → List (Keyed E)
keyed ps = map (λ p. (rc_str_bytes p.0, p.1)) ps

-- by their keys in rising order, where no key stands twice
abbrev pub ordered : {A : Type 0} → List (Keyed A) → Option (List (Keyed A))
ordered es = cond (are_distinct (keys es)) (Some (by_key es)) None

-- what stands beside the same keys is built from these trees
abbrev pub EachIsBuilt : {M R : Type 0} → Operations M R → List (Keyed M) → List (Keyed Tree) → Type 0
EachIsBuilt o [] [] = ⊤
EachIsBuilt o (p ∷ ps) (e ∷ es) = (p.0 ≡ e.0) × (built o e.1 ≡ Ok p.1) × EachIsBuilt o ps es
EachIsBuilt o ps es = ⊥

abbrev pub meant : {E M : Type 0} → (E → M) → List (RcStr Global × E) → List (Keyed M)
meant meaning ps = map (λ p. (rc_str_bytes p.0, meaning p.1)) ps

abbrev pub AreEntries : {E M R : Type 0} → Operations M R → (E → M) → Vec (RcStr Global × E) Global → List (Keyed Tree) → Type 0
AreEntries o meaning v es = EachIsBuilt o (meant meaning v.items) es

-- an entry: its key, and what is built beside it
abbrev pub IsEntry : {E M R : Type 0} → Operations M R → (E → M) → RcStr Global × E → Keyed Tree → Type 0
IsEntry o meaning p e = (rc_str_bytes p.0 ≡ e.0) × (built o e.1 ≡ Ok (meaning p.1))

-- the operations make nothing of what stands beside the key
abbrev pub IsEntryRefused : {M R : Type 0} → Operations M R → Keyed Tree → Type 0
IsEntryRefused o e = IsRefused o e.1

-- of what stands beside one of the keys
abbrev pub AreEntriesRefused : {M R : Type 0} → Operations M R → List (Keyed Tree) → Type 0
AreEntriesRefused o es = AreRefused o (map (λ e. e.1) es)

abbrev pub MakesEntry : {E B M R : Type 0} → Operations M R → (E → M) → (B → Option R) → Result (RcStr Global × E) (ConversionError B) → Option (Keyed Tree) → Type 0
MakesEntry o meaning refusal result want = Converts (IsEntry o meaning) (IsEntryRefused o) refusal result want

abbrev pub MakesEntries : {E B M R : Type 0} → Operations M R → (E → M) → (B → Option R) → Result (Vec (RcStr Global × E) Global) (ConversionError B) → Option (List (Keyed Tree)) → Type 0
MakesEntries o meaning refusal result want = Converts (AreEntries o meaning) (AreEntriesRefused o) refusal result want

-- an entry of a new key is put among others, and faults stand where the key isn't new
abbrev pub PutsNot : {B : Type 0} → Reason B → Bool → Type 0
PutsNot means_nothing b = b ≡ true
PutsNot (refused r) b = ⊥
PutsNot out_of_memory b = ⊤

abbrev pub Puts : {A B : Type 0} → Keyed A → List (Keyed A) → List (Keyed A) → Result Unit (ConversionError B) → Type 0
Puts e old new (Ok u) = (is_among e.0 (keys old) ≡ false) × (new ≡ put e old)
Puts e old new (Err f) = PutsNot (reason f) (is_among e.0 (keys old))

-- ---- keys that stand twice

-- the keys that the entries of a record write, where each writes one
abbrev pub record_keys : loose.RecInits → Option (List Text)
record_keys loose.no_rec_inits = Some []
record_keys (loose.a_rec_init loose.missing_rec_init rs) = None
record_keys (loose.a_rec_init (loose.rec_init k e) rs) = alone k >>= primary_key >>= λ s. record_keys rs >>= λ ss. Some (s ∷ ss)

-- stands there, and once more behind
abbrev pub StandsTwice : Text → List Text → Type 0
StandsTwice s [] = ⊥
StandsTwice s (t ∷ ts) = ((t ≡ s) × (is_among s ts ≡ true)) ⊎ StandsTwice s ts

-- the key of which a fault says that it stands twice
abbrev pub repeated_key : ToASTErrorKind → Option Text
repeated_key (kinds.ExpressionConstructionError (DuplicateKey e)) = Some (rc_str_bytes e.key)
repeated_key kind = None

abbrev pub IsRepeated : List Text → ToASTErrorKind → Type 0
IsRepeated ss kind = MatchOption (repeated_key kind) ⊥ (λ s. StandsTwice s ss)

-- of entries that are there
abbrev pub entries_show : {E B : Type 0} → Result (Vec (RcStr Global × E) Global) (ConversionError B) → ToASTErrorKind → Type 0
entries_show (Ok es) kind = IsRepeated (keys (keyed es.items)) kind
entries_show (Err e) kind = ⊥
