-- Kinds that a result tells, by those that its parts tell.
use Rattle.std.proofs.Common.{◌≡◌, ◌⊎◌, inl, inr, Option, Some, None, Result, Ok, Err, refl, sym, subst}
use Rattle.std.specs.Prelude.{IfErr, IsErr, IsErrAnd, MatchOption}
use Rattle.std.specs.Option.{option_map}
use Rattle.cedar_names.specs.declared.places.Loc.{Loc}
use Rattle.cedar_faults.specs.declared.kinds.ToASTErrorKind.{ToASTErrorKind}
use Rattle.cedar_faults.specs.declared.errors.ConversionError.{ConversionError}
use Rattle.cedar_faults.specs.declared.errors.ConversionError.TheVariants as error
use Rattle.cedar_faults.specs.Reasons.{Reason, IsFaultOf, Gathers, reason, means_nothing, refused, out_of_memory, listed}
use Rattle.cedar_faults.specs.Telling.{AreOf, Tells, Told, TellsOnly}
use Rattle.cedar_faults.specs.Flat.{Flat}
use Rattle.cedar_faults.specs.Converts.{Lacks, Finds}
use Rattle.cedar_faults.proofs.Telling.{tells_one, tells_more, told_more, told_each, handed_on, memory_tells, failed_tells, flat_tells, gathered_tells}
use Rattle.cedar_conversion.specs.Heads.{given}
use Rattle.cedar_conversion.specs.SoFar.{ToldSoFar}

-- ---- values that may be there

pub in_some : {A : Type 0} (q : A → Type 0) (v : Option A) (x : A) → v ≡ Some x → q x → MatchOption v ⊥ q
in_some q v x is h = subst (λ w. MatchOption w ⊥ q) (sym is) h

pub in_none : {A : Type 0} (n : Type 0) (q : A → Type 0) (v : Option A) → v ≡ None → n → MatchOption v n q
in_none n q v is h = subst (λ w. MatchOption w n q) (sym is) h

pub itself : {A : Type 0} (v : Option A) → v ≡ option_map (λ x. x) v
itself None = refl
itself (Some x) = refl

-- ---- one part

-- what tells nothing
pub quiet : {A E : Type 0} (r : Result A (ConversionError E)) (p : ToASTErrorKind → Type 0) → IfErr r (λ e. TellsOnly e (λ k. ⊥)) → IfErr r (λ e. TellsOnly e p)
quiet r p only = told_more r (λ k. ⊥) p (λ k none. absurd none) only

-- what tells what another part tells, which is nothing
pub quiet_part : {A D E : Type 0} (r : Result A (ConversionError E)) (t : Result D (ConversionError E)) (p : ToASTErrorKind → Type 0) → IfErr r (λ e. TellsOnly e (Told t)) → IfErr t (λ e. TellsOnly e (λ k. ⊥)) → IfErr r (λ e. TellsOnly e p)
quiet_part r t p only none = told_more r (Told t) p (λ k told. absurd (told_each t (λ k. ⊥) none k told)) only

-- failures that are handed on: of memory, and of a part
pub by_memory : {A E : Type 0} (r : Result A (ConversionError E)) (e : ConversionError E) (p : ToASTErrorKind → Type 0) → IsErr r × IsErrAnd r (λ y. y ≡ e) → reason e ≡ out_of_memory → IfErr r (λ y. TellsOnly y p)
by_memory r e p err is = handed_on r e p err (memory_tells e p is)

pub by_part : {A D E : Type 0} (r : Result A (ConversionError E)) (part : Result D (ConversionError E)) (e : ConversionError E) (p : ToASTErrorKind → Type 0) → IsErr r × IsErrAnd r (λ y. y ≡ e) → part ≡ Err e → ((k : ToASTErrorKind) → Told part k → p k) → IfErr r (λ y. TellsOnly y p)
by_part r part e p err is more = handed_on r e p err (tells_more e (Told part) p more (failed_tells part e is))

-- where something is to be found, no fault is told
pub lacks_none : {E W : Type 0} (e : ConversionError E) (w : W) (p : ToASTErrorKind → Type 0) → Lacks (reason e) (Some w) → TellsOnly e p
lacks_none (error.Faults fs) w p h = cc
lacks_none (error.Builder b) w p h = absurd h
lacks_none error.Memory w p h = record { each = λ k told. absurd told }

-- what a node shows, by what is seen of it
pub seen_as : {A E X : Type 0} (r : Result A (ConversionError E)) (shows : X → ToASTErrorKind → Type 0) (x y : X) (p : ToASTErrorKind → Type 0) → x ≡ y → ((k : ToASTErrorKind) → p k → shows y k) → IfErr r (λ e. TellsOnly e p) → IfErr r (λ e. TellsOnly e (shows x))
seen_as r shows x y p same more only = told_more r p (shows x) (λ k s. subst (λ z. shows z k) (sym same) (more k s)) only

pub fault_seen : {E X : Type 0} (e : ConversionError E) (shows : X → ToASTErrorKind → Type 0) (x y : X) (kind : ToASTErrorKind) (place : Option Loc) → x ≡ y → IsFaultOf kind place e → shows y kind → TellsOnly e (shows x)
fault_seen e shows x y kind place same is s = tells_one kind place e (shows x) is (subst (λ z. shows z kind) (sym same) s)

-- what is shown of another tree that is the same
pub of_same : {A E X : Type 0} (r : Result A (ConversionError E)) (shows : X → ToASTErrorKind → Type 0) (x y : X) → x ≡ y → IfErr r (λ e. TellsOnly e (shows y)) → IfErr r (λ e. TellsOnly e (shows x))
of_same r shows x y same only = subst (λ z. IfErr r (λ e. TellsOnly e (shows z))) (sym same) only

-- ---- two parts

pub by_both : {A B C E : Type 0} (r : Result C (ConversionError E)) (a : Result A (ConversionError E)) (b : Result B (ConversionError E)) (e : ConversionError E) (p : ToASTErrorKind → Type 0) → IsErr r × IsErrAnd r (λ y. y ≡ e) → Flat a b (Err e)
    → ((k : ToASTErrorKind) → Told a k → p k) → ((k : ToASTErrorKind) → Told b k → p k) → IfErr r (λ y. TellsOnly y p)
by_both r a b e p err flat first second = handed_on r e p err record { each = λ k told. by k ((flat_tells a b e flat).each k told) }
  where
    by : (k : ToASTErrorKind) → Told a k ⊎ Told b k → p k
    by k (inl t) = first k t
    by k (inr t) = second k t

-- what is told of parts is shown by what shows them
pub of_two : {A B E : Type 0} (a : Result A (ConversionError E)) (b : Result B (ConversionError E)) (p q s : ToASTErrorKind → Type 0) → IfErr a (λ e. TellsOnly e p) → IfErr b (λ e. TellsOnly e q) → ((k : ToASTErrorKind) → p k → s k) → ((k : ToASTErrorKind) → q k → s k) → (k : ToASTErrorKind) → Told a k ⊎ Told b k → s k
of_two a b p q s left right first second k (inl t) = first k (told_each a p left k t)
of_two a b p q s left right first second k (inr t) = second k (told_each b q right k t)

pub of_two_and : {A B E : Type 0} (a : Result A (ConversionError E)) (b : Result B (ConversionError E)) (own p q s : ToASTErrorKind → Type 0) → IfErr a (λ e. TellsOnly e p) → IfErr b (λ e. TellsOnly e q) → ((k : ToASTErrorKind) → p k → s k) → ((k : ToASTErrorKind) → q k → s k) → ((k : ToASTErrorKind) → own k → s k)
    → (k : ToASTErrorKind) → Told a k ⊎ Told b k ⊎ own k → s k
of_two_and a b own p q s left right first second third k (inl t) = first k (told_each a p left k t)
of_two_and a b own p q s left right first second third k (inr (inl t)) = second k (told_each b q right k t)
of_two_and a b own p q s left right first second third k (inr (inr o)) = third k o

pub of_part_and : {A E : Type 0} (a : Result A (ConversionError E)) (own p s : ToASTErrorKind → Type 0) → IfErr a (λ e. TellsOnly e p) → ((k : ToASTErrorKind) → p k → s k) → ((k : ToASTErrorKind) → own k → s k) → (k : ToASTErrorKind) → Told a k ⊎ own k → s k
of_part_and a own p s only first second k (inl t) = first k (told_each a p only k t)
of_part_and a own p s only first second k (inr o) = second k o

pub of_part_or : {A E : Type 0} (a : Result A (ConversionError E)) (own p s : ToASTErrorKind → Type 0) → IfErr a (λ e. TellsOnly e p) → ((k : ToASTErrorKind) → own k → s k) → ((k : ToASTErrorKind) → p k → s k) → (k : ToASTErrorKind) → own k ⊎ Told a k → s k
of_part_or a own p s only first second k (inl o) = first k o
of_part_or a own p s only first second k (inr t) = second k (told_each a p only k t)

-- the second of three
pub of_second : {A E : Type 0} (a : Result A (ConversionError E)) (q own p : ToASTErrorKind → Type 0) → IfErr a (λ e. TellsOnly e p) → (k : ToASTErrorKind) → q k ⊎ Told a k ⊎ own k → q k ⊎ p k ⊎ own k
of_second a q own p only k (inl o) = inl o
of_second a q own p only k (inr (inl t)) = inr (inl (told_each a p only k t))
of_second a q own p only k (inr (inr o)) = inr (inr o)

pub of_either : {B E F : Type 0} (e : ConversionError E) (b : Result B (ConversionError F)) (p : ToASTErrorKind → Type 0) → TellsOnly e p → IfErr b (λ f. TellsOnly f p) → (k : ToASTErrorKind) → Tells e k ⊎ Told b k → p k
of_either e b p first second k (inl t) = first.each k t
of_either e b p first second k (inr t) = told_each b p second k t

-- what two together tell
pub pair_told : {A B E : Type 0} (a : Result A (ConversionError E)) (b : Result B (ConversionError E)) (r : Result (A × B) (ConversionError E)) → Flat a b r → IfErr r (λ e. TellsOnly e (λ k. Told a k ⊎ Told b k))
pair_told a b (Ok c) flat = tt
pair_told a b (Err e) flat = flat_tells a b e flat

pub of_pair : {A B E : Type 0} (a : Result A (ConversionError E)) (b : Result B (ConversionError E)) (r : Result (A × B) (ConversionError E)) → Flat a b r → (k : ToASTErrorKind) → Told r k → Told a k ⊎ Told b k
of_pair a b r flat k told = told_each r (λ j. Told a j ⊎ Told b j) (pair_told a b r flat) k told

-- what either tells, told of both
pub both_told : {A B E : Type 0} (a : Result A (ConversionError E)) (b : Result B (ConversionError E)) (e f : ConversionError E) (own : ToASTErrorKind → Type 0) (k : ToASTErrorKind) → a ≡ Err e → b ≡ Err f → Tells e k ⊎ Tells f k → Told a k ⊎ Told b k ⊎ own k
both_told a b e f own k first second (inl t) = inl (subst (λ r. Told r k) (sym first) t)
both_told a b e f own k first second (inr t) = inr (inl (subst (λ r. Told r k) (sym second) t))

-- a part that is used by what is found beside it; where memory runs out there, nothing is told
pub flat_used : {A B E W : Type 0} (expr : Result A (ConversionError E)) (id : Result B (ConversionError E)) (e : ConversionError E) (seen : B → W) (w : Option W) (base : ToASTErrorKind → Type 0) (own : Option W → ToASTErrorKind → Type 0) → Flat expr id (Err e) → Finds seen id w
    → IfErr expr (λ z. TellsOnly z (λ k. base k ⊎ own (option_map seen (given id)) k)) → TellsOnly e (λ k. base k ⊎ Told id k ⊎ own w k)
flat_used (Ok x) (Ok y) e seen w base own flat found only = absurd (cc flat)
flat_used (Ok x) (Err f) e seen w base own flat found only = let same : e ≡ f = cc flat in record { each = λ k told. inr (inl (subst (λ z. Tells z k) same told)) }
flat_used (Err d) (Ok y) e seen w base own flat found only = let same : e ≡ d = cc flat in record { each = λ k told. by k (only.each k (subst (λ z. Tells z k) same told)) }
  where
    by : (k : ToASTErrorKind) → base k ⊎ own (Some (seen y)) k → base k ⊎ ⊥ ⊎ own w k
    by k (inl b) = inl b
    by k (inr o) = inr (inr (subst (λ v. own v k) (sym found) o))
flat_used (Err d) (Err (error.Faults fs)) e seen w base own flat found only = record { each = λ k told. by k ((gathered_tells d (error.Faults fs) e flat.1).each k told) }
  where
    of_own : (k : ToASTErrorKind) → base k ⊎ own None k → base k ⊎ AreOf (listed fs) k ⊎ own w k
    of_own k (inl b) = inl b
    of_own k (inr o) = inr (inr (subst (λ v. own v k) (sym found) o))

    by : (k : ToASTErrorKind) → Tells d k ⊎ AreOf (listed fs) k → base k ⊎ AreOf (listed fs) k ⊎ own w k
    by k (inl t) = of_own k (only.each k t)
    by k (inr t) = inr (inl t)
flat_used (Err d) (Err (error.Builder b)) e seen w base own flat found only = absurd found
flat_used (Err d) (Err error.Memory) e seen w base own flat found only = memory_tells e (λ k. base k ⊎ ⊥ ⊎ own w k) (gone (reason d) (reason e) flat.0)
  where
    gone : {R : Type 0} (r t : Reason R) → Gathers r out_of_memory t → t ≡ out_of_memory
    gone r out_of_memory g = refl
    gone means_nothing means_nothing g = cc
    gone (refused c) means_nothing g = cc
    gone out_of_memory means_nothing g = cc
    gone means_nothing (refused d) g = cc
    gone (refused c) (refused d) g = cc
    gone out_of_memory (refused d) g = cc

-- ---- a loop

pub first_told : {A E : Type 0} (r : Result A (ConversionError E)) (part rest whole : ToASTErrorKind → Type 0) → IfErr r (λ e. TellsOnly e part) → ((k : ToASTErrorKind) → part k → whole k) → ((k : ToASTErrorKind) → rest k → whole k) → ToldSoFar r rest whole
first_told r part rest whole only first later = record { told = λ k told. first k (told_each r part only k told); left = later }

-- a loop that begins with nothing
pub none_told : {A E : Type 0} (x : A) (whole : ToASTErrorKind → Type 0) → ToldSoFar {E = E} (Ok x) whole whole
none_told x whole = record { told = λ k told. absurd told; left = λ k s. s }

-- one more part, and what joins it
pub more_told : {A B E : Type 0} (r r' : Result A (ConversionError E)) (next : Result B (ConversionError E)) (own part rest rest' whole : ToASTErrorKind → Type 0) → ToldSoFar r rest whole → IfErr r' (λ e. TellsOnly e (λ k. Told r k ⊎ Told next k ⊎ own k)) → IfErr next (λ e. TellsOnly e part)
    → ((k : ToASTErrorKind) → own k → rest k) → ((k : ToASTErrorKind) → part k → rest k) → ((k : ToASTErrorKind) → rest' k → rest k) → ToldSoFar r' rest' whole
more_told r r' next own part rest rest' whole so only given first second later = record {
  told = λ k told. by k (told_each r' (λ k. Told r k ⊎ Told next k ⊎ own k) only k told);
  left = λ k s. so.left k (later k s);
}
  where
    by : (k : ToASTErrorKind) → Told r k ⊎ Told next k ⊎ own k → whole k
    by k (inl t) = so.told k t
    by k (inr (inl t)) = so.left k (second k (told_each next part given k t))
    by k (inr (inr o)) = so.left k (first k o)

-- one more part at the end
pub pushed_told : {A B E : Type 0} (r r' : Result A (ConversionError E)) (next : Result B (ConversionError E)) (part rest rest' whole : ToASTErrorKind → Type 0) → ToldSoFar r rest whole → IfErr r' (λ e. TellsOnly e (λ k. Told r k ⊎ Told next k)) → IfErr next (λ e. TellsOnly e part)
    → ((k : ToASTErrorKind) → part k → rest k) → ((k : ToASTErrorKind) → rest' k → rest k) → ToldSoFar r' rest' whole
pushed_told r r' next part rest rest' whole so only given second later = record {
  told = λ k told. by k (told_each r' (λ k. Told r k ⊎ Told next k) only k told);
  left = λ k s. so.left k (later k s);
}
  where
    by : (k : ToASTErrorKind) → Told r k ⊎ Told next k → whole k
    by k (inl t) = so.told k t
    by k (inr t) = so.left k (second k (told_each next part given k t))

pub all_told : {A E : Type 0} (r : Result A (ConversionError E)) (rest whole : ToASTErrorKind → Type 0) → ToldSoFar r rest whole → IfErr r (λ e. TellsOnly e whole)
all_told (Ok x) rest whole so = tt
all_told (Err e) rest whole so = record { each = so.told }
