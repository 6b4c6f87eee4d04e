-- What the parts of a frame are read as.
use Rattle.std.specs.Prelude.{◌≡◌, ◌≢◌, ℕ, ◌<◌, ◌≤◌, List, [], ◌∷◌, ◌++◌, length, take, true, Option, MatchOption}
use Rattle.cedar_frames.specs.declared.body.Body.{Body}
use Rattle.cedar_frames.specs.declared.body.Body.TheVariants.{Cut as CutBody, Whole as WholeBody}
use Rattle.cedar_frames.specs.declared.frame.Line.{Line}
use Rattle.cedar_frames.specs.declared.frame.Line.TheVariants.{End, Cut, Endless, Whole}
use Rattle.cedar_frames.specs.declared.head.HeadLine.{HeadLine}
use Rattle.cedar_frames.specs.declared.head.HeadLine.TheVariants.{Bad, Long, Opens}
use Rattle.cedar_frames.specs.declared.verb.Verb.{Verb}
use Rattle.cedar_frames.specs.declared.watched.Watched.{Watched}
use Rattle.cedar_frames.specs.Heads.{IsHead, lacks, head_limit, body_limit}
use Rattle.cedar_frames.specs.Frames.{IsPartialLine, IsEndless}
use Rattle.cedar_frames.specs.Reading.{IsReadOut}

-- what a line says as a head
abbrev pub DescribesHead : List ℕ → HeadLine → Type 0
DescribesHead line Bad = (verb : Verb) (len : ℕ) → IsHead line verb len → ⊥
DescribesHead line Long = (verb : Verb) × (len : ℕ) × IsHead line verb len × (body_limit < len)
DescribesHead line (Opens verb len) = IsHead line verb len × (len ≤ body_limit)

-- These bytes were read where a line should stand, and this is what they are.
abbrev pub ReadsLine : {D : Type 0} → (D → Option (List ℕ)) → Line → List ℕ → List ℕ → Watched D → Type 0
ReadsLine remaining End taken line reader = (taken ≡ []) × IsReadOut remaining reader
ReadsLine remaining Cut taken line reader = IsPartialLine taken × (taken ≢ []) × IsReadOut remaining reader
ReadsLine remaining Endless taken line reader = IsEndless taken
ReadsLine remaining (Whole len) taken line reader = (len ≤ head_limit) × (taken ≡ take len line ++ 10 ∷ []) × (lacks 10 (take len line) ≡ true)

-- These bytes are the body of so many bytes, or, where the input ended, a beginning of it. One that isn't kept has a byte.
abbrev pub ReadsBody : {D : Type 0} → (D → Option (List ℕ)) → ℕ → Body → List ℕ → Watched D → Type 0
ReadsBody remaining len CutBody taken reader = (length taken < len) × IsReadOut remaining reader
ReadsBody remaining len (WholeBody body) taken reader = (length taken ≡ len) × MatchOption body (taken ≢ []) (λ bytes. bytes.items ≡ taken)
