-- Frames: a head, a line feed, the body, a line feed. And what is none.
use Rattle.std.specs.Prelude.{◌≡◌, ◌≢◌, ℕ, ◌+◌, ◌<◌, ◌≤◌, ◌⊎◌, List, [], ◌∷◌, ◌++◌, length, true, codes}
use Rattle.cedar_frames.specs.declared.verb.Verb.{Verb}
use Rattle.cedar_frames.specs.declared.fault.Fault.{Fault}
use Rattle.cedar_frames.specs.declared.fault.Fault.TheVariants.{BadHead, TooLong, Truncated, NoLineFeed, TooMany}
use Rattle.cedar_frames.specs.Heads.{IsHead, lacks, head_limit, body_limit}

-- a line that says this, with its line feed
pub record IsHeadLine (bytes : List ℕ) (verb : Verb) (len : ℕ) : Type 0 where
  pub line : List ℕ
  pub is : bytes ≡ line ++ 10 ∷ []
  pub short : length line ≤ head_limit
  pub head : IsHead line verb len

-- the bytes are the frame of this command
pub record IsFrame (bytes : List ℕ) (verb : Verb) (body : List ℕ) : Type 0 where
  pub head : List ℕ
  pub opens : IsHeadLine head verb (length body)
  pub fits : length body ≤ body_limit
  pub is : bytes ≡ (head ++ body) ++ 10 ∷ []

-- the bytes are the frames of these commands, verb and body each, one behind the other
abbrev pub AreFrames : List (Verb × List ℕ) → List ℕ → Type 0
AreFrames [] bytes = bytes ≡ []
AreFrames (command ∷ commands) bytes = (frame others : List ℕ) × IsFrame frame command.0 command.1 × AreFrames commands others × (bytes ≡ frame ++ others)

-- the bytes are a head line and its body, or a part of it
pub record IsOpenFrame (bytes : List ℕ) : Type 0 where
  pub head : List ℕ
  pub verb : Verb
  pub len : ℕ
  pub opens : IsHeadLine head verb len
  pub fits : len ≤ body_limit
  pub part : List ℕ
  pub short : length part ≤ len
  pub is : bytes ≡ head ++ part

-- another byte than a line feed stands where a frame should end
pub record IsOverrun (bytes : List ℕ) : Type 0 where
  pub head : List ℕ
  pub verb : Verb
  pub body : List ℕ
  pub opens : IsHeadLine head verb (length body)
  pub fits : length body ≤ body_limit
  pub byte : ℕ
  pub other : byte ≢ 10
  pub is : bytes ≡ (head ++ body) ++ byte ∷ []

-- a line that says nothing as a head, with its line feed
pub record IsBadLine (bytes : List ℕ) : Type 0 where
  pub line : List ℕ
  pub is : bytes ≡ line ++ 10 ∷ []
  pub short : length line ≤ head_limit
  pub whole : lacks 10 line ≡ true
  pub none : (verb : Verb) (len : ℕ) → IsHead line verb len → ⊥

-- no line feed stands within the room of a head line
abbrev pub IsEndless : List ℕ → Type 0
IsEndless bytes = (length bytes ≡ head_limit + 1) × (lacks 10 bytes ≡ true)

-- no line feed stands here yet
abbrev pub IsPartialLine : List ℕ → Type 0
IsPartialLine bytes = (length bytes ≤ head_limit) × (lacks 10 bytes ≡ true)

-- a beginning of a frame, as far as can be told: what an unfinished line holds isn't looked at
abbrev pub IsPartial : List ℕ → Type 0
IsPartial bytes = IsPartialLine bytes ⊎ IsOpenFrame bytes

-- The bytes, up to the one that shows it, are no frame, in this way. `Truncated` is shown by the input's end behind them,
-- and `TooMany` by any byte behind as many frames as can be counted.
abbrev pub IsFault : Fault → List ℕ → Type 0
IsFault BadHead bytes = IsEndless bytes ⊎ IsBadLine bytes
IsFault TooLong bytes = (verb : Verb) × (len : ℕ) × IsHeadLine bytes verb len × (body_limit < len)
IsFault Truncated bytes = IsPartial bytes × (bytes ≢ [])
IsFault NoLineFeed bytes = IsOverrun bytes
IsFault TooMany bytes = length bytes ≡ 1

-- how a fault is written
abbrev pub fault_name : Fault → List ℕ
fault_name BadHead = codes "BadHead"
fault_name TooLong = codes "TooLong"
fault_name Truncated = codes "Truncated"
fault_name NoLineFeed = codes "NoLineFeed"
fault_name TooMany = codes "TooMany"
