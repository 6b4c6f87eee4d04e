-- What holds of frames, whatever is read.
use Rattle.std.specs.Prelude.{◌≡◌, ◌≢◌, ℕ, ◌≤◌, List, [], ◌++◌, length}
use Rattle.cedar_frames.specs.declared.verb.Verb.{Verb}
use Rattle.cedar_frames.specs.declared.fault.Fault.{Fault}
use Rattle.cedar_frames.specs.declared.fault.Fault.TheVariants.{Truncated, TooMany}
use Rattle.cedar_frames.specs.Heads.{body_limit}
use Rattle.cedar_frames.specs.Frames.{IsFrame, AreFrames, IsFault}

-- Each command whose body is within the limit has one frame.
abbrev pub CommandsHaveAFrame : Type 0
CommandsHaveAFrame =
    (verb : Verb) (body : List ℕ) → length body ≤ body_limit
    → (frame : List ℕ) × IsFrame frame verb body × ((other : List ℕ) → IsFrame other verb body → other ≡ frame)

-- A frame that stands at the front of some bytes is the only one that does, and says one thing.
abbrev pub AFrameIsOne : Type 0
AFrameIsOne =
    (frame other x y : List ℕ) (verb verb' : Verb) (body body' : List ℕ) → IsFrame frame verb body → IsFrame other verb' body' → frame ++ x ≡ other ++ y
    → (frame ≡ other) × (verb ≡ verb') × (body ≡ body') × (x ≡ y)

-- Of two lists of frames at the front of the same bytes, the one that isn't longer is the beginning of the other.
abbrev pub FramesBegin : Type 0
FramesBegin =
    (fewer more : List (Verb × List ℕ)) (a b x y : List ℕ) → AreFrames fewer a → AreFrames more b → length fewer ≤ length more → a ++ x ≡ b ++ y
    → (last : List (Verb × List ℕ)) × (c : List ℕ) × (more ≡ fewer ++ last) × AreFrames last c × (b ≡ a ++ c)

-- Two lists of as many frames at the front of the same bytes are one.
abbrev pub FramesAreOne : Type 0
FramesAreOne =
    (commands others : List (Verb × List ℕ)) (a b x y : List ℕ) → AreFrames commands a → AreFrames others b → length commands ≡ length others → a ++ x ≡ b ++ y
    → (commands ≡ others) × (a ≡ b) × (x ≡ y)

-- No frame stands at the front of what shows a fault.
abbrev pub FaultsHoldNoFrame : Type 0
FaultsHoldNoFrame =
    (fault : Fault) (shown frame rest : List ℕ) (verb : Verb) (body : List ℕ) → IsFault fault shown → IsFrame frame verb body → shown ≢ frame ++ rest

-- Where a fault stands that the bytes themselves show, or their end, no frame does, whatever is left behind.
abbrev pub FaultsStay : Type 0
FaultsStay =
    (fault : Fault) (shown left frame rest : List ℕ) (verb : Verb) (body : List ℕ) → (fault ≡ Truncated → left ≡ []) → fault ≢ TooMany → IsFault fault shown → IsFrame frame verb body
    → shown ++ left ≢ frame ++ rest

-- Nor does another one.
abbrev pub FaultsAreOne : Type 0
FaultsAreOne =
    (fault other : Fault) (shown shown' left left' : List ℕ) → (fault ≡ Truncated → left ≡ []) → (other ≡ Truncated → left' ≡ []) → fault ≢ TooMany → other ≢ TooMany
    → IsFault fault shown → IsFault other shown' → shown ++ left ≡ shown' ++ left' → (fault ≡ other) × (shown ≡ shown')
