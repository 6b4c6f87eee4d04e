-- When a frame stands whole at the front of bytes, by their first line and what stands behind it.
use Rattle.std.proofs.Common.{◌≡◌, ℕ, List, [], ◌∷◌, ◌++◌, ◌<◌, ◌≤◌, ◌+◌, ◌-◌, length, take, drop, min, get_or, refl, sym, ap, ◌∙◌, subst, true, arith, length-append, length-take-le}
use Rattle.std.proofs.lemmas.List.{take-append-drop}
use Rattle.cedar_frames.specs.declared.verb.Verb.{Verb}
use Rattle.cedar_frames.specs.Heads.{lacks, IsHead, body_limit}
use Rattle.cedar_frames.specs.Frames.{IsHeadLine, IsFrame}
use Rattle.cedar_frames.proofs.FrameLaws.{opened, first_line, feed_within, behind_feed, behind_head, bad_line_opens_none, long_opens_none, open_holds_none, overrun_stays}
use Rattle.cedar_frames.proofs.Frames.{whole_frame, overrun}
use Rattle.cedar_frames.proofs.Heads.{parted_at}

-- No frame stands whole at the front of these bytes.
abbrev pub HasNone : List ℕ → Type 0
HasNone bytes = (verb : Verb) (frame body rest : List ℕ) → IsFrame frame verb body → bytes ≡ frame ++ rest → ⊥

-- where no line feed stands within the room of a head line
pub none_in_line : (bytes : List ℕ) → lacks 10 (take (min (length bytes) 33) bytes) ≡ true → HasNone bytes
none_in_line bytes w verb frame body rest f e =
    let n = min (length bytes) 33 in
    let line = f.opens.line in
    let short = f.opens.short in
    let tail = body ++ 10 ∷ rest in
    let split : bytes ≡ line ++ 10 ∷ tail = e ∙ opened frame rest verb body f ∙ first_line f.head tail verb (length body) f.opens in
    let all : length bytes ≡ length line + length (10 ∷ tail) = ap length split ∙ length-append line (10 ∷ tail) in
    let shown : length (take n bytes) ≡ n = length-take-le n bytes (omega arith) in
    feed_within (take n bytes) (drop n bytes) line tail w (omega (arith, shown, all, short)) (take-append-drop n bytes ∙ split)

-- where the first line is no head
pub none_by_head : (bytes line behind : List ℕ) → bytes ≡ line ++ 10 ∷ behind → lacks 10 line ≡ true → length line ≤ 32
    → ((verb : Verb) (len : ℕ) → IsHead line verb len → ⊥) → HasNone bytes
none_by_head bytes line behind is whole short none verb frame body rest f e =
    bad_line_opens_none (line ++ 10 ∷ []) behind f.head (body ++ 10 ∷ rest) verb (length body)
    (record { line = line; is = refl; short = short; whole = whole; none = none }) f.opens (behind_feed line behind ∙ sym is ∙ e ∙ opened frame rest verb body f)

-- where it is one of a body over the limit
pub none_if_long : (bytes line behind : List ℕ) → bytes ≡ line ++ 10 ∷ behind → length line ≤ 32
    → (verb : Verb) × (len : ℕ) × IsHead line verb len × (body_limit < len) → HasNone bytes
none_if_long bytes line behind is short says verb frame body rest f e =
    long_opens_none (line ++ 10 ∷ []) behind f.head (body ++ 10 ∷ rest) verb (length body)
    (says.0, says.1, record { line = line; is = refl; short = short; head = says.2 }, says.3) f.opens f.fits (behind_feed line behind ∙ sym is ∙ e ∙ opened frame rest verb body f)

module _ (bytes line behind : List ℕ) (is : bytes ≡ line ++ 10 ∷ behind) (short : length line ≤ 32) (says : Verb) (size : ℕ) (head : IsHead line says size) (fits : size ≤ body_limit) where
  opens : IsHeadLine (line ++ 10 ∷ []) says size
  opens = record { line = line; is = refl; short = short; head = head }

  -- where the body or what stands behind it is cut
  pub none_if_cut : length behind ≤ size → HasNone bytes
  none_if_cut cut verb frame body rest f e =
      open_holds_none ((line ++ 10 ∷ []) ++ behind) f.head body rest 10 verb
      (record { head = line ++ 10 ∷ []; verb = says; len = size; opens = opens; fits = fits; part = behind; short = cut; is = refl }) f.opens
      (behind_feed line behind ∙ sym is ∙ e ∙ opened frame rest verb body f)

  module _ (byte : ℕ) (within : size < length behind) (at : get_or behind size 0 ≡ byte) where
    body_is : length (take size behind) ≡ size
    body_is = length-take-le size behind (omega (arith, within))

    abbrev more : List ℕ
    more = take (length behind - (size + 1)) (drop (size + 1) behind)

    parts : bytes ≡ (((line ++ 10 ∷ []) ++ take size behind) ++ byte ∷ []) ++ more
    parts =
        is ∙ sym (behind_feed line behind)
        ∙ ap (λ l. (line ++ 10 ∷ []) ++ l) (subst (λ b. behind ≡ take size behind ++ b ∷ take (length behind - (size + 1)) (drop (size + 1) behind)) at (parted_at behind size within))
        ∙ sym (behind_head (line ++ 10 ∷ []) (take size behind) (take (length behind - (size + 1)) (drop (size + 1) behind)) byte)

    -- where another byte than a line feed stands behind the body
    pub none_if_overrun : (byte ≡ 10 → ⊥) → HasNone bytes
    none_if_overrun other verb frame body rest f e =
        overrun_stays _ more frame rest verb body (overrun (line ++ 10 ∷ []) (take size behind) says size byte opens fits body_is other) f (sym parts ∙ e)

  -- a frame that is whole
  pub one_if_whole : size < length behind → get_or behind size 0 ≡ 10
      → (frame : List ℕ) × IsFrame frame says (take size behind) × (bytes ≡ frame ++ take (length behind - (size + 1)) (drop (size + 1) behind))
  one_if_whole within at =
      (_, whole_frame (line ++ 10 ∷ []) (take size behind) says size opens fits (body_is 10 within at), parts 10 within at)
