-- What stands at the front of some bytes is one frame, or none.
use Rattle.std.proofs.Common.{◌≡◌, ◌≢◌, ℕ, List, [], ◌∷◌, ◌++◌, ◌<◌, ◌≤◌, ◌+◌, length, take, drop, append_assoc, append-nil, length-append, refl, sym, ap, ◌∙◌, subst, true, arith, inl, inr, not, nat_le, ◌==◌}
use Rattle.std.proofs.Math.Seq.{take-append_seam, drop-append_seam}
use Rattle.std.proofs.lemmas.Grind.{common_steps}
use Rattle.std.specs.Char.{is_ascii_digit}
use Rattle.std.specs.Str.{all_ascii_digits}
use Rattle.cedar_frames.specs.declared.verb.Verb.{Verb}
use Rattle.cedar_frames.specs.declared.fault.Fault.TheVariants.{BadHead, TooLong, Truncated, NoLineFeed, TooMany}
use Rattle.cedar_frames.specs.Heads.{verb_name, lacks, IsHead, body_limit}
use Rattle.cedar_frames.specs.Frames.{IsHeadLine, IsFrame, IsOpenFrame, IsOverrun, IsBadLine, IsEndless, IsPartialLine, IsPartial, IsFault}
use Rattle.cedar_frames.specs.Laws.{AFrameIsOne, FramesBegin, FramesAreOne, FaultsHoldNoFrame, FaultsStay, FaultsAreOne}
use Rattle.cedar_frames.proofs.Heads.{and_parts, first_split, no_such, head_is_one, name_lacks_feed, numeral_digits}

-- ---- a head line at the front

digits_lack_feed : (digits : List ℕ) → all_ascii_digits digits ≡ true → lacks 10 digits ≡ true
digits_lack_feed [] h = refl
digits_lack_feed (b ∷ bs) h =
    let p = and_parts (is_ascii_digit b) (all_ascii_digits bs) h in
    let rest = digits_lack_feed bs p.1 in
    let low = and_parts (nat_le 48 b) (nat_le b 57) p.0 in grind (arith, common_steps)

lacks-append : (byte : ℕ) (xs ys : List ℕ) → lacks byte xs ≡ true → lacks byte ys ≡ true → lacks byte (xs ++ ys) ≡ true
lacks-append byte [] ys p q = q
lacks-append byte (x ∷ xs) ys p q =
    let r = and_parts (not (x == byte)) (lacks byte xs) p in
    let s = lacks-append byte xs ys r.1 q in grind (arith, common_steps)

head_lacks_feed : (line : List ℕ) (verb : Verb) (len : ℕ) → IsHead line verb len → lacks 10 line ≡ true
head_lacks_feed line verb len h =
    let digits = digits_lack_feed h.0 (numeral_digits h.0 h.2) in
    let tail : lacks 10 (32 ∷ h.0) ≡ true = digits in
    subst (λ l. lacks 10 l ≡ true) (sym h.1) (lacks-append 10 (verb_name verb) (32 ∷ h.0) (name_lacks_feed verb) tail)

-- the parts of what stands behind a line feed
pub behind_feed : (line x : List ℕ) → (line ++ 10 ∷ []) ++ x ≡ line ++ 10 ∷ x
behind_feed line x = append_assoc line (10 ∷ []) x

same_line : (line line' x y : List ℕ) → lacks 10 line ≡ true → lacks 10 line' ≡ true → (line ++ 10 ∷ []) ++ x ≡ (line' ++ 10 ∷ []) ++ y → (line ≡ line') × (x ≡ y)
same_line line line' x y p q e = first_split 10 line x line' y p q (sym (behind_feed line x) ∙ e ∙ behind_feed line' y)

-- two head lines at the front of the same bytes are one
same_head : (a b x y : List ℕ) (verb verb' : Verb) (len len' : ℕ) → IsHeadLine a verb len → IsHeadLine b verb' len' → a ++ x ≡ b ++ y
    → (a ≡ b) × (verb ≡ verb') × (len ≡ len') × (x ≡ y)
same_head a b x y verb verb' len len' h k e =
    let joined : (h.line ++ 10 ∷ []) ++ x ≡ (k.line ++ 10 ∷ []) ++ y = sym (ap (λ l. l ++ x) h.is) ∙ e ∙ ap (λ l. l ++ y) k.is in
    let same = same_line h.line k.line x y (head_lacks_feed h.line verb len h.head) (head_lacks_feed k.line verb' len' k.head) joined in
    let said = head_is_one k.line verb verb' len len' (subst (λ l. IsHead l verb len) same.0 h.head) k.head in
    (h.is ∙ ap (λ l. l ++ 10 ∷ []) same.0 ∙ sym k.is, said.0, said.1, same.1)

-- two beginnings of one length are one
same_part : (a b x y : List ℕ) → length a ≡ length b → a ++ x ≡ b ++ y → (a ≡ b) × (x ≡ y)
same_part a b x y n e = (
  sym (take-append_seam a x) ∙ ap (λ l. take (length a) l) e ∙ ap (λ n. take n (b ++ y)) n ∙ take-append_seam b y,
  sym (drop-append_seam a x) ∙ ap (λ l. drop (length a) l) e ∙ ap (λ n. drop n (b ++ y)) n ∙ drop-append_seam b y,
)

-- what stands behind the head line of a frame
pub behind_head : (head body x : List ℕ) (byte : ℕ) → ((head ++ body) ++ byte ∷ []) ++ x ≡ head ++ (body ++ byte ∷ x)
behind_head head body x byte = append_assoc (head ++ body) (byte ∷ []) x ∙ append_assoc head body (byte ∷ x)

pub opened : (frame x : List ℕ) (verb : Verb) (body : List ℕ) (f : IsFrame frame verb body) → frame ++ x ≡ f.head ++ (body ++ 10 ∷ x)
opened frame x verb body f = ap (λ l. l ++ x) f.is ∙ behind_head f.head body x 10

overrun_opened : (shown x : List ℕ) (w : IsOverrun shown) → shown ++ x ≡ w.head ++ (w.body ++ w.byte ∷ x)
overrun_opened shown x w = ap (λ l. l ++ x) w.is ∙ behind_head w.head w.body x w.byte

-- ---- frames

pub a_frame_is_one : AFrameIsOne
a_frame_is_one frame other x y verb verb' body body' f k e =
    let heads = same_head f.head k.head (body ++ 10 ∷ x) (body' ++ 10 ∷ y) verb verb' (length body) (length body') f.opens k.opens (sym (opened frame x verb body f) ∙ e ∙ opened other y verb' body' k) in
    let bodies = same_part body body' (10 ∷ x) (10 ∷ y) heads.2 heads.3 in
    let tails : x ≡ y = let feeds = bodies.1 in cc in
    let heads_are : f.head ++ body ≡ k.head ++ body' = ap (λ l. l ++ body) heads.0 ∙ ap (λ l. k.head ++ l) bodies.0 in
    (f.is ∙ ap (λ l. l ++ 10 ∷ []) heads_are ∙ sym k.is, heads.1, bodies.0, tails)

pub frames_begin : FramesBegin
frames_begin [] more a b x y p q n e = (more, b, refl, q, ap (λ l. l ++ b) (sym p))
frames_begin (c ∷ cs) [] a b x y p q n e = absurd (omega (arith, n))
frames_begin ((verb, body) ∷ cs) ((verb', body') ∷ ds) a b x y p q n e =
    let split : p.0 ++ (p.1 ++ x) ≡ q.0 ++ (q.1 ++ y) = sym (append_assoc p.0 p.1 x) ∙ ap (λ l. l ++ x) (sym p.4) ∙ e ∙ ap (λ l. l ++ y) q.4 ∙ append_assoc q.0 q.1 y in
    let one = a_frame_is_one p.0 q.0 (p.1 ++ x) (q.1 ++ y) verb verb' body body' p.2 q.2 split in
    let rest = frames_begin cs ds p.1 q.1 x y p.3 q.3 (omega (arith, n)) one.3 in
    let joined : b ≡ a ++ rest.1 = q.4 ∙ ap (λ l. l ++ q.1) (sym one.0) ∙ ap (λ l. p.0 ++ l) rest.4 ∙ sym (append_assoc p.0 p.1 rest.1) ∙ ap (λ l. l ++ rest.1) (sym p.4) in
    (rest.0, rest.1, cc, rest.3, joined)

pub frames_are_one : FramesAreOne
frames_are_one [] [] a b x y p q n e = (refl, p ∙ sym q, sym (ap (λ l. l ++ x) p) ∙ e ∙ ap (λ l. l ++ y) q)
frames_are_one [] (d ∷ ds) a b x y p q n e = absurd (omega (arith, n))
frames_are_one (c ∷ cs) [] a b x y p q n e = absurd (omega (arith, n))
frames_are_one ((verb, body) ∷ cs) ((verb', body') ∷ ds) a b x y p q n e =
    let split : p.0 ++ (p.1 ++ x) ≡ q.0 ++ (q.1 ++ y) = sym (append_assoc p.0 p.1 x) ∙ ap (λ l. l ++ x) (sym p.4) ∙ e ∙ ap (λ l. l ++ y) q.4 ∙ append_assoc q.0 q.1 y in
    let one = a_frame_is_one p.0 q.0 (p.1 ++ x) (q.1 ++ y) verb verb' body body' p.2 q.2 split in
    let rest = frames_are_one cs ds p.1 q.1 x y p.3 q.3 (omega (arith, n)) one.3 in
    let joined : a ≡ b = p.4 ∙ ap (λ l. l ++ p.1) one.0 ∙ ap (λ l. q.0 ++ l) rest.1 ∙ sym q.4 in
    (cc, joined, rest.2)

-- ---- faults

-- a line feed that stands further in front
pub feed_within : (shown behind line more : List ℕ) → lacks 10 shown ≡ true → length line < length shown → shown ++ behind ≡ line ++ 10 ∷ more → ⊥
feed_within [] behind line more p h e = omega (arith, h)
feed_within (c ∷ s) behind [] more p h e = let same : c ≡ 10 = cc in let r = and_parts (not (c == 10)) (lacks 10 s) p in grind (arith, common_steps)
feed_within (c ∷ s) behind (d ∷ line) more p h e =
    let tails : s ++ behind ≡ line ++ 10 ∷ more = cc in
    feed_within s behind line more (and_parts (not (c == 10)) (lacks 10 s) p).1 (omega (arith, h)) tails

-- the first line of what a head line opens
pub first_line : (head x : List ℕ) (verb : Verb) (len : ℕ) (h : IsHeadLine head verb len) → head ++ x ≡ h.line ++ 10 ∷ x
first_line head x verb len h = ap (λ l. l ++ x) h.is ∙ behind_feed h.line x

endless_opens_none : (shown behind head x : List ℕ) (verb : Verb) (len : ℕ) → IsEndless shown → IsHeadLine head verb len → shown ++ behind ≢ head ++ x
endless_opens_none shown behind head x verb len w h e =
    let short = h.short in
    feed_within shown behind h.line x w.1 (omega (arith, w.0, short)) (e ∙ first_line head x verb len h)

pub bad_line_opens_none : (shown behind head x : List ℕ) (verb : Verb) (len : ℕ) → IsBadLine shown → IsHeadLine head verb len → shown ++ behind ≢ head ++ x
bad_line_opens_none shown behind head x verb len w h e =
    let split : w.line ++ 10 ∷ behind ≡ h.line ++ 10 ∷ x = sym (behind_feed w.line behind) ∙ sym (ap (λ l. l ++ behind) w.is) ∙ e ∙ first_line head x verb len h in
    let same = first_split 10 w.line behind h.line x w.whole (head_lacks_feed h.line verb len h.head) split in
    w.none verb len (subst (λ l. IsHead l verb len) (sym same.0) h.head)

-- what is no head begins nothing that a head line opens
bad_opens_none : (shown behind head x : List ℕ) (verb : Verb) (len : ℕ) → IsFault BadHead shown → IsHeadLine head verb len → shown ++ behind ≢ head ++ x
bad_opens_none shown behind head x verb len is h e =
    elim is [ inl w ↦ endless_opens_none shown behind head x verb len w h e | inr w ↦ bad_line_opens_none shown behind head x verb len w h e ]

-- a head line says one length
pub long_opens_none : (shown behind head x : List ℕ) (verb : Verb) (len : ℕ) → IsFault TooLong shown → IsHeadLine head verb len → len ≤ body_limit → shown ++ behind ≢ head ++ x
long_opens_none shown behind head x verb len is h fits e =
    let same = same_head shown head behind x is.0 verb is.1 len is.2 h e in omega (arith, same.2, is.3, fits)

-- no head line stands where no line feed does
part_opens_none : (shown head x : List ℕ) (verb : Verb) (len : ℕ) → IsPartialLine shown → IsHeadLine head verb len → shown ≢ head ++ x
part_opens_none shown head x verb len w h e = no_such 10 h.line x (subst (λ l. lacks 10 l ≡ true) (e ∙ first_line head x verb len h) w.1)

-- a part of a body holds no byte behind the body
pub open_holds_none : (shown head body x : List ℕ) (byte : ℕ) (verb : Verb) → IsOpenFrame shown → IsHeadLine head verb (length body) → shown ≢ head ++ (body ++ byte ∷ x)
open_holds_none shown head body x byte verb w h e =
    let same = same_head w.head head w.part (body ++ byte ∷ x) w.verb verb w.len (length body) w.opens h (sym w.is ∙ e) in
    let short = w.short in
    let long : length w.part ≡ length body + length (byte ∷ x) = ap length same.3 ∙ length-append body (byte ∷ x) in
    omega (arith, same.2)

-- so no beginning of a frame holds one whole, nor a byte behind its body
partial_holds_none : (shown head body x : List ℕ) (byte : ℕ) (verb : Verb) → IsPartial shown → IsHeadLine head verb (length body) → shown ≢ head ++ (body ++ byte ∷ x)
partial_holds_none shown head body x byte verb is h e =
    elim is [ inl w ↦ part_opens_none shown head (body ++ byte ∷ x) verb (length body) w h e | inr w ↦ open_holds_none shown head body x byte verb w h e ]

-- the last byte of an overrun is no line feed
pub overrun_stays : (shown behind frame rest : List ℕ) (verb : Verb) (body : List ℕ) → IsOverrun shown → IsFrame frame verb body → shown ++ behind ≢ frame ++ rest
overrun_stays shown behind frame rest verb body w f e =
    let split : w.head ++ (w.body ++ w.byte ∷ behind) ≡ f.head ++ (body ++ 10 ∷ rest) = sym (overrun_opened shown behind w) ∙ e ∙ opened frame rest verb body f in
    let same = same_head w.head f.head (w.body ++ w.byte ∷ behind) (body ++ 10 ∷ rest) w.verb verb (length w.body) (length body) w.opens f.opens split in
    let bodies = same_part w.body body (w.byte ∷ behind) (10 ∷ rest) same.2 same.3 in
    let feeds = bodies.1 in
    w.other (cc)

-- what a cut input holds is all of it
cut : (shown behind all : List ℕ) → behind ≡ [] → shown ++ behind ≡ all → shown ≡ all
cut shown behind all end e = sym (ap (λ l. shown ++ l) end ∙ append-nil shown) ∙ e

pub faults_stay : FaultsStay
faults_stay BadHead shown behind frame rest verb body end m is f e = bad_opens_none shown behind f.head (body ++ 10 ∷ rest) verb (length body) is f.opens (e ∙ opened frame rest verb body f)
faults_stay TooLong shown behind frame rest verb body end m is f e = long_opens_none shown behind f.head (body ++ 10 ∷ rest) verb (length body) is f.opens f.fits (e ∙ opened frame rest verb body f)
faults_stay Truncated shown behind frame rest verb body end m is f e =
    partial_holds_none shown f.head body rest 10 verb is.0 f.opens (cut shown behind _ (end refl) (e ∙ opened frame rest verb body f))
faults_stay NoLineFeed shown behind frame rest verb body end m is f e = overrun_stays shown behind frame rest verb body is f e
faults_stay TooMany shown behind frame rest verb body end m is f e = m refl

byte_holds_none : (shown frame rest : List ℕ) (verb : Verb) (body : List ℕ) → length shown ≡ 1 → IsFrame frame verb body → shown ≢ frame ++ rest
byte_holds_none shown frame rest verb body w f e =
    let split : shown ≡ f.opens.line ++ 10 ∷ (body ++ 10 ∷ rest) = e ∙ opened frame rest verb body f ∙ first_line f.head (body ++ 10 ∷ rest) verb (length body) f.opens in
    let all : length shown ≡ length f.opens.line + length (10 ∷ (body ++ 10 ∷ rest)) = ap length split ∙ length-append f.opens.line (10 ∷ (body ++ 10 ∷ rest)) in
    let behind : length (body ++ 10 ∷ rest) ≡ length body + length (10 ∷ rest) = length-append body (10 ∷ rest) in
    omega arith

pub faults_hold_no_frame : FaultsHoldNoFrame
faults_hold_no_frame BadHead shown frame rest verb body is f e = faults_stay BadHead shown [] frame rest verb body (λ _. refl) (λ h. cc) is f (append-nil shown ∙ e)
faults_hold_no_frame TooLong shown frame rest verb body is f e = faults_stay TooLong shown [] frame rest verb body (λ _. refl) (λ h. cc) is f (append-nil shown ∙ e)
faults_hold_no_frame Truncated shown frame rest verb body is f e = faults_stay Truncated shown [] frame rest verb body (λ _. refl) (λ h. cc) is f (append-nil shown ∙ e)
faults_hold_no_frame NoLineFeed shown frame rest verb body is f e = faults_stay NoLineFeed shown [] frame rest verb body (λ _. refl) (λ h. cc) is f (append-nil shown ∙ e)
faults_hold_no_frame TooMany shown frame rest verb body is f e = byte_holds_none shown frame rest verb body is f e

-- ---- two faults

endless_is_one : (shown other x y : List ℕ) → IsEndless shown → IsEndless other → shown ++ x ≡ other ++ y → shown ≡ other
endless_is_one shown other x y w v e = (same_part shown other x y (w.0 ∙ sym v.0) e).0

endless_is_no_line : (shown other x y : List ℕ) → IsEndless shown → IsBadLine other → shown ++ x ≢ other ++ y
endless_is_no_line shown other x y w v e =
    let short = v.short in
    feed_within shown x v.line y w.1 (omega (arith, w.0, short)) (e ∙ ap (λ l. l ++ y) v.is ∙ behind_feed v.line y)

bad_line_is_one : (shown other x y : List ℕ) → IsBadLine shown → IsBadLine other → shown ++ x ≡ other ++ y → shown ≡ other
bad_line_is_one shown other x y w v e =
    let same = same_line w.line v.line x y w.whole v.whole (sym (ap (λ l. l ++ x) w.is) ∙ e ∙ ap (λ l. l ++ y) v.is) in
    w.is ∙ ap (λ l. l ++ 10 ∷ []) same.0 ∙ sym v.is

bad_is_one : (shown other x y : List ℕ) → IsFault BadHead shown → IsFault BadHead other → shown ++ x ≡ other ++ y → shown ≡ other
bad_is_one shown other x y is also e =
    elim is [
      | inl w ↦ elim also [ inl v ↦ endless_is_one shown other x y w v e | inr v ↦ absurd (endless_is_no_line shown other x y w v e) ]
      | inr w ↦ elim also [ inl v ↦ absurd (endless_is_no_line other shown y x v w (sym e)) | inr v ↦ bad_line_is_one shown other x y w v e ]
    ]

overrun_is_one : (shown other x y : List ℕ) → IsOverrun shown → IsOverrun other → shown ++ x ≡ other ++ y → shown ≡ other
overrun_is_one shown other x y w v e =
    let heads = same_head w.head v.head (w.body ++ w.byte ∷ x) (v.body ++ v.byte ∷ y) w.verb v.verb (length w.body) (length v.body) w.opens v.opens (sym (overrun_opened shown x w) ∙ e ∙ overrun_opened other y v) in
    let bodies = same_part w.body v.body (w.byte ∷ x) (v.byte ∷ y) heads.2 heads.3 in
    let bytes : w.byte ≡ v.byte = let tails = bodies.1 in cc in
    w.is ∙ ap (λ l. (l ++ w.body) ++ w.byte ∷ []) heads.0 ∙ ap (λ l. (v.head ++ l) ++ w.byte ∷ []) bodies.0 ∙ ap (λ b. (v.head ++ v.body) ++ b ∷ []) bytes ∙ sym v.is

bad_line_is_whole : (shown x part : List ℕ) → IsBadLine shown → IsPartialLine part → part ≢ shown ++ x
bad_line_is_whole shown x part w v e = no_such 10 w.line x (subst (λ l. lacks 10 l ≡ true) (e ∙ ap (λ l. l ++ x) w.is ∙ behind_feed w.line x) v.1)

endless_is_longer : (shown x part : List ℕ) → IsEndless shown → IsPartialLine part → part ≢ shown ++ x
endless_is_longer shown x part w v e = let all : length part ≡ length shown + length x = ap length e ∙ length-append shown x in omega (arith, w.0, v.0)

bad_is_not_partial : (shown x part : List ℕ) → IsFault BadHead shown → IsPartial part → part ≢ shown ++ x
bad_is_not_partial shown x part is also e =
    elim also [
      | inl v ↦ elim is [ inl w ↦ endless_is_longer shown x part w v e | inr w ↦ bad_line_is_whole shown x part w v e ]
      | inr v ↦ bad_opens_none shown x v.head v.part v.verb v.len is v.opens (sym e ∙ v.is)
    ]

long_is_not_partial : (shown x part : List ℕ) → IsFault TooLong shown → IsPartial part → part ≢ shown ++ x
long_is_not_partial shown x part is also e =
    elim also [ inl v ↦ part_opens_none part shown x is.0 is.1 v is.2 e | inr v ↦ long_opens_none shown x v.head v.part v.verb v.len is v.opens v.fits (sym e ∙ v.is) ]

overrun_is_not_partial : (shown x part : List ℕ) → IsOverrun shown → IsPartial part → part ≢ shown ++ x
overrun_is_not_partial shown x part w is e = partial_holds_none part w.head w.body x w.byte w.verb is w.opens (e ∙ overrun_opened shown x w)

bad_is_not_long : (shown other x y : List ℕ) → IsFault BadHead shown → IsFault TooLong other → shown ++ x ≢ other ++ y
bad_is_not_long shown other x y is also e = bad_opens_none shown x other y also.0 also.1 is also.2 e

bad_is_not_overrun : (shown other x y : List ℕ) → IsFault BadHead shown → IsOverrun other → shown ++ x ≢ other ++ y
bad_is_not_overrun shown other x y is w e = bad_opens_none shown x w.head (w.body ++ w.byte ∷ y) w.verb (length w.body) is w.opens (e ∙ overrun_opened other y w)

long_is_not_overrun : (shown other x y : List ℕ) → IsFault TooLong shown → IsOverrun other → shown ++ x ≢ other ++ y
long_is_not_overrun shown other x y is w e = long_opens_none shown x w.head (w.body ++ w.byte ∷ y) w.verb (length w.body) is w.opens w.fits (e ∙ overrun_opened other y w)

pub faults_are_one : FaultsAreOne
faults_are_one BadHead BadHead a b x y p q m n is also e = (refl, bad_is_one a b x y is also e)
faults_are_one BadHead TooLong a b x y p q m n is also e = absurd (bad_is_not_long a b x y is also e)
faults_are_one BadHead Truncated a b x y p q m n is also e = absurd (bad_is_not_partial a x b is also.0 (cut b y _ (q refl) (sym e)))
faults_are_one BadHead NoLineFeed a b x y p q m n is also e = absurd (bad_is_not_overrun a b x y is also e)
faults_are_one TooLong BadHead a b x y p q m n is also e = absurd (bad_is_not_long b a y x also is (sym e))
faults_are_one TooLong TooLong a b x y p q m n is also e = (refl, (same_head a b x y is.0 also.0 is.1 also.1 is.2 also.2 e).0)
faults_are_one TooLong Truncated a b x y p q m n is also e = absurd (long_is_not_partial a x b is also.0 (cut b y _ (q refl) (sym e)))
faults_are_one TooLong NoLineFeed a b x y p q m n is also e = absurd (long_is_not_overrun a b x y is also e)
faults_are_one Truncated BadHead a b x y p q m n is also e = absurd (bad_is_not_partial b y a also is.0 (cut a x _ (p refl) e))
faults_are_one Truncated TooLong a b x y p q m n is also e = absurd (long_is_not_partial b y a also is.0 (cut a x _ (p refl) e))
faults_are_one Truncated Truncated a b x y p q m n is also e = (refl, cut a x b (p refl) (sym (cut b y (a ++ x) (q refl) (sym e))))
faults_are_one Truncated NoLineFeed a b x y p q m n is also e = absurd (overrun_is_not_partial b y a also is.0 (cut a x _ (p refl) e))
faults_are_one NoLineFeed BadHead a b x y p q m n is also e = absurd (bad_is_not_overrun b a y x also is (sym e))
faults_are_one NoLineFeed TooLong a b x y p q m n is also e = absurd (long_is_not_overrun b a y x also is (sym e))
faults_are_one NoLineFeed Truncated a b x y p q m n is also e = absurd (overrun_is_not_partial a x b is also.0 (cut b y _ (q refl) (sym e)))
faults_are_one NoLineFeed NoLineFeed a b x y p q m n is also e = (refl, overrun_is_one a b x y is also e)
faults_are_one TooMany other a b x y p q m n is also e = absurd (m refl)
faults_are_one fault TooMany a b x y p q m n is also e = absurd (n refl)
