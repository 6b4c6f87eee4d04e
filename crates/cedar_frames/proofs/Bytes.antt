-- Steps of readers and writers, one after another.
use Rattle.std.proofs.Common.{◌≡◌, ℕ, List, [], ◌∷◌, ◌++◌, length, arith, ◌<◌, take, drop, ◌+◌, refl, sym, ap, ◌∙◌, append_assoc, subst, true, false, Option, Some, None, append-nil, length-append, ◌-◌}
use Rattle.std.proofs.Math.Seq.{take-add, take-length}
use Rattle.std.proofs.lemmas.List.{length-drop, take-append-drop}
use Rattle.std.specs.Io.KnownBytes.{Appends, Consumes, Keeps}
use Rattle.cedar_frames.specs.declared.watched.Calls.{Calls}
use Rattle.cedar_frames.specs.declared.watched.Calls.TheVariants.{Sound, Failed, Late}
use Rattle.cedar_frames.specs.Watching.{have_failed, are_late}
use Rattle.cedar_frames.specs.Writing.{Puts}

pub appends_more : (a b c : Option (List ℕ)) (x y : List ℕ) → Appends a b x → Appends b c y → Appends a c (x ++ y)
appends_more None b c x y p q = tt
appends_more (Some xs) None c x y p q = absurd p
appends_more (Some xs) (Some ys) None x y p q = absurd q
appends_more (Some xs) (Some ys) (Some zs) x y p q = q ∙ ap (λ l. l ++ y) p ∙ append_assoc xs x y

pub consumes_more : (a b c : Option (List ℕ)) (x y : List ℕ) → Consumes a b x → Consumes b c y → Consumes a c (x ++ y)
consumes_more None b c x y p q = tt
consumes_more (Some xs) None c x y p q = absurd p
consumes_more (Some xs) (Some ys) None x y p q = absurd q
consumes_more (Some xs) (Some ys) (Some zs) x y p q = p ∙ ap (λ l. x ++ l) q ∙ sym (append_assoc x y zs)

pub appends_part : (a b c : Option (List ℕ)) (bytes : List ℕ) (at count : ℕ) → Appends a b (take at bytes) → Appends b c (take count (drop at bytes)) → Appends a c (take (at + count) bytes)
appends_part a b c bytes at count p q = subst (Appends a c) (sym (take-add at count bytes)) (appends_more a b c (take at bytes) (take count (drop at bytes)) p q)

pub consumes_part : (a b c : Option (List ℕ)) (bytes : List ℕ) (at count : ℕ) → Consumes a b (take at bytes) → Consumes b c (take count (drop at bytes)) → Consumes a c (take (at + count) bytes)
consumes_part a b c bytes at count p q = subst (Consumes a c) (sym (take-add at count bytes)) (consumes_more a b c (take at bytes) (take count (drop at bytes)) p q)

-- what keeps the bytes consumes none and appends none
pub keeps_consumes : (a b : Option (List ℕ)) → Keeps a b → Consumes a b []
keeps_consumes None b p = tt
keeps_consumes (Some xs) None p = absurd p
keeps_consumes (Some xs) (Some ys) p = sym p

pub keeps_appends : (a b : Option (List ℕ)) → Keeps a b → Appends a b []
keeps_appends None b p = tt
keeps_appends (Some xs) None p = absurd p
keeps_appends (Some xs) (Some ys) p = p ∙ sym (append-nil xs)

pub appends_kept : (a b c : Option (List ℕ)) (x : List ℕ) → Appends a b x → Keeps b c → Appends a c x
appends_kept a b c x p q = subst (Appends a c) (append-nil x) (appends_more a b c x [] p (keeps_appends b c q))

-- `&bytes[at..]`, as a proof sees it
pub tail_is_drop : (bytes : List ℕ) (at : ℕ) → take (length bytes - at) (drop at bytes) ≡ drop at bytes
tail_is_drop bytes at = ap (λ n. take n (drop at bytes)) (sym (length-drop at bytes)) ∙ take-length (drop at bytes)

-- a write of `&bytes[at..]` that took count
pub appends_tail : (a b c : Option (List ℕ)) (bytes : List ℕ) (at count : ℕ) → Appends a b (take at bytes) → Appends b c (take count (take (length bytes - at) (drop at bytes))) → Appends a c (take (at + count) bytes)
appends_tail a b c bytes at count p q = appends_part a b c bytes at count p (subst (λ l. Appends b c (take count l)) (tail_is_drop bytes at) q)

pub consumes_none : (a b c : Option (List ℕ)) (x : List ℕ) → Consumes a b x → Consumes b c [] → Consumes a c x
consumes_none a b c x p q = subst (Consumes a c) (append-nil x) (consumes_more a b c x [] p q)

pub not_nil : (xs : List ℕ) → 0 < length xs → xs ≡ [] → ⊥
not_nil [] h e = omega (arith, h)
not_nil (x ∷ xs) h e = cc

pub keeps_more : (a b c : Option (List ℕ)) → Keeps a b → Keeps b c → Keeps a c
keeps_more None b c p q = tt
keeps_more (Some xs) None c p q = absurd p
keeps_more (Some xs) (Some ys) None p q = absurd q
keeps_more (Some xs) (Some ys) (Some zs) p q = q ∙ p

keeps_itself : (a : Option (List ℕ)) → Keeps a a
keeps_itself None = tt
keeps_itself (Some xs) = refl

-- where nothing is put, nothing changes
pub puts_nothing : (f : Calls) (a : Option (List ℕ)) → Puts f a f a []
puts_nothing Sound a = keeps_appends a a (keeps_itself a)
puts_nothing Failed a = keeps_itself a
puts_nothing Late a = keeps_itself a

-- what is put one after the other is put as one
pub puts_more : (f0 f1 f2 : Calls) (a b c : Option (List ℕ)) (x y : List ℕ) → Puts f0 a f1 b x → Puts f1 b f2 c y → Puts f0 a f2 c (x ++ y)
puts_more Sound Sound Sound a b c x y p q = appends_more a b c x y p q
puts_more Sound Sound Failed a b c x y p q = (x ++ q.0, q.1, ap (λ l. x ++ l) q.2 ∙ sym (append_assoc x q.0 q.1), q.3, appends_more a b c x q.0 p q.4)
puts_more Sound Sound Late a b c x y p q = absurd q
puts_more Sound Failed Sound a b c x y p q = absurd q
puts_more Sound Failed Failed a b c x y p q =
    (p.0, p.1 ++ y, ap (λ l. l ++ y) p.2 ∙ append_assoc p.0 p.1 y, omega (arith, p.3, length-append p.1 y), appends_kept a b c p.0 p.4 q)
puts_more Sound Failed Late a b c x y p q = absurd q
puts_more Sound Late f2 a b c x y p q = absurd p
puts_more Failed Sound f2 a b c x y p q = absurd p
puts_more Failed Failed Sound a b c x y p q = absurd q
puts_more Failed Failed Failed a b c x y p q = keeps_more a b c p q
puts_more Failed Failed Late a b c x y p q = absurd q
puts_more Failed Late f2 a b c x y p q = absurd p
puts_more Late Sound f2 a b c x y p q = absurd p
puts_more Late Failed f2 a b c x y p q = absurd p
puts_more Late Late Sound a b c x y p q = absurd q
puts_more Late Late Failed a b c x y p q = absurd q
puts_more Late Late Late a b c x y p q = keeps_more a b c p q

-- a writer that had failed isn't called
pub puts_none : (f : Calls) (a : Option (List ℕ)) (text : List ℕ) → have_failed f ≡ true → Puts f a f a text
puts_none Sound a text h = cc
puts_none Failed a text h = keeps_itself a
puts_none Late a text h = keeps_itself a

-- one that didn't fail takes the text whole
pub puts_whole : (f0 f1 : Calls) (a b : Option (List ℕ)) (text : List ℕ) → have_failed f0 ≡ false → have_failed f1 ≡ false → Appends a b text → Puts f0 a f1 b text
puts_whole Sound Sound a b text h k p = p
puts_whole Sound Failed a b text h k p = cc
puts_whole Sound Late a b text h k p = cc
puts_whole Failed f1 a b text h k p = cc
puts_whole Late f1 a b text h k p = cc

-- one that fails on the way takes a beginning
pub puts_part : (f0 f1 : Calls) (a b : Option (List ℕ)) (part more : List ℕ) → have_failed f0 ≡ false → have_failed f1 ≡ true → are_late f1 ≡ false → 0 < length more → Appends a b part
    → Puts f0 a f1 b (part ++ more)
puts_part Sound Sound a b part more h k l some p = cc
puts_part Sound Failed a b part more h k l some p = (part, more, refl, some, p)
puts_part Sound Late a b part more h k l some p = cc
puts_part Failed f1 a b part more h k l some p = cc
puts_part Late f1 a b part more h k l some p = cc

-- a write that fails behind some of the bytes
pub puts_until : (f0 f1 : Calls) (a b c : Option (List ℕ)) (bytes : List ℕ) (at : ℕ) → have_failed f0 ≡ false → have_failed f1 ≡ true → are_late f1 ≡ false → at < length bytes
    → Appends a b (take at bytes) → Keeps b c → Puts f0 a f1 c bytes
puts_until f0 f1 a b c bytes at h k l less p q =
    let some : 0 < length (drop at bytes) = omega (arith, less, length-drop at bytes) in
    subst (λ text. Puts f0 a f1 c text) (take-append-drop at bytes) (puts_part f0 f1 a c (take at bytes) (drop at bytes) h k l some (appends_kept a b c (take at bytes) p q))

-- Of what was put: all of it where the writer didn't fail, and a beginning at least.
pub puts_all : (f0 f1 : Calls) (a b : Option (List ℕ)) (text : List ℕ) → Puts f0 a f1 b text → have_failed f0 ≡ false → have_failed f1 ≡ false → Appends a b text
puts_all Sound Sound a b text p h k = p
puts_all Sound Failed a b text p h k = cc
puts_all Sound Late a b text p h k = cc
puts_all Failed f1 a b text p h k = cc
puts_all Late f1 a b text p h k = cc

pub puts_some : (f0 f1 : Calls) (a b : Option (List ℕ)) (text : List ℕ) → Puts f0 a f1 b text → have_failed f0 ≡ false → (part more : List ℕ) × (text ≡ part ++ more) × Appends a b part
puts_some Sound Sound a b text p h = (text, [], sym (append-nil text), p)
puts_some Sound Failed a b text p h = (p.0, p.1, p.2, p.4)
puts_some Sound Late a b text p h = absurd p
puts_some Failed f1 a b text p h = cc
puts_some Late f1 a b text p h = cc

-- and no call is made behind a failure
pub puts_in_time : (f0 f1 : Calls) (a b : Option (List ℕ)) (text : List ℕ) → Puts f0 a f1 b text → are_late f1 ≡ are_late f0
puts_in_time Sound Sound a b text p = refl
puts_in_time Sound Failed a b text p = refl
puts_in_time Sound Late a b text p = absurd p
puts_in_time Failed Sound a b text p = absurd p
puts_in_time Failed Failed a b text p = refl
puts_in_time Failed Late a b text p = absurd p
puts_in_time Late Sound a b text p = absurd p
puts_in_time Late Failed a b text p = absurd p
puts_in_time Late Late a b text p = refl

-- where no call failed, none was made behind one that did
pub sound_in_time : (f : Calls) → have_failed f ≡ false → are_late f ≡ false
sound_in_time Sound h = refl
sound_in_time Failed h = cc
sound_in_time Late h = cc

-- nothing was read, and nothing was put
pub consumes_nothing : (a : Option (List ℕ)) → Consumes a a []
consumes_nothing None = tt
consumes_nothing (Some xs) = refl

pub appends_nothing : (a : Option (List ℕ)) → Appends a a []
appends_nothing None = tt
appends_nothing (Some xs) = sym (append-nil xs)
