-- What is gathered of the entities that unknowns stand for.
use Rattle.std.proofs.Common.{◌≡◌, Bool, true, false, cond, ◌||◌, ◌⊎◌, inl, inr, Option, None, Result, Ok, Err, IfOk, IfSome, OnOk, refl, sym, ap, subst, ◌∙◌}
use Rattle.std.specs.Ordering.{eq_by_cmp}
use Rattle.std.specs.Cmp.Lexicographic.{bytes_decides}
use Rattle.std.proofs.lemmas.Bool.{false≢true}
use Rattle.cedar_language.specs.Uid.{Text, Name, Uid}
use Rattle.cedar_language.specs.Order.{same_text, same_uid, uid_cmp}
use Rattle.cedar_language.specs.Tree.{ValueType}
use Rattle.cedar_names.specs.Names.{is_reserved_name}
use Rattle.cedar_literals.specs.Escapes.{uid_text}
use Rattle.cedar_literals.specs.Laws.{uid_cmp_ties}
use Rattle.cedar_names.specs.declared.errors.ParseNameError.{ParseNameError}
use Rattle.cedar_names.specs.declared.errors.ParseNameError.TheVariants.{NotNormalized, Reserved, Memory}
use Rattle.cedar_literals.specs.Reading.{SpellsUid, IsNoUid, SpellsReserved, ReadsUid}
use Rattle.std.specs.Str.{IsUtf8}
use Rattle.cedar_literals.proofs.Sameness.{uids_same}
use Rattle.cedar_literals.proofs.Cutting.{types_alike, told_apart}
use Rattle.cedar_policies.specs.Unknowns.{IsWrittenUid, is_memory, is_of_entities, stands_for, stands_for_found}
use Rattle.cedar_lemmas.proofs.Booleans.{same_both}

test : (b : Bool) → (b ≡ true) ⊎ (b ≡ false)
test true = inl refl
test false = inr refl

of_entities : (n : Text) (ty : Option ValueType) (u : Uid) → is_of_entities ty ≡ true → stands_for (n, ty) u ≡ same_text n (uid_text u)
of_entities n ty u h = rw h refl

pub found_named : (n : Text) (ty : Option ValueType) (v u : Uid) → is_of_entities ty ≡ true → SpellsUid v n → IsUtf8 v.id → IsWrittenUid u → same_uid v u ≡ stands_for (n, ty) u
found_named n ty v u h spells utf8 ok =
    same_both (same_uid v u) (same_text n (uid_text u))
    (λ e. (bytes_decides n (uid_text u)).1 (sym spells.1 ∙ ap uid_text ((uids_same v u).0 e)))
    (λ e. (uids_same v u).1 (told_apart v u spells.0 ok.0 utf8 ok.2 (spells.1 ∙ (bytes_decides n (uid_text u)).0 e)))
    ∙ sym (of_entities n ty u h)

unnamed : (n : Text) (u : Uid) → (n ≡ uid_text u → ⊥) → false ≡ same_text n (uid_text u)
unnamed n u other = same_both false (same_text n (uid_text u)) (λ e. absurd (false≢true e)) (λ e. absurd (other ((bytes_decides n (uid_text u)).0 e)))

pub none_named : (n : Text) (ty : Option ValueType) (u : Uid) → is_of_entities ty ≡ true → IsNoUid n → IsWrittenUid u → false ≡ stands_for (n, ty) u
none_named n ty u h none ok = unnamed n u (λ e. none u ok.0 (sym e)) ∙ sym (of_entities n ty u h)

pub reserved_named : (n : Text) (ty : Option ValueType) (m : Name) (u : Uid) → is_of_entities ty ≡ true → SpellsReserved m n → IsWrittenUid u → false ≡ stands_for (n, ty) u
reserved_named n ty m u h spells ok =
    unnamed n u (λ e.
    let types = types_alike (record { type_name = m; id = spells.0 }) u spells.1.0 ok.0 (spells.1.1 ∙ e) in
    false≢true (sym ok.1 ∙ ap is_reserved_name (sym types.0) ∙ spells.2))
    ∙ sym (of_entities n ty u h)

pub refused_named : (n : Text) (ty : Option ValueType) (e : ParseNameError) (u : Uid) → is_of_entities ty ≡ true → ReadsUid n (Err e) → is_memory e ≡ false → IsWrittenUid u → false ≡ stands_for (n, ty) u
refused_named n ty NotNormalized u h r not ok = none_named n ty u h r ok
refused_named n ty (Reserved e) u h r not ok = reserved_named n ty e.name u h r ok
refused_named n ty (Memory e) u h r not ok = absurd (false≢true (sym not))

pub refused_any : {X : Type 0} (n : Text) (ty : Option ValueType) (e : ParseNameError) → is_of_entities ty ≡ true → ReadsUid n (Err e) → (r : Result (Option Uid) X) → IfOk r (λ found. found ≡ None) → OnOk r (is_memory e ≡ false)
    → IfOk r (λ found. (u : Uid) → IsWrittenUid u → stands_for_found found u ≡ stands_for (n, ty) u)
refused_any n ty e h r (Ok found) none not = λ u ok. ap (λ o. stands_for_found o u) none ∙ refused_named n ty e u h r not ok
refused_any n ty e h r (Err x) none not = tt

-- a uid that is read from a text is written so
pub read_written : (n : Text) (v : Uid) → ReadsUid n (Ok v) → IsWrittenUid v
read_written n v r = (r.0.0, r.2, r.1)

pub none_written : {X : Type 0} (r : Result (Option Uid) X) → IfOk r (λ found. found ≡ None) → IfOk r (λ found. IfSome found IsWrittenUid)
none_written (Ok found) none = subst (λ o. IfSome o IsWrittenUid) (sym none) tt
none_written (Err x) none = tt

pub no_entities : (x : Text × Option ValueType) (u : Uid) → is_of_entities x.1 ≡ false → false ≡ stands_for x u
no_entities x u h = rw h refl

-- ---- one more unknown

put : (a b : Bool) → cond a true b ≡ (b || a)
put true true = refl
put true false = refl
put false true = refl
put false false = refl

turn : (held now first more all : Bool) → now ≡ (held || first) → (held || (first || more)) ≡ all → (now || more) ≡ all
turn true now first more all e h = rw e h
turn false now true more all e h = rw e h
turn false now false more all e h = rw e h

pub turn_found : (v u : Uid) (held now first more all : Bool) → now ≡ cond (eq_by_cmp uid_cmp v u) true held → same_uid v u ≡ first → (held || (first || more)) ≡ all → (now || more) ≡ all
turn_found v u held now first more all e f h =
    turn held now first more all (e ∙ ap (λ b. cond b true held) (sym (uid_cmp_ties v u) ∙ f) ∙ put first held) h

pub turn_none : (held first more all : Bool) → false ≡ first → (held || (first || more)) ≡ all → (held || more) ≡ all
turn_none held first more all f h = turn held held first more all (stays held ∙ ap (λ b. held || b) f) h
  where
    stays : (b : Bool) → b ≡ (b || false)
    stays true = refl
    stays false = refl

pub written_more : (v u : Uid) (held now : Bool) → now ≡ cond (eq_by_cmp uid_cmp v u) true held → IsWrittenUid v → (held ≡ true → IsWrittenUid u) → now ≡ true → IsWrittenUid u
written_more v u held now e w old h = by (eq_by_cmp uid_cmp v u) refl
  where
    by : (b : Bool) → eq_by_cmp uid_cmp v u ≡ b → IsWrittenUid u
    by true same = subst IsWrittenUid ((uids_same v u).0 (uid_cmp_ties v u ∙ same)) w
    by false other = old (sym (e ∙ ap (λ b. cond b true held) other) ∙ h)
