-- What a maker gave for annotations.
use Rattle.std.proofs.Common.{◌≡◌, Bool, true, false, true≢false, List, [], ◌∷◌, Option, Some, None, Result, Ok, Err, refl, sym, ap, subst, ◌∙◌}
use Rattle.std.specs.Prelude.{cond, is_some, unwrap_or}
use Rattle.std.specs.Cmp.Lexicographic.{slice_cmp}
use Rattle.std.specs.Ordering.{nat_cmp, is_lt}
use Rattle.std.specs.Option.{option_map}
use Rattle.std.specs.Rc.{rc_str_bytes}
use Rattle.std.specs.declared.alloc.Global.{Global}
use Rattle.std.specs.declared.rc.RcStr.{RcStr}
use Rattle.cedar_language.specs.Uid.{Text}
use Rattle.cedar_names.specs.declared.places.Place.{Place}
use Rattle.cedar_grammar.specs.Names.{is_among}
use Rattle.cedar_grammar.specs.Build.{Keyed, keys, put}
use Rattle.cedar_grammar.specs.Steps.{◌>>=◌}
use Rattle.cedar_grammar.specs.Converting.{ident_spelling}
use Rattle.cedar_grammar.specs.Loose as loose
use Rattle.cedar_cst.specs.LeafView.{shown_ident, shown_str}
use Rattle.cedar_cst.specs.View.{view_annotation, shown_annotation}
use Rattle.cedar_cst.specs.declared.cst.Annotation.{Annotation}
use Rattle.cedar_cst.specs.declared.node.Node.{Node}
use Rattle.cedar_faults.specs.declared.errors.ConversionError.{ConversionError}
use Rattle.cedar_faults.specs.Converts.{Given, Lacks, Finds}
use Rattle.cedar_faults.specs.Reasons.{reason}
use Rattle.cedar_policy_conversion.specs.Notes.{Handed, Making, IsMadeAt, AreMade, Makes, put_new, written_value, written_note, placed_note}
use Rattle.cedar_policy_conversion.specs.PartsShow.{annotation_key}
use Rattle.cedar_policy_conversion.proofs.Gathering.{lacks_more}

module _ {T : Type 0} (gives : Making T) where
  -- ---- one annotation

  pair_made : (w : Option (Keyed (Option Text))) (k : Text) (v : Option (RcStr Global)) (place : Option Place) (made : T) → w ≡ Some ((k, option_map rc_str_bytes v)) → gives v place (Ok made)
      → Given (IsMadeAt gives) (k, made) (w >>= λ e. Some ((e.0, (e.1, place))))
  pair_made w k v place made is g = record {
    value = (k, (option_map rc_str_bytes v, place));
    is = ap (λ o. o >>= λ e. Some ((e.0, (e.1, place)))) is;
    stands = (refl, record { value = v; value_is = refl; given = g });
  }

  pub made_note : (n : Node (Option Annotation)) (a : Annotation) (k : Text) (v : Option (RcStr Global)) (place : Option Place) (made : T) → n.node ≡ Some a → place ≡ n.loc
      → ident_spelling (shown_ident a.key) ≡ Some k → written_value (option_map shown_str a.value) ≡ Some (option_map rc_str_bytes v) → gives v place (Ok made) → Given (IsMadeAt gives) (k, made) (placed_note n)
  made_note n a k v place made node_is place_is key value g =
      let note : written_note (view_annotation a) ≡ Some ((k, option_map rc_str_bytes v))
      = ap (λ o. o >>= λ x. written_value (option_map shown_str a.value) >>= λ y. Some ((x, y))) key ∙ ap (λ o. o >>= λ y. Some ((k, y))) value in
      subst (λ o. Given (IsMadeAt gives) (k, made) (written_note (unwrap_or (option_map view_annotation o) loose.missing_annotation) >>= λ e. Some ((e.0, (e.1, n.loc))))) (sym node_is)
      (subst (λ p. Given (IsMadeAt gives) (k, made) (written_note (view_annotation a) >>= λ e. Some ((e.0, (e.1, p))))) place_is (pair_made (written_note (view_annotation a)) k v place made note g))

  key_written : (o : Option Text) (w : Option (Option Text)) (place : Option Place) (h : Keyed Handed) → ((o >>= λ k. w >>= λ v. let z : Option (Keyed (Option Text)) = Some ((k, v)) in z) >>= λ e. let y : Option (Keyed Handed) = Some ((e.0, (e.1, place))) in y) ≡ Some h → o ≡ Some h.0
  key_written None w place h is = cc
  key_written (Some k) None place h is = cc
  key_written (Some k) (Some v) place h is = let same : (k, (v, place)) ≡ h = cc in ap (λ z. Some z.0) same

  key_noted : (a : loose.Annotation) (place : Option Place) (h : Keyed Handed) → (written_note a >>= λ e. let y : Option (Keyed Handed) = Some ((e.0, (e.1, place))) in y) ≡ Some h → annotation_key a ≡ Some h.0
  key_noted loose.missing_annotation place h is = cc
  key_noted (loose.annotation i s) place h is = key_written (ident_spelling i) (written_value s) place h is

  -- the key is the annotation's own
  pub key_is : (n : Node (Option Annotation)) (e : Keyed T) → Given (IsMadeAt gives) e (placed_note n) → annotation_key (shown_annotation n) ≡ Some e.0
  key_is n e made = key_noted (shown_annotation n) n.loc made.value made.is ∙ ap Some (sym made.stands.0)

  -- ---- one put among others

  keys_made : (es : List (Keyed T)) (hs : List (Keyed Handed)) → AreMade gives es hs → keys es ≡ keys hs
  keys_made [] [] ms = refl
  keys_made [] (h ∷ hs) ms = absurd ms
  keys_made (e ∷ es) [] ms = absurd ms
  keys_made (e ∷ es) (h ∷ hs) ms = λ i. ms.0.0 i ∷ keys_made es hs ms.1 i

  put_made : (e : Keyed T) (h : Keyed Handed) → IsMadeAt gives e h → (es : List (Keyed T)) (hs : List (Keyed Handed)) → AreMade gives es hs → AreMade gives (put e es) (put h hs)
  put_made e h m [] [] ms = (m, tt)
  put_made e h m [] (k ∷ hs) ms = absurd ms
  put_made e h m (f ∷ es) [] ms = absurd ms
  put_made e h m (f ∷ es) (k ∷ hs) ms =
      by (is_lt (slice_cmp nat_cmp e.0 f.0)) (is_lt (slice_cmp nat_cmp h.0 k.0)) (λ i. is_lt (slice_cmp nat_cmp (m.0 i) (ms.0.0 i))) (put_made e h m es hs ms.1)
    where
      by : (b c : Bool) → b ≡ c → AreMade gives (put e es) (put h hs) → AreMade gives (cond b (e ∷ f ∷ es) (f ∷ put e es)) (cond c (h ∷ k ∷ hs) (k ∷ put h hs))
      by true true s rest = (m, ms)
      by true false s rest = absurd (true≢false s)
      by false true s rest = absurd (true≢false (sym s))
      by false false s rest = (ms.0, rest)

  module _ (e : Keyed T) (h : Keyed Handed) (m : IsMadeAt gives e h) (es : List (Keyed T)) (hs : List (Keyed Handed)) (ms : AreMade gives es hs) where
    among_alike : is_among e.0 (keys es) ≡ is_among h.0 (keys hs)
    among_alike = λ i. is_among (m.0 i) (keys_made es hs ms i)

    new_made : (u : Unit {0}) (fs : List (Keyed T)) → put_new e es ≡ Some fs → Given (λ (done : Unit {0}). AreMade gives fs) u (put_new h hs)
    new_made u fs is = by (is_among e.0 (keys es)) (is_among h.0 (keys hs)) among_alike is
      where
        by : (b c : Bool) → b ≡ c → cond b None (Some (put e es)) ≡ Some fs → Given (λ (done : Unit {0}). AreMade gives fs) u (cond c None (Some (put h hs)))
        by true c s q = absurd (true≢false (sym (ap is_some q)))
        by false true s q = absurd (true≢false (sym s))
        by false false s q = record { value = put h hs; is = refl; stands = subst (λ gs. AreMade gives gs (put h hs)) (ap (λ o. unwrap_or o fs) q) (put_made e h m es hs ms) }

    none_made : put_new e es ≡ None → put_new h hs ≡ None
    none_made is = by (is_among e.0 (keys es)) (is_among h.0 (keys hs)) among_alike is
      where
        by : (b c : Bool) → b ≡ c → cond b None (Some (put e es)) ≡ None → cond c None (Some (put h hs)) ≡ None
        by b true s q = refl
        by true false s q = absurd (true≢false s)
        by false false s q = absurd (true≢false (ap is_some q))

  module _ {B : Type 0} (old new : List (Keyed T)) (note : Option (Keyed Handed)) where
    abbrev pub IsPut : Result (Unit {0}) (ConversionError B) → Type 0
    IsPut r = (before : List (Keyed Handed)) → AreMade gives old before → Makes (λ done. AreMade gives new) r (note >>= λ h. put_new h before)

    pub node_put : (e : Keyed T) (r : Result (Unit {0}) (ConversionError B)) → Given (IsMadeAt gives) e note → Finds (λ done. new) r (put_new e old) → IsPut r
    node_put e (Ok u) g is before ms = subst (λ w. Given (λ (done : Unit {0}). AreMade gives new) u (w >>= λ h. put_new h before)) (sym g.is) (new_made e g.value g.stands old before ms u new is)
    node_put e (Err f) g is before ms =
        subst (λ w. Lacks (reason f) (w >>= λ h. put_new h before)) (sym g.is) (lacks_more (reason f) (put_new e old) (put_new g.value before) (none_made e g.value g.stands old before ms) is)
