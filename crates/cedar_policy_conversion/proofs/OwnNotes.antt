-- What the own maker gave is the annotations' texts.
use Rattle.std.proofs.Common.{◌≡◌, Bool, true, false, List, [], ◌∷◌, map, Option, Some, None, Ok, refl, sym, ap, ◌∙◌}
use Rattle.std.specs.Prelude.{cond, unwrap_or}
use Rattle.std.specs.Option.{option_map}
use Rattle.std.specs.Rc.{rc_str_bytes}
use Rattle.std.specs.declared.alloc.Global.{Global}
use Rattle.std.specs.declared.rc.RcStr.{RcStr}
use Rattle.cedar_language.specs.Uid.{Text}
use Rattle.cedar_names.specs.declared.places.Place.{Place}
use Rattle.cedar_grammar.specs.Names.{are_distinct}
use Rattle.cedar_grammar.specs.Build.{Keyed, keys, by_key}
use Rattle.cedar_grammar.specs.Steps.{◌>>=◌}
use Rattle.cedar_grammar.specs.Loose as loose
use Rattle.cedar_grammar.specs.Converting.{each, ident_spelling, str_text, annotation_value, annotation_syntax, distinct_keys}
use Rattle.cedar_cst.specs.View.{shown_annotation}
use Rattle.cedar_cst.specs.declared.cst.Annotation.{Annotation}
use Rattle.cedar_cst.specs.declared.node.Node.{Node}
use Rattle.cedar_conversion.specs.Entries.{ordered}
use Rattle.cedar_conversion.proofs.Ordering.{by_key_beside}
use Rattle.cedar_policy_parts.specs.Annotations.{text_or_empty}
use Rattle.cedar_policy_conversion.specs.Notes.{notes_of, written_value, written_note, Handed, placed_note, placed_notes, Making, AreMade}

-- the text that the own maker makes of what it is handed
abbrev own : Keyed Handed → Keyed Text
own h = (h.0, unwrap_or h.1.0 [])

-- ---- one annotation

value_is : (s : Option loose.Str) → annotation_value s ≡ option_map (λ v. unwrap_or v []) (written_value s)
value_is None = refl
value_is (Some s) = by (str_text s)
  where
    by : (o : Option Text) → o ≡ option_map (λ v. unwrap_or v []) (option_map Some o)
    by None = refl
    by (Some t) = refl

own_turn : (place : Option Place) (k : Option Text) (v : Option (Option Text))
    → (k >>= λ x. option_map (λ y. unwrap_or y []) v >>= λ t. Some ((x, t))) ≡ option_map own ((k >>= λ x. v >>= λ y. let z : Option (Keyed (Option Text)) = Some ((x, y)) in z) >>= λ e. Some ((e.0, (e.1, place))))
own_turn place None v = refl
own_turn place (Some x) None = refl
own_turn place (Some x) (Some y) = refl

own_note : (place : Option Place) (a : loose.Annotation) → annotation_syntax a ≡ option_map own (written_note a >>= λ e. Some ((e.0, (e.1, place))))
own_note place (loose.annotation i s) = ap (λ v. ident_spelling i >>= λ k. v >>= λ t. Some ((k, t))) (value_is s) ∙ own_turn place (ident_spelling i) (written_value s)
own_note place loose.missing_annotation = refl

-- ---- all

each_own : (ns : List (Node (Option Annotation))) → each annotation_syntax (map shown_annotation ns) ≡ option_map (map own) (each placed_note ns)
each_own [] = refl
each_own (n ∷ ns) =
    (λ i. own_note n.loc (shown_annotation n) i >>= λ y. each_own ns i >>= λ ys. Some (y ∷ ys))
    ∙ by (placed_note n) (each placed_note ns)
  where
    by : (o : Option (Keyed Handed)) (v : Option (List (Keyed Handed))) → (option_map own o >>= λ y. option_map (map own) v >>= λ ys. let z : Option (List (Keyed Text)) = Some (y ∷ ys) in z) ≡ option_map (map own) (o >>= λ y. v >>= λ ys. Some (y ∷ ys))
    by None v = refl
    by (Some y) None = refl
    by (Some y) (Some ys) = refl

keys_own : (hs : List (Keyed Handed)) → keys (map own hs) ≡ keys hs
keys_own [] = refl
keys_own (h ∷ hs) = ap (λ ks. h.0 ∷ ks) (keys_own hs)

ordered_own : (v : Option (List (Keyed Handed))) → option_map by_key (option_map (map own) v >>= distinct_keys) ≡ option_map (map own) (v >>= ordered)
ordered_own None = refl
ordered_own (Some hs) =
    ap (λ ks. option_map by_key (cond (are_distinct ks) (Some (map own hs)) None)) (keys_own hs)
    ∙ by (are_distinct (keys hs))
  where
    by : (b : Bool) → option_map by_key (cond b (Some (map own hs)) None) ≡ option_map (map own) (cond b (Some (by_key hs)) None)
    by true = ap Some (sym (by_key_beside (λ (h : Handed). unwrap_or h.0 []) hs))
    by false = refl

pub own_notes : (ns : List (Node (Option Annotation))) → notes_of (map shown_annotation ns) ≡ option_map (map own) (placed_notes ns)
own_notes ns = ap (λ v. option_map by_key (v >>= distinct_keys)) (each_own ns) ∙ ordered_own (each placed_note ns)

-- ---- what the own maker gave

text_is : (v : Option (RcStr Global)) → text_or_empty v ≡ unwrap_or (option_map rc_str_bytes v) []
text_is None = refl
text_is (Some s) = refl

own_made : (gives : Making Text) → ((v : Option (RcStr Global)) (place : Option Place) (made : Text) → gives v place (Ok made) → made ≡ text_or_empty v)
    → (es : List (Keyed Text)) (hs : List (Keyed Handed)) → AreMade gives es hs → es ≡ map own hs
own_made gives texts [] [] ms = refl
own_made gives texts [] (h ∷ hs) ms = absurd ms
own_made gives texts (e ∷ es) [] ms = absurd ms
own_made gives texts (e ∷ es) (h ∷ hs) ms =
    let m = ms.0.1 in
    let text : e.1 ≡ unwrap_or h.1.0 [] = texts m.value h.1.1 e.1 m.given ∙ text_is m.value ∙ ap (λ o. unwrap_or o []) m.value_is in
    λ i. (ms.0.0 i, text i) ∷ own_made gives texts es hs ms.1 i

pub own_found : (gives : Making Text) → ((v : Option (RcStr Global)) (place : Option Place) (made : Text) → gives v place (Ok made) → made ≡ text_or_empty v)
    → (ns : List (Node (Option Annotation))) (es : List (Keyed Text)) (hs : List (Keyed Handed)) → placed_notes ns ≡ Some hs → AreMade gives es hs → notes_of (map shown_annotation ns) ≡ Some es
own_found gives texts ns es hs is ms = own_notes ns ∙ ap (option_map (map own)) is ∙ ap Some (sym (own_made gives texts es hs ms))

pub none_own : (ns : List (Node (Option Annotation))) → placed_notes ns ≡ None → notes_of (map shown_annotation ns) ≡ None
none_own ns is = own_notes ns ∙ ap (option_map (map own)) is
