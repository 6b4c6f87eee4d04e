-- Attributes that are put among others, by name.
use Rattle.std.proofs.Common.{◌≡◌, ◌⊎◌, inl, inr, ℕ, ◌+◌, Bool, true, false, List, [], ◌∷◌, ◌++◌, length, Option, Some, None, refl, sym, ap, ◌∙◌, arith}
use Rattle.std.specs.Prelude.{option_map, if◌then◌else◌}
use Rattle.std.specs.Ordering.{match_ordering}
use Rattle.std.specs.BTreeMap.{insert_entry}
use Rattle.std.specs.declared.cmp.Ordering.{Ordering}
use Rattle.std.specs.declared.cmp.Ordering.TheVariants as ordering
use Rattle.cedar_language.specs.Uid.{Text}
use Rattle.cedar_language.specs.Order.{text_cmp}
use Rattle.cedar_typing.specs.Types.{Field, Fields, no_fields, a_field}
use Rattle.cedar_schema_grammar.specs.Written.{placed, put_field, with_field}
use Rattle.cedar_schema.specs.Types.{attribute_view, listed, named_views}
use Rattle.cedar_schema.specs.Tables.{in_order}
use Rattle.cedar_schema.specs.declared.types.AttributeType.{AttributeType}

abbrev pub shown : List (Text × AttributeType) → Fields
shown es = listed (named_views es)

abbrev put : Text → AttributeType → Fields → Option Fields
put k a fs = put_field k (attribute_view a).presence (attribute_view a).type fs

-- one more entry, or none where one of its name is there
abbrev pub IsPut : Text → AttributeType → Option Fields → List (Text × AttributeType) → ℕ → Type 0
IsPut k a made new before = ((made ≡ Some (shown new)) × (length new ≡ before + 1)) ⊎ ((made ≡ None) × (length new ≡ before))

pub put_is : (k : Text) (a : AttributeType) (es : List (Text × AttributeType)) → IsPut k a (put k a (shown es)) (insert_entry text_cmp es k a) (length es)
put_is k a [] = inl (refl, refl)
put_is k a (e ∷ es) = by (text_cmp k e.0) (put_is k a es)
  where
    by : (o : Ordering) → IsPut k a (put k a (shown es)) (insert_entry text_cmp es k a) (length es)
        → IsPut k a (placed o k (attribute_view a).presence (attribute_view a).type e.0 (attribute_view e.1).presence (attribute_view e.1).type (shown es) (put k a (shown es)))
        (match_ordering o ((k, a) ∷ e ∷ es) ((e.0, a) ∷ es) (e ∷ insert_entry text_cmp es k a)) (length (e ∷ es))
    by ordering.Less r = inl (refl, omega arith)
    by ordering.Equal r = inr (refl, refl)
    by ordering.Greater (inl r) =
        let more : length (insert_entry text_cmp es k a) ≡ length es + 1 = r.1 in
        inl (ap (option_map (a_field e.0 (attribute_view e.1).presence (attribute_view e.1).type)) r.0, omega arith)
    by ordering.Greater (inr r) =
        let same : length (insert_entry text_cmp es k a) ≡ length es = r.1 in
        inr (ap (option_map (a_field e.0 (attribute_view e.1).presence (attribute_view e.1).type)) r.0, omega arith)

-- ---- all of a list, the last first

abbrev pub put_all : List (Text × Field) → Option Fields → Option Fields
put_all [] o = o
put_all (f ∷ fs) o = with_field f.0 f.1.presence (Some f.1.type) (put_all fs o)

pub put_from_none : (fs : List (Text × Field)) → in_order fs ≡ put_all fs (Some no_fields)
put_from_none [] = refl
put_from_none (f ∷ fs) = ap (with_field f.0 f.1.presence (Some f.1.type)) (put_from_none fs)

pub put_on_nothing : (fs : List (Text × Field)) → put_all fs None ≡ None
put_on_nothing [] = refl
put_on_nothing (f ∷ fs) = ap (with_field f.0 f.1.presence (Some f.1.type)) (put_on_nothing fs)

put_last : (fs : List (Text × Field)) (f : Text × Field) (o : Option Fields) → put_all (fs ++ f ∷ []) o ≡ put_all fs (with_field f.0 f.1.presence (Some f.1.type) o)
put_last [] f o = refl
put_last (g ∷ fs) f o = ap (with_field g.0 g.1.presence (Some g.1.type)) (put_last fs f o)

pub views_last : (es : List (Text × AttributeType)) (e : Text × AttributeType) → named_views (es ++ e ∷ []) ≡ named_views es ++ (e.0, attribute_view e.1) ∷ []
views_last [] e = refl
views_last (g ∷ es) e = ap (λ fs. (g.0, attribute_view g.1) ∷ fs) (views_last es e)

-- the last of those that are left
pub put_popped : (old left : List (Text × AttributeType)) (k : Text) (a : AttributeType) (es : List (Text × AttributeType)) → old ≡ left ++ (k, a) ∷ []
    → put_all (named_views old) (Some (shown es)) ≡ put_all (named_views left) (put k a (shown es))
put_popped old left k a es e =
    ap (λ xs. put_all (named_views xs) (Some (shown es))) e ∙ ap (λ fs. put_all fs (Some (shown es))) (views_last left (k, a))
    ∙ put_last (named_views left) (k, attribute_view a) (Some (shown es))

-- where there is one more entry, that is what is put, and else nothing is
pub put_new : (k : Text) (a : AttributeType) (es new : List (Text × AttributeType)) → new ≡ insert_entry text_cmp es k a → length new ≡ length es + 1 → put k a (shown es) ≡ Some (shown new)
put_new k a es new e f = by (put_is k a es)
  where
    by : IsPut k a (put k a (shown es)) (insert_entry text_cmp es k a) (length es) → put k a (shown es) ≡ Some (shown new)
    by (inl r) = r.0 ∙ ap (λ xs. Some (shown xs)) (sym e)
    by (inr r) =
        let same : length (insert_entry text_cmp es k a) ≡ length es = r.1 in
        let is : length new ≡ length (insert_entry text_cmp es k a) = ap length e in
        absurd (omega arith)

pub put_again : (k : Text) (a : AttributeType) (es new : List (Text × AttributeType)) → new ≡ insert_entry text_cmp es k a → length new ≡ length es → put k a (shown es) ≡ None
put_again k a es new e f = by (put_is k a es)
  where
    by : IsPut k a (put k a (shown es)) (insert_entry text_cmp es k a) (length es) → put k a (shown es) ≡ None
    by (inr r) = r.0
    by (inl r) =
        let more : length (insert_entry text_cmp es k a) ≡ length es + 1 = r.1 in
        let is : length new ≡ length (insert_entry text_cmp es k a) = ap length e in
        absurd (omega arith)

-- ---- how many entries there are after an insertion

pub len_again : (b r : Bool) (m n : ℕ) → r ≡ b → r ≡ true → m ≡ n + (if b then 0 else 1) → m ≡ n
len_again true r m n e f g = omega (arith, g)
len_again false r m n e f g = absurd (cc (e, f))

pub len_more : (b r : Bool) (m n : ℕ) → r ≡ b → r ≡ false → m ≡ n + (if b then 0 else 1) → m ≡ n + 1
len_more false r m n e f g = g
len_more true r m n e f g = absurd (cc (e, f))
