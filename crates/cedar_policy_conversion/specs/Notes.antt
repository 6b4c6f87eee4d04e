-- The annotations of a policy, by their keys. (Cedar language reference, "Annotations".)
use Rattle.std.specs.Prelude.{◌≡◌, List, cond, Option, Some, None, Result, Ok, Err}
use Rattle.std.specs.Option.{option_map}
use Rattle.std.specs.List.{AllZip}
use Rattle.std.specs.Rc.{rc_str_bytes}
use Rattle.std.specs.declared.alloc.AllocError.{AllocError}
use Rattle.std.specs.declared.alloc.Global.{Global}
use Rattle.std.specs.declared.rc.RcStr.{RcStr}
use Rattle.cedar_language.specs.Uid.{Text}
use Rattle.cedar_names.specs.declared.places.Place.{Place}
use Rattle.cedar_grammar.specs.Names.{is_among}
use Rattle.cedar_grammar.specs.Build.{Keyed, keys, put, by_key}
use Rattle.cedar_grammar.specs.Steps.{◌>>=◌}
use Rattle.cedar_grammar.specs.Loose as loose
use Rattle.cedar_grammar.specs.Converting.{each, ident_spelling, str_text, annotation_syntax, distinct_keys}
use Rattle.cedar_cst.specs.View.{shown_annotation}
use Rattle.cedar_cst.specs.declared.cst.Annotation.{Annotation}
use Rattle.cedar_cst.specs.declared.node.Node.{Node}
use Rattle.cedar_conversion.specs.Entries.{ordered}
use Rattle.cedar_faults.specs.declared.errors.ConversionError.{ConversionError}
use Rattle.cedar_faults.specs.Converts.{Given, Lacks}
use Rattle.cedar_faults.specs.Reasons.{reason}

-- their keys in rising order, each with its text; none where a key stands twice
abbrev pub notes_of : List loose.Annotation → Option (List (Keyed Text))
notes_of xs = option_map by_key (each annotation_syntax xs >>= distinct_keys)

-- one put among others; none where its key isn't new
abbrev pub put_new : {A : Type 0} → Keyed A → List (Keyed A) → Option (List (Keyed A))
put_new e es = cond (is_among e.0 (keys es)) None (Some (put e es))

-- ---- what is made of them

-- the value of an annotation as it is written: none where it is left out
abbrev pub written_value : Option loose.Str → Option (Option Text)
written_value None = Some None
written_value (Some s) = option_map Some (str_text s)

-- its key and its value
abbrev pub written_note : loose.Annotation → Option (Keyed (Option Text))
written_note (loose.annotation i s) = ident_spelling i >>= λ k. written_value s >>= λ v. Some ((k, v))
written_note a = None

-- what a maker is handed for an annotation: its value and its place
abbrev pub Handed : Type 0
Handed = Option Text × Option Place

-- of an annotation's node: its key, and what a maker is handed
abbrev pub placed_note : Node (Option Annotation) → Option (Keyed Handed)
placed_note n = written_note (shown_annotation n) >>= λ e. Some ((e.0, (e.1, n.loc)))

-- of all, their keys in rising order; none where a key stands twice
abbrev pub placed_notes : List (Node (Option Annotation)) → Option (List (Keyed Handed))
placed_notes ns = each placed_note ns >>= ordered

-- what a maker may give for a value and a place
abbrev pub Making : Type 0 → Type 1
Making T = Option (RcStr Global) → Option Place → Result T AllocError → Type 0

-- what a maker gave for what it was handed
pub record IsMade {T : Type 0} (gives : Making T) (handed : Handed) (made : T) : Type 0 where
  pub value : Option (RcStr Global)
  pub value_is : option_map rc_str_bytes value ≡ handed.0
  pub given : gives value handed.1 (Ok made)

-- that, beside its key
abbrev pub IsMadeAt : {T : Type 0} → Making T → Keyed T → Keyed Handed → Type 0
IsMadeAt gives e h = (e.0 ≡ h.0) × IsMade gives h.1 e.1

abbrev pub AreMade : {T : Type 0} → Making T → List (Keyed T) → List (Keyed Handed) → Type 0
AreMade gives es hs = AllZip (IsMadeAt gives) es hs

-- what is given was made of what it should be, faults stand where nothing should be given, and else memory ran out
abbrev pub Makes : {E B W : Type 0} → (E → W → Type 0) → Result E (ConversionError B) → Option W → Type 0
Makes made_of (Ok e) want = Given made_of e want
Makes made_of (Err f) want = Lacks (reason f) want
