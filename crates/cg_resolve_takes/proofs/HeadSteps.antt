-- The heads of synonyms in a table.
use Rattle.std.proofs.Common.{◌≡◌, ℕ, ◌+◌, ◌<◌, Bool, true, false, cond, List, [], ◌∷◌, ◌++◌, map, length, drop, get_or, Option, Some, None, refl, sym, ap, ◌∙◌, arith, append-nil, append_assoc}
use Rattle.std.proofs.lemmas.Grind.{common_steps}
use Rattle.std.proofs.lemmas.List.{at_drop_more}
use Rattle.std.proofs.lemmas.Option.{slice_get-map}
use Rattle.std.specs.List.{slice_get}
use Rattle.std.specs.Option.{option_map}
use Rattle.std.specs.Str.{bytes_eq}
use Rattle.cg_base.specs.Types.{Tau}
use Rattle.cg_core.specs.declared.at.At.{At}
use Rattle.cg_surface.specs.declared.written.STy.{STy, the_lemmas}
use Rattle.cg_surface.specs.declared.written.STyForm.TheVariants.{Tuple}
pub use Rattle.cg_surface.proofs.Views.{place_at}
use Rattle.cg_surface.specs.Written.{Written, Writtens, written_of, to_types, types_behind, no_types, and_type}
use Rattle.cg_surface.specs.Written as types
use Rattle.cg_resolve_def.specs.Declared.{is_variable, looked_up, plain_types}
use Rattle.cg_resolve_def.specs.Expand.{position_of}
use Rattle.cg_resolve_def.proofs.TypesCounted.{types_counted}
use Rattle.cg_resolve_takes.specs.Heads.{Head, Heads, parameter, other, head_of, heads_of, head_by_name, or_other, synonym_head, unless_plain, named_head, applied_head}

-- a tuple
pub tuple_is : (t : STy) (ts : List STy) → t.form ≡ Tuple ts → written_of t ≡ types.tuple t.place (to_types (map written_of ts))
tuple_is t ts is = grind (arith, common_steps, the_lemmas)

-- ---- lists of types

heads_behind : (heads : Heads) (vars : List (List ℕ)) (before : Writtens) (ts : List Written) → heads_of heads vars (types_behind before ts) ≡ heads_of heads vars before ++ map (head_of heads vars) ts
heads_behind heads vars before [] = sym (append-nil (heads_of heads vars before))
heads_behind heads vars before (t ∷ ts) = heads_behind heads vars (and_type before t) ts ∙ append_assoc (heads_of heads vars before) (head_of heads vars t ∷ []) (map (head_of heads vars) ts)

pub heads_list : (heads : Heads) (vars : List (List ℕ)) (ts : List Written) → heads_of heads vars (to_types ts) ≡ map (head_of heads vars) ts
unfolding to_types
heads_list heads vars ts = heads_behind heads vars no_types ts

-- the head of an argument
pub argument_head : (heads : Heads) (vars : List (List ℕ)) (ts : List STy) (i : ℕ) → or_other (slice_get (heads_of heads vars (to_types (map written_of ts))) i) ≡ or_other (option_map (λ t. head_of heads vars (written_of t)) (slice_get ts i))
argument_head heads vars ts i =
    ap (λ l. or_other (slice_get l i)) (heads_list heads vars (map written_of ts))
    ∙ ap or_other (slice_get-map (head_of heads vars) (map written_of ts) i ∙ ap (option_map (head_of heads vars)) (slice_get-map written_of ts i) ∙ twice (slice_get ts i))
  where
    twice : (t : Option STy) → option_map (head_of heads vars) (option_map written_of t) ≡ option_map (λ t. head_of heads vars (written_of t)) t
    twice None = refl
    twice (Some t) = refl

-- a name that is no type variable, where this is the head of its synonym
abbrev pub from_synonym : Option Head → List Head → Head
from_synonym None args = other
from_synonym (Some h) args = applied_head h args

pub by_synonym : (heads : Heads) (vars : List (List ℕ)) (n : List ℕ) (args : List Head) → is_variable n ≡ false → head_by_name heads vars n args ≡ from_synonym (synonym_head heads n) args
by_synonym heads vars n args named = pick (is_variable n) named (looked_up plain_types n) (heads n)
  where
    pick : (b : Bool) → b ≡ false → (plain : Option Tau) (known : Option Head) → cond b (parameter (position_of vars n)) (named_head plain known args) ≡ from_synonym (cond b None (unless_plain plain known)) args
    pick true named plain known = absurd (cc)
    pick false named (Some t) known = refl
    pick false named None (Some h) = refl
    pick false named None None = refl

-- an argument, where it is the parameter of its synonym
pub by_argument : (heads : Heads) (params : List (List ℕ)) (n : List ℕ) (ts : List STy) (i : ℕ) (t : Option STy) → is_variable n ≡ false → synonym_head heads n ≡ Some (parameter i) → slice_get ts i ≡ t
    → head_by_name heads params n (heads_of heads params (to_types (map written_of ts))) ≡ or_other (option_map (λ t. head_of heads params (written_of t)) t)
by_argument heads params n ts i t named is at =
    by_synonym heads params n (heads_of heads params (to_types (map written_of ts))) named
    ∙ ap (λ h. from_synonym h (heads_of heads params (to_types (map written_of ts)))) is
    ∙ argument_head heads params ts i
    ∙ ap (λ t. or_other (option_map (λ t. head_of heads params (written_of t)) t)) at

-- ---- parameters

pub position_turn : (params : List At) (i : ℕ) (d : At) (n : List ℕ) → i < length params → position_of (map (λ at. at.name) (drop i params)) n ≡ (cond (bytes_eq n (get_or params i d).name) 0 (position_of (map (λ at. at.name) (drop (i + 1) params)) n + 1))
position_turn params i d n within = at_drop_more (λ l. position_of (map (λ at. at.name) l) n) params i d within

pub ruleset head_steps = (argument_head, types_counted, place_at, position_turn, the_lemmas)
