-- Walks down the stack.
use Rattle.std.proofs.Common.{◌≡◌, ◌≢◌, inl, inr, ℕ, ◌+◌, ◌-◌, ◌<◌, ◌≤◌, List, [], ◌∷◌, ◌++◌, length, take, reverse, get_or, Bool, true, false, cond, Option, Some, None, refl, ap, ◌∙◌, sym, arith}
use Rattle.std.specs.Prelude.{nat_eq}
use Rattle.std.proofs.lemmas.Bool.{eq-eqb}
use Rattle.std.proofs.lemmas.Bool.Decides.{eqb_tells}
use Rattle.std.proofs.lemmas.List.{take_more, reverse-append, reverse-reverse}
use Rattle.cg_parser_exprs_def.specs.Bars as bars
use Rattle.cg_parser_exprs_def.specs.Bars.{inside_of, at_column}
use Rattle.cg_parser_exprs_def.specs.Held.{Within}
use Rattle.cg_parser_exprs_frames.specs.Stack.{frame_of, stack_of}
use Rattle.cg_parser_exprs_bars.specs.Walk.{opens, linked, innermost}
use Rattle.cg_parser_exprs_bars.specs.declared.bars.Link.{Link}
use Rattle.cg_parser_exprs_frames.specs.declared.frame.Frame.{Frame}

-- the frames of a stack whose slice this is
abbrev pub frames_in : List Frame → List Within
frames_in fs = stack_of (reverse fs)

pub in_slice : (fs s : List Frame) → fs ≡ reverse s → opens (stack_of s) ≡ opens (frames_in fs)
in_slice fs s e = ap (λ x. opens (stack_of x)) (sym (ap reverse e ∙ reverse-reverse s))

one_frame_more : (fs : List Frame) (f : Frame) → frames_in (fs ++ f ∷ []) ≡ frame_of f ∷ frames_in fs
one_frame_more fs f = ap stack_of (reverse-append fs (f ∷ []))

-- the frame on top of so many
top : (fs : List Frame) (at : ℕ) (f : Frame) → 0 < at → at ≤ length fs → f ≡ get_or fs (at - 1) f → frames_in (take at fs) ≡ frame_of f ∷ frames_in (take (at - 1) fs)
top fs at f some bound is =
    ap (λ n. frames_in (take n fs)) (omega arith) ∙ ap frames_in (take_more fs (at - 1) f (omega arith)) ∙ one_frame_more (take (at - 1) fs) (get_or fs (at - 1) f)
    ∙ ap (λ g. frame_of g ∷ frames_in (take (at - 1) fs)) (sym is)

-- what it makes of the matches that are open
pub down : (fs : List Frame) (at : ℕ) (f : Frame) (l : Link) → 0 < at → at ≤ length fs → f ≡ get_or fs (at - 1) f → ((gs : List Within) → opens (frame_of f ∷ gs) ≡ linked l (opens gs)) → opens (frames_in (take at fs)) ≡ linked l (opens (frames_in (take (at - 1) fs)))
down fs at f l some bound is h = ap opens (top fs at f some bound is) ∙ h (frames_in (take (at - 1) fs))

-- at the bottom nothing is left
pub bottom : (fs : List Frame) (at : ℕ) → at ≤ 0 → opens (frames_in (take at fs)) ≡ []
bottom fs at h = let e : at ≡ 0 = omega arith in ap (λ n. opens (frames_in (take n fs))) e

-- so many matches more stand inside
abbrev pub plus : ℕ → Option ℕ → Option ℕ
plus j None = None
plus j (Some k) = Some (k + j)

-- a match of the column, and one of another
pub same_column : (c b j : ℕ) (os : List ℕ) → b ≡ c → plus j (inside_of c (b ∷ os)) ≡ Some j
same_column c b j os same =
    let e : nat_eq b c ≡ true = eq-eqb b c same in
    ap (λ t. plus j (cond t (Some 0) (elim (inside_of c os) [ None ↦ None | Some i ↦ Some (i + 1) ]))) e ∙ ap (λ n. Some n) (omega arith)

one_more : (j : ℕ) (i : Option ℕ) → plus j (elim i [ None ↦ None | Some k ↦ Some (k + 1) ]) ≡ plus (j + 1) i
one_more j None = refl
one_more j (Some k) = ap (λ n. Some n) (omega arith)

pub other_column : (c b j : ℕ) (os : List ℕ) → b ≢ c → plus j (inside_of c (b ∷ os)) ≡ plus (j + 1) (inside_of c os)
other_column c b j os other =
    let e : nat_eq b c ≡ false = elim (eqb_tells b c) [ inl h ↦ absurd (other h.1) | inr h ↦ h.0 ] in
    ap (λ t. plus j (cond t (Some 0) (elim (inside_of c os) [ None ↦ None | Some i ↦ Some (i + 1) ]))) e ∙ one_more j (inside_of c os)

-- the choice, from the two walks
abbrev pub choose : Bool → ℕ → Option ℕ → Option ℕ → bars.Choice
choose first c None i = bars.New
choose true c (Some o) i = at_column c o i
choose false c (Some o) i = bars.Joins 0

pub chosen : (first : Bool) (c : ℕ) (os : List ℕ) → bars.bar_choice first c os ≡ choose first c (innermost os) (inside_of c os)
chosen first c [] = refl
chosen true c (o ∷ os) = refl
chosen false c (o ∷ os) = refl
