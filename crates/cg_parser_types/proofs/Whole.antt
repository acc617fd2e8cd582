-- A type that is read is whole where each open frame is closed without a token of its own.
use Rattle.std.proofs.Common.{◌≡◌, ℕ, ◌-◌, ◌<◌, ◌≤◌, List, [], ◌∷◌, ◌++◌, length, take, reverse, get_or, false, cond, Option, refl, ap, ◌∙◌, sym, arith}
use Rattle.std.specs.Prelude.{is_some}
use Rattle.std.proofs.lemmas.Bool.{le-leb, lt-leb}
use Rattle.std.proofs.lemmas.List.{take_more, reverse-append, reverse-reverse}
use Rattle.cg_surface.specs.Written.{Written}
use Rattle.cg_parser_types.specs.Machine as machine
use Rattle.cg_parser_types.specs.Machine.{InParen, InTuple, InField, InAlt, InArgs, InArrow}
use Rattle.cg_parser_types.specs.Bounded.{bounded}
use Rattle.cg_parser_types.specs.Stack.{Open, frame_of, stack_of}
use Rattle.cg_parser_types.specs.States.{all_close}
use Rattle.cg_parser_types.specs.declared.frame.Frame.{Frame}

pub whole_closes : (t : Option Written) (fs : List Open) → is_some (machine.end_whole bounded t fs) ≡ all_close fs
whole_closes t [] = refl
whole_closes t (InParen p ∷ fs) = refl
whole_closes t (InTuple p ts ∷ fs) = refl
whole_closes t (InField p boxed gs at ∷ fs) = refl
whole_closes t (InAlt p choices at ∷ fs) = refl
whole_closes t (InArgs p n args ∷ fs) = whole_closes (machine.fill bounded (InArgs p n args) t) fs
whole_closes t (InArrow a ∷ fs) = whole_closes (machine.fill bounded (InArrow a) t) fs

-- the frames of a stack whose slice this is
abbrev pub frames_in : List Frame → List Open
frames_in fs = stack_of (reverse fs)

pub in_slice : (fs s : List Frame) → fs ≡ reverse s → all_close (stack_of s) ≡ all_close (frames_in fs)
in_slice fs s e = ap (λ x. all_close (stack_of x)) (sym (ap reverse e ∙ reverse-reverse s))

one_more : (fs : List Frame) (f : Frame) → frames_in (fs ++ f ∷ []) ≡ frame_of f ∷ frames_in fs
one_more fs f = ap stack_of (reverse-append fs (f ∷ []))

-- the frame on top of so many
pub top : (fs : List Frame) (at : ℕ) (f : Frame) → 0 < at → at ≤ length fs → f ≡ get_or fs (at - 1) f → frames_in (take at fs) ≡ frame_of f ∷ frames_in (take (at - 1) fs)
top fs at f some bound is =
    ap (λ n. frames_in (take n fs)) (omega arith) ∙ ap frames_in (take_more fs (at - 1) f (omega arith)) ∙ one_more (take (at - 1) fs) (get_or fs (at - 1) f)
    ∙ ap (λ g. frame_of g ∷ frames_in (take (at - 1) fs)) (sym is)

-- it closes, or doesn't
pub closes_on : (f : Open) (fs : List Open) (n : ℕ) → n ≡ machine.closes bounded f → n ≤ 3 → all_close (f ∷ fs) ≡ all_close fs
closes_on f fs n e h = ap (λ b. cond b (all_close fs) false) (le-leb (machine.closes bounded f) 3 (omega arith))

pub closes_not : (f : Open) (fs : List Open) (n : ℕ) → n ≡ machine.closes bounded f → 3 < n → all_close (f ∷ fs) ≡ false
closes_not f fs n e h = ap (λ b. cond b (all_close fs) false) (lt-leb (machine.closes bounded f) 3 (omega arith))

-- at the bottom nothing is left
pub bottom : (fs : List Frame) (at : ℕ) → at ≤ 0 → frames_in (take at fs) ≡ []
bottom fs at h = let e : at ≡ 0 = omega arith in ap (λ n. frames_in (take n fs)) e
