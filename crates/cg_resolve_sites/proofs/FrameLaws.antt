-- Frames, one more, and how deep they are.
use Rattle.std.proofs.Common.{◌≡◌, ◌+◌, ◌≤◌, List, [], ◌∷◌, ◌++◌, length, refl, ap, arith}
use Rattle.std.specs.Prelude.{max}
use Rattle.cg_core.specs.Terms.{term}
use Rattle.cg_resolve_def.specs.Desugar.{depth_of}
use Rattle.cg_resolve_def.specs.Terms.{Term}
use Rattle.cg_resolve_sites.specs.declared.frames.Frame.{Frame}
use Rattle.cg_resolve_sites.specs.declared.frames.Frame.TheVariants.{Let, LetBang, Take, Case}
use Rattle.cg_resolve_sites.specs.Frames.{around, around_all, beside, frames_depth}

pub depth_pos : (t : Term) → 1 ≤ depth_of t
depth_pos (term p shape) = omega arith

pub around_depth : (f : Frame) (t : Term) → depth_of (around f t) ≡ max (beside f) (depth_of t) + 1
around_depth (Let q p e) t = refl
around_depth (LetBang q seen p e) t = refl
around_depth (Take p e at v) t = refl
around_depth (Case p e at v b) t = omega arith

pub depth_inside : (fs : List Frame) (t : Term) → depth_of (around_all fs t) ≡ max (frames_depth fs) (length fs + depth_of t)
unfolding around_all frames_depth
depth_inside [] t = omega arith
depth_inside (f ∷ fs) t = omega (arith, around_depth f (around_all fs t), depth_inside fs t)

-- what stands inside is no deeper than the whole
pub inside_deep : (fs : List Frame) (t : Term) → length fs + depth_of t ≤ depth_of (around_all fs t)
inside_deep fs t = omega (arith, depth_inside fs t)

pub around_more : (fs : List Frame) (f : Frame) (t : Term) → around_all (fs ++ f ∷ []) t ≡ around_all fs (around f t)
unfolding around_all
around_more [] f t = refl
around_more (g ∷ fs) f t = ap (around g) (around_more fs f t)

pub frames_more : (fs : List Frame) (f : Frame) → frames_depth (fs ++ f ∷ []) ≡ max (frames_depth fs) (length fs + (beside f + 1))
unfolding frames_depth
frames_more [] f = omega arith
frames_more (g ∷ fs) f = omega (arith, frames_more fs f)

pub no_frames : (t : Term) → around_all [] t ≡ t
unfolding around_all
no_frames t = refl

pub no_depth : frames_depth [] ≡ 0
unfolding frames_depth
no_depth = refl
