-- Frames: terms that are open where the rest goes.
use Rattle.std.specs.Prelude.{ℕ, ◌+◌, max, List, [], ◌∷◌}
use Rattle.cg_core.specs.Kernels.{the_term}
use Rattle.cg_core.specs.Terms.{term, lets, let_bang, case_of, take_field}
use Rattle.cg_resolve_def.specs.Desugar.{depth_of}
use Rattle.cg_resolve_def.specs.Terms.{Term}
use Rattle.cg_resolve_sites.specs.declared.frames.Frame.{Frame}
use Rattle.cg_resolve_sites.specs.declared.frames.Frame.TheVariants.{Let, LetBang, Take, Case}

-- a frame round the rest
abbrev pub around : Frame → Term → Term
around (Let q p e) rest = term q (lets p (the_term e) rest)
around (LetBang q seen p e) rest = term q (let_bang seen p (the_term e) rest)
around (Take p e at v) rest = term p (take_field (the_term e) at p v rest)
around (Case p e at v b) rest = term p (case_of (the_term e) at v (the_term b) rest)

-- frames round the rest, the first outermost
unfoldable pub around_all : List Frame → Term → Term
around_all [] rest = rest
around_all (f ∷ fs) rest = around f (around_all fs rest)

-- how deep the terms are that stand in a frame beside the rest
abbrev pub beside : Frame → ℕ
beside (Let q p e) = depth_of (the_term e)
beside (LetBang q seen p e) = depth_of (the_term e)
beside (Take p e at v) = depth_of (the_term e)
beside (Case p e at v b) = max (depth_of (the_term e)) (depth_of (the_term b))

-- how deep frames are, without the rest
unfoldable pub frames_depth : List Frame → ℕ
frames_depth [] = 0
frames_depth (f ∷ fs) = max (beside f) (frames_depth fs) + 1
