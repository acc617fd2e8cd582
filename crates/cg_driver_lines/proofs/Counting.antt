-- Counting the functions of a kernel that have a body.
use Rattle.std.proofs.Common.{◌≡◌, map, refl, List, [], ◌∷◌, Option, Some, None}
use Rattle.std.specs.Option.{is_some}
use Rattle.std.specs.List.{count_by}
use Rattle.std.proofs.lemmas.List.Sums.{sum_by-cons}
use Rattle.cg_core.specs.declared.kernel.KBody.{KBody}
use Rattle.cg_core.specs.declared.kernel.KFun.{KFun}
use Rattle.cg_core.specs.Kernels.{function_of, maybe_body_of}

-- what a body stands for is there exactly where the body is
has_body : (body : Option KBody) → is_some (maybe_body_of body) ≡ is_some body
has_body None = refl
has_body (Some b) = refl

-- a function is counted where what it stands for is
pub counted : (functions : List KFun) → count_by (λ f. is_some f.body) (map function_of functions) ≡ count_by (λ f. is_some f.body) functions
counted [] = refl
counted (f ∷ functions) = rw (sum_by-cons _ (function_of f) (map function_of functions), sum_by-cons _ f functions, counted functions, has_body f.body) refl
