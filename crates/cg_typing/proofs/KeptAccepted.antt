-- Where the bodies of functions are kept, with cores that the rules derive, the functions are accepted.
use Rattle.std.proofs.Common.{Option, Some, None, List, [], ◌∷◌}
use Rattle.std.proofs.lemmas.List.Elements.{All-nil, All-cons}
use Rattle.std.specs.List.{All}
use Rattle.cg_base.specs.declared.kind.Kinds.{Kinds}
use Rattle.cg_base.specs.Types.{Tau}
use Rattle.cg_core.specs.Derivations.{Derivation}
use Rattle.cg_core.specs.Kernels.{Body, Function}
use Rattle.cg_core.specs.Terms.{Note, Tree}
use Rattle.cg_typing.specs.Accepted.{IsAcceptedFunction, IsAcceptedKernel, IsTypedMaybe, kinds_of_vars}
use Rattle.cg_typing.specs.Kept.{AreKept, IsKept, IsKeptMaybe}

maybe_typed : (fs : List Function) (vars : List Kinds) (a r : Tau) (body : Option Body) (c : Option (Tree Note)) (d : Option Derivation) → IsKeptMaybe fs vars a r body c d → IsTypedMaybe fs vars a r body
maybe_typed fs vars a r None c d k = tt
maybe_typed fs vars a r (Some body) (Some c) (Some d) k = record { core = c; erases = k.erases; tree = d; derives = k.derives }
maybe_typed fs vars a r (Some body) None None k = absurd k
maybe_typed fs vars a r (Some body) None (Some d) k = absurd k
maybe_typed fs vars a r (Some body) (Some c) None k = absurd k

function_accepted : (fs : List Function) (f : Function) (c : Option (Tree Note)) (d : Option Derivation) → IsKept fs f c d → IsAcceptedFunction fs f
function_accepted fs f c d k = record {
  argument = k.argument;
  result = k.result;
  is_arrow = k.is_arrow;
  arrays = k.arrays;
  typed = maybe_typed fs (kinds_of_vars f) k.argument k.result f.body c d k.kept;
}

functions_accepted : (fs gs : List Function) (cs : List (Option (Tree Note))) (ds : List (Option Derivation)) → AreKept fs gs cs ds → All (IsAcceptedFunction fs) gs
functions_accepted fs [] cs ds k = All-nil (IsAcceptedFunction fs)
functions_accepted fs (g ∷ gs) (c ∷ cs) (d ∷ ds) k = All-cons (IsAcceptedFunction fs) g gs (function_accepted fs g c d k.0) (functions_accepted fs gs cs ds k.1)
functions_accepted fs (g ∷ gs) [] [] k = absurd k
functions_accepted fs (g ∷ gs) [] (d ∷ ds) k = absurd k
functions_accepted fs (g ∷ gs) (c ∷ cs) [] k = absurd k

pub kept_accepted : (fs : List Function) (cs : List (Option (Tree Note))) (ds : List (Option Derivation)) → AreKept fs fs cs ds → IsAcceptedKernel fs
kept_accepted fs cs ds k = functions_accepted fs fs cs ds k
