-- Turns that hand on what they give, and write nothing themselves.
use Rattle.std.proofs.Common.{◌≡◌, ℕ, List, refl, arith}
use Rattle.cg_base.specs.declared.fun.Lib.{Lib}
use Rattle.cg_base.specs.declared.kind.Sigil.TheVariants.{R, W}
use Rattle.cg_base.specs.Types.{Tau}
use Rattle.cg_eval_def.specs.Evaluation as values
use Rattle.cg_heap.specs.declared.cell.Scalar.{Scalar}
use Rattle.cg_heap.specs.Reps.{HeapWorld}
use Rattle.cg_refine.proofs.Sequence.{given_now, reached_none}
use Rattle.cg_refine.proofs.Then.{F}
use Rattle.cg_refine_def.specs.Refined.{IsRefined}
use Rattle.cg_refine_laws.proofs.Turns.{AreKept, AreLeft, Behind, Between, IsOnward}
use Rattle.cg_update.specs.Outcomes.{State, gives}
use Rattle.cg_update.specs.Turns.{Argument, field_in}
use Rattle.cg_value.specs.Values.{Val}

module _ (world : HeapWorld) (lib : Lib) (types : List Tau) (x : Argument) (over carry observed takes : Tau) (value : Val) (s : State) where
  -- what a turn gives is handed on
  pub handed_on : (a v : Val) (ws : List Scalar) → AreLeft world lib types x over carry observed takes carry carry value s a v ws
      → IsOnward world lib types x over carry observed takes carry carry value s s ws ws a v
  handed_on a v ws k = record {
    array = k.array;
    carried = k.given;
    seen = k.seen;
    reached =
        reached_none s (Behind world lib types x over carry observed takes carry carry value s W ws) (Behind world lib types x over carry observed takes carry carry value s R ws)
        (Between world lib types x over carry observed takes carry carry value s W ws) (Between world lib types x over carry observed takes carry carry value s R ws) k.fine (λ q. refl) (λ q i. i);
  }

  -- what is handed on last is given, where nothing else may be written
  pub given_last : ((q : ℕ) → F s W over (field_in x 0) q ≡ 0) → ((q : ℕ) → F s W observed (field_in x 5) q ≡ 0) → (a y : Val) (us : List Scalar) (left : ℕ)
      → AreKept world lib types x over carry observed takes carry carry value s a y us
      → IsRefined world s (Between world lib types x over carry observed takes carry carry value s W us) (Between world lib types x over carry observed takes carry carry value s R us) carry
      (values.gives y left) (gives us s left)
  given_last z n a y us left k =
      given_now world s (Between world lib types x over carry observed takes carry carry value s W us) (Between world lib types x over carry observed takes carry carry value s R us) carry y left us
      k.fine k.carried (λ q. omega (arith, z q, n q)) (λ q i. omega arith)
