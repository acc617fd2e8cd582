-- The C of each iterator does what it does in the update semantics.
use Rattle.std.proofs.Common.{◌≡◌, ℕ, ◌^◌, ◌<◌, true, List, [], ◌∷◌, length, sym, subst, arith, IsTrue}
use Rattle.cg_base.specs.declared.fun.Lib.{Lib}
use Rattle.cg_base.specs.declared.fun.Lib.TheVariants.{New, Free, Create, FreeArray, Length, Get, Put, Map, Fold, Seq32, Seq64, Seq32Break}
use Rattle.cg_base.specs.Types.{Tau}
use Rattle.cg_cgen_def.specs.Loops.{Types, iterator_low}
use Rattle.cg_core_def.specs.Lawful.{library_arity}
use Rattle.cg_eval_operations.specs.Iterators.{is_iterator}
use Rattle.cg_typing.specs.Functions.{are_good_arguments, asked_by_library}
use Rattle.cg_typing.specs.Instances.{as_arguments}
use Rattle.cg_lower_laws.proofs.ArrayLoops.{fold_ran, map_ran}
use Rattle.cg_lower_laws.proofs.BreakLoops.{break_ran}
use Rattle.cg_lower_laws.proofs.Iterating.{IteratorClaim}
use Rattle.cg_lower_laws.proofs.LibraryCalls.{meets}
use Rattle.cg_lower_laws.proofs.LibraryParts.{word_type}
use Rattle.cg_lower_laws.proofs.NumberLoops.{seq32_ran, seq64_ran}

pub iterator_ran : (lib : Lib) (args : List Tau) → is_iterator lib ≡ true → length args ≡ library_arity lib → IsTrue (are_good_arguments [] (asked_by_library lib) (as_arguments args)) → IteratorClaim lib args
iterator_ran Map (t ∷ ts) i many good = let w = word_type t (meets Map t ts good) in subst (λ z. IteratorClaim Map (z ∷ ts)) (sym w.1) (map_ran w.0 ts)
iterator_ran Fold (t ∷ ts) i many good = let w = word_type t (meets Fold t ts good) in subst (λ z. IteratorClaim Fold (z ∷ ts)) (sym w.1) (fold_ran w.0 ts)
iterator_ran Map [] i many good = absurd (omega (arith, many))
iterator_ran Fold [] i many good = absurd (omega (arith, many))
iterator_ran Seq32 args i many good = seq32_ran args
iterator_ran Seq64 args i many good = seq64_ran args
iterator_ran Seq32Break args i many good = break_ran args
iterator_ran lib args i many good = absurd (cc)

-- it has few locals
pub few_locals : (lib : Lib) (types : Types) (callee : List ℕ) → length (iterator_low lib types callee).locals < 2 ^ 64
few_locals New types callee = omega arith
few_locals Free types callee = omega arith
few_locals Create types callee = omega arith
few_locals FreeArray types callee = omega arith
few_locals Length types callee = omega arith
few_locals Get types callee = omega arith
few_locals Put types callee = omega arith
few_locals Map types callee = omega arith
few_locals Fold types callee = omega arith
few_locals Seq32 types callee = omega arith
few_locals Seq64 types callee = omega arith
few_locals Seq32Break types callee = omega arith
