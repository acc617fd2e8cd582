-- What the faults of the parts are as answers of the whole.
use Rattle.std.proofs.Common.{◌≡◌, ℕ, ◌≤◌, List, [], length, Result, Ok, Err, sym, subst}
use Rattle.std.specs.Result.{IsErrAnd}
use Rattle.cg_base.specs.declared.limit.Limit.TheVariants as limits
use Rattle.cg_graphs.specs.Circles.{IsOrder}
use Rattle.cg_graphs.proofs.Laws.{order_has_no_circle}
use Rattle.cg_core.specs.declared.kernel.Kernel.{Kernel}
use Rattle.cg_surface.specs.Programs.{Entry}
use Rattle.cg_resolve_def.specs.Desugar.{functions_of, functions_limit, parts_limit, type_limit, NamesStand}
use Rattle.cg_resolve_def.specs.Faults.{program_faults}
use Rattle.cg_resolve_def.specs.Mentions.{mentions}
use Rattle.cg_resolve_def.specs.Takes.{missing_fields, widest_part, largest_type}
use Rattle.cg_resolve_names.specs.Says.{IsFirstFault}
use Rattle.cg_resolve_names.specs.declared.fault.NamingFault.{NamingFault}
use Rattle.cg_resolve_names.specs.declared.fault.NamingFault.TheVariants as naming
use Rattle.cg_resolve_takes.specs.Says as takes
use Rattle.cg_resolve_takes.specs.declared.fault.TakeFault.{TakeFault}
use Rattle.cg_resolve_takes.specs.declared.fault.TakeFault.TheVariants as take_faults
use Rattle.cg_resolve_written.specs.Answers.{SynonymsSay}
use Rattle.cg_resolve_written.specs.declared.oversize.Oversize.{Oversize}
use Rattle.cg_resolve_written.specs.declared.oversize.Oversize.TheVariants as sizes
use Rattle.cg_resolve_sites.specs.declared.fault.TermFault.{TermFault}
use Rattle.cg_resolve_sites.specs.declared.fault.TermFault.TheVariants as terms
use Rattle.cg_resolve.specs.Answers.{Answers, OrderSays, CountsSay, KernelSays}
use Rattle.cg_resolve.specs.Faults.{of_naming, of_take, of_oversize, of_term}
use Rattle.cg_resolve.specs.declared.fault.Fault.{Fault}
use Rattle.cg_resolve.specs.declared.fault.Fault.TheVariants.{N1, N2, N3, N4, N5, Limit, Memory}

-- an answer handed on
pub handed_on : (entries : List Entry) (fault : Fault) (r : Result Kernel Fault) → IsErrAnd r (λ e. e ≡ fault) → Answers entries (Err fault) → Answers entries r
handed_on entries fault (Ok k) is right = absurd is
handed_on entries fault (Err e) is right = subst (λ f. Answers entries (Err f)) (sym is) right

module _ (entries : List Entry) where
  pub naming_answers : (fault : NamingFault) → IsFirstFault (program_faults entries) fault → Answers entries (Err (of_naming fault))
  naming_answers (naming.N1 p) h = h
  naming_answers (naming.N2 p) h = h
  naming_answers (naming.N4 p) h = h
  naming_answers naming.Memory h = tt

  pub order_answers : (fault : Fault) → program_faults entries ≡ [] → OrderSays entries (Err fault) → Answers entries (Err fault)
  order_answers (N1 p) names h = absurd h
  order_answers (N2 p) names h = absurd h
  order_answers (N3 p) names h = (names, h)
  order_answers (N4 p) names h = absurd h
  order_answers (N5 p) names h = absurd h
  order_answers (Limit limit) names h = absurd h
  order_answers Memory names h = tt

  pub take_answers : (fault : TakeFault) (order : List ℕ) → program_faults entries ≡ [] → IsOrder (mentions entries) order → takes.IsFirstFault (missing_fields entries) fault → Answers entries (Err (of_take fault))
  take_answers (take_faults.N5 p) order names is h = (names, order_has_no_circle (mentions entries) order is, h)
  take_answers take_faults.Memory order names is h = tt

  -- names are in order
  pub stand : (order : List ℕ) → program_faults entries ≡ [] → IsOrder (mentions entries) order → missing_fields entries ≡ [] → NamesStand entries
  stand order names is fields = record { names = names; circles = order_has_no_circle (mentions entries) order is; fields = fields }

  pub count_answers : (fault : Fault) → NamesStand entries → CountsSay entries (Err fault) → Answers entries (Err fault)
  count_answers (N1 p) names h = absurd h
  count_answers (N2 p) names h = absurd h
  count_answers (N3 p) names h = absurd h
  count_answers (N4 p) names h = absurd h
  count_answers (N5 p) names h = absurd h
  count_answers (Limit limits.Source) names h = absurd h
  count_answers (Limit limits.Nesting) names h = absurd h
  count_answers (Limit limits.Functions) names h = (names, h)
  count_answers (Limit limits.Fields) names h = (names, h)
  count_answers (Limit limits.Ty) names h = absurd h
  count_answers (Limit limits.Depth) names h = absurd h
  count_answers (Limit limits.Instances) names h = absurd h
  count_answers (Limit limits.Core) names h = absurd h
  count_answers (Limit limits.Heap) names h = absurd h
  count_answers (Limit limits.Certificate) names h = absurd h
  count_answers Memory names h = absurd h

  -- functions and parts are within their limits
  abbrev pub AreCounted : Type 0
  AreCounted = (length (functions_of entries) ≤ functions_limit) × (widest_part entries ≤ parts_limit)

  pub size_answers : (fault : Oversize) → NamesStand entries → AreCounted → SynonymsSay entries (Err fault) → Answers entries (Err (of_oversize fault))
  size_answers sizes.TooLarge names counts h = (names, (counts.0, counts.1, h))
  size_answers sizes.Memory names counts h = tt

  pub depth_answers : (fault : TermFault) → NamesStand entries → AreCounted → largest_type entries ≤ type_limit → KernelSays (functions_of entries) (Err fault) → Answers entries (Err (of_term fault))
  depth_answers terms.TooDeep names counts small h = (names, (counts.0, counts.1, small, h))
  depth_answers terms.Memory names counts small h = tt

  pub kernel_answers : (k : Kernel) → NamesStand entries → AreCounted → largest_type entries ≤ type_limit → KernelSays (functions_of entries) (Ok k) → Answers entries (Ok k)
  kernel_answers k names counts small h = (names, (counts.0, counts.1, small, h.0), h.1)
