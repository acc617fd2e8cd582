-- The C function of an iterator does what the library says, in any program.
use Rattle.std.proofs.Common.{◌≡◌, suc, ◌+◌, ◌-◌, length, [], ◌∷◌, sym, subst, ◌∙◌, arith}
use Rattle.cg_base.specs.Types.{Tau}
use Rattle.cg_cgen_def.specs.Bodies.{Low}
use Rattle.cg_cgen_def.specs.Loops.{iterator_low}
use Rattle.cg_base.specs.declared.kind.Word.TheVariants.{U32}
use Rattle.cg_cmachine_def.specs.Layouts.{cell, size}
use Rattle.cg_cmachine_def.specs.Operands.{Frame, typed}
use Rattle.cg_cmachine_def.specs.Outcomes.{done}
use Rattle.cg_cmachine_def.specs.Runs.{calls_in}
use Rattle.cg_heap.specs.declared.cell.Scalar.TheVariants.{Word as NumberScalar}
use Rattle.cg_typing.specs.Library.{library_type}
use Rattle.cg_typing.specs.Parts.{given_by, taken_by}
use Rattle.cg_update.specs.Outcomes.{starting}
use Rattle.cg_lower_def.specs.CTypes.{c_type}
use Rattle.cg_lower_def.specs.Iterated.{IteratorsRun, tag_in, with_steps}
use Rattle.cg_lower_def.specs.IteratorCode.{function_type, types_in}
use Rattle.cg_lower_def.specs.Simulated.{as_run}
use Rattle.cg_lower_laws.proofs.Bodies.{begins, begins_fresh, begins_is, body_runs}
use Rattle.cg_lower_laws.proofs.Inversions.{pay_for_is}
use Rattle.cg_lower_laws.proofs.Iterating.{Does, LoopRan, Price}
use Rattle.cg_lower_laws.proofs.Iterators.{iterator_ran, few_locals}
use Rattle.cg_lower_laws.proofs.Layouts.{machine_slots, size_slots}
use Rattle.cg_lower_laws.proofs.Terms.{lay_c}

-- a step is worth a step, and a call leaves over what its turn pays for it
abbrev steps_of_turns : Price
steps_of_turns = record { worth = λ n. n; granted = 0; left_over = 23; pays = λ n. omega arith }

pub iterators_run : IteratorsRun
iterators_run lib args types numbered q x called call us ws m s left rest one many good found dt dr di da few machine answers e = (
  left + 24 - suc ran.steps,
  omega (arith, ran.within),
  body_runs q numbered x (c_type numbered takes) (c_type numbered gives') low us ws (as_run (starting m)) (as_run s) ran.steps found
      (record { frame = ran.frame; runs = ran.runs; keeps = ran.keeps; readable = ran.readable }) (left + 24) (left + 24 - suc ran.steps) sized (omega (arith, ran.within)),
)
  where
    takes : Tau
    takes = taken_by (library_type lib args)

    gives' : Tau
    gives' = given_by (library_type lib args)

    low : Low
    low = iterator_low lib (types_in numbered lib args) called

    frame : Frame
    frame = begins q (c_type numbered takes) us low.locals

    sized : length us ≡ size (lay_c q (c_type numbered takes))
    sized = machine_slots types takes us machine ∙ sym (size_slots numbered q.program.structs takes dt)

    does : Does types numbered q called steps_of_turns (tag_in lib args us) (taken_by (function_type lib args)) (given_by (function_type lib args)) (with_steps call)
    does asks gave t t' from to known h fine =
        let paid = pay_for_is 23 from (λ paid. call asks t paid) gave t' to h in
        let a = answers asks gave t t' (from - 23) to paid.1 fine in
        record {
          steps = a.steps;
          within = let there = paid.0 in let takes = a.takes in omega (arith, there, takes);
          answers = record {
            by = λ m b b' is le.
                rw a.ends.is_own
                (subst
                (λ z. calls_in q m called (typed (cell U32) (NumberScalar (tag_in lib args us) ∷ []) ∷ typed (lay_c q (c_type numbered (taken_by (function_type lib args)))) asks ∷ []) (as_run t) z
                ≡ done (typed (lay_c q (c_type numbered (given_by (function_type lib args)))) gave) (as_run t') b')
                (sym is) (a.ends.ends m b' (omega (arith, is, le))));
          };
          machine = a.machine;
        }

    ran : LoopRan steps_of_turns q (lay_c q (c_type numbered gives')) low frame (starting m) s (lay_c q (c_type numbered gives')) ws left rest
    ran =
        iterator_ran lib args one many good types numbered q (lay_c q (c_type numbered gives')) called steps_of_turns (with_steps call) frame (starting m) s us ws left rest few does dt dr di da
        (begins_is q (c_type numbered takes) us low.locals sized) (begins_fresh q (c_type numbered takes) us low.locals (few_locals lib (types_in numbered lib args) called)) machine e
