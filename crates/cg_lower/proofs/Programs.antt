-- The C program of a list of instances does what the update semantics does, and can be printed.
use Rattle.std.proofs.Common.{◌≡◌, List, length, sym, ap, ◌∙◌, subst, arith}
use Rattle.std.proofs.lemmas.List.{length-map}
use Rattle.cg_lower.specs.Collected.{Copy, table_in, whole_of}
use Rattle.cg_ctree.specs.Spells.{IsPrintable}
use Rattle.cg_heap.specs.declared.foreign.Link.{Link}
use Rattle.cg_lower_laws.proofs.Printing.{lowering_is_printable}
use Rattle.cg_lower_laws.proofs.Whole.{lowering_simulates}
use Rattle.cg_lower_def.specs.Functions.{program_in}
use Rattle.cg_lower_def.specs.Simulated as laws
use Rattle.cg_lower_def.specs.Simulated.{Simulates}
use Rattle.cg_lower_def.specs.Structs.{structs_in}
use Rattle.cg_update.specs.Calls.{Program}
use Rattle.cg_lower.specs.Programs.{items_in, lowered}
use Rattle.cg_lower.specs.Promises.{AreFew, CanBePrinted, IsProgramOf, IsSimulated}
use Rattle.cg_lower.proofs.Placed.{arrow_stands, instance_stands, items_within}
use Rattle.cg_lower.proofs.PrintedStructs.{table_prints}
use Rattle.cg_lower.proofs.Ready.{is_ready}

module _ (copies : List Copy) (few : AreFew copies) (p : Program) (links : List Link) (is : IsProgramOf p links copies) where
  as_many : length copies ≡ length p.list
  as_many = sym (ap length is.list ∙ length-map copies (λ (c : Copy). c.0))

  -- the items in order are a program of the laws of lowering
  is_program : laws.IsProgramOf p (whole_of copies) (structs_in (table_in copies)) links (items_in (whole_of copies) copies)
  is_program = record {
    same_list = sym is.list;
    instances = is.instances;
    few = omega (arith, few.list, as_many);
    few_arrows = few.arrows;
    placed = λ k h. instance_stands (whole_of copies) copies k (omega (arith, h, as_many));
    arrows_placed = arrow_stands (whole_of copies) copies;
    only = items_within (whole_of copies) copies p as_many;
    ready = is_ready copies few p links is;
  }

pub lowered_simulates : (copies : List Copy) → AreFew copies → IsSimulated copies (lowered copies)
lowered_simulates copies few p links is =
    let whole = whole_of copies in let ss = structs_in (table_in copies) in let items = items_in whole copies in
    subst (λ es. Simulates p (record { program = program_in whole ss es items; links = links; asked = p.on_heaps.asked })) is.entries
    (lowering_simulates p whole ss links items (is_program copies few p links is))

pub lowered_is_printable : (copies : List Copy) → AreFew copies → CanBePrinted copies (lowered copies)
lowered_is_printable copies few p links is has shallow =
    let whole = whole_of copies in let ss = structs_in (table_in copies) in let items = items_in whole copies in
    subst (λ es. IsPrintable (program_in whole ss es items)) is.entries
    (lowering_is_printable p whole ss links items (is_program copies few p links is) (table_prints (table_in copies) few.table has) shallow)
