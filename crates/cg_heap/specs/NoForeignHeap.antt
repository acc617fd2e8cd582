-- On heaps the table that gives no type and knows no function answers nothing.
use Rattle.std.specs.Prelude.{false, None}
use Rattle.cg_heap.specs.ForeignHeaps.{ForeignHeap, IsLawfulOnHeaps}
use Rattle.cg_value.specs.NoForeign.{no_foreign}

abbrev pub no_foreign_heap : ForeignHeap
no_foreign_heap = record { stands = λ name ns v. false; asked = λ name us s. None }

-- it meets the laws of tables on heaps
pub none_is_lawful_on_heaps : IsLawfulOnHeaps no_foreign no_foreign_heap
none_is_lawful_on_heaps = record {
  stands_once = λ name ns v v' stands _. absurd (cc);
  is_answered = λ instances name s us from to v call. absurd (let f = call.known in cc);
  is_call = λ name us s a answered. absurd (cc);
}
