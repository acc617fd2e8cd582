-- A heap file has one first fault at a type, or none.
use Rattle.std.proofs.Common.{◌≡◌, ◌<◌, ℕ, List, sym, ap, ◌∙◌, arith, subst, refl}
use Rattle.std.specs.Prelude.{◌==◌, if◌then◌else◌}
use Rattle.cg_base.specs.declared.place.Place.{Place}
use Rattle.cg_base.specs.Types.{Tau}
use Rattle.cg_heaptext_def.specs.HeapText.{At, Fault, second, absent, misfits, over, aliased, large, FirstOf, IsAbsent, IsLarge, IsOver, IsSecond, Lacks, LacksBefore, Nowhere, cells_of, placed, read_events}
use Rattle.cg_heaptext_def.specs.Reading.{Event, scalars, value}
use Rattle.cg_heaptext_def.specs.Trees.{Heap, bare}
use Rattle.cg_heaptext_parser.proofs.Says.{one_heap}
use Rattle.cg_heaptext_fault_laws.specs.Laws.{FaultIsNoText, OneFault, OneText}
use Rattle.cg_heaptext_fault_laws.proofs.Firsts.{least_line, one_alias, one_misfit}

-- the number of a fault, by which the first is told, and the fault of a number
abbrev rank : Fault → ℕ
rank second = 2
rank absent = 3
rank misfits = 4
rank over = 5
rank aliased = 6
rank large = 7

abbrev ranked : ℕ → Fault
ranked n = if n == 2 then second else if n == 3 then absent else if n == 4 then misfits else if n == 5 then over else if n == 6 then aliased else large

rank_back : (f : Fault) → ranked (rank f) ≡ f
rank_back second = refl
rank_back absent = refl
rank_back misfits = refl
rank_back over = refl
rank_back aliased = refl
rank_back large = refl

somewhere : (P : List Event → Event → Place → Type 0) (es : List Event) (p : Place) → FirstOf P es p → Nowhere P es → ⊥
somewhere P es p a none = let x = a.0 in none x.front x.rest x.event p x.parts x.here

module _ (h : Heap) (t : Tau) where
  -- a fault that is there isn't missing
  there : (f : Fault) (p : Place) → At f h t p → Lacks f h t → ⊥
  there second p a none = none p a.0
  there absent p a none = none p a.0
  there misfits p a none = somewhere _ (read_events h t) p a none
  there over p a none = none p a.0
  there aliased p a none = somewhere _ (read_events h t) p a none
  there large p a none = none p a.0

  -- it is on one line
  one_line : (f : Fault) (p q : Place) → At f h t p → At f h t q → p.line ≡ q.line
  one_line second p q a b = least_line (IsSecond h) p q a b
  one_line absent p q a b = least_line (IsAbsent h) p q a b
  one_line misfits p q a b = ap (λ (r : Place). r.line) (one_misfit (read_events h t) p q a b)
  one_line over p q a b = least_line (IsOver h t) p q a b
  one_line aliased p q a b = ap (λ (r : Place). r.line) (one_alias (read_events h t) p q a b)
  one_line large p q a b = least_line (IsLarge h) p q a b

  -- where all before one are missing, each of these is
  lacked : (f g : Fault) → rank f < rank g → LacksBefore g h t → Lacks f h t
  lacked second second lt b = absurd (omega (arith, lt))
  lacked second absent lt b = b
  lacked second misfits lt b = b.0
  lacked second over lt b = b.0
  lacked second aliased lt b = b.0
  lacked second large lt b = b.0
  lacked absent second lt b = absurd (omega (arith, lt))
  lacked absent absent lt b = absurd (omega (arith, lt))
  lacked absent misfits lt b = b.1
  lacked absent over lt b = b.1
  lacked absent aliased lt b = b.1
  lacked absent large lt b = b.1
  lacked misfits second lt b = absurd (omega (arith, lt))
  lacked misfits absent lt b = absurd (omega (arith, lt))
  lacked misfits misfits lt b = absurd (omega (arith, lt))
  lacked misfits over lt b = b.2
  lacked misfits aliased lt b = b.2
  lacked misfits large lt b = b.2
  lacked over second lt b = absurd (omega (arith, lt))
  lacked over absent lt b = absurd (omega (arith, lt))
  lacked over misfits lt b = absurd (omega (arith, lt))
  lacked over over lt b = absurd (omega (arith, lt))
  lacked over aliased lt b = b.3
  lacked over large lt b = b.3
  lacked aliased second lt b = absurd (omega (arith, lt))
  lacked aliased absent lt b = absurd (omega (arith, lt))
  lacked aliased misfits lt b = absurd (omega (arith, lt))
  lacked aliased over lt b = absurd (omega (arith, lt))
  lacked aliased aliased lt b = absurd (omega (arith, lt))
  lacked aliased large lt b = b.4
  lacked large second lt b = absurd (omega (arith, lt))
  lacked large absent lt b = absurd (omega (arith, lt))
  lacked large misfits lt b = absurd (omega (arith, lt))
  lacked large over lt b = absurd (omega (arith, lt))
  lacked large aliased lt b = absurd (omega (arith, lt))
  lacked large large lt b = absurd (omega (arith, lt))

  -- where all are missing, each is
  lacking : (f : Fault) → LacksBefore large h t → Lacks large h t → Lacks f h t
  lacking second b l = b.0
  lacking absent b l = b.1
  lacking misfits b l = b.2
  lacking over b l = b.3
  lacking aliased b l = b.4
  lacking large b l = l

  -- none comes before the first
  not_before : (f g : Fault) (p : Place) → At f h t p → LacksBefore g h t → rank f < rank g → ⊥
  not_before f g p a b lt = there f p a (lacked f g lt b)

  same_fault : (f g : Fault) (p q : Place) → At f h t p → At g h t q → LacksBefore f h t → LacksBefore g h t → f ≡ g
  same_fault f g p q a b m n =
      let before : rank f < rank g → ⊥ = not_before f g p a n in
      let behind : rank g < rank f → ⊥ = not_before g f q b m in
      let same : rank f ≡ rank g = omega (arith, before, behind) in
      sym (rank_back f) ∙ ap ranked same ∙ rank_back g

  -- the first fault is one, on one line
  first_fault : (f g : Fault) (p q : Place) → At f h t p → At g h t q → LacksBefore f h t → LacksBefore g h t → (f ≡ g) × (p.line ≡ q.line)
  first_fault f g p q a b m n =
      let same = same_fault f g p q a b m n in
      (same, one_line f p q a (subst (λ k. At k h t q) (sym same) b))

pub one_fault : OneFault
one_fault bytes t f g m n a b =
    let same : b.heap ≡ a.heap = one_heap bytes b.heap a.heap b.spells a.spells in
    let at : At g a.heap t b.place = subst (λ h. At g h t b.place) same b.at in
    let before : LacksBefore g a.heap t = subst (λ h. LacksBefore g h t) same b.before in
    let first = first_fault a.heap t f g a.place b.place a.at at a.before before in
    (first.0, a.stands ∙ first.1 ∙ sym b.stands)

pub fault_is_no_text : FaultIsNoText
fault_is_no_text bytes t fault line a cs us v b =
    let same : a.heap ≡ b.heap = one_heap bytes a.heap b.heap a.spells b.spells in
    there b.heap t fault a.place (subst (λ h. At fault h t a.place) same a.at) (lacking b.heap t fault b.sound.0 b.sound.1)

pub one_text : OneText
one_text bytes t cs ds us vs v w a b =
    let same : a.heap ≡ b.heap = one_heap bytes a.heap b.heap a.spells b.spells in (
      a.are_cells ∙ ap (λ h. placed h t) same ∙ sym b.are_cells,
      a.is_argument ∙ ap (λ (h : Heap). scalars t (bare h.argument)) same ∙ sym b.is_argument,
      a.is_value ∙ ap (λ (h : Heap). value (cells_of h) t (bare h.argument)) same ∙ sym b.is_value,
    )
