-- Why a program has one answer.
use Rattle.std.proofs.Common.{◌≡◌, ◌<◌, List, [], ◌∷◌, Result, Ok, Err, arith, refl, sym, ap, ◌∙◌, subst}
use Rattle.std.specs.Prelude.{slice_get}
use Rattle.std.proofs.lemmas.Option.{same_Some}
use Rattle.cg_base.specs.declared.limit.Limit as code
use Rattle.cg_base.specs.declared.limit.Limit.TheVariants as limits
use Rattle.cg_base.specs.declared.place.Place.{Place}
use Rattle.cg_graphs.specs.Circles.{NoCircle}
use Rattle.cg_core.specs.declared.kernel.Kernel.{Kernel}
use Rattle.cg_core.specs.Kernels.{kernel_of}
use Rattle.cg_surface.specs.Programs.{Entry}
use Rattle.cg_resolve_def.specs.Desugar.{functions_of, NamesStand, WithinLimits, entry_at, TooMany, TooWide, TooLarge, TooDeep}
use Rattle.cg_resolve_def.specs.Faults.{NameFault, unknown, twice, arguments, program_faults}
use Rattle.cg_resolve_def.specs.Mentions.{mentions}
use Rattle.cg_resolve_def.specs.Takes.{missing_fields}
use Rattle.cg_resolve_names.specs.Says.{IsFirst}
use Rattle.cg_resolve_takes.specs.Says as takes
use Rattle.cg_resolve.specs.Answers.{Answers, IsCircleAt, Passes}
use Rattle.cg_resolve.specs.Laws.{Same, OneAnswer}
use Rattle.cg_resolve.specs.declared.fault.Fault.{Fault}
use Rattle.cg_resolve.specs.declared.fault.Fault.TheVariants.{N1, N2, N3, N4, N5, Limit, Memory}

-- ---- faults of names

-- a name fault as an answer
abbrev of_name : NameFault → Fault
of_name (unknown p) = N1 p
of_name (twice p) = N2 p
of_name (arguments p) = N4 p

pub no_first : (fault : NameFault) (faults : List NameFault) → IsFirst fault faults → faults ≡ [] → ⊥
no_first fault [] is none = is
no_first fault (first ∷ later) is none = cc

the_first : (fault first : NameFault) (later faults : List NameFault) → IsFirst fault faults → faults ≡ first ∷ later → first ≡ fault
the_first fault first later [] is first_is = absurd is
the_first fault first later (found ∷ rest) is first_is = let same : found ≡ first = cc in sym same ∙ is

pub no_place : (p : Place) (places : List Place) → takes.IsFirst p places → places ≡ [] → ⊥
no_place p [] is none = is
no_place p (first ∷ later) is none = cc

pub same_place : (p q : Place) (places : List Place) → takes.IsFirst p places → takes.IsFirst q places → p ≡ q
same_place p q [] is also = absurd is
same_place p q (first ∷ later) is also = sym is ∙ also

-- answers that are these
both : {a a' b b' : Result Kernel Fault} → a ≡ a' → b ≡ b' → Same a' b' → Same a b
both {a' = a'} {b = b} a_is b_is same = subst (λ x. Same x b) (sym a_is) (subst (λ y. Same a' y) (sym b_is) same)

-- ---- limits

module _ (entries : List Entry) where
  -- one of the four limits
  data Passed (l : code.Limit) : Type 0 where
    many : l ≡ limits.Functions → TooMany entries → Passed l
    wide : l ≡ limits.Fields → TooWide entries → Passed l
    large : l ≡ limits.Ty → TooLarge entries → Passed l
    deep : l ≡ limits.Depth → TooDeep entries → Passed l

  passed : (limit : code.Limit) → Passes entries limit → Passed limit
  passed limits.Source h = absurd h
  passed limits.Nesting h = absurd h
  passed limits.Functions h = many refl h
  passed limits.Fields h = wide refl h
  passed limits.Ty h = large refl h
  passed limits.Depth h = deep refl h
  passed limits.Instances h = absurd h
  passed limits.Core h = absurd h
  passed limits.Heap h = absurd h
  passed limits.Certificate h = absurd h

  same_limit : (l m : code.Limit) → Passed l → Passed m → l ≡ m
  same_limit l m (many is h) (many also g) = is ∙ sym also
  same_limit l m (many is h) (wide also g) = absurd (omega (arith, h, g.0))
  same_limit l m (many is h) (large also g) = absurd (omega (arith, h, g.0))
  same_limit l m (many is h) (deep also g) = absurd (omega (arith, h, g.0))
  same_limit l m (wide is h) (many also g) = absurd (omega (arith, h.0, g))
  same_limit l m (wide is h) (wide also g) = is ∙ sym also
  same_limit l m (wide is h) (large also g) = absurd (omega (arith, h.1, g.1))
  same_limit l m (wide is h) (deep also g) = absurd (omega (arith, h.1, g.1))
  same_limit l m (large is h) (many also g) = absurd (omega (arith, h.0, g))
  same_limit l m (large is h) (wide also g) = absurd (omega (arith, h.1, g.1))
  same_limit l m (large is h) (large also g) = is ∙ sym also
  same_limit l m (large is h) (deep also g) = absurd (omega (arith, h.2, g.2))
  same_limit l m (deep is h) (many also g) = absurd (omega (arith, h.0, g))
  same_limit l m (deep is h) (wide also g) = absurd (omega (arith, h.1, g.1))
  same_limit l m (deep is h) (large also g) = absurd (omega (arith, h.2, g.2))
  same_limit l m (deep is h) (deep also g) = is ∙ sym also

  not_within : (l : code.Limit) → Passed l → WithinLimits entries → ⊥
  not_within l (many is h) within = omega (arith, h, within.0)
  not_within l (wide is h) within = omega (arith, h.1, within.1)
  not_within l (large is h) within = omega (arith, h.2, within.2)
  not_within l (deep is h) within = omega (arith, h.3, within.3)

  -- ---- circles

  same_circle : (p q : Place) → IsCircleAt entries p → IsCircleAt entries q → p ≡ q
  same_circle p q is also =
      let before : also.0 < is.0 → ⊥ = λ lt. is.1.first also.0 lt also.1.circle in
      let behind : is.0 < also.0 → ⊥ = λ lt. also.1.first is.0 lt is.1.circle in
      let one : is.0 ≡ also.0 = omega (arith, before, behind) in
      let item : is.2.0 ≡ also.2.0 = same_Some is.2.0 also.2.0 (sym is.2.1 ∙ ap (slice_get entries) one ∙ also.2.1) in
      sym is.2.2 ∙ ap (λ e. (entry_at e).place) item ∙ also.2.2

  -- ---- whole answers

  -- a fault of names is the answer
  named : (first : NameFault) (later : List NameFault) (a : Result Kernel Fault) → program_faults entries ≡ first ∷ later → Answers entries a → (a ≡ Err Memory → ⊥) → a ≡ Err (of_name first)
  named first later (Ok k) faults right enough = let names = right.0.names in cc
  named first later (Err (N1 p)) faults right enough = ap (λ n. Err (of_name n)) (sym (the_first (unknown p) first later (program_faults entries) right faults))
  named first later (Err (N2 p)) faults right enough = ap (λ n. Err (of_name n)) (sym (the_first (twice p) first later (program_faults entries) right faults))
  named first later (Err (N3 p)) faults right enough = let names = right.0 in cc
  named first later (Err (N4 p)) faults right enough = ap (λ n. Err (of_name n)) (sym (the_first (arguments p) first later (program_faults entries) right faults))
  named first later (Err (N5 p)) faults right enough = let names = right.0 in cc
  named first later (Err (Limit limit)) faults right enough = let names = right.0.names in cc
  named first later (Err Memory) faults right enough = absurd (enough refl)

  -- where there is none, another is
  data Late (a : Result Kernel Fault) : Type 0 where
    circle : (p : Place) → a ≡ Err (N3 p) → IsCircleAt entries p → Late a
    no_field : (p : Place) → a ≡ Err (N5 p) → NoCircle (mentions entries) → takes.IsFirst p (missing_fields entries) → Late a
    over_limit : (l : code.Limit) → a ≡ Err (Limit l) → NamesStand entries → Passed l → Late a
    made : (k : Kernel) → a ≡ Ok k → NamesStand entries → WithinLimits entries → kernel_of k ≡ functions_of entries → Late a

  late : (a : Result Kernel Fault) → program_faults entries ≡ [] → Answers entries a → (a ≡ Err Memory → ⊥) → Late a
  late (Ok k) none right enough = made k refl right.0 right.1 right.2
  late (Err (N1 p)) none right enough = absurd (no_first (unknown p) (program_faults entries) right none)
  late (Err (N2 p)) none right enough = absurd (no_first (twice p) (program_faults entries) right none)
  late (Err (N3 p)) none right enough = circle p refl right.1
  late (Err (N4 p)) none right enough = absurd (no_first (arguments p) (program_faults entries) right none)
  late (Err (N5 p)) none right enough = no_field p refl right.1 right.2
  late (Err (Limit l)) none right enough = over_limit l refl right.0 (passed l right.1)
  late (Err Memory) none right enough = absurd (enough refl)

  no_circle : (p : Place) → IsCircleAt entries p → NoCircle (mentions entries) → ⊥
  no_circle p is none = none is.0 is.1.circle

  same_late : (a b : Result Kernel Fault) → Late a → Late b → Same a b
  same_late a b (circle p a_is is) (circle q b_is also) = both a_is b_is (ap N3 (same_circle p q is also))
  same_late a b (circle p a_is is) (no_field q b_is none first) = absurd (no_circle p is none)
  same_late a b (circle p a_is is) (over_limit l b_is names over) = absurd (no_circle p is names.circles)
  same_late a b (circle p a_is is) (made k b_is names within same) = absurd (no_circle p is names.circles)
  same_late a b (no_field p a_is none first) (circle q b_is also) = absurd (no_circle q also none)
  same_late a b (no_field p a_is none first) (no_field q b_is also_none also) = both a_is b_is (ap N5 (same_place p q (missing_fields entries) first also))
  same_late a b (no_field p a_is none first) (over_limit l b_is names over) = absurd (no_place p (missing_fields entries) first names.fields)
  same_late a b (no_field p a_is none first) (made k b_is names within same) = absurd (no_place p (missing_fields entries) first names.fields)
  same_late a b (over_limit l a_is names over) (circle q b_is also) = absurd (no_circle q also names.circles)
  same_late a b (over_limit l a_is names over) (no_field q b_is none first) = absurd (no_place q (missing_fields entries) first names.fields)
  same_late a b (over_limit l a_is names over) (over_limit m b_is also_names also) = both a_is b_is (ap Limit (same_limit l m over also))
  same_late a b (over_limit l a_is names over) (made k b_is also_names within same) = absurd (not_within l over within)
  same_late a b (made k a_is names within same) (circle q b_is also) = absurd (no_circle q also names.circles)
  same_late a b (made k a_is names within same) (no_field q b_is none first) = absurd (no_place q (missing_fields entries) first names.fields)
  same_late a b (made k a_is names within same) (over_limit m b_is also_names over) = absurd (not_within m over within)
  same_late a b (made k a_is names within same) (made l b_is also_names also_within also) = both a_is b_is (same ∙ sym also)

  same_named : (f : Fault) (a b : Result Kernel Fault) → a ≡ Err f → b ≡ Err f → Same a b
  same_named f (Ok k) b is also = cc
  same_named f (Err g) (Ok k) is also = cc
  same_named f (Err g) (Err h) is also = cc

  same : (faults : List NameFault) (a b : Result Kernel Fault) → program_faults entries ≡ faults → Answers entries a → Answers entries b → (a ≡ Err Memory → ⊥) → (b ≡ Err Memory → ⊥) → Same a b
  same [] a b none right also enough also_enough = same_late a b (late a none right enough) (late b none also also_enough)
  same (first ∷ later) a b faults right also enough also_enough = same_named (of_name first) a b (named first later a faults right enough) (named first later b faults also also_enough)

  -- what a fault says of names, and a limit of limits
  abbrev pub StandsOrNot : Fault → Type 0
  StandsOrNot (N1 p) = NamesStand entries → ⊥
  StandsOrNot (N2 p) = NamesStand entries → ⊥
  StandsOrNot (N3 p) = NamesStand entries → ⊥
  StandsOrNot (N4 p) = NamesStand entries → ⊥
  StandsOrNot (N5 p) = NamesStand entries → ⊥
  StandsOrNot (Limit l) = NamesStand entries × (WithinLimits entries → ⊥)
  StandsOrNot Memory = Unit {0}

  -- a fault of names that is right refutes that names are in order; a limit says that they are, and refutes that limits are kept
  pub stands_or_not : (fault : Fault) → Answers entries (Err fault) → StandsOrNot fault
  stands_or_not (N1 p) right = λ names. no_first (unknown p) (program_faults entries) right names.names
  stands_or_not (N2 p) right = λ names. no_first (twice p) (program_faults entries) right names.names
  stands_or_not (N3 p) right = λ names. no_circle p right.1 names.circles
  stands_or_not (N4 p) right = λ names. no_first (arguments p) (program_faults entries) right names.names
  stands_or_not (N5 p) right = λ names. no_place p (missing_fields entries) right.2 names.fields
  stands_or_not (Limit l) right = (right.0, λ within. not_within l (passed l right.1) within)
  stands_or_not Memory right = tt

pub one_answer : OneAnswer
one_answer entries a b right also enough also_enough = same entries (program_faults entries) a b refl right also enough also_enough
