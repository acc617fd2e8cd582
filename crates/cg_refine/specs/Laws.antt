-- Evaluation of terms is refined by their updates, on any heap that represents the context.
use Rattle.std.specs.Prelude.{◌≡◌, ℕ, ◌+◌, Bool, true, IsTrue, nat_eq, Option, Some, List, [], map}
use Rattle.std.specs.List.{list_all}
use Rattle.cg_base.specs.declared.fun.Fun.{Fun}
use Rattle.cg_base.specs.declared.kind.Sigil.{Sigil}
use Rattle.cg_base.specs.declared.kind.Sigil.TheVariants.{R, W}
use Rattle.cg_base.specs.Types.{Tau, arrow}
use Rattle.cg_core.specs.declared.derivation.Mark.{Mark}
use Rattle.cg_core.specs.declared.term.Seen.{Seen as Observer}
use Rattle.cg_core.specs.Derivations.{Derivation}
use Rattle.cg_core.specs.Terms.{Arg, Note, Tree}
use Rattle.cg_eval_def.specs.Evaluation.{Run, Table, apply, node, pay, with_fuel}
use Rattle.cg_eval_operations.specs.Positions.{position}
use Rattle.cg_heap.specs.Calls.{heap_of}
use Rattle.cg_heap.specs.declared.cell.Scalar.{Scalar}
use Rattle.cg_heap.specs.Reps.{Heap, HeapWorld, Holds, first_number, foot, tail}
use Rattle.cg_heap.specs.Steps.{IsFine}
use Rattle.cg_heap.specs.Stored.{Stored}
use Rattle.cg_kinds.specs.Kinds.{subst}
use Rattle.cg_refine_def.specs.Contexts.{Divided, HoldsContext, context_foot}
use Rattle.cg_refine_def.specs.Refined.{IsRefined, is_clear_node, side_of}
use Rattle.cg_typing.specs.Contexts.{Context, first, second, Splits}
use Rattle.cg_typing.specs.Functions.{arg_types, fun_type}
use Rattle.cg_typing.specs.Instances.{is_closed, nodes_of}
use Rattle.cg_typing.specs.Parts.{alternative_in, field_in, held, is_left, with_part}
use Rattle.cg_typing.specs.Rules.{Derives, type_at}
use Rattle.cg_update.specs.Calls.{Program, types_of}
use Rattle.cg_update.specs.Machines.{part_at}
use Rattle.cg_update.specs.Outcomes.{State}
use Rattle.cg_update.specs.Turns.{alternatives_in, fields_in, place_in}
use Rattle.cg_update.specs.Updates as updates
use Rattle.cg_update.specs.Updates.{Calls, place_of, row_of, sigil_of, update}
use Rattle.cg_value.specs.Forms as forms
use Rattle.cg_value.specs.Forms.{payload_in, without}
use Rattle.cg_value.specs.Values.{Val, function}

module _ (p : Program) (among : ℕ → Bool) (world : HeapWorld) where
  -- the types that the world tells of instances are those of the program
  abbrev pub TypesAreKnown : Type 0
  TypesAreKnown = (k : ℕ) (v : Val) (t : Tau) → world.instance_at k ≡ Some (v, t) → types_of p k ≡ Some t

  -- the place of a mention among those represents its function
  abbrev pub MentionsHold : Type 0
  MentionsHold =
      (h : Heap) (f : Fun) (args : List Arg) (k : ℕ) (t : Tau) → fun_type p.functions f args ≡ Some t → IsTrue (list_all is_closed (arg_types args))
      → place_of (record { fun = f; types = arg_types args }) p.list ≡ Some k → among k ≡ true
      → Holds world h t (updates.number k) (function f (map (subst []) (arg_types args)))

  -- Evaluation of terms is refined by their updates: of each that is derived, in a context that the heap represents and whose footprints
  -- are fine, from these to what the result reaches.
  abbrev pub TermsRefine : Run → Calls → Type 0
  TermsRefine run calls =
      (g : Context) (us : List (List Scalar)) (vs : List Val) (s : State) → HoldsContext world (heap_of s.store) g us vs
      → IsFine (side_of s (context_foot (heap_of s.store) W g us) (context_foot (heap_of s.store) R g us))
      → (d : Derivation) (direction : Option Tau) (core : Tree Note) → Derives p.functions [] g d direction core
      → IsTrue (list_all (is_clear_node p.list among) (nodes_of core))
      → (left : ℕ) → IsRefined world s (context_foot (heap_of s.store) W g us) (context_foot (heap_of s.store) R g us) (type_at core)
      (run core (record { types = []; values = vs }) left) (update p calls core us s left)

  -- evaluation of calls is refined, on any argument that the heap represents and whose footprints are fine
  abbrev pub CallsRefine : Table → Run → Calls → Type 0
  CallsRefine table run calls =
      (a b : Tau) (us ws : List Scalar) (f v : Val) (s : State) → Holds world (heap_of s.store) (arrow a b) us f → Holds world (heap_of s.store) a ws v
      → IsFine (side_of s (foot (heap_of s.store) W a ws) (foot (heap_of s.store) R a ws))
      → (left : ℕ) → IsRefined world s (foot (heap_of s.store) W a ws) (foot (heap_of s.store) R a ws) b (apply table run f v left) (calls (first_number us) ws s left)

-- one level: where parts and calls are refined, so are nodes over them
abbrev pub NodesAreRefined : Type 0
NodesAreRefined =
    (p : Program) (among : ℕ → Bool) (world : HeapWorld) → TypesAreKnown p among world → MentionsHold p among world → (table : Table) (run : Run) (calls : Calls)
    → TermsRefine p among world run calls → CallsRefine p among world table run calls
    → TermsRefine p among world (λ t c left. pay left (λ rest. node table run t c rest)) calls

-- so terms are, with any fuel, where calls are with any
abbrev pub TermsAreRefined : Type 0
TermsAreRefined =
    (p : Program) (among : ℕ → Bool) (world : HeapWorld) → TypesAreKnown p among world → MentionsHold p among world → (table : Table) (calls : Calls)
    → ((fuel : ℕ) → CallsRefine p among world table (with_fuel table fuel) calls)
    → (fuel : ℕ) → TermsRefine p among world (with_fuel table fuel) calls

-- marks divide a context that a heap represents, and what it reaches
abbrev pub SidesDivide : Type 0
SidesDivide =
    (world : HeapWorld) (h : Heap) (observers : List Observer) (m : List Mark) (g : Context) (us : List (List Scalar)) (vs : List Val) → Splits [] observers m g → HoldsContext world h g us vs
    → HoldsContext world h (first m g) us vs × HoldsContext world h (second m g) us vs
    × Divided (context_foot h W g us) (context_foot h R g us) (context_foot h W (first m g) us) (context_foot h R (first m g) us) (context_foot h W (second m g) us) (context_foot h R (second m g) us)

-- a field that is taken and the record that is left hold, and reach together what the record did
abbrev pub FieldsStandAside : Type 0
FieldsStandAside =
    (world : HeapWorld) (s : Stored) (n : List ℕ) (t : Tau) (us row ws : List Scalar) (v : Val) → Holds world (heap_of s) t us v → IsTrue (is_left (field_in n t))
    → row_of (sigil_of t) us s ≡ Some row → part_at (position n t) (fields_in t) row ≡ Some ws
    → Holds world (heap_of s) (with_part n true t) us (without v (position n t)) × Holds world (heap_of s) (held (field_in n t)) ws (forms.field v (position n t))
    × ((m : Sigil) (q : ℕ) → foot (heap_of s) m (with_part n true t) us q + foot (heap_of s) m (held (field_in n t)) ws q ≡ foot (heap_of s) m t us q)

-- the payload of a variant holds, and reaches what the variant does
abbrev pub PayloadsAreAll : Type 0
PayloadsAreAll =
    (world : HeapWorld) (h : Heap) (n : List ℕ) (t : Tau) (us ws : List Scalar) (v : Val) → Holds world h t us v → IsTrue (is_left (alternative_in n t))
    → nat_eq (first_number us) (place_in n t) ≡ true → part_at (place_in n t) (alternatives_in t) (tail us) ≡ Some ws
    → Holds world h (held (alternative_in n t)) ws (payload_in v) × ((m : Sigil) (q : ℕ) → foot h m (held (alternative_in n t)) ws q ≡ foot h m t us q)
