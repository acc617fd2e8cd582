-- What follows a call of the library, for tests.
use Rattle.std.proofs.Common.{rules, ◌≡◌, ℕ, zero, suc, ◌+◌, ◌≤◌, Bool, true, false, cond, nat_eq, nat_lt, List, [], ◌∷◌, map, length, slice_set, refl, sym, ap, ◌∙◌, arith}
use Rattle.std.specs.FinMap as table
use Rattle.std.specs.FinMap.{FinMap}
use Rattle.std.specs.List.{All}
use Rattle.std.specs.Ordering.{nat_cmp}
use Rattle.cg_base.proofs.Views.{piece_of}
use Rattle.cg_base.specs.declared.kind.Sigil.{Sigil}
use Rattle.cg_base.specs.declared.ty.Part.{Part}
use Rattle.cg_base.specs.declared.ty.Ty.{Ty, the_lemmas}
use Rattle.cg_base.specs.declared.ty.Ty.TheVariants as ty
use Rattle.cg_base.specs.Types.{bool, fields, part_of, to_parts, type_of}
use Rattle.cg_typing.specs.Parts.{nodes, nodes_parts}
use Rattle.std.specs.declared.option.Option.TheVariants.{None, Some}
use Rattle.cg_heap.proofs.TopSteps.{top_stays}
use Rattle.cg_heap.specs.declared.cell.Cell.{Cell}
use Rattle.cg_heap.specs.declared.cell.Cell.TheVariants.{Words}
use Rattle.cg_heap.specs.declared.cell.Fresh.{Fresh}
use Rattle.cg_heap.specs.Stored.{Stored, cell_at, changed, in_cell, in_place, with_cell, with_element, without_answer}
use Rattle.cg_lib_heap.specs.Library.{HasWords, granted, words_at, words_in}
use Rattle.cg_lib_heap.proofs.AllocateSteps.{found}
use Rattle.cg_lib_value.proofs.MadeSteps.{record_is}

pub one_higher : (p : ℕ) (b : Bool) (f : Fresh) (s : Stored) → (granted p b f (changed without_answer p s)).store.top ≤ s.top + 1
one_higher p true f s = let same = top_stays without_answer p s in omega arith
one_higher p false f s = let same = top_stays without_answer p s in omega arith

has_words : (p : ℕ) (s : Stored) (ns : List ℕ) → cell_at s p ≡ Some (Words ns) → HasWords p s
has_words p s ns e = e ∙ ap (λ o. Some (Words (words_in o))) (sym e)

put_there : (m : FinMap nat_cmp Cell) (p : ℕ) (c : Cell) → table.get (table.insert m p c) p ≡ Some c
put_there m p c = let here : nat_eq p p ≡ true = search (rules, arith) in found m p p c ∙ ap (λ b. cond b (Some c) (table.get m p)) here

pub words_placed : (p : ℕ) (s : Stored) (ns : List ℕ) → HasWords p (with_cell p (Words ns) s)
words_placed p s ns = has_words p (with_cell p (Words ns) s) ns (put_there s.cells p (Words ns))

words_or_same : (b : Bool) (p : ℕ) (s : Stored) (ns : List ℕ) → HasWords p s → HasWords p (in_place p (cond b (Some (Words ns)) None) s)
words_or_same true p s ns has = has_words p (record { cells = table.insert s.cells p (Words ns); top = s.top }) ns (put_there s.cells p (Words ns))
words_or_same false p s ns has = has

pub words_stay : (p i n : ℕ) (s : Stored) → HasWords p s → HasWords p (changed (with_element i n) p s)
words_stay p i n s has =
    let is : changed (with_element i n) p s ≡ in_place p (in_cell (with_element i n) (Some (Words (words_at p s)))) s = ap (λ o. in_place p (in_cell (with_element i n) o) s) has in
    rw is (words_or_same (nat_lt i (length (words_at p s))) p s (slice_set (words_at p s) i n) has)

-- the type of a record with one field

bool_is : type_of ty.Bool ≡ bool
bool_is = search (rules, the_lemmas)

small_record : (p : Part) (sigil : Sigil) → p.ty ≡ ty.Bool → nodes (type_of (ty.Fields (p ∷ []) sigil)) ≤ 1024
unfolding to_parts
small_record p sigil e =
    let whole : nodes (type_of (ty.Fields (p ∷ []) sigil)) ≡ nodes (fields (to_parts (map part_of (p ∷ []))) sigil) = ap nodes (record_is (p ∷ []) sigil) in
    let first : nodes_parts (to_parts (map part_of (p ∷ []))) ≡ nodes (type_of p.ty) + nodes_parts (to_parts (map part_of [])) = ap (λ x. nodes x.ty + nodes_parts (to_parts (map part_of []))) (piece_of p) in
    let one : nodes (type_of p.ty) ≡ 1 = ap (λ t. nodes (type_of t)) e ∙ ap nodes bool_is in
    let rest : nodes_parts (to_parts (map part_of [])) ≡ 0 = refl in
    omega arith

all_small : (t : Ty) → nodes (type_of t) ≤ 1024 → All (λ u. nodes u ≤ 1024) (map type_of (t ∷ []))
all_small t small zero d below = small
all_small t small (suc k) d below = absurd (omega arith)

pub small_records : (ts : List Ty) (ps : List Part) (p : Part) (sigil : Sigil) → ts ≡ ty.Fields ps sigil ∷ [] → ps ≡ p ∷ [] → p.ty ≡ ty.Bool → All (λ u. nodes u ≤ 1024) (map type_of ts)
small_records ts ps p sigil is has e =
    let whole : ts ≡ ty.Fields (p ∷ []) sigil ∷ [] = is ∙ ap (λ x. ty.Fields x sigil ∷ []) has in
    rw whole (all_small (ty.Fields (p ∷ []) sigil) (small_record p sigil e))

pub ruleset test_steps = (one_higher, words_placed, words_stay)
