-- The functions of a program, one after another, and the program that they are.
use Rattle.std.proofs.Common.{Bool, true, false, nat_lt, ◌≡◌, ℕ, zero, suc, ◌+◌, ◌-◌, ◌<◌, ◌≤◌, List, [], ◌∷◌, ◌++◌, Contains, length, get_or, map, slice_get, take, Option, Some, None, refl, sym, ap, subst, ◌∙◌, arith, if◌then◌else◌}
use Rattle.std.specs.List.{AllByRecursion}
use Rattle.std.specs.Option.{option_map}
use Rattle.std.proofs.lemmas.Bool.{ltb-false, ltb-true}
use Rattle.std.proofs.lemmas.List.{get_or-map, length-map, map-append, take_more}
use Rattle.cg_base.specs.declared.ty.Ty.{Ty}
use Rattle.cg_base.specs.Types.{Tau, type_of, unit}
use Rattle.cg_lower_nodes.specs.Kept.{Kept, whole_in}
use Rattle.cg_lower.specs.Calls.{calls_in, tags_of, whole_by}
use Rattle.cg_lower.specs.Collected.{arrows_in, Copy, entries_of, list_of, table_in, whole_of}
use Rattle.cg_lower.specs.Copies.{copies_of, pair_of}
use Rattle.cg_lower.specs.declared.gather.Collected.{Collected}
use Rattle.cg_lower.specs.Results.{IsCollected}
use Rattle.cg_core.specs.declared.term.Form.{the_lemmas}
use Rattle.cg_lower_tables.specs.Found.{Known}
use Rattle.cg_ctree.specs.declared.tree.CFun.{CFun}
use Rattle.cg_ctree.specs.declared.tree.CStruct.{CStruct}
use Rattle.cg_ctree.specs.Trees.{Function, function_of}
use Rattle.cg_inst.specs.Views.{instance_of}
use Rattle.cg_lower_def.specs.Dispatch.{dispatch_of, tags_from}
use Rattle.cg_lower_def.specs.Functions as pure
use Rattle.cg_lower_def.specs.Functions.{Item, of_arrow, of_instance, function_at, function_of_item, functions_at, with_function}
use Rattle.cg_lower_def.specs.Lowered.{Whole, typed}
use Rattle.cg_cgen_def.specs.Dispatches.{dispatch_function}
use Rattle.cg_cgen_def.specs.Names.{dispatch_name}
use Rattle.cg_typing.specs.Parts.{given_by, taken_by}
use Rattle.cg_lower_def.specs.Structs.{IsTable, structs_in}
use Rattle.cg_lower.proofs.Placed.{instance_stands}
use Rattle.cg_lower.proofs.Programs as pure_laws
use Rattle.cg_lower.specs.Lowerings.{IsFewItem}
use Rattle.cg_lower.specs.Programs.{item_of, items_in, lowered}
use Rattle.cg_lower.specs.Promises.{AreFew, CanBePrinted, IsFewMaybe, IsSimulated}
use Rattle.cg_mono.specs.Copies.{copy_of}
use Rattle.cg_mono.specs.declared.copies.Copy.{Copy as OneCopy}
use Rattle.cg_mono.specs.declared.copies.Mono.{Mono}
use Rattle.cg_mono.specs.Monos.{copies_in}
use Rattle.cg_graphs.specs.Ranks.{in_order}
use Rattle.cg_typing.specs.Instances.{Entry}
use Rattle.cg_inst.proofs.Standing.{within}

-- ---- one function

mapped_at : {A B : Type 0} (f : A → B) (xs : List A) (i : ℕ) (x : A) → slice_get xs i ≡ Some x → slice_get (map f xs) i ≡ Some (f x)
mapped_at f [] i x e = absurd (cc)
mapped_at f (y ∷ ys) zero x e = let s : y ≡ x = cc in ap (λ z. Some (f z)) s
mapped_at f (y ∷ ys) (suc i) x e = mapped_at f ys i x e

mapped_past : {A B : Type 0} (f : A → B) (xs : List A) (i : ℕ) → slice_get xs i ≡ None → slice_get (map f xs) i ≡ None
mapped_past f [] i e = refl
mapped_past f (y ∷ ys) zero e = absurd (cc)
mapped_past f (y ∷ ys) (suc i) e = mapped_past f ys i e

at_or : (xs : List Tau) (i : ℕ) (x d : Tau) → slice_get xs i ≡ Some x → get_or xs i d ≡ x
at_or [] i x d e = absurd (cc)
at_or (y ∷ ys) zero x d e = let s : y ≡ x = cc in s
at_or (y ∷ ys) (suc i) x d e = at_or ys i x d e

-- what stands at a place of a list, and what doesn't
pub slice_at : {A : Type 0} (xs : List A) (i : ℕ) (x : A) → nat_lt i (length xs) ≡ true → x ≡ get_or xs i x → slice_get xs i ≡ Some x
slice_at [] i x h e = absurd (omega (arith, ltb-true i 0 h))
slice_at (y ∷ ys) zero x h e = ap Some (sym e)
slice_at (y ∷ ys) (suc i) x h e = slice_at ys i x (grind (arith, ltb-true (suc i) (suc (length ys)) h)) e

pub slice_past : {A : Type 0} (xs : List A) (i : ℕ) → nat_lt i (length xs) ≡ false → slice_get xs i ≡ None
slice_past [] i h = refl
slice_past (y ∷ ys) zero h = absurd (omega (arith, ltb-false 0 (suc (length ys)) h))
slice_past (y ∷ ys) (suc i) h = slice_past ys i (grind (arith, ltb-false (suc i) (suc (length ys)) h))

-- the function of an arrow type, where there is one, with the places of the instances that are of it
pub dispatched_at : (whole : Whole) (entries : List Entry) (types : List Ty) (ty : Ty) (number : ℕ) (tags : List (List ℕ)) (places : List ℕ) (f : CFun)
    → map type_of types ≡ whole.arrows → slice_get types number ≡ Some ty → places ≡ get_or tags number []
    → function_of f ≡ dispatch_function (dispatch_name number) (typed whole (taken_by (type_of ty))) (typed whole (given_by (type_of ty))) places → tags ≡ tags_of entries whole.arrows
    → Some (function_of f) ≡ option_map (dispatch_of whole entries number) (slice_get whole.arrows number)
dispatched_at whole entries types ty number tags places f same at got is all =
    let there : slice_get whole.arrows number ≡ Some (type_of ty) = sym (ap (λ ts. slice_get ts number) same) ∙ mapped_at type_of types number ty at in
    let tagged : places ≡ tags_from 0 (type_of ty) entries =
    got ∙ ap (λ z. get_or z number []) all ∙ get_or-map (λ t. tags_from 0 t entries) whole.arrows number unit [] (within whole.arrows number (type_of ty) there)
    ∙ ap (λ t. tags_from 0 t entries) (at_or whole.arrows number (type_of ty) unit there) in
    ap Some is ∙ ap (λ z. Some (dispatch_function (dispatch_name number) (typed whole (taken_by (type_of ty))) (typed whole (given_by (type_of ty))) z)) tagged ∙ sym (ap (option_map (dispatch_of whole entries number)) there)

pub no_arrow : (whole : Whole) (entries : List Entry) (types : List Ty) (number : ℕ) → map type_of types ≡ whole.arrows → slice_get types number ≡ None
    → None ≡ option_map (dispatch_of whole entries number) (slice_get whole.arrows number)
no_arrow whole entries types number same past =
    sym (ap (option_map (dispatch_of whole entries number)) (sym (ap (λ ts. slice_get ts number) same) ∙ mapped_past type_of types number past))

module _ (whole : Whole) (m : Mono) (listed : whole.list ≡ list_of (copies_of m)) (copies : List OneCopy) (same : copies ≡ copies_in m) (at : ℕ) where
  pair_at : (c : OneCopy) → slice_get copies at ≡ Some c → slice_get (copies_of m) at ≡ Some (pair_of c)
  pair_at c e = sym (ap (λ cs. slice_get (map pair_of cs) at) same) ∙ mapped_at pair_of copies at c e

  pair_past : slice_get copies at ≡ None → slice_get (copies_of m) at ≡ None
  pair_past e = sym (ap (λ cs. slice_get (map pair_of cs) at) same) ∙ mapped_past pair_of copies at e

  -- the function of an instance, where there is one
  pub function_there : (c : OneCopy) (f : CFun) → slice_get copies at ≡ Some c → function_of f ≡ pure.function_of whole at (instance_of c.instance) (copy_of c)
      → Some (function_of f) ≡ function_at whole (entries_of (copies_of m)) at
  function_there c f e is =
      ap Some is
      ∙ sym (ap (λ x. pure.function_maybe whole at x (slice_get (entries_of (copies_of m)) at)) (ap (λ xs. slice_get xs at) listed ∙ mapped_at (λ (p : Copy). p.0) (copies_of m) at (pair_of c) (pair_at c e))
      ∙ ap (pure.function_maybe whole at (Some (instance_of c.instance))) (mapped_at (λ (p : Copy). p.1) (copies_of m) at (pair_of c) (pair_at c e)))

  pub function_past : slice_get copies at ≡ None → None ≡ function_at whole (entries_of (copies_of m)) at
  function_past e =
      sym (ap (λ x. pure.function_maybe whole at x (slice_get (entries_of (copies_of m)) at)) (ap (λ xs. slice_get xs at) listed ∙ mapped_past (λ (p : Copy). p.0) (copies_of m) at (pair_past e)))

  pub few_there : (c : OneCopy) → slice_get copies at ≡ Some c → IsFewMaybe whole (Some (pair_of c)) → IsFewMaybe whole (slice_get (copies_of m) at)
  few_there c e few = subst (IsFewMaybe whole) (sym (pair_at c e)) few

  pub few_past : slice_get copies at ≡ None → IsFewMaybe whole (slice_get (copies_of m) at)
  few_past e = subst (IsFewMaybe whole) (sym (pair_past e)) tt

-- ---- nodes of the graph

by_less : (b : Bool) (x y : Item) → b ≡ true → (if b then x else y) ≡ x
by_less true x y e = refl
by_less false x y e = absurd (cc)

by_more : (b : Bool) (x y : Item) → b ≡ false → (if b then x else y) ≡ y
by_more true x y e = absurd (cc)
by_more false x y e = refl

pub instance_item : (arrows i : ℕ) → arrows ≤ i → item_of arrows i ≡ of_instance (i - arrows)
instance_item arrows i h = by_more (nat_lt i arrows) (of_arrow i) (of_instance (i - arrows)) (grind (arith, h))

-- ---- functions, one after another

with_more : (o : Option Function) (fs gs : List Function) → with_function o (fs ++ gs) ≡ with_function o fs ++ gs
with_more None fs gs = refl
with_more (Some f) fs gs = refl

functions_more : (at : Item → Option Function) (is : List Item) (i : Item) → functions_at at (is ++ i ∷ []) ≡ functions_at at is ++ with_function (at i) []
functions_more at [] i = refl
functions_more at (j ∷ is) i = ap (with_function (at j)) (functions_more at is i) ∙ with_more (at j) (functions_at at is) (with_function (at i) [])

items_more : (arrows : ℕ) (order : List ℕ) (i : ℕ) → i < length order → map (item_of arrows) (take (i + 1) order) ≡ map (item_of arrows) (take i order) ++ item_of arrows (get_or order i 0) ∷ []
items_more arrows order i h = ap (map (item_of arrows)) (take_more order i 0 h) ∙ map-append (item_of arrows) (take i order) (get_or order i 0 ∷ [])

pub function_more : (at : Item → Option Function) (arrows : ℕ) (order : List ℕ) (i : ℕ) (fs gs : List Function) (o : Option Function) → i < length order
    → fs ≡ functions_at at (map (item_of arrows) (take i order)) → o ≡ at (item_of arrows (get_or order i 0)) → gs ≡ fs ++ with_function o []
    → gs ≡ functions_at at (map (item_of arrows) (take (i + 1) order))
function_more at arrows order i fs gs o h so_far one is =
    is ∙ ap (λ z. z ++ with_function o []) so_far ∙ ap (λ z. functions_at at (map (item_of arrows) (take i order)) ++ with_function z []) one
    ∙ sym (functions_more at (map (item_of arrows) (take i order)) (item_of arrows (get_or order i 0))) ∙ ap (functions_at at) (sym (items_more arrows order i h))

all_more : (P : Item → Type 0) (xs : List Item) (x : Item) → AllByRecursion P xs → P x → AllByRecursion P (xs ++ x ∷ [])
all_more P [] x all one = (one, tt)
all_more P (y ∷ ys) x all one = (all.0, all_more P ys x all.1 one)

pub few_more : (P : Item → Type 0) (arrows : ℕ) (order : List ℕ) (i : ℕ) → i < length order → AllByRecursion P (map (item_of arrows) (take i order)) → P (item_of arrows (get_or order i 0))
    → AllByRecursion P (map (item_of arrows) (take (i + 1) order))
few_more P arrows order i h all one = subst (AllByRecursion P) (sym (items_more arrows order i h)) (all_more P (map (item_of arrows) (take i order)) (item_of arrows (get_or order i 0)) all one)

-- ---- the program

contained : (P : Item → Type 0) (xs : List Item) (x : Item) → AllByRecursion P xs → Contains xs x → P x
contained P [] x all (k, h, e) = absurd (omega (arith, h))
contained P (y ∷ ys) x all (zero, h, e) = subst P e all.0
contained P (y ∷ ys) x all (suc k, h, e) = contained P ys x all.1 (k, omega (arith, h), e)

module _ (m : Mono) (c : Collected) (is : IsCollected (copies_of m) c) (kept : Kept) (from : kept ≡ record { table = c.structs.table; list = c.places.list; arrows = c.places.arrows }) where
  known : kept ≡ record { table = table_in (copies_of m); list = list_of (copies_of m); arrows = arrows_in (copies_of m) }
  known = from ∙ ap (λ t. record { table = t; list = c.places.list; arrows = c.places.arrows }) is.table
      ∙ ap (λ l. record { table = table_in (copies_of m); list = l; arrows = c.places.arrows }) is.list
      ∙ ap (λ a. record { table = table_in (copies_of m); list = list_of (copies_of m); arrows = a }) is.arrows

  pub whole_is : whole_in kept ≡ whole_of (copies_of m)
  whole_is = ap whole_in known

  pub listed : kept.list ≡ list_of (copies_of m)
  listed = ap (λ (k : Kept). k.list) known

  calls_same : (p : Known) → p ≡ c.places → calls_in (whole_by p) (copies_of m) ≡ calls_in (whole_of (copies_of m)) (copies_of m)
  calls_same p e =
      ap (λ (q : Known). calls_in (whole_by q) (copies_of m))
      (e ∙ ap (λ l. record { list = l; arrows = c.places.arrows }) is.list ∙ ap (λ a. record { list = list_of (copies_of m); arrows = a }) is.arrows)

  module _ (last : Kept) (same : last ≡ kept) (p : Known) (places : p ≡ c.places) (edges : List (List ℕ)) (order : List ℕ) (funs : List Function) (structs : List CStruct)
      (graph : edges ≡ calls_in (whole_by p) (copies_of m)) (ordered : order ≡ in_order edges)
      (made : funs ≡ functions_at (function_of_item (whole_in kept) (entries_of (copies_of m))) (map (item_of (length kept.arrows)) order))
      (declared : structs ≡ structs_in last.table) where
    items : map (item_of (length kept.arrows)) order ≡ items_in (whole_of (copies_of m)) (copies_of m)
    items =
        ap (λ k. map (item_of (length k.arrows)) order) known
        ∙ ap (map (item_of (length (arrows_in (copies_of m))))) (ordered ∙ ap in_order (graph ∙ calls_same p places))

    pub program_is : record { structs = structs; functions = funs } ≡ lowered (copies_of m)
    program_is =
        ap (λ ss. record { structs = ss; functions = funs }) (declared ∙ ap (λ (k : Kept). structs_in k.table) (same ∙ known))
        ∙ ap (λ fs. record { structs = structs_in (table_in (copies_of m)); functions = fs })
        (made ∙ ap (λ w. functions_at (function_of_item w (entries_of (copies_of m))) (map (item_of (length kept.arrows)) order)) whole_is
        ∙ ap (functions_at (function_of_item (whole_of (copies_of m)) (entries_of (copies_of m)))) items)

    module _ (few : AllByRecursion (IsFewItem (whole_in kept) (copies_of m)) (map (item_of (length kept.arrows)) order)) (table : IsTable last.table)
        (bounds : (length last.list ≤ 4294967296) × (length last.arrows ≤ 4294967296)) where
      locals_few : (k : ℕ) → k < length (copies_of m) → IsFewMaybe (whole_of (copies_of m)) (slice_get (copies_of m) k)
      locals_few k h =
          contained (IsFewItem (whole_of (copies_of m)) (copies_of m)) (items_in (whole_of (copies_of m)) (copies_of m)) (of_instance k)
          (subst (λ w. AllByRecursion (IsFewItem w (copies_of m)) (items_in (whole_of (copies_of m)) (copies_of m))) whole_is (subst (AllByRecursion (IsFewItem (whole_in kept) (copies_of m))) items few))
          (instance_stands (whole_of (copies_of m)) (copies_of m) k h)

      are_few : AreFew (copies_of m)
      are_few = record {
        table = subst (λ (k : Kept). IsTable k.table) (same ∙ known) table;
        covered = is.covered;
        list = subst (λ n. n ≤ 4294967296) (length-map (copies_of m) (λ (p : Copy). p.0)) (subst (λ (k : Kept). length k.list ≤ 4294967296) (same ∙ known) bounds.0);
        arrows = subst (λ (k : Kept). length k.arrows ≤ 4294967296) (same ∙ known) bounds.1;
        locals = locals_few;
      }

      pub program_simulates : IsSimulated (copies_of m) (record { structs = structs; functions = funs })
      program_simulates = subst (IsSimulated (copies_of m)) (sym program_is) (pure_laws.lowered_simulates (copies_of m) are_few)

      pub program_prints : CanBePrinted (copies_of m) (record { structs = structs; functions = funs })
      program_prints = subst (CanBePrinted (copies_of m)) (sym program_is) (pure_laws.lowered_is_printable (copies_of m) are_few)

pub ruleset program_steps = (the_lemmas)
