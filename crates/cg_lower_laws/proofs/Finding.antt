-- The functions of a lowered program by their names: each is found, and none is a built-in.
use Rattle.std.proofs.Common.{◌≡◌, ℕ, zero, suc, ◌^◌, ◌<◌, Bool, true, false, nat_eq, Option, Some, None, List, [], ◌∷◌, bytes_eq, refl, sym, ap, ◌∙◌, subst, arith}
use Rattle.std.proofs.lemmas.Bool.{eq-eqb, eqb-false, eqb-true}
use Rattle.std.specs.List.{Contains}
use Rattle.cg_cmachine_def.specs.Runs.{Linked, own, abstract', callee, without_body, find, linked_to}
use Rattle.cg_ctree.specs.Trees.{Body, Function}
use Rattle.cg_lower_def.specs.Functions.{Item, of_arrow, of_instance, functions_at, with_function}
use Rattle.cg_cgen_def.specs.Names.{dispatch_name, function_name}
use Rattle.cg_lower_laws.proofs.Names.{apart}
use Rattle.cg_base.proofs.Sequences.{itself}

-- ---- items, and their names

-- the name of an item's function: a letter of its own for instances and for arrow types, and the item's number
abbrev pub item_name : Item → List ℕ
item_name (of_instance k) = function_name k
item_name (of_arrow j) = dispatch_name j

abbrev pub item_number : Item → ℕ
item_number (of_instance k) = k
item_number (of_arrow j) = j

abbrev same_item : Item → Item → Bool
same_item (of_instance i) (of_instance j) = nat_eq i j
same_item (of_arrow i) (of_arrow j) = nat_eq i j
same_item i j = false

-- the test on items tells whether they are the same
item_is : (i j : Item) → same_item i j ≡ true → i ≡ j
item_is (of_instance i) (of_instance j) e = ap of_instance (eqb-true i j e)
item_is (of_arrow i) (of_arrow j) e = ap of_arrow (eqb-true i j e)
item_is (of_instance i) (of_arrow j) e = absurd (cc)
item_is (of_arrow i) (of_instance j) e = absurd (cc)

item_differs : (i j : Item) → same_item i j ≡ false → i ≡ j → ⊥
item_differs i j e same = let h : same_item i i ≡ false = subst (λ z. same_item i z ≡ false) (sym same) e in let t = itself_same i in absurd (cc)
  where
    itself_same : (i : Item) → same_item i i ≡ true
    itself_same (of_instance k) = eq-eqb k k refl
    itself_same (of_arrow j) = eq-eqb j j refl

-- others have other names
names_differ : (i j : Item) → item_number i < 2 ^ 64 → item_number j < 2 ^ 64 → same_item i j ≡ false → bytes_eq (item_name i) (item_name j) ≡ false
names_differ (of_instance i) (of_instance j) hi hj e = apart 102 i j hi hj (eqb-false i j e)
names_differ (of_arrow i) (of_arrow j) hi hj e = apart 100 i j hi hj (eqb-false i j e)
names_differ (of_instance i) (of_arrow j) hi hj e = refl
names_differ (of_arrow i) (of_instance j) hi hj e = refl

-- ---- functions of items, each with the name of its item

-- one of another name stands in front
find_behind : (x : List ℕ) (o : Option Function) (fs : List Function) → ((f : Function) → o ≡ Some f → bytes_eq x f.name ≡ false) → find x (with_function o fs) ≡ find x fs
find_behind x None fs h = refl
find_behind x (Some f) fs h = rw (h f refl) refl

-- the one of this name stands in front
find_first : (x : List ℕ) (o : Option Function) (f : Function) (fs : List Function) → o ≡ Some f → f.name ≡ x → find x (with_function o fs) ≡ Some f
find_first x o f fs e is =
    ap (λ z. find x (with_function z fs)) e ∙ rw (is, itself x) refl

-- what stands behind the first
pub behind : {A : Type 0} (y x : A) (xs : List A) → Contains (y ∷ xs) x → (x ≡ y → ⊥) → Contains xs x
behind y x xs (zero, h, e) n = absurd (n (sym e))
behind y x xs (suc i, h, e) n = (i, omega arith, e)

module _ (at : Item → Option Function) (named : (i : Item) (f : Function) → at i ≡ Some f → f.name ≡ item_name i) where
  -- the functions of other items have other names
  other_name : (j i : Item) → item_number j < 2 ^ 64 → item_number i < 2 ^ 64 → same_item i j ≡ false → (f : Function) → at j ≡ Some f → bytes_eq (item_name i) f.name ≡ false
  other_name j i hj hi n f e = rw (named j f e) (names_differ i j hi hj n)

  -- the function of an item is found by its name
  pub found_at : (order : List Item) (i : Item) (f : Function) → ((j : Item) → Contains order j → item_number j < 2 ^ 64) → Contains order i → at i ≡ Some f
      → find (item_name i) (functions_at at order) ≡ Some f
  found_at [] i f small (n, h, e) is = absurd (omega arith)
  found_at (j ∷ js) i f small c is =
      by_test (same_item i j) refl (λ n. found_at js i f (λ m d. small m (suc d.0, omega (arith, d.1), d.2)) (behind j i js c (item_differs i j n)) is)
    where
      by_test : (b : Bool) → same_item i j ≡ b → (same_item i j ≡ false → find (item_name i) (functions_at at js) ≡ Some f)
          → find (item_name i) (functions_at at (j ∷ js)) ≡ Some f
      by_test true e later =
          let same : i ≡ j = item_is i j e in find_first (item_name i) (at j) f (functions_at at js) (ap at (sym same) ∙ is) (named i f is)
      by_test false e later =
          find_behind (item_name i) (at j) (functions_at at js) (other_name j i (small j (0, omega arith, refl)) (small i c) e) ∙ later e

-- ---- what a call of a function is of: never of a built-in, as the letters of the names tell

-- a function with a body is one of the program, linked or not
own_by_body : (f : Function) (link : Option (List ℕ)) (b : Body) → without_body f link (Some b) ≡ own
own_by_body f None b = refl
own_by_body f (Some name) b = refl

module _ (q : Linked) (k : ℕ) (f : Function) (found : find (function_name k) q.program.functions ≡ Some f) where
  -- one with a body is called itself
  pub own_called : (b : Body) → f.body ≡ Some b → callee q (function_name k) ≡ own
  own_called b e = rw (found, e) (own_by_body f (linked_to (function_name k) q.links) b)

  -- one without is the abstract function that it is linked to
  pub abstract_called : (name : List ℕ) → f.body ≡ None → linked_to (function_name k) q.links ≡ Some name → callee q (function_name k) ≡ abstract' f name
  abstract_called name e l = rw (found, e, l) refl

-- the function of an arrow type is called itself
pub own_dispatch : (q : Linked) (j : ℕ) (f : Function) (b : Body) → find (dispatch_name j) q.program.functions ≡ Some f → f.body ≡ Some b → callee q (dispatch_name j) ≡ own
own_dispatch q j f b found e = rw (found, e) (own_by_body f (linked_to (dispatch_name j) q.links) b)
