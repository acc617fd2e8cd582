-- The limits of a list of instances: the count of nodes, entry by entry, and what holds of all before a position.
use Rattle.std.proofs.Common.{◌≡◌, ℕ, zero, suc, ◌<◌, ◌≤◌, ◌+◌, ◌-◌, Option, Some, None, List, [], ◌∷◌, length, map, drop, get_or, refl, sym, ap, ◌∙◌, subst, arith, ◌⊎◌, ⊎_elim}
use Rattle.std.specs.List.{All}
use Rattle.std.specs.Option.{option_map}
use Rattle.std.specs.Prelude.{slice_get, IsTrue}
use Rattle.std.proofs.lemmas.List.{drop_all, length-map}
use Rattle.cg_base.specs.Types.{Tau}
use Rattle.cg_base.specs.declared.fun.Fun.{Fun}
use Rattle.cg_core.specs.Terms.{Note, Tree}
use Rattle.cg_inst.specs.Limited.{AreSmallAt, HasSmallTypesAt, HaveSmallTypesUntil, function_at}
use Rattle.cg_inst.specs.Measured.{AreSmallBy}
use Rattle.cg_inst.specs.Lists.{Cores, HasSmallTypes, HaveSmallTypes, core_of, most_nodes, nodes_in, nodes_maybe}
use Rattle.cg_kinds.specs.Kinds.{subst as subst_of}
use Rattle.cg_typing.specs.Instances.{Instance}
use Rattle.cg_typing.specs.Parts.{is_small_enough}
use Rattle.cg_typing.specs.Rules.{type_at}
use Rattle.cg_base.proofs.Counts.{one_more as more_is}

-- ---- what holds of all before a position

abbrev pub Until : {A : Type 0} → (A → Type 0) → List A → ℕ → Type 0
Until {A} P xs n = (k : ℕ) (d : A) → k < n → P (get_or xs k d)

pub last_or_before : (k n : ℕ) → k < n + 1 → (k ≡ n) ⊎ (k < n)
last_or_before k n h = grind arith

pub until_more : {A : Type 0} (P : A → Type 0) (xs : List A) (n : ℕ) → Until P xs n → ((d : A) → P (get_or xs n d)) → Until P xs (n + 1)
until_more {A} P xs n h p k d l = ⊎_elim (λ (e : k ≡ n). subst (λ m. P (get_or xs m d)) (sym e) (p d)) (λ m. h k d m) (last_or_before k n l)

-- the element at a position, whatever stands for those beyond the list
same_within : {A : Type 0} (xs : List A) (i : ℕ) (d e : A) → i < length xs → get_or xs i d ≡ get_or xs i e
same_within [] i d e h = absurd (omega (arith, h))
same_within (x ∷ xs) zero d e h = refl
same_within (x ∷ xs) (suc i) d e h = same_within xs i d e (omega (arith, h))

pub holds_of : {A : Type 0} (P : A → Type 0) (xs : List A) (i : ℕ) (x : A) → i < length xs → x ≡ get_or xs i x → P x → (d : A) → P (get_or xs i d)
holds_of P xs i x h e p d = subst P (e ∙ same_within xs i x d h) p

pub of_all : {A : Type 0} (P : A → Type 0) (xs : List A) (i : ℕ) (x : A) → i < length xs → x ≡ get_or xs i x → All P xs → P x
of_all P xs i x h e all = subst P (sym e) (all i x h)

-- ---- the type of one node

abbrev pub IsSmallAt : List Tau → Tree Note → Type 0
IsSmallAt types t = IsTrue (is_small_enough (subst_of types (type_at t)))

-- ---- the types of one instance

abbrev pub FitsOf : Cores → Instance → Type 0
FitsOf cores x = HasSmallTypes x.types (nodes_maybe (core_of cores x.fun))

-- at a position within the list
pub fits_here : (cores : Cores) (list : List Instance) (i : ℕ) → i < length list → HasSmallTypesAt cores (slice_get list i) → (d : Instance) → FitsOf cores (get_or list i d)
fits_here cores [] i h p d = absurd (omega (arith, h))
fits_here cores (x ∷ list) zero h p d = p
fits_here cores (x ∷ list) (suc i) h p d = fits_here cores list i (omega (arith, h)) p d

-- and so at each position, where all fit
small_there : (cores : Cores) (list : List Instance) (i : ℕ) → HaveSmallTypes cores list → HasSmallTypesAt cores (slice_get list i)
small_there cores [] i all = _
small_there cores (x ∷ list) zero all = all zero x (omega arith)
small_there cores (x ∷ list) (suc i) all = small_there cores list i (λ k d l. all (suc k) d (omega (arith, l)))

-- where an instance of a function stands
pub there_within : (list : List Instance) (i : ℕ) (fun : Fun) → function_at list i ≡ Some fun → i < length list
there_within [] i fun e = absurd (cc)
there_within (x ∷ list) zero fun e = omega arith
there_within (x ∷ list) (suc i) fun e = let rest = there_within list i fun e in omega (arith, rest)

function_there : (list : List Instance) (i : ℕ) (d : Instance) → i < length list → function_at list i ≡ Some (get_or list i d).fun
function_there [] i d h = absurd (omega (arith, h))
function_there (x ∷ list) zero d h = refl
function_there (x ∷ list) (suc i) d h = function_there list i d (omega (arith, h))

-- all fit, where those of each function do
pub all_small : (cores : Cores) (list : List Instance) (n : ℕ) → length list ≤ n → HaveSmallTypesUntil cores list n → HaveSmallTypes cores list
all_small cores list n h until i d l =
    let here = function_there list i d l in
    fits_here cores list i l (until i (get_or list i d).fun (omega (arith, h, l)) here i here) d

-- ---- the types of the instances of one function, by widths

module _ (cores : Cores) (fun : Fun) (widths : List (ℕ × List ℕ)) where
  pub fits_there : (o : Option Instance) → ((types : List Tau) → AreSmallBy types widths → HasSmallTypes types (nodes_maybe (core_of cores fun)))
      → option_map (λ (x : Instance). x.fun) o ≡ Some fun → AreSmallAt fun widths o → HasSmallTypesAt cores o
  fits_there None told e h = _
  fits_there (Some x) told e h = let q : x.fun ≡ fun = cc in subst (λ f. HasSmallTypes x.types (nodes_maybe (core_of cores f))) (sym q) (told x.types (h q))

  fits_back : (o : Option Instance) → ((types : List Tau) → HasSmallTypes types (nodes_maybe (core_of cores fun)) → AreSmallBy types widths) → HasSmallTypesAt cores o → AreSmallAt fun widths o
  fits_back None told h = _
  fits_back (Some x) told h = λ q. told x.types (subst (λ f. HasSmallTypes x.types (nodes_maybe (core_of cores f))) q h)

  pub all_fit : (list : List Instance) (i : ℕ) → ((types : List Tau) → HasSmallTypes types (nodes_maybe (core_of cores fun)) → AreSmallBy types widths) → HaveSmallTypes cores list
      → AreSmallAt fun widths (slice_get list i)
  all_fit list i told all = fits_back (slice_get list i) told (small_there cores list i all)

-- ---- the count of nodes

-- those of the entry at a position, and then the others
one_next : (cores : Cores) (list : List Instance) (i : ℕ) (fun : Fun) → option_map (λ (x : Instance). x.fun) (slice_get list i) ≡ Some fun
    → nodes_in cores (drop i list) ≡ length (nodes_maybe (core_of cores fun)) + nodes_in cores (drop (suc i) list)
unfolding nodes_in
one_next cores [] i fun e = absurd (cc)
one_next cores (x ∷ list) zero fun e = let q : x.fun ≡ fun = cc in ap (λ f. length (nodes_maybe (core_of cores f)) + nodes_in cores list) q
one_next cores (x ∷ list) (suc i) fun e = one_next cores list i fun e

none_next : (cores : Cores) (list : List Instance) (i : ℕ) → option_map (λ (x : Instance). x.fun) (slice_get list i) ≡ None → nodes_in cores (drop i list) ≡ nodes_in cores (drop (suc i) list)
unfolding nodes_in
none_next cores [] zero e = refl
none_next cores [] (suc i) e = refl
none_next cores (x ∷ list) zero e = absurd (cc)
none_next cores (x ∷ list) (suc i) e = none_next cores list i e

module _ {A : Type 0} (f : A → Tree Note) (cores : Cores) (list : List Instance) (i : ℕ) (fun : Fun) (nodes : List A) (count len total : ℕ)
    (here : option_map (λ (x : Instance). x.fun) (slice_get list i) ≡ Some fun)
    (are : map f nodes ≡ nodes_maybe (core_of cores fun))
    (is : len ≡ length nodes)
    (counted : count + nodes_in cores (drop i list) ≡ total) where
  as_many : len ≡ length (nodes_maybe (core_of cores fun))
  as_many = is ∙ sym (length-map nodes f) ∙ ap length are

  pub counted_on : count + len + nodes_in cores (drop (i + 1) list) ≡ total
  counted_on =
      let next = one_next cores list i fun here ∙ ap (λ m. length (nodes_maybe (core_of cores fun)) + nodes_in cores (drop m list)) (more_is i) in
      let many = as_many in
      omega (arith, next, many, counted)

  pub too_many_nodes : count ≤ most_nodes → most_nodes - count < len → most_nodes < total
  too_many_nodes h k = let next = one_next cores list i fun here in let many = as_many in omega (arith, next, many, counted, h, k)

pub counted_past : (cores : Cores) (list : List Instance) (i count total : ℕ) → option_map (λ (x : Instance). x.fun) (slice_get list i) ≡ None
    → count + nodes_in cores (drop i list) ≡ total → count + nodes_in cores (drop (i + 1) list) ≡ total
counted_past cores list i count total e h =
    let next = none_next cores list i e ∙ ap (λ m. nodes_in cores (drop m list)) (more_is i) in omega (arith, next, h)

nodes_end : (cores : Cores) (list : List Instance) (i : ℕ) → length list ≤ i → nodes_in cores (drop i list) ≡ 0
unfolding nodes_in
nodes_end cores list i h = ap (nodes_in cores) (drop_all i list h)

pub all_counted : (cores : Cores) (list : List Instance) (i count total : ℕ) → length list ≤ i → count ≤ most_nodes → count + nodes_in cores (drop i list) ≡ total → total ≤ most_nodes
all_counted cores list i count total h k e = let none = nodes_end cores list i h in omega (arith, none, k, e)
