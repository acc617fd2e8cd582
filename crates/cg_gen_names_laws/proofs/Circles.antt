-- Every item mentions earlier ones alone, so that none is on a circle.
use Rattle.std.proofs.Common.{◌≡◌, ℕ, zero, suc, ◌+◌, ◌*◌, ◌<◌, ◌≤◌, ◌||◌, false, cond, List, [], ◌∷◌, ◌++◌, map, slice_get, Some, codes, refl, sym, ap, ◌∙◌, subst, arith}
use Rattle.std.proofs.lemmas.List.Elements.{All-cons, All-contains, All-nil}
use Rattle.std.specs.List.{All}
use Rattle.std.specs.Prelude.{⊤}
use Rattle.cg_graphs.specs.Circles.{Mentions, NoCircle, Reaches, mentioned, onward}
use Rattle.cg_surface.specs.Programs.{Entry}
use Rattle.cg_resolve_def.specs.Declared.{definition_named}
use Rattle.cg_resolve_def.specs.Faults.{bound}
use Rattle.cg_resolve_def.specs.Mentions.{all_of, defined_mentions, entry_mentions, expr_mentions, mentions, signature_from}
use Rattle.cg_gen.specs.Generated.{name}
use Rattle.cg_gen_def.specs.Programs.{body_item, cell_item, subject_of, type_item}
use Rattle.cg_gen_names_laws.proofs.Known.{Known}
use Rattle.cg_gen_names_laws.proofs.Lists.{spread, two_items}
use Rattle.cg_gen_names_laws.proofs.Looks.{definition}
use Rattle.cg_gen_names_laws.proofs.Names.{is_no_c}

-- ---- graphs whose nodes mention earlier ones alone

abbrev Below : ℕ → List ℕ → Type 0
Below p targets = All (λ j. j < p) targets

-- of nodes, the first of which stands behind p others
abbrev AreBelow : ℕ → List (List ℕ) → Type 0
AreBelow p [] = ⊤
AreBelow p (targets ∷ later) = Below p targets × AreBelow (suc p) later

below_at : (p : ℕ) (edges : List (List ℕ)) (i : ℕ) (targets : List ℕ) → AreBelow p edges → slice_get edges i ≡ Some targets → Below (p + i) targets
below_at p [] i targets all at = absurd (cc)
below_at p (first ∷ later) zero targets all at =
    let same : first ≡ targets = cc in
    let here : p ≡ p + 0 = omega arith in
    subst (Below (p + 0)) same (subst (λ q. Below q first) here all.0)
below_at p (first ∷ later) (suc i) targets all at =
    let there : suc p + i ≡ p + suc i = omega arith in
    subst (λ q. Below q targets) there (below_at (suc p) later i targets all.1 at)

module _ (edges : List (List ℕ)) (all : AreBelow 0 edges) where
  mention_falls : (i j : ℕ) → Mentions edges i j → j < i
  mention_falls i j m = omega (arith, All-contains (λ k. k < 0 + i) m.targets j (below_at 0 edges i m.targets all m.at) m.among)

  reach_falls : (i j : ℕ) → Reaches edges i j → j < i
  reach_falls i _ (mentioned j m) = mention_falls i j m
  reach_falls i _ (onward j k r m) = omega (arith, reach_falls i j r, mention_falls j k m)

  no_circle : NoCircle edges
  no_circle i r = omega (arith, reach_falls i i r)

-- ---- what items mention

-- a function mentions the one before
one_before : ℕ → List (List ℕ)
one_before zero = []
one_before (suc b) = name (suc b) ∷ []

subject_mentions : (i : ℕ) → expr_mentions (codes "c" ∷ []) (subject_of i) ≡ one_before i
unfolding subject_of one_before
subject_mentions zero = refl
subject_mentions (suc b) = ap (λ x. cond (x || false) [] (name (suc b) ∷ []) ++ []) (is_no_c (suc b))

body_mentions : (i : ℕ) → expr_mentions (bound (definition i).param) (definition i).body ≡ expr_mentions (codes "c" ∷ []) (subject_of i) ++ []
unfolding definition
body_mentions i = refl

function_mentions : (i : ℕ) → defined_mentions (Some (definition i)) ≡ one_before i ++ []
function_mentions i = body_mentions i ∙ ap (λ ns. ns ++ []) (subject_mentions i)

module _ (entries : List Entry) (n : ℕ) (known : Known entries n) where
  type_opened : (i : ℕ) → entry_mentions entries (type_item i) ≡ all_of (signature_from 0 entries) (defined_mentions (definition_named entries (name (i + 1))))
  unfolding type_item
  type_opened i = refl

  item_mentions : (i : ℕ) → entry_mentions entries (body_item i) ≡ []
  unfolding body_item
  item_mentions i = refl

  type_mentions : (i : ℕ) → i < n → entry_mentions entries (type_item i) ≡ all_of (signature_from 0 entries) (one_before i ++ [])
  type_mentions i lt =
      type_opened i ∙ ap (λ d. all_of (signature_from 0 entries) (defined_mentions d)) (known.definitions i lt)
      ∙ ap (all_of (signature_from 0 entries)) (function_mentions i)

  signature_of : (b : ℕ) → b < n → signature_from 0 entries (name (suc b)) ≡ (b * 2 + 1) ∷ []
  signature_of b lt =
      let same : suc b ≡ b + 1 = omega arith in
      ap (λ t. signature_from 0 entries (name t)) same ∙ known.signatures b lt

  before_below : (i p : ℕ) → i < n → p ≡ i * 2 + 1 → Below p (all_of (signature_from 0 entries) (one_before i ++ []))
  unfolding one_before
  before_below zero p lt stands = All-nil (λ j. j < p)
  before_below (suc b) p lt stands =
      subst (λ js. Below p (js ++ [])) (sym (signature_of b (omega arith))) (All-cons (λ j. j < p) (b * 2 + 1) [] (omega arith) (All-nil (λ j. j < p)))

  items_below : (i k p : ℕ) → i + k ≤ n → p ≡ i * 2 + 1 → AreBelow p (map (entry_mentions entries) (spread two_items i k))
  items_below i zero p within stands = tt
  items_below i (suc k) p within stands = (
    subst (Below p) (sym (type_mentions i (omega arith))) (before_below i p (omega arith) stands),
    (subst (Below (suc p)) (sym (item_mentions i)) (All-nil (λ j. j < suc p)), items_below (suc i) k (suc (suc p)) (omega arith) (omega arith)),
  )

  cell_mentions : entry_mentions entries cell_item ≡ []
  cell_mentions j = known.words j ++ (known.bytes j ++ [])

pub none_in_circles : (n : ℕ) → Known (cell_item ∷ spread two_items 0 n) n → NoCircle (mentions (cell_item ∷ spread two_items 0 n))
none_in_circles n known =
    let entries : List Entry = cell_item ∷ spread two_items 0 n in
    no_circle (mentions entries) (subst (Below 0) (sym (cell_mentions entries n known)) (All-nil (λ j. j < 0)), items_below entries n known 0 n 1 (omega arith) (omega arith))
