-- What holds of each table: sound names and rows stay so as they grow.
use Rattle.std.proofs.Common.{◌≡◌, ◌⊎◌, inl, inr, ℕ, ◌<◌, ◌+◌, List, [], ◌∷◌, ◌++◌, length, map, slice_get, Option, Some, None, refl, sym, ap, subst, ◌∙◌, arith}
use Rattle.std.proofs.lemmas.List.{map-append, length-map, length-append}
use Rattle.std.proofs.lemmas.Option.{slice_get-get_or, slice_get_within}
use Rattle.std.specs.Prelude.{IfNone, IfOk, OnOk, Result, Ok, Err}
use Rattle.cg_base.specs.Types.{Tau}
use Rattle.cg_kinds.specs.Kinds.{bang}
use Rattle.cg_inst_types.specs.declared.rows.Node.{Node}
use Rattle.cg_inst_types.specs.declared.rows.Node.TheVariants as node
use Rattle.cg_inst_types.specs.declared.rows.Fact.{Fact}
use Rattle.cg_inst_types.specs.Places.{IsIn, IsOnce, Keeps, type_at}
use Rattle.cg_inst_types.specs.Layers.{made, types_of, Fits, IsSound, IsKnown}
use Rattle.cg_inst_types.proofs.Growth.{none_is_some, some_same, get_last, get_push, once_push, keeps_same, keeps_push, keeps_get, at_type, type_kept}
use Rattle.cg_inst_types.proofs.Layered.{made_same, made_kept, fits_kept, types_push, length_types, renamed}

abbrev nodes_of : List (Node × Fact) → List Node
nodes_of rows = map (λ r. r.0) rows

pub length_rows : (names : List (List ℕ)) (rows : List (Node × Fact)) → length (types_of names (map (λ r. r.0) rows)) ≡ length rows
length_rows names rows = length_types names (nodes_of rows) ∙ length-map rows (λ r. r.0)

-- names that are added
pub sound_named : (names names' : List (List ℕ)) (rows : List (Node × Fact)) → Keeps names names' → IsOnce names' → IsSound names rows → IsSound names' rows
sound_named names names' rows kept once sound =
    let same = renamed names names' kept rows sound in
    let types = types_of names (nodes_of rows) in
    record {
      small = sound.small;
      names_once = once;
      once = subst IsOnce (sym same) sound.once;
      fits = λ i n e. subst (λ ts. Fits names' ts n) (sym same) (fits_kept names names' types types kept (keeps_same types) n (sound.fits i n e));
      holds = λ i n e.
          subst (λ ts. slice_get ts i ≡ Some (made names' ts n)) (sym same)
          (sound.holds i n e ∙ ap Some (sym (made_kept names names' types types kept (keeps_same types) n (sound.fits i n e))));
      known = λ i f e. subst (λ ts. IsKnown ts (type_at ts i) f) (sym same) (sound.known i f e);
    }

-- a type that is there is made from the node that is there
pub node_at : (names : List (List ℕ)) (rows : List (Node × Fact)) → IsSound names rows → (i : ℕ) (t : Tau) → slice_get (types_of names (map (λ r. r.0) rows)) i ≡ Some t →
    (n : Node) × (slice_get (map (λ r. r.0) rows) i ≡ Some n) × (t ≡ made names (types_of names (map (λ r. r.0) rows)) n)
node_at names rows sound i t e = by (slice_get (nodes_of rows) i) refl
  where
    by : (o : Option Node) → slice_get (nodes_of rows) i ≡ o → (n : Node) × (slice_get (nodes_of rows) i ≡ Some n) × (t ≡ made names (types_of names (nodes_of rows)) n)
    by (Some n) p = (n, p, some_same (sym e ∙ sound.holds i n p))
    by None p =
        let within : i < length (types_of names (nodes_of rows)) = slice_get_within (types_of names (nodes_of rows)) i t e in
        let count = length_types names (nodes_of rows) in
        absurd (none_is_some (sym p ∙ slice_get-get_or (nodes_of rows) i node.Unit (subst (λ k. i < k) count within)))

-- a node that isn't there makes a type that isn't there
pub type_absent : (names : List (List ℕ)) (rows : List (Node × Fact)) → IsSound names rows → (n : Node) → Fits names (types_of names (map (λ r. r.0) rows)) n →
    (IsIn (map (λ r. r.0) rows) n → ⊥) → IsIn (types_of names (map (λ r. r.0) rows)) (made names (types_of names (map (λ r. r.0) rows)) n) → ⊥
type_absent names rows sound n fits absent (i, at) =
    let found = node_at names rows sound i _ at in
    absent (i, found.1 ∙ ap Some (made_same names (types_of names (nodes_of rows)) sound.names_once sound.once found.0 n (sound.fits i found.0 found.1) fits (sym found.2)))

-- what is known stays known
known_kept : (types types' : List Tau) → Keeps types types' → (t : Tau) (f : Fact) → IsKnown types t f → IsKnown types' t f
known_kept types types' kept t f known = record { observed = keeps_get types types' kept f.observed (bang t) known.observed; size = known.size }

-- a node that is added
module _ (names : List (List ℕ)) (rows : List (Node × Fact)) (sound : IsSound names rows) (n : Node) (f : Fact)
    (fits : Fits names (types_of names (map (λ r. r.0) rows)) n) where
  pub types_pushed : types_of names (map (λ r. r.0) (rows ++ (n, f) ∷ [])) ≡ types_of names (map (λ r. r.0) rows) ++ made names (types_of names (map (λ r. r.0) rows)) n ∷ []
  types_pushed = ap (types_of names) (map-append (λ r. r.0) rows ((n, f) ∷ [])) ∙ types_push names (nodes_of rows) n

  abbrev types : List Tau
  types = types_of names (map (λ r. r.0) rows)

  abbrev more : List Tau
  more = types ++ made names types n ∷ []

  nodes_more : map (λ r. r.0) (rows ++ (n, f) ∷ []) ≡ nodes_of rows ++ n ∷ []
  nodes_more = map-append (λ r. r.0) rows ((n, f) ∷ [])

  facts_more : map (λ r. r.1) (rows ++ (n, f) ∷ []) ≡ map (λ r. r.1) rows ++ f ∷ []
  facts_more = map-append (λ r. r.1) rows ((n, f) ∷ [])

  kept_more : Keeps types more
  kept_more = keeps_push types (made names types n)

  made_more : (m : Node) → Fits names types m → made names more m ≡ made names types m
  made_more m p = made_kept names names types more (keeps_same names) kept_more m p

  -- what holds of the nodes that were there and of the new one holds of all
  each_node : (P : ℕ → Node → Type 0) → ((i : ℕ) (m : Node) → slice_get (nodes_of rows) i ≡ Some m → P i m) → P (length (nodes_of rows)) n →
      (i : ℕ) (m : Node) → slice_get (map (λ r. r.0) (rows ++ (n, f) ∷ [])) i ≡ Some m → P i m
  each_node P old new i m e = by (get_push (nodes_of rows) n i m (subst (λ ns. slice_get ns i ≡ Some m) nodes_more e))
    where
      by : (slice_get (nodes_of rows) i ≡ Some m) ⊎ ((i ≡ length (nodes_of rows)) × (m ≡ n)) → P i m
      by (inl p) = old i m p
      by (inr p) = subst (λ k. P k m) (sym p.0) (subst (P (length (nodes_of rows))) (sym p.1) new)

  fits_pushed : (i : ℕ) (m : Node) → slice_get (map (λ r. r.0) (rows ++ (n, f) ∷ [])) i ≡ Some m → Fits names more m
  fits_pushed = each_node (λ i m. Fits names more m) (λ i m p. fits_kept names names types more (keeps_same names) kept_more m (sound.fits i m p))
      (fits_kept names names types more (keeps_same names) kept_more n fits)

  last_more : slice_get more (length (nodes_of rows)) ≡ Some (made names types n)
  last_more = ap (slice_get more) (sym (length_types names (nodes_of rows))) ∙ get_last types (made names types n)

  holds_pushed : (i : ℕ) (m : Node) → slice_get (map (λ r. r.0) (rows ++ (n, f) ∷ [])) i ≡ Some m → slice_get more i ≡ Some (made names more m)
  holds_pushed = each_node (λ i m. slice_get more i ≡ Some (made names more m))
      (λ i m p. keeps_get types more kept_more i (made names types m) (sound.holds i m p) ∙ ap Some (sym (made_more m (sound.fits i m p))))
      (last_more ∙ ap Some (sym (made_more n fits)))

  known_pushed : IsKnown more (made names types n) f → (i : ℕ) (g : Fact) → slice_get (map (λ r. r.1) (rows ++ (n, f) ∷ [])) i ≡ Some g → IsKnown more (type_at more i) g
  known_pushed known i g e = by (get_push (map (λ r. r.1) rows) f i g (subst (λ fs. slice_get fs i ≡ Some g) facts_more e))
    where
      by : (slice_get (map (λ r. r.1) rows) i ≡ Some g) ⊎ ((i ≡ length (map (λ r. r.1) rows)) × (g ≡ f)) → IsKnown more (type_at more i) g
      by (inl p) =
          let within : i < length types = subst (λ k. i < k) (length-map rows (λ r. r.1) ∙ sym (length_rows names rows)) (slice_get_within (map (λ r. r.1) rows) i g p) in
          subst (λ t. IsKnown more t g) (sym (type_kept types more kept_more i within)) (known_kept types more kept_more (type_at types i) g (sound.known i g p))
      by (inr p) =
          let place : i ≡ length (nodes_of rows) = p.0 ∙ length-map rows (λ r. r.1) ∙ sym (length-map rows (λ r. r.0)) in
          subst (λ t. IsKnown more t g) (sym (ap (type_at more) place ∙ at_type more (length (nodes_of rows)) (made names types n) last_more))
          (subst (IsKnown more (made names types n)) (sym p.1) known)

  pub sound_pushed : length rows < 4294967295 → (IsIn (types_of names (map (λ r. r.0) rows)) (made names (types_of names (map (λ r. r.0) rows)) n) → ⊥) →
      IsKnown (types_of names (map (λ r. r.0) rows) ++ made names (types_of names (map (λ r. r.0) rows)) n ∷ []) (made names (types_of names (map (λ r. r.0) rows)) n) f →
      IsSound names (rows ++ (n, f) ∷ [])
  sound_pushed room absent known =
      let count : length (rows ++ (n, f) ∷ []) ≡ length rows + 1 = length-append rows ((n, f) ∷ []) in
      record {
        small = omega arith;
        names_once = sound.names_once;
        once = subst IsOnce (sym types_pushed) (once_push types (made names types n) sound.once absent);
        fits = λ i m e. subst (λ ts. Fits names ts m) (sym types_pushed) (fits_pushed i m e);
        holds = λ i m e. subst (λ ts. slice_get ts i ≡ Some (made names ts m)) (sym types_pushed) (holds_pushed i m e);
        known = λ i g e. subst (λ ts. IsKnown ts (type_at ts i) g) (sym types_pushed) (known_pushed known i g e);
      }

-- what is said where there is nothing
pub none_then : {A : Type 0} (o : Option A) {P Q : Type 0} → IfNone o P → (P → Q) → IfNone o Q
none_then None p f = f p
none_then (Some x) p f = tt

-- what was added stands at the end
pub placed : {E : Type 0} (r : Result ℕ E) (old new : List Tau) (t u : Tau) → IfOk r (λ at. at ≡ length old) → OnOk r (new ≡ old ++ t ∷ []) → t ≡ u → IfOk r (λ at. slice_get new at ≡ Some u)
placed (Ok at) old new t u e f g = ap (slice_get new) e ∙ ap (λ ts. slice_get ts (length old)) f ∙ get_last old t ∙ ap Some g
placed (Err x) old new t u e f g = tt
