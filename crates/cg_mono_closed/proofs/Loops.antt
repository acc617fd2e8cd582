-- What is left of a list as a loop goes over it.
use Rattle.std.proofs.Common.{◌≡◌, ℕ, ◌+◌, ◌<◌, ◌≤◌, Bool, true, false, ◌&&◌, List, [], ◌∷◌, length, map, drop, get_or, refl, sym, ap, ◌∙◌, arith, add-one, drop-cons}
use Rattle.std.specs.List.{list_all}
use Rattle.std.proofs.lemmas.List.{drop_all}
use Rattle.cg_base.specs.declared.ty.Part.{Part}
use Rattle.cg_base.specs.declared.ty.Ty.{Ty}
use Rattle.cg_base.proofs.Views.{piece_of}
use Rattle.cg_base.specs.Types.{Piece, part_of, to_parts, to_taus, type_of}
use Rattle.cg_mono_closed.specs.Closed.{closed, closed_all, closed_parts}

-- the next item, and what is left behind it
next : {A : Type 0} (xs : List A) (i : ℕ) (x : A) → i < length xs → x ≡ get_or xs i x → drop i xs ≡ x ∷ drop (i + 1) xs
next xs i x within is = let e : drop i xs ≡ get_or xs i x ∷ drop (i + 1) xs = rw add-one (drop-cons xs i x within) in e ∙ ap (λ y. y ∷ drop (i + 1) xs) (sym is)

-- A test of all that is left, which an item decides or leaves to those behind it. `all` tests a list, and `one` an item of it.
module _ {A : Type 0} (all : List A → Bool) (one : A → Bool) (none_left : all [] ≡ true) (splits : (x : A) (xs : List A) → all (x ∷ xs) ≡ one x && all xs) (xs : List A) where
  decided : (i : ℕ) (x : A) → i < length xs → x ≡ get_or xs i x → one x ≡ false → all xs ≡ all (drop i xs) → false ≡ all xs
  decided i x within is fails so_far = sym (so_far ∙ ap all (next xs i x within is) ∙ splits x (drop (i + 1) xs) ∙ ap (λ b. b && all (drop (i + 1) xs)) fails)

  left_over : (i : ℕ) (x : A) → i < length xs → x ≡ get_or xs i x → one x ≡ true → all xs ≡ all (drop i xs) → all xs ≡ all (drop (i + 1) xs)
  left_over i x within is holds so_far = so_far ∙ ap all (next xs i x within is) ∙ splits x (drop (i + 1) xs) ∙ ap (λ b. b && all (drop (i + 1) xs)) holds

  at_end : (i : ℕ) → length xs ≤ i → all xs ≡ all (drop i xs) → true ≡ all xs
  at_end i over so_far = sym (so_far ∙ ap all (drop_all i xs over) ∙ none_left)

-- types, parts of types, and what a function sees of items
abbrev pub types_closed : List Ty → Bool
types_closed ts = closed_all (to_taus (map type_of ts))

abbrev pub parts_closed : List Part → Bool
parts_closed ps = closed_parts (to_parts (map part_of ps))

abbrev pub seen_by : {A B : Type 0} → (B → Bool) → (A → B) → List A → Bool
seen_by P f xs = list_all P (map f xs)

types_split : (t : Ty) (ts : List Ty) → types_closed (t ∷ ts) ≡ closed (type_of t) && types_closed ts
unfolding to_taus
types_split t ts = refl

parts_split : (p : Part) (ps : List Part) → parts_closed (p ∷ ps) ≡ closed (type_of p.ty) && parts_closed ps
unfolding to_parts
parts_split p ps = ap (λ (q : Piece). closed q.ty && parts_closed ps) (piece_of p)

no_types : types_closed [] ≡ true
unfolding to_taus
no_types = refl

no_parts : parts_closed [] ≡ true
unfolding to_parts
no_parts = refl

module _ (ts : List Ty) where
  pub type_decided : (i : ℕ) (x : Ty) → i < length ts → x ≡ get_or ts i x → closed (type_of x) ≡ false → types_closed ts ≡ types_closed (drop i ts) → false ≡ types_closed ts
  type_decided = decided (types_closed) (λ x. closed (type_of x)) no_types types_split ts

  pub type_left : (i : ℕ) (x : Ty) → i < length ts → x ≡ get_or ts i x → closed (type_of x) ≡ true → types_closed ts ≡ types_closed (drop i ts) → types_closed ts ≡ types_closed (drop (i + 1) ts)
  type_left = left_over (types_closed) (λ x. closed (type_of x)) no_types types_split ts

  pub types_end : (i : ℕ) → length ts ≤ i → types_closed ts ≡ types_closed (drop i ts) → true ≡ types_closed ts
  types_end = at_end (types_closed) (λ x. closed (type_of x)) no_types types_split ts

module _ (ps : List Part) where
  pub part_decided : (i : ℕ) (x : Part) → i < length ps → x ≡ get_or ps i x → closed (type_of x.ty) ≡ false → parts_closed ps ≡ parts_closed (drop i ps) → false ≡ parts_closed ps
  part_decided = decided (parts_closed) (λ x. closed (type_of x.ty)) no_parts parts_split ps

  pub part_left : (i : ℕ) (x : Part) → i < length ps → x ≡ get_or ps i x → closed (type_of x.ty) ≡ true → parts_closed ps ≡ parts_closed (drop i ps) → parts_closed ps ≡ parts_closed (drop (i + 1) ps)
  part_left = left_over (parts_closed) (λ x. closed (type_of x.ty)) no_parts parts_split ps

  pub parts_end : (i : ℕ) → length ps ≤ i → parts_closed ps ≡ parts_closed (drop i ps) → true ≡ parts_closed ps
  parts_end = at_end (parts_closed) (λ x. closed (type_of x.ty)) no_parts parts_split ps

module _ {A B : Type 0} (P : B → Bool) (f : A → B) (xs : List A) where
  pub item_decided : (i : ℕ) (x : A) → i < length xs → x ≡ get_or xs i x → P (f x) ≡ false → seen_by P f xs ≡ seen_by P f (drop i xs) → false ≡ seen_by P f xs
  item_decided = decided (seen_by P f) (λ x. P (f x)) refl (λ x ys. refl) xs

  pub item_left : (i : ℕ) (x : A) → i < length xs → x ≡ get_or xs i x → P (f x) ≡ true → seen_by P f xs ≡ seen_by P f (drop i xs) → seen_by P f xs ≡ seen_by P f (drop (i + 1) xs)
  item_left = left_over (seen_by P f) (λ x. P (f x)) refl (λ x ys. refl) xs

  pub items_end : (i : ℕ) → length xs ≤ i → seen_by P f xs ≡ seen_by P f (drop i xs) → true ≡ seen_by P f xs
  items_end = at_end (seen_by P f) (λ x. P (f x)) refl (λ x ys. refl) xs
