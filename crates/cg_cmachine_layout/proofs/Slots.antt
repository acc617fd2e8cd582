-- The slots of structs, put in their order.
use Rattle.std.proofs.Common.{◌≡◌, ℕ, zero, suc, ◌+◌, ◌<◌, Bool, true, false, eqb, ◌⊎◌, inl, inr, Some, None, Option, List, [], ◌∷◌, ◌++◌, length, get_or, set, take, map, replicate, refl, sym, ap, ◌∙◌, subst, arith, cond}
use Rattle.std.proofs.lemmas.Bool.{true≢false, eqb-true, eq-eqb}
use Rattle.std.proofs.lemmas.List.{length-map, length-replicate, get_or-map, get_or-set_same, get_or-set_other}
use Rattle.std.proofs.lemmas.List.Elements.{Contains-append_cases}
use Rattle.std.specs.List.{Contains, slice_get}
use Rattle.cg_graphs.proofs.Places.{mention_of}
use Rattle.cg_ctree.specs.declared.tree.CDecl.{CDecl}
use Rattle.cg_ctree.specs.declared.tree.CStruct.{CStruct}
use Rattle.cg_ctree.specs.declared.tree.CTy.{CTy}
use Rattle.cg_ctree.specs.declared.tree.CTy.TheVariants as ty
use Rattle.cg_cmachine_def.specs.Layouts.{declared, empty, group, holds_itself, laid, layout, members_in, size, sizes}
use Rattle.cg_cmachine_layout.specs.Tables.{Indexes, IsSettled, Table, place, size_of, sized, slots, slots_of, targets}
use Rattle.cg_cmachine_laws.proofs.LayoutLaws.{layout_unfolds}
use Rattle.cg_cmachine_layout.proofs.Names.{not_declared, places_within}
use Rattle.cg_cmachine_layout.proofs.Settling.{listed_contains}

-- a struct that isn't declared has no members
no_members : (ss : List CStruct) (x : List ℕ) → declared x ss ≡ [] → members_in ss x ≡ []
no_members ss x e = pick (holds_itself ss x) (declared x ss) e
  where
    pick : (b : Bool) (ds : List CDecl) → ds ≡ [] → cond b [] ds ≡ []
    pick true ds e = refl
    pick false ds e = e

pub empty_layout : (ss : List CStruct) (x : List ℕ) → declared x ss ≡ [] → layout ss (ty.Struct x) ≡ group x empty
empty_layout ss x e = layout_unfolds ss x ∙ ap (λ ds. group x (laid (layout ss) ds)) (no_members ss x e)

no_slots : (ss : List CStruct) (x : List ℕ) → declared x ss ≡ [] → size (layout ss (ty.Struct x)) ≡ 0
unfolding size
no_slots ss x e = ap size (empty_layout ss x e)

module _ (ss : List CStruct) (names : Table) (is : Indexes (map (λ s. s.name) ss) names) where
  -- a type's slots, where those of the struct that it is are right
  pub type_slots : (zs : List ℕ) (t : CTy) → ((x : List ℕ) (at : ℕ) → t ≡ ty.Struct x → place names x ≡ Some at → get_or zs at 0 ≡ size (layout ss (ty.Struct x)))
      → slots_of names zs t ≡ size (layout ss t)
  unfolding size
  type_slots zs (ty.Word w) h = refl
  type_slots zs (ty.Pointer x) h = refl
  type_slots zs (ty.Struct x) h = pick (place names x) refl
    where
      pick : (o : Option ℕ) → place names x ≡ o → size_of zs o ≡ size (layout ss (ty.Struct x))
      pick None e = sym (no_slots ss x (not_declared ss names is x e))
      pick (Some at) e = h x at refl e

  -- members' slots, where those of the structs that they are are right
  members_slots : (zs : List ℕ) (ds : List CDecl) → ((x : List ℕ) (at : ℕ) → Contains (targets names ds) at → place names x ≡ Some at → get_or zs at 0 ≡ size (layout ss (ty.Struct x)))
      → slots names zs ds ≡ sizes (laid (layout ss) ds)
  unfolding size
  members_slots zs [] h = refl
  members_slots zs (d ∷ ds) h = both (here d.ty d.name h) (members_slots zs ds (λ x at c. h x at (there d.ty d.name at c)))
    where
      there : (t : CTy) (z : List ℕ) (at : ℕ) → Contains (targets names ds) at → Contains (targets names (record { ty = t; name = z } ∷ ds)) at
      there (ty.Word w) z at c = c
      there (ty.Pointer x) z at c = c
      there (ty.Struct x) z at c = listed_contains (place names x) at (targets names ds) c

      here : (t : CTy) (z : List ℕ)
          → ((x : List ℕ) (at : ℕ) → Contains (targets names (record { ty = t; name = z } ∷ ds)) at → place names x ≡ Some at → get_or zs at 0 ≡ size (layout ss (ty.Struct x)))
          → slots_of names zs t ≡ size (layout ss t)
      here (ty.Word w) z h = type_slots zs (ty.Word w) (λ x at e. absurd (cc))
      here (ty.Pointer y) z h = type_slots zs (ty.Pointer y) (λ x at e. absurd (cc))
      here (ty.Struct y) z h =
          type_slots zs (ty.Struct y)
          (λ x at e f. let same : y ≡ x = cc in h x at (rw same (rw f (0, omega arith, refl))) f)

      both : {a b c d : ℕ} → a ≡ b → c ≡ d → a + c ≡ b + d
      both e f = cc

  module _ (structs : List (List CDecl)) (order : List ℕ) (settled : IsSettled ss names structs order) where
    -- the sizes of these structs are right
    abbrev Right : List ℕ → List ℕ → Type 0
    Right done zs = (x : List ℕ) (at : ℕ) → Contains done at → place names x ≡ Some at → get_or zs at 0 ≡ size (layout ss (ty.Struct x))

    structs_within : (x : List ℕ) (at : ℕ) → place names x ≡ Some at → at < length structs
    structs_within x at e = subst (λ n. at < n) (sym settled.long) (places_within ss names is x at e)

    -- one struct more
    value_right : (before rest : List ℕ) (at : ℕ) (zs : List ℕ) → order ≡ before ++ at ∷ rest → Right before zs → (x : List ℕ) → place names x ≡ Some at
        → slots names zs (get_or structs at []) ≡ size (layout ss (ty.Struct x))
    unfolding size
    value_right before rest at zs e right x f =
        members_slots zs (get_or structs at []) (λ y j c g. right y j (stands j c) g) ∙ ap (λ ds. sizes (laid (layout ss) ds)) (settled.counts x at f) ∙ sym (ap size (layout_unfolds ss x))
      where
        here : (before rest : List ℕ) → slice_get (before ++ at ∷ rest) (length before) ≡ Some at
        here [] rest = refl
        here (b ∷ before) rest = here before rest

        prefix : (before rest : List ℕ) → take (length before) (before ++ rest) ≡ before
        prefix [] rest = refl
        prefix (b ∷ before) rest = ap (λ l. b ∷ l) (prefix before rest)

        stands : (j : ℕ) → Contains (targets names (get_or structs at [])) j → Contains before j
        stands j c =
            subst (λ l. Contains l j) (ap (take (length before)) e ∙ prefix before (at ∷ rest))
            (settled.ordered.behind (length before) at j (ap (λ l. slice_get l (length before)) e ∙ here before rest)
            (mention_of (map (targets names) structs) at j (subst (λ l. Contains l j) (sym (get_or-map (targets names) structs at [] [] (structs_within x at f))) c)))

    put_right : (before rest : List ℕ) (at : ℕ) (zs : List ℕ) → order ≡ before ++ at ∷ rest → length zs ≡ length structs → Right before zs
        → Right (before ++ at ∷ []) (set zs at (slots names zs (get_or structs at [])))
    put_right before rest at zs e long right x j c f = pick (eqb j at) refl
      where
        apart : eqb j at ≡ false → Contains before j ⊎ Contains (at ∷ []) j → Contains before j
        apart e (inl c) = c
        apart e (inr c) = absurd (true≢false (sym (eq-eqb j at (only c.0 c.1 c.2)) ∙ e))
          where
            only : (k : ℕ) → k < length (at ∷ []) → get_or (at ∷ []) k j ≡ j → j ≡ at
            only zero lt e = sym e
            only (suc k) lt e = absurd (omega arith)

        pick : (b : Bool) → eqb j at ≡ b → get_or (set zs at (slots names zs (get_or structs at []))) j 0 ≡ size (layout ss (ty.Struct x))
        pick true here =
            let same : j ≡ at = eqb-true j at here in
            let g : place names x ≡ Some at = f ∙ ap Some same in
            ap (λ i. get_or (set zs at (slots names zs (get_or structs at []))) i 0) same
            ∙ get_or-set_same zs at (slots names zs (get_or structs at [])) 0 (subst (λ n. at < n) (sym long) (structs_within x at g)) ∙ value_right before rest at zs e right x g
        pick false other =
            get_or-set_other zs at j (slots names zs (get_or structs at [])) 0 (λ same. true≢false (sym (eq-eqb j at same) ∙ other))
            ∙ right x j (apart other (Contains-append_cases before (at ∷ []) j c)) f

    length_set : {A : Type 0} (xs : List A) (i : ℕ) (y : A) → length (set xs i y) ≡ length xs
    length_set [] i y = refl
    length_set (x ∷ xs) zero y = refl
    length_set (x ∷ xs) (suc i) y = ap suc (length_set xs i y)

    all_right : (before rest : List ℕ) (zs : List ℕ) → order ≡ before ++ rest → length zs ≡ length structs → Right before zs → Right order (sized names structs zs rest)
    all_right before [] zs e long right = λ x at c. right x at (subst (λ l. Contains l at) (e ∙ nothing before) c)
      where
        nothing : (xs : List ℕ) → xs ++ [] ≡ xs
        nothing [] = refl
        nothing (x ∷ xs) = ap (λ l. x ∷ l) (nothing xs)
    all_right before (at ∷ rest) zs e long right =
        all_right (before ++ at ∷ []) rest (set zs at (slots names zs (get_or structs at []))) (e ∙ moved before)
        (length_set zs at (slots names zs (get_or structs at [])) ∙ long) (put_right before rest at zs e long right)
      where
        moved : (xs : List ℕ) → xs ++ at ∷ rest ≡ (xs ++ at ∷ []) ++ rest
        moved [] = refl
        moved (x ∷ xs) = ap (λ l. x ∷ l) (moved xs)

    pub sized_right : (x : List ℕ) (at : ℕ) → place names x ≡ Some at → get_or (sized names structs (replicate (length structs) 0) order) at 0 ≡ size (layout ss (ty.Struct x))
    sized_right x at e =
        all_right [] order (replicate (length structs) 0) refl (length-replicate (length structs) 0) (λ y j c f. let lt = c.1 in absurd (omega arith)) x at
        (settled.ordered.whole at (subst (λ n. at < n) (sym (length-map structs (targets names))) (structs_within x at e))) e
