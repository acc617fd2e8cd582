-- The structs of a table are declared as the types say.
use Rattle.std.proofs.Common.{◌≡◌, ℕ, zero, suc, ◌+◌, ◌^◌, ◌<◌, ◌≤◌, Bool, true, false, ◌||◌, cond, get_or, Some, List, [], ◌∷◌, length, map, slice_get, refl, sym, ap, ◌∙◌, subst, arith, bytes_eq, ◌⊎◌, inl, inr}
use Rattle.std.proofs.lemmas.Option.{slice_get-get_or, slice_get_within}
use Rattle.std.specs.List.{Contains}
use Rattle.cg_base.specs.declared.kind.Sigil.TheVariants.{R, W, U}
use Rattle.cg_base.specs.declared.kind.Word.TheVariants.{U8, U32}
use Rattle.cg_base.specs.Same.{same_type}
use Rattle.cg_base.specs.Types.{Tau, word, abs, variant, fields, Parts, end, part}
use Rattle.cg_inst.proofs.SameType.{same_is}
use Rattle.cg_cmachine_def.specs.Layouts.{declared as looked_up, holds_itself, members_in, structs_among}
use Rattle.cg_cmachine_laws.proofs.LayoutLaws.{no_circle}
use Rattle.cg_ctree.specs.declared.tree.CDecl.{CDecl}
use Rattle.cg_ctree.specs.declared.tree.CStruct.{CStruct}
use Rattle.cg_ctree.specs.declared.tree.CTy.{CTy}
use Rattle.cg_ctree.specs.declared.tree.CTy.TheVariants as ty
use Rattle.cg_cgen_def.specs.Names.{declared, name, struct_name, tag_name}
use Rattle.cg_lower_def.specs.CTypes.{AreDeclared, c_type, form, form_parts, IsDeclared, members_from, record_members, record_struct, variant_members, variant_struct}
use Rattle.cg_lower_def.specs.Structs.{AreCovered, CoveredAreDeclared, HasBelow, IsCovered, IsTable, is_in, numbered_in, StandBelow, struct_members, structs_from, structs_in}
use Rattle.cg_lower_laws.proofs.Names.{apart}
use Rattle.cg_base.proofs.Sequences.{itself}
use Rattle.cg_base.proofs.Options.{some_is}
use Rattle.cg_base.proofs.Truths.{cond_true as if_true}

-- ---- C sees no more of a type than its form

module _ (numbered : Tau → ℕ) where
  -- the C type of a form
  abbrev of_form : Tau → CTy
  of_form (word w) = ty.Word w
  of_form (abs x args sigil) = ty.Pointer x
  of_form (variant ps) = ty.Struct (struct_name (numbered (variant ps)))
  of_form (fields ps U) = ty.Struct (struct_name (numbered (fields ps U)))
  of_form (fields ps R) = ty.Pointer (struct_name (numbered (fields ps U)))
  of_form (fields ps W) = ty.Pointer (struct_name (numbered (fields ps U)))
  of_form _ = ty.Word U8

  -- what C sees of a type is in its form
  by_form : (t : Tau) → c_type numbered t ≡ of_form (form t)
  unfolding form
  by_form (fields ps U) = refl
  by_form (fields ps R) = refl
  by_form (fields ps W) = refl
  by_form _ = refl

  -- the members for the parts of a form
  abbrev from_form : ℕ → ℕ → Parts → List CDecl
  from_form letter i end = []
  from_form letter i (part x t taken ps) = declared (of_form t) (name letter i) ∷ from_form letter (suc i) ps

  -- and the members for parts are those for their forms
  members_by_form : (letter i : ℕ) (ps : Parts) → members_from numbered letter i ps ≡ from_form letter i (form_parts ps)
  unfolding form
  members_by_form letter i end = refl
  members_by_form letter i (part x t taken ps) = let first = by_form t in let rest = members_by_form letter (suc i) ps in cc

  -- parts of one form have the same members
  same_members : (letter i : ℕ) (ps qs : Parts) → form_parts ps ≡ form_parts qs → members_from numbered letter i ps ≡ members_from numbered letter i qs
  same_members letter i ps qs e = members_by_form letter i ps ∙ ap (from_form letter i) e ∙ sym (members_by_form letter i qs)

-- ---- tests and lists

pub if_false : {A : Type 0} (b : Bool) (x y : A) → b ≡ false → cond b x y ≡ y
if_false true x y e = absurd (cc)
if_false false x y e = refl

-- what a list contains is its first item or stands behind it
first_or_later : (x : List ℕ) (xs : List (List ℕ)) (y : List ℕ) → Contains (x ∷ xs) y → (x ≡ y) ⊎ Contains xs y
first_or_later x xs y c = by_index c.0 c.1 c.2
  where
    by_index : (i : ℕ) → i < length (x ∷ xs) → get_or (x ∷ xs) i y ≡ y → (x ≡ y) ⊎ Contains xs y
    by_index zero lt e = inl e
    by_index (suc i) lt e = inr (i, omega arith, e)

-- ---- numbers

-- the type that a number is for has the form that was looked for
at_number : (f : Tau) (table : List Tau) → is_in table f ≡ true → (t : Tau) × (slice_get table (numbered_in table f) ≡ Some t) × (form t ≡ f)
unfolding numbered_in
at_number f [] e = absurd (cc)
at_number f (u ∷ us) e = by_test (same_type (form u) f) refl e (at_number f us)
  where
    by_test : (b : Bool) → same_type (form u) f ≡ b → (b || is_in us f) ≡ true → (is_in us f ≡ true → (t : Tau) × (slice_get us (numbered_in us f) ≡ Some t) × (form t ≡ f))
        → (t : Tau) × (slice_get (u ∷ us) (cond b zero (suc (numbered_in us f))) ≡ Some t) × (form t ≡ f)
    by_test true same e rest = (u, refl, same_is (form u) f same)
    by_test false same e rest = rest e

-- ---- structs by their names

-- where the first struct of a name stands
abbrev place_of : List ℕ → List CStruct → ℕ
place_of x [] = zero
place_of x (s ∷ ss) = cond (bytes_eq x s.name) zero (suc (place_of x ss))

-- what stands below a struct is named by a lower number
abbrev IsBelow : ℕ → List ℕ → Type 0
IsBelow i y = (j : ℕ) × (j < i) × (y ≡ struct_name j)

module _ (table : List Tau) where
  -- the struct of a number, and where it stands
  at_name : (k j n : ℕ) (ts : List Tau) (t : Tau) → slice_get ts j ≡ Some t → n ≡ k + j → k + length ts ≤ 2 ^ 64
      → (looked_up (struct_name n) (structs_from table k ts) ≡ struct_members table t) × (place_of (struct_name n) (structs_from table k ts) ≡ j)
  at_name k j n [] t e at few = absurd (cc)
  at_name k zero n (u ∷ ts) t e at few =
      let same : n ≡ k = omega (arith, at) in
      let test = subst (λ i. bytes_eq (struct_name n) (struct_name i) ≡ true) same (itself (struct_name n)) in (
        if_true (bytes_eq (struct_name n) (struct_name k)) _ _ test ∙ ap (struct_members table) (some_is u t e),
        if_true (bytes_eq (struct_name n) (struct_name k)) _ _ test,
      )
  at_name k (suc j) n (u ∷ ts) t e at few =
      let within = slice_get_within ts j t e in
      let test = apart 115 n k (omega (arith, at, few, within)) (omega (arith, few)) (λ same. omega (arith, at, same)) in
      let rest = at_name (suc k) j n ts t e (omega (arith, at)) (omega (arith, few)) in (
        if_false (bytes_eq (struct_name n) (struct_name k)) _ _ test ∙ rest.0,
        if_false (bytes_eq (struct_name n) (struct_name k)) _ _ test ∙ ap suc rest.1,
      )

  -- types of a variant's form have its members
  as_variant : (ps : Parts) (t : Tau) → form t ≡ variant (form_parts ps) → struct_members table t ≡ variant_members (numbered_in table) ps
  unfolding form
  as_variant ps (variant qs) same = ap (λ ds. declared (ty.Word U32) tag_name ∷ ds) (same_members (numbered_in table) 97 0 qs ps (cc))
  as_variant ps (fields qs U) same = absurd (cc)
  as_variant ps (fields qs R) same = absurd (cc)
  as_variant ps (fields qs W) same = absurd (cc)
  as_variant ps _ same = absurd (cc)

  -- and types of an unboxed record's form have its members
  as_record : (ps : Parts) (t : Tau) → form t ≡ fields (form_parts ps) U → struct_members table t ≡ record_members (numbered_in table) ps
  unfolding form
  as_record ps (fields qs U) same = same_members (numbered_in table) 109 0 qs ps (cc)
  as_record ps (fields qs R) same = absurd (cc)
  as_record ps (fields qs W) same = absurd (cc)
  as_record ps _ same = absurd (cc)

  -- a name is that of no struct, or the struct of the name is that of a type
  looked : (x : List ℕ) (k : ℕ) (ts : List Tau) → (looked_up x (structs_from table k ts) ≡ [])
      ⊎ ((j : ℕ) × (t : Tau) × (slice_get ts j ≡ Some t) × (looked_up x (structs_from table k ts) ≡ struct_members table t) × (place_of x (structs_from table k ts) ≡ j))
  looked x k [] = inl refl
  looked x k (u ∷ ts) = by_test (bytes_eq x (struct_name k)) (looked x (suc k) ts)
    where
      by_test : (b : Bool)
          → (looked_up x (structs_from table (suc k) ts) ≡ [])
          ⊎ ((j : ℕ) × (t : Tau) × (slice_get ts j ≡ Some t) × (looked_up x (structs_from table (suc k) ts) ≡ struct_members table t) × (place_of x (structs_from table (suc k) ts) ≡ j))
          → (cond b (struct_members table u) (looked_up x (structs_from table (suc k) ts)) ≡ [])
          ⊎ ((j : ℕ) × (t : Tau) × (slice_get (u ∷ ts) j ≡ Some t) × (cond b (struct_members table u) (looked_up x (structs_from table (suc k) ts)) ≡ struct_members table t)
          × (cond b zero (suc (place_of x (structs_from table (suc k) ts))) ≡ j))
      by_test true rest = inr (zero, u, refl, refl, refl)
      by_test false (inl none) = inl none
      by_test false (inr (j, t, e, is, place)) = inr (suc j, t, e, is, ap suc place)

  -- ---- no struct holds itself

  -- the structs among the members for parts are those that stand below
  among_below : (letter n i : ℕ) (ps : Parts) (y : List ℕ) → StandBelow table i ps → Contains (structs_among (members_from (numbered_in table) letter n ps)) y → IsBelow i y
  unfolding StandBelow
  among_below letter n i end y below c = absurd (omega (arith, c.1))
  among_below letter n i (part x (variant ps) taken qs) y below c =
      elim (first_or_later (variant_struct (numbered_in table) ps) (structs_among (members_from (numbered_in table) letter (suc n) qs)) y c) [
        | inl e ↦ (numbered_in table (variant (form_parts ps)), below.0, sym e)
        | inr later ↦ among_below letter (suc n) i qs y below.1 later
      ]
  among_below letter n i (part x (fields ps U) taken qs) y below c =
      elim (first_or_later (record_struct (numbered_in table) ps) (structs_among (members_from (numbered_in table) letter (suc n) qs)) y c) [
        | inl e ↦ (numbered_in table (fields (form_parts ps) U), below.0, sym e)
        | inr later ↦ among_below letter (suc n) i qs y below.1 later
      ]
  among_below letter n i (part x t taken qs) y below c = among_below letter (suc n) i qs y below c

  -- and so are those among the members of a struct
  members_below : (i : ℕ) (t : Tau) (y : List ℕ) → HasBelow table i t → Contains (structs_among (struct_members table t)) y → IsBelow i y
  members_below i (variant ps) y below c = among_below 97 0 i ps y below c
  members_below i (fields ps sigil) y below c = among_below 109 0 i ps y below c
  members_below i t y below c = absurd below

  module _ (is : IsTable table) where
    -- the name of a number is that of the struct at this place
    place_is : (j : ℕ) (t : Tau) → j < length table → place_of (struct_name j) (structs_in table) ≡ j
    place_is j t lt =
        let few = is.few in
        let at = at_name zero j j table (get_or table j t) (slice_get-get_or table j t lt) (omega arith) (omega (arith, few)) in
        at.1

    -- what a struct holds has a lower place
    falls : (x y : List ℕ) → Contains (structs_among (looked_up x (structs_in table))) y → Contains (map (λ s. s.name) (structs_in table)) y
        → place_of y (structs_in table) < place_of x (structs_in table)
    falls x y c known = elim (looked x zero table) [
      | inl none ↦ absurd (let d = subst (λ ds. Contains (structs_among ds) y) none c in omega (arith, d.1))
      | inr (j, t, e, made, place) ↦
          let b = members_below j t y (is.ordered j t e) (subst (λ ds. Contains (structs_among ds) y) made c) in
          let within = slice_get_within table j t e in
          let lt = b.1 in
          let lower = ap (λ z. place_of z (structs_in table)) b.2 ∙ place_is b.0 t (omega (arith, within, lt)) in
          omega (arith, lower, lt, place)
    ]

    -- so no struct holds itself
    none_holds_itself : (x : List ℕ) → holds_itself (structs_in table) x ≡ false
    none_holds_itself x = no_circle (structs_in table) (λ y. place_of y (structs_in table)) falls x

    -- and all members count
    all_count : (x : List ℕ) → members_in (structs_in table) x ≡ looked_up x (structs_in table)
    all_count x = if_false (holds_itself (structs_in table) x) _ _ (none_holds_itself x)

    -- ---- all structs of a type

    -- the members of the struct of a form are those of the type that its number is for
    members_at : (f : Tau) → is_in table f ≡ true → (t : Tau) × (members_in (structs_in table) (struct_name (numbered_in table f)) ≡ struct_members table t) × (form t ≡ f)
    members_at f e =
        let n = at_number f table e in
        let few = is.few in
        let at = at_name zero (numbered_in table f) (numbered_in table f) table n.0 n.1 (omega arith) (omega (arith, few)) in
        (n.0, all_count (struct_name (numbered_in table f)) ∙ at.0, n.2)

    -- the struct of a variant, and that of a record
    of_variant : (ps : Parts) → is_in table (variant (form_parts ps)) ≡ true → members_in (structs_in table) (variant_struct (numbered_in table) ps) ≡ variant_members (numbered_in table) ps
    of_variant ps e = let m = members_at (variant (form_parts ps)) e in m.1 ∙ as_variant ps m.0 m.2

    of_record : (ps : Parts) → is_in table (fields (form_parts ps) U) ≡ true → members_in (structs_in table) (record_struct (numbered_in table) ps) ≡ record_members (numbered_in table) ps
    of_record ps e = let m = members_at (fields (form_parts ps) U) e in m.1 ∙ as_record ps m.0 m.2

    -- by recursion over the type
    mutual
      unfolding IsDeclared IsCovered

      are_in : (t : Tau) → IsCovered table t → IsDeclared (numbered_in table) (structs_in table) t
      are_in (variant ps) h = (of_variant ps h.0, h.1, all_in ps h.2)
      are_in (fields ps sigil) h = (of_record ps h.0, h.1, all_in ps h.2)
      are_in t h = tt

      all_in : (ps : Parts) → AreCovered table ps → AreDeclared (numbered_in table) (structs_in table) ps
      all_in end h = tt
      all_in (part x t taken ps) h = (are_in t h.0, all_in ps h.1)

pub covered_are_declared : CoveredAreDeclared
covered_are_declared table t is covered = are_in table is t covered
